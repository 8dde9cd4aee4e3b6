-- What set a message off, told by the face of the event or scope that sent it.
use Rattle.std.specs.Prelude.{ℕ, List, []}
use Rattle.ocr_event_any.specs.declared.AnyEvent.TheVariants as any
use Rattle.ocr_machine_history.specs.History.{History}
use Rattle.ocr_machine_parts.specs.declared.part.Part.{Part}
use Rattle.ocr_machine_parts.specs.declared.part.Part.TheVariants as part
use Rattle.ocr_memory_model_order.specs.Makers.{satisfies, leaves, oldest}
use Rattle.ocr_memory_model_order.specs.Places.{places}

abbrev pub set_off_on : History → ℕ → List ℕ → Part → List ℕ
set_off_on past x matches (part.Event (any.Plain st)) = oldest (places (satisfies x) past)
set_off_on past x matches (part.Event (any.Latch st)) = places (satisfies x) past
set_off_on past x matches (part.Event (any.Channel st)) = matches
set_off_on past x matches (part.Scope st) = places (leaves x) past
set_off_on past x matches other = []
