-- The text on the uses of destroyed objects.
use Rattle.std.specs.Prelude.{ℕ, List, [], ◌∷◌, ◌++◌, Bool, length, if◌then◌else◌, codes}
use Rattle.ocr_guid.specs.declared.Code.{Code}
use Rattle.ocr_body_meaning.specs.declared.call.Call as body
use Rattle.ocr_body_meaning.specs.declared.call.Call.TheVariants as call
use Rattle.ocr_machine_history.specs.declared.entry.Entry.{Entry}
use Rattle.ocr_machine_history.specs.declared.entry.Entry.TheVariants as an
use Rattle.ocr_machine_history.specs.declared.entry.What.{What}
use Rattle.ocr_machine_history.specs.declared.entry.What.TheVariants as what
use Rattle.ocr_machine_history.specs.History.{History, Setting}
use Rattle.ocr_machine_history.specs.Stale.{is_stale, stale_uses}
use Rattle.ocr_machine_rules.specs.Events.{is_destroyed}
use Rattle.ocr_journal.specs.Phrase.{Text, phrase}
use Rattle.ocr_report.specs.Headed.{headed}

-- the objects that a call names, in the order of its arguments
abbrev pub objects_of : body.Call → List ℕ
objects_of (call.DbRelease d) = d ∷ []
objects_of (call.DbDestroy d) = d ∷ []
objects_of (call.EventDestroy e) = e ∷ []
objects_of (call.Satisfy e payload slot) = e ∷ payload ∷ []
objects_of (call.AddDependence s x slot mode) = s ∷ x ∷ []
objects_of (call.TemplateDestroy t) = t ∷ []
objects_of (call.EdtCreate t pc ps dc deps fl o) = t ∷ deps
objects_of other = []

-- the first of them that is destroyed, and 0 where none is
abbrev pub first_stale : (ℕ → Bool) → List ℕ → ℕ
first_stale destroyed [] = 0
first_stale destroyed (g ∷ rest) = if destroyed g then g else first_stale destroyed rest

-- a line for a use, and none for any other entry
abbrev pub delivery_line : What → Code → Text
delivery_line (what.Satisfy e slot g) code =
    if is_stale code then phrase (codes "delivery") (e ∷ []) ++ 10 ∷ [] else []
delivery_line other code = []

abbrev pub stale_line : (ℕ → Bool) → Entry → Text
stale_line destroyed (an.Call t home c a w) =
    if is_stale a.code
    then phrase (codes "call") (t ∷ first_stale destroyed (objects_of c) ∷ []) ++ 10 ∷ [] else []
stale_line destroyed (an.Deliver message code) = delivery_line message.what code
stale_line destroyed (an.StaleAcquire t d) = phrase (codes "acquire") (t ∷ d ∷ []) ++ 10 ∷ []
stale_line destroyed other = []

-- the lines of all uses, the oldest first
abbrev pub stale_lines : Setting → History → Text
stale_lines s [] = []
stale_lines s (e ∷ past) =
    stale_lines s past ++ stale_line (is_destroyed s past) e

abbrev pub stale_text : Setting → History → Text
stale_text s past = headed (codes "stale") (length (stale_uses past)) (stale_lines s past)
