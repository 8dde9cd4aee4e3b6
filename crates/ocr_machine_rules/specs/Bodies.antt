-- What the bodies of a run do.
use Rattle.std.specs.Prelude.{ℕ, List, [], ◌∷◌, Bool, ◌&&◌, not, ◌==◌, if◌then◌else◌, map, Option, Some, None}
use Rattle.ocr_acquire.specs.declared.Mode.{Mode}
use Rattle.ocr_acquire.specs.Mode.{is_isolated, is_null}
use Rattle.ocr_slots.specs.Slots as slot
use Rattle.ocr_body_meaning.specs.Behaviour.{Behaviour}
use Rattle.ocr_body_meaning.specs.Holds.{Hold, Holds, no_holds}
use Rattle.ocr_body_meaning.specs.Body.{Body, says}
use Rattle.ocr_body_meaning.specs.declared.fuel.TheConstants.{FUEL}
use Rattle.ocr_machine_history.specs.declared.entry.Entry.TheVariants.{Start}
use Rattle.ocr_machine_history.specs.History.{History, Setting, own}
use Rattle.ocr_machine_history.specs.Made.{made, function_in, params_in, size_in}
use Rattle.ocr_machine_parts.specs.Calls.{link_calls, depc_of, payload_of, payload_or_null, mode_or_null}
use Rattle.ocr_machine_rules.specs.Blocks.{has_found_gone, held, found}

-- DEPV, slot by slot: its payload. A block that the EDT found gone gives NULL_GUID, but in a slot
-- of mode NULL
abbrev pub given_value : (payload : ℕ) → (gone is_null : Bool) → ℕ
given_value p gone null = if gone && not null then 0 else p

abbrev pub value_at : History → ℕ → ℕ → ℕ
value_at past t k =
    given_value (payload_or_null (payload_of past t k))
    (has_found_gone past t (payload_or_null (payload_of past t k)))
    (is_null (mode_or_null (slot.mode_of (link_calls past t) k)))

-- what it holds at its start, as its body knows it: in EW and CONST with the words that it found
abbrev pub first_hold : Option Mode → ℕ → List ℕ → Option Hold
first_hold None size words = None
first_hold (Some m) size words = Some (record {
  mode = m;
  size = size;
  began = if is_isolated m then words else [];
  writes = [];
})

abbrev pub first_holds : Setting → History → ℕ → Holds
first_holds s [] t = no_holds
first_holds s (Start u ∷ past) t =
    if u == t then (λ d. first_hold (held s past t d) (size_in (made s past d)) (found s past t d))
    else first_holds s past t
first_holds s (e ∷ past) t = first_holds s past t

-- the body of the EDT: its function with its parameters, the values of its slots, and what it held
-- at its start
abbrev pub body_of : Setting → History → ℕ → Body
body_of s past t = record {
  program = s.program;
  function = function_in (made s past t);
  params = params_in (made s past t);
  depv = map (λ k. value_at past t k) (slot.slots_of (depc_of s past t));
  holds = first_holds s past t;
  fuel = FUEL;
}

-- what its body does next
abbrev pub says_next : Setting → History → ℕ → Behaviour
says_next s past t = says (body_of s past t) (own past t)
