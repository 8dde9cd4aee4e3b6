-- What a call that comes next weighs, where some answer lets it be entered.
use Rattle.std.specs.Prelude.{◌≡◌, ◌↔◌, ◌≤◌, ◌<◌, ℕ, zero, suc, ◌+◌, ◌/◌, [], Bool, true, ◌==◌, if◌then◌else◌}
use Rattle.ocr_body_meaning.specs.declared.call.Call as body
use Rattle.ocr_body_meaning.specs.declared.call.Call.TheVariants as call
use Rattle.ocr_body_meaning.specs.declared.call.Answer.{Answer}
use Rattle.ocr_body_meaning.specs.Holds.{is_done}
use Rattle.ocr_machine_history.specs.Weight.{call_weight}
use Rattle.ocr_machine_parts.specs.Kinds.{IsBlock, mode_on, home_on}
use Rattle.ocr_machine_parts.specs.Parts.{Parts}
use Rattle.ocr_machine_parts.specs.LegalOn.{IsFresh, IsShared, IsAtHome, IsCallOn}

-- so many numbers above one, in rising order, that nothing has yet
abbrev pub HasRoomAbove : ℕ → Parts → (least count : ℕ) → Type 0
HasRoomAbove limit f least zero = Unit {0}
HasRoomAbove limit f least (suc count) =
    (g : ℕ) × (least < g) × IsFresh limit f g × HasRoomAbove limit f g count

abbrev pub HasRoom : ℕ → Parts → ℕ → Type 0
HasRoom limit f count = HasRoomAbove limit f 0 count

-- there are as many as this, and no more
abbrev pub IsRoom : ℕ → Parts → ℕ → Type 0
IsRoom limit f room = (count : ℕ) → (count ≤ room) ↔ HasRoom limit f count

-- how many numbers an EDT takes, with its scope and its output event
abbrev pub one_more : Bool → ℕ → ℕ
one_more on count = if on then suc count else count

abbrev pub edt_numbers : ℕ → Bool → ℕ
edt_numbers flags output = suc (one_more (flags == 1) (one_more output 0))

-- some answer lets it be entered, where it is accepted or not
abbrev pub IsRoomy : (room count : ℕ) → Bool → Type 0
IsRoomy room count done = done ≡ true → count ≤ room

abbrev pub HasAnswer : Parts → ℕ → ℕ → body.Call → Bool → Type 0
HasAnswer f room t (call.Print v) done = Unit {0}
HasAnswer f room t (call.Load d k) done = IsBlock (f.face d) (IsShared t k (mode_on (f.core t) d))
HasAnswer f room t (call.Store d k v) done =
    IsBlock (f.face d) (IsShared t k (mode_on (f.core t) d))
HasAnswer f room t (call.TemplateCreate function pc dc) done = IsRoomy room 1 done
HasAnswer f room t (call.EdtCreate from pc params dc deps flags output) done =
    IsRoomy room (edt_numbers flags output) done × IsAtHome f t (home_on (f.core t)) done
HasAnswer f room t (call.DbCreate n fl) done = IsRoomy room 1 done
HasAnswer f room t (call.DbRelease d) done = Unit {0}
HasAnswer f room t (call.DbDestroy d) done = Unit {0}
HasAnswer f room t (call.TemplateDestroy x) done = Unit {0}
HasAnswer f room t (call.AddDependence from x i m) done = Unit {0}
HasAnswer f room t (call.EventCreate k fl) done = IsRoomy room 1 done
HasAnswer f room t (call.EventCreateParams k fl most sats deps) done = IsRoomy room 1 done
HasAnswer f room t (call.EventDestroy e) done = Unit {0}
HasAnswer f room t (call.Satisfy e p slot) done = Unit {0}
HasAnswer f room t other done = ⊥

-- what it weighs, where a call that is accepted ends a hold of so many writes
abbrev pub weighs_by : body.Call → Bool → ℕ
weighs_by (call.DbCreate n fl) done = if done then 1 + n / 8 / 16 else 1
weighs_by other done = 1

abbrev pub weighs : body.Call → Bool → ℕ → ℕ
weighs c done count = weighs_by c done + (if done then count else 0)

-- its weight with this answer
abbrev pub weight_with : body.Call → ℕ → Answer → ℕ
weight_with c count a = call_weight c a + (if is_done a.code then count else 0)

-- some answer lets it be entered with this weight
abbrev pub CanWeigh : ℕ → Parts → ℕ → body.Call → ℕ → ℕ → Type 0
CanWeigh limit f t c count weight =
    (home : ℕ) × (a : Answer) × IsCallOn limit f t home c a [] × (weight_with c count a ≡ weight)
