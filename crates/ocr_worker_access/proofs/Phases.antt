-- The core that stands first at hand goes on to the next phase of its EDT.
use Rattle.std.proofs.Common.{◌≡◌, ℕ, ◌+◌, ◌≤◌, Bool, true, false, ◌==◌, if◌then◌else◌, List, [], ◌∷◌, length, Option, Some, None, refl, ap, sym, ◌∙◌, subst, arith}
use Rattle.std.proofs.lemmas.Bool.{eqb-true}
use Rattle.std.proofs.lemmas.Grind.{common_steps}
use Rattle.ocr_base.proofs.Booleans.{same as number_same}
use Rattle.ocr_body_code.specs.declared.checked.Checked.{Checked}
use Rattle.ocr_machine_history.specs.declared.entry.Entry.{Entry}
use Rattle.ocr_machine_parts.specs.declared.part.Core.{Core}
use Rattle.ocr_machine_parts.specs.declared.part.Part.{Part}
use Rattle.ocr_machine_parts.specs.declared.part.Part.TheVariants as part
use Rattle.ocr_machine_parts.specs.Progress.{with_core}
use Rattle.ocr_machine_parts.specs.Kinds.{is_block, on_core}
use Rattle.ocr_machine_parts.specs.Messages.{payload_of_end}
use Rattle.ocr_machine_parts.specs.Parts.{Parts}
use Rattle.ocr_machine_parts.specs.Taken.{as_face, face_in, is_within, look, parts_in}
use Rattle.ocr_turns_rule.specs.Contract.{SameRoom}
use Rattle.ocr_turns_rule.specs.Live.{raising}
use Rattle.ocr_turns_rule.specs.Steps.{deed, logged}
use Rattle.ocr_turns_rule.specs.Sums.{find, keys, one_at, replace, weigh}
use Rattle.ocr_worker_machine.specs.Clerks.{OcrTerms, OcrView}
use Rattle.ocr_worker_machine.specs.Ocr.{meaning}
use Rattle.ocr_worker_clerk.specs.Entry.{PlannedParts, OcrKnown}
use Rattle.ocr_worker_clerk.specs.Work.{AtWork, EntersAs, EntersKept, OcrTable, Stays, in_hand}
use Rattle.ocr_worker_clerk.proofs.Goes.{stays_self}
use Rattle.ocr_worker_clerk.proofs.Whole.{entered_whole, lifted_work, stays_from}
use Rattle.ocr_worker_access.specs.Access.{StepsFirst, first_in}
use Rattle.ocr_worker_clerk.proofs.Puts.{core_same as same_core}

abbrev Hands : Type 0
Hands = List (ℕ × Option Part)

-- THE PART that stands first
pub found_first : (place : ℕ) (x : Option Part) (rest : Hands) → find place ((place, x) ∷ rest) ≡ Some x
found_first place x rest = rw (number_same place) refl

pub replaced_first : (place : ℕ) (x y : Option Part) (rest : Hands) → replace place y ((place, x) ∷ rest) ≡ (place, y) ∷ rest
replaced_first place x y rest = rw (number_same place) refl

pub core_found : (place : ℕ) (ps : Hands) (core : Core) (rest : Hands) → ps ≡ (place, Some (part.Core core)) ∷ rest → find place ps ≡ Some (Some (part.Core core))
core_found place ps core rest is = ap (find place) is ∙ found_first place (Some (part.Core core)) rest

abbrev part_or : Part → Option (Option Part) → Part
part_or none (Some (Some x)) = x
part_or none other = none

pub found_core : (place : ℕ) (ps : Hands) (core : Core) (rest : Hands) (x : Part) → ps ≡ (place, Some (part.Core core)) ∷ rest → find place ps ≡ Some (Some x) → x ≡ part.Core core
found_core place ps core rest x is found = ap (part_or x) (sym found ∙ core_found place ps core rest is)

abbrev core_or : Core → Part → Core
core_or none (part.Core c) = c
core_or none other = none

abbrev rest_of : Hands → Hands
rest_of [] = []
rest_of (x ∷ rest) = rest

-- it was lifted, and put back
lifted_is : (place : ℕ) (old mid : Hands) (core : Core) (rest : Hands) → old ≡ (place, Some (part.Core core)) ∷ rest → mid ≡ replace place None old → mid ≡ (place, None) ∷ rest
lifted_is place old mid core rest is lifted = lifted ∙ (ap (replace place None) is ∙ replaced_first place (Some (part.Core core)) None rest)

pub to_put : (place : ℕ) (old mid : Hands) (core : Core) (rest : Hands) → old ≡ (place, Some (part.Core core)) ∷ rest → mid ≡ replace place None old → find place mid ≡ Some None
to_put place old mid core rest is lifted = ap (find place) (lifted_is place old mid core rest is lifted) ∙ found_first place None rest

pub first_steps : (place : ℕ) (step : Core → Core) (old mid new : OcrKnown) (core later : Core) (rest : Hands) → old.parts ≡ (place, Some (part.Core core)) ∷ rest → later ≡ step core → mid.parts ≡ replace place None old.parts → (mid.table ≡ old.table) × (mid.view ≡ old.view) × SameRoom old mid
    → new.parts ≡ replace place (Some (part.Core later)) mid.parts → (new.table ≡ mid.table) × (new.view ≡ mid.view) × SameRoom mid new → StepsFirst place step old new
first_steps place step old mid new core later rest is stepped lifted first put second = record {
  table = second.0 ∙ first.0;
  view = second.1 ∙ first.1;
  room = (second.2.0 ∙ first.2.0, second.2.1 ∙ first.2.1, second.2.2 ∙ first.2.2);
  core = λ other more has.
      let same : core ≡ other = same_core core other (ap (λ (l : Hands). first_in l) (sym is ∙ has)) in
      let others : rest ≡ more = ap rest_of (sym is ∙ has) in
      put ∙ (ap (replace place (Some (part.Core later))) (lifted_is place old.parts mid.parts core rest is lifted)
      ∙ (replaced_first place None (Some (part.Core later)) rest
      ∙ (ap (λ (x : Core). (place, Some (part.Core x)) ∷ rest) (stepped ∙ ap step same) ∙ ap (λ (l : Hands). (place, Some (part.Core (step other))) ∷ l) others)));
}

-- AT WORK as before
module _ (place : ℕ) (step : Core → Core) (old new : OcrKnown) (steps : StepsFirst place step old new) where
  pub stepped_stays : Stays old new
  stepped_stays = stays_from old new new steps.table steps.view (stays_self new)

  pub stepped_work : (table : OcrTable) (program : Checked) (core : Core) (rest : Hands) → AtWork table program old → old.parts ≡ (place, Some (part.Core core)) ∷ rest → AtWork table program new
  stepped_work table program core rest work is =
      lifted_work table program old new work steps.table steps.view steps.room
      (ap (λ (l : Hands). length l) (steps.core core rest is) ∙ sym (ap (λ (l : Hands). length l) is))

-- ALL PARTS, where the core of an EDT was changed so
module _ (limit edt : ℕ) (within : is_within limit edt ≡ true) (core : Core) (rest : List (ℕ × Part)) (step : Core → Core) where
  abbrev before : Parts
  before = parts_in limit ((limit + edt, part.Core core) ∷ rest)

  abbrev after : Parts
  after = parts_in limit ((limit + edt, part.Core (step core)) ∷ rest)

  face_same : (n : ℕ) → after.face n ≡ before.face n
  face_same n = elim ((limit + edt) == n) as (λ b. (if is_within limit n then as_face (if b then part.Core (step core) else look rest n) else part.Vacant) ≡ (if is_within limit n then as_face (if b then part.Core core else look rest n) else part.Vacant)) [
    | true ↦ refl
    | false ↦ refl
  ]

  core_same : (u : ℕ) → after.core u ≡ (with_core before edt (on_core (before.core edt) step)).core u
  core_same u = elim (edt == u) as (λ b. (edt == u) ≡ b → after.core u ≡ (with_core before edt (on_core (before.core edt) step)).core u) [
    | true ↦ λ same. subst (λ (k : ℕ). after.core k ≡ (with_core before edt (on_core (before.core edt) step)).core k) (eqb-true edt u same) here
    | false ↦ λ other. else_where other (apart other)
  ] refl
    where
      here : after.core edt ≡ (with_core before edt (on_core (before.core edt) step)).core edt
      here =
          let a : after.core edt ≡ part.Core (step core) = rw (within, number_same (limit + edt)) refl in
          let b : (with_core before edt (on_core (before.core edt) step)).core edt ≡ part.Core (step core) = rw (number_same edt, within, number_same (limit + edt)) refl in
          a ∙ sym b

      apart : (edt == u) ≡ false → ((limit + edt) == (limit + u)) ≡ false
      apart other = grind (arith, common_steps)

      else_where : (edt == u) ≡ false → ((limit + edt) == (limit + u)) ≡ false → after.core u ≡ (with_core before edt (on_core (before.core edt) step)).core u
      else_where other far = rw (other, far) refl

  pub core_steps : after ≡ with_core before edt (on_core (before.core edt) step)
  core_steps = λ i. record { face = λ n. face_same n i; core = λ u. core_same u i }

-- AN ENTRY that names all parts at hand, and was made on them, as of the clerk before the step
pub kept_from : (t : OcrTerms) (old mid new : OcrKnown) (e : Entry) (h : PlannedParts) → mid.view ≡ old.view → keys mid.parts ≡ keys h.parts → keys old.view.parts ≡ keys h.parts → ((p : ℕ) → weigh (one_at p) h.parts ≤ 1) → EntersAs t mid new e h → EntersKept t old new e h
kept_from t old mid new e h view hand kept once enters =
    let r = entered_whole t mid new e h hand (ap (λ (v : OcrView). keys v.parts) view ∙ kept) once enters in
    record {
      number = r.number;
      later = r.later;
      sent = r.sent;
      step = r.step;
      paid = r.paid;
      view = r.view ∙ ap (λ (v : OcrView). logged (raising v r.paid) r.number (deed meaning t.limit v e r.later r.sent)) view;
      kept = r.kept;
      hand = r.hand;
      sees = r.sees;
    }

abbrev item_or : Option Part → Option (Option Part) → Option Part
item_or other (Some a) = a
item_or other None = other

abbrev some_or : Part → Option Part → Part
some_or other (Some c) = c
some_or other None = other

-- A PART at hand is found among those that are at hand
pub look_found : (p : ℕ) (xs : Hands) (x : Part) → find p xs ≡ Some (Some x) → look (in_hand xs) p ≡ x
look_found p [] x found = cc found
look_found p (y ∷ rest) x found = elim (p == y.0) as (λ b. (p == y.0) ≡ b → (if b then Some y.1 else find p rest) ≡ Some (Some x) → look (in_hand (y ∷ rest)) p ≡ x) [
  | true ↦ λ same here. at_it y.1 (eqb-true p y.0 same) (ap (item_or y.1) here)
  | false ↦ λ off there. past_it y.1 (other p y.0 off) (look_found p rest x there)
] refl found
  where
    at_it : (a : Option Part) → p ≡ y.0 → a ≡ Some x → look (in_hand ((y.0, a) ∷ rest)) p ≡ x
    at_it None is same = cc same
    at_it (Some b) is same = subst (λ (n : ℕ). (if y.0 == n then b else look (in_hand rest) n) ≡ x) (sym is) (rw (number_same y.0) (ap (some_or b) same))

    past_it : (a : Option Part) → (y.0 == p) ≡ false → look (in_hand rest) p ≡ x → look (in_hand ((y.0, a) ∷ rest)) p ≡ x
    past_it None off is = is
    past_it (Some b) off is = rw off is

    other : (a b : ℕ) → (a == b) ≡ false → (b == a) ≡ false
    other a b off = grind (arith, common_steps)

face_blocks : (x : Part) → is_block (as_face x) ≡ is_block x
face_blocks (part.Core c) = refl
face_blocks (part.Vacant) = refl
face_blocks (part.Edt s) = refl
face_blocks (part.Block b) = refl
face_blocks (part.Template t) = refl
face_blocks (part.Event e) = refl
face_blocks (part.Scope s) = refl

-- the block that the body returned, by its face at hand
module _ (limit g : ℕ) (xs : Hands) where
  pub none_out : is_within limit g ≡ false → payload_of_end (face_in limit (in_hand xs) g) g ≡ 0
  none_out off = rw off refl

  pub payload_is : (x : Part) → is_within limit g ≡ true → find g xs ≡ Some (Some x) → payload_of_end (face_in limit (in_hand xs) g) g ≡ (if is_block x then g else 0)
  payload_is x on found = rw on (ap (λ (y : Part). if is_block (as_face y) then g else 0) (look_found g xs x found) ∙ ap (λ (b : Bool). if b then g else 0) (face_blocks x))

pub number_within : (limit n : ℕ) → 1 ≤ n → n ≤ limit → is_within limit n ≡ true
number_within limit n some few = grind (arith, common_steps)
