-- A word of a block that a running EDT shares, by the history that its clerk saw.
use Rattle.std.proofs.Common.{◌≡◌, ◌⊎◌, inl, inr, ℕ, ◌+◌, ◌==◌, nat_lt, Bool, true, false, if◌then◌else◌, List, [], ◌∷◌, reverse, Option, Some, None, refl, sym, ◌∙◌, subst, arith}
use Rattle.std.proofs.lemmas.Grind.{common_steps}
use Rattle.ocr_acquire.specs.declared.Mode.{Mode}
use Rattle.ocr_acquire.specs.declared.Mode.TheVariants as mode
use Rattle.ocr_datablock.specs.Lent.{Loan}
use Rattle.ocr_machine_history.specs.declared.entry.Entry.{Entry}
use Rattle.ocr_body_meaning.specs.Holds.{Refused, Silent, load_of, store_of, word_of}
use Rattle.ocr_body_meaning.specs.declared.call.BodyStop.TheVariants as stop
use Rattle.ocr_machine_parts.specs.declared.loans.Kept.{Kept}
use Rattle.ocr_machine_parts.specs.declared.part.Core.{Core}
use Rattle.ocr_machine_parts.specs.declared.part.Part.{Part}
use Rattle.ocr_machine_parts.specs.declared.part.Part.TheVariants as part
use Rattle.ocr_machine_parts.specs.Bodies.{hold_in, hold_of, holds_in}
use Rattle.ocr_machine_parts.specs.Effects.{settled}
use Rattle.ocr_machine_parts.specs.Kinds.{IsBlock, mode_on}
use Rattle.ocr_machine_parts.specs.Legal.{IsRun}
use Rattle.ocr_machine_parts.specs.LegalOn.{IsLoaded, IsShared}
use Rattle.ocr_machine_parts.specs.Loans.{kept_in, settled_loan}
use Rattle.ocr_machine_parts.specs.Parts.{Parts, parts_of}
use Rattle.ocr_machine_parts.specs.Taken.{as_face, has, is_within, look, place_of, seen}
use Rattle.ocr_machine_parts.proofs.Within.{within_law}
use Rattle.ocr_machine_laws.specs.Plain.{IsEntered}
use Rattle.ocr_machine_laws.proofs.Works.{sharing_law}
use Rattle.ocr_turns_rule.specs.Rule.{Fits}
use Rattle.ocr_worker_machine.specs.Clerks.{AreAtHand, OcrTerms, OcrView, of_terms}
use Rattle.ocr_worker_machine.specs.Ocr.{meaning}
use Rattle.ocr_worker_access.specs.Accesses.{HasWord, word_at}
use Rattle.ocr_worker_access.proofs.Kept.{core_there, kept_settled, settled_kept}
use Rattle.ocr_worker_access.proofs.Parts.{at_hand_of, is_run}

-- AN ENTRY by a hold is one by the hold without what was stored
silent_never : (b : Bool) (value : ℕ) → IsEntered (if b then Silent value else Refused stop.BadIndex) → ⊥
silent_never true value is = is
silent_never false value is = is

load_other : (m : Mode) (size k : ℕ) (o p : Option Loan) → IsEntered (load_of (Some (hold_in m size o)) k) → IsEntered (load_of (Some (hold_in m size p)) k)
load_other mode.Ew size k o p is = absurd (silent_never (nat_lt k size) (word_of (hold_in mode.Ew size o) k) is)
load_other mode.Const size k o p is = absurd (silent_never (nat_lt k size) (word_of (hold_in mode.Const size o) k) is)
load_other mode.Null size k o p is = is
load_other mode.Ro size k o p is = is
load_other mode.Rw size k o p is = is

store_other : (m : Mode) (size k : ℕ) (o p : Option Loan) → IsEntered (store_of (Some (hold_in m size o)) k) → IsEntered (store_of (Some (hold_in m size p)) k)
store_other mode.Ew size k o p is = absurd (silent_never (nat_lt k size) 0 is)
store_other mode.Const size k o p is = absurd is
store_other mode.Null size k o p is = absurd is
store_other mode.Ro size k o p is = absurd is
store_other mode.Rw size k o p is = is

load_settled : (m : Option Mode) (o : Option Kept) (k : ℕ) → IsEntered (load_of (hold_of m o) k) → IsEntered (load_of (hold_of m (settled_kept o)) k)
load_settled None o k is = absurd is
load_settled (Some m) None k is = absurd is
load_settled (Some m) (Some kept) k is = load_other m kept.size k kept.loan (settled_loan kept.loan) is

store_settled : (m : Option Mode) (o : Option Kept) (k : ℕ) → IsEntered (store_of (hold_of m o) k) → IsEntered (store_of (hold_of m (settled_kept o)) k)
store_settled None o k is = absurd is
store_settled (Some m) None k is = absurd is
store_settled (Some m) (Some kept) k is = store_other m kept.size k kept.loan (settled_loan kept.loan) is

abbrev pub EntersBy : Part → ℕ → ℕ → Type 0
EntersBy x d k = IsEntered (load_of (holds_in x d) k) ⊎ IsEntered (store_of (holds_in x d) k)

enters_settled : (core : Core) (d k : ℕ) → EntersBy (part.Core core) d k → EntersBy (settled (part.Core core)) d k
enters_settled core d k (inl is) = inl (subst (λ (o : Option Kept). IsEntered (load_of (hold_of (mode_on (part.Core core) d) o) k)) (sym (kept_settled d core.loans)) (load_settled (mode_on (part.Core core) d) (kept_in d core.loans) k is))
enters_settled core d k (inr is) = inr (subst (λ (o : Option Kept). IsEntered (store_of (hold_of (mode_on (part.Core core) d) o) k)) (sym (kept_settled d core.loans)) (store_settled (mode_on (part.Core core) d) (kept_in d core.loans) k is))

-- THE FACE
face_word : (x : Part) (edt k : ℕ) (m : Option Mode) → IsBlock (as_face x) (IsShared edt k m) → HasWord k x
face_word (part.Block st) edt k m is = (is.exists, is.not_lent)
face_word other edt k m is = absurd is

face_loaded : (x : Part) (edt k value : ℕ) (m : Option Mode) → IsBlock (as_face x) (IsShared edt k m) → value ≡ word_at k x → IsBlock (as_face x) (IsLoaded edt k m value)
face_loaded (part.Block st) edt k value m is word = record { shared = is; word = word }
face_loaded other edt k value m is word = absurd is

some_block : (x : Part) (P : _) → IsBlock x P → x ≡ part.Vacant → ⊥
some_block (part.Block st) P is none = cc none
some_block other P is none = is

module _ (t : OcrTerms) (v : OcrView) (J : List Entry) (fits : Fits meaning t J v) (edt d k : ℕ) (core : Core) (rest : List (ℕ × Part)) (within : is_within t.limit edt ≡ true) (at_hand : AreAtHand t.limit ((t.limit + edt, part.Core core) ∷ rest) v.parts)
    (entered : EntersBy (part.Core core) d k) where
  abbrev hand : List (ℕ × Part)
  hand = (t.limit + edt, part.Core core) ∷ rest

  abbrev its : Parts
  its = parts_of (of_terms t) (reverse J)

  run : IsRun (of_terms t) (reverse J)
  run = is_run t v J fits

  pub shared_there : IsBlock (its.face d) (IsShared edt k (mode_on (its.core edt) d))
  shared_there = sharing_law (of_terms t) (reverse J) edt d k run (subst (λ (x : Part). EntersBy x d k) (sym (core_there t v J fits edt core rest within at_hand)) (enters_settled core d k entered))

  -- the block is within the limit
  pub block_within : is_within t.limit d ≡ true
  block_within = elim (is_within t.limit d) as (λ b. is_within t.limit d ≡ b → b ≡ true) [
    | true ↦ λ _. refl
    | false ↦ λ off. absurd (some_block (its.face d) (IsShared edt k (mode_on (its.core edt) d)) shared_there ((within_law (of_terms t) (reverse J) fits.limits run).faces d off))
  ] refl

  -- and its face is at hand as it is in the history
  face_there : has hand d ≡ true → its.face d ≡ as_face (look hand d)
  face_there here = sym (placed d its block_within) ∙ (at_hand_of t v J fits hand at_hand d here ∙ seen_face d (look hand d) block_within)
    where
      placed : (d : ℕ) (f : Parts) → is_within t.limit d ≡ true → place_of t.limit f d ≡ f.face d
      placed d f is = rw is refl

      seen_face : (d : ℕ) (x : Part) → is_within t.limit d ≡ true → seen t.limit d x ≡ as_face x
      seen_face d x is = rw is refl

  shared_face : has hand d ≡ true → IsBlock (as_face (look hand d)) (IsShared edt k (mode_on (its.core edt) d))
  shared_face here = subst (λ (x : Part). IsBlock x (IsShared edt k (mode_on (its.core edt) d))) (face_there here) shared_there

  pub word_here : has hand d ≡ true → HasWord k (look hand d)
  word_here here = face_word (look hand d) edt k (mode_on (its.core edt) d) (shared_face here)

  pub loaded_there : has hand d ≡ true → (value : ℕ) → value ≡ word_at k (look hand d) → IsBlock (its.face d) (IsLoaded edt k (mode_on (its.core edt) d) value)
  loaded_there here value is =
      subst (λ (x : Part). IsBlock x (IsLoaded edt k (mode_on (its.core edt) d) value)) (sym (face_there here)) (face_loaded (look hand d) edt k value (mode_on (its.core edt) d) (shared_face here) is)

-- THE LIST of the core and the face
pub behind : (limit edt d : ℕ) (core x : Part) → is_within limit edt ≡ true → is_within limit d ≡ true → (has ((limit + edt, core) ∷ (d, x) ∷ []) d ≡ true) × (look ((limit + edt, core) ∷ (d, x) ∷ []) d ≡ x)
behind limit edt d core x one two = let off = apart limit edt d one two in let on = same d in (rw (off, on) refl, rw (off, on) refl)
  where
    apart : (limit edt d : ℕ) → is_within limit edt ≡ true → is_within limit d ≡ true → ((limit + edt) == d) ≡ false
    apart limit edt d one two = grind (arith, common_steps)

    same : (d : ℕ) → (d == d) ≡ true
    same d = grind (arith, common_steps)
