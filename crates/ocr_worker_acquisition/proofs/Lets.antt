-- What a block lets an EDT do is told by who holds it and by what it can be granted in.
use Rattle.std.proofs.Common.{◌≡◌, inl, inr, ◌≢◌, ℕ, ◌==◌, if◌then◌else◌, List, Bool, true, false, Option, Some, None, is_some, refl, ap, sym, ◌∙◌, subst}
use Rattle.std.proofs.lemmas.Bool.{eqb-true}
use Rattle.ocr_base.proofs.Booleans.{same as number_same}
use Rattle.ocr_acquire.specs.declared.Mode.{Mode}
use Rattle.ocr_acquire.specs.Mode.{is_null, mode_in}
use Rattle.ocr_datablock.specs.Block as block
use Rattle.ocr_machine_parts.specs.declared.part.Core.{Core}
use Rattle.ocr_machine_parts.specs.declared.part.Part.{Part}
use Rattle.ocr_machine_parts.specs.declared.part.Part.TheVariants as part
use Rattle.ocr_machine_parts.specs.Kinds.{IsBlock}
use Rattle.ocr_machine_parts.specs.LegalOn.{IsRefused, IsTaken}
use Rattle.ocr_slots.specs.declared.Slot.{Slot}
use Rattle.ocr_machine_parts.specs.Readiness.{ready_with}
use Rattle.ocr_worker_acquisition.specs.Block.{LetsSome, StandsAtNext, mode_at, next_by}
use Rattle.ocr_worker_acquisition.specs.Acquisition.{IsAble, IsLet, LetsAny}
use Rattle.ocr_worker_acquisition.specs.declared.act.Act.{Act}
use Rattle.ocr_worker_acquisition.specs.declared.act.Act.TheVariants as act
use Rattle.ocr_worker_clerk.proofs.Puts.{core_same, edt_same}

-- who may take the block holds it, or it can be granted
taken_not_refused : (t : ℕ) (m : Mode) (st : block.State) → IsTaken t m st → IsRefused t m st → ⊥
taken_not_refused t m st taken refused = elim taken.fit [
  | inl held ↦ let none = refused.newcomer.no_holder in cc (held, none)
  | inr granted ↦ let on = granted.grantable in let off = refused.not_grantable in cc (on, off)
]

pub lets_used : (t : ℕ) (m : Mode) (st : block.State) → LetsAny t m st → block.is_gone st ≡ false → mode_in t st.holders ≡ None → is_null m ≡ false
lets_used t m st lets alive none = by lets.0 lets.1
  where
    by : (a : Act) → IsLet a t m st → is_null m ≡ false
    by act.Acquire taken = elim taken.fit [ inl held ↦ cc (held, none) | inr granted ↦ granted.newcomer.some_mode ]
    by act.Pass gone = cc (gone, alive)
    by act.Wait refused = refused.newcomer.some_mode

pub lets_holder : (t : ℕ) (m : Mode) (st : block.State) → LetsAny t m st → block.is_gone st ≡ false → is_some (mode_in t st.holders) ≡ true → IsTaken t m st
lets_holder t m st lets alive held = by lets.0 lets.1
  where
    by : (a : Act) → IsLet a t m st → IsTaken t m st
    by act.Acquire taken = taken
    by act.Pass gone = cc (gone, alive)
    by act.Wait refused = let off = ap (λ (o : Option Mode). is_some o) refused.newcomer.no_holder in cc (held, off)

pub lets_granted : (t : ℕ) (m : Mode) (st : block.State) → LetsAny t m st → block.is_gone st ≡ false → block.is_grantable st m ≡ true → IsTaken t m st
lets_granted t m st lets alive can = by lets.0 lets.1
  where
    by : (a : Act) → IsLet a t m st → IsTaken t m st
    by act.Acquire taken = taken
    by act.Pass gone = cc (gone, alive)
    by act.Wait refused = let off = refused.not_grantable in cc (can, off)

pub lets_refused : (t : ℕ) (m : Mode) (st : block.State) → LetsAny t m st → block.is_gone st ≡ false → mode_in t st.holders ≡ None → block.is_grantable st m ≡ false → IsRefused t m st
lets_refused t m st lets alive none cannot = by lets.0 lets.1
  where
    by : (a : Act) → IsLet a t m st → IsRefused t m st
    by act.Acquire taken = elim taken.fit [ inl held ↦ cc (held, none) | inr granted ↦ let can = granted.grantable in cc (can, cannot) ]
    by act.Pass gone = cc (gone, alive)
    by act.Wait refused = refused

-- THE ACT is the one that the block lets it do, so the EDT is able to it
pub able_of : (t : ℕ) (m : Mode) (core : Core) (st : block.State) (a : Act) → LetsSome t m core st → IsLet a t m st → IsAble a core
able_of t m core st a some lets = by some.act a some.lets some.able lets
  where
    by : (b a : Act) → IsLet b t m st → IsAble b core → IsLet a t m st → IsAble a core
    by b act.Acquire was able lets = tt
    by b act.Pass was able lets = tt
    by act.Acquire act.Wait was able lets = absurd (taken_not_refused t m st was lets)
    by act.Pass act.Wait was able lets = let off = lets.not_gone in cc (was, off)
    by act.Wait act.Wait was able lets = able

-- AT THE NEXT BLOCK, by the parts of the EDT and of the block
pub block_of : (x : Part) (P : block.State → Type 0) → IsBlock x P → (st : block.State) × (x ≡ part.Block st)
block_of (part.Block st) P is = (st, refl)
block_of other P is = absurd is

pub mode_there : (o : Option (ℕ × Mode)) (d : ℕ) (m : Mode) → mode_at d o ≡ Some m → o ≡ Some (d, m)
mode_there None d m is = cc is
mode_there (Some x) d m is = elim (x.0 == d) as (λ b. (x.0 == d) ≡ b → (if b then Some x.1 else None) ≡ Some m → Some x ≡ Some (d, m)) [
  | true ↦ λ here same. let mode : x.1 ≡ m = cc same in (λ i. Some (eqb-true x.0 d here i, mode i))
  | false ↦ λ _ same. cc same
] refl is

pub mode_none : (o : Option (ℕ × Mode)) (d : ℕ) (m : Mode) → mode_at d o ≡ None → o ≢ Some (d, m)
mode_none o d m none is =
    let there : mode_at d o ≡ Some m = ap (mode_at d) is ∙ first (d == d) (number_same d) in
    cc (none, there)
  where
    first : (b : Bool) → b ≡ true → (if b then Some m else None) ≡ Some m
    first true on = refl
    first false on = cc on

pub lets_next : (core face other : Part) (edt d : ℕ) (payloads : List ℕ) → StandsAtNext core face other edt d payloads → (c : Core) (slots : List Slot) (m : Mode) → core ≡ part.Core c → face ≡ part.Edt slots → next_by c slots payloads ≡ Some (d, m) → IsBlock other (LetsSome edt m (ready_with slots payloads c))
lets_next core face other edt d payloads stands c slots m core_is face_is next =
    let same_core = core_same stands.item c (sym stands.core_is ∙ core_is) in
    let same_slots = edt_same stands.slots slots (sym stands.face_is ∙ face_is) in
    subst (λ (l : Core × List Slot). IsBlock other (LetsSome edt m (ready_with l.1 payloads l.0))) (λ i. (same_core i, same_slots i))
    (stands.lets m ((λ i. next_by (same_core i) (same_slots i) payloads) ∙ next))

pub lets_state : (core face other : Part) (edt d : ℕ) (payloads : List ℕ) → StandsAtNext core face other edt d payloads → (c : Core) (slots : List Slot) (m : Mode) (st : block.State) → core ≡ part.Core c → face ≡ part.Edt slots → other ≡ part.Block st → next_by c slots payloads ≡ Some (d, m) → LetsSome edt m (ready_with slots payloads c) st
lets_state core face other edt d payloads stands c slots m st core_is face_is other_is next = subst (λ (x : Part). IsBlock x (LetsSome edt m (ready_with slots payloads c))) other_is (lets_next core face other edt d payloads stands c slots m core_is face_is next)
