-- What an EDT holds at its start.
use Rattle.std.proofs.Common.{◌≡◌, ◌<◌, ◌+◌, ℕ, zero, suc, List, [], ◌∷◌, ◌++◌, length, map, take, get_or, add-one, Bool, true, false, ◌==◌, ◌||◌, if◌then◌else◌, Option, Some, None, IfSome, IfNone, Bor, refl, sym, ◌∙◌, ap, subst, arith}
use Rattle.std.specs.List.{list_any}
use Rattle.std.specs.Option.{option_copied}
use Rattle.std.proofs.lemmas.Bool.{eqb-true}
use Rattle.std.proofs.lemmas.List.Folds.{list_any-append}
use Rattle.std.proofs.Math.Seq.{take-suc}
use Rattle.ocr_acquire.specs.declared.Mode.{Mode}
use Rattle.ocr_acquire.specs.Mode.{mode_in}
use Rattle.ocr_edt.specs.declared.Edt.{Edt}
use Rattle.ocr_edt.specs.declared.Edt.TheVariants as phase
use Rattle.ocr_edt.specs.Phases.{Work}
use Rattle.ocr_body_meaning.specs.Holds.{Hold, Holds, with_hold}
use Rattle.ocr_machine_parts.specs.declared.loans.Kept.{Kept}
use Rattle.ocr_machine_parts.specs.declared.part.Core.{Core}
use Rattle.ocr_machine_parts.specs.Bodies.{hold_of}
use Rattle.ocr_machine_parts.specs.Kinds.{work_in, holds_of}
use Rattle.ocr_machine_parts.specs.Loans.{kept_in}
use Rattle.ocr_replay_body.specs.Holds.{held_in, with_begun}
use Rattle.ocr_replay_body.specs.Cases.{core_holds, begun_holds, AreFit, IsFitCore, IsFitHold}

-- THE EDT RUNS
pub running_fit : (c : Core) (w : Work) → c.edt ≡ phase.Running w → IsFitCore c → AreFit w.holds c.loans
running_fit c w is fit = λ d. subst (λ (e : Edt). IsFitHold (mode_in d (holds_of (work_in e))) (kept_in d c.loans)) is (fit d)

pub running_holds : (c : Core) (w : Work) → c.edt ≡ phase.Running w → begun_holds w.holds c.loans ≡ core_holds c
running_holds c w is = sym (ap (λ (e : Edt). begun_holds (holds_of (work_in e)) c.loans) is)

-- BLOCK BY BLOCK
pub got : (r : Option (Bor Kept)) (k : Option Kept) → IfSome r (λ kept. k ≡ Some kept.now) → IfNone r (k ≡ None) → option_copied r ≡ k
got None k some none = sym none
got (Some kept) k some none = sym some

abbrev pub is_in : ℕ → List ℕ → Bool
is_in d blocks = list_any (λ (b : ℕ). b == d) blocks

-- these blocks have their holds
abbrev pub HasBegun : List (ℕ × Mode) → List (ℕ × Kept) → List ℕ → List (ℕ × Hold) → Type 0
HasBegun holds loans blocks items = (d : ℕ) → held_in items d ≡ (if is_in d blocks then begun_holds holds loans d else None)

more_if : (a b : Bool) (h : Option Hold) (x : Option Hold) → x ≡ (if a then h else None) → (if b then h else x) ≡ (if a || (b || false) then h else None)
more_if true true h x e = refl
more_if true false h x e = e
more_if false true h x e = refl
more_if false false h x e = e

none_more : (a b : Bool) (h x : Option Hold) → h ≡ None → x ≡ (if a then h else None) → x ≡ (if a || (b || false) then h else None)
none_more true b h x none e = e
none_more false true h x none e = e ∙ sym none
none_more false false h x none e = e

next_is_in : (d i : ℕ) (blocks : List ℕ) → i < length blocks → is_in d (take (i + 1) blocks) ≡ (is_in d (take i blocks) || ((get_or blocks i 0 == d) || false))
next_is_in d i blocks below =
    let more : take (i + 1) blocks ≡ take i blocks ++ get_or blocks i 0 ∷ [] = ap (λ (n : ℕ). take n blocks) (add-one i) ∙ take-suc blocks i 0 below in
    ap (is_in d) more ∙ list_any-append (λ (b : ℕ). b == d) (take i blocks) (get_or blocks i 0 ∷ [])

same_if : (b : Bool) (x y r : Option Hold) → (b ≡ true → x ≡ y) → (if b then x else r) ≡ (if b then y else r)
same_if true x y r e = e refl
same_if false x y r e = refl

-- a block with its hold more
pub begun_more : (holds : List (ℕ × Mode)) (loans : List (ℕ × Kept)) (blocks : List ℕ) (i : ℕ) (old new : List (ℕ × Hold)) → i < length blocks
    → HasBegun holds loans (take i blocks) old → held_in new ≡ with_hold (get_or blocks i 0) (begun_holds holds loans (get_or blocks i 0)) (held_in old)
    → HasBegun holds loans (take (i + 1) blocks) new
begun_more holds loans blocks i old new below begun changed = λ d.
    let b : ℕ = get_or blocks i 0 in
    ap (λ (h : Holds). h d) changed
    ∙ same_if (b == d) (begun_holds holds loans b) (begun_holds holds loans d) (held_in old d) (λ e. ap (begun_holds holds loans) (eqb-true b d e))
    ∙ more_if (is_in d (take i blocks)) (b == d) (begun_holds holds loans d) (held_in old d) (begun d)
    ∙ ap (λ (t : Bool). if t then begun_holds holds loans d else None) (sym (next_is_in d i blocks below))

held_none : (a b : Bool) (x h : Option Hold) → (b ≡ true → h ≡ None) → x ≡ (if a then h else None) → x ≡ (if a || (b || false) then h else None)
held_none a true x h none e = none_more a true h x (none refl) e
held_none true false x h none e = e
held_none false false x h none e = e

-- a block without a hold more
pub begun_none : (holds : List (ℕ × Mode)) (loans : List (ℕ × Kept)) (blocks : List ℕ) (i : ℕ) (items : List (ℕ × Hold)) → i < length blocks
    → HasBegun holds loans (take i blocks) items → begun_holds holds loans (get_or blocks i 0) ≡ None
    → HasBegun holds loans (take (i + 1) blocks) items
begun_none holds loans blocks i items below begun none = λ d.
    let b : ℕ = get_or blocks i 0 in
    held_none (is_in d (take i blocks)) (b == d) (held_in items d) (begun_holds holds loans d) (λ e. ap (begun_holds holds loans) (sym (eqb-true b d e)) ∙ none) (begun d)
    ∙ ap (λ (t : Bool). if t then begun_holds holds loans d else None) (sym (next_is_in d i blocks below))

same_default : (xs : List ℕ) (i a b : ℕ) → i < length xs → get_or xs i a ≡ get_or xs i b
same_default [] i a b below = absurd (omega (arith, below))
same_default (x ∷ xs) zero a b below = refl
same_default (x ∷ xs) (suc i) a b below = same_default xs i a b (omega (arith, below))

-- the next block has its hold, where there is one
pub begun_next : (holds : List (ℕ × Mode)) (loans : List (ℕ × Kept)) (blocks : List ℕ) (i b : ℕ) (h : Option Hold) (old new : List (ℕ × Hold)) → i < length blocks
    → b ≡ get_or blocks i b → h ≡ begun_holds holds loans b → HasBegun holds loans (take i blocks) old → held_in new ≡ with_begun b h (held_in old)
    → HasBegun holds loans (take (i + 1) blocks) new
begun_next holds loans blocks i b None old new below at is begun changed =
    begun_none holds loans blocks i new below (λ d. ap (λ (f : Holds). f d) changed ∙ begun d) (ap (begun_holds holds loans) (sym (at ∙ same_default blocks i b 0 below)) ∙ sym is)
begun_next holds loans blocks i b (Some h) old new below at is begun changed =
    begun_more holds loans blocks i old new below begun (changed ∙ ap (λ (o : Option Hold). with_hold b o (held_in old)) is
    ∙ ap (λ (n : ℕ). with_hold n (begun_holds holds loans n) (held_in old)) (at ∙ same_default blocks i b 0 below))

no_hold : (m : Option Mode) → hold_of m None ≡ None
no_hold None = refl
no_hold (Some m) = refl

kept_by : (d : ℕ) (one : ℕ × Kept) (rest : List (ℕ × Kept)) (b : Bool) → (is_in d (map (λ (one : ℕ × Kept). one.0) rest) ≡ false → kept_in d rest ≡ None)
    → (b || is_in d (map (λ (one : ℕ × Kept). one.0) rest)) ≡ false → (if b then Some one.1 else kept_in d rest) ≡ None
kept_by d one rest true later off = cc off
kept_by d one rest false later off = later off

not_kept : (d : ℕ) (loans : List (ℕ × Kept)) → is_in d (map (λ (one : ℕ × Kept). one.0) loans) ≡ false → kept_in d loans ≡ None
not_kept d [] off = refl
not_kept d (one ∷ rest) off = kept_by d one rest (one.0 == d) (not_kept d rest) off

every_if : (b : Bool) (h : Option Hold) → (b ≡ false → h ≡ None) → (if b then h else None) ≡ h
every_if true h none = refl
every_if false h none = sym (none refl)

-- all blocks have their holds
pub begun_every : (holds : List (ℕ × Mode)) (loans : List (ℕ × Kept)) (items : List (ℕ × Hold)) → HasBegun holds loans (map (λ (one : ℕ × Kept). one.0) loans) items
    → held_in items ≡ begun_holds holds loans
begun_every holds loans items begun = λ i d. (begun d ∙ every_if (is_in d (map (λ (one : ℕ × Kept). one.0) loans)) (begun_holds holds loans d)
    (λ off. ap (hold_of (mode_in d holds)) (not_kept d loans off) ∙ no_hold (mode_in d holds))) i
