-- The passes of a hand, one of which changes.
use Rattle.std.proofs.Common.{◌≡◌, ◌∙◌, ◌<◌, ℕ, List, [], ◌∷◌, length, map, set, get_or, sym, ap, ap₂, subst, arith}
use Rattle.std.specs.Global.{Global}
use lib.ListN.{get_elem?}
use Rattle.std.proofs.lemmas.List.{get_or-map, get_or-set_same, length-map, length-set, map-set}
use Rattle.std.proofs.lemmas.List.Elements.{All-set}
use Rattle.std.proofs.Math.Seq.{map-set_same}
use Rattle.crossbeam_deque.specs.Handles.{IsPassOf, SamePass, stealer_deque, view}
use Rattle.crossbeam_deque.specs.Steals.{MatchSteal}
use Rattle.crossbeam_deque.specs.declared.handles.Stealer.{Stealer}
use Rattle.crossbeam_deque.specs.declared.handles.Worker.{Worker}
use Rattle.crossbeam_deque.specs.declared.steal.Steal.{Steal}
use Rattle.crossbeam_deque.specs.declared.steal.Steal.TheVariants as stolen
use Rattle.ocr_steal.specs.declared.account.Account.{Account}
use Rattle.ocr_steal.specs.Deque.{TakesFirst}
use Rattle.ocr_steal.specs.Parts.{ArePasses, IsOwner, IsPass, OwnsItsDeque, Known, Name, deque_of, deques_of_passes, deques_of_stealers}

pub same_length : {P : Type 0} (ps : List Known) (ss : List (Stealer ℕ Global Account P)) → deques_of_passes ps ≡ deques_of_stealers ss → length ps ≡ length ss
same_length ps ss same =
    sym (length-map ps deque_of) ∙ ap (λ (l : List Name). length l) same ∙ length-map ss (λ s. stealer_deque s)

name_at : {P : Type 0} (ps : List Known) (ss : List (Stealer ℕ Global Account P)) (k : ℕ) (p : Known) (s : Stealer ℕ Global Account P) → k < length ss → p ≡ get_or ps k p → s ≡ get_or ss k s
    → deques_of_passes ps ≡ deques_of_stealers ss → deque_of p ≡ stealer_deque s
name_at ps ss k p s lt at_p at_s same =
    let within : k < length ps = omega (arith, same_length ps ss same) in
    ap deque_of at_p ∙ sym (get_or-map deque_of ps k p (deque_of p) within) ∙ ap (λ (l : List Name). get_or l k (deque_of p)) same
    ∙ get_or-map (λ s. stealer_deque s) ss k s (deque_of p) lt ∙ sym (ap (λ s. stealer_deque s) at_s)

pub pass_at : (ps : List Known) (k : ℕ) (p : Known) → k < length ps → p ≡ get_or ps k p → ArePasses ps → IsPass p
pass_at ps k p lt at all = subst IsPass (sym at) (all k p lt)

-- a hand's pass of a deque of its pool is one of that deque
pub is_pass_of : {P : Type 0} (ps : List Known) (ss : List (Stealer ℕ Global Account P)) (k : ℕ) (p : Known) (s : Stealer ℕ Global Account P) → k < length ss → p ≡ get_or ps k p → s ≡ get_or ss k s
    → deques_of_passes ps ≡ deques_of_stealers ss → ArePasses ps → IsPassOf (stealer_deque s) p
is_pass_of ps ss k p s lt at_p at_s same all =
    let name = name_at ps ss k p s lt at_p at_s same in
    let pass = pass_at ps k p (omega (arith, same_length ps ss same)) at_p all in
    (ap (λ (d : Name). d.0) name, ap (λ (d : Name). d.1) name, pass.hand, pass.spare)

same_deque : (p q : Known) → SamePass p q → deque_of q ≡ deque_of p
same_deque p q same = ap₂ (λ a b. (a, b)) same.0 same.1

pub deques_kept : (ps : List Known) (k : ℕ) (p q : Known) → p ≡ get_or ps k p → SamePass p q → deques_of_passes (set ps k q) ≡ deques_of_passes ps
deques_kept ps k p q at same = map-set_same deque_of ps k q p (same_deque p q same ∙ ap deque_of at)

pub passes_kept : (ps : List Known) (k : ℕ) (p q : Known) → k < length ps → p ≡ get_or ps k p → SamePass p q → (view q).parts ≡ (view p).parts → ArePasses ps → ArePasses (set ps k q)
passes_kept ps k p q lt at same parts all =
    let pass = pass_at ps k p lt at all in
    All-set IsPass ps k q (record { hand = same.3; spare = same.4; parts = parts ∙ pass.parts }) all

module _ {B : Type 0} (f : Known → B) (ps : List Known) (k : ℕ) (p : Known) (lt : k < length ps) (at : p ≡ get_or ps k p) where
  pub before : (d : B) → get_or (map f ps) k d ≡ f p
  before d = get_or-map f ps k p d lt ∙ ap f (sym at)

  pub after : (q : Known) (d : B) → get_or (map f (set ps k q)) k d ≡ f q
  after q d = get_or-map f (set ps k q) k q d (omega (arith, length-set ps k q)) ∙ ap f (get_or-set_same ps k q q lt)

  pub kept : (q : Known) → f q ≡ f p → map f (set ps k q) ≡ map f ps
  kept q same = map-set_same f ps k q p (same ∙ ap f at)

  -- only that one is another
  pub changed : (q : Known) (d : B) → map f (set ps k q) ≡ set (map f ps) k (get_or (map f (set ps k q)) k d)
  changed q d = map-set f ps k q ∙ ap (λ y. set (map f ps) k y) (sym (after q d))

-- whatever a steal answers, the pass keeps its part
pub parts_kept : (r : Steal ℕ) (v w : Account) (E R : Type 0) → MatchSteal r ((w ≡ v) × E) ((w ≡ v) × R) (λ x. (port : ℕ) × TakesFirst port v (x ∷ []) w) → w.parts ≡ v.parts
parts_kept stolen.Empty v w E R h = ap (λ (a : Account). a.parts) h.0
parts_kept (stolen.Success x) v w E R h = ap (λ (a : Account). a.parts) h.1.then_knows
parts_kept stolen.Retry v w E R h = ap (λ (a : Account). a.parts) h.0

pub owns_kept : {P : Type 0} (number : ℕ) (own : Worker ℕ Global Account P) (ps qs : List Known) → length qs ≡ length ps → deques_of_passes qs ≡ deques_of_passes ps → OwnsItsDeque number own ps → OwnsItsDeque number own qs
owns_kept number own ps qs long names owns = record {
  owner = subst (λ n. IsOwner n own) (sym long) owns.owner;
  deque = ap (λ (l : List Name). get_elem? l number) names ∙ owns.deque;
}
