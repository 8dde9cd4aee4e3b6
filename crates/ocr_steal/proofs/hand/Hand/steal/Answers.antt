use Rattle.std.proofs.Common.{◌≡◌, ◌∙◌, ◌<◌, ℕ, List, [], ◌∷◌, inl, inr, ⊎_elim, ap, get_or, map, sym, subst, length, set, arith}
use Rattle.std.proofs.lemmas.List.{length-set}
use Rattle.crossbeam_deque.specs.Handles.{view, taken}
use Rattle.ocr_steal.specs.Deque.{IsFound, TakesFirst, newcomer}
use Rattle.ocr_steal.specs.Parts.{Known}
use Rattle.ocr_steal.proofs.Passes.{after, before, changed, deques_kept, is_pass_of, kept, owns_kept, parts_kept, pass_at, passes_kept, same_length}
use Rattle.ocr_steal.proofs.Steps.{takes_other}
use Rattle.ocr_steal.proofs.hand.Hand.steal.Goals as goal

pub steal_as-stolen-requires-clause-table : goal.steal_as-stolen-requires-clause-table
steal_as-stolen-requires-clause-table c =
    let me = c.args.self.now in
    is_pass_of me.passes.items c.args.pool.now.stealers.items c.args.victim c.index_mut.result.now c.index.result.now c.requires.victim.0 c.index_mut.ensures.value c.index.ensures c.requires.pool me.passes_are

pub steal_as-stolen-requires-clause-takes : goal.steal_as-stolen-requires-clause-takes
steal_as-stolen-requires-clause-takes c =
    let me = c.args.self.now in
    let within : c.args.victim < length me.passes.items = omega (arith, c.requires.victim.0, same_length me.passes.items c.args.pool.now.stealers.items c.requires.pool) in
    let pass = pass_at me.passes.items c.args.victim c.index_mut.result.now within c.index_mut.ensures.value me.passes_are in
    takes_other _ (view c.index_mut.result.now) (omega (arith, pass.parts))

pub invariant_of-self : goal.invariant_of-self
invariant_of-self c =
    let me = c.args.self.now in
    let ps = me.passes.items in
    let p = c.index_mut.result.now in
    let q = c.steal_as-stolen.new.pass in
    let within : c.args.victim < length ps = omega (arith, c.requires.victim.0, same_length ps c.args.pool.now.stealers.items c.requires.pool) in
    let long = length-set ps c.args.victim q in
    let names = deques_kept ps c.args.victim p q c.index_mut.ensures.value c.steal_as-stolen.ensures.same in
    record {
      owns = owns_kept me.number me.own ps (set ps c.args.victim q) long names me.owns;
      passes_are = passes_kept ps c.args.victim p q within c.index_mut.ensures.value c.steal_as-stolen.ensures.same (parts_kept c.steal_as-stolen.result (view p) (view q) _ _ c.steal_as-stolen.ensures.rule) me.passes_are;
      counted = record { long = me.counted.long ∙ sym long; none = me.counted.none };
    }

pub returns-in-Success-clause-same : goal.returns-in-Success-clause-same
returns-in-Success-clause-same c =
    let same = c.forget_misses.ensures.same in
    let names = deques_kept c.args.self.now.passes.items c.args.victim c.index_mut.result.now c.steal_as-stolen.new.pass c.index_mut.ensures.value c.steal_as-stolen.ensures.same in
    (record { number = same.0.number; pool = same.0.pool ∙ names; room_kept = same.0.room_kept }, same.1)

pub returns-in-Empty-clause-same : goal.returns-in-Empty-clause-same
returns-in-Empty-clause-same c =
    let same = c.count_miss.ensures.same in
    let names = deques_kept c.args.self.now.passes.items c.args.victim c.index_mut.result.now c.steal_as-stolen.new.pass c.index_mut.ensures.value c.steal_as-stolen.ensures.same in
    (record { number = same.0.number; pool = same.0.pool ∙ names; room_kept = same.0.room_kept }, same.1)

pub returns-in-Retry-clause-same : goal.returns-in-Retry-clause-same
returns-in-Retry-clause-same c =
    let same = c.count_miss-in-Retry.ensures.same in
    let names = deques_kept c.args.self.now.passes.items c.args.victim c.index_mut.result.now c.steal_as-stolen.new.pass c.index_mut.ensures.value c.steal_as-stolen.ensures.same in
    (record { number = same.0.number; pool = same.0.pool ∙ names; room_kept = same.0.room_kept }, same.1)

-- what the hand knew of the victim's deque, and what it knows now
known_before : (ps : List Known) (k : ℕ) (p : Known) → k < length ps → p ≡ get_or ps k p → view p ≡ get_or (map (λ x. view x) ps) k (newcomer 0)
known_before ps k p lt at = sym (before (λ x. view x) ps k p lt at (newcomer 0))

known_after : (ps qs : List Known) (k : ℕ) (p q : Known) → k < length ps → p ≡ get_or ps k p → qs ≡ set ps k q → view q ≡ get_or (map (λ x. view x) qs) k (newcomer 0)
known_after ps qs k p q lt at is = sym (ap (λ l. get_or (map (λ x. view x) l) k (newcomer 0)) is ∙ after (λ x. view x) ps k p lt at q (newcomer 0))

others : (ps qs : List Known) (k : ℕ) (p q : Known) → k < length ps → p ≡ get_or ps k p → qs ≡ set ps k q
    → map (λ x. view x) qs ≡ set (map (λ x. view x) ps) k (get_or (map (λ x. view x) qs) k (newcomer 0))
others ps qs k p q lt at is =
    subst (λ l. map (λ x. view x) l ≡ set (map (λ x. view x) ps) k (get_or (map (λ x. view x) l) k (newcomer 0))) (sym is)
    (changed (λ x. view x) ps k p lt at q (newcomer 0))

all_kept : (ps qs : List Known) (k : ℕ) (p q : Known) → k < length ps → p ≡ get_or ps k p → qs ≡ set ps k q → view q ≡ view p → map (λ x. view x) qs ≡ map (λ x. view x) ps
all_kept ps qs k p q lt at is same = ap (map (λ x. view x)) is ∙ kept (λ x. view x) ps k p lt at q same

rises : (ps qs : List Known) (k : ℕ) (p q : Known) → k < length ps → p ≡ get_or ps k p → qs ≡ set ps k q → taken p < taken q
    → get_or (map (λ x. taken x) ps) k 0 < get_or (map (λ x. taken x) qs) k 0
rises ps qs k p q lt at is more =
    let old = before (λ x. taken x) ps k p lt at 0 in
    let new = ap (λ l. get_or (map (λ x. taken x) l) k 0) is ∙ after (λ x. taken x) ps k p lt at q 0 in
    omega (arith, more, old, new)

pub returns-in-Success-clause-steal : goal.returns-in-Success-clause-steal
returns-in-Success-clause-steal c =
    let ps = c.args.self.now.passes.items in
    let k = c.args.victim in
    let p = c.index_mut.result.now in
    let q = c.steal_as-stolen.new.pass in
    let at = c.index_mut.ensures.value in
    let within : k < length ps = omega (arith, c.requires.victim.0, same_length ps c.args.pool.now.stealers.items c.requires.pool) in
    let qs = c.forget_misses.new.self.passes.items in
    let is : qs ≡ set ps k q = ap (λ v. v.items) c.forget_misses.ensures.passes in
    let rule = c.in-Success.ensures.rule in
    record {
      port = rule.0;
      first = subst (λ w. TakesFirst rule.0 (get_or (map (λ x. view x) ps) k (newcomer 0)) (c.in-Success.edt ∷ []) w) (known_after ps qs k p q within at is)
          (subst (λ v. TakesFirst rule.0 v (c.in-Success.edt ∷ []) (view q)) (known_before ps k p within at) rule.1);
      others = others ps qs k p q within at is;
      misses = c.forget_misses.ensures.none;
    }

pub returns-in-Empty-clause-steal : goal.returns-in-Empty-clause-steal
returns-in-Empty-clause-steal c =
    let ps = c.args.self.now.passes.items in
    let k = c.args.victim in
    let p = c.index_mut.result.now in
    let q = c.steal_as-stolen.new.pass in
    let at = c.index_mut.ensures.value in
    let within : k < length ps = omega (arith, c.requires.victim.0, same_length ps c.args.pool.now.stealers.items c.requires.pool) in
    let qs = c.count_miss.new.self.passes.items in
    let is : qs ≡ set ps k q = ap (λ v. v.items) c.count_miss.ensures.passes in
    let rule = c.in-Empty.ensures.rule in (
      record { same = all_kept ps qs k p q within at is rule.0; misses = c.count_miss.ensures.counted },
      subst (λ v. (port : ℕ) × IsFound port [] v) (known_before ps k p within at) rule.1,
    )

pub returns-in-Retry-clause-steal : goal.returns-in-Retry-clause-steal
returns-in-Retry-clause-steal c =
    let ps = c.args.self.now.passes.items in
    let k = c.args.victim in
    let p = c.index_mut.result.now in
    let q = c.steal_as-stolen.new.pass in
    let at = c.index_mut.ensures.value in
    let within : k < length ps = omega (arith, c.requires.victim.0, same_length ps c.args.pool.now.stealers.items c.requires.pool) in
    let qs = c.count_miss-in-Retry.new.self.passes.items in
    let is : qs ≡ set ps k q = ap (λ v. v.items) c.count_miss-in-Retry.ensures.passes in
    let rule = c.in-Retry.ensures.rule in (
      record { same = all_kept ps qs k p q within at is rule.0; misses = c.count_miss-in-Retry.ensures.counted },
      ⊎_elim (λ more. inl (rises ps qs k p q within at is more)) (λ none. inr (subst (λ v. (port : ℕ) × IsFound port [] v) (known_before ps k p within at) none)) rule.1,
    )
