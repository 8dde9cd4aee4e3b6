use Rattle.std.proofs.Common.{◌≡◌, ℕ, ◌-◌, ◌++◌, ◌∷◌, [], suc, ◌∙◌, sym, ap, subst, arith, length, reverse, length-append, append_assoc}
use mathlib.Core.Option.{some}
use mathlib.Core.Logic.{dite}
use native.Mathlib.Decide.{ℕ_discrete}
use lib.ListN.{get_elem?}
use Rattle.ocr_turns_rule.specs.Sums.{weigh}
use Rattle.ocr_turns_rule.proofs.Totals.{weigh_snoc}
use Rattle.ocr_journal_merge.specs.Numbered.{EndsAt}
use Rattle.ocr_journal_merge.proofs.Takes.{below_last, ends_with, last_stands, taken_more}
use Rattle.ocr_journal_merge.proofs.Whole.{ends_by_key, key_by_end}
use Rattle.ocr_journal_merge.proofs.numbered.take_run.Goals as goal

pub loop-left-preserved : goal.loop-left-preserved
loop-left-preserved g c =
    let at = c.loop-left in let old = at.invariant in let left = at.left in let n = left - 1 in
    let log = at.log.items in let front = c.pop.new.self.items in let number = c.in-Some.field-0-0 in let entry = c.in-Some.entry in let rest = old.front.0 in
    let last : log ≡ front ++ (number, entry) ∷ [] = c.in-Some.ensures in
    let ends : EndsAt n log = ends_by_key log n (subst (λ ns. get_elem? ns (length ns - 1) ≡ some n) c.numbers.ensures (c.ends_at.ensures.yes c.if-ends_at.true)) in
    let same : n ≡ number = ends_with log front (number, entry) n last ends in
    let kept = c.spare.ensures in let pushed = c.push_reserved.ensures.items in
    let is : suc n ≡ left = (let some_left = c.loop-left-test.true in omega arith) in record {
      few = let few = old.few in omega arith;
      room = let a = ap length pushed in let b = length-append at.entries.items (entry ∷ []) in let room = old.room in let cap = c.push_reserved.ensures.capacity in omega arith;
      same = λ e. let few = old.few in absurd {A = c.spare.new.self.items ≡ c.args.log.now.items} (omega arith);
      front = ((number, entry) ∷ rest, old.front.1 ∙ (ap (λ l. l ++ rest) last ∙ (append_assoc front ((number, entry) ∷ []) rest ∙ ap (λ l. l ++ (number, entry) ∷ rest) (sym kept))));
      numbers = λ f. let a = old.numbers f in let b = ap (weigh f) last in let d = weigh_snoc f front number entry in let e = below_last f n left is in let k = ap (weigh f) kept in let s = ap f same in omega arith;
      taken = λ list of so_far.
          let here = of (length front) number entry (last_stands c.args.log.now.items log front rest (number, entry) old.front.1 last) in
          ap reverse pushed ∙ taken_more list at.entries.items n left entry is (ap (get_elem? list) same ∙ here) (old.taken list of so_far);
    }

pub returns-else-ends_at-clause-goes : goal.returns-else-ends_at-clause-goes
returns-else-ends_at-clause-goes g c = λ some_left ends.
    let at = c.loop-left in let old = at.invariant in let few = old.few in let n = at.left - 1 in
    dite (ℕ_discrete at.left c.args.left)
    (λ e.
    let here : EndsAt n at.log.items = subst (EndsAt n) (sym (old.same e)) (subst (λ (k : ℕ). EndsAt (k - 1) c.args.log.now.items) (sym e) ends) in
    let yes = c.ends_at.ensures.no (subst (λ ns. get_elem? ns (length ns - 1) ≡ some n) (sym c.numbers.ensures) (key_by_end at.log.items n here)) in
    let no = c.if-ends_at.false in absurd (cc))
    (λ ne. omega (arith, ne))
