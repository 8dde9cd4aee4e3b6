use Rattle.std.proofs.Common.{◌≡◌, ◌-◌, ◌∙◌, sym, ap, subst, arith, map, length}
use Rattle.std.proofs.lemmas.List.{length-map}
use mathlib.Core.Option.{some, some-injective}
use mathlib.Core.Logic.{dite}
use native.Mathlib.Decide.{ℕ_discrete}
use lib.ListN.{get_elem?}
use Rattle.atomic_table.proofs.Lists.{at_index, at_map}
use Rattle.ocr_turns_rule.proofs.Totals.{at_less}
use Rattle.ocr_journal_merge.specs.Numbered.{EndsAt}
use Rattle.ocr_journal_merge.proofs.Whole.{ends_by_key, key_by_end}
use Rattle.ocr_journal_merge.proofs.numbered.place_of.Goals as goal

pub returns-then-ends_at-clause-ends : goal.returns-then-ends_at-clause-ends
returns-then-ends_at-clause-ends g c =
    let logs = c.args.logs.now in let j = c.loop-j.j in let v = c.index-logs-j.result in let n = c.args.number in
    let here = at_index logs j v c.loop-j-test.true c.index-logs-j.is in
    (v.items, at_map (λ l. l.items) logs j v here, ends_by_key v.items n (subst (λ ns. get_elem? ns (length ns - 1) ≡ some n) c.numbers.ensures (c.ends_at.ensures.yes c.if-ends_at.true)))

pub loop-j-preserved : goal.loop-j-preserved
loop-j-preserved g c = λ k log lt at ends.
    let logs = c.args.logs.now in let j = c.loop-j.j in let v = c.index-logs-j.result in let bare = map (λ l. l.items) logs in let n = c.args.number in
    dite (ℕ_discrete k j)
    (λ same.
    let here = at_map (λ l. l.items) logs j v (at_index logs j v c.loop-j-test.true c.index-logs-j.is) in
    let is : log ≡ v.items = some-injective log v.items (sym at ∙ (ap (get_elem? bare) same ∙ here)) in
    let yes = c.ends_at.ensures.no (subst (λ ns. get_elem? ns (length ns - 1) ≡ some n) (sym c.numbers.ensures) (key_by_end v.items n (subst (EndsAt n) is ends))) in
    let no = c.if-ends_at.false in absurd (cc))
    (λ other. c.loop-j.invariant k log (omega (arith, other)) at ends)

pub unreachable-requires : goal.unreachable-requires
unreachable-requires g c =
    let logs = c.args.logs.now in let bare = map (λ l. l.items) logs in let there = c.requires in
    let lt = at_less bare there.0 there.1 there.2 in let many : length bare ≡ length logs = simp length-map in let past = c.loop-j-test.false in
    c.loop-j.invariant there.0 there.1 (omega arith) there.2 there.3
