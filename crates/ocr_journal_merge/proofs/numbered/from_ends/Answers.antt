use Rattle.std.proofs.Common.{◌≡◌, ◌<◌, ◌-◌, suc, ◌∙◌, sym, ap, subst, arith, List, length, map}
use Rattle.std.proofs.lemmas.List.{map-set}
use mathlib.Core.Option.{some, some-injective}
use lib.ListN.{get_elem?}
use Rattle.atomic_table.proofs.Lists.{at_index, at_map}
use Rattle.ocr_turns_rule.specs.Rule.{AllRise}
use Rattle.ocr_journal_merge.specs.Numbered.{EndsAt, HasEnd}
use Rattle.ocr_journal_merge.proofs.Numbers.{same_length}
use Rattle.ocr_journal_merge.proofs.Takes.{Remain, all_remain, all_taken, end_there, remain_less, rise_less}
use Rattle.ocr_journal_merge.proofs.numbered.from_ends.Goals as goal

pub loop-left-init : goal.loop-left-init
loop-left-init g c =
    let logs = map (λ v. v.items) c.args.logs.items in let listed = c.requires.listed in let none = c.in_ok-entries.ensures.items in record {
      room = let a = ap length none in let cap = c.in_ok-entries.ensures.capacity in omega arith;
      rise = c.requires.rise;
      remain = λ list is.
          subst (Remain c.args.count list logs) (sym none) (all_remain list logs c.args.count is (same_length logs listed.0 list listed.1 is ∙ listed.2));
    }

pub place_of-place-requires : goal.place_of-place-requires
place_of-place-requires g c =
    let at = c.loop-left in let left = at.left in let n = left - 1 in let listed = c.requires.listed in
    let is : suc n ≡ left = (let some_left = c.loop-left-test.true in omega arith) in
    subst (λ l. HasEnd n (map (λ v. v.items) l)) (sym c.as_slice.ensures.value) (end_there (map (λ v. v.items) at.logs.items) n left is at.invariant.rise (at.invariant.remain listed.0 listed.1).once)

pub loop-left-smaller : goal.loop-left-smaller
loop-left-smaller g c =
    let logs = c.loop-left.logs.items in let place = c.place_of-place.result in let v = c.index_mut.result.now in
    let slice = c.as_slice.ensures.value in let found = c.place_of-place.ensures.ends in
    let within = subst (λ l. place < length l) slice c.place_of-place.ensures.within in
    let here = at_map (λ l. l.items) logs place v (at_index logs place v within c.index_mut.ensures.value) in
    let there = subst (λ l. get_elem? (map (λ l. l.items) l) place ≡ some found.0) slice found.1 in
    c.take_run-left.ensures.goes (let some_left = c.loop-left-test.true in omega arith) (subst (EndsAt (c.loop-left.left - 1)) (some-injective found.0 v.items (sym there ∙ here)) found.2)

pub loop-left-preserved : goal.loop-left-preserved
loop-left-preserved g c =
    let at = c.loop-left in let old = at.invariant in let logs = at.logs.items in let bare = map (λ l. l.items) logs in
    let place = c.place_of-place.result in let v = c.index_mut.result.now in
    let within = subst (λ l. place < length l) c.as_slice.ensures.value c.place_of-place.ensures.within in
    let here = at_map (λ l. l.items) logs place v (at_index logs place v within c.index_mut.ensures.value) in
    let run = c.take_run-left.ensures in let log = c.take_run-left.new.log in let left = c.take_run-left.result in
    let new = map-set (λ l. l.items) logs place log in record {
      room = let room = run.room in let many = c.take_run-left.new.entries.ok.0 in omega arith;
      rise = subst AllRise (sym new) (rise_less bare place v.items log.items run.front.0 old.rise here run.front.1);
      remain = λ list is.
          subst (λ ls. Remain left list ls c.take_run-left.new.entries.items) (sym new)
          (remain_less list bare place v.items log.items run.front.0 at.left left at.entries.items c.take_run-left.new.entries.items (old.remain list is) here run.front.1 run.numbers (run.taken list));
    }

pub returns : goal.returns
returns g c = λ list is.
    let at = c.loop-left in let none : at.left ≡ 0 = (let past = c.loop-left-test.false in omega arith) in
    ◌∙◌ {A = List g.row.E.Denot} c.reverse.ensures.items (all_taken at.left list (map (λ v. v.items) at.logs.items) at.entries.items (at.invariant.remain list is) none)
