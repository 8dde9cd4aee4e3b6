use Rattle.std.proofs.Common.{ap, arith, ◌≡◌, ◌+◌, length, map, drop, suc, List, [], ◌∷◌, ℕ, refl}
use Rattle.atomic_table.proofs.Lists.{at_index, drop_at}
use Rattle.ocr_turns_rule.specs.Sums.{weigh, weigh_all}
use Rattle.ocr_turns.proofs.closing.count_entries.Goals as goal

count_of : {A : Type 0} (xs : List (ℕ × A)) → weigh (λ _. 1) xs ≡ length xs
count_of [] = refl
count_of (x ∷ xs) = let r = count_of xs in omega arith

plus : (i : ℕ) → i + 1 ≡ suc i
plus i = omega arith

pub loop-i-preserved : goal.loop-i-preserved
loop-i-preserved g c =
    let logs = c.args.logs.now in let i = c.loop-i.i in let v = c.index-logs-i.result in
    let d = drop_at logs i v (at_index logs i v c.loop-i-test.true c.index-logs-i.is) in
    let w = ap (λ l. weigh_all (λ _. 1) (map (λ x. x.items) l)) d in
    let next = ap (λ k. weigh_all (λ _. 1) (map (λ x. x.items) (drop k logs))) (plus i) in
    let n = count_of v.items in let len = c.len.ensures in let old = c.loop-i.invariant in
    let new : c.loop-i.count + c.len.result + weigh_all (λ _. 1) (map (λ x. x.items) (drop (i + 1) logs)) ≡ weigh_all (λ _. 1) (map (λ x. x.items) logs) = omega arith in new

pub overflow_add-count : goal.overflow_add-count
overflow_add-count g c =
    let logs = c.args.logs.now in let i = c.loop-i.i in let v = c.index-logs-i.result in
    let d = drop_at logs i v (at_index logs i v c.loop-i-test.true c.index-logs-i.is) in
    let w = ap (λ l. weigh_all (λ _. 1) (map (λ x. x.items) l)) d in
    let n = count_of v.items in let len = c.len.ensures in let old = c.loop-i.invariant in let few = c.requires in omega arith
