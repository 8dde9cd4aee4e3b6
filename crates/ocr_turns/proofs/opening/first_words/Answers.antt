use Rattle.std.proofs.Common.{◌≡◌, ◌+◌, ◌-◌, ◌*◌, length, set, ap, sym, subst, arith}
use Rattle.ocr_turns_rule.specs.Beginning.{IsLaidOut}
use Rattle.ocr_turns_rule.specs.Counts.{state_at, payload_at}
use Rattle.ocr_turns_rule.proofs.Beginning.{laid_out, bare_length}
use Rattle.ocr_turns.proofs.opening.first_words.Goals as goal

pub index_mut-requires : goal.index_mut-requires
index_mut-requires c =
    let items = ap length c.in_ok-words.ensures in let all = bare_length c.args.first c.args.limit c.args.drawn c.requires.first.0 c.requires.first.1 in let ok = c.in_ok-words.words.ok.0 in
    let lo = c.requires.first.0 in let hi = c.requires.first.1 in omega arith

pub index_mut-requires-2 : goal.index_mut-requires-2
index_mut-requires-2 c =
    let items = ap length c.in_ok-words.ensures in let all = bare_length c.args.first c.args.limit c.args.drawn c.requires.first.0 c.requires.first.1 in let ok = c.in_ok-words.words.ok.0 in
    let lo = c.requires.first.0 in let hi = c.requires.first.1 in omega arith

pub returns : goal.returns
returns c =
    let first = c.args.first in let limit = c.args.limit in let drawn = c.args.drawn in
    let state : state_at (2 * limit + 1) first.0 ≡ 24 + 2 * limit + 1 + 33 * (first.0 - 1) = omega arith in
    let payload : payload_at (2 * limit + 1) first.0 0 ≡ 24 + 2 * limit + 1 + 33 * (first.0 - 1) + 1 = omega arith in
    subst (IsLaidOut first limit drawn)
    (λ i. set (set (sym c.in_ok-words.ensures i) (state i) 0) (payload i) first.1)
    (laid_out first limit drawn c.requires.first.0 c.requires.first.1)
