use Rattle.std.proofs.Common.{sym, arith, ◌≤◌, ◌<◌, refl}
use Rattle.ocr_turns_rule.specs.Rule.{OPEN}
use Rattle.ocr_turns_rule.specs.Steps.{ended_by}
use Rattle.ocr_turns_rule.proofs.Clerks.{true_same, shut_true, ended_true, tried_open, tried_shut}
use Rattle.ocr_turns.proofs.turns.Turns.close.Goals as goal

pub invariant_of-clerk : goal.invariant_of-clerk
invariant_of-clerk g c =
    let m = g.M.Machine.meaning in let me = c.clerk.inside.seat.me in let n = c.step_close-found.result in
    let past : OPEN ≤ n = omega (arith, c.if-found-ge-ENDED.true) in
    true_same (sym (tried_shut m (ended_by me.0 n c.args.entry c.args.learns.now) me c.step_close-found.new.seat.me n c.step_close-found.ensures.told past)) refl refl refl refl refl refl refl (shut_true c.clerk.invariant n past)

pub invariant_of-clerk-2 : goal.invariant_of-clerk-2
invariant_of-clerk-2 g c =
    let m = g.M.Machine.meaning in let me = c.clerk.inside.seat.me in let n = c.step_close-found.result in
    let under : n < OPEN = omega (arith, c.if-found-ge-ENDED.false) in
    true_same (sym (tried_open m (ended_by me.0 n c.args.entry c.args.learns.now) me c.step_close-found.new.seat.me n c.step_close-found.ensures.told under)) (sym c.push_reserved.ensures.items) refl refl refl refl refl refl (ended_true c.clerk.invariant n c.args.entry c.args.learns.now)
