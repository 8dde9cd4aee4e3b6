use Rattle.std.proofs.Common.{subst, sym}
use Rattle.ocr_turns_rule.specs.Words.{HasClaim, Waits}
use Rattle.ocr_count.proofs.claims.park.Goals as goal

pub step_word-requires-clause-may : goal.step_word-requires-clause-may
step_word-requires-clause-may g c =
    (subst (HasClaim c.args.clerk.now.view) (sym c.edt.view_is) c.requires.claimed, subst (Waits g.M.Machine.meaning c.args.turns.now.1 c.args.clerk.now.view) (sym c.edt.view_is) c.requires.waits)
