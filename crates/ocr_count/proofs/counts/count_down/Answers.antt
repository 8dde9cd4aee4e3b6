use Rattle.std.proofs.Common.{subst, ◌-◌}
use Rattle.ocr_turns_rule.specs.Words.{SeesWord}
use Rattle.ocr_count.proofs.Ready.{tells}
use Rattle.ocr_count.proofs.counts.count_down.Goals as goal

pub returns-clause-told : goal.returns-clause-told
returns-clause-told g c =
    let m = g.M.Machine.meaning in let w = c.step_word-found.new.clerk.view in
    tells m c.down_to.result w c.args.edt (c.step_word-found.result - 1) c.down_to.ensures.left c.down_to.ensures.some
    (subst (λ n. SeesWord m w n (c.step_word-found.result - 1)) c.edt.view_is c.step_word-found.ensures.told.3)
