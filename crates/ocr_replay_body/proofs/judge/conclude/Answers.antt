use Rattle.ocr_replay_body.proofs.Steps.{concluded}
use Rattle.ocr_replay_body.proofs.judge.conclude.Goals as goal

pub returns : goal.returns
returns c = λ b ended. concluded b c.args.edt c.args.entries.now c.args.next c.args.ending.now c.args.holding.now c.unsaid_after-unsaid.result c.place_or_end-at.result c.in_ok-told.told c.requires.following.now.within
    c.place_or_end-at.ensures.some c.place_or_end-at.ensures.none (c.unsaid_after-unsaid.ensures.some b ended) (c.unsaid_after-unsaid.ensures.none b ended) c.in_ok-told.ensures
