use Rattle.std.proofs.Common.{rules, ◌≡◌, ◌∙◌, ◌+◌, ◌∷◌, drop, ap, sym, subst, arith}
use Rattle.std.proofs.lemmas.Grind.{common_steps}
use Rattle.ocr_turns_rule.specs.Contract.{SameHand}
use Rattle.ocr_turns_rule.specs.Debts.{resumed_debts}
use Rattle.ocr_turns_rule.specs.Words.{resuming}
use Rattle.ocr_worker_machine.specs.Clerks.{OcrView}
use Rattle.ocr_worker_clerk.specs.Entry.{OcrKnown}
use Rattle.ocr_worker_clerk.proofs.Push.{pushes_then}
use Rattle.ocr_worker_access.proofs.Readied.{resumed_ready}
use Rattle.ocr_worker_access.proofs.Settled.{pushed_both, resumed_one, stays_debts, work_debts}
use Rattle.ocr_worker_access.proofs.conclusion.resume_all.Goals as goal

pub loop-woken-preserved : goal.loop-woken-preserved
loop-woken-preserved g c =
    let at = c.loop-woken in let k = at.woken-index in let inv = at.invariant in let r = c.resume.ensures in let p = c.in_ok-push_ready.ensures in
    let x = c.woken-item.result in let new = c.push_ready.new.clerk in
    let d = resumed_debts at.clerk.view.debts x in
    let hand = subst (λ (o : OcrKnown). SameHand at.clerk o) (sym p.same) r.hand in
    let view = subst (λ (o : OcrKnown). o.view ≡ resuming at.clerk.view x) (sym p.same) r.view in
    let rest : drop k c.args.resumed.now ≡ x ∷ drop (k + 1) c.args.resumed.now = search (rules, common_steps) in
    record {
      stays = stays_debts c.args.clerk.now at.clerk new d at.clerk.view.spares (omega arith) inv.stays hand.0 view;
      work = work_debts c.args.job.now.turns.now c.args.job.now.program.now at.clerk new d at.clerk.view.spares (omega arith) inv.work hand view;
      entered = resumed_one c.args.job.now.turns.now.1 c.args.edt g.s.0 at.clerk new g.s.1 (drop k c.args.resumed.now) (drop (k + 1) c.args.resumed.now) x rest inv.entered view hand.1;
      log = ap (λ (v : OcrView). v.log) view ∙ inv.log;
      parts = hand.1 ∙ inv.parts;
      hand = pushed_both c.args.hand.now at.hand c.push_ready.new.hand inv.hand p.hand;
      pushed = pushes_then c.args.clerk.now at.clerk new c.args.hand.now at.hand c.push_ready.new.hand inv.pushed (resumed_ready x at.clerk new at.hand c.push_ready.new.hand view p.pushed);
    }
