use Rattle.std.proofs.Common.{◌≤◌, ◌+◌, ◌∙◌, ap, sym, subst, length, arith}
use Rattle.ocr_worker_machine.specs.Clerks.{OcrView}
use Rattle.ocr_worker_machine.proofs.Lawful.{lawful}
use Rattle.ocr_turns_rule.specs.Live.{raising}
use Rattle.ocr_worker_clerk.specs.Work.{HasFewDuties}
use Rattle.ocr_worker_clerk.proofs.Whole.{still}
use Rattle.ocr_machine_history.specs.Weight.{weight_of}
use Rattle.ocr_worker_clerk.proofs.Affords.{paid_affords}
use Rattle.ocr_worker_clerk.proofs.Entries.{enters_as, may_commit}
use Rattle.ocr_worker_clerk.proofs.Goes.{commit_left, commit_stays, commit_work, work_still}
use Rattle.ocr_worker_clerk.proofs.entry.enter_at_work.Goals as goal

pub commit-requires-clause-may : goal.commit-requires-clause-may
commit-requires-clause-may g c = λ _.
    let ok = c.in-Ok in let work = c.requires.1.1.0 in let can = c.requires.1.1.1.1 in
    let light : c.args.clerk.now.view.weight + weight_of c.args.entry ≤ c.args.job.now.turns.now.1.share =
    let a = c.if-weight-share.false in let b = c.share.ensures in let d = c.weight.ensures in let e = c.weight-weight.ensures in let l = work.light in omega (arith, a, b, d, e, l) in
    let affords = paid_affords c.args.job.now.turns.now.1 c.args.clerk.now.view c.prepare.new.clerk.view c.pay.new.clerk.view c.args.entry ok.prepared.change.parts.items ok.prepared.change.messages.items ok.prepared.resumed.items ok.prepared.units ok.ensures.units.0 ok.ensures.resumed ok.ensures.view c.pay.ensures.paid in
    may_commit c.args.job.now.turns.now.1 c.args.clerk.now.view c.pay.new.clerk.view c.args.entry g.h c.args.parts.items ok.prepared.change.parts.items ok.prepared.change.messages.items c.pay.ensures.paid.paid affords (c.pay.ensures.paid.view ∙ ap (λ (v : OcrView). raising v c.pay.ensures.paid.paid) ok.ensures.view) can light ok.ensures.change.step

pub returns-in-At-clause-stays : goal.returns-in-At-clause-stays
returns-in-At-clause-stays g c =
    let ok = c.in-Ok in let work = c.requires.1.1.0 in
    commit_stays c.args.job.now.turns.now c.args.job.now.program.now c.args.clerk.now c.pay.new.clerk c.commit.new.clerk c.args.entry ok.prepared.change.parts.items ok.prepared.change.messages.items work (c.pay.ensures.hand.0 ∙ ok.ensures.table) c.pay.ensures.paid.paid (c.pay.ensures.paid.view ∙ ap (λ (v : OcrView). raising v c.pay.ensures.paid.paid) ok.ensures.view) c.commit.result c.commit.ensures

pub returns-in-At-clause-work : goal.returns-in-At-clause-work
returns-in-At-clause-work g c =
    let ok = c.in-Ok in let work = c.requires.1.1.0 in let can = c.requires.1.1.1.1 in
    let light : c.args.clerk.now.view.weight + weight_of c.args.entry ≤ c.args.job.now.turns.now.1.share =
    let a = c.if-weight-share.false in let b = c.share.ensures in let d = c.weight.ensures in let e = c.weight-weight.ensures in let l = work.light in omega (arith, a, b, d, e, l) in
    let affords = paid_affords c.args.job.now.turns.now.1 c.args.clerk.now.view c.prepare.new.clerk.view c.pay.new.clerk.view c.args.entry ok.prepared.change.parts.items ok.prepared.change.messages.items ok.prepared.resumed.items ok.prepared.units ok.ensures.units.0 ok.ensures.resumed ok.ensures.view c.pay.ensures.paid in
    commit_work c.args.job.now.turns.now c.args.job.now.program.now c.args.clerk.now c.pay.new.clerk c.commit.new.clerk c.args.entry ok.prepared.change.parts.items ok.prepared.change.messages.items work (c.pay.ensures.hand.0 ∙ ok.ensures.table) c.pay.ensures.paid.paid (c.pay.ensures.paid.view ∙ ap (λ (v : OcrView). raising v c.pay.ensures.paid.paid) ok.ensures.view)
    c.in-At._number c.pay.ensures.paid.most affords can.goes light (let x = c.pay.ensures.hand.2.0 in let y = ok.ensures.change.room in omega (arith, x, y)) (let s = ok.ensures.hand.1 in let x = c.pay.ensures.hand.2.1 in omega (arith, s, x)) (c.pay.ensures.hand.1 ∙ ok.ensures.hand.0) work.spare c.in-At.ensures

pub returns-in-At-clause-entered : goal.returns-in-At-clause-entered
returns-in-At-clause-entered g c =
    let ok = c.in-Ok in
    enters_as c.args.job.now.turns.now.1 c.in-At._number c.args.clerk.now c.pay.new.clerk c.commit.new.clerk c.args.entry g.h ok.prepared.change.parts.items ok.prepared.change.messages.items c.pay.ensures.paid.paid (c.pay.ensures.paid.view ∙ ap (λ (v : OcrView). raising v c.pay.ensures.paid.paid) ok.ensures.view) (c.pay.ensures.hand.1 ∙ ok.ensures.hand.0) ok.ensures.change.step c.in-At.ensures

pub returns-in-Closed-clause-stays : goal.returns-in-Closed-clause-stays
returns-in-Closed-clause-stays g c =
    let ok = c.in-Ok in let work = c.requires.1.1.0 in
    commit_stays c.args.job.now.turns.now c.args.job.now.program.now c.args.clerk.now c.pay.new.clerk c.commit.new.clerk c.args.entry ok.prepared.change.parts.items ok.prepared.change.messages.items work (c.pay.ensures.hand.0 ∙ ok.ensures.table) c.pay.ensures.paid.paid (c.pay.ensures.paid.view ∙ ap (λ (v : OcrView). raising v c.pay.ensures.paid.paid) ok.ensures.view) c.commit.result c.commit.ensures

pub returns-in-Closed-clause-gone : goal.returns-in-Closed-clause-gone
returns-in-Closed-clause-gone g c =
    let ok = c.in-Ok in let work = c.requires.1.1.0 in
    commit_left c.args.job.now.turns.now c.args.job.now.program.now c.args.clerk.now c.pay.new.clerk c.commit.new.clerk c.args.entry ok.prepared.change.parts.items ok.prepared.change.messages.items work (c.pay.ensures.hand.0 ∙ ok.ensures.table) c.pay.ensures.paid.paid (c.pay.ensures.paid.view ∙ ap (λ (v : OcrView). raising v c.pay.ensures.paid.paid) ok.ensures.view) c.args.worker c.in-Closed.word c.in-Closed.ensures

pub returns-in-At-clause-resumed : goal.returns-in-At-clause-resumed
returns-in-At-clause-resumed g c = c.in-Ok.ensures.resumed

pub pay-requires-clause-work : goal.pay-requires-clause-work
pay-requires-clause-work g c =
    let ok = c.in-Ok in let work = c.requires.1.1.0 in
    work_still c.args.job.now.turns.now c.args.job.now.program.now c.args.clerk.now c.prepare.new.clerk c.args.clerk.now.view work ok.ensures.table ok.ensures.view (still c.args.clerk.now.view) ok.ensures.room
    (let s = ok.ensures.hand.1 in let l = ap length ok.ensures.hand.0 in omega (arith, s, l))

pub pay-requires-clause-duties : goal.pay-requires-clause-duties
pay-requires-clause-duties g c = subst HasFewDuties (sym c.in-Ok.ensures.view) c.requires.1.1.1.0

pub pay-requires-clause-light : goal.pay-requires-clause-light
pay-requires-clause-light g c =
    let ok = c.in-Ok in let work = c.requires.1.1.0 in
    let a = c.if-weight-share.false in let b = c.share.ensures in let d = c.weight.ensures in let e = c.weight-weight.ensures in let l = work.light in
    let one = lawful.weighs c.args.entry c.requires.1.1.1.1.goes in let w = ap (λ (v : OcrView). v.weight) ok.ensures.view in omega (arith, a, b, d, e, l, one, w)
