use Rattle.std.proofs.Common.{◌∙◌, [], ap, sym, subst}
use Rattle.ocr_worker_machine.specs.Clerks.{OcrView}
use Rattle.ocr_worker_clerk.specs.Entry.{OcrKnown}
use Rattle.ocr_worker_clerk.specs.Work.{AtWork}
use Rattle.ocr_worker_clerk.proofs.Goes.{stays_both}
use Rattle.ocr_worker_clerk.proofs.Push.{pushes_none}
use Rattle.ocr_worker_access.specs.Access.{HasEntered}
use Rattle.ocr_worker_access.proofs.Entered.{ok_then}
use Rattle.ocr_worker_access.proofs.Readied.{counted_none, counted_ready}
use Rattle.ocr_worker_access.proofs.Settled.{counted, made_stays, made_work}
use Rattle.ocr_worker_access.proofs.conclusion.count_new.Goals as goal

pub returns-in-More-clause-stays : goal.returns-in-More-clause-stays
returns-in-More-clause-stays g c = made_stays c.args.clerk.now c.count_made.new.clerk c.args.new _ c.in-More.ensures.hand c.in-More.ensures.view

pub returns-in-More-clause-work : goal.returns-in-More-clause-work
returns-in-More-clause-work g c = made_work c.args.job.now.turns.now c.args.job.now.program.now c.args.clerk.now c.count_made.new.clerk c.args.new _ c.requires.1.1.0 c.in-More.ensures.hand c.in-More.ensures.view

pub returns-in-More-clause-entered : goal.returns-in-More-clause-entered
returns-in-More-clause-entered g c =
    counted c.args.job.now.turns.now.1 c.args.edt g.s.0 c.args.clerk.now c.count_made.new.clerk g.s.1.0 g.s.1.1 c.args.new c.args.slots _ c.requires.1.1.1 c.in-More.ensures.view c.in-More.ensures.hand.1

pub returns-in-More-clause-pushed : goal.returns-in-More-clause-pushed
returns-in-More-clause-pushed g c =
    pushes_none c.args.clerk.now c.count_made.new.clerk c.args.hand.now (counted_none c.args.new _ c.args.clerk.now c.count_made.new.clerk c.in-More.ensures.told.0 c.in-More.ensures.view)

pub push_ready-requires : goal.push_ready-requires
push_ready-requires g c =
    record { work = made_work c.args.job.now.turns.now c.args.job.now.program.now c.args.clerk.now c.count_made.new.clerk c.args.new 0 c.requires.1.1.0 c.in-Last.ensures.hand c.in-Last.ensures.view }

pub returns-in-Last-clause-stays : goal.returns-in-Last-clause-stays
returns-in-Last-clause-stays g c =
    stays_both c.args.clerk.now c.count_made.new.clerk c.push_ready.new.clerk
    (made_stays c.args.clerk.now c.count_made.new.clerk c.args.new 0 c.in-Last.ensures.hand c.in-Last.ensures.view) c.push_ready.ensures.stays

pub returns-in-Last-clause-work : goal.returns-in-Last-clause-work
returns-in-Last-clause-work g c =
    let work = made_work c.args.job.now.turns.now c.args.job.now.program.now c.args.clerk.now c.count_made.new.clerk c.args.new 0 c.requires.1.1.0 c.in-Last.ensures.hand c.in-Last.ensures.view in
    ok_then c.push_ready.result _ _ c.push_ready.ensures.same (λ same. subst (λ (k : OcrKnown). AtWork c.args.job.now.turns.now c.args.job.now.program.now k) (sym same) work)

pub returns-in-Last-clause-entered : goal.returns-in-Last-clause-entered
returns-in-Last-clause-entered g c =
    let entered = counted c.args.job.now.turns.now.1 c.args.edt g.s.0 c.args.clerk.now c.count_made.new.clerk g.s.1.0 g.s.1.1 c.args.new c.args.slots 0 c.requires.1.1.1 c.in-Last.ensures.view c.in-Last.ensures.hand.1 in
    ok_then c.push_ready.result _ _ c.push_ready.ensures.same (λ same. subst (λ (k : OcrKnown). HasEntered c.args.job.now.turns.now.1 c.args.edt g.s.0 k g.s.1.0 [] g.s.1.1) (sym same) entered)

pub returns-in-Last-clause-log : goal.returns-in-Last-clause-log
returns-in-Last-clause-log g c =
    ok_then c.push_ready.result _ _ c.push_ready.ensures.same (λ same. ap (λ (k : OcrKnown). k.view.log) same ∙ ap (λ (v : OcrView). v.log) c.in-Last.ensures.view)

pub returns-in-Last-clause-parts : goal.returns-in-Last-clause-parts
returns-in-Last-clause-parts g c =
    ok_then c.push_ready.result _ _ c.push_ready.ensures.same (λ same. ap (λ (k : OcrKnown). k.parts) same ∙ c.in-Last.ensures.hand.1)

pub returns-in-Last-clause-pushed : goal.returns-in-Last-clause-pushed
returns-in-Last-clause-pushed g c =
    counted_ready c.push_ready.result c.args.new c.args.clerk.now c.count_made.new.clerk c.push_ready.new.clerk c.args.hand.now c.push_ready.new.hand c.in-Last.ensures.view c.push_ready.ensures.same c.push_ready.ensures.pushed
