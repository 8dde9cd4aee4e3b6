use Rattle.std.proofs.Common.{◌≤◌, ◌+◌, [], ◌∙◌, ap, sym, subst, length, arith}
use Rattle.ocr_worker_machine.specs.Clerks.{OcrView}
use Rattle.ocr_worker_machine.proofs.Lawful.{lawful}
use Rattle.ocr_turns_rule.specs.Live.{raising}
use Rattle.ocr_worker_clerk.specs.Work.{HasFewDuties}
use Rattle.ocr_worker_clerk.proofs.Whole.{still}
use Rattle.ocr_machine_history.specs.Weight.{weight_of}
use Rattle.ocr_turns.specs.Hand.{at_hand}
use Rattle.ocr_worker_clerk.proofs.AtHand.{may_stay, same_hand, still_step}
use Rattle.ocr_worker_clerk.proofs.Affords.{paid_affords}
use Rattle.ocr_worker_clerk.proofs.Entries.{enters_as}
use Rattle.ocr_worker_clerk.proofs.Goes.{commit_left, commit_stays, commit_work, work_still}
use Rattle.ocr_worker_clerk.proofs.entry_at_hand.enter_at_hand.Goals as goal

pub commit_at_hand-requires-clause-same : goal.commit_at_hand-requires-clause-same
commit_at_hand-requires-clause-same g c =
    let r = c.requires.1.1 in let same = c.reserve.ensures.same in
    same_hand c.args.job.now.turns.now.1 c.args.clerk.now c.pay.new.clerk c.args.entry g.h c.args.messages.items r.1.0 r.1.1.0 r.1.1.1.0 c.pay.ensures.paid.paid (c.pay.ensures.paid.view ∙ ap (λ (v : OcrView). raising v c.pay.ensures.paid.paid) c.reserve.ensures.same.1) (c.pay.ensures.hand.1 ∙ c.reserve.ensures.same.2)

pub commit_at_hand-requires-clause-may : goal.commit_at_hand-requires-clause-may
commit_at_hand-requires-clause-may g c = λ _.
    let r = c.requires.1.1 in let same = c.reserve.ensures.same in
    let light : c.args.clerk.now.view.weight + weight_of c.args.entry ≤ c.args.job.now.turns.now.1.share =
    let a = c.if-weight-share.false in let b = c.share.ensures in let d = c.weight.ensures in let e = c.weight-weight.ensures in let l = r.0.light in omega (arith, a, b, d, e, l) in
    let affords = paid_affords c.args.job.now.turns.now.1 c.args.clerk.now.view c.reserve.new.clerk.view c.pay.new.clerk.view c.args.entry (at_hand c.pay.new.clerk.parts) c.args.messages.items [] _ (let l = c.len-2.ensures in let u = c.making_units.ensures.is in omega (arith, l, u)) (sym c.requires.1.1.1.1.1.1.1.1) c.reserve.ensures.same.1 c.pay.ensures.paid in
    may_stay c.args.job.now.turns.now.1 c.args.clerk.now c.pay.new.clerk c.args.entry g.h c.args.messages.items r.1.0 r.1.1.0 r.1.1.1.0 c.pay.ensures.paid.paid (c.pay.ensures.paid.view ∙ ap (λ (v : OcrView). raising v c.pay.ensures.paid.paid) c.reserve.ensures.same.1) (c.pay.ensures.hand.1 ∙ c.reserve.ensures.same.2) affords light

pub returns-in-At-clause-stays : goal.returns-in-At-clause-stays
returns-in-At-clause-stays g c =
    let mid = c.pay.new.clerk in
    commit_stays c.args.job.now.turns.now c.args.job.now.program.now c.args.clerk.now mid c.commit_at_hand.new.clerk c.args.entry (at_hand mid.parts) c.args.messages.items c.requires.1.1.0 (c.pay.ensures.hand.0 ∙ c.reserve.ensures.same.0) c.pay.ensures.paid.paid (c.pay.ensures.paid.view ∙ ap (λ (v : OcrView). raising v c.pay.ensures.paid.paid) c.reserve.ensures.same.1) c.commit_at_hand.result c.commit_at_hand.ensures

pub returns-in-At-clause-work : goal.returns-in-At-clause-work
returns-in-At-clause-work g c =
    let r = c.requires.1.1 in let mid = c.pay.new.clerk in let same = c.reserve.ensures.same in
    let light : c.args.clerk.now.view.weight + weight_of c.args.entry ≤ c.args.job.now.turns.now.1.share =
    let a = c.if-weight-share.false in let b = c.share.ensures in let d = c.weight.ensures in let e = c.weight-weight.ensures in let l = r.0.light in omega (arith, a, b, d, e, l) in
    let affords = paid_affords c.args.job.now.turns.now.1 c.args.clerk.now.view c.reserve.new.clerk.view c.pay.new.clerk.view c.args.entry (at_hand c.pay.new.clerk.parts) c.args.messages.items [] _ (let l = c.len-2.ensures in let u = c.making_units.ensures.is in omega (arith, l, u)) (sym c.requires.1.1.1.1.1.1.1.1) c.reserve.ensures.same.1 c.pay.ensures.paid in
    commit_work c.args.job.now.turns.now c.args.job.now.program.now c.args.clerk.now mid c.commit_at_hand.new.clerk c.args.entry (at_hand mid.parts) c.args.messages.items r.0 (c.pay.ensures.hand.0 ∙ same.0) c.pay.ensures.paid.paid (c.pay.ensures.paid.view ∙ ap (λ (v : OcrView). raising v c.pay.ensures.paid.paid) c.reserve.ensures.same.1)
    c.in-At._number c.pay.ensures.paid.most affords r.1.1.0.1.goes light (let x = c.pay.ensures.hand.2.0 in let y = c.in-Ok.ensures.room.0 in omega (arith, x, y)) (let s = same.3 in let x = c.pay.ensures.hand.2.1 in omega (arith, s, x)) (c.pay.ensures.hand.1 ∙ c.reserve.ensures.same.2) r.0.spare c.in-At.ensures

pub returns-in-At-clause-entered : goal.returns-in-At-clause-entered
returns-in-At-clause-entered g c =
    let r = c.requires.1.1 in let t = c.args.job.now.turns.now.1 in let mid = c.pay.new.clerk in let same = c.reserve.ensures.same in
    enters_as t c.in-At._number c.args.clerk.now mid c.commit_at_hand.new.clerk c.args.entry g.h (at_hand mid.parts) c.args.messages.items c.pay.ensures.paid.paid (c.pay.ensures.paid.view ∙ ap (λ (v : OcrView). raising v c.pay.ensures.paid.paid) c.reserve.ensures.same.1) (c.pay.ensures.hand.1 ∙ c.reserve.ensures.same.2)
    (still_step t c.args.clerk.now mid c.args.entry g.h c.args.messages.items r.1.0 r.1.1.0 r.1.1.1.0 c.pay.ensures.paid.paid (c.pay.ensures.paid.view ∙ ap (λ (v : OcrView). raising v c.pay.ensures.paid.paid) c.reserve.ensures.same.1) (c.pay.ensures.hand.1 ∙ c.reserve.ensures.same.2)) c.in-At.ensures

pub returns-in-At-clause-hand : goal.returns-in-At-clause-hand
returns-in-At-clause-hand g c =
    let r = c.requires.1.1 in let t = c.args.job.now.turns.now.1 in let mid = c.pay.new.clerk in let same = c.reserve.ensures.same in
    c.in-At.ensures.4 ∙ (same_hand t c.args.clerk.now mid c.args.entry g.h c.args.messages.items r.1.0 r.1.1.0 r.1.1.1.0 c.pay.ensures.paid.paid (c.pay.ensures.paid.view ∙ ap (λ (v : OcrView). raising v c.pay.ensures.paid.paid) c.reserve.ensures.same.1) (c.pay.ensures.hand.1 ∙ c.reserve.ensures.same.2) ∙ (c.pay.ensures.hand.1 ∙ c.reserve.ensures.same.2))

pub returns-in-Closed-clause-stays : goal.returns-in-Closed-clause-stays
returns-in-Closed-clause-stays g c =
    let mid = c.pay.new.clerk in
    commit_stays c.args.job.now.turns.now c.args.job.now.program.now c.args.clerk.now mid c.commit_at_hand.new.clerk c.args.entry (at_hand mid.parts) c.args.messages.items c.requires.1.1.0 (c.pay.ensures.hand.0 ∙ c.reserve.ensures.same.0) c.pay.ensures.paid.paid (c.pay.ensures.paid.view ∙ ap (λ (v : OcrView). raising v c.pay.ensures.paid.paid) c.reserve.ensures.same.1) c.commit_at_hand.result c.commit_at_hand.ensures

pub returns-in-Closed-clause-gone : goal.returns-in-Closed-clause-gone
returns-in-Closed-clause-gone g c =
    let mid = c.pay.new.clerk in
    commit_left c.args.job.now.turns.now c.args.job.now.program.now c.args.clerk.now mid c.commit_at_hand.new.clerk c.args.entry (at_hand mid.parts) c.args.messages.items c.requires.1.1.0 (c.pay.ensures.hand.0 ∙ c.reserve.ensures.same.0) c.pay.ensures.paid.paid (c.pay.ensures.paid.view ∙ ap (λ (v : OcrView). raising v c.pay.ensures.paid.paid) c.reserve.ensures.same.1) c.args.worker c.in-Closed.word c.in-Closed.ensures

pub pay-requires-clause-work : goal.pay-requires-clause-work
pay-requires-clause-work g c =
    let same = c.reserve.ensures.same in
    work_still c.args.job.now.turns.now c.args.job.now.program.now c.args.clerk.now c.reserve.new.clerk c.args.clerk.now.view c.requires.1.1.0 same.0 same.1 (still c.args.clerk.now.view) c.reserve.ensures.grows.0
    (let s = same.3 in let l = ap length same.2 in omega (arith, s, l))

pub pay-requires-clause-duties : goal.pay-requires-clause-duties
pay-requires-clause-duties g c = subst HasFewDuties (sym c.reserve.ensures.same.1) c.requires.1.1.1.1.1.1.1.0

pub pay-requires-clause-light : goal.pay-requires-clause-light
pay-requires-clause-light g c =
    let r = c.requires.1.1 in
    let a = c.if-weight-share.false in let b = c.share.ensures in let d = c.weight.ensures in let e = c.weight-weight.ensures in let l = r.0.light in
    let one = lawful.weighs c.args.entry r.1.1.0.1.goes in let w = ap (λ (v : OcrView). v.weight) c.reserve.ensures.same.1 in omega (arith, a, b, d, e, l, one, w)
