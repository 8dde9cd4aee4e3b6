use Rattle.std.proofs.Common.{◌∙◌, ap, sym, subst}
use Rattle.ocr_worker_clerk.specs.Entry.{OcrKnown}
use Rattle.ocr_worker_acquisition.specs.Block.{WantsOther}
use Rattle.ocr_worker_acquisition.proofs.Holds.{holds_given}
use Rattle.ocr_worker_acquisition.proofs.Parks.{IsDone, done_other, if_none}
use Rattle.ocr_worker_acquisition.proofs.Readied.{gave_readies}
use Rattle.ocr_worker_acquisition.proofs.rounds.meet.Goals as goal

pub give_two-requires-clause-taken : goal.give_two-requires-clause-taken
give_two-requires-clause-taken g c =
    let table = c.args.job.now.turns.now in let t = table.1 in let r = c.requires in let old = c.args.clerk.now in
    let edt = c.args.edt in let d = c.args.block in let first = c.args.first in let payloads = c.args.payloads.now in
    let other : WantsOther t edt d first payloads old = if_none (WantsOther t edt d first payloads old) c.in_ok-act.field-0 (λ x is. c.in_default.not-Some x is) c.in_ok-act.ensures.other in
    let done = subst (λ (x : OcrKnown). IsDone t edt d first x) (sym c.in_ok-act.ensures.same) (done_other table c.args.job.now.program.now edt d first payloads old r.block r.unbegun r.work r.ready other) in
    done.taken

pub give_two-requires-clause-keeps : goal.give_two-requires-clause-keeps
give_two-requires-clause-keeps g c =
    let table = c.args.job.now.turns.now in let t = table.1 in let r = c.requires in let old = c.args.clerk.now in
    let edt = c.args.edt in let d = c.args.block in let first = c.args.first in let payloads = c.args.payloads.now in
    let other : WantsOther t edt d first payloads old = if_none (WantsOther t edt d first payloads old) c.in_ok-act.field-0 (λ x is. c.in_default.not-Some x is) c.in_ok-act.ensures.other in
    let done = subst (λ (x : OcrKnown). IsDone t edt d first x) (sym c.in_ok-act.ensures.same) (done_other table c.args.job.now.program.now edt d first payloads old r.block r.unbegun r.work r.ready other) in
    done.keeps

pub returns-in_default-clause-met : goal.returns-in_default-clause-met
returns-in_default-clause-met g c =
    let table = c.args.job.now.turns.now in let t = table.1 in let r = c.requires in let old = c.args.clerk.now in
    let edt = c.args.edt in let d = c.args.block in let first = c.args.first in let payloads = c.args.payloads.now in
    let other : WantsOther t edt d first payloads old = if_none (WantsOther t edt d first payloads old) c.in_ok-act.field-0 (λ x is. c.in_default.not-Some x is) c.in_ok-act.ensures.other in
    let done = subst (λ (x : OcrKnown). IsDone t edt d first x) (sym c.in_ok-act.ensures.same) (done_other table c.args.job.now.program.now edt d first payloads old r.block r.unbegun r.work r.ready other) in
    holds_given t edt c.decide.new.clerk c.give_two.new.clerk done.core done.shown c.give_two.ensures.gave

pub returns-in_default-clause-readied : goal.returns-in_default-clause-readied
returns-in_default-clause-readied g c =
    gave_readies c.decide.new.clerk c.give_two.new.clerk c.give_two.ensures.gave ∙ ap (λ (k : OcrKnown). k.view.debts.readied) c.in_ok-act.ensures.same
