use Rattle.std.proofs.Common.{◌≡◌, ◌≤◌, ◌*◌, ◌∙◌, ◌+◌, ℕ, ap, sym, subst}
use Rattle.ocr_machine_parts.specs.declared.part.Part.TheVariants as part
use Rattle.ocr_machine_parts.specs.Kinds.{next_in, progress_in}
use Rattle.ocr_turns_rule.specs.Contract.{GiveTells, MayGive}
use Rattle.ocr_turns_rule.specs.Sums.{find}
use Rattle.ocr_worker_clerk.proofs.Puts.{item_same}
use Rattle.ocr_worker_acquisition.specs.Rounds.{next_block}
use Rattle.ocr_worker_acquisition.proofs.Faces.{name_none, none_is}
use Rattle.ocr_worker_acquisition.proofs.Takes.{core_found}
use Rattle.ocr_worker_acquisition.proofs.Through.{past_act, past_may, past_place, past_readies, past_runs, past_stays, past_work}
use Rattle.ocr_worker_machine.specs.Clerks.{OcrView}
use Rattle.ocr_worker_machine.specs.Ocr.{meaning}
use Rattle.ocr_worker_clerk.proofs.Goes.{stays_both}
use Rattle.ocr_worker_acquisition.specs.Rounds.{hand_of}
use Rattle.ocr_worker_acquisition.proofs.Holds.{holds_given}
use Rattle.ocr_worker_acquisition.proofs.Parks.{carries, done_act, gave_stays, has_waited_by, let_wait_by, taken_after}
use Rattle.ocr_worker_clerk.proofs.Push.{kept_readies}
use Rattle.ocr_worker_acquisition.proofs.Readied.{gave_readies}
use Rattle.ocr_worker_acquisition.proofs.rounds.act_at_block.Goals as goal

pub carry_out-requires : goal.carry_out-requires
carry_out-requires g c κs within =
    let a = c.args in let r = c.requires in
    let its = carries a.job.now.turns.now.1 a.edt a.block a.first a.payloads.now a.act a.clerk.now r.apart r.block r.can in
    (within.0, (within.1, (r.work, (r.apart, (r.block, its)))))

pub park_two-requires-clause-taken : goal.park_two-requires-clause-taken
park_two-requires-clause-taken g c =
    let table = c.args.job.now.turns.now in let program = c.args.job.now.program.now in let t = table.1 in
    let edt = c.args.edt in let d = c.args.block in let first = c.args.first in let payloads = c.args.payloads.now in
    let old = c.args.clerk.now in let r = c.requires in
    let its = carries t edt d first payloads c.args.act old r.apart r.block r.can in
    taken_after t edt d first payloads c.args.act (hand_of old edt payloads) old c.carry_out.new.clerk r.apart r.block its c.in_ok-carry_out.ensures.entered

pub park_two-requires-clause-waits : goal.park_two-requires-clause-waits
park_two-requires-clause-waits g c =
    let table = c.args.job.now.turns.now in let program = c.args.job.now.program.now in let t = table.1 in
    let edt = c.args.edt in let d = c.args.block in let first = c.args.first in let payloads = c.args.payloads.now in
    let old = c.args.clerk.now in let r = c.requires in
    let its = carries t edt d first payloads c.args.act old r.apart r.block r.can in
    let_wait_by t edt d first payloads c.args.act (hand_of old edt payloads) old c.carry_out.new.clerk r.apart r.block (sym c.is_wait.ensures ∙ c.if-is_wait.true) its c.in_ok-carry_out.ensures.entered

pub returns-then-is_wait-clause-met : goal.returns-then-is_wait-clause-met
returns-then-is_wait-clause-met g c =
    let table = c.args.job.now.turns.now in let program = c.args.job.now.program.now in let t = table.1 in
    let edt = c.args.edt in let d = c.args.block in let first = c.args.first in let payloads = c.args.payloads.now in
    let old = c.args.clerk.now in let r = c.requires in
    (c.park_two.ensures.idle, has_waited_by t edt d c.args.act (hand_of old edt payloads) old c.carry_out.new.clerk c.park_two.new.clerk (sym c.is_wait.ensures ∙ c.if-is_wait.true) c.in_ok-carry_out.ensures.entered c.park_two.ensures.view)

pub part-requires : goal.part-requires
part-requires g c =
    let table = c.args.job.now.turns.now in let program = c.args.job.now.program.now in let t = table.1 in
    let edt = c.args.edt in let d = c.args.block in let first = c.args.first in let payloads = c.args.payloads.now in
    let old = c.args.clerk.now in let k = c.carry_out.new.clerk in let r = c.requires in let e = c.in_ok-carry_out.ensures in
    let its = carries t edt d first payloads c.args.act old r.apart r.block r.can in
    let goes = sym c.is_wait.ensures ∙ c.if-is_wait.false in
    let is_past = past_act t edt d first payloads c.args.act (hand_of old edt payloads) old k r.apart r.block goes its e.entered in
    let core = is_past.knows.three.core in
    (part.Core core, (λ i. find (c.limit.ensures i + c.edt.view_is i) k.parts) ∙ core_found t edt d first k is_past.knows.three r.apart r.block)

pub give_two-requires-clause-taken : goal.give_two-requires-clause-taken
give_two-requires-clause-taken g c =
    let table = c.args.job.now.turns.now in let program = c.args.job.now.program.now in let t = table.1 in
    let edt = c.args.edt in let d = c.args.block in let first = c.args.first in let payloads = c.args.payloads.now in
    let old = c.args.clerk.now in let k = c.carry_out.new.clerk in let r = c.requires in let e = c.in_ok-carry_out.ensures in
    let its = carries t edt d first payloads c.args.act old r.apart r.block r.can in
    let goes = sym c.is_wait.ensures ∙ c.if-is_wait.false in
    let done = done_act table program edt d first payloads c.args.act (hand_of old edt payloads) old k r.apart r.block r.unbegun e.stays e.work goes its e.entered in
    done.taken

pub give_two-requires-clause-keeps : goal.give_two-requires-clause-keeps
give_two-requires-clause-keeps g c =
    let table = c.args.job.now.turns.now in let program = c.args.job.now.program.now in let t = table.1 in
    let edt = c.args.edt in let d = c.args.block in let first = c.args.first in let payloads = c.args.payloads.now in
    let old = c.args.clerk.now in let k = c.carry_out.new.clerk in let r = c.requires in let e = c.in_ok-carry_out.ensures in
    let its = carries t edt d first payloads c.args.act old r.apart r.block r.can in
    let goes = sym c.is_wait.ensures ∙ c.if-is_wait.false in
    let done = done_act table program edt d first payloads c.args.act (hand_of old edt payloads) old k r.apart r.block r.unbegun e.stays e.work goes its e.entered in
    done.keeps

pub returns-in-Some-clause-stays : goal.returns-in-Some-clause-stays
returns-in-Some-clause-stays g c =
    let k = c.carry_out.new.clerk in let new = c.give_two.new.clerk in
    stays_both c.args.clerk.now k new c.in_ok-carry_out.ensures.stays (gave_stays k new c.give_two.ensures.gave)

pub returns-in-Some-clause-met : goal.returns-in-Some-clause-met
returns-in-Some-clause-met g c =
    let table = c.args.job.now.turns.now in let program = c.args.job.now.program.now in let t = table.1 in
    let edt = c.args.edt in let d = c.args.block in let first = c.args.first in let payloads = c.args.payloads.now in
    let old = c.args.clerk.now in let k = c.carry_out.new.clerk in let r = c.requires in let e = c.in_ok-carry_out.ensures in
    let its = carries t edt d first payloads c.args.act old r.apart r.block r.can in
    let goes = sym c.is_wait.ensures ∙ c.if-is_wait.false in
    let done = done_act table program edt d first payloads c.args.act (hand_of old edt payloads) old k r.apart r.block r.unbegun e.stays e.work goes its e.entered in
    holds_given t edt k c.give_two.new.clerk done.core done.shown c.give_two.ensures.gave

pub give_back-requires-clause-place : goal.give_back-requires-clause-place
give_back-requires-clause-place g c =
    let table = c.args.job.now.turns.now in let program = c.args.job.now.program.now in let t = table.1 in
    let edt = c.args.edt in let d = c.args.block in let first = c.args.first in let payloads = c.args.payloads.now in
    let old = c.args.clerk.now in let k = c.carry_out.new.clerk in let r = c.requires in let e = c.in_ok-carry_out.ensures in
    let its = carries t edt d first payloads c.args.act old r.apart r.block r.can in
    let goes = sym c.is_wait.ensures ∙ c.if-is_wait.false in
    let is_past = past_act t edt d first payloads c.args.act (hand_of old edt payloads) old k r.apart r.block goes its e.entered in
    subst (λ (n : ℕ). n ≤ 2 * t.limit) (sym c.block.view_is) (past_place t edt d first payloads k is_past r.apart r.block)

pub give_back-requires-clause-may : goal.give_back-requires-clause-may
give_back-requires-clause-may g c =
    let table = c.args.job.now.turns.now in let program = c.args.job.now.program.now in let t = table.1 in
    let edt = c.args.edt in let d = c.args.block in let first = c.args.first in let payloads = c.args.payloads.now in
    let old = c.args.clerk.now in let k = c.carry_out.new.clerk in let r = c.requires in let e = c.in_ok-carry_out.ensures in
    let its = carries t edt d first payloads c.args.act old r.apart r.block r.can in
    let goes = sym c.is_wait.ensures ∙ c.if-is_wait.false in
    let is_past = past_act t edt d first payloads c.args.act (hand_of old edt payloads) old k r.apart r.block goes its e.entered in
    λ _. subst (λ (n : ℕ). MayGive meaning t k.view k.parts n) (sym c.block.view_is) (past_may t edt d first payloads k is_past r.apart r.block)

pub returns-clause-stays : goal.returns-clause-stays
returns-clause-stays g c =
    let table = c.args.job.now.turns.now in let program = c.args.job.now.program.now in let t = table.1 in
    let edt = c.args.edt in let d = c.args.block in let first = c.args.first in let payloads = c.args.payloads.now in
    let old = c.args.clerk.now in let k = c.carry_out.new.clerk in let r = c.requires in let e = c.in_ok-carry_out.ensures in
    let its = carries t edt d first payloads c.args.act old r.apart r.block r.can in
    let goes = sym c.is_wait.ensures ∙ c.if-is_wait.false in
    let is_past = past_act t edt d first payloads c.args.act (hand_of old edt payloads) old k r.apart r.block goes its e.entered in
    let last = c.give_back.new.clerk in let tells = subst (λ (n : ℕ). GiveTells k last n) c.block.view_is c.give_back.ensures in
    stays_both old k last e.stays (past_stays t edt d first payloads k is_past r.apart r.block last e.work.is_open tells)

pub returns-clause-work : goal.returns-clause-work
returns-clause-work g c =
    let table = c.args.job.now.turns.now in let program = c.args.job.now.program.now in let t = table.1 in
    let edt = c.args.edt in let d = c.args.block in let first = c.args.first in let payloads = c.args.payloads.now in
    let old = c.args.clerk.now in let k = c.carry_out.new.clerk in let r = c.requires in let e = c.in_ok-carry_out.ensures in
    let its = carries t edt d first payloads c.args.act old r.apart r.block r.can in
    let goes = sym c.is_wait.ensures ∙ c.if-is_wait.false in
    let is_past = past_act t edt d first payloads c.args.act (hand_of old edt payloads) old k r.apart r.block goes its e.entered in
    let last = c.give_back.new.clerk in let tells = subst (λ (n : ℕ). GiveTells k last n) c.block.view_is c.give_back.ensures in
    past_work t edt d first payloads k is_past r.apart r.block last e.work.is_open tells table program e.work

pub returns-clause-met : goal.returns-clause-met
returns-clause-met g c =
    let table = c.args.job.now.turns.now in let program = c.args.job.now.program.now in let t = table.1 in
    let edt = c.args.edt in let d = c.args.block in let first = c.args.first in let payloads = c.args.payloads.now in
    let old = c.args.clerk.now in let k = c.carry_out.new.clerk in let r = c.requires in let e = c.in_ok-carry_out.ensures in
    let its = carries t edt d first payloads c.args.act old r.apart r.block r.can in
    let goes = sym c.is_wait.ensures ∙ c.if-is_wait.false in
    let is_past = past_act t edt d first payloads c.args.act (hand_of old edt payloads) old k r.apart r.block goes its e.entered in
    let last = c.give_back.new.clerk in let tells = subst (λ (n : ℕ). GiveTells k last n) c.block.view_is c.give_back.ensures in
    let core = is_past.knows.three.core in
    let same : c.part.result.now ≡ part.Core core = item_same c.part.result.now (part.Core core)
    (sym c.part.ensures ∙ ((λ i. find (c.limit.ensures i + c.edt.view_is i) k.parts) ∙ core_found t edt d first k is_past.knows.three r.apart r.block)) in
    let none = name_none (next_in (progress_in core.edt))
    (sym (ap next_block (sym same) ∙ (sym c.next_of.ensures ∙ none_is c.next_of.result (λ x is. c.in_default.not-Some x is)))) in
    past_runs t edt d first payloads k is_past r.apart r.block last e.work.is_open tells none

pub returns-then-is_wait-clause-readied : goal.returns-then-is_wait-clause-readied
returns-then-is_wait-clause-readied g c =
    let table = c.args.job.now.turns.now in let k = c.carry_out.new.clerk in
    ap (λ (v : OcrView). v.debts.readied) c.park_two.ensures.view ∙ kept_readies table.1 c.args.clerk.now k _ _ c.in_ok-carry_out.ensures.entered

pub returns-in-Some-clause-readied : goal.returns-in-Some-clause-readied
returns-in-Some-clause-readied g c =
    let table = c.args.job.now.turns.now in let k = c.carry_out.new.clerk in
    gave_readies k c.give_two.new.clerk c.give_two.ensures.gave ∙ kept_readies table.1 c.args.clerk.now k _ _ c.in_ok-carry_out.ensures.entered

pub returns-clause-readied : goal.returns-clause-readied
returns-clause-readied g c =
    let table = c.args.job.now.turns.now in let program = c.args.job.now.program.now in let t = table.1 in
    let edt = c.args.edt in let d = c.args.block in let first = c.args.first in let payloads = c.args.payloads.now in
    let old = c.args.clerk.now in let k = c.carry_out.new.clerk in let r = c.requires in let e = c.in_ok-carry_out.ensures in
    let its = carries t edt d first payloads c.args.act old r.apart r.block r.can in
    let goes = sym c.is_wait.ensures ∙ c.if-is_wait.false in
    let is_past = past_act t edt d first payloads c.args.act (hand_of old edt payloads) old k r.apart r.block goes its e.entered in
    let last = c.give_back.new.clerk in let tells = subst (λ (n : ℕ). GiveTells k last n) c.block.view_is c.give_back.ensures in
    past_readies t edt d first payloads k is_past r.apart r.block last e.work.is_open tells ∙ kept_readies t old k _ _ e.entered
