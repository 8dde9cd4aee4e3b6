use Rattle.std.proofs.Common.{◌∙◌, ℕ, ap, sym}
use Rattle.ocr_turns_rule.specs.Sums.{find}
use Rattle.ocr_worker_acquisition.proofs.Learnt.{ready_again, sees_fits}
use Rattle.ocr_worker_acquisition.proofs.Takes.{keeps_three, knows_three, three_slots}
use Rattle.ocr_worker_acquisition.proofs.block.read_three.Goals as goal

pub unreachable-requires : goal.unreachable-requires
unreachable-requires g c =
    let r = c.requires in
    let face = three_slots c.args.job.now.turns.now.1 c.args.edt c.args.block c.args.first c.args.clerk.now r.three r.apart r.block r.work.of_table.1 r.work.is_open r.ready c.part.result.now
    (ap (λ (n : ℕ). find n c.args.clerk.now.parts) (sym c.edt.view_is) ∙ c.part.ensures) in
    c.in_default.not-Edt face.0 face.1

pub read_payloads-requires-clause-face : goal.read_payloads-requires-clause-face
read_payloads-requires-clause-face g c =
    let r = c.requires in
    keeps_three c.args.job.now.turns.now.1 c.args.edt c.args.block c.args.first c.args.clerk.now r.three r.apart r.block c.part.result.now c.in-Edt.slots c.depc-count.result
    (ap (λ (n : ℕ). find n c.args.clerk.now.parts) (sym c.edt.view_is) ∙ c.part.ensures) c.in-Edt.is c.depc-count.ensures.number

pub read_payloads-requires-clause-sees : goal.read_payloads-requires-clause-sees
read_payloads-requires-clause-sees g c =
    let r = c.requires in
    sees_fits c.args.job.now.turns.now.1 c.args.clerk.now.view c.args.edt r.work.of_table.1 r.work.is_open r.ready

pub returns-clause-knows : goal.returns-clause-knows
returns-clause-knows g c =
    let r = c.requires in let e = c.in-Ok.ensures in
    knows_three c.args.job.now.turns.now.1 c.args.edt c.args.block c.args.first c.args.clerk.now r.three r.apart r.block c.part.result.now c.in-Edt.slots c.depc-count.result
    (ap (λ (n : ℕ). find n c.args.clerk.now.parts) (sym c.edt.view_is) ∙ c.part.ensures) c.in-Edt.is c.depc-count.ensures.number c.read_payloads.new.clerk c.in-Ok.payloads.items e.hand e.learns e.count e.known

pub returns-clause-ready : goal.returns-clause-ready
returns-clause-ready g c =
    let r = c.requires in let e = c.in-Ok.ensures in let t = c.args.job.now.turns.now.1 in
    let knows = knows_three t c.args.edt c.args.block c.args.first c.args.clerk.now r.three r.apart r.block c.part.result.now c.in-Edt.slots c.depc-count.result
    (ap (λ (n : ℕ). find n c.args.clerk.now.parts) (sym c.edt.view_is) ∙ c.part.ensures) c.in-Edt.is c.depc-count.ensures.number c.read_payloads.new.clerk c.in-Ok.payloads.items e.hand e.learns e.count e.known in
    ready_again t c.args.edt c.args.block c.args.first c.in-Ok.payloads.items c.args.clerk.now.view c.read_payloads.new.clerk knows r.block r.work.of_table.1 r.work.is_open r.ready e.learns e.sees
