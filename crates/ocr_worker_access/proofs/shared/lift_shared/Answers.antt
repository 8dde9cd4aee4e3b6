use Rattle.std.proofs.Common.{◌+◌, ◌∷◌, [], ℕ, List, length, Option, ap, ◌∙◌}
use Rattle.ocr_machine_parts.specs.declared.part.Part.{Part}
use Rattle.ocr_worker_machine.specs.Clerks.{OcrView}
use Rattle.ocr_worker_clerk.proofs.Push.{took_readies}
use Rattle.ocr_worker_clerk.proofs.Whole.{lifted_length, lifted_work}
use Rattle.ocr_worker_access.proofs.Accessed.{face_low, pair_at_hand, pair_lifted, pair_once, word_lifted}
use Rattle.ocr_worker_access.proofs.shared.lift_shared.Goals as goal

pub take_part-requires-clause-place : goal.take_part-requires-clause-place
take_part-requires-clause-place g c =
    let r = c.requires.1.1 in let a = c.args in
    face_low a.job.now.turns.now a.job.now.program.now a.edt a.block r.1.1.0 g.b a.clerk.now r.0 r.1.0 r.1.1.1 c.block.inside.0 c.block.view_is

pub lift_parts-requires-clause-hand : goal.lift_parts-requires-clause-hand
lift_parts-requires-clause-hand g c =
    let r = c.requires.1.1 in let a = c.args in let e = c.in_ok-take_part.ensures in
    pair_at_hand a.job.now.turns.now a.job.now.program.now a.edt a.block r.1.1.0 g.b a.clerk.now r.0 r.1.0 r.1.1.1 c.take_part.new.clerk c.block.inside.0 c.block.view_is e.took e.work
    ((c.limit.result + c.edt.inside.0) ∷ c.block.inside.0 ∷ []) (λ i. (c.limit.ensures i + c.edt.view_is i) ∷ c.block.view_is i ∷ [])

pub lift_parts-requires-clause-once : goal.lift_parts-requires-clause-once
lift_parts-requires-clause-once g c =
    let r = c.requires.1.1 in let a = c.args in let e = c.in_ok-take_part.ensures in
    pair_once a.job.now.turns.now a.job.now.program.now a.edt a.block r.1.1.0 g.b a.clerk.now r.0 r.1.0 r.1.1.1 c.take_part.new.clerk c.block.inside.0 c.block.view_is e.took e.work

pub returns-clause-work : goal.returns-clause-work
returns-clause-work g c =
    let e = c.in-Ok.ensures in
    lifted_work c.args.job.now.turns.now c.args.job.now.program.now c.take_part.new.clerk c.lift_parts.new.clerk c.in_ok-take_part.ensures.work e.same.0 e.same.1 e.same.2 (ap (λ (l : List (ℕ × Option Part)). length l) e.left ∙ lifted_length c.take_part.new.clerk.parts)

pub returns-clause-lifted : goal.returns-clause-lifted
returns-clause-lifted g c =
    let r = c.requires.1.1 in let a = c.args in let e = c.in_ok-take_part.ensures in let l = c.in-Ok.ensures in
    pair_lifted a.job.now.turns.now a.job.now.program.now a.edt a.block r.1.1.0 g.b a.clerk.now r.0 r.1.0 r.1.1.1 c.take_part.new.clerk c.block.inside.0 c.block.view_is e.took e.work
    c.lift_parts.new.clerk c.in-Ok.parts.items l.same.1 l.parts l.left

pub returns-clause-words : goal.returns-clause-words
returns-clause-words g c =
    let r = c.requires.1.1 in let a = c.args in let e = c.in_ok-take_part.ensures in let l = c.in-Ok.ensures in
    word_lifted a.job.now.turns.now a.job.now.program.now a.edt a.block g.b a.clerk.now c.lift_parts.new.clerk c.in-Ok.parts.items
    (lifted_work a.job.now.turns.now a.job.now.program.now c.take_part.new.clerk c.lift_parts.new.clerk e.work l.same.0 l.same.1 l.same.2 (ap (λ (ps : List (ℕ × Option Part)). length ps) l.left ∙ lifted_length c.take_part.new.clerk.parts))
    r.1.0
    (pair_lifted a.job.now.turns.now a.job.now.program.now a.edt a.block r.1.1.0 g.b a.clerk.now r.0 r.1.0 r.1.1.1 c.take_part.new.clerk c.block.inside.0 c.block.view_is e.took e.work
    c.lift_parts.new.clerk c.in-Ok.parts.items l.same.1 l.parts l.left)

pub returns-clause-readied : goal.returns-clause-readied
returns-clause-readied g c = ap (λ (v : OcrView). v.debts.readied) c.in-Ok.ensures.same.1 ∙ took_readies c.args.clerk.now c.take_part.new.clerk _ c.in_ok-take_part.ensures.took
