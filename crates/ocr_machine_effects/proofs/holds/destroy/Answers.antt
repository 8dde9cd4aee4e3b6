use Rattle.std.proofs.Common.{◌∙◌, sym, ap, subst, Option}
use Rattle.ocr_datablock.specs.Lent.{Loan}
use Rattle.ocr_datablock.specs.Steps.{after_doom}
use Rattle.ocr_machine_parts.specs.Effects.{dropping_core, hold_ended}
use Rattle.ocr_machine_parts.specs.Progress.{with_face, with_core}
use Rattle.ocr_machine_parts.specs.Kinds.{IsBlock, with_block, on_core}
use Rattle.ocr_machine_parts.specs.Messages.{resumed_by_doom}
use Rattle.ocr_machine_parts.specs.Parts.{Parts}
use Rattle.ocr_machine_effects.specs.AtHand.{state, IsDoomable}
use Rattle.ocr_machine_effects.proofs.Places.{ok_map, ok_with, follow, into}
use Rattle.ocr_machine_effects.proofs.Steps.{dooming_lets}
use Rattle.ocr_machine_effects.proofs.holds.destroy.Goals as goal

pub doom_at-requires : goal.doom_at-requires
doom_at-requires c =
    let f : Parts = state c.args.parts.now in
    subst (λ (h : Parts). IsBlock (h.face c.args.block) (IsDoomable c.args.edt c.drop_core-lent.result)) (sym c.drop_core-lent.ensures.parts.state)
    (subst (λ (l : Option Loan). IsBlock (f.face c.args.block) (IsDoomable c.args.edt l)) (sym c.drop_core-lent.ensures.loan)
    (dooming_lets f c.args.edt c.args.block c.requires.live c.requires.agreed))

pub returns-clause-parts : goal.returns-clause-parts
returns-clause-parts c =
    let f : Parts = state c.args.parts.now in
    let t = c.args.edt in
    let d = c.args.block in
    let w = c.args.writes.now in
    ok_map c.doom_at.result c.doom_at.ensures.parts (λ is. into c.args.parts.now c.doom_at.new.parts _ _
    (follow c.args.parts.now c.drop_core-lent.new.parts c.doom_at.new.parts (with_core f t (on_core (f.core t) (dropping_core d))) (λ (h : Parts). with_face h d (with_block (h.face d) (hold_ended after_doom t w c.drop_core-lent.result)))
    c.drop_core-lent.ensures.parts is)
    (ap (λ (l : Option Loan). with_core (with_face f d (with_block (f.face d) (hold_ended after_doom t w l))) t (on_core (f.core t) (dropping_core d))) c.drop_core-lent.ensures.loan))

pub returns-clause-resumed : goal.returns-clause-resumed
returns-clause-resumed c =
    ok_with c.doom_at.result c.doom_at.ensures.resumed (λ r is. is ∙ ap (λ (h : Parts). resumed_by_doom (h.face c.args.block) c.args.edt) c.drop_core-lent.ensures.parts.state)
