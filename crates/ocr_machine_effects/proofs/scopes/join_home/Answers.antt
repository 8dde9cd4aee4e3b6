use Rattle.std.proofs.Common.{◌≡◌, true, arith}
use Rattle.std.proofs.lemmas.Grind.{common_steps}
use Rattle.ocr_machine_history.specs.Made.{names_new}
use Rattle.ocr_machine_effects.proofs.Places.{home_joined}
use Rattle.ocr_machine_effects.proofs.scopes.join_home.Goals as goal

pub returns-then-home-ne0 : goal.returns-then-home-ne0
returns-then-home-ne0 c =
    let on : names_new c.args.home c.args.home ≡ true = grind (arith, common_steps, c.if-home-ne0.true) in
    home_joined c.args.parts.now c.join_at.new.parts c.args.call.now c.args.home (rw c.in-EdtCreate.is on) c.join_at.ensures
