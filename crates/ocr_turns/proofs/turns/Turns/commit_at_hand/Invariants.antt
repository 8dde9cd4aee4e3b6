use Rattle.std.specs.Prelude.{Some}
use Rattle.ocr_turns_rule.specs.Steps.{deed}
use Rattle.ocr_turns.specs.Hand.{at_hand}
use Rattle.ocr_turns.proofs.turns.Turns.commit_at_hand.Given as goal

abbrev pub ghosts-step_at_hand : goal.ghosts-step_at_hand
ghosts-step_at_hand g a = record { deed = Some (deed g.M.Machine.meaning a.self.now.1.limit a.seat.now.me.0 a.entry.now (at_hand a._hand.now.items) a._messages.now.items) }
