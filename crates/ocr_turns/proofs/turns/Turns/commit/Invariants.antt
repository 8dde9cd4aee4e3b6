use Rattle.std.specs.Prelude.{Some}
use Rattle.ocr_turns_rule.specs.Steps.{deed}
use Rattle.ocr_turns.proofs.turns.Turns.commit.Given as goal

abbrev pub ghosts-step_commit : goal.ghosts-step_commit
ghosts-step_commit g a = record { deed = Some (deed g.M.Machine.meaning a.self.now.1.limit a.seat.now.me.0 a.entry.now a.change.now.parts.items a.change.now.messages.items) }
