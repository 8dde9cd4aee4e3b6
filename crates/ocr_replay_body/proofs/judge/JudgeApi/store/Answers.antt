use Rattle.std.proofs.Common.{sym, ◌∙◌, ap}
use Rattle.ocr_replay_body.specs.Holds.{access_of}
use Rattle.ocr_replay_body.proofs.Steps.{silent_memory}
use Rattle.ocr_replay_body.proofs.judge.JudgeApi.store.Goals as goal

pub returns-in-Err-clause-refused : goal.returns-in-Err-clause-refused
returns-in-Err-clause-refused c = silent_memory _ _ c.in-Silent.field-0 (sym c.storing.ensures ∙ ap access_of c.in-Silent.is)
