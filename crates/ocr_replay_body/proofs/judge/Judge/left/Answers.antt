use Rattle.std.proofs.Common.{arith}
use Rattle.ocr_body_steps.specs.Api.{refused_closed, refused_memory}
use Rattle.ocr_replay_body.proofs.judge.Judge.left.Goals as goal

pub returns-in-Ok-clause-refused : goal.returns-in-Ok-clause-refused
returns-in-Ok-clause-refused c = refused_closed (omega arith)

pub returns-in-Err-clause-refused : goal.returns-in-Err-clause-refused
returns-in-Err-clause-refused c = refused_memory
