use Rattle.std.proofs.Common.{ap, subst}
use Rattle.ocr_body_meaning.specs.Holds.{is_done}
use Rattle.ocr_body_meaning.specs.declared.call.Call as body
use Rattle.ocr_worker_calls.specs.Calls.{IsLet}
use Rattle.ocr_worker_calls.proofs.made.edt_made.Goals as goal

pub slots_meant-requires : goal.slots_meant-requires
slots_meant-requires c = subst (λ (k : body.Call). IsLet k c.args.answer.now.code c.args.parts.now) c.in-EdtCreate.is c.requires (ap is_done c.in-Done.is)
