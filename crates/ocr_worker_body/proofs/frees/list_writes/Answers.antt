use Rattle.ocr_machine_parts.specs.declared.part.Part.TheVariants as part
use Rattle.ocr_worker_body.proofs.Stepped.{core_found}
use Rattle.ocr_worker_body.proofs.frees.list_writes.Goals as goal

pub lift-requires : goal.lift-requires
lift-requires c = (part.Core c.requires.0, core_found c.args.place c.args.clerk.now c.requires.0 c.requires.1)
