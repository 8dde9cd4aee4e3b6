use Rattle.ocr_machine_parts.specs.declared.part.Part.TheVariants as part
use Rattle.ocr_worker_access.proofs.Phases.{core_found}
use Rattle.ocr_worker_access.proofs.end_step.end_core.Goals as goal

pub lift-requires : goal.lift-requires
lift-requires c = let r = c.requires in (part.Core r.0, core_found c.args.place c.args.clerk.now.parts r.0 r.1 r.2)
