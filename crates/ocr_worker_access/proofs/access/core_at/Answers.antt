use Rattle.std.proofs.Common.{Some}
use Rattle.ocr_machine_parts.specs.declared.part.Part.TheVariants as part
use Rattle.ocr_worker_access.proofs.Stored.{one_found}
use Rattle.ocr_worker_access.proofs.access.core_at.Goals as goal

pub part-requires : goal.part-requires
part-requires c = (part.Core c.requires.0, one_found c.args.place (Some (part.Core c.requires.0)) c.args.clerk.now.parts c.requires.1)
