use Rattle.std.proofs.Common.{refl}
use Rattle.ocr_program_tree.proofs.Rows.{creation_view}
use Rattle.ocr_program_parser.proofs.invocation.new_edt.Goals as goal

pub returns : goal.returns
returns c = (
  refl,
  creation_view c.args.template c.args.params.0 c.args.params.1 c.args.deps.0 c.args.deps.1 c.args.last.0 c.args.last.1,
)
