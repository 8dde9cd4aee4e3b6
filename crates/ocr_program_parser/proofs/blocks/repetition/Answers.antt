use Rattle.ocr_program_tree.proofs.Rows.{while_view}
use Rattle.ocr_program_parser.proofs.blocks.repetition.Goals as goal

pub returns : goal.returns
returns c = while_view _ _
