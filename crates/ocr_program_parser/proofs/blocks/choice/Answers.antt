use Rattle.ocr_program_tree.proofs.Rows.{if_view}
use Rattle.ocr_program_parser.proofs.blocks.choice.Goals as goal

pub returns : goal.returns
returns c = if_view _ _ _
