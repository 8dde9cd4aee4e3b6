use Rattle.std.proofs.Common.{◌∙◌, sym}
use Rattle.ocr_program_parser.specs.View.{args_of, slots_after, site_of, position_of}
use Rattle.ocr_program.proofs.Marks.{list_goes}
use Rattle.ocr_program.proofs.lists.list_start.Goals as goal

pub returns : goal.returns
returns c =
    list_goes (position_of c.args.position) c.args.call (args_of c.args.args.items) c.new-2.result.items (slots_after c.args.call c.args.args.items) (site_of c.args.site) c.args.lexeme c.operand.result
    c.new-2.ensures.items (sym c.closes_list.ensures ∙ c.if-closes_list.false) c.operand.ensures
