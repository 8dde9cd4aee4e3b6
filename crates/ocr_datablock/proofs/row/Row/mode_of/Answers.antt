use Rattle.std.proofs.Common.{◌∙◌, ap}
use Rattle.ocr_acquire.specs.Mode.{mode_in}
use Rattle.ocr_datablock.proofs.Rows.{lookup_named}
use Rattle.ocr_datablock.proofs.row.Row.mode_of.Goals as goal

pub returns : goal.returns
returns c =
    c.copied.ensures ∙ c.peek.ensures ∙ lookup_named c.edt.inside.0 c.args.edt c.self.inside.cache.entries c.edt.view_is c.self.invariant.1 ∙ ap (mode_in c.args.edt) c.self.view_is
