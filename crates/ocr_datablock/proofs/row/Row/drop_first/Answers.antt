use Rattle.std.proofs.Common.{drop, ◌∙◌, ap}
use Rattle.std.proofs.lemmas.List.{drop-drop}
use Rattle.ocr_datablock.proofs.row.Row.drop_first.Goals as goal

pub loop-taken-preserved : goal.loop-taken-preserved
loop-taken-preserved c = c.pop_first.ensures ∙ ap (drop 1) c.loop-taken.invariant ∙ drop-drop 1 c.loop-taken._taken c.args.self.now
