use Rattle.std.proofs.Common.{◌≡◌, [], refl, rules}
use Rattle.ocr_datablock.proofs.Lines.{writer_alone}
use Rattle.ocr_datablock.proofs.datablock.Block.lend.Goals as goal

pub invariant_of-self : goal.invariant_of-self
invariant_of-self c =
    let kept = c.self.invariant in
    let none : c.replace-marks.new.dest.items ≡ [] = search rules in
    (kept.0, λ none. cc, kept.2, writer_alone c.args.edt c.self.inside.holders kept.2 (rw (← c.self.view_is) at c.requires.writer), λ k. rw none refl, kept.5)
