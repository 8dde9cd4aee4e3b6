use Rattle.std.proofs.Common.{◌≡◌, ℕ, ◌∷◌, ◌∙◌, ap, sym, subst, rules}
use Rattle.ocr_acquire.specs.declared.Mode.{Mode}
use Rattle.ocr_datablock.specs.Block.{without}
use Rattle.ocr_datablock.specs.Steps.{StandOnce}
use Rattle.ocr_datablock.proofs.Lines.{without_first}
use Rattle.ocr_datablock.proofs.holders.Holders.remove.Goals as goal

pub returns-then-eq : goal.returns-then-eq
returns-then-eq c =
    let one : ℕ × Mode = (c.in-Some.holder, c.in-Some.field-0-1) in
    let shape : one ∷ c.self.inside.others ≡ c.args.self.now = rw c.in-Some.is at c.self.view_is in
    let once : StandOnce (one ∷ c.self.inside.others) = subst StandOnce (sym shape) c.requires in
    let same : c.in-Some.holder ≡ c.args.edt = search rules in
    sym (without_first one c.self.inside.others once.0) ∙ ap (λ k. without k (one ∷ c.self.inside.others)) same ∙ ap (without c.args.edt) shape
