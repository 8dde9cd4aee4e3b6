use Rattle.std.proofs.Common.{◌≡◌, ◌++◌, ◌∷◌, ◌+◌, ℕ, drop, get_or, ◌∙◌, ap, subst}
use Rattle.ocr_acquire.specs.declared.Mode.{Mode}
use Rattle.ocr_datablock.specs.Block.{without}
use Rattle.ocr_datablock.specs.Steps.{StandOnce}
use Rattle.ocr_datablock.proofs.Lines.{once_rest, without_middle, cut_at}
use Rattle.ocr_datablock.proofs.holders.Holders.take_off.Goals as goal

pub loop-edt-preserved : goal.loop-edt-preserved
loop-edt-preserved c = record {
  once = rw c.remove.ensures (once_rest _ c.loop-edt.self c.loop-edt.invariant.once);
  last = λ holders shape.
      let last = c.args.last.now in
      let i = c.loop-edt.edt-index in
      let one : ℕ × Mode = get_or last i c.loop-edt-item.result in
      let now : c.loop-edt.self ≡ holders ++ one ∷ drop (i + 1) last = c.loop-edt.invariant.last holders shape ∙ ap (λ tail. holders ++ tail) (cut_at last i c.loop-edt-item.result c.loop-edt-test.true) in
      let same : c.loop-edt-item.result ≡ one = c.loop-edt-item.is in
      c.remove.ensures ∙ ap (λ (item : ℕ × Mode). without item.0 c.loop-edt.self) same ∙ ap (without one.0) now
      ∙ without_middle one holders (drop (i + 1) last) (subst StandOnce now c.loop-edt.invariant.once);
}
