use Rattle.std.proofs.Common.{◌≡◌, ◌∙◌, ⊎_elim, true, false, ap, sym}
use Rattle.ocr_worker_body.specs.Body.{is_for_memory}
use Rattle.ocr_worker_body.proofs.body.stop_body.Goals as goal

pub stop_run-requires : goal.stop_run-requires
stop_run-requires g c κs within =
    let r = c.requires.1.1 in
    let off : is_for_memory c.args.stop ≡ false = sym c.is_memory.ensures ∙ c.if-is_memory.false in (
      within.0,
      (
        within.1,
        (r.0, (r.1.0, ⊎_elim (λ memory. absurd (never (sym (ap is_for_memory memory) ∙ off))) (λ said. (said.0, said.1)) r.1.1)),
      ),
    )
  where
    never : true ≡ false → ⊥
    never is = cc is
