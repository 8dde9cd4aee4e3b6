use Rattle.std.proofs.Common.{◌∙◌, ap, subst, sym}
use Rattle.std.proofs.lemmas.Result.{IfOk-weaker}
use Rattle.ocr_memory_model.specs.Orders.{setting_in}
use Rattle.ocr_machine_history.specs.History.{history_of}
use Rattle.ocr_machine_parts.specs.Legal.{IsRun}
use Rattle.ocr_machine_parts.specs.Parts.{Parts}
use Rattle.ocr_report.specs.Blocks.{blocks_text}
use Rattle.ocr_report.specs.Faces.{blocks_in}
use Rattle.ocr_report.proofs.BlocksText.{blocks_told}
use Rattle.ocr_report.proofs.blocks.blocks_text.Goals as goal

pub returns : goal.returns
returns c = IfOk-weaker c.blocks_in.result _ _ (λ text is.
    let s = setting_in c.args.setting.now c.args.limit in
    is
    ∙ ap (λ (f : Parts). blocks_in f.face c.in_ok-table.table.limit) c.in_ok-table.ensures.parts
    ∙ ap (blocks_in _) c.in_ok-table.ensures.limit
    ∙ blocks_told s (history_of c.entries.result.now) (subst (λ entries. IsRun s (history_of entries)) (sym c.entries.ensures) c.requires.run)
    ∙ ap (λ entries. blocks_text s (history_of entries)) c.entries.ensures) c.blocks_in.ensures
