use Rattle.std.proofs.Common.{◌∙◌, sym, subst}
use Rattle.ocr_journal_merge.proofs.Numbers.{history_by_number}
use Rattle.ocr_journal_merge.specs.Numbered.{AreByNumber}
use Rattle.ocr_journal_merge.proofs.merged.merge.Goals as goal

-- src/merged.rt:46:1
pub returns : goal.returns
returns c = λ history is.
    let told = subst (λ logs. AreByNumber logs history) (sym c.into_parts-logs.ensures) (history_by_number c.args.closing history is) in
    c.from_vec.ensures ∙ c.in_ok-entries.ensures history told
