-- Two texts on the races of a run are one; and how many entries they are of.
use Rattle.std.proofs.Common.{◌≡◌, ◌≤◌, ◌<◌, inl, inr, List, length, refl, ap, arith}
use Rattle.std.proofs.lemmas.Bool.{cases_lt}
use Rattle.std.proofs.lemmas.List.{length-reverse}
use Rattle.ocr_machine_history.specs.declared.entry.Entry.{Entry}
use Rattle.ocr_machine_history.specs.History.{history_of}
use Rattle.ocr_memory_model.specs.declared.happens_before.TheConstants.{MOST_ORDERED}
use Rattle.ocr_memory_model.proofs.Sole.{sole_law}
use Rattle.ocr_report.specs.Races.{races_told, told, unknown, SoleTextLaw}

pub sole_text_law : SoleTextLaw
sole_text_law s past text other (told races few are) (told others short also) = ap races_told (sole_law s past races others are also)
sole_text_law s past text other (told races few are) (unknown many) = absurd (omega (arith, few, many))
sole_text_law s past text other (unknown many) (told races few are) = absurd (omega (arith, few, many))
sole_text_law s past text other (unknown many) (unknown more) = refl

-- as many entries in the history as in the journal
pub few_past : (journal : List Entry) → (MOST_ORDERED < length journal → ⊥) → length (history_of journal) ≤ MOST_ORDERED
few_past journal never = elim (cases_lt MOST_ORDERED (length journal)) [
  | inl many ↦ absurd (never many)
  | inr few ↦ let same : length (history_of journal) ≡ length journal = length-reverse journal in omega (arith, same, few)
]

pub many_past : (journal : List Entry) → MOST_ORDERED < length journal → MOST_ORDERED < length (history_of journal)
many_past journal many =
    let same : length (history_of journal) ≡ length journal = length-reverse journal in omega (arith, same, many)
