use Rattle.std.proofs.Common.{inl, inr, length, sym, ◌∙◌, ap, arith}
use Rattle.std.specs.Prelude.{slice_index}
use Rattle.std.specs.Int.RustNames.{bit_or}
use Rattle.std.specs.Int.Bits.{or_zero_r}
use Rattle.std.proofs.lemmas.List.{get_or_past}
use Rattle.ocr_memory_model_rows.proofs.Bits.{has_joined, split}
use Rattle.ocr_memory_model_rows.proofs.row.join_words.Goals as goal

pub returns-clause-has : goal.returns-clause-has
returns-clause-has c = has_joined c.loop-i.words c.args.words.now c.args.others.now (λ j.
    elim (split j (length c.args.others.now)) [
      | inl h ↦ c.loop-i.invariant.done j (omega arith)
      | inr h ↦
          c.loop-i.invariant.rest j (omega arith) ∙ sym (ap (λ x. bit_or (slice_index c.args.words.now j) x)
          (get_or_past c.args.others.now j 0 h) ∙ or_zero_r (slice_index c.args.words.now j))
    ])
