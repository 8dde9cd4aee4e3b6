use Rattle.std.proofs.Common.{length, subst}
use Rattle.ocr_memory_model_rows.specs.Bundles.{IsNoted}
use Rattle.ocr_memory_model_rows.proofs.Notes.{noted_none, noted_some}
use Rattle.ocr_memory_model_rows.proofs.bundles.Bundles.note.Goals as goal

pub returns-in_ok-add : goal.returns-in_ok-add
returns-in_ok-add c = λ g causes f h are next same.
    noted_some g causes f h c.in-Some.number c.args.row.now c.args.self.now _ are next (subst (λ o. IsNoted o (length g) f h) c.in-Some.is same) c.in_ok-add.ensures.has c.in_ok-add.ensures.room

pub returns-in_default : goal.returns-in_default
returns-in_default c = λ g causes f h are next same.
    noted_none g causes f h c.args.self.now are (subst (λ o. IsNoted o (length g) f h) c.in_default.is same)
