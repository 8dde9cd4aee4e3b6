use Rattle.std.proofs.Common.{◌≡◌, ◌<◌, length, arith, ◌∙◌, refl}
use Rattle.std.proofs.lemmas.Bool.Decides.{nat_tests}
use Rattle.ocr_acquire.proofs.Writes.{length_written}
use Rattle.ocr_acquire.specs.Writes.{written}
use Rattle.ocr_datablock.specs.Replaced.{times}
use Rattle.ocr_datablock.proofs.Replaced.{told_in, stored_again}
use Rattle.ocr_datablock.proofs.loan.Lent.store.Goals as goal

pub store_first-requires-clause-first : goal.store_first-requires-clause-first
store_first-requires-clause-first c =
    let none : times c.args.word c.self.inside.replaced.items ≡ 0 = grind (arith, nat_tests, c.self.invariant.1.counted c.args.word) in
    rw (← c.self.view_is) (told_in c.self.inside.words.items c.args.word c.self.inside.replaced.items ∙ rw none refl)

pub returns-clause-state : goal.returns-clause-state
returns-clause-state c =
    let words = c.self.inside.words.items in
    let replaced = c.self.inside.replaced.items in
    let size : length (written replaced words) ≡ length words = length_written replaced words in
    let below : c.args.word < length words = grind arith in
    let some : 0 < times c.args.word replaced = grind (arith, nat_tests, c.self.invariant.1.counted c.args.word) in
    rw (← c.self.view_is) (stored_again c.self.inside.mode replaced words c.self.inside.is_listed c.args.word c.args.value below some)
