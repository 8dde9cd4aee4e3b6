use Rattle.std.proofs.Common.{◌≡◌, ◌<◌, ◌∷◌, [], ◌++◌, length, slice_index, slice_set, arith}
use Rattle.std.proofs.lemmas.Bool.{false≢true}
use Rattle.std.proofs.lemmas.Grind.{common_steps}
use Rattle.std.proofs.lemmas.List.{length-set}
use Rattle.ocr_acquire.proofs.Writes.{length_written}
use Rattle.ocr_acquire.specs.Writes.{written}
use Rattle.ocr_datablock.specs.Replaced.{times, IsMarked}
use Rattle.ocr_datablock.proofs.Replaced.{none_replaced, stored_first, marked_first, marked_made}
use Rattle.ocr_datablock.proofs.loan.Lent.store_first.Goals as goal

pub index-began-requires : goal.index-began-requires
index-began-requires c =
    let size : length (written c.self.inside.replaced.items c.self.inside.words.items) ≡ length c.self.inside.words.items = length_written c.self.inside.replaced.items c.self.inside.words.items in
    grind arith

pub index_mut-requires : goal.index_mut-requires
index_mut-requires c =
    let size : length (written c.self.inside.replaced.items c.self.inside.words.items) ≡ length c.self.inside.words.items = length_written c.self.inside.replaced.items c.self.inside.words.items in
    grind arith

pub index_mut-requires-2 : goal.index_mut-requires-2
index_mut-requires-2 c =
    let size : length (written c.self.inside.replaced.items c.self.inside.words.items) ≡ length c.self.inside.words.items = length_written c.self.inside.replaced.items c.self.inside.words.items in
    grind arith

pub invariant_of-self-2 : goal.invariant_of-self-2
invariant_of-self-2 c =
    let words = c.self.inside.words.items in
    let replaced = c.self.inside.replaced.items in
    let size : length (written replaced words) ≡ length words = length_written replaced words in
    let below : c.args.word < length words = grind arith in
    let none : times c.args.word replaced ≡ 0 = none_replaced words c.args.word replaced (rw (← c.self.view_is) at c.requires.first) in
    let made : IsMarked replaced c.make_marks.new.marks.items (length words) = marked_made replaced c.self.inside.marks.items c.make_marks.new.marks.items (length words) c.self.invariant.1 c.make_marks.ensures.same (grind arith) in
    let marked : IsMarked (replaced ++ (c.args.word, c.index-began.result.now) ∷ []) (slice_set c.make_marks.new.marks.items c.args.word 1) (length words)
    = marked_first replaced c.make_marks.new.marks.items (length words) c.args.word c.index-began.result.now made none below (grind arith) in
    let kept : length (slice_set words c.args.word c.args.value) ≡ length words = length-set words c.args.word c.args.value in
    (omega (arith, c.self.invariant.0), rw (kept, c.in_ok-push_both.ensures.pushed) marked, c.push_both.ensures.room, λ h. absurd (false≢true h))

pub returns-clause-state : goal.returns-clause-state
returns-clause-state c =
    let words = c.self.inside.words.items in
    let replaced = c.self.inside.replaced.items in
    let size : length (written replaced words) ≡ length words = length_written replaced words in
    let below : c.args.word < length words = grind arith in
    let none : times c.args.word replaced ≡ 0 = none_replaced words c.args.word replaced (rw (← c.self.view_is) at c.requires.first) in
    let read : c.index-began.result.now ≡ slice_index words c.args.word = grind (arith, common_steps) in
    rw (← c.self.view_is) (rw c.in_ok-push_both.ensures.pushed (stored_first c.self.inside.mode replaced words c.self.inside.is_listed c.args.word c.index-began.result.now c.args.value below none read))
