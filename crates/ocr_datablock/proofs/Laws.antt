-- The laws of loans and blocks, for the crates above.
use Rattle.std.proofs.Common.{◌≡◌, ℕ, List, [], ◌∷◌, ◌++◌, Bool, true, false, ◌==◌, if◌then◌else◌, Option, Some, length, slice_index, unwrap_or, arith, refl, sym, ◌∙◌, ap}
use Rattle.std.proofs.lemmas.Bool.{and_parts}
use Rattle.std.proofs.lemmas.Option.{none-some}
use Rattle.std.proofs.lemmas.List.{length-set, length-replicate}
use Rattle.ocr_acquire.specs.declared.Mode.TheVariants as mode
use Rattle.ocr_datablock.specs.Lent as loan
use Rattle.ocr_datablock.specs.Lent.{Loan, LoanCall, Listing, loan_of, writes_of, last_stored, words_in, StoredLaw, ListingLaw, WritesLaw, WordLaw}
use Rattle.ocr_acquire.specs.Writes.{value_at, IsRising}
use Rattle.ocr_datablock.specs.Block.{BlockCall, Ask, Release, Doom, Store, Lend, TakeBack, line_without, is_destroyed, contents, borrower_of, holders_of, queue_of, line_of, is_empty, is_line_gone, GoTogether}
use Rattle.ocr_acquire.proofs.Writes.{rises_put, value_put, length_written, word_written}
use Rattle.ocr_datablock.proofs.Lines.{line_splits, together_joined, together_passed, together_left, IsStuck, stuck_at, stuck_joined, stuck_passed, gone_joined, gone_passed, gone_queue, once_joined, once_left, once_passed, writer_alone, alone_joined, alone_doomed, holds_alone, other_borrower}
use Rattle.ocr_datablock.specs.Steps.{StandOnce, AskLaw, ReleaseLaw, DoomLaw, StoreLaw, LendLaw, TakeBackLaw, WordsLaw, HoldersLaw, OnceLaw, WaitingLaw, QueueLaw, GoneLaw, LoanLaw}

-- LOANS.
pub stored_law : StoredLaw
stored_law m words calls word value = refl

pub listing_law : ListingLaw
listing_law m words calls = refl

rising : (calls : List LoanCall) → IsRising (writes_of calls)
rising [] = tt
rising (loan.Store word value ∷ past) = rises_put 0 word value (writes_of past) (omega arith) (rising past)
rising (Listing ∷ past) = rising past

last : (calls : List LoanCall) (k : ℕ) → value_at k (writes_of calls) ≡ last_stored k calls
last [] k = refl
last (loan.Store word value ∷ past) k = value_put k word value (writes_of past) ∙ ap (λ (o : Option ℕ). if word == k then Some value else o) (last past k)
last (Listing ∷ past) k = last past k

pub writes_law : WritesLaw
writes_law calls = (rising calls, last calls)

pub word_law : WordLaw
word_law m words calls k below =
    word_written 0 (writes_of calls) words k (rising calls) below ∙ ap (λ (o : Option ℕ). unwrap_or o (slice_index words k)) (last calls k)

-- THE STEPS OF A BLOCK.
pub ask_law : AskLaw
ask_law n creator calls t m = (refl, refl)

pub release_law : ReleaseLaw
release_law n creator calls t = (refl, refl)

pub doom_law : DoomLaw
doom_law n creator calls t = (refl, refl)

pub store_law : StoreLaw
store_law n creator calls word value none = rw none refl

pub lend_law : LendLaw
lend_law n creator calls t m none = (refl, rw none refl)

pub take_back_law : TakeBackLaw
take_back_law n creator calls t lent writer began = rw (writer, began) refl

-- WHAT IS TOLD OF A BLOCK.
pub length-contents : (n : ℕ) (calls : List BlockCall) → length (contents n calls) ≡ n
length-contents n [] = length-replicate n 0
length-contents n (Ask t m ∷ past) = length-contents n past
length-contents n (Release t ∷ past) = length-contents n past
length-contents n (Doom t ∷ past) = length-contents n past
length-contents n (Store word value ∷ past) = length-set (contents n past) word value ∙ length-contents n past
length-contents n (Lend t ∷ past) = length-contents n past
length-contents n (TakeBack t writes ∷ past) = length_written writes (contents n past) ∙ length-contents n past

pub words_law : WordsLaw
words_law n creator calls = (λ none. rw none refl, length-contents n calls)

first_together : (creator : ℕ) (b : Bool) → GoTogether (if b then [] else (creator, mode.Rw) ∷ [])
first_together creator true = tt
first_together creator false = (refl, tt)

pub holders_law : HoldersLaw
holders_law creator [] = first_together creator (creator == 0)
holders_law creator (Ask t m ∷ past) = together_joined (is_destroyed past) (line_of creator past) t m (holders_law creator past)
holders_law creator (Release t ∷ past) = together_passed (is_destroyed past) (line_without t (line_of creator past)) (together_left t (line_of creator past) (holders_law creator past))
holders_law creator (Doom t ∷ past) = together_passed true (line_without t (line_of creator past)) (together_left t (line_of creator past) (holders_law creator past))
holders_law creator (Store word value ∷ past) = holders_law creator past
holders_law creator (Lend t ∷ past) = holders_law creator past
holders_law creator (TakeBack t writes ∷ past) = holders_law creator past

first_once : (creator : ℕ) (b : Bool) → StandOnce ((if b then [] else (creator, mode.Rw) ∷ []) ++ [])
first_once creator true = tt
first_once creator false = (refl, tt)

pub once_law : OnceLaw
once_law n creator [] allowed = first_once creator (creator == 0)
once_law n creator (Ask t m ∷ past) allowed =
    once_joined (is_destroyed past) (line_of creator past) t m allowed.1.0 allowed.1.1 (once_law n creator past allowed.0)
once_law n creator (Release t ∷ past) allowed = once_passed (is_destroyed past) (line_without t (line_of creator past)) (once_left t (line_of creator past) (once_law n creator past allowed.0))
once_law n creator (Doom t ∷ past) allowed = once_passed true (line_without t (line_of creator past)) (once_left t (line_of creator past) (once_law n creator past allowed.0))
once_law n creator (Store word value ∷ past) allowed = once_law n creator past allowed.0
once_law n creator (Lend t ∷ past) allowed = once_law n creator past allowed.0
once_law n creator (TakeBack t writes ∷ past) allowed = once_law n creator past allowed.0

stuck : (creator : ℕ) (calls : List BlockCall) → IsStuck (is_destroyed calls) (holders_of creator calls) (queue_of creator calls)
stuck creator [] = tt
stuck creator (Ask t m ∷ past) = stuck_joined (is_destroyed past) (line_of creator past) t m (stuck creator past)
stuck creator (Release t ∷ past) = stuck_passed (is_destroyed past) (line_without t (line_of creator past))
stuck creator (Doom t ∷ past) = stuck_passed true (line_without t (line_of creator past))
stuck creator (Store word value ∷ past) = stuck creator past
stuck creator (Lend t ∷ past) = stuck creator past
stuck creator (TakeBack t writes ∷ past) = stuck creator past

pub waiting_law : WaitingLaw
waiting_law creator calls one rest is = stuck_at (is_destroyed calls) (holders_of creator calls) (queue_of creator calls) one rest (stuck creator calls) is

pub queue_law : QueueLaw
queue_law destroyed line = line_splits destroyed line

pub stays_gone : (creator : ℕ) (calls : List BlockCall) → is_line_gone (is_destroyed calls) (line_of creator calls) ≡ true
    → (call : BlockCall) → is_line_gone (is_destroyed (call ∷ calls)) (line_of creator (call ∷ calls)) ≡ true
stays_gone creator calls is (Ask t m) = gone_joined (is_destroyed calls) (line_of creator calls) t m is
stays_gone creator calls is (Release t) =
    let parts = and_parts (is_destroyed calls) (is_empty (holders_of creator calls)) is in
    rw parts.0 (gone_passed t (line_of creator calls) parts.1)
stays_gone creator calls is (Doom t) =
    let parts = and_parts (is_destroyed calls) (is_empty (holders_of creator calls)) is in
    gone_passed t (line_of creator calls) parts.1
stays_gone creator calls is (Store word value) = is
stays_gone creator calls is (Lend t) = is
stays_gone creator calls is (TakeBack t writes) = is

pub gone_law : GoneLaw
gone_law creator calls is = (gone_queue (is_destroyed calls) (holders_of creator calls) (queue_of creator calls) (stuck creator calls) is, stays_gone creator calls is)

pub loan_law : LoanLaw
loan_law n creator [] t allowed is = cc
loan_law n creator (Ask u m ∷ past) t allowed is =
    let before = loan_law n creator past t allowed.0 is in
    (alone_joined (is_destroyed past) (line_of creator past) t u m before.0, before.1)
loan_law n creator (Release u ∷ past) t allowed is =
    let before = loan_law n creator past t allowed.0 is in
    let same : t ≡ u = holds_alone (line_of creator past) t u before.0 allowed.1.0 in
    absurd (allowed.1.1 (is ∙ ap (λ (x : ℕ). Some x) same))
loan_law n creator (Doom u ∷ past) t allowed is =
    let before = loan_law n creator past t allowed.0 is in
    (alone_doomed (line_of creator past) t u before.0 (other_borrower t u (borrower_of past) is allowed.1.1), before.1)
loan_law n creator (Store word value ∷ past) t allowed is = absurd (none-some t (sym allowed.1.1 ∙ is))
loan_law n creator (Lend u ∷ past) t allowed is =
    let same : u ≡ t = cc in
    let alone = writer_alone u (holders_of creator past) (holders_law creator past) allowed.1.0 in
    (alone ∙ ap (λ (x : ℕ). (x, mode.Ew) ∷ []) same, refl)
loan_law n creator (TakeBack u writes ∷ past) t allowed is = cc
