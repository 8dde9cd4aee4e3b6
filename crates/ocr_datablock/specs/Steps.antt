-- Data blocks: what each call answers and makes of the state, and what is told of a block by the
-- list of its calls.
use Rattle.std.specs.Prelude.{◌≡◌, ◌≢◌, ◌<◌, ℕ, List, [], ◌∷◌, ◌++◌, Bool, true, false, if◌then◌else◌, Option, Some, None, is_some, length, replicate, slice_set}
use Rattle.ocr_acquire.specs.declared.Mode.{Mode}
use Rattle.ocr_acquire.specs.declared.Mode.TheVariants as mode
use Rattle.ocr_acquire.specs.Mode.{fits_all, is_exclusive, is_null, mode_in}
use Rattle.ocr_datablock.specs.declared.datablock.Asked.{Asked}
use Rattle.ocr_datablock.specs.declared.datablock.Asked.TheVariants as asked
use Rattle.ocr_acquire.specs.Writes.{written}
use Rattle.ocr_datablock.specs.Lent.{Loan, loan_of, words_in}
use Rattle.ocr_datablock.specs.Block.{BlockCall, Ask, Release, Doom, Store, Lend, TakeBack, Line, State, contents, borrower_of, is_destroyed, is_line_gone, is_empty, names, line_after_ask, line_without, line_after_grants, leavers, line_of, holders_of, queue_of, answer_to, resumed_by_release, resumed_by_doom, state_of, GoTogether, line, is_gone, is_grantable}

-- THE STEPS.
abbrev pub on_ask : State → Mode → Asked
on_ask s m =
    if is_gone s then asked.Gone else if is_grantable s m then asked.Granted else asked.Queued

abbrev pub on_release : State → ℕ → List ℕ
on_release s t = names (leavers s.destroyed (line_without t (line s)))

abbrev pub on_doom : State → ℕ → List ℕ
on_doom s t = names (leavers true (line_without t (line s)))

abbrev pub with_line : State → Bool → Line → State
with_line s doomed_now new = record {
  size = s.size;
  words = s.words;
  borrower = s.borrower;
  holders = new.holders;
  queue = new.queue;
  destroyed = doomed_now;
}

abbrev pub after_ask : State → ℕ → Mode → State
after_ask s t m = with_line s s.destroyed (line_after_ask s.destroyed (line s) t m)

abbrev pub after_release : State → ℕ → State
after_release s t =
    with_line s s.destroyed (line_after_grants s.destroyed (line_without t (line s)))

abbrev pub after_doom : State → ℕ → State
after_doom s t = with_line s true (line_after_grants true (line_without t (line s)))

abbrev pub with_words : State → Option ℕ → List ℕ → State
with_words s to new = record {
  size = s.size;
  words = new;
  borrower = to;
  holders = s.holders;
  queue = s.queue;
  destroyed = s.destroyed;
}

abbrev pub after_store : State → ℕ → ℕ → State
after_store s word value = with_words s s.borrower (slice_set s.words word value)

abbrev pub after_lend : State → ℕ → State
after_lend s t = with_words s (Some t) []

-- the loan that comes of it, in EW or in CONST
abbrev pub loan_from : State → Mode → Loan
loan_from s m = loan_of m s.words []

abbrev pub after_take_back : State → Loan → State
after_take_back s loan = if is_exclusive loan.mode then with_words s None (words_in loan) else s

-- with other writes than those that the loan keeps
abbrev pub after_take_back_with : State → Loan → List (ℕ × ℕ) → State
after_take_back_with s loan writes =
    if is_exclusive loan.mode then with_words s None (written writes loan.began) else s

-- WHAT A CALL PRESUMES.
-- What a call of a block of n words presumes, by its calls before.
abbrev pub IsAllowed : ℕ → ℕ → List BlockCall → BlockCall → Type 0
IsAllowed n creator past (Ask t m) =
    (mode_in t (holders_of creator past) ≡ None) × (mode_in t (queue_of creator past) ≡ None)
    × (is_null m ≡ false)
IsAllowed n creator past (Release t) =
    (is_some (mode_in t (holders_of creator past)) ≡ true) × (borrower_of past ≢ Some t)
IsAllowed n creator past (Doom t) = (is_destroyed past ≡ false) × (borrower_of past ≢ Some t)
IsAllowed n creator past (Store word value) = (word < n) × (borrower_of past ≡ None)
IsAllowed n creator past (Lend t) =
    (mode_in t (holders_of creator past) ≡ Some mode.Ew) × (borrower_of past ≡ None)
IsAllowed n creator past (TakeBack t writes) = borrower_of past ≡ Some t

abbrev pub AreAllowed : ℕ → ℕ → List BlockCall → Type 0
AreAllowed n creator [] = Unit {0}
AreAllowed n creator (call ∷ past) = AreAllowed n creator past × IsAllowed n creator past call

-- the contents at the place where the last loan began
abbrev pub began_with : ℕ → List BlockCall → List ℕ
began_with n [] = replicate n 0
began_with n (Lend t ∷ past) = contents n past
began_with n (other ∷ past) = began_with n past

-- THE LAWS. The state after a call is the step of the state before it, and the answer is that of
-- the calls so far.
abbrev pub AskLaw : Type 0
AskLaw = (n creator : ℕ) (calls : List BlockCall) (t : ℕ) (m : Mode)
    → (state_of n creator (Ask t m ∷ calls) ≡ after_ask (state_of n creator calls) t m)
    × (on_ask (state_of n creator calls) m ≡ answer_to creator calls m)

abbrev pub ReleaseLaw : Type 0
ReleaseLaw = (n creator : ℕ) (calls : List BlockCall) (t : ℕ)
    → (state_of n creator (Release t ∷ calls) ≡ after_release (state_of n creator calls) t)
    × (on_release (state_of n creator calls) t ≡ resumed_by_release creator calls t)

abbrev pub DoomLaw : Type 0
DoomLaw = (n creator : ℕ) (calls : List BlockCall) (t : ℕ)
    → (state_of n creator (Doom t ∷ calls) ≡ after_doom (state_of n creator calls) t)
    × (on_doom (state_of n creator calls) t ≡ resumed_by_doom creator calls t)

abbrev pub StoreLaw : Type 0
StoreLaw = (n creator : ℕ) (calls : List BlockCall) (word value : ℕ) → borrower_of calls ≡ None
    → state_of n creator (Store word value ∷ calls)
    ≡ after_store (state_of n creator calls) word value

-- A loan begins with the contents.
abbrev pub LendLaw : Type 0
LendLaw = (n creator : ℕ) (calls : List BlockCall) (t : ℕ) (m : Mode) → borrower_of calls ≡ None
    → (state_of n creator (Lend t ∷ calls) ≡ after_lend (state_of n creator calls) t)
    × (loan_from (state_of n creator calls) m ≡ loan_of m (contents n calls) [])

-- A loan that began with the contents brings its writes into them.
abbrev pub TakeBackLaw : Type 0
TakeBackLaw = (n creator : ℕ) (calls : List BlockCall) (t : ℕ) (loan : Loan)
    → loan.mode ≡ mode.Ew → loan.began ≡ contents n calls
    → state_of n creator (TakeBack t loan.writes ∷ calls)
    ≡ after_take_back (state_of n creator calls) loan

-- The words of a block are its contents, but for the time of a loan. A block keeps its length.
abbrev pub WordsLaw : Type 0
WordsLaw = (n creator : ℕ) (calls : List BlockCall)
    → (borrower_of calls ≡ None → (state_of n creator calls).words ≡ contents n calls)
    × (length (contents n calls) ≡ n)

-- Each holder's mode goes with those of all other holders.
abbrev pub HoldersLaw : Type 0
HoldersLaw = (creator : ℕ) (calls : List BlockCall) → GoTogether (holders_of creator calls)

-- No EDT holds or waits twice, and none that waits is a holder.
abbrev pub StandOnce : List (ℕ × Mode) → Type 0
StandOnce [] = Unit {0}
StandOnce (one ∷ rest) = (mode_in one.0 rest ≡ None) × StandOnce rest

abbrev pub OnceLaw : Type 0
OnceLaw = (n creator : ℕ) (calls : List BlockCall) → AreAllowed n creator calls
    → StandOnce (holders_of creator calls ++ queue_of creator calls)

-- Where somebody waits there is a holder; and while the block is not destroyed, the first who waits
-- does not fit.
abbrev pub WaitingLaw : Type 0
WaitingLaw = (creator : ℕ) (calls : List BlockCall) (one : ℕ × Mode) (rest : List (ℕ × Mode))
    → queue_of creator calls ≡ one ∷ rest
    → (is_empty (holders_of creator calls) ≡ false)
    × (is_destroyed calls ≡ false → fits_all one.1 (holders_of creator calls) ≡ false)

-- Who leaves the queue leaves it from the front, and nobody else does.
abbrev pub QueueLaw : Type 0
QueueLaw = (destroyed : Bool) (line : Line)
    → line.queue ≡ leavers destroyed line ++ (line_after_grants destroyed line).queue

-- A block that is gone stays gone, and nobody waits for it.
abbrev pub GoneLaw : Type 0
GoneLaw = (creator : ℕ) (calls : List BlockCall)
    → is_line_gone (is_destroyed calls) (line_of creator calls) ≡ true
    → (queue_of creator calls ≡ [])
    × ((call : BlockCall)
    → is_line_gone (is_destroyed (call ∷ calls)) (line_of creator (call ∷ calls)) ≡ true)

-- Who has the words on loan holds the block in EW, alone; until the loan comes back, the contents
-- are those with which it began.
abbrev pub LoanLaw : Type 0
LoanLaw = (n creator : ℕ) (calls : List BlockCall) (t : ℕ) → AreAllowed n creator calls
    → borrower_of calls ≡ Some t
    → (holders_of creator calls ≡ (t, mode.Ew) ∷ []) × (contents n calls ≡ began_with n calls)
