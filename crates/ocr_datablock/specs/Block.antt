-- Data blocks: the calls that one accepted, who holds it and who waits for it, its words, and its
-- state.
use Rattle.std.specs.Prelude.{◌≡◌, ℕ, List, [], ◌∷◌, ◌++◌, Bool, true, false, ◌&&◌, not, ◌==◌, if◌then◌else◌, Option, Some, None, is_some, replicate, slice_set}
use Rattle.ocr_acquire.specs.declared.Mode.{Mode}
use Rattle.ocr_acquire.specs.declared.Mode.TheVariants as mode
use Rattle.ocr_acquire.specs.Mode.{fits_all}
use Rattle.ocr_datablock.specs.declared.datablock.Asked.{Asked}
use Rattle.ocr_datablock.specs.declared.datablock.Asked.TheVariants as asked
use Rattle.ocr_acquire.specs.Writes.{written}

-- THE CALLS that a block accepted. Lists of calls have the newest first.
-- A loan in CONST is a copy and leaves no trace; so these are the loans in EW.
pub data BlockCall : Type 0 where
  Ask : (edt : ℕ) → (mode : Mode) → BlockCall
  Release : (edt : ℕ) → BlockCall
  Doom : (edt : ℕ) → BlockCall
  Store : (word value : ℕ) → BlockCall
  Lend : (edt : ℕ) → BlockCall
  TakeBack : (edt : ℕ) → (writes : List (ℕ × ℕ)) → BlockCall

-- a block is destroyed from the call on that destroys it
abbrev pub is_destroyed : List BlockCall → Bool
is_destroyed [] = false
is_destroyed (Doom t ∷ past) = true
is_destroyed (other ∷ past) = is_destroyed past

-- The contents of a block of n words: zeros, with each store and the writes of each loan that came
-- back.
abbrev pub contents : ℕ → List BlockCall → List ℕ
contents n [] = replicate n 0
contents n (Store word value ∷ past) = slice_set (contents n past) word value
contents n (TakeBack t writes ∷ past) = written writes (contents n past)
contents n (other ∷ past) = contents n past

-- the EDT that has the words on loan
abbrev pub borrower_of : List BlockCall → Option ℕ
borrower_of [] = None
borrower_of (Lend t ∷ past) = Some t
borrower_of (TakeBack t writes ∷ past) = None
borrower_of (other ∷ past) = borrower_of past

-- Who holds a block, in the order in which they were granted, and who waits for it, in the order in
-- which they asked.
pub record Line : Type 0 where
  pub holders : List (ℕ × Mode)
  pub queue : List (ℕ × Mode)

abbrev pub is_empty : List (ℕ × Mode) → Bool
is_empty [] = true
is_empty (one ∷ rest) = false

abbrev pub names : List (ℕ × Mode) → List ℕ
names [] = []
names (one ∷ rest) = one.0 ∷ names rest

abbrev pub without : ℕ → List (ℕ × Mode) → List (ℕ × Mode)
without t [] = []
without t (one ∷ rest) = if one.0 == t then without t rest else one ∷ without t rest

-- the longest front of a queue that fits step by step beside the holders, and the rest of the queue
abbrev pub front_that_fits : List (ℕ × Mode) → List (ℕ × Mode) → List (ℕ × Mode)
front_that_fits holders [] = []
front_that_fits holders (one ∷ rest) =
    if fits_all one.1 holders then one ∷ front_that_fits (holders ++ one ∷ []) rest else []

abbrev pub rest_that_waits : List (ℕ × Mode) → List (ℕ × Mode) → List (ℕ × Mode)
rest_that_waits holders [] = []
rest_that_waits holders (one ∷ rest) =
    if fits_all one.1 holders then rest_that_waits (holders ++ one ∷ []) rest else one ∷ rest

-- a block is gone where it is destroyed and nobody holds it
abbrev pub is_line_gone : Bool → Line → Bool
is_line_gone destroyed line = destroyed && is_empty line.holders

-- a newcomer is granted where the block is not destroyed, nobody waits, and the mode fits every
-- holder
abbrev pub can_grant : Bool → Line → Mode → Bool
can_grant destroyed line m = not destroyed && (is_empty line.queue && fits_all m line.holders)

-- with one who asks: a holder, or the last who waits; nobody waits for a block that is gone
abbrev pub line_after_ask : Bool → Line → ℕ → Mode → Line
line_after_ask destroyed line t m =
    if is_line_gone destroyed line then line
    else if can_grant destroyed line m then record {
      holders = line.holders ++ (t, m) ∷ [];
      queue = line.queue;
    }
    else record { holders = line.holders; queue = line.queue ++ (t, m) ∷ [] }

-- without one holder
abbrev pub line_without : ℕ → Line → Line
line_without t line = record { holders = without t line.holders; queue = line.queue }

-- Once a hold has ended or the block was destroyed, who leaves the queue: those whom the block can
-- be granted to now, or all, where it is gone.
abbrev pub leavers : Bool → Line → List (ℕ × Mode)
leavers destroyed line =
    if destroyed then (if is_empty line.holders then line.queue else [])
    else front_that_fits line.holders line.queue

-- with those as holders who leave the queue
abbrev pub line_after_grants : Bool → Line → Line
line_after_grants destroyed line =
    if destroyed then (if is_empty line.holders then record {
      holders = line.holders;
      queue = [];
    } else line)
    else record {
      holders = line.holders ++ front_that_fits line.holders line.queue;
      queue = rest_that_waits line.holders line.queue;
    }

-- the creator holds its block in RW, and nobody holds it where no creator is named
abbrev pub first_holders : ℕ → List (ℕ × Mode)
first_holders creator = if creator == 0 then [] else (creator, mode.Rw) ∷ []

abbrev pub line_of : ℕ → List BlockCall → Line
line_of creator [] = record { holders = first_holders creator; queue = [] }
line_of creator (Ask t m ∷ past) = line_after_ask (is_destroyed past) (line_of creator past) t m
line_of creator (Release t ∷ past) =
    line_after_grants (is_destroyed past) (line_without t (line_of creator past))
line_of creator (Doom t ∷ past) = line_after_grants true (line_without t (line_of creator past))
line_of creator (other ∷ past) = line_of creator past

abbrev pub holders_of : ℕ → List BlockCall → List (ℕ × Mode)
holders_of creator calls = (line_of creator calls).holders

abbrev pub queue_of : ℕ → List BlockCall → List (ℕ × Mode)
queue_of creator calls = (line_of creator calls).queue

-- what a block answers to one who asks
abbrev pub answer_to : ℕ → List BlockCall → Mode → Asked
answer_to creator past m =
    if is_line_gone (is_destroyed past) (line_of creator past) then asked.Gone
    else if can_grant (is_destroyed past) (line_of creator past) m then asked.Granted
    else asked.Queued

-- who leaves the queue by the end of a hold, and by the destruction of the block, in the order of
-- the queue
abbrev pub resumed_by_release : ℕ → List BlockCall → ℕ → List ℕ
resumed_by_release creator past t =
    names (leavers (is_destroyed past) (line_without t (line_of creator past)))

abbrev pub resumed_by_doom : ℕ → List BlockCall → ℕ → List ℕ
resumed_by_doom creator past t = names (leavers true (line_without t (line_of creator past)))

-- THE STATE. The words are the contents, or none while they are on loan.
pub record State : Type 0 where
  pub size : ℕ
  pub words : List ℕ
  pub borrower : Option ℕ
  pub holders : List (ℕ × Mode)
  pub queue : List (ℕ × Mode)
  pub destroyed : Bool

abbrev pub state_of : ℕ → ℕ → List BlockCall → State
state_of n creator calls = record {
  size = n;
  words = if is_some (borrower_of calls) then [] else contents n calls;
  borrower = borrower_of calls;
  holders = holders_of creator calls;
  queue = queue_of creator calls;
  destroyed = is_destroyed calls;
}

-- each holder's mode goes with those of all other holders
abbrev pub GoTogether : List (ℕ × Mode) → Type 0
GoTogether [] = Unit {0}
GoTogether (one ∷ rest) = (fits_all one.1 rest ≡ true) × GoTogether rest

-- who has the words on loan holds the block in EW, and nobody else holds it
abbrev pub IsLentTo : Option ℕ → List (ℕ × Mode) → Type 0
IsLentTo None holders = Unit {0}
IsLentTo (Some t) holders = holders ≡ (t, mode.Ew) ∷ []

abbrev pub line : State → Line
line s = record { holders = s.holders; queue = s.queue }

abbrev pub is_gone : State → Bool
is_gone s = is_line_gone s.destroyed (line s)

abbrev pub is_grantable : State → Mode → Bool
is_grantable s m = can_grant s.destroyed (line s) m
