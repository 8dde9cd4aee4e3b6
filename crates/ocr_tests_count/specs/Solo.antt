-- The meaning of the machine with one EDT, which is ready at the opening.
use Rattle.std.specs.Prelude.{◌≡◌, ◌==◌, ◌&&◌, ℕ, zero, suc, Bool, true, false, if◌then◌else◌, List, [], ◌∷◌, reverse, None}
use Rattle.ocr_turns_rule.specs.Meaning.{Counting, Meaning}
use Rattle.ocr_turns_rule.specs.Sums.{one_at, sum_of}
use Rattle.ocr_tests_count.specs.declared.solo.Act.{Act}
use Rattle.ocr_tests_count.specs.declared.solo.Act.TheVariants.{Start, Work, End, Destroy, Stop}

-- The EDT's state after the acts, the newest first: 0 before its start, 1 while it runs, 2 once it
-- is over. An act that may not come leaves 2.
abbrev pub started : ℕ → ℕ
started zero = 1
started (suc n) = 2

abbrev pub worked : ℕ → ℕ
worked zero = 2
worked (suc n) = suc n

abbrev pub state : List Act → ℕ
state [] = 0
state (Start ∷ past) = started (state past)
state (Work ∷ past) = worked (state past)
state (End ∷ past) = 2
state (Destroy ∷ past) = 2
state (Stop ∷ past) = state past

-- the state in which an act may come, and the one that it leaves
abbrev pub before : Act → ℕ
before Start = 0
before Work = 1
before End = 1
before Destroy = 0
before Stop = 0

abbrev pub after : Act → ℕ
after Start = 1
after Work = 1
after End = 2
after Destroy = 2
after Stop = 0

abbrev pub stops : Act → Bool
stops Start = false
stops Work = false
stops End = false
stops Destroy = false
stops Stop = true

abbrev pub MayFollow : List Act → Act → Type 0
MayFollow past Start = state past ≡ 0
MayFollow past Work = state past ≡ 1
MayFollow past End = state past ≡ 1
MayFollow past Destroy = state past ≡ 0
MayFollow past Stop = Unit {0}

-- its core stands at place 3
abbrev pub part_at : List Act → ℕ → ℕ
part_at past p = if p == 3 then state past else 0

unfoldable pub legal : ℕ → ℕ → List Act → Act → Type 0
legal g limit J e = MayFollow (reverse J) e

unfoldable pub part : ℕ → ℕ → List Act → ℕ → ℕ
part g limit J p = part_at (reverse J) p

abbrev pub places : Act → List ℕ
places Start = 3 ∷ []
places Work = 3 ∷ []
places End = 3 ∷ []
places Destroy = 3 ∷ []
places Stop = []

abbrev pub heavy : Act → ℕ
heavy Start = 1
heavy Work = 1
heavy End = 1
heavy Destroy = 1
heavy Stop = 0

-- the EDT's own acts, its first and its last
abbrev pub is_own : Act → Bool
is_own Start = true
is_own Work = true
is_own End = true
is_own Destroy = false
is_own Stop = false

abbrev pub is_first : Act → Bool
is_first Start = true
is_first Work = false
is_first End = false
is_first Destroy = false
is_first Stop = false

abbrev pub is_last : Act → Bool
is_last Start = false
is_last Work = false
is_last End = true
is_last Destroy = true
is_last Stop = false

abbrev pub counting : Counting ℕ Act ℕ ℕ
counting = record {
  creates = λ g limit J e. None;
  counts = λ limit e ps. None;
  sets = λ e. None;
  waits = λ e n. None;
  resumes = λ g limit J e. [];
  wakes = λ limit e ps. [];
  is_set = λ n k x. x;
}

abbrev pub meaning : Meaning ℕ Act ℕ ℕ ℕ
meaning = record {
  legal = legal;
  part = part;
  vacant = 0;
  stands = λ g limit J f. Unit {0};
  heavy = heavy;
  stops = stops;
  touches = λ limit e p. sum_of (one_at p) (places e);
  sends = λ g limit J e. [];
  delivers = λ e. None;
  seen = λ limit p x. x;
  makes = λ e. [];
  opened = 1;
  first = (1, 0);
  runs = λ e n. is_own e && (n == 1);
  starts = λ e n. is_first e && (n == 1);
  ends = λ e n. is_last e && (n == 1);
  core = λ limit n. 3;
  learns = λ limit e ps. [];
  counting = counting;
}
