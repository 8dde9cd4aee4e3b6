-- The toy machine's meaning.
use Rattle.std.specs.Prelude.{◌≡◌, ◌+◌, ◌*◌, ◌≤◌, ◌==◌, ℕ, Bool, true, false, if◌then◌else◌, List, [], ◌∷◌, reverse, Option, None}
use Rattle.ocr_turns_rule.specs.Meaning.{Counting, Meaning}
use Rattle.ocr_turns_rule.specs.Sums.{one_at, sum_of}
use Rattle.ocr_tests_turns.specs.declared.toy.Entry.{Entry}
use Rattle.ocr_tests_turns.specs.declared.toy.Entry.TheVariants.{Add, Stop}

-- the counter of a place after the entries, the newest entry first
abbrev pub counter_at : List Entry → ℕ → ℕ
counter_at [] q = 0
counter_at (Add p found n d ∷ past) q =
    if q == p then counter_at past q + n else counter_at past q
counter_at (Stop ∷ past) q = counter_at past q

unfoldable pub part : ℕ → ℕ → List Entry → ℕ → ℕ
part g limit J q = counter_at (reverse J) q

-- an entry has a place, and found its counter as it stands
unfoldable pub legal : ℕ → ℕ → List Entry → Entry → Type 0
legal g limit J (Add p found n d) = (1 ≤ p) × (p ≤ 2 * limit) × (part g limit J p ≡ found)
legal g limit J Stop = Unit {0}

abbrev pub places : Entry → List ℕ
places (Add p found n d) = p ∷ []
places Stop = []

abbrev pub heavy : Entry → ℕ
heavy (Add p found n d) = 1
heavy Stop = 0

abbrev pub stops : Entry → Bool
stops (Add p found n d) = false
stops Stop = true

abbrev pub sends : Entry → List ℕ
sends (Add p found n d) = n ∷ []
sends Stop = []

abbrev pub delivers : Entry → Option (ℕ × ℕ)
delivers (Add p found n d) = d
delivers Stop = None

abbrev pub counting : Counting ℕ Entry ℕ ℕ
counting = record {
  creates = λ g limit J e. None;
  counts = λ limit e ps. None;
  sets = λ e. None;
  waits = λ e n. None;
  resumes = λ g limit J e. [];
  wakes = λ limit e ps. [];
  is_set = λ n k x. x;
}

abbrev pub meaning : Meaning ℕ Entry ℕ ℕ ℕ
meaning = record {
  legal = legal;
  part = part;
  vacant = 0;
  stands = λ g limit J f. Unit {0};
  heavy = heavy;
  stops = stops;
  touches = λ limit e p. sum_of (one_at p) (places e);
  sends = λ g limit J e. sends e;
  delivers = delivers;
  seen = λ limit p x. x;
  makes = λ e. [];
  opened = 1;
  first = (1, 0);
  runs = λ e n. false;
  starts = λ e n. false;
  ends = λ e n. false;
  core = λ limit n. 0;
  learns = λ limit e ps. [];
  counting = counting;
}
