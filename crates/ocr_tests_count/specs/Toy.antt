-- The toy machine's meaning.
use Rattle.std.specs.Prelude.{◌≡◌, ◌<◌, ◌+◌, ◌==◌, ℕ, Bool, true, false, if◌then◌else◌, List, [], ◌∷◌, reverse, Option, Some, None}
use Rattle.ocr_turns_rule.specs.Meaning.{Counting, Meaning}
use Rattle.ocr_turns_rule.specs.Sums.{one_at, sum_of}
use Rattle.ocr_tests_count.specs.declared.toy.Entry.{Entry}
use Rattle.ocr_tests_count.specs.declared.toy.Entry.TheVariants.{Make, Set, Wait, Wake}

-- WHAT A HISTORY SAYS, the newest entry first
abbrev pub is_made : List Entry → Bool
is_made [] = false
is_made (Make ∷ past) = true
is_made (Set k x ∷ past) = is_made past
is_made (Wait ∷ past) = is_made past
is_made (Wake ∷ past) = is_made past

abbrev pub payload : List Entry → ℕ → Option ℕ
payload [] n = None
payload (Make ∷ past) n = payload past n
payload (Set k x ∷ past) n = if k == n then Some x else payload past n
payload (Wait ∷ past) n = payload past n
payload (Wake ∷ past) n = payload past n

abbrev pub is_waiting : List Entry → Bool
is_waiting [] = false
is_waiting (Make ∷ past) = is_waiting past
is_waiting (Set k x ∷ past) = is_waiting past
is_waiting (Wait ∷ past) = true
is_waiting (Wake ∷ past) = false

abbrev pub wait_part : Bool → ℕ
wait_part false = 0
wait_part true = 1

abbrev pub slot_part : Bool → Option ℕ → ℕ
slot_part made (Some x) = 2
slot_part true None = 1
slot_part false None = 0

abbrev pub slot_at : List Entry → ℕ → ℕ
slot_at past k = slot_part (is_made past) (payload past k)

abbrev pub part_at : List Entry → ℕ → ℕ
part_at past p =
    if p == 3 then slot_at past 0
    else if p == 4 then slot_at past 1
    else if p == 2 then wait_part (is_waiting past)
    else 0

-- the slot of the EDT is set so
pub record IsSetTo (past : List Entry) (k x : ℕ) : Type 0 where
  pub made : is_made past ≡ true
  pub within : k < 2
  pub payload : payload past k ≡ Some x

-- the slot may be set
pub record IsOpen (past : List Entry) (k : ℕ) : Type 0 where
  pub made : is_made past ≡ true
  pub within : k < 2
  pub unset : payload past k ≡ None

-- all slots are set, and the EDT does not wait
pub record MayWait (past : List Entry) : Type 0 where
  pub zeroth : (x : ℕ) × IsSetTo past 0 x
  pub first : (x : ℕ) × IsSetTo past 1 x
  pub awake : is_waiting past ≡ false

abbrev pub MayFollow : List Entry → Entry → Type 0
MayFollow past Make = is_made past ≡ false
MayFollow past (Set k x) = IsOpen past k
MayFollow past Wait = MayWait past
MayFollow past Wake = is_waiting past ≡ true

unfoldable pub legal : ℕ → ℕ → List Entry → Entry → Type 0
legal g limit J e = MayFollow (reverse J) e

unfoldable pub part : ℕ → ℕ → List Entry → ℕ → ℕ
part g limit J p = part_at (reverse J) p

-- of the EDT that is made a slot that is set stays so
unfoldable pub stands : ℕ → ℕ → List Entry → ℕ × ℕ × ℕ → Type 0
stands g limit J f = f.0 ≡ 2 → IsSetTo (reverse J) f.1 f.2

abbrev pub places : Entry → List ℕ
places Make = 3 ∷ 4 ∷ []
places (Set k x) = (3 + k) ∷ []
places Wait = 2 ∷ []
places Wake = 2 ∷ []

abbrev pub makes : Entry → List ℕ
makes Make = 2 ∷ []
makes (Set k x) = []
makes Wait = []
makes Wake = []

abbrev pub creates : Entry → Option (ℕ × ℕ)
creates Make = Some (2, 2)
creates (Set k x) = None
creates Wait = None
creates Wake = None

abbrev pub sets : Entry → Option (ℕ × ℕ × ℕ)
sets Make = None
sets (Set k x) = Some (2, k, x)
sets Wait = None
sets Wake = None

abbrev pub waits : Entry → ℕ → Option ℕ
waits Make n = None
waits (Set k x) n = None
waits Wait n = if n == 2 then Some 2 else None
waits Wake n = None

abbrev pub resumes : Entry → List ℕ
resumes Make = []
resumes (Set k x) = []
resumes Wait = []
resumes Wake = 2 ∷ []

abbrev pub learns : Entry → List (ℕ × ℕ × ℕ)
learns Make = []
learns (Set k x) = (2, k, x) ∷ []
learns Wait = []
learns Wake = []

abbrev pub counting : Counting ℕ Entry ℕ (ℕ × ℕ × ℕ)
counting = record {
  creates = λ g limit J e. creates e;
  counts = λ limit e ps. creates e;
  sets = sets;
  waits = waits;
  resumes = λ g limit J e. resumes e;
  wakes = λ limit e ps. resumes e;
  is_set = λ n k x. (n, k, x);
}

abbrev pub meaning : Meaning ℕ Entry ℕ ℕ (ℕ × ℕ × ℕ)
meaning = record {
  legal = legal;
  part = part;
  vacant = 0;
  stands = stands;
  heavy = λ e. 1;
  stops = λ e. false;
  touches = λ limit e p. sum_of (one_at p) (places e);
  sends = λ g limit J e. [];
  delivers = λ e. None;
  seen = λ limit p x. x;
  makes = makes;
  opened = 1;
  first = (1, 0);
  runs = λ e n. false;
  starts = λ e n. false;
  ends = λ e n. false;
  core = λ limit n. 0;
  learns = λ limit e ps. learns e;
  counting = counting;
}
