-- What a view owes to the words that count, and has claimed.
use Rattle.std.specs.Prelude.{◌≡◌, ℕ, zero, suc, ◌+◌, ◌-◌, ◌<◌, ◌≤◌, ◌==◌, ◌&&◌, Bool, if◌then◌else◌, List, [], ◌∷◌, ◌++◌, Option, Some, None}
use mathlib.Core.Option.{some}
use lib.ListN.{get_elem?}
use Rattle.ocr_base.specs.Mail.{tally, drop_one}
use Rattle.ocr_turns_rule.specs.Sums.{one_at, sum_of, less_one, remove_at}
use Rattle.ocr_turns_rule.specs.declared.debts.Debts.{Debts}

abbrev pub no_debts : Debts
no_debts = record { unput = []; put = []; made = []; resumes = []; lasts = []; readied = [] }

abbrev pub both_debts : Debts → Debts → Debts
both_debts a b = record {
  unput = a.unput ++ b.unput;
  put = a.put ++ b.put;
  made = a.made ++ b.made;
  resumes = a.resumes ++ b.resumes;
  lasts = a.lasts ++ b.lasts;
  readied = a.readied ++ b.readied;
}

-- the numbers that fail a test
abbrev pub without_all : (ℕ → Bool) → List ℕ → List ℕ
without_all test [] = []
without_all test (n ∷ ns) = if test n then without_all test ns else n ∷ without_all test ns

abbrev pub listed : {A : Type 0} → Option A → List A
listed None = []
listed (Some x) = x ∷ []

abbrev pub times : ℕ → List ℕ → ℕ
times n ns = sum_of (one_at n) ns

-- any slot of this EDT; this slot
abbrev pub of_edt : ℕ → ℕ × ℕ → ℕ
of_edt n name = one_at n name.0

abbrev pub of_slot : ℕ → ℕ → ℕ × ℕ → ℕ
of_slot n k name = if (n == name.0) && (k == name.1) then 1 else 0

-- the slots that are set and not counted, each weighed
abbrev pub owed_slots : (ℕ × ℕ → ℕ) → Debts → ℕ
owed_slots f d = tally f d.unput + tally f d.put

-- what is owed to the word of an EDT for its making: the unit of its making, and one a slot that it
-- does not have
abbrev pub making : ℕ → List (ℕ × ℕ) → ℕ
making n [] = 0
making n (x ∷ xs) = (if n == x.0 then 33 - x.1 else 0) + making n xs

-- a list without its first slot of the EDT
abbrev pub remove_edt : {N : Type 0} → ℕ → List (ℕ × ℕ × N) → List (ℕ × ℕ × N)
remove_edt n [] = []
remove_edt n (x ∷ xs) = if n == x.0 then xs else x ∷ remove_edt n xs

-- an EDT's number
abbrev pub IsNumber : ℕ → ℕ → Type 0
IsNumber limit n = (1 ≤ n) × (n ≤ limit)

-- What is owed and claimed is of EDTs that a table with this limit has, of at most 32 slots each.
pub record AreInRange (limit : ℕ) (d : Debts) (claimed : List ℕ) : Type 0 where
  pub unput : (i n k x : ℕ) → get_elem? d.unput i ≡ some (n, k, x) → IsNumber limit n × (k < 32)
  pub put : (n : ℕ) → 1 ≤ tally (of_edt n) d.put → IsNumber limit n
  pub made : (i n slots : ℕ) → get_elem? d.made i ≡ some (n, slots) → IsNumber limit n ×
      (slots ≤ 32)
  pub resumes : (n : ℕ) → 1 ≤ times n d.resumes → IsNumber limit n
  pub claims : (n : ℕ) → 1 ≤ times n claimed → IsNumber limit n

-- THE STEPS: a payload is put, a slot is counted, a making is counted, a resume is done
abbrev pub put_debts : Debts → ℕ → ℕ → ℕ → Debts
put_debts d n k x = record d { unput = drop_one (n, k) d.unput; put = d.put ++ (n, k, x) ∷ [] }

-- the list with the EDT, where nothing is left to be counted
abbrev pub last_if : ℕ → ℕ → List ℕ → List ℕ
last_if zero n ns = ns ++ n ∷ []
last_if (suc left) n ns = ns

-- so much is left of its word then
abbrev pub counted_debts : Debts → ℕ → ℕ → Debts
counted_debts d n left = record d {
  put = remove_edt n d.put;
  lasts = last_if left n d.lasts;
  readied = last_if left n d.readied;
}

abbrev pub made_debts : Debts → ℕ → ℕ → Debts
made_debts d n left = record d {
  made = remove_at n d.made;
  lasts = last_if left n d.lasts;
  readied = last_if left n d.readied;
}

abbrev pub resumed_debts : Debts → ℕ → Debts
resumed_debts d n = record d {
  resumes = less_one n d.resumes;
  readied = d.readied ++ n ∷ [];
}
