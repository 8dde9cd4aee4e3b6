-- What was sent and not delivered.
use Rattle.std.proofs.Common.{◌≡◌, inl, inr, ℕ, zero, suc, ◌+◌, List, [], ◌∷◌, ◌++◌, length, slice_index_or, slice_set, Bool, false, ◌==◌, Option, Some, None, arith, refl, sym, ◌∙◌, ap, subst}
use Rattle.std.proofs.lemmas.Grind.{common_steps}
use Rattle.std.proofs.lemmas.List.{append-nil}
use Rattle.std.proofs.lemmas.List.Elements.{Contains-append_left, Contains-append_right, Contains-append_cases}
use Rattle.std.specs.List.{Contains}
use Rattle.ocr_machine_history.specs.declared.entry.What.{What}
use Rattle.ocr_base.specs.Mail.{named, drop_one}
use Rattle.ocr_replay_body.specs.Tests.{Whether}
use Rattle.ocr_replay_body.specs.Mail.{left_of, left_from, message_at, delivered_at, sent_row}
use Rattle.ocr_base.proofs.Booleans.{same}
use Rattle.ocr_acquire.proofs.Members.{Contains-nil, Contains-cases}

later_index : (i k : ℕ) → (i + suc k == i) ≡ false
later_index i k = grind (arith, common_steps)

step : (i k : ℕ) → i + suc k ≡ suc i + k
step i k = omega arith

pub at_zero : (i : ℕ) → i + 0 ≡ i
at_zero i = omega arith

from_zero : (i : ℕ) → 0 + i ≡ i
from_zero i = omega arith

-- a message of this entry is delivered
dropped_here : (n i k : ℕ) (row : List (Option What)) (what : What) (rest : List (ℕ × ℕ × What)) → slice_index_or row k None ≡ Some what
    → drop_one (n, i + k) (left_of n i row ++ rest) ≡ left_of n i (slice_set row k None) ++ rest
dropped_here n i k [] what rest is = cc is
dropped_here n i zero (None ∷ row) what rest is = cc is
dropped_here n i zero (Some w ∷ row) what rest is = rw (at_zero i, same n, same i) refl
dropped_here n i (suc k) (None ∷ row) what rest is = rw (step i k) (dropped_here n (suc i) k row what rest is)
dropped_here n i (suc k) (Some w ∷ row) what rest is =
    rw (same n, later_index i k) (ap (λ l. (n, i, w) ∷ l) (ap (λ m. drop_one (n, m) (left_of n (suc i) row ++ rest)) (step i k) ∙ dropped_here n (suc i) k row what rest is))

-- one of a later entry
dropped_past : (n p i j : ℕ) (row : List (Option What)) (rest : List (ℕ × ℕ × What)) → (p == n) ≡ false → drop_one (p, j) (left_of n i row ++ rest) ≡ left_of n i row ++ drop_one (p, j) rest
dropped_past n p i j [] rest apart = refl
dropped_past n p i j (None ∷ row) rest apart = dropped_past n p (suc i) j row rest apart
dropped_past n p i j (Some w ∷ row) rest apart = rw apart (ap (λ l. (n, i, w) ∷ l) (dropped_past n p (suc i) j row rest apart))

dropped_from : (n k j : ℕ) (rows : List (List (Option What))) (what : What) → message_at rows k j ≡ Some what → drop_one (n + k, j) (left_from n rows) ≡ left_from n (delivered_at rows k j)
dropped_from n k j [] what is = cc is
dropped_from n zero j (row ∷ rows) what is = rw (at_zero n) (ap (λ m. drop_one (n, m) (left_of n 0 row ++ left_from (suc n) rows)) (sym (from_zero j)) ∙ dropped_here n 0 j row what (left_from (suc n) rows) is)
dropped_from n (suc k) j (row ∷ rows) what is =
    dropped_past n (n + suc k) 0 j row (left_from (suc n) rows) (later_index n k)
    ∙ ap (λ l. left_of n 0 row ++ l) (ap (λ m. drop_one (m, j) (left_from (suc n) rows)) (step n k) ∙ dropped_from (suc n) k j rows what is)

pub dropped : (p j : ℕ) (rows : List (List (Option What))) (what : What) → message_at rows p j ≡ Some what → drop_one (p, j) (left_from 0 rows) ≡ left_from 0 (delivered_at rows p j)
dropped p j rows what is = ap (λ m. drop_one (m, j) (left_from 0 rows)) (sym (from_zero p)) ∙ dropped_from 0 p j rows what is

-- the messages of one entry more
sent_left : (n i : ℕ) (messages : List What) → left_of n i (sent_row messages) ≡ named n i messages
sent_left n i [] = refl
sent_left n i (one ∷ rest) = ap (λ l. (n, i, one) ∷ l) (sent_left n (suc i) rest)

append_assoc : {X : Type 0} (a b c : List X) → (a ++ b) ++ c ≡ a ++ (b ++ c)
append_assoc [] b c = refl
append_assoc (x ∷ a) b c = ap (λ l. x ∷ l) (append_assoc a b c)

sent_from : (n : ℕ) (rows : List (List (Option What))) (messages : List What) → left_from n (rows ++ sent_row messages ∷ []) ≡ left_from n rows ++ named (n + length rows) 0 messages
sent_from n [] messages = append-nil _ ∙ sent_left n 0 messages ∙ ap (λ m. named m 0 messages) (sym (at_zero n))
sent_from n (row ∷ rows) messages =
    ap (λ l. left_of n 0 row ++ l) (sent_from (suc n) rows messages ∙ ap (λ m. left_from (suc n) rows ++ named m 0 messages) (sym (step n (length rows))))
    ∙ sym (append_assoc (left_of n 0 row) (left_from (suc n) rows) (named (n + suc (length rows)) 0 messages))

pub sent : (rows : List (List (Option What))) (messages : List What) → left_from 0 (rows ++ sent_row messages ∷ []) ≡ left_from 0 rows ++ named (length rows) 0 messages
sent rows messages = sent_from 0 rows messages ∙ ap (λ m. left_from 0 rows ++ named m 0 messages) (from_zero (length rows))

-- WHAT IS LEFT
some_is : {a b : What} → Some a ≡ Some b → a ≡ b
some_is e = cc e

left_named : (n i k : ℕ) (row : List (Option What)) (what : What) → slice_index_or row k None ≡ Some what → Contains (left_of n i row) (n, i + k, what)
left_named n i k [] what is = cc is
left_named n i zero (None ∷ row) what is = cc is
left_named n i zero (Some w ∷ row) what is = rw (at_zero i, sym (some_is is)) (0, omega arith, refl)
left_named n i (suc k) (None ∷ row) what is = subst (λ m. Contains (left_of n (suc i) row) (n, m, what)) (sym (step i k)) (left_named n (suc i) k row what is)
left_named n i (suc k) (Some w ∷ row) what is =
    Contains-append_right ((n, i, w) ∷ []) (left_of n (suc i) row) (n, i + suc k, what) (subst (λ m. Contains (left_of n (suc i) row) (n, m, what)) (sym (step i k)) (left_named n (suc i) k row what is))

left_there : (n k j : ℕ) (rows : List (List (Option What))) (what : What) → message_at rows k j ≡ Some what → Contains (left_from n rows) (n + k, j, what)
left_there n k j [] what is = cc is
left_there n zero j (row ∷ rows) what is =
    rw (at_zero n) (Contains-append_left (left_of n 0 row) (left_from (suc n) rows) (n, j, what) (subst (λ m. Contains (left_of n 0 row) (n, m, what)) (from_zero j) (left_named n 0 j row what is)))
left_there n (suc k) j (row ∷ rows) what is =
    Contains-append_right (left_of n 0 row) (left_from (suc n) rows) (n + suc k, j, what) (subst (λ m. Contains (left_from (suc n) rows) (m, j, what)) (sym (step n k)) (left_there (suc n) k j rows what is))

pub waits : (rows : List (List (Option What))) (p j : ℕ) (what : What) → message_at rows p j ≡ Some what → Contains (left_from 0 rows) (p, j, what)
waits rows p j what is = subst (λ m. Contains (left_from 0 rows) (m, j, what)) (from_zero p) (left_there 0 p j rows what is)

-- where a message that is left stands in its row
abbrev IsIn : ℕ → ℕ → List (Option What) → ℕ × ℕ × What → Type 0
IsIn n i row x = (k : ℕ) × (x.0 ≡ n) × (x.1 ≡ i + k) × (slice_index_or row k None ≡ Some x.2)

in_row : (n i : ℕ) (row : List (Option What)) (x : ℕ × ℕ × What) → Contains (left_of n i row) x → IsIn n i row x
in_row n i [] x has = absurd (Contains-nil x has)
in_row n i (None ∷ row) x has = let more = in_row n (suc i) row x has in (suc more.0, more.1, more.2 ∙ sym (step i more.0), more.3)
in_row n i (Some w ∷ row) x has = elim (Contains-cases (n, i, w) x (left_of n (suc i) row) has) as (λ _. IsIn n i (Some w ∷ row) x) [
  | inl here ↦ (zero, sym (ap (λ (m : ℕ × ℕ × What). m.0) here), sym (ap (λ (m : ℕ × ℕ × What). m.1) here) ∙ sym (at_zero i), ap (λ (m : ℕ × ℕ × What). Some m.2) here)
  | inr later ↦ let more = in_row n (suc i) row x later in (suc more.0, more.1, more.2 ∙ sym (step i more.0), more.3)
]

abbrev IsAmong : ℕ → List (List (Option What)) → ℕ × ℕ × What → Type 0
IsAmong n rows x = (k : ℕ) × (x.0 ≡ n + k) × (message_at rows k x.1 ≡ Some x.2)

among : (n : ℕ) (rows : List (List (Option What))) (x : ℕ × ℕ × What) → Contains (left_from n rows) x → IsAmong n rows x
among n [] x has = absurd (Contains-nil x has)
among n (row ∷ rows) x has = elim (Contains-append_cases (left_of n 0 row) (left_from (suc n) rows) x has) as (λ _. IsAmong n (row ∷ rows) x) [
  | inl here ↦ let found = in_row n 0 row x here in (zero, found.1 ∙ sym (at_zero n), ap (λ k. slice_index_or row k None) (found.2 ∙ from_zero found.0) ∙ found.3)
  | inr later ↦ let more = among (suc n) rows x later in (suc more.0, more.1 ∙ sym (step n more.0), more.2)
]

pub waiting : (rows : List (List (Option What))) (p j : ℕ) (what : What) → Contains (left_from 0 rows) (p, j, what) → message_at rows p j ≡ Some what
waiting rows p j what has =
    let found = among 0 rows (p, j, what) has in
    ap (λ k. message_at rows k j) (found.1 ∙ from_zero found.0) ∙ found.2

pub has_whether : (b : Bool) (rows : List (List (Option What))) (p j : ℕ) (w what : What) → message_at rows p j ≡ Some w → Whether b (w ≡ what) → Whether b (Contains (left_from 0 rows) (p, j, what))
has_whether b rows p j w what is test = record {
  yes = λ on. waits rows p j what (is ∙ ap (λ x. Some x) (test.yes on));
  no = λ off has. test.no off (some_is (sym is ∙ waiting rows p j what has));
}

pub has_not : (rows : List (List (Option What))) (p j : ℕ) (what : What) → message_at rows p j ≡ None → Whether false (Contains (left_from 0 rows) (p, j, what))
has_not rows p j what none = record { yes = λ on. cc on; no = λ _ has. let some : message_at rows p j ≡ Some what = waiting rows p j what has in cc (some, none) }
