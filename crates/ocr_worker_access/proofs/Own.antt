-- An EDT's own entries, which stand in the log of the clerk that runs it.
use Rattle.std.proofs.Common.{◌≡◌, ℕ, Bool, true, false, ◌==◌, ◌||◌, if◌then◌else◌, List, [], ◌∷◌, ◌++◌, reverse, refl, ap, sym, ◌∙◌}
use Rattle.std.proofs.lemmas.List.{reverse-append}
use Rattle.ocr_body_meaning.specs.Behaviour.{Asked}
use Rattle.ocr_machine_history.specs.declared.entry.Entry.{Entry}
use Rattle.ocr_machine_history.specs.declared.entry.Entry.TheVariants.{Call, Start, Free, End}
use Rattle.ocr_machine_history.specs.Edts as edts
use Rattle.ocr_machine_history.specs.History.{History, own}
use Rattle.ocr_machine_laws.specs.Permanence.{is_own}
use Rattle.ocr_turns_rule.specs.Sums.{entries, is_among, picked}
use Rattle.ocr_turns_rule.proofs.Totals.{picked_append}
use Rattle.ocr_worker_machine.specs.Ocr.{ends}
use Rattle.ocr_worker_access.specs.Served.{own_log}
use Rattle.ocr_turns_rule.proofs.Entered.{nil_append}
use Rattle.ocr_worker_access.proofs.Logs.{among_turned}

pub picked_reverse : (test : Entry → Bool) (xs : List Entry) → picked test (reverse xs) ≡ reverse (picked test xs)
picked_reverse test [] = refl
picked_reverse test (x ∷ xs) =
    ap (picked test) (reverse-append (x ∷ []) xs)
    ∙ (picked_append test (reverse xs) (x ∷ [])
    ∙ elim (test x) as (λ b. picked test (reverse xs) ++ (if b then x ∷ [] else []) ≡ reverse (if b then x ∷ picked test xs else picked test xs)) [
      | true ↦ ap (λ (l : List Entry). l ++ x ∷ []) (picked_reverse test xs) ∙ sym (reverse-append (x ∷ []) (picked test xs))
      | false ↦ nil_append (picked test (reverse xs)) ∙ picked_reverse test xs
    ])

-- THE CALLS
abbrev call_if : Bool → Asked → List Asked → List Asked
call_if b x rest = if b then x ∷ rest else rest

own_picked : (past : History) (t : ℕ) → own past t ≡ own (picked (λ e. is_own e t) past) t
own_picked [] t = refl
own_picked (Call u home c a w ∷ past) t = elim (u == t) as (λ b. (u == t) ≡ b → call_if b (record { call = c; answer = a }) (own past t) ≡ own (if b then Call u home c a w ∷ picked (λ e. is_own e t) past else picked (λ e. is_own e t) past) t) [
  | true ↦ λ same. rw same (ap (λ (l : List Asked). (record { call = c; answer = a }) ∷ l) (own_picked past t))
  | false ↦ λ _. own_picked past t
] refl
own_picked (Start u ∷ past) t = elim (u == t) as (λ b. own past t ≡ own (if b then Start u ∷ picked (λ e. is_own e t) past else picked (λ e. is_own e t) past) t) [ true ↦ own_picked past t | false ↦ own_picked past t ]
own_picked (Free u d w ∷ past) t = elim (u == t) as (λ b. own past t ≡ own (if b then Free u d w ∷ picked (λ e. is_own e t) past else picked (λ e. is_own e t) past) t) [ true ↦ own_picked past t | false ↦ own_picked past t ]
own_picked (End u g ∷ past) t = elim (u == t) as (λ b. own past t ≡ own (if b then End u g ∷ picked (λ e. is_own e t) past else picked (λ e. is_own e t) past) t) [ true ↦ own_picked past t | false ↦ own_picked past t ]
own_picked (other ∷ past) t = own_picked past t

pub own_by_log : (J : List Entry) (log : List (ℕ × Entry)) (t : ℕ) → picked (λ e. is_own e t) J ≡ picked (λ e. is_own e t) (entries log) → own (reverse J) t ≡ own_log log t
own_by_log J log t same =
    own_picked (reverse J) t ∙ (ap (λ (l : History). own l t) (picked_reverse (λ e. is_own e t) J ∙ (ap reverse same ∙ sym (picked_reverse (λ e. is_own e t) (entries log)))) ∙ sym (own_picked (reverse (entries log)) t))

-- THE END
ended_among : (past : History) (t : ℕ) → edts.is_ended past t ≡ is_among (λ e. ends e t) past
ended_among [] t = refl
ended_among (End u g ∷ past) t = ap (λ (b : Bool). (u == t) || b) (ended_among past t)
ended_among (other ∷ past) t = ended_among past t

or_none : (a b : Bool) → a ≡ false → (a || b) ≡ b
or_none true b is = cc is
or_none false b is = refl

-- an EDT's end is its own
ends_own : (e : Entry) (t : ℕ) → is_own e t ≡ false → ends e t ≡ false
ends_own (End u g) t off = off
ends_own other t off = refl

among_picked : (t : ℕ) (xs : List Entry) → is_among (λ e. ends e t) xs ≡ is_among (λ e. ends e t) (picked (λ e. is_own e t) xs)
among_picked t [] = refl
among_picked t (x ∷ xs) = elim (is_own x t) as (λ b. is_own x t ≡ b → (ends x t || is_among (λ e. ends e t) xs) ≡ is_among (λ e. ends e t) (if b then x ∷ picked (λ e. is_own e t) xs else picked (λ e. is_own e t) xs)) [
  | true ↦ λ _. ap (λ (b : Bool). ends x t || b) (among_picked t xs)
  | false ↦ λ off. or_none (ends x t) (is_among (λ e. ends e t) xs) (ends_own x t off) ∙ among_picked t xs
] refl

pub ended_by_log : (J : List Entry) (log : List (ℕ × Entry)) (t : ℕ) → picked (λ e. is_own e t) J ≡ picked (λ e. is_own e t) (entries log) → edts.is_ended (reverse J) t ≡ is_among (λ e. ends e t) (entries log)
ended_by_log J log t same =
    ended_among (reverse J) t ∙ (among_turned (λ e. ends e t) J ∙ (among_picked t J ∙ (ap (is_among (λ e. ends e t)) same ∙ sym (among_picked t (entries log)))))
