-- The open slots that the tables tell are those of the history.
use Rattle.std.proofs.Common.{◌≡◌, ◌∙◌, ◌+◌, ℕ, zero, suc, List, [], ◌∷◌, ◌++◌, Bool, true, false, not, ◌||◌, ◌==◌, if◌then◌else◌, refl, ap, arith}
use Rattle.std.specs.Prelude.{Option, Some, None, is_some}
use Rattle.std.specs.List.{flat_map, list_any, range_with_len}
use Rattle.std.specs.BTreeMap.{BTreeMap}
use Rattle.std.proofs.lemmas.List.Elements.{filter_agree}
use Rattle.std.proofs.lemmas.Grind.{flat_map-append}
use Rattle.std.proofs.Math.Bool.{or-false}
use Rattle.ocr_slots.specs.Slots.{SlotCall, Linking, Setting, is_set, payload_of}
use Rattle.ocr_machine_history.specs.History.{Setting as Set, History}
use Rattle.ocr_machine_history.specs.Made.{Made, MadeBlock, MadeTemplate, MadeEdt, MadeEvent, MadeScope, made}
use Rattle.ocr_machine_history.specs.Made as what
use Rattle.ocr_machine_parts.specs.Calls.{set_calls, open_slots, depc_of}
use Rattle.ocr_report.specs.declared.slots.Counted.{Counted}
use Rattle.ocr_report.specs.Edts.{kept_if}
use Rattle.ocr_report.specs.Left.{left_line, left_lines}
use Rattle.ocr_report.specs.Lists.{list_at}
use Rattle.ocr_report.specs.Open.{open_in, unset_below}
use Rattle.ocr_report.specs.Slots.{AreCounts, AreSet, slots_in, depc_in, counted_in}
use Rattle.ocr_report.proofs.Unstarted.{all_kept}

any_last : (f : ℕ → Bool) (ns : List ℕ) (n : ℕ) → list_any f (ns ++ n ∷ []) ≡ (list_any f ns || f n)
any_last f [] n = or-false (f n)
any_last f (m ∷ ns) n = ap (λ b. f m || b) (any_last f ns n) ∙ or_assoc (f m) (list_any f ns) (f n)
  where
    or_assoc : (a b c : Bool) → (a || (b || c)) ≡ ((a || b) || c)
    or_assoc true b c = refl
    or_assoc false b c = refl

set_first : (b : Bool) (p : ℕ) (rest : Option ℕ) → (is_some rest || b) ≡ is_some (if b then Some p else rest)
set_first true p None = refl
set_first true p (Some q) = refl
set_first false p None = refl
set_first false p (Some q) = refl

set_same : (calls : List SlotCall) (k : ℕ) → list_any (λ m. m == k) (slots_in calls) ≡ is_set calls k
set_same [] k = refl
set_same (Linking i m ∷ calls) k = set_same calls k
set_same (Setting i p ∷ calls) k =
    any_last (λ m. m == k) (slots_in calls) i ∙ ap (λ b. b || (i == k)) (set_same calls k)
    ∙ set_first (i == k) p (payload_of calls k)

depc_same : (m : Option Made) → depc_in (counted_in m) ≡ what.depc_in m
depc_same None = refl
depc_same (Some (MadeBlock n c)) = refl
depc_same (Some (MadeTemplate f pc dc)) = refl
depc_same (Some (MadeEdt f ps n)) = refl
depc_same (Some (MadeEvent k fl most)) = refl
depc_same (Some (MadeScope outer event)) = refl

pub open_same : (s : Set) (past : History) (counts : BTreeMap ℕ Counted) (sets : BTreeMap ℕ (List ℕ)) → AreCounts s past counts → AreSet past sets
    → (t : ℕ) → open_in counts sets t ≡ open_slots s past t
open_same s past counts sets counted are t =
    ap (λ n. unset_below (list_at sets t) n) (ap depc_in (counted t) ∙ depc_same (made s past t))
    ∙ ap (λ ks. unset_below ks (depc_of s past t)) (are t)
    ∙ all_kept (λ k. list_any (λ m. m == k) (slots_in (set_calls past t))) (range_with_len 0 (depc_of s past t))
    ∙ filter_agree (λ k. not (list_any (λ m. m == k) (slots_in (set_calls past t)))) (λ k. not (is_set (set_calls past t) k))
    (λ k. ap not (set_same (set_calls past t) k)) (range_with_len 0 (depc_of s past t))

pub lines_same : (f g : ℕ → List ℕ) → ((t : ℕ) → f t ≡ g t) → (ts : List ℕ) → left_lines f ts ≡ left_lines g ts
lines_same f g same [] = refl
lines_same f g same (t ∷ ts) =
    ap (λ slots. left_line t slots ++ left_lines f ts) (same t) ∙ ap (λ rest. left_line t (g t) ++ rest) (lines_same f g same ts)

pub one_more : (a n j : ℕ) → a + n ≡ j → range_with_len a (suc n) ≡ range_with_len a n ++ j ∷ []
one_more a zero j e =
    let same : a ≡ j = omega (arith, e) in
    ap (λ (k : ℕ). k ∷ []) same
one_more a (suc n) j e = ap (λ rest. a ∷ rest) (one_more (a + 1) n j (omega (arith, e)))

kept_alone : (b : Bool) (n : ℕ) → kept_if b n ++ [] ≡ kept_if b n
kept_alone true n = refl
kept_alone false n = refl

pub unset_more : (set : List ℕ) (n : ℕ) → unset_below set (n + 1) ≡ unset_below set n ++ kept_if (list_any (λ m. m == n) set) n
unset_more set n =
    let next : n + 1 ≡ suc n = omega arith in
    let f : ℕ → List ℕ = λ k. kept_if (list_any (λ m. m == k) set) k in
    ap (λ k. flat_map f (range_with_len 0 k)) next
    ∙ ap (flat_map f) (one_more 0 n n (omega arith))
    ∙ flat_map-append f (range_with_len 0 n) (n ∷ [])
    ∙ ap (λ rest. flat_map f (range_with_len 0 n) ++ rest) (kept_alone (list_any (λ m. m == n) set) n)
