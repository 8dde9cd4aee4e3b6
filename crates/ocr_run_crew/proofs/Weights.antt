-- What a run weighs is what its logs weigh together.
use Rattle.std.proofs.Common.{◌≡◌, ℕ, zero, suc, ◌+◌, ◌*◌, ◌≤◌, List, [], ◌∷◌, ◌++◌, length, reverse, refl, ap, sym, ◌∙◌, arith}
use Rattle.std.proofs.lemmas.List.{reverse-append, reverse-reverse}
use mathlib.Core.Option as maybe
use mathlib.Core.Option.{some, some-injective, some-ne-none}
use lib.ListN.{get_elem?}
use Rattle.ocr_machine_history.specs.declared.entry.Entry.{Entry}
use Rattle.ocr_machine_history.specs.History.{History}
use Rattle.ocr_machine_history.specs.Weight.{weight, weight_of}
use Rattle.ocr_turns_rule.specs.Rule.{LogOf, LogsOf}
use Rattle.ocr_turns_rule.specs.Sums.{weigh, weigh_all, below, load_of}

abbrev heavy_in : maybe.Option Entry → ℕ
heavy_in maybe.none = 0
heavy_in (some e) = weight_of e

-- what the entry of a number weighs
abbrev heavy_at : List Entry → ℕ → ℕ
heavy_at J n = heavy_in (get_elem? J n)

abbrev heavy_list : List Entry → ℕ
heavy_list [] = 0
heavy_list (e ∷ J) = weight_of e + heavy_list J

below_front : (f : ℕ → ℕ) (n : ℕ) → below f (suc n) ≡ f 0 + below (λ k. f (suc k)) n
below_front f zero = refl
below_front f (suc n) = let r = below_front f n in omega arith

list_below : (J : List Entry) → below (heavy_at J) (length J) ≡ heavy_list J
list_below [] = refl
list_below (e ∷ J) = below_front (heavy_at (e ∷ J)) (length J) ∙ ap (λ n. weight_of e + n) (list_below J)

heavy_snoc : (J : List Entry) (e : Entry) → heavy_list (J ++ e ∷ []) ≡ heavy_list J + weight_of e
heavy_snoc [] e = omega arith
heavy_snoc (x ∷ J) e = let r = heavy_snoc J e in omega arith

list_weight : (past : History) → heavy_list (reverse past) ≡ weight past
list_weight [] = refl
list_weight (e ∷ past) = ap heavy_list (reverse-append (e ∷ []) past) ∙ (heavy_snoc (reverse past) e ∙ (let r = list_weight past in omega arith))

log_weight : (J : List Entry) (log : List (ℕ × Entry)) → LogOf J log → weigh (heavy_at J) log ≡ load_of weight_of log
log_weight J [] of = refl
log_weight J (x ∷ log) of =
    let here : heavy_at J x.0 ≡ weight_of x.1 = ap heavy_in (of 0 x.0 x.1 refl) in
    let r = log_weight J log (λ k n e at. of (suc k) n e at) in omega arith

-- what several logs weigh
abbrev pub loads_of : List (List (ℕ × Entry)) → ℕ
loads_of [] = 0
loads_of (log ∷ logs) = load_of weight_of log + loads_of logs

logs_weight : (J : List Entry) (logs : List (List (ℕ × Entry))) → LogsOf J logs → weigh_all (heavy_at J) logs ≡ loads_of logs
logs_weight J [] of = refl
logs_weight J (log ∷ logs) of =
    let here = log_weight J log (of 0 log refl) in
    let r = logs_weight J logs (λ j l at. of (suc j) l at) in omega arith

-- THE WEIGHT of a run whose entries stand in the logs, each number once
pub run_weight : (J : List Entry) (logs : List (List (ℕ × Entry))) → LogsOf J logs → ((f : ℕ → ℕ) → weigh_all f logs ≡ below f (length J)) → weight (reverse J) ≡ loads_of logs
run_weight J logs of once =
    sym (list_weight (reverse J)) ∙ (ap heavy_list (reverse-reverse J) ∙ (sym (list_below J) ∙ (sym (once (heavy_at J)) ∙ logs_weight J logs of)))

pub load_within : (logs : List (List (ℕ × Entry))) (j : ℕ) (log : List (ℕ × Entry)) → get_elem? logs j ≡ some log → load_of weight_of log ≤ loads_of logs
load_within [] j log at = absurd (some-ne-none log (sym at))
load_within (l ∷ logs) zero log at = let e = ap (load_of weight_of) (some-injective l log at) in omega arith
load_within (l ∷ logs) (suc j) log at = let r = load_within logs j log at in omega arith

-- logs that weigh at most a share each
pub loads_within : (share : ℕ) (logs : List (List (ℕ × Entry))) → ((j : ℕ) (log : List (ℕ × Entry)) → get_elem? logs j ≡ some log → load_of weight_of log ≤ share) → loads_of logs ≤ length logs * share
loads_within share [] light = omega arith
loads_within share (l ∷ logs) light = let a = light 0 l refl in let r = loads_within share logs (λ j log at. light (suc j) log at) in omega arith
