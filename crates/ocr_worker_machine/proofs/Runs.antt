-- A run of the table is a run of the machine.
use Rattle.std.proofs.Common.{◌≡◌, ℕ, zero, suc, ◌≤◌, List, [], ◌∷◌, ◌++◌, length, reverse, refl, sym, subst, arith}
use Rattle.std.proofs.lemmas.List.{reverse-append, reverse-reverse, take-append-le}
use Rattle.std.proofs.Math.Seq.{take-append_seam}
use mathlib.Core.Option.{some}
use lib.ListN.{get_elem?}
use Rattle.atomic_table.proofs.Lists.{at_longer, at_last}
use Rattle.ocr_machine_history.specs.declared.entry.Entry.{Entry}
use Rattle.ocr_machine_history.specs.History.{History}
use Rattle.ocr_machine_history.specs.History as history
use Rattle.ocr_machine_parts.specs.Legal.{IsRun, IsLegal}
use Rattle.ocr_turns_rule.specs.Counts.{MayCome}
use Rattle.ocr_turns_rule.specs.Meaning.{Run}
use Rattle.ocr_turns_rule.specs.declared.view.Terms.{Terms}
use Rattle.ocr_worker_machine.specs.Ocr.{MayFollow, meaning, setting_in}
use Rattle.ocr_worker_machine.specs.declared.setting.Setting.{Setting}

pub reverse_snoc : (J : List Entry) (e : Entry) → reverse (J ++ e ∷ []) ≡ e ∷ reverse J
reverse_snoc J e = reverse-append J (e ∷ [])

pub reverse_cons : (past : List Entry) (e : Entry) → reverse (e ∷ past) ≡ reverse past ++ e ∷ []
reverse_cons past e = reverse-append (e ∷ []) past

module _ (g : Setting) (limit : ℕ) where
  run_front : (J : List Entry) (e : Entry) → Run (MayFollow g limit) (J ++ e ∷ []) → Run (MayFollow g limit) J
  run_front J e run n b at =
      let lt : n ≤ length J = below J n b at in
      subst (λ (K : List Entry). MayFollow g limit K b) (take-append-le n J (e ∷ []) lt) (run n b (at_longer J (e ∷ []) n b at))
    where
      below : (J : List Entry) (n : ℕ) (b : Entry) → get_elem? J n ≡ some b → n ≤ length J
      below [] n b at = absurd (cc at)
      below (x ∷ xs) zero b at = omega arith
      below (x ∷ xs) (suc n) b at = let r = below xs n b at in omega arith

  run_last : (J : List Entry) (e : Entry) → Run (MayFollow g limit) (J ++ e ∷ []) → MayFollow g limit J e
  run_last J e run = subst (λ (K : List Entry). MayFollow g limit K e) (take-append_seam J (e ∷ [])) (run (length J) e (at_last J e (length J) refl))

  pub run_back : (past : History) → Run (MayFollow g limit) (reverse past) → IsRun (setting_in g limit) past
  run_back [] run = tt
  run_back (e ∷ past) run =
      let all : Run (MayFollow g limit) (reverse past ++ e ∷ []) = subst (Run (MayFollow g limit)) (reverse_cons past e) run in
      (run_back past (run_front (reverse past) e all), subst (λ (K : History). IsLegal (setting_in g limit) K e) (reverse-reverse past) (run_last (reverse past) e all).legal)

  pub run_is : (J : List Entry) → Run (MayFollow g limit) J → IsRun (setting_in g limit) (reverse J)
  run_is J run = run_back (reverse J) (subst (Run (MayFollow g limit)) (sym (reverse-reverse J)) run)

-- what the laws of the words that count presume, in the machine's words
pub record Comes (s : history.Setting) (past : History) (e : Entry) : Type 0 where
  pub enough : 2 ≤ s.limit
  pub run : IsRun s past
  pub legal : IsLegal s past e

abbrev pub of_terms : Terms Setting → history.Setting
of_terms t = setting_in t.setting.value t.limit

pub comes : (t : Terms Setting) (past : History) (e : Entry) → MayCome meaning t past e → Comes (of_terms t) past e
comes t past e may = record {
  enough = may.limits;
  run = run_back t.setting.value t.limit past may.run;
  legal = subst (λ (K : History). IsLegal (of_terms t) K e) (reverse-reverse past) may.legal.legal;
}
