-- An EDT that has not started by its kept core has no entry of its own in the log.
use Rattle.std.proofs.Common.{◌≡◌, ℕ, ◌+◌, Bool, true, false, ◌||◌, if◌then◌else◌, nat_lt, List, [], ◌∷◌, reverse, refl, ◌∙◌, ap, subst}
use Rattle.std.proofs.lemmas.Bool.{false_from_ne_true}
use Rattle.std.proofs.lemmas.List.{reverse-reverse}
use mathlib.Core.Option.{some}
use lib.ListN.{get_elem?}
use Rattle.ocr_machine_history.specs.declared.entry.Entry.{Entry}
use Rattle.ocr_machine_history.specs.Edts.{is_started}
use Rattle.ocr_machine_parts.specs.declared.part.Core.{Core}
use Rattle.ocr_machine_parts.specs.declared.part.Part.{Part}
use Rattle.ocr_machine_parts.specs.declared.part.Part.TheVariants as part
use Rattle.ocr_machine_parts.specs.Taken.{is_within}
use Rattle.ocr_machine_laws.specs.Marks.{mark, stage_in}
use Rattle.ocr_machine_laws.proofs.Stages.{told_law}
use Rattle.ocr_machine_laws.specs.Permanence.{has_own, is_own}
use Rattle.ocr_machine_laws.proofs.Own.{has_started}
use Rattle.ocr_turns_rule.specs.Rule.{Fits}
use Rattle.ocr_turns_rule.specs.Sums.{entries, is_among, picked}
use Rattle.ocr_turns_rule.proofs.Totals.{log_none}
use Rattle.ocr_worker_machine.specs.Clerks.{OcrTerms, OcrView, of_terms}
use Rattle.ocr_worker_machine.specs.Ocr.{meaning}
use Rattle.ocr_worker_machine.proofs.Lawful.{none_picked}
use Rattle.ocr_worker_machine.proofs.Runs.{run_is}
use Rattle.ocr_worker_clerk.proofs.Seen.{core_is}

pub not_among : (test : Entry → Bool) (xs : List Entry) → picked test xs ≡ [] → is_among test xs ≡ false
not_among test [] none = refl
not_among test (x ∷ xs) none = elim (test x) as (λ b. (if b then x ∷ picked test xs else picked test xs) ≡ [] → (b || is_among test xs) ≡ false) [
  | true ↦ λ wrong. cc wrong
  | false ↦ λ rest. not_among test xs rest
] none

pub unstarted_log : (t : OcrTerms) (v : OcrView) (J : List Entry) (k edt : ℕ) (c : Core) → Fits meaning t J v → is_within t.limit edt ≡ true → get_elem? v.parts k ≡ some (t.limit + edt, part.Core c) → nat_lt 1 (stage_in c.edt) ≡ false
    → is_among (λ e. is_own e edt) (entries v.log) ≡ false
unstarted_log t v J k edt c fits within at stage =
    let s = of_terms t in let past = reverse J in let run = run_is t.setting.value t.limit J fits.run in
    let core = core_is t J v k edt c fits within at in
    let unstarted : is_started past edt ≡ false = (told_law s past run edt).has_started ∙ (ap (λ (x : Part). nat_lt 1 (mark x).0) core ∙ stage) in
    let no_own : has_own past edt ≡ false = false_from_ne_true (has_own past edt) (λ on. let is = has_started s past edt run on in cc (is, unstarted)) in
    let none : picked (λ e. is_own e edt) J ≡ [] = subst (λ (K : List Entry). picked (λ e. is_own e edt) K ≡ []) (reverse-reverse J) (none_picked past edt no_own) in
    not_among (λ e. is_own e edt) (entries v.log) (log_none (λ e. is_own e edt) J v.log fits.log none)
