-- The home of a running EDT takes one member more, where a clerk has a number for it.
use Rattle.std.proofs.Common.{◌≡◌, ℕ, ◌+◌, ◌-◌, ◌≤◌, List, true, false, ◌==◌, if◌then◌else◌, None, reverse, refl, sym, ◌∙◌, ap, subst}
use Rattle.std.proofs.lemmas.List.{reverse-reverse}
use Rattle.std.proofs.lemmas.Bool.{true_from_ne_false, cond-true}
use Rattle.ocr_machine_history.specs.declared.entry.Entry.{Entry}
use Rattle.ocr_machine_history.specs.History.{History}
use Rattle.ocr_machine_history.specs.Made.{made}
use Rattle.ocr_machine_parts.specs.declared.part.Part.{Part}
use Rattle.ocr_machine_parts.specs.declared.part.Part.TheVariants as part
use Rattle.ocr_machine_parts.specs.Effects.{settled}
use Rattle.ocr_machine_parts.specs.Kinds.{home_on, is_running}
use Rattle.ocr_machine_parts.specs.LegalOn.{IsFresh, IsJoinable}
use Rattle.ocr_machine_parts.specs.Parts.{Parts, parts_of}
use Rattle.ocr_machine_parts.specs.Taken.{as_core, core_in, has, is_within, look, place_of, seen}
use Rattle.ocr_machine_parts.proofs.Within.{within_law}
use Rattle.ocr_machine_laws.proofs.Room.{joining_law}
use Rattle.ocr_turns_rule.specs.Debts.{times}
use Rattle.ocr_turns_rule.specs.Rule.{Fits}
use Rattle.ocr_turns_rule.specs.Sums.{made_sum, one_at}
use Rattle.ocr_worker_machine.specs.Clerks.{AreAtHand, HandHome, KnowsHome, OcrTerms, OcrView, of_terms}
use Rattle.ocr_worker_machine.specs.Ocr.{meaning}
use Rattle.ocr_worker_machine.specs.Ocr as ocr
use Rattle.ocr_worker_machine.proofs.Entered.{fitting_parts}
use Rattle.ocr_worker_machine.proofs.Makes.{unmade}
use Rattle.ocr_worker_machine.proofs.Owed.{hand_face}
use Rattle.ocr_worker_machine.proofs.Runs.{run_is}
use Rattle.ocr_machine_laws.proofs.Kept.{within_core}

-- A DRAWN NUMBER names nothing
pub drawn_free : (t : OcrTerms) (v : OcrView) (J : List Entry) (n : ℕ) → Fits meaning t J v → 1 ≤ times n v.drawn → made (of_terms t) (reverse J) n ≡ None
drawn_free t v J n fits drew =
    let free = fits.unmade n drew in
    unmade (of_terms t) (reverse J) n free.unopened (ap (made_sum ocr.makes (one_at n)) (reverse-reverse J) ∙ free.unmade)

no_face : (t : OcrTerms) (past : History) (n : ℕ) → made (of_terms t) past n ≡ None → (parts_of (of_terms t) past).face n ≡ part.Vacant
no_face t past n none = rw none refl

pub drawn_fresh : (t : OcrTerms) (v : OcrView) (J : List Entry) (n : ℕ) → Fits meaning t J v → 1 ≤ times n v.drawn → IsFresh t.limit (parts_of (of_terms t) (reverse J)) n
drawn_fresh t v J n fits drew =
    let free = fits.unmade n drew in record { some = free.least; within = free.most; vacant = no_face t (reverse J) n (drawn_free t v J n fits drew) }

-- AFTER A HISTORY that fits
pub knows_home : KnowsHome
knows_home t v J u g done fits most running drawn = record {
  own = refl;
  joinable = λ on some. joining_law (of_terms t) (reverse J) u g (run_is t.setting.value t.limit J fits.run) most running some (drawn_fresh t v J g fits (drawn on));
}

pub placed_core : (limit t : ℕ) (f : Parts) → is_within limit t ≡ true → place_of limit f (limit + t) ≡ f.core t
placed_core limit t f within = let w = within_core limit t within in rw (w.0, w.1, within) refl

seen_core : (limit t : ℕ) (x : Part) → is_within limit t ≡ true → seen limit (limit + t) x ≡ settled (as_core x)
seen_core limit t x within = let w = within_core limit t within in rw (w.0, w.1, within) refl

pub hand_core : (t : OcrTerms) (v : OcrView) (J : List Entry) (hand : List (ℕ × Part)) (u : ℕ) → Fits meaning t J v → AreAtHand t.limit hand v.parts → is_within t.limit u ≡ true → has hand (t.limit + u) ≡ true
    → (parts_of (of_terms t) (reverse J)).core u ≡ settled (core_in t.limit hand u)
hand_core t v J hand u fits at_hand within here =
    sym (placed_core t.limit u (parts_of (of_terms t) (reverse J)) within)
    ∙ (fitting_parts t J v fits (t.limit + u) (at_hand.there (t.limit + u) here) ∙ (sym (at_hand.alike (t.limit + u) here)
    ∙ (seen_core t.limit u (look hand (t.limit + u)) within ∙ ap settled (sym (cond-true (is_within t.limit u) (as_core (look hand (t.limit + u))) part.Vacant within)))))

pub running_settled : (x : Part) → is_running (settled x) ≡ is_running x
running_settled (part.Core c) = refl
running_settled other = refl

pub home_settled : (x : Part) → home_on (settled x) ≡ home_on x
home_settled (part.Core c) = refl
home_settled other = refl

-- who runs has a number from 1 to the limit
running_within : (limit : ℕ) (hand : List (ℕ × Part)) (u : ℕ) → is_running (core_in limit hand u) ≡ true → is_within limit u ≡ true
running_within limit hand u is = elim (is_within limit u) as (λ b. is_running (if b then as_core (look hand (limit + u)) else part.Vacant) ≡ true → b ≡ true) [ true ↦ λ _. refl | false ↦ λ wrong. cc wrong ] is

unjoinable : (x : Part) → IsJoinable x → x ≡ part.Vacant → ⊥
unjoinable x is vacant = subst IsJoinable vacant is

-- AT HAND
pub hand_home : HandHome
hand_home t v u g done hand has_home =
    let J : List Entry = has_home.fitting.0 in let fits = has_home.fitting.1 in
    let s = of_terms t in let f : Parts = parts_of s (reverse J) in let x : Part = core_in t.limit hand u in
    let same : f.core u ≡ settled x = hand_core t v J hand u fits has_home.at_hand (running_within t.limit hand u has_home.running) has_home.here in
    let homes : home_on (f.core u) ≡ home_on x = ap home_on same ∙ home_settled x in
    let known = knows_home t v J u g done fits has_home.most (ap is_running same ∙ (running_settled x ∙ has_home.running)) has_home.drawn in
    record {
      own = refl;
      joinable = λ on some.
          let home : ℕ = home_on x in
          let there : IsJoinable (f.face home) = subst (λ (n : ℕ). IsJoinable (f.face n)) homes (known.joinable on (ap (λ (n : ℕ). n == 0) homes ∙ some)) in
          let within : is_within t.limit home ≡ true = true_from_ne_false (is_within t.limit home) (λ off. unjoinable (f.face home) there ((within_law s (reverse J) fits.limits (run_is t.setting.value t.limit J fits.run)).faces home off)) in
          subst IsJoinable (sym (hand_face t v J hand home fits has_home.at_hand (has_home.home some) ∙ cond-true (is_within t.limit home) (f.face home) part.Vacant within)) there;
    }
