-- The laws of the machine with one EDT.
use Rattle.std.proofs.Common.{◌≡◌, ℕ, zero, suc, ◌+◌, ◌*◌, ◌<◌, ◌≤◌, ◌==◌, ◌⊎◌, ◌||◌, inl, inr, Bool, true, false, if◌then◌else◌, List, [], ◌∷◌, ◌++◌, reverse, ap, sym, ◌∙◌, subst, refl, arith}
use Rattle.std.specs.Prelude.{Option, Some, None}
use Rattle.std.proofs.lemmas.List.{reverse-append, reverse-reverse}
use Rattle.ocr_turns_rule.specs.Counts.{CountingLaws, IsReady, MayCome, awaited, is_ended, is_started, place_or, slots_of, payload_of}
use Rattle.ocr_turns_rule.specs.Meaning.{ArePlaces, IsBare, Lawful}
use Rattle.ocr_turns_rule.specs.Sums.{one_at, picked, sum_of}
use Rattle.ocr_turns_rule.proofs.Totals.{one_most, one_same, picked_append}
use Rattle.ocr_turns_rule.specs.declared.view.Terms.{Terms}
use Rattle.ocr_tests_count.specs.declared.solo.Act.{Act}
use Rattle.ocr_tests_count.specs.declared.solo.Act.TheVariants.{Start, Work, End, Destroy, Stop}
use Rattle.ocr_tests_count.specs.Solo.{heavy, legal, meaning, part, part_at, places, started, state, stops, worked}

weighs : (e : Act) → stops e ≡ false → 1 ≤ heavy e
weighs Start goes = omega arith
weighs Work goes = omega arith
weighs End goes = omega arith
weighs Destroy goes = omega arith
weighs Stop goes = absurd (cc goes)

bare : (e : Act) → stops e ≡ true → IsBare meaning e
bare Start ends = absurd (cc ends)
bare Work ends = absurd (cc ends)
bare End ends = absurd (cc ends)
bare Destroy ends = absurd (cc ends)
bare Stop ends = record {
  delivers = refl;
  makes = refl;
  touches = λ limit p. refl;
  runs = λ t. refl;
  ends = λ t. refl;
  sends = λ g limit J. refl;
  weightless = refl;
  creates = λ g limit J. refl;
  sets = refl;
  waits = λ t. refl;
  resumes = λ g limit J. refl;
}

elsewhere : (p x y : ℕ) → one_at p 3 + 0 ≡ 0
    → ◌≡◌ {A = ℕ} (if p == 3 then x else 0) (if p == 3 then y else 0)
elsewhere p x y none = by_test (p == 3) none
  where
    by_test : (b : Bool) → (if b then 1 else 0) + 0 ≡ 0
        → ◌≡◌ {A = ℕ} (if b then x else 0) (if b then y else 0)
    by_test true none = absurd (omega (arith, none))
    by_test false none = refl

local_last : (past : List Act) (e : Act) (p : ℕ) → sum_of (one_at p) (places e) ≡ 0
    → part_at (e ∷ past) p ≡ part_at past p
local_last past Start p none = elsewhere p (started (state past)) (state past) none
local_last past Work p none = elsewhere p (worked (state past)) (state past) none
local_last past End p none = elsewhere p 2 (state past) none
local_last past Destroy p none = elsewhere p 2 (state past) none
local_last past Stop p none = refl

local : (g limit : ℕ) (J : List Act) (e : Act) (p : ℕ) → sum_of (one_at p) (places e) ≡ 0
    → part g limit (J ++ e ∷ []) p ≡ part g limit J p
unfolding part
local g limit J e p none =
    ap (λ past. part_at past p) (reverse-append J (e ∷ [])) ∙ local_last (reverse J) e p none

on_core : (e : Act) (t : ℕ) → meaning.runs e t ≡ true → 1 ≤ sum_of (one_at 3) (places e)
on_core Start t runs = omega arith
on_core Work t runs = omega arith
on_core End t runs = omega arith
on_core Destroy t runs = absurd (cc runs)
on_core Stop t runs = absurd (cc runs)

not_worked : (n : ℕ) → worked n ≡ 0 → ⊥
not_worked zero is = absurd (omega (arith, is))
not_worked (suc n) is = absurd (omega (arith, is))

not_started : (n : ℕ) → started n ≡ 0 → ⊥
not_started zero is = absurd (omega (arith, is))
not_started (suc n) is = absurd (omega (arith, is))

once_started : (n : ℕ) → started n ≡ 1 → n ≡ 0
once_started zero is = refl
once_started (suc n) is = absurd (omega (arith, is))

still_runs : (n : ℕ) → worked n ≡ 1 → n ≡ 1
still_runs zero is = absurd (omega (arith, is))
still_runs (suc n) is = is

-- no act of the EDT came before its start
none_own : (past : List Act) (t : ℕ) → state past ≡ 0
    → picked (λ x. meaning.runs x t) (reverse past) ≡ []
none_own [] t none = refl
none_own (Start ∷ past) t none = absurd (not_started (state past) none)
none_own (Work ∷ past) t none = absurd (not_worked (state past) none)
none_own (End ∷ past) t none = absurd (omega (arith, none))
none_own (Destroy ∷ past) t none = absurd (omega (arith, none))
none_own (Stop ∷ past) t none =
    ap (picked (λ x. meaning.runs x t)) (reverse-append (Stop ∷ []) past)
    ∙ (picked_append (λ x. meaning.runs x t) (reverse past) (Stop ∷ [])
    ∙ ap (λ l. l ++ []) (none_own past t none))

first : (g limit : ℕ) (J : List Act) (e : Act) (t : ℕ) → legal g limit J e
    → meaning.starts e t ≡ true → picked (λ x. meaning.runs x t) J ≡ []
unfolding legal
first g limit J Start t ok starts =
    ap (picked (λ x. meaning.runs x t)) (sym (reverse-reverse J)) ∙ none_own (reverse J) t ok
first g limit J Work t ok starts = absurd (cc starts)
first g limit J End t ok starts = absurd (cc starts)
first g limit J Destroy t ok starts = absurd (cc starts)
first g limit J Stop t ok starts = absurd (cc starts)

core_place : (limit : ℕ) → 2 ≤ limit → ArePlaces limit (λ p. sum_of (one_at p) (3 ∷ []))
core_place limit two = record {
  all = 3 ∷ [];
  those = λ p. refl;
  differ = λ p. let one = one_most p 3 in omega arith;
  range = λ p is.
      let same : 3 ≡ p = sym (one_same p 3 (omega arith)) in
      subst (λ r. (1 ≤ r) × (r ≤ 2 * limit)) same (omega arith, omega arith);
  few = omega arith;
}

are_places : (limit : ℕ) (e : Act) → 2 ≤ limit
    → ArePlaces limit (λ p. sum_of (one_at p) (places e))
are_places limit Start two = core_place limit two
are_places limit Work two = core_place limit two
are_places limit End two = core_place limit two
are_places limit Destroy two = core_place limit two
are_places limit Stop two = record {
  all = [];
  those = λ p. refl;
  differ = λ p. omega arith;
  range = λ p is. absurd (omega arith);
  few = omega arith;
}

starting : (e : Act) (t : ℕ) → meaning.starts e t ≡ true → meaning.runs e t ≡ true
starting Start t is = is
starting Work t is = absurd (cc is)
starting End t is = absurd (cc is)
starting Destroy t is = absurd (cc is)
starting Stop t is = absurd (cc is)

pub laws : Lawful meaning
laws = record {
  weighs = weighs;
  bare = bare;
  lasting = λ g limit J e f run ok was. tt;
  local = λ g limit J e p most run ok none. local g limit J e p none;
  on_core = λ g limit J e t most run ok runs. on_core e t runs;
  first = λ g limit J e t run ok starts. first g limit J e t ok starts;
  places = λ g limit J e most run ok. are_places limit e most;
  making = λ g limit J e n most run ok has. absurd (omega (arith, has));
  starting = starting;
}

-- WHAT THE WORDS THAT COUNT SEE
slots_are : (t : Terms ℕ) (past : List Act) → slots_of meaning t past 1 ≡ Some 1
slots_are t [] = refl
slots_are t (e ∷ past) = slots_are t past

payload_is : (t : Terms ℕ) (past : List Act) → payload_of meaning t past 1 0 ≡ Some 0
payload_is t [] = refl
payload_is t (e ∷ past) = payload_is t past

awake : (t : Terms ℕ) (past : List Act) (n : ℕ) → awaited meaning t past n ≡ None
awake t [] n = refl
awake t (e ∷ past) n = neither (meaning.starts e n) (meaning.ends e n) (awake t past n)
  where
    neither : (b c : Bool) {o : Option ℕ} → o ≡ None → (if b || c then None else place_or None o) ≡ None
    neither true c is = refl
    neither false true is = refl
    neither false false is = is

unstarted : (t : Terms ℕ) (past : List Act) (n : ℕ) → state past ≡ 0
    → is_started meaning t past n ≡ false
unstarted t [] n is = refl
unstarted t (Start ∷ past) n is = absurd (not_started (state past) is)
unstarted t (Work ∷ past) n is = absurd (not_worked (state past) is)
unstarted t (End ∷ past) n is = absurd (omega (arith, is))
unstarted t (Destroy ∷ past) n is = absurd (omega (arith, is))
unstarted t (Stop ∷ past) n is = unstarted t past n is

unended : (t : Terms ℕ) (past : List Act) (n : ℕ) → state past ≡ 0
    → is_ended meaning t past n ≡ false
unended t [] n is = refl
unended t (Start ∷ past) n is = absurd (not_started (state past) is)
unended t (Work ∷ past) n is = absurd (not_worked (state past) is)
unended t (End ∷ past) n is = absurd (omega (arith, is))
unended t (Destroy ∷ past) n is = absurd (omega (arith, is))
unended t (Stop ∷ past) n is = unended t past n is

-- while it runs it has started and not ended
runs_on : (t : Terms ℕ) (past : List Act) → state past ≡ 1
    → (is_started meaning t past 1 ≡ true) × (is_ended meaning t past 1 ≡ false)
runs_on t [] is = absurd (omega (arith, is))
runs_on t (Start ∷ past) is = (refl, unended t past 1 (once_started (state past) is))
runs_on t (Work ∷ past) is = runs_on t past (still_runs (state past) is)
runs_on t (End ∷ past) is = absurd (omega (arith, is))
runs_on t (Destroy ∷ past) is = absurd (omega (arith, is))
runs_on t (Stop ∷ past) is = runs_on t past is

one_slot : (t : Terms ℕ) (past : List Act) (k : ℕ) → k < 1
    → (x : ℕ) × (payload_of meaning t past 1 k ≡ Some x)
one_slot t past zero lt = (0, payload_is t past)
one_slot t past (suc k) lt = absurd (omega (arith, lt))

is_ready : (t : Terms ℕ) (past : List Act) → state past ≡ 0 → IsReady meaning t past 1
is_ready t past is = record {
  set = record { slots = 1; made = slots_are t past; all_set = one_slot t past };
  unstarted = unstarted t past 1 is;
  unended = unended t past 1 is;
  awake = awake t past 1;
}

ready : (t : Terms ℕ) (past : List Act) (e : Act) (n : ℕ) → MayCome meaning t past e
    → meaning.starts e n ≡ true → IsReady meaning t past n
unfolding legal
ready t past Start n ok starts =
    let number : 1 ≡ n = grind (arith, starts) in
    subst (IsReady meaning t past) number
    (is_ready t past (ap state (sym (reverse-reverse past)) ∙ ok.legal))
ready t past Work n ok starts = absurd (cc starts)
ready t past End n ok starts = absurd (cc starts)
ready t past Destroy n ok starts = absurd (cc starts)
ready t past Stop n ok starts = absurd (cc starts)

abbrev Ends : Terms ℕ → List Act → Act → ℕ → Type 0
Ends t past e n = (is_ended meaning t past n ≡ false) × (((meaning.runs e n ≡ true) ×
    (is_started meaning t past n ≡ true)) ⊎ ((meaning.runs e n ≡ false) × (is_started meaning t past n ≡ false) ×
    (awaited meaning t past n ≡ None)))

ending : (t : Terms ℕ) (past : List Act) (e : Act) (n : ℕ) → MayCome meaning t past e
    → meaning.ends e n ≡ true → Ends t past e n
unfolding legal
ending t past Start n ok ends = absurd (cc ends)
ending t past Work n ok ends = absurd (cc ends)
ending t past Stop n ok ends = absurd (cc ends)
ending t past End n ok ends =
    let number : 1 ≡ n = grind (arith, ends) in
    let goes = runs_on t past (ap state (sym (reverse-reverse past)) ∙ ok.legal) in
    subst (Ends t past End) number (goes.1, inl (refl, goes.0))
ending t past Destroy n ok ends =
    let number : 1 ≡ n = grind (arith, ends) in
    let none = ap state (sym (reverse-reverse past)) ∙ ok.legal in
    subst (Ends t past Destroy) number
    (unended t past 1 none, inr (refl, unstarted t past 1 none, awake t past 1))

pub counting_laws : CountingLaws meaning
counting_laws = record {
  first_made = (omega arith, omega arith);
  first_set = λ t. tt;
  creating = λ t past e n d ok is. absurd (cc is);
  setting = λ t past e n k x ok is. absurd (cc is);
  starting = ready;
  waiting = λ t past e n p ok waits. absurd (cc waits);
  resuming = λ t past e n ok some. absurd (omega (arith, some));
  ending = ending;
}
