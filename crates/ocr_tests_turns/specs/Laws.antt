-- The laws of the toy machine.
use Rattle.std.proofs.Common.{◌≡◌, ℕ, ◌+◌, ◌*◌, ◌≤◌, ◌==◌, sym, subst, Bool, true, false, if◌then◌else◌, List, [], ◌∷◌, ◌++◌, reverse, ap, ◌∙◌, refl, arith}
use Rattle.std.proofs.lemmas.List.{reverse-append}
use Rattle.ocr_turns_rule.specs.Counts.{CountingLaws}
use Rattle.ocr_turns_rule.specs.Meaning.{ArePlaces, IsBare, Lawful}
use Rattle.ocr_turns_rule.specs.Sums.{one_at, sum_of}
use Rattle.ocr_turns_rule.proofs.Totals.{one_most, one_same}
use Rattle.ocr_tests_turns.specs.declared.toy.Entry.{Entry}
use Rattle.ocr_tests_turns.specs.declared.toy.Entry.TheVariants.{Add, Stop}
use Rattle.ocr_tests_turns.specs.Toy.{counter_at, heavy, legal, meaning, part, places, stops}

weighs : (e : Entry) → stops e ≡ false → 1 ≤ heavy e
weighs (Add p found n d) goes = omega arith
weighs Stop goes = absurd (cc goes)

bare : (e : Entry) → stops e ≡ true → IsBare meaning e
bare (Add p found n d) ends = absurd (cc ends)
bare Stop ends = record {
  delivers = refl;
  makes = refl;
  touches = λ limit p. refl;
  runs = λ t. refl;
  ends = λ t. refl;
  sends = λ g limit J. refl;
  weightless = refl;
  creates = λ g limit J. refl;
  sets = refl;
  waits = λ t. refl;
  resumes = λ g limit J. refl;
}

by_test : (b : Bool) (x n : ℕ) → (if b then 1 else 0) + 0 ≡ 0 → (if b then x + n else x) ≡ x
by_test true x n none = absurd (omega (arith, none))
by_test false x n none = refl

local_last : (past : List Entry) (e : Entry) (p : ℕ) → sum_of (one_at p) (places e) ≡ 0
    → counter_at (e ∷ past) p ≡ counter_at past p
local_last past (Add q found n d) p none = by_test (p == q) (counter_at past p) n none
local_last past Stop p none = refl

local : (g limit : ℕ) (J : List Entry) (e : Entry) (p : ℕ)
    → sum_of (one_at p) (places e) ≡ 0 → part g limit (J ++ e ∷ []) p ≡ part g limit J p
unfolding part
local g limit J e p none =
    ap (λ past. counter_at past p) (reverse-append J (e ∷ [])) ∙ local_last (reverse J) e p none

are_places : (g limit : ℕ) (J : List Entry) (e : Entry) → legal g limit J e
    → ArePlaces limit (λ p. sum_of (one_at p) (places e))
unfolding legal
are_places g limit J (Add q found n d) ok = record {
  all = q ∷ [];
  those = λ p. refl;
  differ = λ p. let most = one_most p q in omega arith;
  range = λ p is.
      let same : q ≡ p = sym (one_same p q (omega arith)) in
      subst (λ r. (1 ≤ r) × (r ≤ 2 * limit)) same (ok.0, ok.1);
  few = omega arith;
}
are_places g limit J Stop ok = record {
  all = [];
  those = λ p. refl;
  differ = λ p. omega arith;
  range = λ p is. absurd (omega arith);
  few = omega arith;
}

pub laws : Lawful meaning
laws = record {
  weighs = weighs;
  bare = bare;
  lasting = λ g limit J e f run ok was. tt;
  local = λ g limit J e p most run ok none. local g limit J e p none;
  on_core = λ g limit J e t most run ok runs. absurd (cc runs);
  first = λ g limit J e t run ok starts. absurd (cc starts);
  places = λ g limit J e most run ok. are_places g limit J e ok;
  making = λ g limit J e n most run ok has. absurd (omega (arith, has));
  starting = λ e t starts. absurd (cc starts);
}

pub counting_laws : CountingLaws meaning
counting_laws = record {
  first_made = (omega arith, omega arith);
  first_set = λ t. tt;
  creating = λ t past e n d ok is. absurd (cc is);
  setting = λ t past e n k x ok is. absurd (cc is);
  starting = λ t past e n ok starts. absurd (cc starts);
  waiting = λ t past e n p ok waits. absurd (cc waits);
  resuming = λ t past e n ok some. absurd (omega (arith, some));
  ending = λ t past e n ok ends. absurd (cc ends);
}
