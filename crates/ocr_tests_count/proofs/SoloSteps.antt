-- What the calls of the table ask of the clerks of the machine with one EDT.
use Rattle.std.proofs.Common.{◌≡◌, ℕ, zero, suc, ◌+◌, ◌≤◌, ◌==◌, ◌||◌, Bool, true, false, if◌then◌else◌, List, [], ◌∷◌, ◌++◌, reverse, ap, sym, ◌∙◌, subst, refl, arith}
use Rattle.std.proofs.lemmas.List.{reverse-append}
use mathlib.Core.Option.{some, some-injective, some-ne-none}
use lib.ListN.{get_elem?}
use Rattle.atomic_table.specs.Seated.{TableId}
use Rattle.ocr_turns_rule.specs.Contract.{Claims, Legal, MayClose, MayCommit, OpensWith, TermsAre, faces}
use Rattle.ocr_turns_rule.specs.Debts.{times}
use Rattle.ocr_turns_rule.specs.Steps.{deed}
use Rattle.ocr_turns_rule.specs.Sums.{is_among, one_at, sum_of, weigh}
use Rattle.ocr_turns_rule.specs.Units.{one_each}
use Rattle.ocr_turns_rule.specs.Words.{IsOver}
use Rattle.ocr_turns_rule.specs.declared.view.Terms.{Terms}
use Rattle.ocr_turns_rule.specs.declared.view.View.{View}
use Rattle.ocr_turns_rule.proofs.Totals.{among_append}
use Rattle.ocr_tests_count.specs.Solo.{MayFollow, after, before, legal, meaning, part, places, started, state, stops, worked}
use Rattle.ocr_tests_count.specs.SoloClerks.{Entered, SoloHand}
use Rattle.ocr_tests_count.specs.declared.solo.Act.{Act}
use Rattle.ocr_tests_count.specs.declared.solo.Act.TheVariants.{Start, Work, End, Destroy, Stop}
use Rattle.ocr_tests_count.proofs.Steps.{one_part}

abbrev pub SoloSight : Type 0
SoloSight = View ℕ Act ℕ ℕ ℕ

follows : (past : List Act) (e : Act) → stops e ≡ false → state past ≡ before e
    → MayFollow past e × (state (e ∷ past) ≡ after e)
follows past Start goes was = (was, ap started was)
follows past Work goes was = (was, ap worked was)
follows past End goes was = (was, refl)
follows past Destroy goes was = (was, refl)
follows past Stop goes was = absurd (cc goes)

one_place : (e : Act) → stops e ≡ false → places e ≡ 3 ∷ []
one_place Start goes = refl
one_place Work goes = refl
one_place End goes = refl
one_place Destroy goes = refl
one_place Stop goes = absurd (cc goes)

light : (e : Act) → meaning.heavy e ≤ 1
light Start = omega arith
light Work = omega arith
light End = omega arith
light Destroy = omega arith
light Stop = omega arith

starts_one : (e : Act) (n : ℕ) → meaning.starts e n ≡ true → 1 ≡ n
starts_one Start n is = grind (arith, is)
starts_one Work n is = absurd (cc is)
starts_one End n is = absurd (cc is)
starts_one Destroy n is = absurd (cc is)
starts_one Stop n is = absurd (cc is)

claims_one : (t : Terms ℕ) (v : SoloSight) (e : Act) (ps : List (ℕ × ℕ)) (ms : List ℕ) → v.claims ≡ 1 ∷ []
    → Claims meaning t v (deed meaning t.limit v e ps ms)
claims_one t v e ps ms has = record {
  starts = λ n is. subst (λ ns. 1 ≤ times n ns) (sym has) (subst (λ n. 1 ≤ times n (1 ∷ [])) (starts_one e n is) (omega arith));
  waits = λ n p is. absurd (cc is);
  resumes = λ n is. absurd (omega (arith, is));
}

legal_act : (t : Terms ℕ) (v : SoloSight) (e : Act) → stops e ≡ false → v.parts ≡ (3, before e) ∷ []
    → Legal meaning t v (deed meaning t.limit v e ((3, after e) ∷ []) [])
unfolding legal part
legal_act t v e goes are J unended fits =
    let was : state (reverse J) ≡ before e = fits.parts 0 3 (before e) (ap (λ ps. get_elem? ps 0) are) in
    let next : reverse (J ++ e ∷ []) ≡ e ∷ reverse J = reverse-append J (e ∷ []) in
    let may = follows (reverse J) e goes was in
    record {
      legal = may.0;
      parts = one_part (part t.setting.value t.limit (J ++ e ∷ [])) 3 (after e) (ap state next ∙ may.1);
      sends = refl;
      facts = λ k f at. tt;
      wakes = refl;
      counts = refl;
    }

may_act : (t : Terms ℕ) (v : SoloSight) (e : Act) → stops e ≡ false → v.parts ≡ (3, before e) ∷ [] → v.claims ≡ 1 ∷ [] → v.weight + 1 ≤ t.share
    → MayCommit meaning t v e ((3, after e) ∷ []) []
may_act t v e goes are has few = record {
  goes = goes;
  share = (let most = light e in omega arith);
  owes = tt;
  drawn = tt;
  keeps = λ p. (ap (sum_of (one_at p)) (sym (one_place e goes)), omega (arith, ap (weigh (one_at p)) are));
  claims = claims_one t v e ((3, after e) ∷ []) [] has;
  unit = omega (arith, ap (sum_of one_each) has);
  spares = omega arith;
  legal = legal_act t v e goes are;
}

pub act_may : (t : Terms ℕ) (v : SoloSight) (e : Act) (ps : List (ℕ × ℕ)) (ms : List ℕ) → ps ≡ (3, after e) ∷ [] → ms ≡ [] → stops e ≡ false → v.parts ≡ (3, before e) ∷ [] → v.claims ≡ 1 ∷ [] → v.weight + 1 ≤ t.share
    → MayCommit meaning t v e ps ms
act_may t v e ps ms parts sends goes are has few = subst (λ l. MayCommit meaning t v e l ms) (sym parts) (subst (MayCommit meaning t v e ((3, after e) ∷ [])) (sym sends) (may_act t v e goes are has few))

pub may_stop : (t : Terms ℕ) (v : SoloSight) → 1 ≤ v.spares → MayClose meaning t v Stop []
unfolding legal
may_stop t v pays = record { stops = refl; unit = omega arith; legal = λ J goes fits. tt; facts = λ J goes fits k f there. tt }

-- THE OPENING
no_part : (b : Bool) → ◌≡◌ {A = ℕ} (if b then 0 else 0) 0
no_part true = refl
no_part false = refl

opens : (t : Terms ℕ) → TermsAre t 0 2 16 2 → OpensWith meaning t ((1, 0) ∷ [])
unfolding part
opens t are = record {
  parts = one_part (part t.setting.value t.limit []) 1 0 refl;
  others = λ p none. no_part (p == 3);
  places = λ p some. grind (arith, some, are.limit);
  opened = ap (λ limit. faces {P = ℕ} limit ((1, 0) ∷ [])) are.limit;
  few = omega (arith, are.limit);
  limits = (omega (arith, are.limit), omega (arith, are.limit));
  share = (omega (arith, are.share), omega (arith, are.share));
  seats = (omega (arith, are.seats), omega (arith, are.seats));
}

pub opens_solo : (t : Terms ℕ) (parts : List (ℕ × ℕ)) → parts ≡ (1, 0) ∷ [] → TermsAre t 0 2 16 2 → OpensWith meaning t parts
opens_solo t parts is are = subst (OpensWith meaning t) (sym is) (opens t are)

-- THE END of an EDT that was destroyed
or_true : (b c : Bool) → c ≡ true → (b || c) ≡ true
or_true true c is = refl
or_true false c is = is

ends_at : (J : List Act) (k : ℕ) → get_elem? J k ≡ some Destroy → is_among (λ e. meaning.ends e 1) (reverse J) ≡ true
ends_at [] k at = absurd (some-ne-none Destroy (sym at))
ends_at (e ∷ J) zero at = ap (is_among (λ e. meaning.ends e 1)) (reverse-append (e ∷ []) J) ∙ (among_append (λ e. meaning.ends e 1) (reverse J) (e ∷ []) ∙ or_true (is_among (λ e. meaning.ends e 1) (reverse J)) (is_among (λ e. meaning.ends e 1) (e ∷ [])) (ap (λ e. is_among (λ e. meaning.ends e 1) (e ∷ [])) (some-injective e Destroy at)))
ends_at (e ∷ J) (suc k) at = ap (is_among (λ e. meaning.ends e 1)) (reverse-append (e ∷ []) J) ∙ (among_append (λ e. meaning.ends e 1) (reverse J) (e ∷ []) ∙ ap (λ b. b || is_among (λ e. meaning.ends e 1) (e ∷ [])) (ends_at J k at))

at_end : {A : Type 0} (xs : List A) (x : A) → (k : ℕ) × (get_elem? (xs ++ x ∷ []) k ≡ some x)
at_end [] x = (0, refl)
at_end (y ∷ xs) x = let there = at_end xs x in (suc there.0, there.1)

pub over : (t : TableId × Terms ℕ) (old new : SoloHand) → Entered t Destroy old new → IsOver meaning t.1 new.view 1
over t old new did J knows =
    let there = at_end old.view.log (did.number, Destroy) in
    ends_at J did.number (knows.log there.0 did.number Destroy (ap (λ v. get_elem? v.log there.0) did.view ∙ there.1))
