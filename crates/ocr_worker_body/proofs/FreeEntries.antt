-- A block that is given back, as a clerk enters it, and what that leaves.
use Rattle.std.proofs.Common.{◌≡◌, ◌≢◌, ◌⊎◌, inl, inr, ⊎_elim, ℕ, ◌+◌, ◌≤◌, true, false, ◌==◌, if◌then◌else◌, List, [], ◌∷◌, ◌++◌, reverse, Option, Some, is_some, refl, ap, sym, ◌∙◌, subst, arith}
use Rattle.std.proofs.lemmas.Bool.{eqb-true, and_from}
use Rattle.std.proofs.lemmas.List.Elements.{All-cons, All-nil}
use Rattle.ocr_base.proofs.Booleans.{eqb_flips, same as number_same}
use Rattle.ocr_acquire.specs.declared.Mode.{Mode}
use Rattle.ocr_acquire.specs.Mode.{mode_in}
use Rattle.ocr_body_code.specs.declared.checked.Checked.{Checked}
use Rattle.ocr_edt.specs.declared.Edt.{Edt}
use Rattle.ocr_edt.specs.declared.Edt.TheVariants as phase
use Rattle.ocr_edt.specs.Phases.{least_of, without}
use Rattle.ocr_edt.proofs.Holds as holds
use Rattle.ocr_body_meaning.specs.Behaviour.{Ends}
use Rattle.ocr_body_meaning.specs.Body.{Body, says}
use Rattle.ocr_body_meaning.specs.Holds.{Holds, private_in}
use Rattle.ocr_machine_history.specs.declared.entry.Entry.{Entry}
use Rattle.ocr_machine_history.specs.declared.entry.Entry.TheVariants.{Free}
use Rattle.ocr_machine_parts.specs.declared.part.Core.{Core}
use Rattle.ocr_machine_parts.specs.declared.part.Part.{Part}
use Rattle.ocr_machine_parts.specs.declared.part.Part.TheVariants as part
use Rattle.ocr_machine_parts.specs.Bodies.{hold_of}
use Rattle.ocr_machine_parts.specs.Effects.{changed, dropped_edt, dropping_core}
use Rattle.ocr_machine_parts.specs.Footprint.{Covers, and_core}
use Rattle.ocr_machine_parts.specs.Kinds.{IsBlock, holds_of, is_running, kept_on, loan_on, mode_on, on_core, work_in, work_of}
use Rattle.ocr_machine_parts.specs.Loans.{kept_in}
use Rattle.ocr_machine_parts.specs.LegalOn.{IsFreeOn, IsHeld}
use Rattle.ocr_machine_parts.specs.Parts.{Parts, parts_of}
use Rattle.ocr_machine_parts.specs.Taken.{is_within, parts_in}
use Rattle.ocr_machine_parts.specs.Taken as taken
use Rattle.ocr_machine_parts.proofs.Lent.{loan_kept}
use Rattle.ocr_machine_parts.proofs.Within.{within_law}
use Rattle.ocr_machine_laws.proofs.Works.{freeing_law}
use Rattle.ocr_turns_rule.specs.Debts.{times}
use Rattle.ocr_turns_rule.specs.Rule.{Fits, RunsIn}
use Rattle.ocr_turns_rule.specs.Sums.{as_some, keys, one_at, sum_of, weigh}
use Rattle.ocr_turns_rule.proofs.Numbered.{weigh_keys}
use Rattle.ocr_turns_rule.proofs.Totals.{one_here}
use Rattle.ocr_worker_machine.specs.Clerks.{AreAtHand, OcrView, of_terms}
use Rattle.ocr_worker_machine.specs.Ocr.{ends, meaning, starts, touches, wakes}
use Rattle.ocr_worker_machine.proofs.Owed.{hand_counted}
use Rattle.ocr_worker_machine.proofs.Places.{named_place, within_is}
use Rattle.ocr_worker_clerk.specs.Entry.{CanMake, PlannedParts, OcrKnown}
use Rattle.ocr_worker_clerk.specs.Work.{AtWork, EntersKept, HasAllAtHand, OcrTable, RunsOnly, in_hand}
use Rattle.ocr_worker_clerk.proofs.Entries.{turns_keys}
use Rattle.ocr_worker_clerk.proofs.Hands.{in_hand_some}
use Rattle.ocr_worker_access.specs.Access.{AreOthers, HasEntered, HasTaken, Runs, first_in, held_at, holds_at}
use Rattle.ocr_worker_access.specs.Served.{Serves, own_log}
use Rattle.ocr_worker_access.proofs.Asked.{once_in, taken_at_hand}
use Rattle.ocr_worker_access.proofs.Called.{hand_is, keys_at, runnable_in, core_out, core_back}
use Rattle.ocr_worker_access.proofs.Cores.{core_first, first_core, first_has, first_look, free_runs}
use Rattle.ocr_worker_access.proofs.Entries.{free_legal, free_may, free_wakes, runs_here, wakes_are}
use Rattle.ocr_worker_access.proofs.Logs.{claims_stay, own_free, runs_back, serves_on, serves_same}
use Rattle.ocr_worker_access.proofs.Parts.{core_of, is_run}
use Rattle.ocr_worker_access.proofs.Places.{core_from, covers_at, face_from, same_places}

-- THE BLOCK has a number of an object
inside : (f : Parts) (limit edt d : ℕ) → ((g : ℕ) → is_within limit g ≡ false → f.face g ≡ part.Vacant) → IsFreeOn f edt d → is_within limit d ≡ true
inside f limit edt d vacant legal = elim (is_within limit d) as (λ b. is_within limit d ≡ b → b ≡ true) [
  | true ↦ λ _. refl
  | false ↦ λ off. absurd (subst (λ (x : Part). IsBlock x (IsHeld edt (mode_on (f.core edt) d) (loan_on (f.core edt) d))) (vacant d off) legal.held)
] refl

pub held_within : (table : OcrTable) (program : Checked) (edt d : ℕ) (b : Body) (c : OcrKnown) → AtWork table program c → Runs table.1 edt b c → least_of (held_at c) ≡ Some d → is_within table.1.limit d ≡ true
held_within table program edt d b c work runs least =
    let t = table.1 in
    let fits = runs.sees t work.of_table.1 work.is_open in
    let J = fits.0 in
    let hand : List (ℕ × Part) = (t.limit + edt, part.Core runs.core) ∷ [] in
    let at_hand : AreAtHand t.limit hand c.view.parts = hand_is t.limit edt runs.core runs.kept [] hand c.view.parts runs.taken.number runs.is refl runs.keeps (once_in table program c work runs.sees) in
    let is_core = core_of t c.view J hand edt runs.core fits.1 at_hand runs.taken.number (first_has (t.limit + edt) (part.Core runs.core) []) (first_look (t.limit + edt) (part.Core runs.core) []) in
    let s = of_terms t in let past = reverse J in
    let here : least_of (holds_of (work_in runs.core.edt)) ≡ Some d = ap (λ (ps : List (ℕ × Option Part)). least_of (holds_of (work_of (first_in ps)))) (sym runs.hand) ∙ least in
    inside (parts_of s past) t.limit edt d (within_law s past fits.1.limits (is_run t c.view J fits.1)).faces
    (freeing_law s past edt d (is_run t c.view J fits.1) (runs_here t c.view J fits.1 edt runs.core [] runs.taken.number runs.is.running at_hand) (ap (λ (x : Part). least_of (holds_of (work_of x))) is_core ∙ here))

-- WHAT ITS CORE HOLDS then
dropped_holds : (d : ℕ) (e : Edt) → holds_of (work_in (dropped_edt d e)) ≡ without d (holds_of (work_in e))
dropped_holds d (phase.Running s) = refl
dropped_holds d other = refl

apart_of : (d e : ℕ) (hs : List (ℕ × Mode)) → is_some (mode_in e (without d hs)) ≡ true → (d == e) ≡ false
apart_of d e hs some = elim (d == e) as (λ b. (d == e) ≡ b → b ≡ false) [
  | true ↦ λ same. let is : is_some (mode_in d (without d hs)) ≡ true = subst (λ (n : ℕ). is_some (mode_in n (without d hs)) ≡ true) (sym (eqb-true d e same)) some in cc (is, ap (λ (o : Option Mode). is_some o) (holds.mode_in-without d hs))
  | false ↦ λ _. refl
] refl

held_apart : (d e : ℕ) (hs : List (ℕ × Mode)) → (d == e) ≡ false → mode_in e (without d hs) ≡ mode_in e hs
held_apart d e hs off = holds.mode_in-other d e hs (eqb_flips e d ∙ off)

module _ (table : OcrTable) (program : Checked) (edt d : ℕ) (w : List (ℕ × ℕ)) (b : Body) (first c : OcrKnown) (work : AtWork table program c) (runs : Runs table.1 edt b first) (took : HasTaken table.1 edt first c (d ∷ [])) (low : is_within table.1.limit d ≡ true) (least : least_of (held_at first) ≡ Some d) where
  abbrev limit : ℕ
  limit = table.1.limit

  abbrev entry : Entry
  entry = Free edt d w

  abbrev ps : List (ℕ × Part)
  ps = (table.1.limit + edt, part.Core took.core) ∷ took.taken

  abbrev hand : PlannedParts
  hand = record { members = []; parts = in_hand c.parts }

  within : is_within table.1.limit edt ≡ true
  within = runs.taken.number

  hand_parts : in_hand c.parts ≡ ps
  hand_parts = ap in_hand took.hand ∙ in_hand_some ps

  listed : keys ps ≡ (table.1.limit + edt) ∷ d ∷ []
  listed = ap (λ (l : List ℕ). (table.1.limit + edt) ∷ l) took.places_are

  view_parts : c.view.parts ≡ (table.1.limit + edt, part.Core took.kept) ∷ took.taken
  view_parts = ap (λ (v : OcrView). v.parts) took.view

  at_hand : AreAtHand table.1.limit ps c.view.parts
  at_hand = hand_is table.1.limit edt took.core took.kept took.taken ps c.view.parts within took.is refl view_parts (once_in table program c work took.sees)

  core_named : 1 ≤ touches table.1.limit (Free edt d w) (table.1.limit + edt)
  core_named = named_place table.1.limit (Free edt d w) (table.1.limit + edt) (rw (core_out table.1.limit edt within, core_back table.1.limit edt within) (and_from (is_within table.1.limit edt) (edt == edt) within (number_same edt)))

  face_named : 1 ≤ touches table.1.limit (Free edt d w) d
  face_named = named_place table.1.limit (Free edt d w) d (rw low (number_same d))

  one_of : (p n rest : ℕ) → 1 ≤ one_at p n + rest → (n ≡ p) ⊎ (1 ≤ rest)
  one_of p n rest is = elim (p == n) as (λ b. (p == n) ≡ b → 1 ≤ (if b then 1 else 0) + rest → (n ≡ p) ⊎ (1 ≤ rest)) [
    | true ↦ λ same _. inl (sym (eqb-true p n same))
    | false ↦ λ _ is. inr (omega (arith, is))
  ] refl is

  there : (p : ℕ) → 1 ≤ weigh (one_at p) ps → 1 ≤ touches table.1.limit (Free edt d w) p
  there p some =
      let k = keys_at p ps in let l = ap (sum_of (one_at p)) listed in
      ⊎_elim (λ same. subst (λ (n : ℕ). 1 ≤ touches table.1.limit (Free edt d w) n) same core_named)
      (λ more. ⊎_elim (λ same. subst (λ (n : ℕ). 1 ≤ touches table.1.limit (Free edt d w) n) same face_named) (λ none. absurd (omega (arith, none))) (one_of p d 0 more))
      (one_of p (table.1.limit + edt) (sum_of (one_at p) (d ∷ [])) (omega (arith, some, k, l)))

  back : (p : ℕ) → 1 ≤ touches table.1.limit (Free edt d w) p → 1 ≤ weigh (one_at p) ps
  back p some =
      let k = keys_at p ps in let l = ap (sum_of (one_at p)) listed in
      ⊎_elim
      (λ face. let o = one_here p in let e = ap (one_at p) face.1 in omega (arith, k, l, o, e))
      (λ cored. ⊎_elim (λ same. let o = one_here p in let e = ap (one_at p) same.1 in omega (arith, k, l, o, e)) (λ none. absurd (omega (arith, none))) (core_from table.1.limit edt p [] cored))
      (face_from table.1.limit d p (and_core table.1.limit edt []) some)

  covers : Covers table.1.limit (Free edt d w) ps
  covers = covers_at table.1.limit (Free edt d w) ps back

  serves : Serves table.1 c.view edt b
  serves = serves_same table.1 first.view c.view edt b runs.serves (ap (λ (v : OcrView). v.log) took.view) (ap (λ (v : OcrView). v.facts) took.view)

  least_here : least_of (holds_of (work_of (part.Core took.core))) ≡ Some d
  least_here = sym (ap (λ (l : List (ℕ × Option Part)). least_of (holds_of (work_of (first_in l)))) took.was) ∙ least

  fits : (J : List Entry) × Fits meaning table.1 J c.view
  fits = took.sees table.1 work.of_table.1 work.is_open

  not_claimed : (n : ℕ) (rs : List ℕ) → times edt rs ≡ 0 → 1 ≤ times n rs → times n (edt ∷ []) ≡ 0
  not_claimed n rs none some = elim (n == edt) as (λ b. (n == edt) ≡ b → (if b then 1 else 0) + 0 ≡ 0) [
    | true ↦ λ same. let e = eqb-true n edt same in absurd (let z = subst (λ (k : ℕ). times k rs ≡ 0) (sym e) none in omega (arith, z, some))
    | false ↦ λ _. refl
  ] refl

  resumed_apart : times edt (wakes table.1.limit (Free edt d w) c.view.parts) ≡ 0
  resumed_apart =
      let J = fits.0 in
      let kept : AreAtHand table.1.limit c.view.parts c.view.parts = record { once = once_in table program c work took.sees; there = λ n here. here; alike = λ n here. refl } in
      let covered : Covers table.1.limit (Free edt d w) c.view.parts = λ n on. at_hand.there n (covers n on) in
      ap (times edt) (sym (wakes_are table.1 c.view J (Free edt d w) c.view.parts fits.1 kept covered))
      ∙ free_wakes (of_terms table.1) (reverse J) edt d w (is_run table.1 c.view J fits.1) (runs_here table.1 c.view J fits.1 edt took.core took.taken within took.is.running at_hand)

  module _ (g : ℕ) (final : Holds) (says_end : says b (own_log first.view.log edt) ≡ Ends g final) (writes : w ≡ private_in (final d)) where
    says_now : says b (own_log c.view.log edt) ≡ Ends g final
    says_now = ap (λ (l : List (ℕ × Entry)). says b (own_log l edt)) (ap (λ (v : OcrView). v.log) took.view) ∙ says_end

    can_so : CanMake table.1 c.view (Free edt d w) (record { members = []; parts = ps }) ps
    can_so = record {
      goes = refl;
      owes = tt;
      drawn = tt;
      claims = record {
        starts = λ n never. cc never;
        waits = λ n p never. cc never;
        resumes = λ n some. ap (times n) (ap (λ (v : OcrView). v.claims) took.view ∙ runs.taken.claims) ∙ not_claimed n (wakes table.1.limit (Free edt d w) c.view.parts) resumed_apart some;
      };
      may = free_may table.1 c.view edt b ps (runnable_in table program c work) serves at_hand d g w final covers (free_legal table.1 c.view fits.0 fits.1 edt took.core took.taken within took.is.running d w at_hand covers least_here) says_now writes;
      ready = refl;
      same_keys = refl;
      places = λ p. (same_places table.1.limit (Free edt d w) ps at_hand.once there back p, (let same = weigh_keys (one_at p) ps c.view.parts (sym (ap keys view_parts)) in omega (arith, same)));
      counters = λ p. hand_counted table.1 c.view fits.0 ps p fits.1 at_hand;
    }

    pub can_free : CanMake table.1 c.view (Free edt d w) hand (in_hand c.parts)
    can_free = subst (λ (l : List (ℕ × Part)). CanMake table.1 c.view (Free edt d w) (record { members = []; parts = l }) l) (sym hand_parts) can_so

  pub has_both : (places : List ℕ) → places ≡ (table.1.limit + edt) ∷ d ∷ [] → HasAllAtHand c places
  has_both places is = taken_at_hand table.1 edt first c (d ∷ []) places took is

  pub other_face : AreOthers table.1 edt (d ∷ [])
  other_face = All-cons (λ p. (p ≢ table.1.limit + edt) × (p ≤ table.1.limit + table.1.limit)) d [] (bounds (within_is table.1.limit d low) (within_is table.1.limit edt within)) (All-nil (λ p. (p ≢ table.1.limit + edt) × (p ≤ table.1.limit + table.1.limit)))
    where
      bounds : (1 ≤ d) × (d ≤ table.1.limit) → (1 ≤ edt) × (edt ≤ table.1.limit) → (d ≢ table.1.limit + edt) × (d ≤ table.1.limit + table.1.limit)
      bounds one two = let high = one.1 in let some = two.0 in ((λ same. absurd (omega (arith, same, high, some))), omega (arith, high))

  -- AFTER IT
  module _ (new : OcrKnown) (done : EntersKept table.1 c new (Free edt d w) hand) where
    log_is : new.view.log ≡ first.view.log ++ (done.number, Free edt d w) ∷ []
    log_is = ap (λ (v : OcrView). v.log) done.view ∙ ap (λ (v : OcrView). v.log ++ (done.number, Free edt d w) ∷ []) took.view

    facts_are : new.view.facts ≡ first.view.facts ++ []
    facts_are = ap (λ (v : OcrView). v.facts) done.view ∙ ap (λ (v : OcrView). v.facts ++ []) took.view

    only_one : RunsOnly new.view edt
    only_one u on = runs.taken.only u (runs_back first.view.log done.number u (Free edt d w) refl (subst (λ (l : List (ℕ × Entry)). RunsIn starts ends l u) log_is on))

    core_was : (parts_in table.1.limit (in_hand c.parts)).core edt ≡ part.Core took.core
    core_was = ap (λ (l : List (ℕ × Part)). (parts_in table.1.limit l).core edt) hand_parts ∙ first_core table.1.limit edt took.core took.taken within

    core_later : (parts_in table.1.limit done.later).core edt ≡ part.Core (dropping_core d took.core)
    core_later = ap (λ (f : Parts). f.core edt) done.step.parts ∙ (dropped (parts_in table.1.limit (in_hand c.parts)) ∙ ap (λ (x : Part). on_core x (dropping_core d)) core_was)
      where
        dropped : (f : Parts) → (changed (Free edt d w) f).core edt ≡ on_core (f.core edt) (dropping_core d)
        dropped f = rw (number_same edt) refl

    running_later : is_running ((parts_in table.1.limit done.later).core edt) ≡ true
    running_later = ap (λ (f : Parts). is_running (f.core edt)) done.step.parts ∙ free_runs (parts_in table.1.limit (in_hand c.parts)) edt d w (ap is_running core_was ∙ took.is.running)

    pub free_leaves : HasEntered table.1 edt b new (d ∷ []) [] (wakes table.1.limit (Free edt d w) c.view.parts)
    free_leaves =
        let after = core_first table.1.limit edt took.core took.taken done.later within (done.step.same_keys ∙ ap taken.keys hand_parts) running_later in
        record {
          claims = ap (λ (v : OcrView). v.claims) done.view ∙ (claims_stay (Free edt d w) c.view.claims (λ n. refl) ∙ (ap (λ (v : OcrView). v.claims) took.view ∙ runs.taken.claims));
          drawn = ap (λ (v : OcrView). v.drawn) done.view ∙ (ap (λ (v : OcrView). v.drawn) took.view ∙ runs.taken.drawn);
          only = only_one;
          unput = ap (λ (v : OcrView). v.debts.unput) done.view ∙ (ap (λ (v : OcrView). v.debts.unput ++ []) took.view ∙ ap (λ (l : List (ℕ × ℕ × ℕ)). l ++ []) runs.taken.owes.unput);
          put = ap (λ (v : OcrView). v.debts.put) done.view ∙ (ap (λ (v : OcrView). v.debts.put ++ []) took.view ∙ ap (λ (l : List (ℕ × ℕ × ℕ)). l ++ []) runs.taken.owes.put);
          made_is = ap (λ (v : OcrView). v.debts.made) done.view ∙ (ap (λ (v : OcrView). v.debts.made ++ []) took.view ∙ ap (λ (l : List (ℕ × ℕ)). l ++ []) runs.taken.owes.made);
          resumes = ap (λ (v : OcrView). v.debts.resumes) done.view ∙ (ap (λ (v : OcrView). v.debts.resumes ++ wakes table.1.limit (Free edt d w) c.view.parts) took.view ∙ ap (λ (l : List ℕ). l ++ wakes table.1.limit (Free edt d w) c.view.parts) runs.taken.owes.resumes);
          serves = serves_on table.1 first.view new.view edt done.number (Free edt d w) b [] runs.serves refl log_is facts_are;
          core = after.core;
          rest = after.rest;
          keeps = done.kept ∙ after.is;
          hand = done.hand ∙ ap as_some after.is;
          running = after.running;
          places_are = turns_keys after.rest took.taken after.same ∙ took.places_are;
          sees = done.sees;
        }

    -- the core that stands first
    pub free_core : first_in new.parts ≡ part.Core (dropping_core d took.core)
    free_core =
        let leaves = free_leaves in
        ap first_in leaves.hand
        ∙ (sym (ap (λ (l : List (ℕ × Part)). (parts_in table.1.limit l).core edt) leaves.keeps ∙ first_core table.1.limit edt leaves.core leaves.rest within)
        ∙ (ap (λ (l : List (ℕ × Part)). (parts_in table.1.limit l).core edt) done.kept ∙ core_later))

    pub free_held : (last : OcrKnown) → first_in last.parts ≡ first_in new.parts → held_at last ≡ without d (held_at first)
    free_held last same =
        ap (λ (x : Part). holds_of (work_of x)) (same ∙ free_core)
        ∙ (dropped_holds d took.core.edt ∙ ap (λ (l : List (ℕ × Option Part)). without d (holds_of (work_of (first_in l)))) (sym took.was))

    pub free_own : (last : OcrKnown) → last.view.log ≡ new.view.log → own_log last.view.log edt ≡ own_log first.view.log edt
    free_own last same = ap (λ (l : List (ℕ × Entry)). own_log l edt) (same ∙ log_is) ∙ own_free first.view.log done.number edt edt d w

    -- what it holds besides
    pub free_left : (last : OcrKnown) (e : ℕ) → first_in last.parts ≡ first_in new.parts → is_some (mode_in e (held_at last)) ≡ true → (is_some (mode_in e (held_at first)) ≡ true) × (holds_at last e ≡ holds_at first e)
    free_left last e same some =
        let now : is_some (mode_in e (without d (held_at first))) ≡ true = subst (λ (hs : List (ℕ × Mode)). is_some (mode_in e hs) ≡ true) (free_held last same) some in
        let off = apart_of d e (held_at first) now in
        let mode = held_apart d e (held_at first) off in (
          ap (λ (o : Option Mode). is_some o) (sym mode) ∙ now,
          ap (λ (x : Part). hold_of (mode_in e (holds_of (work_of x))) (kept_on x e)) (same ∙ free_core)
              ∙ ((λ i. hold_of (ap (mode_in e) (dropped_holds d took.core.edt) i) (loan_kept d e took.core.loans off i))
              ∙ ((λ i. hold_of (held_apart d e (holds_of (work_in took.core.edt)) off i) (kept_in e took.core.loans))
              ∙ ap (λ (l : List (ℕ × Option Part)). hold_of (mode_in e (holds_of (work_of (first_in l)))) (kept_on (first_in l) e)) (sym took.was))),
        )
