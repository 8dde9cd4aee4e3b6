-- The End as a clerk makes it, and what it leaves.
use Rattle.std.proofs.Common.{◌≡◌, ◌⊎◌, inl, inr, ⊎_elim, ℕ, ◌+◌, ◌≤◌, Bool, true, false, ◌==◌, ◌||◌, if◌then◌else◌, List, [], ◌∷◌, ◌++◌, length, Option, Some, refl, ap, sym, ◌∙◌, subst, arith}
use Rattle.std.specs.List.{All}
use Rattle.std.proofs.lemmas.Bool.{eqb-true, and_from}
use Rattle.std.proofs.lemmas.Grind.{common_steps}
use Rattle.ocr_base.proofs.Booleans.{same as number_same}
use Rattle.ocr_body_code.specs.declared.checked.Checked.{Checked}
use Rattle.ocr_body_meaning.specs.Behaviour.{Ends}
use Rattle.ocr_body_meaning.specs.Body.{Body, says}
use Rattle.ocr_body_meaning.specs.Holds.{Holds}
use Rattle.ocr_machine_history.specs.declared.entry.Entry.{Entry}
use Rattle.ocr_machine_history.specs.declared.entry.Entry.TheVariants.{End}
use Rattle.ocr_machine_history.specs.declared.entry.What.{What}
use Rattle.ocr_machine_history.specs.declared.entry.What.TheVariants as what
use Rattle.ocr_edt.specs.declared.Identity.{Identity}
use Rattle.ocr_machine_parts.specs.declared.part.Part.{Part}
use Rattle.ocr_machine_parts.specs.declared.part.Part.TheVariants as part
use Rattle.ocr_machine_parts.specs.Footprint.{Covers, and_core}
use Rattle.ocr_machine_parts.specs.Effects.{changed, ended_edt}
use Rattle.ocr_machine_parts.specs.Progress.{with_phase}
use Rattle.ocr_machine_parts.specs.Kinds.{holds_of, identity_on, work_of}
use Rattle.ocr_machine_parts.specs.Messages.{leave_some, payload_of_end, satisfy_some, sent_by_end}
use Rattle.ocr_machine_parts.specs.Taken.{face_in, is_within, parts_in}
use Rattle.ocr_machine_parts.specs.Taken.{keys as parts_keys}
use Rattle.ocr_turns_rule.specs.Counts.{leaves}
use Rattle.ocr_turns_rule.specs.Debts.{without_all}
use Rattle.ocr_turns_rule.specs.Rule.{RunsIn}
use Rattle.ocr_turns_rule.specs.Sums.{as_some, entries, find, is_among, keys, one_at, sum_of, weigh}
use Rattle.ocr_turns_rule.proofs.Numbered.{weigh_keys}
use Rattle.ocr_turns_rule.proofs.Totals.{one_here}
use Rattle.ocr_worker_machine.specs.Clerks.{AreAtHand, IsStep, OcrView}
use Rattle.ocr_worker_machine.specs.Ocr.{ends, meaning, starts, touches}
use Rattle.ocr_worker_machine.proofs.Owed.{hand_counted}
use Rattle.ocr_worker_machine.proofs.Places.{named_place, places_good}
use Rattle.ocr_worker_clerk.specs.Entry.{CanMake, PlannedParts, OcrKnown}
use Rattle.ocr_worker_clerk.specs.Work.{AtWork, EntersAs, EntersKept, HasAllAtHand, IsIdleClerk, KeepsLoose, OcrTable, RunsNone, in_hand}
use Rattle.ocr_worker_clerk.proofs.Entries.{turns_keys}
use Rattle.ocr_worker_clerk.proofs.Hands.{in_hand_some, some_keys}
use Rattle.ocr_worker_access.specs.Access.{HasTaken, IsNewest, Runs, StepsFirst, first_in, held_at, returned_faces}
use Rattle.ocr_worker_access.specs.Served.{Serves, own_log}
use Rattle.ocr_worker_access.proofs.Asked.{all_from, once_in, taken_at_hand}
use Rattle.ocr_worker_access.proofs.Called.{hand_is, keys_at, runnable_in, core_out, core_back}
use Rattle.ocr_worker_access.proofs.Cores.{first_core}
use Rattle.ocr_worker_access.proofs.Phases.{core_steps, kept_from, stepped_work}
use Rattle.ocr_worker_access.proofs.Entries.{end_legal, end_may}
use Rattle.ocr_worker_access.proofs.Logs.{among_more, claim_ends, runs_back, serves_same}
use Rattle.ocr_worker_access.proofs.Places.{core_from, covers_at, face_from, same_places}

-- few messages go out
pub few_sent : (i : Identity) (p : ℕ) → length (sent_by_end i p) ≤ 2
few_sent i p = elim i.finish as (λ b. length ((if b then [] else satisfy_some i.output p) ++ leave_some i.scope) ≤ 2) [
  | true ↦ left_one i.scope
  | false ↦ elim (i.output == 0) as (λ b. length ((if b then [] else what.Satisfy i.output 0 p ∷ []) ++ leave_some i.scope) ≤ 2) [
    | true ↦ left_one i.scope
    | false ↦ elim (i.scope == 0) as (λ b. length (what.Satisfy i.output 0 p ∷ (if b then [] else what.Leave i.scope ∷ [])) ≤ 2) [ true ↦ omega arith | false ↦ omega arith ]
  ]
]
  where
    left_one : (x : ℕ) → length (leave_some x) ≤ 2
    left_one x = elim (x == 0) as (λ b. length (if b then [] else what.Leave x ∷ []) ≤ 2) [ true ↦ omega arith | false ↦ omega arith ]

module _ (table : OcrTable) (program : Checked) (edt g : ℕ) (b : Body) (holds : Holds) (first c : OcrKnown) (work : AtWork table program c) (runs : Runs table.1 edt b first) (took : HasTaken table.1 edt first c (returned_faces table.1.limit g)) (says_end : says b (own_log first.view.log edt) ≡ Ends g holds) (free : held_at first ≡ []) where
  abbrev limit : ℕ
  limit = table.1.limit

  abbrev ps : List (ℕ × Part)
  ps = (table.1.limit + edt, part.Core took.core) ∷ took.taken

  abbrev hand : PlannedParts
  hand = record { members = []; parts = in_hand c.parts }

  within : is_within table.1.limit edt ≡ true
  within = runs.taken.number

  hand_parts : in_hand c.parts ≡ ps
  hand_parts = ap in_hand took.hand ∙ in_hand_some ps

  listed : keys ps ≡ (table.1.limit + edt) ∷ returned_faces table.1.limit g
  listed = ap (λ (l : List ℕ). (table.1.limit + edt) ∷ l) took.places_are

  view_parts : c.view.parts ≡ (table.1.limit + edt, part.Core took.kept) ∷ took.taken
  view_parts = ap (λ (v : OcrView). v.parts) took.view

  at_hand : AreAtHand table.1.limit ps c.view.parts
  at_hand = hand_is table.1.limit edt took.core took.kept took.taken ps c.view.parts within took.is refl view_parts (once_in table program c work took.sees)

  core_named : 1 ≤ touches table.1.limit (End edt g) (table.1.limit + edt)
  core_named = named_place table.1.limit (End edt g) (table.1.limit + edt) (rw (core_out table.1.limit edt within, core_back table.1.limit edt within) (and_from (is_within table.1.limit edt) (edt == edt) within (number_same edt)))

  face_named : is_within table.1.limit g ≡ true → 1 ≤ touches table.1.limit (End edt g) g
  face_named there = named_place table.1.limit (End edt g) g (rw there (number_same g))

  one_of : (p n rest : ℕ) → 1 ≤ one_at p n + rest → (n ≡ p) ⊎ (1 ≤ rest)
  one_of p n rest is = elim (p == n) as (λ b. (p == n) ≡ b → 1 ≤ (if b then 1 else 0) + rest → (n ≡ p) ⊎ (1 ≤ rest)) [
    | true ↦ λ same _. inl (sym (eqb-true p n same))
    | false ↦ λ _ is. inr (omega (arith, is))
  ] refl is

  faces_named : (p : ℕ) → 1 ≤ sum_of (one_at p) (returned_faces table.1.limit g) → 1 ≤ touches table.1.limit (End edt g) p
  faces_named p some = elim (is_within table.1.limit g) as (λ b. is_within table.1.limit g ≡ b → 1 ≤ sum_of (one_at p) (if b then g ∷ [] else []) → 1 ≤ touches table.1.limit (End edt g) p) [
    | true ↦ λ there some. ⊎_elim (λ same. subst (λ (k : ℕ). 1 ≤ touches table.1.limit (End edt g) k) same (face_named there)) (λ none. absurd (omega (arith, none))) (one_of p g 0 some)
    | false ↦ λ _ none. absurd (omega (arith, none))
  ] refl some

  pub end_there : (p : ℕ) → 1 ≤ weigh (one_at p) ps → 1 ≤ touches table.1.limit (End edt g) p
  end_there p some =
      let k = keys_at p ps in let l = ap (sum_of (one_at p)) listed in
      ⊎_elim (λ same. subst (λ (n : ℕ). 1 ≤ touches table.1.limit (End edt g) n) same core_named) (λ more. faces_named p more) (one_of p (table.1.limit + edt) (sum_of (one_at p) (returned_faces table.1.limit g)) (omega (arith, some, k, l)))

  faces_at : (p : ℕ) → is_within table.1.limit g ≡ true → p ≡ g → 1 ≤ sum_of (one_at p) (returned_faces table.1.limit g)
  faces_at p there same = rw there (subst (λ (k : ℕ). 1 ≤ one_at k g + 0) (sym same) (let o = one_here g in omega (arith, o)))

  end_back : (p : ℕ) → 1 ≤ touches table.1.limit (End edt g) p → 1 ≤ weigh (one_at p) ps
  end_back p some =
      let k = keys_at p ps in let l = ap (sum_of (one_at p)) listed in
      ⊎_elim
      (λ face. let f = faces_at p face.0 face.1 in omega (arith, k, l, f))
      (λ cored. ⊎_elim (λ same. let o = one_here p in let e = ap (one_at p) same.1 in omega (arith, k, l, o, e)) (λ none. absurd (omega (arith, none))) (core_from table.1.limit edt p [] cored))
      (face_from table.1.limit g p (and_core table.1.limit edt []) some)

  covers : Covers table.1.limit (End edt g) ps
  covers = covers_at table.1.limit (End edt g) ps end_back

  serves : Serves table.1 c.view edt b
  serves = serves_same table.1 first.view c.view edt b runs.serves (ap (λ (v : OcrView). v.log) took.view) (ap (λ (v : OcrView). v.facts) took.view)

  says_now : says b (own_log c.view.log edt) ≡ Ends g holds
  says_now = ap (λ (l : List (ℕ × Entry)). says b (own_log l edt)) (ap (λ (v : OcrView). v.log) took.view) ∙ says_end

  pub none_held : holds_of (work_of (part.Core took.core)) ≡ []
  none_held = sym (ap (λ (l : List (ℕ × Option Part)). holds_of (work_of (first_in l))) took.was) ∙ free

  can_so : CanMake table.1 c.view (End edt g) (record { members = []; parts = ps }) ps
  can_so =
      let fits = took.sees table.1 work.of_table.1 work.is_open in
      record {
        goes = refl;
        owes = tt;
        drawn = tt;
        claims = record {
          starts = λ n never. cc never;
          waits = λ n p never. cc never;
          resumes = λ n none. absurd (omega (arith, none));
        };
        counters = λ g. hand_counted table.1 c.view fits.0 ps g fits.1 at_hand;
        may = end_may table.1 c.view edt b ps (runnable_in table program c work) serves at_hand g holds covers (end_legal table.1 c.view fits.0 fits.1 edt took.core took.taken within took.is.running g none_held) says_now;
        ready = refl;
        same_keys = refl;
        places = λ p. (same_places table.1.limit (End edt g) ps at_hand.once end_there end_back p, (let same = weigh_keys (one_at p) ps c.view.parts (sym (ap keys view_parts)) in omega (arith, same)));
      }

  pub can_end : CanMake table.1 c.view (End edt g) hand (in_hand c.parts)
  can_end = subst (λ (l : List (ℕ × Part)). CanMake table.1 c.view (End edt g) (record { members = []; parts = l }) l) (sym hand_parts) can_so

  pub has_end : (places : List ℕ) → places ≡ (table.1.limit + edt) ∷ returned_faces table.1.limit g → HasAllAtHand c places
  has_end places is = taken_at_hand table.1 edt first c (returned_faces table.1.limit g) places took is

  -- THE FACE that it names is at hand
  pub face_found : is_within table.1.limit g ≡ true → (x : Part) × (find g c.parts ≡ Some (Some x))
  face_found on =
      let one : keys took.taken ≡ g ∷ [] = took.places_are ∙ faces_on table.1.limit g on in
      let there = only_one took.taken one in
      (there.0, ap (find g) (took.hand ∙ ap (λ (l : List (ℕ × Part)). as_some ((table.1.limit + edt, part.Core took.core) ∷ l)) there.1) ∙ past_core (some_else table.1.limit edt g within on))
    where
      faces_on : (most n : ℕ) → is_within most n ≡ true → returned_faces most n ≡ n ∷ []
      faces_on most n on = rw on refl

      only_one : (ps : List (ℕ × Part)) → keys ps ≡ g ∷ [] → (x : Part) × (ps ≡ (g, x) ∷ [])
      only_one [] is = cc is
      only_one (p ∷ []) is = let same : p.0 ≡ g = cc is in (p.1, λ i. (same i, p.1) ∷ [])
      only_one (p ∷ q ∷ rest) is = cc is

      some_else : (most t n : ℕ) → is_within most t ≡ true → is_within most n ≡ true → (n == (most + t)) ≡ false
      some_else most t n one two = grind (arith, common_steps)

      past_core : {x : Part} → (g == (table.1.limit + edt)) ≡ false → find g (as_some ((table.1.limit + edt, part.Core took.core) ∷ (g, x) ∷ [])) ≡ Some (Some x)
      past_core off = rw (off, number_same g) refl

  pub core_first_at : (place : ℕ) → place ≡ table.1.limit + edt → c.parts ≡ (place, Some (part.Core took.core)) ∷ as_some took.taken
  core_first_at place at = took.hand ∙ ap (λ (n : ℕ). (n, Some (part.Core took.core)) ∷ as_some took.taken) (sym at)

  -- THE CORE AT HAND has ended, before the entry is made
  module _ (mid : OcrKnown) (place : ℕ) (at : place ≡ table.1.limit + edt) (stepped : StepsFirst place (with_phase ended_edt) c mid) where
    steps : StepsFirst (table.1.limit + edt) (with_phase ended_edt) c mid
    steps = subst (λ (n : ℕ). StepsFirst n (with_phase ended_edt) c mid) at stepped

    abbrev later : List (ℕ × Part)
    later = (table.1.limit + edt, part.Core (with_phase ended_edt took.core)) ∷ took.taken

    mid_hand : mid.parts ≡ as_some later
    mid_hand = steps.core took.core (as_some took.taken) took.hand

    in_mid : in_hand mid.parts ≡ later
    in_mid = ap in_hand mid_hand ∙ in_hand_some later

    pub ended_at_hand : mid.parts ≡ as_some (in_hand mid.parts)
    ended_at_hand = mid_hand ∙ sym (ap as_some in_mid)

    pub ended_work : AtWork table program mid
    ended_work = stepped_work (table.1.limit + edt) (with_phase ended_edt) c mid steps table program took.core (as_some took.taken) work took.hand

    pub ended_can : (was : List (ℕ × Part)) × CanMake table.1 mid.view (End edt g) hand was
    ended_can = (in_hand c.parts, subst (λ (v : OcrView). CanMake table.1 v (End edt g) hand (in_hand c.parts)) (sym steps.view) can_end)

    pub ended_step : (sent : List What) → sent ≡ sent_by_end (identity_on (part.Core took.core)) (payload_of_end (face_in table.1.limit (in_hand c.parts) g) g) → IsStep table.1.limit (End edt g) [] (in_hand c.parts) (in_hand mid.parts) sent
    ended_step sent is = record {
      parts = ap (parts_in table.1.limit) in_mid
          ∙ (core_steps table.1.limit edt within took.core took.taken (with_phase ended_edt)
          ∙ ap (λ (l : List (ℕ × Part)). changed (End edt g) (parts_in table.1.limit l)) (sym hand_parts));
      same_keys = ap parts_keys in_mid ∙ sym (ap parts_keys hand_parts);
      sends_are = is ∙ ap (λ (x : Part). sent_by_end (identity_on x) (payload_of_end (face_in table.1.limit (in_hand c.parts) g) g))
          (sym (ap (λ (l : List (ℕ × Part)). (parts_in table.1.limit l).core edt) hand_parts ∙ first_core table.1.limit edt took.core took.taken within));
    }

    pub ended_kept : (new : OcrKnown) → EntersAs table.1 mid new (End edt g) hand → EntersKept table.1 c new (End edt g) hand
    ended_kept new enters =
        kept_from table.1 c mid new (End edt g) hand steps.view
        (ap keys mid_hand ∙ (some_keys later ∙ sym (ap keys hand_parts)))
        (ap keys view_parts ∙ sym (ap keys hand_parts))
        (let may = can_end.may in may.at_hand.once) enters

  -- AFTER IT
  module _ (new : OcrKnown) (done : EntersKept table.1 c new (End edt g) hand) where
    log_is : new.view.log ≡ c.view.log ++ (done.number, End edt g) ∷ []
    log_is = ap (λ (v : OcrView). v.log) done.view

    listed_later : keys new.view.parts ≡ (table.1.limit + edt) ∷ returned_faces table.1.limit g
    listed_later = ap keys done.kept ∙ (turns_keys done.later (in_hand c.parts) done.step.same_keys ∙ (ap keys hand_parts ∙ listed))

    none_runs : RunsNone new.view
    none_runs u on =
        let now = subst (λ (l : List (ℕ × Entry)). RunsIn starts ends l u) log_is on in
        let mine : u ≡ edt = runs.taken.only u (subst (λ (l : List (ℕ × Entry)). RunsIn starts ends l u) (ap (λ (v : OcrView). v.log) took.view) (runs_back c.view.log done.number u (End edt g) refl now)) in
        never (is_among (λ e. ends e u) (entries c.view.log)) (edt == u) (sym (among_more (λ e. ends e u) c.view.log done.number (End edt g)) ∙ now.goes_on) (ap (λ (k : ℕ). edt == k) mine ∙ number_same edt)
      where
        never : (x y : Bool) → (x || y) ≡ false → y ≡ true → ⊥
        never true y off on = cc off
        never false y off on = cc (off, on)

    claims_none : new.view.claims ≡ []
    claims_none = ap (λ (v : OcrView). v.claims) done.view ∙ (ap (λ (v : OcrView). without_all (leaves meaning (End edt g)) v.claims) took.view ∙ (ap (without_all (leaves meaning (End edt g))) runs.taken.claims ∙ claim_ends edt g))

    low : All (λ p. p ≤ table.1.limit + table.1.limit) ((table.1.limit + edt) ∷ returned_faces table.1.limit g)
    low = all_from (λ p. p ≤ table.1.limit + table.1.limit) ((table.1.limit + edt) ∷ returned_faces table.1.limit g) (λ p at.
        let k = keys_at p ps in let l = ap (sum_of (one_at p)) listed in
        let r = (places_good table.1.limit (End edt g)).range p (end_there p (omega (arith, at, k, l))) in let high = r.1 in omega (arith, high))

    pub loose_end : (places : List ℕ) → places ≡ (table.1.limit + edt) ∷ returned_faces table.1.limit g → KeepsLoose table.1 places new
    loose_end places is = record {
      kept = listed_later ∙ sym is;
      hand = done.hand ∙ ap as_some (sym done.kept);
      claims = claims_none;
      none = none_runs;
      within = subst (All (λ p. p ≤ table.1.limit + table.1.limit)) (sym is) low;
    }

    pub idle_end : (last : OcrKnown) → last.view ≡ record new.view { parts = [] } → last.parts ≡ [] → IsIdleClerk last
    idle_end last view none = record {
      kept = ap (λ (v : OcrView). v.parts) view;
      hand = none;
      claims = ap (λ (v : OcrView). v.claims) view ∙ claims_none;
      drawn = ap (λ (v : OcrView). v.drawn) view ∙ (ap (λ (v : OcrView). v.drawn) done.view ∙ (ap (λ (v : OcrView). v.drawn) took.view ∙ runs.taken.drawn));
      owes = record {
        unput = ap (λ (v : OcrView). v.debts.unput) view ∙ (ap (λ (v : OcrView). v.debts.unput) done.view ∙ (ap (λ (v : OcrView). v.debts.unput ++ []) took.view ∙ ap (λ (l : List (ℕ × ℕ × ℕ)). l ++ []) runs.taken.owes.unput));
        put = ap (λ (v : OcrView). v.debts.put) view ∙ (ap (λ (v : OcrView). v.debts.put) done.view ∙ (ap (λ (v : OcrView). v.debts.put ++ []) took.view ∙ ap (λ (l : List (ℕ × ℕ × ℕ)). l ++ []) runs.taken.owes.put));
        made = ap (λ (v : OcrView). v.debts.made) view ∙ (ap (λ (v : OcrView). v.debts.made) done.view ∙ (ap (λ (v : OcrView). v.debts.made ++ []) took.view ∙ ap (λ (l : List (ℕ × ℕ)). l ++ []) runs.taken.owes.made));
        resumes = ap (λ (v : OcrView). v.debts.resumes) view ∙ (ap (λ (v : OcrView). v.debts.resumes) done.view ∙ (ap (λ (v : OcrView). v.debts.resumes ++ []) took.view ∙ ap (λ (l : List ℕ). l ++ []) runs.taken.owes.resumes));
      };
      none = λ u on. none_runs u (subst (λ (l : List (ℕ × Entry)). RunsIn starts ends l u) (ap (λ (v : OcrView). v.log) view) on);
    }

    pub newest_end : (last : OcrKnown) → last.view ≡ record new.view { parts = [] } → IsNewest (End edt g) c.view last.view
    newest_end last view = (done.number, ap (λ (v : OcrView). v.log) view ∙ log_is)
