-- The Start as a clerk makes it, and what it has then.
use Rattle.std.proofs.Common.{◌≡◌, ◌≢◌, ◌⊎◌, inl, inr, ⊎_elim, ℕ, ◌+◌, ◌≤◌, true, false, ◌==◌, if◌then◌else◌, List, [], ◌∷◌, ◌++◌, length, take, Option, Some, None, refl, ap, sym, ◌∙◌, subst, arith}
use Rattle.std.specs.List.{All}
use Rattle.std.proofs.lemmas.Bool.{eqb-true, and_from}
use Rattle.std.proofs.lemmas.List.Elements.{All-cons, All-nil}
use Rattle.std.proofs.lemmas.Grind.{common_steps}
use Rattle.ocr_base.proofs.Booleans.{same as number_same}
use Rattle.ocr_acquire.specs.declared.Mode.{Mode}
use Rattle.ocr_body_code.specs.Checked.{checked_tree}
use Rattle.ocr_body_code.specs.declared.checked.Checked.{Checked}
use Rattle.ocr_edt.specs.declared.Edt.{Edt}
use Rattle.ocr_edt.specs.declared.Edt.TheVariants as phase
use Rattle.ocr_slots.specs.declared.Slot.{Slot}
use Rattle.ocr_body_meaning.specs.Body.{Body}
use Rattle.ocr_machine_history.specs.declared.entry.Entry.{Entry}
use Rattle.ocr_machine_history.specs.declared.entry.Entry.TheVariants.{Start}
use Rattle.ocr_machine_parts.specs.declared.part.Core.{Core}
use Rattle.ocr_machine_parts.specs.declared.part.Part.{Part}
use Rattle.ocr_machine_parts.specs.declared.part.Part.TheVariants as part
use Rattle.ocr_machine_parts.specs.Effects.{changed, settled_core, started_edt}
use Rattle.ocr_machine_parts.specs.Progress.{made_ready, ready_at, with_phase}
use Rattle.ocr_machine_parts.specs.Footprint.{and_core}
use Rattle.ocr_machine_parts.specs.Kinds.{is_acquiring_edt, is_running, on_core}
use Rattle.ocr_machine_parts.specs.Parts.{Parts}
use Rattle.ocr_machine_parts.specs.Taken.{is_within, look, parts_in}
use Rattle.ocr_machine_parts.specs.Taken.{keys as parts_keys}
use Rattle.ocr_machine_parts.specs.Readiness.{plan_from, ready_with, started_with}
use Rattle.ocr_turns_rule.specs.Contract.{SameRoom}
use Rattle.ocr_turns_rule.specs.Rule.{RunsIn}
use Rattle.ocr_turns_rule.specs.Sums.{as_some, find, keys, one_at, replace, sum_of, weigh}
use Rattle.ocr_worker_machine.specs.Clerks.{IsStep, OcrView}
use Rattle.ocr_worker_machine.specs.Facts.{body_by}
use Rattle.ocr_worker_machine.specs.Ocr.{ends, starts, touches}
use Rattle.ocr_worker_machine.specs.declared.fact.Fact.{Fact}
use Rattle.ocr_worker_machine.specs.declared.fact.Fact.TheVariants.{Count, IsSet, Began}
use Rattle.ocr_worker_machine.proofs.Places.{named_place, within_is}
use Rattle.ocr_worker_clerk.specs.Entry.{CanMake, PlannedParts, OcrKnown}
use Rattle.ocr_worker_clerk.specs.Work.{AtWork, CanRun, EntersAs, EntersKept, OcrTable, RunsOnly, in_hand}
use Rattle.ocr_worker_clerk.proofs.Counters.{none_counted}
use Rattle.ocr_worker_clerk.proofs.Whole.{lifted_work}
use Rattle.ocr_worker_clerk.specs.Readiness.{CanStart, PutAs}
use Rattle.ocr_worker_clerk.proofs.Puts.{core_same, edt_same, item_same}
use Rattle.ocr_worker_access.specs.Access.{HasEntered, HasBegun, first_in, hand_at, slots_in}
use Rattle.ocr_worker_access.specs.Served.{IsKnown, Serves, own_log}
use Rattle.ocr_worker_access.proofs.Called.{runnable_in, core_out, core_back}
use Rattle.ocr_worker_access.proofs.Cores.{core_first, first_core}
use Rattle.ocr_worker_access.proofs.Logs.{claims_stay, now_known, own_fresh, own_start, runs_back, starts_now, still_known}
use Rattle.ocr_worker_access.proofs.Places.{core_from, face_from, same_places}
use Rattle.ocr_worker_access.proofs.Back.{runs_again}
use Rattle.ocr_worker_access.proofs.Phases.{core_found, core_steps, kept_from, replaced_first}
use Rattle.ocr_worker_access.proofs.Starts.{kept_pair, learnt, look_face, pair_once, ready_is, start_may}

-- THE PARTS, the core made ready
ready_pair : (limit edt : ℕ) → is_within limit edt ≡ true → (core : Core) (slots : List Slot) (ms : List (ℕ × Mode)) → parts_in limit (kept_pair limit edt (with_phase (made_ready ms) core) slots) ≡ ready_at edt ms (parts_in limit (kept_pair limit edt core slots))
ready_pair limit edt within core slots ms = core_steps limit edt within core ((edt, part.Edt slots) ∷ []) (with_phase (made_ready ms))

-- THE PLACES of the Start
module _ (limit edt : ℕ) (within : is_within limit edt ≡ true) (core : Core) (slots : List Slot) where
  one_of : (p n rest : ℕ) → 1 ≤ one_at p n + rest → (n ≡ p) ⊎ (1 ≤ rest)
  one_of p n rest is = elim (p == n) as (λ b. (p == n) ≡ b → 1 ≤ (if b then 1 else 0) + rest → (n ≡ p) ⊎ (1 ≤ rest)) [
    | true ↦ λ same _. inl (sym (eqb-true p n same))
    | false ↦ λ _ is. inr (omega (arith, is))
  ] refl is

  core_named : 1 ≤ touches limit (Start edt) (limit + edt)
  core_named = named_place limit (Start edt) (limit + edt) (rw (core_out limit edt within, core_back limit edt within) (and_from (is_within limit edt) (edt == edt) within (number_same edt)))

  face_named : 1 ≤ touches limit (Start edt) edt
  face_named = named_place limit (Start edt) edt (rw within (number_same edt))

  pair_there : (p : ℕ) → 1 ≤ weigh (one_at p) (kept_pair limit edt core slots) → 1 ≤ touches limit (Start edt) p
  pair_there p some = ⊎_elim
      (λ same. subst (λ (k : ℕ). 1 ≤ touches limit (Start edt) k) same core_named)
      (λ more. ⊎_elim (λ same. subst (λ (k : ℕ). 1 ≤ touches limit (Start edt) k) same face_named) (λ none. absurd (omega (arith, none))) (one_of p edt 0 more))
      (one_of p (limit + edt) (one_at p edt + 0) some)

  pair_back : (p : ℕ) → 1 ≤ touches limit (Start edt) p → 1 ≤ weigh (one_at p) (kept_pair limit edt core slots)
  pair_back p some = ⊎_elim
      (λ face. subst (λ (k : ℕ). 1 ≤ one_at k (limit + edt) + (one_at k edt + 0)) (sym face.1) (let e = one_at_same edt in omega (arith, e)))
      (λ cored. ⊎_elim (λ same. subst (λ (k : ℕ). 1 ≤ one_at k (limit + edt) + (one_at k edt + 0)) (sym same.1) (let e = one_at_same (limit + edt) in omega (arith, e))) (λ none. absurd (omega (arith, none))) (core_from limit edt p [] cored))
      (face_from limit edt p (and_core limit edt []) some)
    where
      one_at_same : (n : ℕ) → one_at n n ≡ 1
      one_at_same n = rw (number_same n) refl

pub face_else : (limit edt : ℕ) → 2 ≤ limit → (edt == (limit + edt)) ≡ false
face_else limit edt enough = grind (arith, common_steps)

-- WHAT IT ASKS of the clerk
module _ (table : OcrTable) (program : Checked) (edt : ℕ) (payloads : List ℕ) (c : OcrKnown) (work : AtWork table program c) (can : CanRun table.1 edt payloads c) where
  abbrev start_hand : PlannedParts
  start_hand = record { members = plan_from can.slots payloads; parts = kept_pair table.1.limit edt can.core can.slots }

  core_there : find (table.1.limit + edt) c.parts ≡ Some (Some (part.Core can.core))
  core_there = core_found (table.1.limit + edt) c.parts can.core ((edt, Some (part.Edt can.slots)) ∷ []) can.hand

  face_there : find edt c.parts ≡ Some (Some (part.Edt can.slots))
  face_there = ap (find edt) can.hand ∙ rw (face_else table.1.limit edt work.limits.0, number_same edt) refl

  -- the core can start where it stands
  pub can_put : (place : ℕ) → place ≡ table.1.limit + edt → CanStart c.parts place edt payloads
  can_put place at = subst (λ (n : ℕ). CanStart c.parts n edt payloads) (sym at) (record {
    both = record {
      core = can.core;
      slots = can.slots;
      core_there = core_there;
      face_there = face_there;
      apart = λ same. let enough = work.limits.0 in absurd (omega (arith, same, enough));
      count_is = can.count;
    };
    acquiring = can.acquiring;
    through = can.through;
  })

  pub put_hand : (new : List (ℕ × Option Part)) → PutAs started_with c.parts new (table.1.limit + edt) edt payloads → new ≡ as_some (kept_pair table.1.limit edt (started_with can.slots payloads can.core) can.slots)
  put_hand new put =
      let n = table.1.limit + edt in let rest : List (ℕ × Option Part) = (edt, Some (part.Edt can.slots)) ∷ [] in
      let later = Some (part.Core (started_with put.slots payloads put.core)) in
      let core : put.core ≡ can.core = core_same put.core can.core (item_same (part.Core put.core) (part.Core can.core) (sym put.core_there ∙ core_there)) in
      let slots : put.slots ≡ can.slots = edt_same put.slots can.slots (item_same (part.Edt put.slots) (part.Edt can.slots) (sym put.face_there ∙ face_there)) in
      put.put
      ∙ (ap (λ (l : List (ℕ × Option Part)). replace n later (replace n None l)) can.hand
      ∙ (ap (replace n later) (replaced_first n (Some (part.Core can.core)) None rest)
      ∙ (replaced_first n None later rest
      ∙ (λ i. (n, Some (part.Core (started_with (slots i) payloads (core i)))) ∷ rest))))

  abbrev ready_hand : List (ℕ × Part)
  ready_hand = kept_pair table.1.limit edt (ready_with can.slots payloads can.core) can.slots

  pub can_start : CanMake table.1 c.view (Start edt) start_hand ready_hand
  can_start = record {
    goes = refl;
    owes = tt;
    drawn = tt;
    claims = record {
      starts = λ n first. subst (λ (ns : List ℕ). 1 ≤ weigh_in n ns) (sym can.taken.claims) (claimed n first);
      waits = λ n p never. cc never;
      resumes = λ n none. absurd (omega (arith, none));
    };
    counters = none_counted table.1.limit (kept_pair table.1.limit edt can.core can.slots) (refl, (refl, tt));
    may = start_may table.1 c.view edt can.core can.slots payloads can.taken.number can.kept can.count can.facts work.limits.0 (runnable_in table program c work) can.acquiring can.through;
    ready = ready_pair table.1.limit edt can.taken.number can.core can.slots (plan_from can.slots payloads);
    same_keys = refl;
    places = λ p. (
      same_places table.1.limit (Start edt) (kept_pair table.1.limit edt can.core can.slots) (pair_once table.1.limit edt work.limits.0 can.taken.number can.core can.slots) (pair_there table.1.limit edt can.taken.number can.core can.slots) (pair_back table.1.limit edt can.taken.number can.core can.slots) p,
      (let same = ap (λ (ps : List (ℕ × Part)). weigh (one_at p) ps) can.kept in omega (arith, same)),
    );
  }
    where
      weigh_in : ℕ → List ℕ → ℕ
      weigh_in n ns = sum_of (one_at n) ns

      claimed : (n : ℕ) → (edt == n) ≡ true → 1 ≤ one_at n edt + 0
      claimed n first = subst (λ (k : ℕ). 1 ≤ one_at k edt + 0) (eqb-true edt n first) (let e : one_at edt edt ≡ 1 = rw (number_same edt) refl in omega (arith, e))

-- WHAT IT LEAVES
start_core : (f : Parts) (t : ℕ) → (changed (Start t) f).core t ≡ on_core (f.core t) (with_phase started_edt)
start_core f t = rw (number_same t) refl

acquiring_starts : (e : Edt) → is_acquiring_edt e ≡ true → (c : Core) → c.edt ≡ e → is_running (part.Core (with_phase started_edt c)) ≡ true
acquiring_starts (phase.Acquiring s) is c same = ap (λ (x : Edt). is_running (part.Core (with_phase started_edt (record c { edt = x })))) same
acquiring_starts other is c same = cc is

module _ (table : OcrTable) (program : Checked) (edt : ℕ) (payloads : List ℕ) (old new : OcrKnown) (work : AtWork table program old) (can : CanRun table.1 edt payloads old) (done : EntersKept table.1 old new (Start edt) (start_hand table program edt payloads old work can)) where
  abbrev began_body : Body
  began_body = body_by (checked_tree table.1.setting.value.program) can.slots (settled_core can.core) payloads

  abbrev told : List Fact
  told = Count edt (length can.slots) ∷ Began edt can.slots (settled_core can.core) ∷ []

  log_is : new.view.log ≡ old.view.log ++ (done.number, Start edt) ∷ []
  log_is = ap (λ (v : OcrView). v.log) done.view

  facts_are : new.view.facts ≡ old.view.facts ++ told
  facts_are = ap (λ (v : OcrView). v.facts) done.view ∙ ap (λ (fs : List Fact). old.view.facts ++ fs) (learnt table.1 old.view edt can.core can.slots payloads can.taken.number can.kept can.count can.facts work.limits.0)

  known : (f : Fact) → IsKnown (old.view.facts ++ told) f → IsKnown new.view.facts f
  known f is = subst (λ (fs : List Fact). IsKnown fs f) (sym facts_are) is

  pub start_serves : Serves table.1 new.view edt began_body
  start_serves = record {
    within = can.taken.number;
    face = can.slots;
    core = settled_core can.core;
    payloads = payloads;
    set = record { sizes = can.count; set = λ k lt. known (IsSet edt k _) (still_known old.view.facts told _ (can.facts k lt)) };
    counted = known _ (now_known old.view.facts told _ (0, refl));
    begun = known _ (now_known old.view.facts told _ (1, refl));
    body = refl;
    runs = subst (λ (l : List (ℕ × Entry)). RunsIn starts ends l edt) (sym log_is) (starts_now old.view.log done.number edt can.unstarted);
  }

  pub start_calls : own_log new.view.log edt ≡ []
  start_calls = ap (λ (l : List (ℕ × Entry)). own_log l edt) log_is ∙ (own_start old.view.log done.number edt edt ∙ own_fresh old.view.log edt can.unstarted)

  only_one : RunsOnly new.view edt
  only_one u runs = elim (edt == u) as (λ b. (edt == u) ≡ b → u ≡ edt) [
    | true ↦ λ same. sym (eqb-true edt u same)
    | false ↦ λ other. can.taken.only u (runs_back old.view.log done.number u (Start edt) other (subst (λ (l : List (ℕ × Entry)). RunsIn starts ends l u) log_is runs))
  ] refl

  pub core_later : (parts_in table.1.limit done.later).core edt ≡ part.Core (with_phase started_edt (ready_with can.slots payloads can.core))
  core_later =
      let ready = ready_is table.1.limit edt work.limits.0 can.taken.number can.core can.slots (plan_from can.slots payloads) in
      ap (λ (f : Parts). f.core edt) done.step.parts ∙ (start_core (ready_at edt (plan_from can.slots payloads) (parts_in table.1.limit (kept_pair table.1.limit edt can.core can.slots))) edt ∙ ap (λ (x : Part). on_core x (with_phase started_edt)) ready)

  running_later : is_running ((parts_in table.1.limit done.later).core edt) ≡ true
  running_later = ap is_running core_later ∙ acquiring_starts (ready_with can.slots payloads can.core).edt can.acquiring (ready_with can.slots payloads can.core) refl

  pub start_leaves : HasEntered table.1 edt began_body new (edt ∷ []) [] []
  start_leaves =
      let first = core_first table.1.limit edt can.core ((edt, part.Edt can.slots) ∷ []) done.later can.taken.number done.step.same_keys running_later in
      record {
        claims = ap (λ (v : OcrView). v.claims) done.view ∙ (claims_stay (Start edt) old.view.claims (λ n. refl) ∙ can.taken.claims);
        drawn = ap (λ (v : OcrView). v.drawn) done.view ∙ can.taken.drawn;
        only = only_one;
        unput = ap (λ (v : OcrView). v.debts.unput) done.view ∙ ap (λ (l : List (ℕ × ℕ × ℕ)). l ++ []) can.taken.owes.unput;
        put = ap (λ (v : OcrView). v.debts.put) done.view ∙ ap (λ (l : List (ℕ × ℕ × ℕ)). l ++ []) can.taken.owes.put;
        made_is = ap (λ (v : OcrView). v.debts.made) done.view ∙ ap (λ (l : List (ℕ × ℕ)). l ++ []) can.taken.owes.made;
        resumes = ap (λ (v : OcrView). v.debts.resumes) done.view ∙ ap (λ (l : List ℕ). l ++ []) can.taken.owes.resumes;
        serves = start_serves;
        core = first.core;
        rest = first.rest;
        keeps = done.kept ∙ first.is;
        hand = done.hand ∙ ap as_some first.is;
        running = first.running;
        places_are = first.same;
        sees = done.sees;
      }

-- as the parts tell it
pub hand_same : (table : OcrTable) (program : Checked) (edt : ℕ) (payloads : List ℕ) (c : OcrKnown) (work : AtWork table program c) (can : CanRun table.1 edt payloads c) → hand_at c edt payloads ≡ start_hand table program edt payloads c work can
hand_same table program edt payloads c work can =
    ap (λ (ps : List (ℕ × Part)). record { members = plan_from (slots_in (look ps edt)) payloads; parts = ps }) can.kept
    ∙ ap (λ (x : Part). record { members = plan_from (slots_in x) payloads; parts = kept_pair table.1.limit edt can.core can.slots }) (look_face table.1.limit edt work.limits.0 can.taken.number can.core can.slots)

pub can_begin : (table : OcrTable) (program : Checked) (edt : ℕ) (payloads : List ℕ) (c : OcrKnown) (h : PlannedParts) → AtWork table program c → CanRun table.1 edt payloads c → h ≡ hand_at c edt payloads → (was : List (ℕ × Part)) × CanMake table.1 c.view (Start edt) h was
can_begin table program edt payloads c h work can is =
    let was = ready_hand table program edt payloads c work can in
    (was, subst (λ (k : PlannedParts). CanMake table.1 c.view (Start edt) k was) (sym (is ∙ hand_same table program edt payloads c work can)) (can_start table program edt payloads c work can))

-- THE CORE AT HAND has started, before the entry is made
module _ (table : OcrTable) (program : Checked) (edt : ℕ) (payloads : List ℕ) (old mid : OcrKnown) (h : PlannedParts) (work : AtWork table program old) (can : CanRun table.1 edt payloads old) (is : h ≡ hand_at old edt payloads) (place : ℕ) (at : place ≡ table.1.limit + edt)
    (same : (mid.table ≡ old.table) × (mid.view ≡ old.view) × SameRoom old mid × (length mid.parts ≡ length old.parts)) (put : PutAs started_with old.parts mid.parts place edt payloads) where
  abbrev ready : Core
  ready = ready_with can.slots payloads can.core

  abbrev started_pair : List (ℕ × Part)
  started_pair = kept_pair table.1.limit edt (with_phase started_edt ready) can.slots

  mid_hand : mid.parts ≡ as_some started_pair
  mid_hand = put_hand table program edt payloads old work can mid.parts (subst (λ (n : ℕ). PutAs started_with old.parts mid.parts n edt payloads) at put)

  in_mid : in_hand mid.parts ≡ started_pair
  in_mid = ap in_hand mid_hand

  pub started_at_hand : mid.parts ≡ as_some (in_hand mid.parts)
  started_at_hand = mid_hand ∙ sym (ap as_some in_mid)

  pub started_work : AtWork table program mid
  started_work = lifted_work table program old mid work same.0 same.1 same.2 same.3

  can_old : (was : List (ℕ × Part)) × CanMake table.1 old.view (Start edt) h was
  can_old = can_begin table program edt payloads old h work can is

  pub started_can : (was : List (ℕ × Part)) × CanMake table.1 mid.view (Start edt) h was
  started_can = subst (λ (v : OcrView). (was : List (ℕ × Part)) × CanMake table.1 v (Start edt) h was) (sym same.1) can_old

  hand_now : h ≡ start_hand table program edt payloads old work can
  hand_now = is ∙ hand_same table program edt payloads old work can

  step_so : IsStep table.1.limit (Start edt) (plan_from can.slots payloads) (kept_pair table.1.limit edt can.core can.slots) (in_hand mid.parts) []
  step_so = record {
    parts = ap (parts_in table.1.limit) in_mid
        ∙ (core_steps table.1.limit edt can.taken.number ready ((edt, part.Edt can.slots) ∷ []) (with_phase started_edt)
        ∙ ap (changed (Start edt)) (ready_pair table.1.limit edt can.taken.number can.core can.slots (plan_from can.slots payloads)));
    same_keys = ap parts_keys in_mid;
    sends_are = refl;
  }

  pub started_step : IsStep table.1.limit (Start edt) h.members h.parts (in_hand mid.parts) []
  started_step = subst (λ (k : PlannedParts). IsStep table.1.limit (Start edt) k.members k.parts (in_hand mid.parts) []) (sym hand_now) step_so

  keys_now : (ps : List (ℕ × Part)) → ps ≡ kept_pair table.1.limit edt can.core can.slots → keys ps ≡ (table.1.limit + edt) ∷ edt ∷ []
  keys_now ps same = ap keys same

  pub started_kept : (new : OcrKnown) → EntersAs table.1 mid new (Start edt) h → EntersKept table.1 old new (Start edt) h
  started_kept new enters =
      let hand_keyed = keys_now h.parts (ap (λ (k : PlannedParts). k.parts) hand_now) in
      kept_from table.1 old mid new (Start edt) h same.1
      (ap keys mid_hand ∙ sym hand_keyed)
      (keys_now old.view.parts can.kept ∙ sym hand_keyed)
      (let may = can_old.1.may in may.at_hand.once) enters

module _ (table : OcrTable) (program : Checked) (edt : ℕ) (payloads : List ℕ) (old new : OcrKnown) (h : PlannedParts) (work : AtWork table program old) (can : CanRun table.1 edt payloads old) (is : h ≡ hand_at old edt payloads) (done : EntersKept table.1 old new (Start edt) h) where
  pub done_so : EntersKept table.1 old new (Start edt) (start_hand table program edt payloads old work can)
  done_so = subst (EntersKept table.1 old new (Start edt)) (is ∙ hand_same table program edt payloads old work can) done

  pub begun_leaves : HasEntered table.1 edt (began_body table program edt payloads old new work can done_so) new (edt ∷ []) [] []
  begun_leaves = start_leaves table program edt payloads old new work can done_so

  pub face_within : All (λ p. (p ≢ table.1.limit + edt) × (p ≤ table.1.limit + table.1.limit)) (edt ∷ [])
  face_within = All-cons (λ p. (p ≢ table.1.limit + edt) × (p ≤ table.1.limit + table.1.limit)) edt [] (apart table.1.limit edt work.limits.0 can.taken.number) (All-nil (λ p. (p ≢ table.1.limit + edt) × (p ≤ table.1.limit + table.1.limit)))
    where
      apart : (limit n : ℕ) → 2 ≤ limit → is_within limit n ≡ true → (n ≢ limit + n) × (n ≤ limit + limit)
      apart limit n enough is = let low = (within_is limit n is) in let high = low.1 in ((λ same. absurd (omega (arith, same, enough))), omega (arith, high))

  -- with its core alone
  pub begun : (last : OcrKnown) → last.view ≡ record new.view { parts = take 1 new.view.parts } → last.parts ≡ take 1 new.parts → HasBegun table.1 edt payloads old last
  begun last view hand = record {
    slots = can.slots;
    core = can.core;
    was = can.kept;
    is =
        let leaves = begun_leaves in
        ap first_in hand ∙ (ap (λ (ps : List (ℕ × Option Part)). first_in (take 1 ps)) leaves.hand
        ∙ (sym (ap (λ (ps : List (ℕ × Part)). (parts_in table.1.limit ps).core edt) leaves.keeps ∙ first_core table.1.limit edt leaves.core leaves.rest can.taken.number)
        ∙ (ap (λ (ps : List (ℕ × Part)). (parts_in table.1.limit ps).core edt) done_so.kept ∙ core_later table program edt payloads old new work can done_so)));
    runs = runs_again table.1 edt (began_body table program edt payloads old new work can done_so) new last (edt ∷ []) begun_leaves (ap (λ (v : OcrView). v.terms) done_so.view ∙ work.of_table.1) view hand;
    calls = ap (λ (v : OcrView). own_log v.log edt) view ∙ start_calls table program edt payloads old new work can done_so;
  }
