-- A worker may end the run.
use Rattle.std.specs.declared.snapshot.Snapshot.{Snapshot}
use Rattle.std.proofs.Common.{◌≡◌, ◌⊎◌, ⊎_elim, inl, inr, ℕ, zero, suc, ◌+◌, ◌==◌, Bool, ◌≤◌, ◌<◌, List, [], ◌∷◌, ◌++◌, length, reverse, Option, Some, None, is_some, true, false, refl, ap, sym, ◌∙◌, subst, arith}
use Rattle.std.specs.Prelude.{MatchOption}
use Rattle.std.proofs.lemmas.List.{append-nil, length-append}
use mathlib.Core.Option.{some-injective, some-ne-none}
use Rattle.atomic_table.proofs.Lists.{at_last}
use Rattle.ocr_body_code.specs.Checked.{checked_tree}
use Rattle.ocr_body_code.specs.declared.checked.Checked.{Checked}
use Rattle.ocr_program_tree.specs.Runnable.{IsRunnable}
use Rattle.ocr_body_meaning.specs.declared.call.Call as body
use Rattle.ocr_body_meaning.specs.declared.call.Call.TheVariants as call
use Rattle.ocr_machine_history.specs.declared.entry.Entry.{Entry}
use Rattle.ocr_machine_history.specs.declared.entry.Entry.TheVariants as an
use Rattle.ocr_machine_history.specs.declared.entry.Stop as run
use Rattle.ocr_machine_history.specs.declared.entry.Stop.TheVariants as by
use Rattle.ocr_machine_history.specs.Weight.{weight_of}
use Rattle.ocr_machine_parts.specs.declared.part.Part.{Part}
use Rattle.ocr_machine_parts.specs.Legal.{IsCreating, IsWeighed}
use Rattle.ocr_worker_machine.specs.Holds.{AreKept}
use Rattle.ocr_worker_machine.proofs.Holds.{kept_law}
use Rattle.ocr_machine_parts.specs.Parts.{parts_of}
use Rattle.ocr_machine_parts.specs.Taken.{ArePartsOf}
use Rattle.ocr_worker_machine.specs.Clerks.{Knows, OcrTerms, OcrView, of_terms}
use Rattle.ocr_worker_machine.specs.Facts.{Stands}
use Rattle.ocr_worker_machine.specs.Ocr.{meaning, stands}
use Rattle.ocr_worker_machine.specs.declared.fact.Fact.{Fact}
use Rattle.ocr_worker_machine.specs.declared.fact.Fact.TheVariants.{Short}
use Rattle.ocr_worker_machine.proofs.Entered.{fitting_parts, goes_on}
use Rattle.ocr_worker_machine.proofs.Runs.{reverse_snoc, run_is}
use Rattle.ocr_turns_rule.proofs.Bounds.{fits_apart}
use Rattle.ocr_turns_rule.specs.Contract.{DrawTells, MayClose, SameHand}
use Rattle.ocr_turns_rule.specs.Rule.{FactsOf, Fits}
use Rattle.ocr_turns_rule.specs.Steps.{filled_by, with_drawn}
use Rattle.ocr_turns_rule.specs.Units.{claim_count}
use Rattle.ocr_turns_rule.specs.Sums.{load_of}
use Rattle.ocr_turns_rule.specs.declared.answers.Drawn.TheVariants as drawn
use Rattle.ocr_worker_clerk.specs.Number.{object_count, one_if}
use Rattle.ocr_worker_clerk.specs.Entry.{CanMake, PlannedParts, OcrKnown}
use Rattle.ocr_worker_clerk.specs.Work.{AtWork, IsOwnStop, MayStopSo, OcrTable, Stays, stop_in, told}
use Rattle.ocr_worker_clerk.proofs.Goes.{stays_by}

-- the facts stand once the run is stopped so
abbrev pub WillStand : OcrTerms → OcrView → run.Stop → List Fact → Type 0
WillStand t v why fs = Knows t v (λ J. FactsOf (stands t.setting.value t.limit (J ++ an.Stop why ∷ [])) fs)

pub may_close : (table : OcrTable) (p : Checked) (c : OcrKnown) (why : run.Stop) (fs : List Fact) → AtWork table p c → Knows table.1 c.view (λ J. MayStopSo (of_terms table.1) (reverse J) why) → WillStand table.1 c.view why fs → MayClose meaning table.1 c.view (an.Stop why) fs
may_close table p c why fs work knows will = record {
  stops = refl;
  unit = work.stake;
  legal = λ J open_run fits. let so = knows J open_run fits in record {
    legal = record {
      open_run = goes_on J open_run;
      on_parts = tt;
      on_facts = tt;
      said = so.said;
      stopping = so.cause;
    };
    runnable = subst (λ (q : Checked). IsRunnable (checked_tree q)) (sym work.program_is) work.runnable;
  };
  facts = will;
}

pub no_facts : (t : OcrTerms) (v : OcrView) (why : run.Stop) → WillStand t v why []
no_facts t v why J open_run fits k f there = absurd (some-ne-none f (sym there))

pub memory_stops : (t : OcrTerms) (v : OcrView) → Knows t v (λ J. MayStopSo (of_terms t) (reverse J) by.Memory)
memory_stops t v = λ J open_run fits. record { said = tt; cause = tt }

-- an entry that the clerk could make could come
weighed : (t : OcrTerms) (v : OcrView) (e : Entry) (h : PlannedParts) (ps : List (ℕ × Part)) → CanMake t v e h ps → Knows t v (λ J. IsWeighed (of_terms t) (reverse J) e (weight_of e))
weighed t v e h ps can = λ J open_run fits.
    let s = of_terms t in let past = reverse J in let may = can.may in
    let kept : ArePartsOf t.limit (parts_of s past) v.parts = fitting_parts t J v fits in
    let at_hand : ArePartsOf t.limit (parts_of s past) h.parts = λ n here. kept n (may.at_hand.there n here) ∙ sym (may.at_hand.alike n here) in
    let are : AreKept s past e h.parts h.members = record { enough = fits.limits; run = run_is t.setting.value t.limit J fits.run; covers = may.covers; parts = at_hand; plan = may.plans J open_run fits } in
    record {
      weighs = refl;
      no_stop = can.goes;
      on_parts = kept_law s past e h.parts h.members are may.on_hand;
      on_facts = may.set J open_run fits;
      said = may.says J open_run fits;
    }

pub heavy_stops : (t : OcrTerms) (v : OcrView) (e : Entry) (worker weight : ℕ) → (h : PlannedParts) × (ps : List (ℕ × Part)) × CanMake t v e h ps → weight ≡ weight_of e → Knows t v (λ J. MayStopSo (of_terms t) (reverse J) (by.Events worker weight))
heavy_stops t v e worker weight can is = λ J open_run fits. record {
  said = tt;
  cause = (e, subst (λ (k : ℕ). IsWeighed (of_terms t) (reverse J) e k) (sym is) (weighed t v e can.0 can.1 can.2 J open_run fits));
}

-- NO NUMBER IS LEFT: the creation is what the run was short of, from the Stop on
pub short_stands : (t : OcrTerms) (v : OcrView) (edt : ℕ) (c : Snapshot body.Call) → Knows t v (λ J. IsCreating (of_terms t) (reverse J) edt c.value) → WillStand t v by.Objects (Short edt c ∷ [])
unfolding stands
short_stands t v edt c knows J open_run fits zero f there =
    subst (λ (g : Fact). Stands (of_terms t) (reverse (J ++ an.Stop by.Objects ∷ [])) g) (some-injective (Short edt c) f there)
    (record { before = reverse J; stopped = reverse_snoc J (an.Stop by.Objects); creating = knows J open_run fits })
short_stands t v edt c knows J open_run fits (suc k) f there = absurd (some-ne-none f (sym there))

pub short_stops : (t : OcrTerms) (v : OcrView) (edt : ℕ) (c : body.Call) → Knows t v (λ J. IsCreating (of_terms t) (reverse J) edt c) → Knows t v (λ J. MayStopSo (of_terms t) (reverse J) by.Objects)
short_stops t v edt c knows J open_run fits = record { said = tt; cause = (edt, c, knows J open_run fits) }

-- and that it is stands last among what the clerk was told
pub short_own : (t : OcrTerms) (worker : ℕ) (v : OcrView) (edt : ℕ) (c : Snapshot body.Call) → length v.drawn < object_count c.value → is_some v.reached ≡ true → IsOwnStop t worker (told v (Short edt c ∷ [])) by.Objects
short_own t worker v edt c few reached = record {
  edt = edt;
  call = c;
  known = (length v.facts, at_last v.facts (Short edt c) (length v.facts) refl);
  few = few;
  reached = reached;
}

full_fits : (t : OcrTerms) (J : List Entry) (v : OcrView) (n : ℕ) → Fits meaning t J (filled_by v n) → Fits meaning t J v
full_fits t J v n = fits_apart meaning t J (filled_by v n) v.carried v.full v.reached v.filled v.debts v.spares

full_view : (old new : OcrView) (n : ℕ) (limit : ℕ) (o : Option ℕ) → o ≡ old.full → MatchOption old.full (Unit {0}) (λ _. is_some old.reached ≡ true) → MatchOption o (new ≡ filled_by old n) (λ w. (w ≡ n) × (new ≡ old))
    → ((t : OcrTerms) (J : List Entry) → Fits meaning t J new → Fits meaning t J old) × (is_some new.reached ≡ true)
full_view old new n limit None at was is = (λ t J fits. full_fits t J old n (subst (λ (v : OcrView). Fits meaning t J v) is fits), ap (λ (v : OcrView). is_some v.reached) is)
full_view old new n limit (Some w) at was is = (
  λ t J fits. subst (λ (v : OcrView). Fits meaning t J v) is.1 fits,
  ap (λ (v : OcrView). is_some v.reached) is.1 ∙ subst (λ (o : Option ℕ). MatchOption o (Unit {0}) (λ _. is_some old.reached ≡ true)) (sym at) was,
)

pub full_knows : (t : OcrTerms) (old new : OcrView) (n : ℕ) (P : List Entry → Type 0) → MatchOption old.full (Unit {0}) (λ _. is_some old.reached ≡ true) → MatchOption old.full (new ≡ filled_by old n) (λ w. (w ≡ n) × (new ≡ old))
    → Knows t old P → Knows t new P
full_knows t old new n P was is knows J open_run fits = knows J open_run ((full_view old new n 0 old.full refl was is).0 t J fits)

pub full_reached : (old new : OcrView) (n : ℕ) → MatchOption old.full (Unit {0}) (λ _. is_some old.reached ≡ true) → MatchOption old.full (new ≡ filled_by old n) (λ w. (w ≡ n) × (new ≡ old)) → is_some new.reached ≡ true
full_reached old new n was is = (full_view old new n 0 old.full refl was is).1

-- what stays of the clerk then
full_told : (old new : OcrKnown) (n limit : ℕ) (o : Option ℕ) → o ≡ old.view.full → MatchOption o (new.view ≡ filled_by old.view n) (λ w. (w ≡ n) × (new.view ≡ old.view)) → (new.view ≡ filled_by old.view n) ⊎ (new.view ≡ old.view)
full_told old new n limit None at is = inl is
full_told old new n limit (Some w) at is = inr is.1

pub full_stays : (limit : ℕ) (old new : OcrKnown) (n : ℕ) → DrawTells meaning limit (drawn.Full n) old new → Stays old new
full_stays limit old new n tells = ⊎_elim
    (λ is. stays_by old new (filled_by old.view n) tells.1.0 is refl refl refl refl refl ([], sym (append-nil old.view.log)))
    (λ is. stays_by old new old.view tells.1.0 is refl refl refl refl refl ([], sym (append-nil old.view.log)))
    (full_told old new n limit old.view.full refl tells.2)

full_drawn : (old new : OcrView) (n : ℕ) → MatchOption old.full (new ≡ filled_by old n) (λ w. (w ≡ n) × (new ≡ old)) → new.drawn ≡ old.drawn
full_drawn old new n is = by_case old.full is
  where
    by_case : (o : Option ℕ) → MatchOption o (new ≡ filled_by old n) (λ w. (w ≡ n) × (new ≡ old)) → new.drawn ≡ old.drawn
    by_case None is = ap (λ (v : OcrView). v.drawn) is
    by_case (Some w) is = ap (λ (v : OcrView). v.drawn) is.1

pub full_few : (old new : OcrView) (n count : ℕ) → MatchOption old.full (new ≡ filled_by old n) (λ w. (w ≡ n) × (new ≡ old)) → length old.drawn < count → length new.drawn < count
full_few old new n count is few = subst (λ (ns : List ℕ). length ns < count) (sym (full_drawn old new n is)) few

some_full : (o r : Option ℕ) → is_some r ≡ true → MatchOption o (Unit {0}) (λ _. is_some r ≡ true)
some_full None r on = tt
some_full (Some w) r on = on

pub full_work : (table : OcrTable) (p : Checked) (limit : ℕ) (old new : OcrKnown) (n : ℕ) → AtWork table p old → DrawTells meaning limit (drawn.Full n) old new → AtWork table p new
full_work table p limit old new n work tells =
    let on = full_reached old.view new.view n work.full tells.2 in
    let both : (new.view.closed ≡ old.view.closed) × (new.view.log ≡ old.view.log) × (new.view.terms ≡ old.view.terms) × (new.view.weight ≡ old.view.weight) × (new.view.drawn ≡ old.view.drawn) × (new.view.spares + claim_count new.view ≡ old.view.spares + claim_count old.view) × (new.view.raised ≡ old.view.raised) × (new.view.ended ≡ old.view.ended) = ⊎_elim
    (λ is. (ap (λ (v : OcrView). v.closed) is, ap (λ (v : OcrView). v.log) is, ap (λ (v : OcrView). v.terms) is, ap (λ (v : OcrView). v.weight) is, ap (λ (v : OcrView). v.drawn) is, ap (λ (v : OcrView). v.spares + claim_count v) is, ap (λ (v : OcrView). v.raised) is, ap (λ (v : OcrView). v.ended) is))
    (λ is. (ap (λ (v : OcrView). v.closed) is, ap (λ (v : OcrView). v.log) is, ap (λ (v : OcrView). v.terms) is, ap (λ (v : OcrView). v.weight) is, ap (λ (v : OcrView). v.drawn) is, ap (λ (v : OcrView). v.spares + claim_count v) is, ap (λ (v : OcrView). v.raised) is, ap (λ (v : OcrView). v.ended) is))
    (full_told old new n limit old.view.full refl tells.2) in
    record {
      of_table = (tells.1.0 ∙ work.of_table.0, both.2 ∙ work.of_table.1);
      limits = work.limits;
      program_is = work.program_is;
      runnable = work.runnable;
      is_open = both.0 ∙ work.is_open;
      unstopped = ap (λ (l : List (ℕ × Entry)). stop_in l) both.1 ∙ work.unstopped;
      room = let a = tells.1.2.0 in let b = work.room in omega (arith, a, b);
      spare = let a = tells.1.2.1 in let b = work.spare in let l = ap (λ (ps : List (ℕ × Option Part)). length ps) tells.1.1 in omega (arith, a, b, l);
      weighs = both.3 ∙ (work.weighs ∙ ap (λ (l : List (ℕ × Entry)). load_of weight_of l) (sym both.1));
      light = let a = both.3 in let b = work.light in omega (arith, a, b);
      few = let a = ap (λ (ns : List ℕ). length ns) both.4 in let b = work.few in omega (arith, a, b);
      full = some_full new.view.full new.view.reached on;
      loads = work.loads;
      stake = let a = both.5 in let b = work.stake in omega (arith, a, b);
      raised = let a = both.6 in let w = both.3 in let b = work.raised in omega (arith, a, b, w);
      ended = both.7 ∙ work.ended;
    }

-- A NUMBER was drawn
pub drawn_stays : (old new : OcrKnown) (n : ℕ) → new.table ≡ old.table → new.view ≡ with_drawn old.view n → Stays old new
drawn_stays old new n table is = stays_by old new (with_drawn old.view n) table is refl refl refl refl refl ([], sym (append-nil old.view.log))

one_most : (b : Bool) → one_if b ≤ 1
one_most true = omega arith
one_most false = omega arith

-- a call makes at most an EDT, a scope and an output event
count_most : (c : body.Call) → object_count c ≤ 3
count_most (call.DbCreate n flags) = omega arith
count_most (call.EventCreate kind flags) = omega arith
count_most (call.EventCreateParams kind flags max sat deps) = omega arith
count_most (call.TemplateCreate function pc dc) = omega arith
count_most (call.EdtCreate from pc params dc deps flags output) = let a = one_most (flags == 1) in let b = one_most output in omega (arith, a, b)
count_most other = omega arith

pub drawn_work : (table : OcrTable) (p : Checked) (old new : OcrKnown) (n : ℕ) (c : body.Call) → AtWork table p old → length old.view.drawn < object_count c → SameHand old new → new.view ≡ with_drawn old.view n → AtWork table p new
drawn_work table p old new n c work few hand is = record {
  of_table = (hand.0 ∙ work.of_table.0, ap (λ (v : OcrView). v.terms) is ∙ work.of_table.1);
  limits = work.limits;
  program_is = work.program_is;
  runnable = work.runnable;
  is_open = ap (λ (v : OcrView). v.closed) is ∙ work.is_open;
  unstopped = ap (λ (v : OcrView). stop_in v.log) is ∙ work.unstopped;
  room = let a = hand.2.0 in let b = work.room in omega (arith, a, b);
  spare = let a = hand.2.1 in let b = work.spare in let l = ap (λ (ps : List (ℕ × Option Part)). length ps) hand.1 in omega (arith, a, b, l);
  weighs = ap (λ (v : OcrView). v.weight) is ∙ (work.weighs ∙ ap (λ (v : OcrView). load_of weight_of v.log) (sym is));
  light = let a = ap (λ (v : OcrView). v.weight) is in let b = work.light in omega (arith, a, b);
  few = let a = ap (λ (v : OcrView). length v.drawn) is ∙ length-append old.view.drawn (n ∷ []) in let m = count_most c in omega (arith, a, m, few);
  full = subst (λ (v : OcrView). MatchOption v.full (Unit {0}) (λ _. is_some v.reached ≡ true)) (sym is) work.full;
  loads = work.loads;
  stake = let a = ap (λ (v : OcrView). v.spares + claim_count v) is in let b = work.stake in omega (arith, a, b);
  raised = let a = ap (λ (v : OcrView). v.raised) is in let w = ap (λ (v : OcrView). v.weight) is in let b = work.raised in omega (arith, a, b, w);
  ended = ap (λ (v : OcrView). v.ended) is ∙ work.ended;
}
