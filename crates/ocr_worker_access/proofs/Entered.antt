-- What the entry of a call leaves.
use Rattle.std.specs.Prelude.{IfOk, OnOk}
use Rattle.std.proofs.Common.{◌≡◌, ℕ, ◌+◌, true, List, [], ◌∷◌, ◌++◌, Option, Result, Ok, Err, refl, ap, sym, ◌∙◌, subst}
use Rattle.ocr_base.proofs.Booleans.{same as number_same}
use Rattle.ocr_body_meaning.specs.Body.{Body}
use Rattle.ocr_body_meaning.specs.Holds.{after_call}
use Rattle.ocr_body_meaning.specs.declared.call.Answer.{Answer}
use Rattle.ocr_body_meaning.specs.declared.call.Call as body
use Rattle.ocr_machine_history.specs.declared.entry.Entry.{Entry}
use Rattle.ocr_machine_history.specs.declared.entry.Entry.TheVariants.{Call}
use Rattle.ocr_machine_parts.specs.declared.part.Part.{Part}
use Rattle.ocr_machine_parts.specs.declared.part.Part.TheVariants as part
use Rattle.ocr_machine_parts.specs.Kinds.{is_running}
use Rattle.ocr_machine_parts.specs.LegalOn.{IsCallOn}
use Rattle.ocr_machine_parts.specs.Parts.{Parts}
use Rattle.ocr_machine_parts.specs.Taken.{is_within, parts_in}
use Rattle.ocr_machine_parts.specs.Taken as taken
use Rattle.ocr_machine_parts.specs.Bodies.{holds_in}
use Rattle.ocr_turns_rule.specs.Debts.{listed}
use Rattle.ocr_turns_rule.specs.Rule.{RunsIn}
use Rattle.ocr_turns_rule.specs.Sums.{as_some, keys, less_all}
use Rattle.ocr_worker_machine.specs.Clerks.{OcrView}
use Rattle.ocr_worker_machine.specs.Ocr.{counts, ends, makes, starts, wakes}
use Rattle.ocr_worker_clerk.specs.Entry.{CanMake, OcrKnown}
use Rattle.ocr_worker_clerk.specs.Work.{EntersAs, EntersKept, OcrTable, RunsOnly}
use Rattle.ocr_worker_clerk.proofs.Entries.{turns_keys}
use Rattle.ocr_worker_clerk.proofs.Hands.{lifted_keys, some_keys}
use Rattle.ocr_worker_clerk.proofs.Whole.{entered_whole}
use Rattle.ocr_worker_access.specs.Calls.{drawn_for, faces_of}
use Rattle.ocr_worker_access.specs.Access.{HasEntered, HasLifted, IsCalled, Runs, first_in, places_made}
use Rattle.ocr_worker_access.specs.Served.{own_log}
use Rattle.ocr_worker_access.proofs.Cores.{HasCoreFirst, call_holds, call_runs, core_first, first_core}
use Rattle.ocr_worker_access.proofs.Logs.{claims_stay, own_call, runs_back, serves_on}

-- numbers that were drawn and are made
less_same : (ns : List ℕ) → less_all ns ns ≡ []
less_same [] = refl
less_same (n ∷ ns) = rw (number_same n) (less_same ns)

module _ (table : OcrTable) (edt : ℕ) (b : Body) (first old new : OcrKnown) (home : ℕ) (c : body.Call) (a : Answer) (w : List (ℕ × ℕ)) (ps : List (ℕ × Part)) (runs : Runs table.1 edt b first)
    (lift : HasLifted table.1 edt first old (faces_of table.1.limit home c ++ places_made table.1.limit c a) (drawn_for c a) ps) (can : CanMake table.1 old.view (Call edt home c a w) (record { members = []; parts = ps }) ps)
    (done : EntersAs table.1 old new (Call edt home c a w) (record { members = []; parts = ps })) where
  abbrev entry : Entry
  entry = Call edt home c a w

  abbrev core_part : ℕ × Part
  core_part = (table.1.limit + edt, part.Core lift.core)

  within : is_within table.1.limit edt ≡ true
  within = runs.taken.number

  listed_hand : keys old.parts ≡ keys ps
  listed_hand = ap keys lift.hand ∙ (lifted_keys (as_some (core_part ∷ lift.taken)) ∙ (some_keys (core_part ∷ lift.taken) ∙ sym (ap keys lift.parts)))

  listed_view : keys old.view.parts ≡ keys ps
  listed_view = ap (λ (v : OcrView). keys v.parts) lift.view ∙ sym (ap keys lift.parts)

  whole : EntersKept table.1 old new (Call edt home c a w) (record { members = []; parts = ps })
  whole = entered_whole table.1 old new (Call edt home c a w) (record { members = []; parts = ps }) listed_hand listed_view can.may.at_hand.once done

  legal : IsCallOn table.1.limit (parts_in table.1.limit ps) edt home c a w
  legal = can.may.on_hand

  running_later : is_running ((parts_in table.1.limit whole.later).core edt) ≡ true
  running_later = ap (λ (f : Parts). is_running (f.core edt)) whole.step.parts ∙ call_runs table.1.limit (parts_in table.1.limit ps) edt home c a w legal

  after : HasCoreFirst (table.1.limit + edt) lift.taken whole.later
  after = core_first table.1.limit edt lift.core lift.taken whole.later within (whole.step.same_keys ∙ ap taken.keys lift.parts) running_later

  log_is : new.view.log ≡ first.view.log ++ (whole.number, entry) ∷ []
  log_is = ap (λ (v : OcrView). v.log) whole.view ∙ ap (λ (v : OcrView). v.log ++ (whole.number, entry) ∷ []) lift.view

  facts_are : new.view.facts ≡ first.view.facts ++ []
  facts_are = ap (λ (v : OcrView). v.facts) whole.view ∙ ap (λ (v : OcrView). v.facts ++ []) lift.view

  only_one : RunsOnly new.view edt
  only_one u on = runs.taken.only u (runs_back first.view.log whole.number u entry refl (subst (λ (l : List (ℕ × Entry)). RunsIn starts ends l u) log_is on))

  pub call_leaves : HasEntered table.1 edt b new (faces_of table.1.limit home c ++ places_made table.1.limit c a) (listed (counts table.1.limit entry old.view.parts)) (wakes table.1.limit entry old.view.parts)
  call_leaves = record {
    claims = ap (λ (v : OcrView). v.claims) whole.view ∙ (claims_stay entry old.view.claims (λ n. refl) ∙ (ap (λ (v : OcrView). v.claims) lift.view ∙ runs.taken.claims));
    drawn = ap (λ (v : OcrView). v.drawn) whole.view ∙ (ap (λ (v : OcrView). less_all (makes entry) v.drawn) lift.view ∙ less_same (drawn_for c a));
    only = only_one;
    unput = ap (λ (v : OcrView). v.debts.unput) whole.view ∙ (ap (λ (v : OcrView). v.debts.unput ++ []) lift.view ∙ ap (λ (l : List (ℕ × ℕ × ℕ)). l ++ []) runs.taken.owes.unput);
    put = ap (λ (v : OcrView). v.debts.put) whole.view ∙ (ap (λ (v : OcrView). v.debts.put ++ []) lift.view ∙ ap (λ (l : List (ℕ × ℕ × ℕ)). l ++ []) runs.taken.owes.put);
    made_is = ap (λ (v : OcrView). v.debts.made) whole.view ∙ (ap (λ (v : OcrView). v.debts.made ++ listed (counts table.1.limit entry old.view.parts)) lift.view ∙ ap (λ (l : List (ℕ × ℕ)). l ++ listed (counts table.1.limit entry old.view.parts)) runs.taken.owes.made);
    resumes = ap (λ (v : OcrView). v.debts.resumes) whole.view ∙ (ap (λ (v : OcrView). v.debts.resumes ++ wakes table.1.limit entry old.view.parts) lift.view ∙ ap (λ (l : List ℕ). l ++ wakes table.1.limit entry old.view.parts) runs.taken.owes.resumes);
    serves = serves_on table.1 first.view new.view edt whole.number entry b [] runs.serves refl log_is facts_are;
    core = after.core;
    rest = after.rest;
    keeps = whole.kept ∙ after.is;
    hand = whole.hand ∙ ap as_some after.is;
    running = after.running;
    places_are = turns_keys after.rest lift.taken after.same ∙ lift.places_are;
    sees = whole.sees;
  }

  core_was : (parts_in table.1.limit ps).core edt ≡ part.Core lift.core
  core_was = ap (λ (l : List (ℕ × Part)). (parts_in table.1.limit l).core edt) lift.parts ∙ first_core table.1.limit edt lift.core lift.taken within

  core_now : (parts_in table.1.limit whole.later).core edt ≡ part.Core after.core
  core_now = ap (λ (l : List (ℕ × Part)). (parts_in table.1.limit l).core edt) after.is ∙ first_core table.1.limit edt after.core after.rest within

  pub call_done : IsCalled edt c a first new
  call_done = record {
    log = ap (λ (l : List (ℕ × Entry)). own_log l edt) log_is ∙ own_call first.view.log whole.number edt home c a w;
    holds =
        ap (λ (l : List (ℕ × Option Part)). holds_in (first_in l)) (whole.hand ∙ ap as_some after.is)
        ∙ (call_holds table.1.limit (parts_in table.1.limit ps) (parts_in table.1.limit whole.later) edt home c a w lift.core after.core legal whole.step.parts core_was core_now
        ∙ ap (λ (l : List (ℕ × Option Part)). after_call c a (holds_in (first_in l))) (sym lift.was));
  }

-- where it was made
pub ok_both : {A E : Type 0} (r : Result A E) (P : Type 0) (Q R : A → Type 0) → OnOk r P → IfOk r Q → ((x : A) → P → Q x → R x) → IfOk r R
ok_both (Ok x) P Q R p q go = go x p q
ok_both (Err e) P Q R p q go = tt

pub ok_then : {A E : Type 0} (r : Result A E) (P Q : Type 0) → OnOk r P → (P → Q) → OnOk r Q
ok_then (Ok x) P Q p go = go p
ok_then (Err e) P Q p go = tt
