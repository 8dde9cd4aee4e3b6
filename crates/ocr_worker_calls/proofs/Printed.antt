-- A print, which leaves the parts as they stand at hand.
use Rattle.std.proofs.Common.{◌≡◌, ℕ, ◌≤◌, List, [], ◌∷◌, take, Option, Some, refl, ap, sym, ◌∙◌, arith}
use Rattle.ocr_body_code.specs.declared.checked.Checked.{Checked}
use Rattle.ocr_body_meaning.specs.Behaviour.{IsNextWith}
use Rattle.ocr_body_meaning.specs.Body.{Body, says}
use Rattle.ocr_body_meaning.specs.declared.call.Call.TheVariants as call
use Rattle.ocr_machine_parts.specs.declared.part.Part.{Part}
use Rattle.ocr_turns_rule.specs.Sums.{as_some, keys, one_at, weigh}
use Rattle.ocr_turns_rule.proofs.Numbered.{weigh_keys}
use Rattle.ocr_worker_machine.specs.Clerks.{IsStep, OcrView}
use Rattle.ocr_worker_clerk.specs.Entry.{CanMake, PlannedParts, OcrKnown}
use Rattle.ocr_worker_clerk.specs.Work.{AtWork, EntersAs, OcrTable, in_hand, lifted}
use Rattle.ocr_worker_clerk.proofs.Entries.{turns_keys}
use Rattle.ocr_worker_clerk.proofs.Hands.{hand_keys, lifted_keys, replace_whole, some_keys}
use Rattle.ocr_worker_clerk.proofs.Whole.{lifted_length, lifted_work}
use Rattle.ocr_worker_calls.specs.Calls.{print_answer, print_entry}
use Rattle.ocr_worker_access.specs.Calls.{IsAnswer}
use Rattle.ocr_worker_access.specs.Access.{HasEntered, HasLifted, IsCalled, Runs}
use Rattle.ocr_worker_access.specs.Served.{own_log}
use Rattle.ocr_worker_access.proofs.Back.{runs_again}
use Rattle.ocr_worker_access.proofs.Called.{can_call}
use Rattle.ocr_worker_access.proofs.Entered.{call_done, call_leaves}

abbrev pub plain_hand : OcrKnown → PlannedParts
plain_hand c = record { members = []; parts = in_hand c.parts }

-- it leaves all
pub leaves_all : (limit edt value : ℕ) (ps : List (ℕ × Part)) → IsStep limit (print_entry edt value) [] ps ps []
leaves_all limit edt value ps = record { parts = refl; same_keys = refl; sends_are = refl }

first_alone : {A : Type 0} (x : ℕ × A) (rest : List (ℕ × A)) → keys rest ≡ [] → x ∷ rest ≡ take 1 (x ∷ rest)
first_alone x [] none = refl
first_alone x (y ∷ rest) none = cc none

module _ (table : OcrTable) (program : Checked) (edt : ℕ) (b : Body) (c : OcrKnown) (value : ℕ) (work : AtWork table program c) (runs : Runs table.1 edt b c) (next : IsNextWith (call.Print value) [] (says b (own_log c.view.log edt))) where
  pub at_hand : c.parts ≡ as_some (in_hand c.parts)
  at_hand = runs.hand ∙ sym (ap (λ (ps : List (ℕ × Option Part)). as_some (in_hand ps)) runs.hand)

  -- THE CLERK as it would be with its core lifted
  abbrev mid : OcrKnown
  mid = record c { parts = lifted c.parts }

  work_mid : AtWork table program mid
  work_mid = lifted_work table program c mid work refl refl (refl, refl, refl) (lifted_length c.parts)

  lift : HasLifted table.1 edt c mid [] [] (in_hand c.parts)
  lift = record {
    core = runs.core;
    kept = runs.kept;
    taken = [];
    is = runs.is;
    was = runs.hand;
    places_are = refl;
    view = λ i. record c.view { parts = runs.keeps i; drawn = runs.taken.drawn i };
    hand = ap (λ (ps : List (ℕ × Option Part)). lifted ps) runs.hand;
    parts = ap (λ (ps : List (ℕ × Option Part)). in_hand ps) runs.hand;
    sees = runs.sees;
  }

  answered : IsAnswer c.view (call.Print value) print_answer
  answered = record { drawn = runs.taken.drawn; refused = λ never. cc never; number = λ _. refl; scope = refl; output = refl }

  pub can_print : CanMake table.1 c.view (print_entry edt value) (plain_hand c) (in_hand c.parts)
  can_print = can_call table program edt b c mid 0 (call.Print value) print_answer [] [] (in_hand c.parts) work_mid runs refl lift next tt answered refl refl

  module _ (new : OcrKnown) (done : EntersAs table.1 c new (print_entry edt value) (plain_hand c)) where
    later_keys : keys (as_some done.later) ≡ keys c.parts
    later_keys = some_keys done.later ∙ (turns_keys done.later (in_hand c.parts) done.step.same_keys ∙ hand_keys c.parts at_hand)

    once : (p : ℕ) → weigh (one_at p) (as_some done.later) ≤ 1
    once p =
        let w = weigh_keys (one_at p) (as_some done.later) (in_hand c.parts) (later_keys ∙ sym (hand_keys c.parts at_hand)) in
        let o = can_print.may.at_hand.once p in omega (arith, w, o)

    as_lifted : EntersAs table.1 mid new (print_entry edt value) (plain_hand c)
    as_lifted = record {
      number = done.number;
      later = done.later;
      sent = done.sent;
      step = done.step;
      paid = done.paid;
      view = done.view;
      hand = done.hand ∙ (replace_whole (as_some done.later) c.parts later_keys once ∙ sym (replace_whole (as_some done.later) (lifted c.parts) (later_keys ∙ sym (lifted_keys c.parts)) once));
      sees = done.sees;
    }

    entered : HasEntered table.1 edt b new [] [] []
    entered = call_leaves table edt b c mid new 0 (call.Print value) print_answer [] (in_hand c.parts) runs lift can_print as_lifted

    of_table : new.view.terms ≡ Some table.1
    of_table = ap (λ (v : OcrView). v.terms) done.view ∙ work.of_table.1

    pub print_runs : Runs table.1 edt b new
    print_runs = runs_again table.1 edt b new new [] entered of_table
        (let alone = entered.keeps ∙ (first_alone _ entered.rest entered.places_are ∙ ap (take 1) (sym entered.keeps)) in ap (λ (ps : List (ℕ × Part)). record new.view { parts = ps }) alone)
        (entered.hand ∙ (first_alone _ (as_some entered.rest) (some_keys entered.rest ∙ entered.places_are) ∙ ap (take 1) (sym entered.hand)))

    pub print_done : IsCalled edt (call.Print value) print_answer c new
    print_done = call_done table edt b c mid new 0 (call.Print value) print_answer [] (in_hand c.parts) runs lift can_print as_lifted
