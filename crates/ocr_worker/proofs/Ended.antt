-- A clerk that knows that the run has ended, or reads so.
use Rattle.std.proofs.Common.{◌≡◌, ◌≤◌, ◌⊎◌, inl, inr, ℕ, suc, List, [], ◌∷◌, length, true, false, Option, Some, None, is_some, refl, sym, subst, ◌∙◌, ap}
use Rattle.std.specs.Prelude.{MatchOption}
use mathlib.Core.Option.{some}
use lib.ListN.{get_elem?}
use Rattle.std.specs.Option.{option_or}
use Rattle.ocr_worker_clerk.specs.Entry.{OcrKnown}
use Rattle.ocr_worker_clerk.specs.Work.{HasEnded, IsAway, IsOwnStop, OcrTable, stop_in, stop_of}
use Rattle.ocr_worker_machine.specs.Clerks.{OcrTerms, OcrView}
use Rattle.ocr_worker_machine.specs.Ocr.{meaning}
use Rattle.ocr_machine_history.specs.declared.entry.Entry.{Entry}
use Rattle.ocr_machine_history.specs.declared.entry.Entry.TheVariants as an
use Rattle.ocr_machine_history.specs.declared.entry.Stop as run
use Rattle.ocr_machine_history.specs.declared.entry.Stop.TheVariants as by
use Rattle.ocr_machine_history.specs.Weight.{weight_of}
use Rattle.ocr_machine_parts.specs.Legal.{is_stop}
use Rattle.ocr_turns_rule.specs.Contract.{ClosedBy, IsOfTable, SameHand}
use Rattle.ocr_turns_rule.specs.Meaning.{Open}
use Rattle.ocr_turns_rule.specs.Rule.{LogOf}
use Rattle.ocr_turns_rule.specs.Steps.{SeesEnd, SeesOpen, shut_by}
use Rattle.ocr_turns_rule.specs.Sums.{load_of}

-- THE SAME CLERK
pub same_known : (a b : OcrKnown) → SameHand a b → b.view ≡ a.view → b ≡ a
same_known a b same view = λ i. record {
  table = same.0 i;
  view = view i;
  parts = same.1 i;
  room = same.2.0 i;
  spare = same.2.1 i;
  space = same.2.2 i;
}

-- A STOP IN THE LOG
stop_here : (e : Entry) → (is_stop e ≡ true) ⊎ (stop_of e ≡ None)
stop_here (an.Stop why) = inl refl
stop_here other = inr refl

pub stop_at : (log : List (ℕ × Entry)) → is_some (stop_in log) ≡ true → (k n : ℕ) × (e : Entry) × (get_elem? log k ≡ some (n, e)) × (is_stop e ≡ true)
stop_at [] is = cc is
stop_at (x ∷ rest) is = elim (stop_here x.1) [
  | inl stops ↦ (0, x.0, x.1, refl, stops)
  | inr none ↦
      let later : is_some (stop_in rest) ≡ true = ap (λ (o : Option run.Stop). is_some (option_or o (stop_in rest))) (sym none) ∙ is in
      let r = stop_at rest later in (suc r.0, r.1, r.2, r.3, r.4)
]

-- so the run does not go on
pub never_open : (v : OcrView) (J : List Entry) → LogOf J v.log → Open is_stop J → is_some (stop_in v.log) ≡ true → ⊥
never_open v J log open_run is =
    let at = stop_at v.log is in
    let off = open_run at.1 at.2 (log at.0 at.1 at.2 at.3) in let on = at.4 in cc (on, off)

pub not_ended : (table : OcrTable) (c : OcrKnown) → IsOfTable table c → HasEnded c → c.view.closed ≡ None → SeesOpen meaning c.view → ⊥
not_ended table c of_table (inl closed) none sees = let off : is_some c.view.closed ≡ false = ap is_some none in cc (closed, off)
not_ended table c of_table (inr stopped) none sees =
    let seen = sees table.1 of_table.1 none in never_open c.view seen.0 seen.1.log seen.2 stopped

-- WHAT ITS LOG TELLS is the same once it knows
own_shut : (t : OcrTerms) (worker n : ℕ) (v : OcrView) (o : Option run.Stop) → MatchOption o (Unit {0}) (IsOwnStop t worker v) → MatchOption o (Unit {0}) (IsOwnStop t worker (shut_by v n))
own_shut t worker n v None own = tt
own_shut t worker n v (Some (by.Events w k)) own = own
own_shut t worker n v (Some by.Objects) own = record { edt = own.edt; call = own.call; known = own.known; few = own.few; reached = own.reached }
own_shut t worker n v (Some other) own = tt

left_as : (table : OcrTable) (worker : ℕ) (old new : OcrKnown) (v : OcrView) → new.table ≡ old.table → new.view ≡ v → IsAway table worker old → v.terms ≡ old.view.terms → v.drawn ≡ old.view.drawn → v.log ≡ old.view.log → v.weight ≡ old.view.weight
    → MatchOption (stop_in v.log) (Unit {0}) (IsOwnStop table.1 worker v) → IsAway table worker new
left_as table worker old new v same is left terms drawn log weight own =
    subst (λ (w : OcrView). IsAway table worker (record new { view = w })) (sym is) (record {
      of_table = (same ∙ left.of_table.0, terms ∙ left.of_table.1);
      few = subst (λ (ns : List ℕ). length ns ≤ 3) (sym drawn) left.few;
      weighs = weight ∙ (left.weighs ∙ ap (λ (l : List (ℕ × Entry)). load_of weight_of l) (sym log));
      light = subst (λ (k : ℕ). k ≤ table.1.share) (sym weight) left.light;
      own = own;
    })

pub left_told : (table : OcrTable) (worker n : ℕ) (old new : OcrKnown) → ClosedBy meaning n old new → IsAway table worker old → IsAway table worker new
left_told table worker n old new told left = by_answer old.view.closed told.2
  where
    by_answer : (o : Option ℕ) → MatchOption o ((new.view ≡ shut_by old.view n) × SeesEnd meaning new.view) (λ w. (w ≡ n) × (new.view ≡ old.view)) → IsAway table worker new
    by_answer None is = left_as table worker old new (shut_by old.view n) told.1.0 is.0 left refl refl refl refl (own_shut table.1 worker n old.view (stop_in old.view.log) left.own)
    by_answer (Some w) is = left_as table worker old new old.view told.1.0 is.1 left refl refl refl refl left.own
