-- The last worker finds no EDT ready, and the run not ended.
use Rattle.std.proofs.Common.{◌≡◌, ℕ, List, length, refl, sym, ◌∙◌, ap, subst, Option, Some, None, MatchOption, Result, Ok, Err, OnOk}
use lib.ListN.{get_elem?}
use Rattle.atomic_table.proofs.Lists.{at_last}
use Rattle.ocr_worker.specs.Debts.{HasDelivered, IsAlone, IsAtRest, SeesQuiet}
use Rattle.ocr_worker.specs.Progress.{IsBetween}
use Rattle.ocr_worker_clerk.specs.Entry.{OcrKnown}
use Rattle.ocr_worker_clerk.specs.Work.{OcrTable, Stays}
use Rattle.ocr_body_code.specs.declared.checked.Checked.{Checked}
use Rattle.ocr_worker_machine.specs.Drained.{OwesNothing}
use Rattle.ocr_worker_machine.proofs.Quiet.{pass_law, rest_law}
use Rattle.ocr_worker_machine.specs.Clerks.{OcrView}
use Rattle.ocr_worker_machine.specs.Ocr.{meaning}
use Rattle.ocr_machine_history.specs.declared.entry.Entry.{Entry}
use Rattle.ocr_turns_rule.specs.Contract.{ClosedBy}
use Rattle.ocr_turns_rule.specs.Meaning.{Ended, Open}
use Rattle.ocr_turns_rule.specs.Steps.{SeesEnd, SeesOpen, shut_by}
use Rattle.ocr_turns_rule.proofs.Sole.{same_end}
use Rattle.ocr_worker.specs.Leave.{AllUnready}
use Rattle.ocr_worker.proofs.Unchanged.{lone}

pub on_ok : {T E : Type 0} (r : Result T E) (P Q : Type 0) → (P → Q) → OnOk r P → OnOk r Q
on_ok (Ok x) P Q f p = f p
on_ok (Err e) P Q f p = tt

pub alone_stays : (old new : OcrKnown) → Stays old new → IsAlone old → IsAlone new
alone_stays old new stays alone = record { root = stays.root ∙ alone.root; nobody_out = stays.out ∙ alone.nobody_out }

owes_nothing : (table : OcrTable) (program : Checked) (c : OcrKnown) → IsBetween table program c → HasDelivered c → OwesNothing c.view
owes_nothing table program c between delivered = record {
  delivered = delivered;
  put = between.idle.owes.unput;
  counted = between.idle.owes.put;
  made_counted = between.idle.owes.made;
  resumed = between.idle.owes.resumes;
  unclaimed = between.idle.claims;
}

sees_quiet : (table : OcrTable) (program : Checked) (c : OcrKnown) → IsBetween table program c → IsAlone c → HasDelivered c → AllUnready table.1.limit c → SeesOpen meaning c.view → SeesQuiet table c
sees_quiet table program c between alone delivered unready sees =
    let seen = sees table.1 between.rests.of_table.1 between.rests.is_open in record {
      history = seen.0;
      fits = seen.1;
      goes_on = seen.2;
      quiet = pass_law table.1 c.view seen.0 (lone table program c between alone) (owes_nothing table program c between delivered) seen.2 seen.1 unready;
    }

abbrev pub HasDrained : OcrTable → Checked → OcrKnown → Type 0
HasDrained table program c = IsBetween table program c × HasDelivered c × SeesQuiet table c

-- from the clerk before a pass, after it, and after the look
pub drained : (table : OcrTable) (program : Checked) (before after new : OcrKnown) → IsBetween table program before → IsAlone before → HasDelivered before → (after ≡ before) × AllUnready table.1.limit after → (new ≡ after) × SeesOpen meaning new.view → HasDrained table program new
drained table program before after new between alone delivered passed looked =
    let same : new ≡ before = looked.0 ∙ passed.0 in
    let now = subst (IsBetween table program) (sym same) between in
    let owed = subst HasDelivered (sym same) delivered in
    let sole = subst IsAlone (sym same) alone in
    let unready = subst (AllUnready table.1.limit) (sym looked.0) passed.1 in
    (now, owed, sees_quiet table program new now sole owed unready looked.1)

-- A QUIET RUN: nothing is owed
pub quiet_delivered : (table : OcrTable) (program : Checked) (c : OcrKnown) → IsBetween table program c → IsAtRest table c → HasDelivered c
quiet_delivered table program c between rest = (rest_law table.1 c.view rest.quiet.history (lone table program c between rest.alone) rest.quiet.fits rest.quiet.quiet).0

-- and the run has not ended
ended_open : (J : List Entry) → Open meaning.stops J → Ended meaning.stops J → ⊥
ended_open J open_run ended =
    let at = ap (λ (K : List Entry). get_elem? K (length ended.past)) ended.whole ∙ at_last ended.past ended.last (length ended.past) refl in
    let off = open_run (length ended.past) ended.last at in let on = ended.stop in cc (on, off)

told_end : (o : Option ℕ) (n : ℕ) (old new : OcrView) → o ≡ None → MatchOption o ((new ≡ shut_by old n) × SeesEnd meaning new) (λ w. (w ≡ n) × (new ≡ old)) → (new ≡ shut_by old n) × SeesEnd meaning new
told_end None n old new is told = told
told_end (Some w) n old new is told = cc is

pub never_closed : (table : OcrTable) (program : Checked) (word : ℕ) (c new : OcrKnown) → IsBetween table program c → IsAtRest table c → ClosedBy meaning word c new → ⊥
never_closed table program word c new between rest told =
    let t = table.1 in let alone = rest.alone in let quiet = rest.quiet in
    let shut = told_end c.view.closed word c.view new.view between.rests.is_open told.2 in
    let same = shut.0 in
    let seen = shut.1 t (ap (λ (v : OcrView). v.terms) same ∙ between.rests.of_table.1) in
    let one : quiet.history ≡ seen.0 = same_end meaning t c.view new.view quiet.history seen.0 (sym (ap (λ (v : OcrView). v.log) same)) (sym (ap (λ (v : OcrView). v.joined) same)) alone.root alone.nobody_out
    (ap (λ (v : OcrView). v.root) same ∙ alone.root) (ap (λ (v : OcrView). v.out) same ∙ alone.nobody_out) quiet.fits seen.1 in
    ended_open quiet.history quiet.goes_on (subst (Ended meaning.stops) (sym one) seen.1.ended)
