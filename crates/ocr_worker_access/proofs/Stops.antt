-- The Stops that a body says, and those of a body that makes an object.
use Rattle.std.proofs.Common.{◌≡◌, ℕ, reverse, true, sym, ◌∙◌, subst}
use Rattle.ocr_guid.specs.declared.Code.TheVariants.{Done}
use Rattle.ocr_body_meaning.specs.Behaviour.{IsNext, Stops}
use Rattle.ocr_body_meaning.specs.Body.{Body, says}
use Rattle.ocr_body_meaning.specs.Call.{is_creation}
use Rattle.ocr_body_meaning.specs.Laws as laws
use Rattle.ocr_body_meaning.specs.declared.call.BodyStop.{BodyStop}
use Rattle.ocr_body_meaning.specs.declared.call.BodyStop.TheVariants as stop
use Rattle.ocr_body_meaning.specs.declared.call.Call as body
use Rattle.ocr_machine_history.specs.declared.entry.Entry.TheVariants as an
use Rattle.ocr_machine_history.specs.declared.entry.Stop as run
use Rattle.ocr_machine_parts.specs.Codes.{code_of}
use Rattle.ocr_machine_parts.specs.Legal.{IsCreating, IsSaid, IsStop}
use Rattle.ocr_machine_parts.specs.Parts.{parts_of}
use Rattle.ocr_worker_machine.specs.Clerks.{Knows, OcrTerms, OcrView, of_terms}
use Rattle.ocr_worker_clerk.specs.Work.{IsOwnStop, MayStopSo}
use Rattle.ocr_worker_access.specs.Served.{Serves, own_log}
use Rattle.ocr_worker_access.specs.Stops.{stop_for}
use Rattle.ocr_worker_access.proofs.Served.{running_known, says_known}

module _ (t : OcrTerms) (v : OcrView) (edt : ℕ) (b : Body) (serves : Serves t v edt b) where
  pub stop_said : (e : BodyStop) → laws.IsSaid e → says b (own_log v.log edt) ≡ Stops e → Knows t v (λ J. IsSaid (of_terms t) (reverse J) (an.Stop (stop_for edt e)) × IsStop (of_terms t) (reverse J) (stop_for edt e))
  stop_said stop.Shutdown said is = λ J op fits. (says_known t v edt b J serves fits ∙ is, running_known t v edt b J serves fits)
  stop_said (stop.Abort c) said is = λ J op fits. (says_known t v edt b J serves fits ∙ is, running_known t v edt b J serves fits)
  stop_said stop.ZeroDivisor said is = λ J op fits. (says_known t v edt b J serves fits ∙ is, running_known t v edt b J serves fits)
  stop_said stop.BadIndex said is = λ J op fits. (says_known t v edt b J serves fits ∙ is, running_known t v edt b J serves fits)
  stop_said stop.NotHeld said is = λ J op fits. (says_known t v edt b J serves fits ∙ is, running_known t v edt b J serves fits)
  stop_said stop.NotWritable said is = λ J op fits. (says_known t v edt b J serves fits ∙ is, running_known t v edt b J serves fits)
  stop_said stop.Fuel said is = λ J op fits. (says_known t v edt b J serves fits ∙ is, running_known t v edt b J serves fits)
  stop_said other said is = absurd said

  -- AN OBJECT could be made next
  pub creating : (c : body.Call) → IsNext c (says b (own_log v.log edt)) → is_creation c ≡ true → Knows t v (λ J. code_of edt (parts_of (of_terms t) (reverse J)).face c ≡ Done) → Knows t v (λ J. IsCreating (of_terms t) (reverse J) edt c)
  creating c next creates done = λ J op fits. record {
    running = running_known t v edt b J serves fits;
    next = subst (IsNext c) (sym (says_known t v edt b J serves fits)) next;
    creation = creates;
    accepted = done J op fits;
  }

-- as a worker ends the run by it
pub stops_so : (t : OcrTerms) (v : OcrView) (edt : ℕ) (b : Body) → Serves t v edt b → (e : BodyStop) (why : run.Stop) → laws.IsSaid e → says b (own_log v.log edt) ≡ Stops e → why ≡ stop_for edt e → Knows t v (λ J. MayStopSo (of_terms t) (reverse J) why)
stops_so t v edt b serves e why said is same =
    subst (λ (w : run.Stop). Knows t v (λ J. MayStopSo (of_terms t) (reverse J) w)) (sym same)
    (λ J op fits. (let both = stop_said t v edt b serves e said is J op fits in record { said = both.0; cause = both.1 }))

own_for : (t : OcrTerms) (worker : ℕ) (v : OcrView) (edt : ℕ) (e : BodyStop) → laws.IsSaid e → IsOwnStop t worker v (stop_for edt e)
own_for t worker v edt stop.Shutdown said = tt
own_for t worker v edt (stop.Abort c) said = tt
own_for t worker v edt stop.ZeroDivisor said = tt
own_for t worker v edt stop.BadIndex said = tt
own_for t worker v edt stop.NotHeld said = tt
own_for t worker v edt stop.NotWritable said = tt
own_for t worker v edt stop.Fuel said = tt
own_for t worker v edt other said = absurd said

pub stop_own : (t : OcrTerms) (worker : ℕ) (v : OcrView) (edt : ℕ) (e : BodyStop) (why : run.Stop) → laws.IsSaid e → why ≡ stop_for edt e → IsOwnStop t worker v why
stop_own t worker v edt e why said same = subst (IsOwnStop t worker v) (sym same) (own_for t worker v edt e said)
