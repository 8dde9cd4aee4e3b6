-- What the body of an EDT says, by the view of the clerk that runs it.
use Rattle.std.proofs.Common.{◌≡◌, ℕ, List, reverse, length, refl, ap, sym, ◌∙◌, subst}
use Rattle.std.specs.Prelude.{slice_index_or}
use Rattle.ocr_body_meaning.specs.Behaviour.{Ends, IsNextWith}
use Rattle.ocr_body_meaning.specs.Body.{Body, says}
use Rattle.ocr_body_meaning.specs.Holds.{Holds, is_done, private_in}
use Rattle.ocr_body_meaning.specs.declared.call.Answer.{Answer}
use Rattle.ocr_body_meaning.specs.declared.call.Call as body
use Rattle.ocr_machine_history.specs.declared.entry.Entry.{Entry}
use Rattle.ocr_machine_history.specs.declared.entry.Entry.TheVariants.{Call, Free, End}
use Rattle.ocr_machine_history.specs.Edts.{IsRunning}
use Rattle.ocr_machine_history.specs.History.{own}
use Rattle.ocr_machine_parts.specs.Bodies.{body_of, says_next}
use Rattle.ocr_machine_parts.specs.Calls.{depc_of, link_calls, payloads_of, set_calls}
use Rattle.ocr_machine_parts.specs.Legal.{IsSaid, carried}
use Rattle.ocr_machine_laws.specs.Kept.{AreSet}
use Rattle.ocr_machine_laws.proofs.Filled.{all_payloads, set_from}
use Rattle.ocr_turns_rule.specs.Rule.{Fits}
use Rattle.ocr_worker_machine.specs.Clerks.{Knows, OcrTerms, OcrView, of_terms}
use Rattle.ocr_worker_machine.specs.Facts.{HasBegun, IsCount, IsPayload, Stands, body_by}
use Rattle.ocr_worker_machine.specs.Ocr.{meaning, stands}
use Rattle.ocr_worker_machine.specs.declared.fact.Fact.{Fact}
use Rattle.ocr_worker_machine.specs.declared.fact.Fact.TheVariants.{Count, IsSet, Began}
use Rattle.ocr_worker_access.specs.Served.{IsKnown, Serves, own_log}
use Rattle.ocr_worker_access.proofs.Own.{ended_by_log, own_by_log}

pub fact_stands : (t : OcrTerms) (v : OcrView) (J : List Entry) (f : Fact) → IsKnown v.facts f → Fits meaning t J v → Stands (of_terms t) (reverse J) f
unfolding stands
fact_stands t v J f known fits = fits.facts known.0 f known.1

-- THE BODY, whatever the history is
pub body_known : (t : OcrTerms) (v : OcrView) (edt : ℕ) (b : Body) (J : List Entry) → Serves t v edt b → Fits meaning t J v → body_of (of_terms t) (reverse J) edt ≡ b
body_known t v edt b J serves fits =
    let s = of_terms t in let past = reverse J in
    let began : HasBegun s past edt serves.face serves.core = fact_stands t v J (Began edt serves.face serves.core) serves.begun fits in
    let count : IsCount s past edt (length serves.face) = fact_stands t v J (Count edt (length serves.face)) serves.counted fits in
    let set : AreSet past edt serves.payloads = λ k lt. (let one : IsPayload past edt k (slice_index_or serves.payloads k 0) = fact_stands t v J (IsSet edt k (slice_index_or serves.payloads k 0)) (serves.set.set k lt) fits in one.payload) in
    let payloads : payloads_of s past edt ≡ serves.payloads = all_payloads (link_calls past edt) (set_calls past edt) (depc_of s past edt) 0 serves.payloads (serves.set.sizes ∙ sym count.count) (set_from past edt serves.payloads set) in
    began.body ∙ (ap (body_by s.program serves.face serves.core) payloads ∙ sym serves.body)

pub says_known : (t : OcrTerms) (v : OcrView) (edt : ℕ) (b : Body) (J : List Entry) → Serves t v edt b → Fits meaning t J v → says_next (of_terms t) (reverse J) edt ≡ says b (own_log v.log edt)
says_known t v edt b J serves fits =
    ap (λ (x : Body). says x (own (reverse J) edt)) (body_known t v edt b J serves fits)
    ∙ ap (says b) (own_by_log J v.log edt (fits.own edt serves.runs))

pub running_known : (t : OcrTerms) (v : OcrView) (edt : ℕ) (b : Body) (J : List Entry) → Serves t v edt b → Fits meaning t J v → IsRunning (reverse J) edt
running_known t v edt b J serves fits =
    let began : HasBegun (of_terms t) (reverse J) edt serves.face serves.core = fact_stands t v J (Began edt serves.face serves.core) serves.begun fits in
    record { started = began.started; not_ended = ended_by_log J v.log edt (fits.own edt serves.runs) ∙ serves.runs.goes_on }

-- WHAT IT SAYS: its next call, with the private writes of the hold that it ends
pub call_said : (t : OcrTerms) (v : OcrView) (edt : ℕ) (b : Body) (c : body.Call) (a : Answer) (private : List (ℕ × ℕ)) → Serves t v edt b → IsNextWith c private (says b (own_log v.log edt))
    → Knows t v (λ J. IsSaid (of_terms t) (reverse J) (Call edt 0 c a (carried (is_done a.code) private)))
call_said t v edt b c a private serves next = λ J op fits. (private, subst (IsNextWith c private) (sym (says_known t v edt b J serves fits)) next, refl)

-- its end
pub free_said : (t : OcrTerms) (v : OcrView) (edt d g : ℕ) (b : Body) (holds : Holds) → Serves t v edt b → says b (own_log v.log edt) ≡ Ends g holds
    → Knows t v (λ J. IsSaid (of_terms t) (reverse J) (Free edt d (private_in (holds d))))
free_said t v edt d g b holds serves is = λ J op fits. (g, holds, says_known t v edt b J serves fits ∙ is, refl)

pub end_said : (t : OcrTerms) (v : OcrView) (edt g : ℕ) (b : Body) (holds : Holds) → Serves t v edt b → says b (own_log v.log edt) ≡ Ends g holds
    → Knows t v (λ J. IsSaid (of_terms t) (reverse J) (End edt g))
end_said t v edt g b holds serves is = λ J op fits. (holds, says_known t v edt b J serves fits ∙ is)
