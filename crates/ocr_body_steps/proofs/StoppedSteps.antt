-- When a part of a body stops, and what is said once a call was answered.
use Rattle.std.proofs.Common.{◌≡◌, refl, Bool, true, false, if◌then◌else◌, ap, sym, subst, ◌∙◌, List, ◌∷◌, ℕ, ◌≤◌, arith}
use Rattle.ocr_body_meaning.specs.Meaning.{State, coded_call, state_after_answer}
use Rattle.ocr_body_meaning.specs.Holds.{Holds, private_of, is_done, after_call}
use Rattle.ocr_body_meaning.specs.Behaviour.{Behaviour, Stops, Asks, Asked, after_answer}
use Rattle.ocr_body_meaning.specs.declared.call.Call.{Call}
use Rattle.ocr_body_meaning.specs.declared.call.Call.TheVariants as call
use Rattle.ocr_body_meaning.specs.declared.call.Answer.{Answer}
use Rattle.ocr_body_meaning.specs.declared.call.BodyStop.{BodyStop}
use Rattle.ocr_body_meaning.specs.declared.call.BodyStop.TheVariants as stop
use Rattle.ocr_body_meaning.specs.Body.{Body, says}
use Rattle.ocr_base.specs.Count.{Rose}
use Rattle.ocr_body_steps.specs.Api.{HasValue, StoppedBy, by_closing, by_memory, by_body, IsRefusal, refused_closed, refused_memory}

-- a count that rose in a later part rose
pub stopped_later : (now : Behaviour) (a b c : ℕ) (e : BodyStop) → StoppedBy now (Rose b c) e → a ≤ b → StoppedBy now (Rose a c) e
stopped_later now a b c e (by_closing rose) le = by_closing (omega arith)
stopped_later now a b c e by_memory le = by_memory
stopped_later now a b c e (by_body s is) le = by_body s is

pub stopped_by_body : (now : Behaviour) (rose : Type 0) (e : BodyStop) → now ≡ Stops e → StoppedBy now rose e
stopped_by_body now rose e is = by_body e is

pub stopped_by_refusal : (now : Behaviour) (rose : Type 0) (e : BodyStop) → IsRefusal rose e → StoppedBy now rose e
stopped_by_refusal now rose e (refused_closed r) = by_closing r
stopped_by_refusal now rose e refused_memory = by_memory

pub stopped_by_memory : (now : Behaviour) (rose : Type 0) (e : BodyStop) → e ≡ stop.NoMemory → StoppedBy now rose e
stopped_by_memory now rose e is = subst (λ (s : BodyStop). StoppedBy now rose s) (sym is) by_memory

-- what is said once a call was answered
pub says_more : (b : Body) (log later : List Asked) (made : Call) (w : List (ℕ × ℕ)) (a : Answer) (next : Answer → Behaviour) → later ≡ record { call = made; answer = a } ∷ log
    → says b log ≡ Asks made w next → says b later ≡ next a
says_more b log later made w a next is was = ap (λ (l : List Asked). says b l) is ∙ ap (λ (d : Behaviour). after_answer a d) was

-- a call that has codes was answered
pub coded_value : (b : Body) (log later : List Asked) (made : Call) (outputs : List (List ℕ)) (a : Answer) (st now : State) (v : ℕ)
    → later ≡ record { call = made; answer = a } ∷ log → v ≡ a.value → now ≡ state_after_answer made outputs a st → HasValue (says b log) (coded_call made outputs st) v now (says b later)
coded_value b log later made outputs a st now v is value state =
    λ k was. says_more b log later made (private_of made st.holds) a (λ a. k a.value (state_after_answer made outputs a st)) is was ∙ (λ i. k (sym value i) (sym state i))

either : {A : Type 0} (b : Bool) (x : A) → (if b then x else x) ≡ x
either true x = refl
either false x = refl

-- a print changes nothing that is held
pub print_holds : (v : ℕ) (a : Answer) (holds : Holds) → after_call (call.Print v) a holds ≡ holds
print_holds v a holds = either (is_done a.code) holds
