-- Loads and stores.
use Rattle.std.proofs.Common.{◌≡◌, ap, sym, subst, ◌∙◌, List, [], ℕ, refl}
use Rattle.ocr_body_meaning.specs.Behaviour.{Behaviour, Stops, Asked, IsNext, IsNextWith, IsTrace}
use Rattle.ocr_body_meaning.specs.Body.{Body, says, behaviour}
use Rattle.ocr_body_meaning.specs.Holds.{Access, Refused, Silent, Entered}
use Rattle.ocr_body_meaning.specs.Meaning.{State, Value, access_step}
use Rattle.ocr_body_meaning.specs.declared.call.BodyStop.{BodyStop}
use Rattle.ocr_body_meaning.specs.declared.call.Call.{Call}
use Rattle.ocr_body_steps.specs.Api.{HasValue, IsAccessed, IsAccessStop, IsNextWhereEntered, StoppedBy, by_body, answer_with}
use Rattle.ocr_body_steps.proofs.StoppedSteps.{says_more, stopped_by_refusal}

-- what was done has its value
pub accessed_value : (b : Body) (log later : List Asked) (found : Access) (made : Call) (now : State) (v : ℕ) → IsAccessed found made v log later
    → HasValue (says b log) (access_step found made now) v now (says b later)
accessed_value b log later (Refused s) made now v is = absurd is
accessed_value b log later (Silent x) made now v is = λ k was. ap (says b) is.1 ∙ was ∙ ap (λ (n : ℕ). k n now) (sym is.0)
accessed_value b log later Entered made now v is = λ k was. says_more b log later made [] (answer_with v) (λ a. k a.value now) is was

-- what was not done is a fault of the body, or was refused
pub accessed_stopped : (b : Body) (log later : List Asked) (found : Access) (made : Call) (now : State) (k : Value) (rose : Type 0) (s : BodyStop) → IsAccessStop found rose s → later ≡ log
    → says b log ≡ access_step found made now k → StoppedBy (says b later) rose s
accessed_stopped b log later (Refused r) made now k rose s is same was = by_body s (ap (says b) same ∙ was ∙ ap Stops (sym is))
accessed_stopped b log later (Silent x) made now k rose s is same was = stopped_by_refusal _ rose s is
accessed_stopped b log later Entered made now k rose s is same was = stopped_by_refusal _ rose s is

-- what is an entry comes next
pub accessed_next : (left : Behaviour) (found : Access) (made : Call) (now : State) (k : Value) → left ≡ access_step found made now k → IsNextWhereEntered found made left
accessed_next left found made now k was = λ is. subst (IsNextWith made []) (sym (was ∙ ap (λ (f : Access). access_step f made now k) is)) (refl, refl)

-- so the calls are still a trace
pub accessed_trace : (b : Body) (log later : List Asked) (found : Access) (made : Call) (now : State) (k : Value) (v : ℕ) → IsAccessed found made v log later
    → says b log ≡ access_step found made now k → IsTrace (behaviour b) log → IsTrace (behaviour b) later
accessed_trace b log later (Refused s) made now k v is was before = absurd is
accessed_trace b log later (Silent x) made now k v is was before = subst (IsTrace (behaviour b)) (sym is.1) before
accessed_trace b log later Entered made now k v is was before = subst (IsTrace (behaviour b)) (sym is) (before, subst (IsNext made) (sym was) refl)
