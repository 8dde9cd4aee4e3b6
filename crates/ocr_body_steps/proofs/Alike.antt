-- A part of a body that comes to the same as another.
use Rattle.std.proofs.Common.{◌≡◌, ◌∙◌, ℕ, Result, Ok, Err, IfOk}
use Rattle.ocr_body_meaning.specs.Behaviour.{Behaviour}
use Rattle.ocr_body_meaning.specs.Meaning.{State, Value}
use Rattle.ocr_body_steps.specs.declared.local.Halt.{Halt}
use Rattle.ocr_body_steps.specs.Api.{HasValue, BeginsValue}

pub begins_alike : (left : Behaviour) (part other : Value → Behaviour) → ((k : Value) → part k ≡ other k) → BeginsValue left part → BeginsValue left other
begins_alike left part other alike begins = (begins.0, begins.1 ∙ alike begins.0)

pub has_alike : (before : Behaviour) (part other : Value → Behaviour) (st : State) (now : Behaviour) (r : Result ℕ Halt) → ((k : Value) → part k ≡ other k)
    → IfOk r (λ v. HasValue before other v st now) → IfOk r (λ v. HasValue before part v st now)
has_alike before part other st now (Ok v) alike has = λ k was. has k (was ∙ alike k)
has_alike before part other st now (Err e) alike has = has
