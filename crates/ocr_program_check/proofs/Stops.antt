-- Where a walk stops.
use Rattle.std.proofs.Common.{◌≡◌, ℕ, Option, None, Result, Ok, Err, ◌∙◌, ap}
use Rattle.std.specs.Option.{option_or}
use Rattle.std.specs.Result.{IfErr}
use Rattle.ocr_program_check.specs.Checked.{Declarations, Outcome, told}
use Rattle.ocr_program_check.specs.Names.{IsStopIn, IsStopAt}
use Rattle.ocr_program_check.specs.declared.rules.CheckStop.{CheckStop}
use Rattle.ocr_program_check.specs.declared.rules.CheckStop.TheVariants.{Fault, NoMemory}
use Rattle.ocr_program_check.specs.declared.names.Names.{Names}

stop_same : (s t : Names) (o p : Outcome) (e : CheckStop) → t.function ≡ s.function → p ≡ o → IsStopIn t o e → IsStopIn s p e
stop_same s t o p (Fault fault) same is h = (is ∙ h.0, h.1 ∙ same)
stop_same s t o p NoMemory same is h = tt

-- a later place of the same function stops for it
pub stops_same : (s t : Names) (o p : Outcome) (r : Result (Unit {0}) CheckStop) → t.function ≡ s.function → p ≡ o → IfErr r (IsStopIn t o) → IfErr r (IsStopIn s p)
stops_same s t o p (Ok x) same is h = tt
stops_same s t o p (Err e) same is h = stop_same s t o p e same is h

-- a walk that stops in the first of two parts, or in the second where the first breaks no rule
pub first_stops : (number : ℕ) (a b : Option ℕ) (stop : CheckStop) → IsStopAt number a stop → IsStopAt number (option_or a b) stop
first_stops number a b (Fault fault) at = (ap (λ (o : Option ℕ). option_or o b) at.0, at.1)
first_stops number a b NoMemory at = tt

pub second_stops : (number : ℕ) (a b : Option ℕ) (stop : CheckStop) → a ≡ None → IsStopAt number b stop → IsStopAt number (option_or a b) stop
second_stops number a b (Fault fault) none at = (ap (λ (o : Option ℕ). option_or o b) none ∙ at.0, at.1)
second_stops number a b NoMemory none at = tt

pub second_ends : (number : ℕ) (a b : Option ℕ) (r : Result (Unit {0}) CheckStop) → a ≡ None → IfErr r (IsStopAt number b) → IfErr r (IsStopAt number (option_or a b))
second_ends number a b (Ok x) none at = tt
second_ends number a b (Err stop) none at = second_stops number a b stop none at

-- a part that lets no name stops where its rule does
pub told_stops : (s : Names) (k : Declarations) (rule : Option ℕ) (stop : CheckStop) → IsStopAt s.function rule stop → IsStopIn s (told k rule) stop
told_stops s k rule (Fault fault) at = (ap (told k) at.0, at.1)
told_stops s k rule NoMemory at = tt

pub told_ends : (s : Names) (k : Declarations) (rule : Option ℕ) (r : Result (Unit {0}) CheckStop) → IfErr r (IsStopAt s.function rule) → IfErr r (IsStopIn s (told k rule))
told_ends s k rule (Ok x) at = tt
told_ends s k rule (Err stop) at = told_stops s k rule stop at

-- the rule is the same
pub same_stop : (number : ℕ) (a b : Option ℕ) (stop : CheckStop) → b ≡ a → IsStopAt number a stop → IsStopAt number b stop
same_stop number a b (Fault fault) is at = (is ∙ at.0, at.1)
same_stop number a b NoMemory is at = tt
