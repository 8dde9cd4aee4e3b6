-- The private writes that a call carries: those of the hold that it ends.
use Rattle.std.proofs.Common.{◌≡◌, ℕ, Bool, true, false, if◌then◌else◌, [], Some, None, refl, ap}
use Rattle.ocr_body_meaning.specs.Holds.{Holds, private_in, private_of}
use Rattle.ocr_body_meaning.specs.declared.call.Call as body
use Rattle.ocr_body_meaning.specs.declared.call.Call.TheVariants as call
use Rattle.ocr_machine_parts.specs.Legal.{carried}
use Rattle.ocr_worker_calls.specs.Calls.{ended_in}

pub carried_is : (c : body.Call) (done : Bool) (holds : Holds) (d : ℕ) → (if done then ended_in c else None) ≡ Some d → carried done (private_of c holds) ≡ private_in (holds d)
carried_is (call.DbRelease e) true holds d is = let same : e ≡ d = cc is in ap (λ (n : ℕ). private_in (holds n)) same
carried_is (call.DbRelease e) false holds d is = cc is
carried_is (call.DbDestroy e) true holds d is = let same : e ≡ d = cc is in ap (λ (n : ℕ). private_in (holds n)) same
carried_is (call.DbDestroy e) false holds d is = cc is
carried_is other true holds d is = cc is
carried_is other false holds d is = cc is

pub carried_none : (c : body.Call) (done : Bool) (holds : Holds) → (if done then ended_in c else None) ≡ None → carried done (private_of c holds) ≡ []
carried_none (call.DbRelease e) true holds is = cc is
carried_none (call.DbDestroy e) true holds is = cc is
carried_none other true holds is = refl
carried_none c false holds is = refl
