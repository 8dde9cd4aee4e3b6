-- What a load or a store of a clerk that runs an EDT was found to come to.
use Rattle.std.proofs.Common.{◌≡◌, ℕ, List, [], ◌∷◌, Option, Some, refl, ap, sym, ◌∙◌, subst}
use Rattle.ocr_body_steps.specs.Api.{IsAccessed, answer_with}
use Rattle.ocr_body_meaning.specs.Behaviour.{Asked}
use Rattle.ocr_body_meaning.specs.Holds.{Access, Entered, Refused, Silent, load_of, store_of}
use Rattle.ocr_body_meaning.specs.declared.call.BodyStop.{BodyStop}
use Rattle.ocr_body_meaning.specs.declared.call.Call as body
use Rattle.ocr_machine_parts.specs.declared.part.Core.{Core}
use Rattle.ocr_machine_parts.specs.declared.part.Part.{Part}
use Rattle.ocr_machine_parts.specs.declared.part.Part.TheVariants as part
use Rattle.ocr_machine_parts.specs.Bodies.{holds_in}
use Rattle.ocr_worker_clerk.specs.Entry.{OcrKnown}
use Rattle.ocr_worker_access.specs.Accesses.{access_of}
use Rattle.ocr_worker_access.specs.declared.access.Found.{Found}
use Rattle.ocr_worker_access.specs.Access.{first_in, holds_at}

-- BY THE CORE at hand
holds_found : (c : OcrKnown) (place : ℕ) (core : Core) → c.parts ≡ (place, Some (part.Core core)) ∷ [] → holds_at c ≡ holds_in (part.Core core)
holds_found c place core is = ap (λ (l : List (ℕ × Option Part)). holds_in (first_in l)) is

pub load_found : (c : OcrKnown) (place d k : ℕ) (core : Core) (f g : Found) → c.parts ≡ (place, Some (part.Core core)) ∷ [] → access_of f ≡ load_of (holds_in (part.Core core) d) k → f ≡ g → load_of (holds_at c d) k ≡ access_of g
load_found c place d k core f g at is same = ap (λ h. load_of (h d) k) (holds_found c place core at) ∙ (sym is ∙ ap access_of same)

pub store_found : (c : OcrKnown) (place d k : ℕ) (core : Core) (f g : Found) → c.parts ≡ (place, Some (part.Core core)) ∷ [] → access_of f ≡ store_of (holds_in (part.Core core) d) k → f ≡ g → store_of (holds_at c d) k ≡ access_of g
store_found c place d k core f g at is same = ap (λ h. store_of (h d) k) (holds_found c place core at) ∙ (sym is ∙ ap access_of same)

-- IT IS DONE
pub silent_done : (found : Access) (made : body.Call) (v : ℕ) (log later : List Asked) → found ≡ Silent v → later ≡ log → IsAccessed found made v log later
silent_done found made v log later is same = subst (λ (a : Access). IsAccessed a made v log later) (sym is) (refl, same)

pub entered_done : (found : Access) (made : body.Call) (v : ℕ) (log later : List Asked) → found ≡ Entered → later ≡ record { call = made; answer = answer_with v } ∷ log → IsAccessed found made v log later
entered_done found made v log later is same = subst (λ (a : Access). IsAccessed a made v log later) (sym is) same

-- and no fault
pub silent_fits : (found : Access) (v : ℕ) (stop : BodyStop) → found ≡ Silent v → found ≡ Refused stop → ⊥
silent_fits found v stop is off = cc (is, off)

pub entered_fits : (found : Access) (stop : BodyStop) → found ≡ Entered → found ≡ Refused stop → ⊥
entered_fits found stop is off = cc (is, off)
