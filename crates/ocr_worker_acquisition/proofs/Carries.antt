-- A core that was made ready at hand, with the face of its EDT and a block.
use Rattle.std.proofs.Common.{◌≡◌, ◌≢◌, ℕ, ◌+◌, Bool, true, false, List, [], ◌∷◌, Option, Some, None, refl, ap, sym, ◌∙◌, subst}
use Rattle.ocr_base.proofs.Booleans.{same as number_same}
use Rattle.ocr_datablock.specs.Block as block
use Rattle.ocr_slots.specs.declared.Slot.{Slot}
use Rattle.ocr_machine_parts.specs.declared.part.Core.{Core}
use Rattle.ocr_machine_parts.specs.declared.part.Part.{Part}
use Rattle.ocr_machine_parts.specs.declared.part.Part.TheVariants as part
use Rattle.ocr_machine_parts.specs.Kinds.{next_in, progress_in}
use Rattle.ocr_machine_parts.specs.Taken.{is_within}
use Rattle.ocr_machine_parts.specs.Readiness.{plan_from, ready_with}
use Rattle.ocr_worker_machine.specs.Clerks.{OcrTerms, OcrView}
use Rattle.ocr_turns_rule.specs.Sums.{as_some, keys, replace}
use Rattle.ocr_worker_clerk.specs.Entry.{PlannedParts, OcrKnown}
use Rattle.ocr_worker_clerk.specs.Work.{KnowsPayloads}
use Rattle.ocr_worker_acquisition.specs.Block.{CarriesOut, pair_of}
use Rattle.ocr_worker_clerk.specs.Readiness.{PutAs}
use Rattle.ocr_worker_acquisition.specs.Acquisition.{IsAble, Meets, two_faces}
use Rattle.ocr_worker_acquisition.specs.declared.act.Act.{Act}
use Rattle.ocr_worker_clerk.proofs.Puts.{core_same, edt_same}
use Rattle.ocr_worker_acquisition.proofs.Takes.{core_found, face_found, item_is}

faces_are : (b : Bool) (t d : ℕ) (x y : Part) (slots : List Slot) (st : block.State) → x ≡ part.Edt slots → y ≡ part.Block st → pair_of b t d x y ≡ two_faces b t d slots st
faces_are true t d x y slots st p q = (λ i. (d, q i) ∷ (t, p i) ∷ [])
faces_are false t d x y slots st p q = (λ i. (t, p i) ∷ (d, q i) ∷ [])

face_keys : (b : Bool) (t d : ℕ) (slots : List Slot) (st : block.State) → keys (two_faces b t d slots st) ≡ keys (pair_of b t d part.Vacant part.Vacant)
face_keys true t d slots st = refl
face_keys false t d slots st = refl

put_at : (n : ℕ) (i : Option Part) (x : Part) (rest : List (ℕ × Option Part)) → replace n (Some x) (replace n None ((n, i) ∷ rest)) ≡ (n, Some x) ∷ rest
put_at n i x rest = ap (replace n (Some x)) (put_first n i None rest) ∙ put_first n None (Some x) rest
  where
    put_first : (n : ℕ) (i a : Option Part) (rest : List (ℕ × Option Part)) → replace n a ((n, i) ∷ rest) ≡ (n, a) ∷ rest
    put_first n i a rest = rw (number_same n) refl

pub meets_now : (t : OcrTerms) (edt d : ℕ) (first : Bool) (payloads : List ℕ) (a : Act) (h : PlannedParts) (old new : OcrKnown) (places : List ℕ) → edt ≢ d → is_within t.limit d ≡ true → CarriesOut t edt d first payloads a h old → new.view ≡ old.view
    → PutAs ready_with old.parts new.parts (t.limit + edt) edt payloads → (t.limit + edt) ∷ keys (pair_of first edt d part.Vacant part.Vacant) ≡ places → Meets t edt d a payloads places h new
meets_now t edt d first payloads a h old new places off wd carries same ready named =
    let k = carries.can.knows in let m = k.three in let may = carries.can.may in
    let slots_are : may.slots ≡ k.slots = edt_same may.slots k.slots (sym may.face_is ∙ k.face_is) in
    let core_is : may.item ≡ m.core = core_same may.item m.core (sym may.core_is) in
    let put_core : ready.core ≡ m.core = core_same ready.core m.core (item_is (t.limit + edt) old.parts (part.Core ready.core) (part.Core m.core) ready.core_there (core_found t edt d first old m off wd)) in
    let put_slots : ready.slots ≡ k.slots = edt_same ready.slots k.slots (item_is edt old.parts (part.Edt ready.slots) m.face ready.face_there (face_found t edt d first old m off wd) ∙ k.face_is) in
    let faces = faces_are first edt d m.face m.other k.slots may.state k.face_is may.other_is in
    let kept : new.view.parts ≡ (t.limit + edt, part.Core m.core) ∷ two_faces first edt d k.slots may.state = ap (λ (v : OcrView). v.parts) same ∙ (m.kept ∙ ap (λ (l : List (ℕ × Part)). (t.limit + edt, part.Core m.core) ∷ l) faces) in
    let made : ready_with may.slots payloads may.item ≡ ready_with k.slots payloads m.core = (λ i. ready_with (slots_are i) payloads (core_is i)) in
    let put : ready_with ready.slots payloads ready.core ≡ ready_with k.slots payloads m.core = (λ i. ready_with (put_slots i) payloads (put_core i)) in
    record {
      first = first;
      core = m.core;
      slots = k.slots;
      state = may.state;
      mode = may.mode;
      kept = kept;
      hand = ready.put
          ∙ (ap (λ (l : List (ℕ × Option Part)). replace (t.limit + edt) (Some (part.Core (ready_with ready.slots payloads ready.core))) (replace (t.limit + edt) None l)) m.hand
          ∙ (put_at (t.limit + edt) (Some (part.Core m.core)) (part.Core (ready_with ready.slots payloads ready.core)) (as_some (pair_of first edt d m.face m.other))
          ∙ (λ i. (t.limit + edt, Some (part.Core (put i))) ∷ as_some (faces i))));
      before = carries.hand ∙ ap (λ (v : OcrView). record { members = plan_from k.slots payloads; parts = v.parts }) (sym same);
      places_are = ap (λ (l : List (ℕ × Part)). keys l) kept ∙ (ap (λ (l : List ℕ). (t.limit + edt) ∷ l) (face_keys first edt d k.slots may.state) ∙ named);
      inside = wd;
      apart = off;
      count = k.count;
      facts = subst (λ (v : OcrView). KnowsPayloads v edt payloads) (sym same) k.facts;
      next = ap (λ (c : Core). next_in (progress_in c.edt)) (sym made) ∙ may.next;
      lets = may.lets;
      able = subst (λ (c : Core). IsAble a c) made may.able;
    }

pub ready_at_place : (old new : List (ℕ × Option Part)) (p q edt : ℕ) (payloads : List ℕ) → p ≡ q → PutAs ready_with old new p edt payloads → PutAs ready_with old new q edt payloads
ready_at_place old new p q edt payloads is ready = subst (λ (n : ℕ). PutAs ready_with old new n edt payloads) is ready
