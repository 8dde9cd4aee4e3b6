-- What is sent is sound: it carries NULL_GUID or a block, and reaches a slot. So is what events keep.
use Rattle.std.proofs.Common.{◌≡◌, inl, inr, ℕ, suc, ◌+◌, ◌≤◌, nat_lt, List, [], ◌∷◌, length, map, Bool, true, false, not, ◌||◌, ◌&&◌, ◌==◌, if◌then◌else◌, Option, Some, None, refl, sym, ◌∙◌, ap, subst, arith}
use Rattle.std.proofs.lemmas.Bool.{eqb-true, or_parts, not-false}
use Rattle.std.proofs.lemmas.Grind.{common_steps}
use Rattle.ocr_base.specs.Mail as mail
use Rattle.ocr_guid.specs.Target.{sent_by_firing, sent_by_linking}
use Rattle.ocr_guid.specs.declared.Code.TheVariants as code
use Rattle.ocr_guid.specs.declared.target.Target.{Target as Reached}
use Rattle.ocr_guid.specs.declared.target.Satisfied.{Satisfied}
use Rattle.ocr_guid.specs.declared.target.Satisfied.TheVariants as answer
use Rattle.ocr_guid.specs.declared.target.Linked.{Linked}
use Rattle.ocr_guid.specs.declared.target.Linked.TheVariants as link
use Rattle.std.specs.List.{Contains}
use Rattle.ocr_slots.specs.Slots as slot
use Rattle.ocr_slots.specs.declared.Slot.{Slot}
use Rattle.ocr_datablock.specs.Block as block
use Rattle.ocr_template.specs.declared.Template.{Template}
use Rattle.ocr_event_any.specs.declared.AnyEvent.{AnyEvent}
use Rattle.ocr_event_any.specs.declared.AnyEvent.TheVariants as any
use Rattle.ocr_event_any.specs.AnyEvent as event
use Rattle.ocr_event_any.proofs.Targets.{targets, reached, satisfy_targets, link_targets, stale_targets, destroy_targets, gone_targets, new_targets}
use Rattle.ocr_body_meaning.specs.Holds.{is_done}
use Rattle.ocr_body_meaning.specs.declared.call.Call as body
use Rattle.ocr_body_meaning.specs.declared.call.Call.TheVariants as call
use Rattle.ocr_body_meaning.specs.declared.call.Answer.{Answer}
use Rattle.ocr_machine_history.specs.declared.entry.Entry.{Entry}
use Rattle.ocr_machine_history.specs.declared.entry.Entry.TheVariants.{Call, Deliver, Acquire, Wait, Free, End}
use Rattle.ocr_machine_history.specs.declared.entry.What.{What}
use Rattle.ocr_machine_history.specs.declared.entry.What.TheVariants as what
use Rattle.ocr_machine_history.specs.History.{History, Setting}
use Rattle.ocr_machine_history.specs.Made.{Made, MadeEvent, MadeScope, made, opened}
use Rattle.ocr_machine_parts.specs.declared.part.Part.{Part}
use Rattle.ocr_machine_parts.specs.declared.part.Part.TheVariants as part
use Rattle.ocr_machine_parts.specs.Calls.{is_given, is_object, slot_target, target_of, link_calls, block_calls, event_calls, scope_calls}
use Rattle.ocr_machine_parts.specs.Parts.{Parts, face, parts_of}
use Rattle.ocr_machine_parts.specs.Kinds.{is_block, is_event, is_edt_face, identity_on, home_on, with_block, with_links, with_template, with_event, with_scope}
use Rattle.ocr_machine_parts.specs.Codes.{Source, Target, ATemplate, AnEvent, ABlock, has_kind, is_any, is_of_other_kind, code_of, slot_most, is_unfit, dependence_code, brings_block, wanted_source, wanted_sources, wanted_payload}
use Rattle.ocr_machine_parts.specs.Effects.{with_named, with_beside, new_scope, new_output, joined, new_face, deps_linked, called, brought, changed}
use Rattle.ocr_machine_parts.specs.Progress.{with_face, linked_if, readied_on}
use Rattle.ocr_machine_parts.specs.LegalOn.{IsSatisfiable}
use Rattle.ocr_machine_parts.specs.Legal.{IsRun, IsLegal}
use Rattle.ocr_machine_parts.specs.Messages.{what_to, carried_by, satisfied, linked, linked_by, dep_sends, sent_by, satisfy_some, leave_some, sent_if_done, sent_by_leave, sent_by_message, payload_of_end, sent_by_end, sends, delivered, pending}
use Rattle.ocr_machine_parts.proofs.After.{after_law, accepted, done_is}
use Rattle.ocr_machine_laws.specs.Sent.{IsSoundPayload, IsSoundMessage, SentLaw}
use Rattle.ocr_machine_laws.proofs.Choices.{done_kinds}
use Rattle.ocr_machine_laws.proofs.Each.{Each, each_from, each_joined, each_front, each_back, each_mapped, each_at}
use Rattle.ocr_machine_laws.proofs.Payloads.{payloads_in, new_payloads, satisfied_payloads, linked_payloads, destroyed_payloads, IsNow, now_given}
use Rattle.ocr_machine_laws.proofs.Quietness.{Faces, IsLasting, AreLasting, lasts}
use Rattle.ocr_machine_laws.proofs.Homes.{NamesScope, NamesEvent, IsSoundIdentity, IsSoundScope, core_identity, scope_law}
use Rattle.ocr_machine_parts.proofs.Beside.{named_keeps, joined_keeps}
use Rattle.ocr_edt.specs.declared.Identity.{Identity}
use Rattle.ocr_finish.specs.Scope as scope
use Rattle.ocr_finish.specs.declared.Leaving.{Leaving}
use Rattle.ocr_finish.specs.declared.Leaving.TheVariants as leaving
use Rattle.ocr_guid.specs.Target.{EventCall}
use Rattle.ocr_machine_history.specs.declared.objects.TheConstants.{OUTPUT_KIND, OUTPUT_FLAGS}

-- A TARGET is a slot of an EDT, or one of an event that has it
abbrev pub IsSlot : Bool → ℕ → Part → Type 0
IsSlot true i x = Unit {0}
IsSlot false i x = IsSatisfiable i x

abbrev pub IsAimed : Faces → Reached → Type 0
IsAimed f t = IsSlot t.is_edt t.slot (f t.object)

-- what an event keeps is sound
abbrev pub IsSoundPart : Faces → Part → Type 0
IsSoundPart f (part.Event st) = Each (IsSoundPayload f) (payloads_in st) × Each (IsAimed f) (targets st)
IsSoundPart f other = Unit {0}

-- what is sound stays sound
pub given_lasts : (f h : Faces) → AreLasting f h → (p : ℕ) → IsSoundPayload f p → IsSoundPayload h p
given_lasts f h last p (inl null) = inl null
given_lasts f h last p (inr is) = inr ((last p).block is)

slot_lasts : (b : Bool) (i : ℕ) (x y : Part) → IsLasting x y → IsSlot b i x → IsSlot b i y
slot_lasts true i x y last is = tt
slot_lasts false i x y last is = last.slots i is

aim_lasts : (f h : Faces) → AreLasting f h → (t : Reached) → IsAimed f t → IsAimed h t
aim_lasts f h last t is = slot_lasts t.is_edt t.slot (f t.object) (h t.object) (last t.object) is

part_lasts : (f h : Faces) → AreLasting f h → (x : Part) → IsSoundPart f x → IsSoundPart h x
part_lasts f h last (part.Event st) is = (each_from (IsSoundPayload f) (IsSoundPayload h) (given_lasts f h last) (payloads_in st) is.0, each_from (IsAimed f) (IsAimed h) (aim_lasts f h last) (targets st) is.1)
part_lasts f h last other is = tt

message_lasts : (f h : Faces) → AreLasting f h → (w : What) → IsSoundMessage f w → IsSoundMessage h w
message_lasts f h last (what.Set x i p) is = given_lasts f h last p is
message_lasts f h last (what.Satisfy e i p) is = (given_lasts f h last p is.0, (last e).slots i is.1)
message_lasts f h last (what.Leave x) is = (last x).scope is

-- MESSAGES that an event sends
to_sound : (f : Faces) (pair : ℕ × Reached) → IsSoundPayload f pair.0 × IsAimed f pair.1 → IsSoundMessage f (what_to pair)
to_sound f pair is = elim pair.1.is_edt as (λ b. IsSlot b pair.1.slot (f pair.1.object) → IsSoundMessage f (if b then what.Set pair.1.object pair.1.slot pair.0 else what.Satisfy pair.1.object pair.1.slot pair.0)) [
  | true ↦ λ _. is.0
  | false ↦ λ aimed. (is.0, aimed)
] is.1

fired_sound : (f : Faces) (p : ℕ) (s : Satisfied) → IsSoundPayload f p → Each (IsAimed f) (reached s) → Each (IsSoundMessage f) (map what_to (sent_by_firing p s))
fired_sound f p (answer.Fired ts) given aims =
    each_mapped (λ (pair : ℕ × Reached). IsSoundPayload f pair.0 × IsAimed f pair.1) (IsSoundMessage f) what_to (to_sound f) (map (λ (t : Reached). (p, t)) ts)
    (each_mapped (IsAimed f) (λ (pair : ℕ × Reached). IsSoundPayload f pair.0 × IsAimed f pair.1) (λ (t : Reached). (p, t)) (λ t aim. (given, aim)) ts aims)
fired_sound f p other given aims = tt

linking_sound : (f : Faces) (t : Reached) (l : Linked) → IsNow (IsSoundPayload f) l → IsAimed f t → Each (IsSoundMessage f) (map what_to (sent_by_linking t l))
linking_sound f t (link.Now p) given aim = (to_sound f (p, t) (given, aim), tt)
linking_sound f t other given aim = tt

carried_given : (f : Faces) (st : AnyEvent) (p : ℕ) → IsSoundPayload f p → IsSoundPayload f (carried_by st p)
carried_given f (any.Latch st) p is = inl refl
carried_given f other p is = is

satisfied_sound : (f : Faces) (x : Part) (i p : ℕ) → IsSoundPayload f p → IsSoundPart f x → Each (IsSoundMessage f) (satisfied x i p)
satisfied_sound f (part.Event st) i p given is =
    fired_sound f (carried_by st p) (event.on_satisfy st i p) (carried_given f st p given)
    (each_front (IsAimed f) (reached (event.on_satisfy st i p)) (targets (event.after_satisfy st i p)) (subst (Each (IsAimed f)) (sym (satisfy_targets st i p)) is.1))
satisfied_sound f other i p given is = tt

linked_sound : (f : Faces) (x : Part) (d : ℕ) (t : Reached) → has_kind Source x ≡ true → (is_block x ≡ true → is_block (f d) ≡ true) → IsSoundPart f x → IsAimed f t → Each (IsSoundMessage f) (linked x d t)
linked_sound f (part.Event st) d t kind block is aim = linking_sound f t (event.on_link st) (now_given (IsSoundPayload f) st is.0) aim
linked_sound f (part.Block st) d t kind block is aim = (to_sound f (d, t) (inr (block refl), aim), tt)
linked_sound f other d t kind block is aim = cc kind

-- STEPS of an event
satisfied_part : (f : Faces) (x : Part) (i p : ℕ) → IsSoundPayload f p → IsSoundPart f x → IsSoundPart f (with_event x (λ st. event.after_satisfy st i p))
satisfied_part f (part.Event st) i p given is = (
  satisfied_payloads (IsSoundPayload f) st i p is.0 given,
  each_back (IsAimed f) (reached (event.on_satisfy st i p)) (targets (event.after_satisfy st i p)) (subst (Each (IsAimed f)) (sym (satisfy_targets st i p)) is.1),
)
satisfied_part f other i p given is = tt

linked_aims : (f : Faces) (st : AnyEvent) (t : Reached) (b : Bool) → event.is_destroyed st ≡ b → IsAimed f t → Each (IsAimed f) (targets st) → Each (IsAimed f) (targets (event.after_link st t))
linked_aims f st t true gone aim aims = each_front (IsAimed f) (targets (event.after_link st t)) _ (subst (Each (IsAimed f)) (sym (stale_targets st t gone)) aims)
linked_aims f st t false live aim aims = each_front (IsAimed f) (targets (event.after_link st t)) _ (subst (Each (IsAimed f)) (sym (link_targets st t live)) (each_joined (IsAimed f) (targets st) (t ∷ []) aims (aim, tt)))

linked_part : (f : Faces) (x : Part) (t : Reached) → IsAimed f t → IsSoundPart f x → IsSoundPart f (with_event x (λ st. event.after_link st t))
linked_part f (part.Event st) t aim is = (linked_payloads (IsSoundPayload f) st t is.0, linked_aims f st t (event.is_destroyed st) refl aim is.1)
linked_part f other t aim is = tt

destroyed_aims : (f : Faces) (st : AnyEvent) (b : Bool) → event.is_destroyed st ≡ b → Each (IsAimed f) (targets st) → Each (IsAimed f) (targets (event.after_destroy st))
destroyed_aims f st true gone aims = subst (Each (IsAimed f)) (sym (gone_targets st gone)) aims
destroyed_aims f st false live aims = subst (Each (IsAimed f)) (sym (destroy_targets st live)) tt

destroyed_part : (f : Faces) (x : Part) → IsSoundPart f x → IsSoundPart f (with_event x event.after_destroy)
destroyed_part f (part.Event st) is = (destroyed_payloads (IsSoundPayload f) st is.0, destroyed_aims f st (event.is_destroyed st) refl is.1)
destroyed_part f other is = tt

new_part : (f : Faces) (k fl most : ℕ) → IsSoundPart f (part.Event (event.state_of k fl most []))
new_part f k fl most = (subst (Each (IsSoundPayload f)) (sym (new_payloads k fl most)) tt, subst (Each (IsAimed f)) (sym (new_targets k fl most)) tt)

-- other parts keep nothing
block_part : (f : Faces) (x : Part) (step : block.State → block.State) → IsSoundPart f x → IsSoundPart f (with_block x step)
block_part f (part.Block st) step is = tt
block_part f other step is = is

links_part : (f : Faces) (x : Part) (step : List Slot → List Slot) → IsSoundPart f x → IsSoundPart f (with_links x step)
links_part f (part.Edt slots) step is = tt
links_part f other step is = is

template_part : (f : Faces) (x : Part) (step : Template → Template) → IsSoundPart f x → IsSoundPart f (with_template x step)
template_part f (part.Template t) step is = tt
template_part f other step is = is

scope_part : (f : Faces) (x : Part) (step : scope.State → scope.State) → IsSoundPart f x → IsSoundPart f (with_scope x step)
scope_part f (part.Scope st) step is = tt
scope_part f other step is = is

edt_part : (f : Faces) (x : Part) (dc : ℕ) (ds : List ℕ) → IsSoundPart f (new_face x dc ds)
edt_part f (part.Template t) dc ds = tt
edt_part f other dc ds = tt

-- ALL PARTS
abbrev pub AreSoundParts : Faces → Parts → Type 0
AreSoundParts f h = (g : ℕ) → IsSoundPart f (h.face g)

sound_at : (f : Faces) (h : Parts) (d : ℕ) (y : Part) → IsSoundPart f y → AreSoundParts f h → AreSoundParts f (with_face h d y)
sound_at f h d y is are g = elim (d == g) as (λ b. IsSoundPart f (if b then y else h.face g)) [ true ↦ is | false ↦ are g ]

linked_parts : (f : Faces) (b : Bool) (d : ℕ) (t : Reached) (h : Parts) → IsAimed f t → AreSoundParts f h → AreSoundParts f (linked_if b d t h)
linked_parts f true d t h aim are = sound_at f h d _ (linked_part f (h.face d) t aim (are d)) are
linked_parts f false d t h aim are = are

deps_parts : (f : Faces) (t k : ℕ) (ds : List ℕ) (h : Parts) → AreSoundParts f h → AreSoundParts f (deps_linked t k ds h)
deps_parts f t k [] h are = are
deps_parts f t k (d ∷ rest) h are = deps_parts f t (k + 1) rest (linked_if (is_object d) d (slot_target t k) h) (linked_parts f (is_object d) d (slot_target t k) h tt are)

beside_parts : (f : Faces) (home : ℕ) (a : Answer) (h : Parts) → AreSoundParts f h → AreSoundParts f (with_beside h home a)
beside_parts f home a h are =
    let one : AreSoundParts f (with_named h a.output new_output) = named_keeps (AreSoundParts f) h a.output new_output are (λ _. sound_at f h a.output new_output (new_part f OUTPUT_KIND OUTPUT_FLAGS 0) are) in
    named_keeps (AreSoundParts f) (with_named h a.output new_output) a.scope (new_scope home a) one (λ _. sound_at f (with_named h a.output new_output) a.scope (new_scope home a) tt one)

joined_parts : (f : Faces) (c : body.Call) (home : ℕ) (h : Parts) → AreSoundParts f h → AreSoundParts f (joined c home h)
joined_parts f c home h are = joined_keeps (AreSoundParts f) c home h are (λ _. sound_at f h home _ (scope_part f (h.face home) scope.after_join (are home)) are)

-- AN ACCEPTED CALL finds what it names to be of its kind
payload_given : (f : Faces) (p : ℕ) → is_any is_of_other_kind f (wanted_payload p) ≡ false → IsSoundPayload f p
payload_given f p off = elim (p == 0) as (λ b. (p == 0) ≡ b → is_any is_of_other_kind f (if b then [] else (p, ABlock) ∷ []) ≡ false → IsSoundPayload f p) [
  | true ↦ λ null _. inl (eqb-true p 0 null)
  | false ↦ λ _ off. inr (not-false (is_block (f p)) (or_parts (not (is_block (f p))) false off).0)
] refl off

satisfied_given : (t : ℕ) (f : Faces) (e p i : ℕ) → code_of t f (call.Satisfy e p i) ≡ code.Done → IsSoundPayload f p
satisfied_given t f e p i is = payload_given f p (or_parts (is_of_other_kind AnEvent (f e)) _ (done_kinds t f (call.Satisfy e p i) is)).1

not_above : (n m : ℕ) → nat_lt n m ≡ false → m ≤ n
not_above n m off = grind (arith, common_steps)

depended_slot : (brings : Bool) (x : Part) (i m : ℕ) → has_kind Target x ≡ true → dependence_code brings x i m ≡ code.Done → IsSlot (is_edt_face x) i x
depended_slot brings (part.Edt slots) i m kind is = tt
depended_slot brings (part.Event st) i m kind is = elim (nat_lt (slot_most st) i) as (λ b. nat_lt (slot_most st) i ≡ b → (if b || is_unfit brings st then code.Einval else code.Done) ≡ code.Done → i ≤ slot_most st) [
  | true ↦ λ _ is. cc is
  | false ↦ λ off _. not_above (slot_most st) i off
] refl is
depended_slot brings other i m kind is = cc kind

depended_aim : (t : ℕ) (f : Faces) (from x i m : ℕ) → code_of t f (call.AddDependence from x i m) ≡ code.Done → IsAimed f (target_of (is_edt_face (f x)) x i)
depended_aim t f from x i m is =
    depended_slot (brings_block f from) (f x) i m (not-false _ (or_parts (is_of_other_kind Target (f x)) _ (done_kinds t f (call.AddDependence from x i m) is)).0) (accepted t f (call.AddDependence from x i m) is)

-- WHAT A CALL SENDS
depended_sound : (f : Parts) (from : ℕ) (to : Reached) → is_any is_of_other_kind f.face (wanted_source from) ≡ false → AreSoundParts f.face f → IsAimed f.face to → Each (IsSoundMessage f.face) (linked_by (not (from == 0)) from to f)
depended_sound f from to off are aim = elim (from == 0) as (λ b. (from == 0) ≡ b → is_any is_of_other_kind f.face (if b then [] else (from, Source) ∷ []) ≡ false → Each (IsSoundMessage f.face) (linked_by (not b) from to f)) [
  | true ↦ λ null _. (to_sound f.face (from, to) (inl (eqb-true from 0 null), aim), tt)
  | false ↦ λ _ off. linked_sound f.face (f.face from) from to (not-false _ (or_parts (is_of_other_kind Source (f.face from)) false off).0) (λ is. is) (are from) aim
] refl off

-- a link leaves each object of its kind
abbrev AreOfKinds : Faces → Parts → Type 0
AreOfKinds f h = (g : ℕ) → (is_block (h.face g) ≡ is_block (f g)) × (is_event (h.face g) ≡ is_event (f g))

linked_kind : (x : Part) (t : Reached) → (is_block (with_event x (λ st. event.after_link st t)) ≡ is_block x) × (is_event (with_event x (λ st. event.after_link st t)) ≡ is_event x)
linked_kind (part.Event st) t = (refl, refl)
linked_kind other t = (refl, refl)

linked_kinds : (f : Faces) (b : Bool) (d : ℕ) (t : Reached) (h : Parts) → AreOfKinds f h → AreOfKinds f (linked_if b d t h)
linked_kinds f true d t h are g = elim (d == g) as (λ b. (d == g) ≡ b → (is_block (if b then with_event (h.face d) (λ st. event.after_link st t) else h.face g) ≡ is_block (f g)) × (is_event (if b then with_event (h.face d) (λ st. event.after_link st t) else h.face g) ≡ is_event (f g))) [
  | true ↦ λ here.
      let kind = linked_kind (h.face d) t in
      let e : d ≡ g = eqb-true d g here in
      (kind.0 ∙ (are d).0 ∙ ap (λ (n : ℕ). is_block (f n)) e, kind.1 ∙ (are d).1 ∙ ap (λ (n : ℕ). is_event (f n)) e)
  | false ↦ λ _. are g
] refl
linked_kinds f false d t h are g = are g

null_given : (d : ℕ) → is_given d ≡ true → is_object d ≡ false → d ≡ 0
null_given d given off = elim (d == 0) as (λ b. (d == 0) ≡ b → (is_given d && not b) ≡ false → d ≡ 0) [
  | true ↦ λ null _. eqb-true d 0 null
  | false ↦ λ _ off. absurd (let both : (is_given d && true) ≡ true = rw given refl in cc (both, off))
] refl off

deps_sound : (f : Faces) (t k : ℕ) (ds : List ℕ) (h : Parts) → is_any is_of_other_kind f (wanted_sources ds) ≡ false → AreOfKinds f h → AreSoundParts f h → Each (IsSoundMessage f) (dep_sends t k ds h)
deps_sound f t k [] h off kinds are = tt
deps_sound f t k (d ∷ rest) h off kinds are =
    let to : Reached = slot_target t k in
    let next : Parts = linked_if (is_object d) d to h in
    let later : is_any is_of_other_kind f (wanted_sources rest) ≡ false → Each (IsSoundMessage f) (dep_sends t (k + 1) rest next) =
    λ off. deps_sound f t (k + 1) rest next off (linked_kinds f (is_object d) d to h kinds) (linked_parts f (is_object d) d to h tt are) in
    each_joined (IsSoundMessage f) (if is_given d then linked_by (is_object d) d to h else []) (dep_sends t (k + 1) rest next)
    (elim (is_given d) as (λ b. is_given d ≡ b → Each (IsSoundMessage f) (if b then linked_by (is_object d) d to h else [])) [
      | true ↦ λ given. elim (is_object d) as (λ b. is_object d ≡ b → is_any is_of_other_kind f (if b then (d, Source) ∷ wanted_sources rest else wanted_sources rest) ≡ false → Each (IsSoundMessage f) (linked_by b d to h)) [
        | true ↦ λ _ off.
            let kind : has_kind Source (f d) ≡ true = not-false _ (or_parts (is_of_other_kind Source (f d)) _ off).0 in
            let same : has_kind Source (h.face d) ≡ has_kind Source (f d) = rw ((kinds d).0, (kinds d).1) refl in
            linked_sound f (h.face d) d to (same ∙ kind) (λ is. sym (kinds d).0 ∙ is) (are d) tt
        | false ↦ λ bare _. (to_sound f (d, to) (inl (null_given d given bare), tt), tt)
      ] refl off
      | false ↦ λ _. tt
    ] refl)
    (later (elim (is_object d) as (λ b. is_any is_of_other_kind f (if b then (d, Source) ∷ wanted_sources rest else wanted_sources rest) ≡ false → is_any is_of_other_kind f (wanted_sources rest) ≡ false) [
      | true ↦ λ off. (or_parts (is_of_other_kind Source (f d)) _ off).1
      | false ↦ λ off. off
    ] off))

call_sound : (f : Parts) (t : ℕ) (c : body.Call) (a : Answer) → code_of t f.face c ≡ code.Done → AreSoundParts f.face f → Each (IsSoundMessage f.face) (sent_by c a f)
call_sound f t (call.Satisfy e p i) a is are = satisfied_sound f.face (f.face e) i p (satisfied_given t f.face e p i is) (are e)
call_sound f t (call.AddDependence from x i m) a is are =
    depended_sound f from _ (or_parts (is_of_other_kind Target (f.face x)) _ (done_kinds t f.face (call.AddDependence from x i m) is)).1 are (depended_aim t f.face from x i m is)
call_sound f t (call.EdtCreate from pc ps dc ds fl o) a is are =
    deps_sound f.face a.value 0 ds f (or_parts (is_of_other_kind ATemplate (f.face from)) _ (done_kinds t f.face (call.EdtCreate from pc ps dc ds fl o) is)).1 (λ g. (refl, refl)) are
call_sound f t other a is are = tt

-- WHAT A CALL MAKES of the parts
called_parts : (f : Parts) (t : ℕ) (c : body.Call) (a : Answer) (w : List (ℕ × ℕ)) → code_of t f.face c ≡ code.Done → AreSoundParts f.face f → AreSoundParts f.face (called t c a w f)
called_parts f t (call.DbCreate n fl) a w is are = sound_at f.face f a.value _ tt are
called_parts f t (call.DbRelease d) a w is are = sound_at f.face f d _ (block_part f.face (f.face d) _ (are d)) are
called_parts f t (call.DbDestroy d) a w is are = sound_at f.face f d _ (block_part f.face (f.face d) _ (are d)) are
called_parts f t (call.Store d k v) a w is are = sound_at f.face f d _ (block_part f.face (f.face d) _ (are d)) are
called_parts f t (call.Satisfy e p i) a w is are = sound_at f.face f e _ (satisfied_part f.face (f.face e) i p (satisfied_given t f.face e p i is) (are e)) are
called_parts f t (call.AddDependence from x i m) a w is are =
    linked_parts f.face (not (from == 0)) from _ _ (depended_aim t f.face from x i m is) (sound_at f.face f x _ (links_part f.face (f.face x) _ (are x)) are)
called_parts f t (call.TemplateCreate function pc dc) a w is are = sound_at f.face f a.value _ tt are
called_parts f t (call.TemplateDestroy x) a w is are = sound_at f.face f x _ (template_part f.face (f.face x) _ (are x)) are
called_parts f t (call.EventCreate k fl) a w is are = sound_at f.face f a.value _ (new_part f.face k fl 0) are
called_parts f t (call.EventCreateParams k fl most sats ds) a w is are = sound_at f.face f a.value _ (new_part f.face k fl most) are
called_parts f t (call.EventDestroy e) a w is are = sound_at f.face f e _ (destroyed_part f.face (f.face e) (are e)) are
called_parts f t (call.EdtCreate from pc ps dc ds fl o) a w is are = deps_parts f.face a.value 0 ds _ (sound_at f.face (with_beside f (home_on (f.core t)) a) a.value _ (edt_part f.face (f.face from) dc ds) (beside_parts f.face (home_on (f.core t)) a f are))
called_parts f t other a w is are = are

-- WHERE A SCOPE IS LEFT, and an EDT ends
some_satisfied : (f : Faces) (e p : ℕ) → NamesEvent f e → IsSoundPayload f p → Each (IsSoundMessage f) (satisfy_some e p)
some_satisfied f e p (inl null) given = let none : (e == 0) ≡ true = rw null refl in rw none tt
some_satisfied f e p (inr is) given = elim (e == 0) as (λ b. Each (IsSoundMessage f) (if b then [] else what.Satisfy e 0 p ∷ [])) [ true ↦ tt | false ↦ ((given, is), tt) ]

some_left : (f : Faces) (x : ℕ) → NamesScope f x → Each (IsSoundMessage f) (leave_some x)
some_left f x (inl null) = let none : (x == 0) ≡ true = rw null refl in rw none tt
some_left f x (inr is) = elim (x == 0) as (λ b. Each (IsSoundMessage f) (if b then [] else what.Leave x ∷ [])) [ true ↦ tt | false ↦ (is, tt) ]

done_sound : (f : Faces) (l : Leaving) (st : scope.State) → NamesScope f st.outer × NamesEvent f st.event → Each (IsSoundMessage f) (sent_if_done l st)
done_sound f leaving.Alive st is = tt
done_sound f leaving.Done st is = each_joined (IsSoundMessage f) (satisfy_some st.event 0) (leave_some st.outer) (some_satisfied f st.event 0 is.1 (inl refl)) (some_left f st.outer is.0)

left_sound : (f : Faces) (m : Option Made) (links : List slot.SlotCall) (blocks : List block.BlockCall) (events : List EventCall) (scopes : List scope.ScopeCall) → IsSoundScope f m → Each (IsSoundMessage f) (sent_by_leave (face m links blocks events scopes))
left_sound f (Some (MadeScope outer output)) links blocks events scopes is = done_sound f (scope.on_leave (scope.state_of outer output scopes)) (scope.state_of outer output scopes) is
left_sound f other links blocks events scopes is = tt

end_given : (f : Faces) (g : ℕ) → IsSoundPayload f (payload_of_end (f g) g)
end_given f g = elim (is_block (f g)) as (λ b. is_block (f g) ≡ b → IsSoundPayload f (if b then g else 0)) [ true ↦ λ is. inr is | false ↦ λ _. inl refl ] refl

end_sound : (f : Faces) (i : Identity) (p : ℕ) → IsSoundIdentity f i → IsSoundPayload f p → Each (IsSoundMessage f) (sent_by_end i p)
end_sound f i p is given =
    each_joined (IsSoundMessage f) (if i.finish then [] else satisfy_some i.output p) (leave_some i.scope)
    (elim i.finish as (λ b. Each (IsSoundMessage f) (if b then [] else satisfy_some i.output p)) [ true ↦ tt | false ↦ some_satisfied f i.output p is.output given ])
    (some_left f i.scope is.home)

-- A MESSAGE that is delivered
brought_sound : (s : Setting) (past : History) (w : What) → IsRun s past → IsSoundMessage (parts_of s past).face w → AreSoundParts (parts_of s past).face (parts_of s past) → Each (IsSoundMessage (parts_of s past).face) (sent_by_message w (parts_of s past))
brought_sound s past (what.Satisfy e i p) run is are = satisfied_sound (parts_of s past).face ((parts_of s past).face e) i p is.0 (are e)
brought_sound s past (what.Leave x) run is are =
    left_sound (parts_of s past).face (made s past x) (link_calls past x) (block_calls s past x) (event_calls s past x) (scope_calls past x) (scope_law s past run x)
brought_sound s past other run is are = tt

brought_parts : (f : Parts) (w : What) → IsSoundMessage f.face w → AreSoundParts f.face f → AreSoundParts f.face (brought w f)
brought_parts f (what.Satisfy e i p) is are = sound_at f.face f e _ (satisfied_part f.face (f.face e) i p is.0 (are e)) are
brought_parts f (what.Leave x) is are = sound_at f.face f x _ (scope_part f.face (f.face x) scope.after_leave (are x)) are
brought_parts f other is are = are

-- AFTER EACH RUN
abbrev Mail : Type 0
Mail = List (ℕ × ℕ × What)

abbrev AreSound : Faces → Mail → Type 0
AreSound f ms = Each (λ (m : ℕ × ℕ × What). IsSoundMessage f m.2) ms

drop_sound : (f : Faces) (name : ℕ × ℕ) (ms : Mail) → AreSound f ms → AreSound f (mail.drop_one name ms)
drop_sound f name [] is = tt
drop_sound f name (m ∷ rest) is = elim (mail.same_name name m) as (λ b. AreSound f (if b then rest else m ∷ mail.drop_one name rest)) [
  | true ↦ is.1
  | false ↦ (is.0, drop_sound f name rest is.1)
]

kept_sound : (f : Faces) (name : Option (ℕ × ℕ)) (ms : Mail) → AreSound f ms → AreSound f (mail.without name ms)
kept_sound f None ms is = is
kept_sound f (Some name) ms is = drop_sound f name ms is

named_sound : (f : Faces) (n i : ℕ) (ws : List What) → Each (IsSoundMessage f) ws → AreSound f (mail.named n i ws)
named_sound f n i [] is = tt
named_sound f n i (w ∷ rest) is = (is.0, named_sound f n (suc i) rest is.1)

pub record IsSoundRun (s : Setting) (past : History) : Type 0 where
  pub parts : AreSoundParts (parts_of s past).face (parts_of s past)
  pub mail : AreSound (parts_of s past).face (pending s past)

opened_part : (f : Faces) (m : Option Made) (links : List slot.SlotCall) (blocks : List block.BlockCall) → IsSoundPart f (face m links blocks [] [])
opened_part f (Some (MadeEvent k fl most)) links blocks = new_part f k fl most
opened_part f other links blocks = tt

-- the message that is delivered is one of those that were sent
said_sound : (s : Setting) (past : History) (w : What) (place index : ℕ) → IsSoundRun s past → Contains (pending s past) (place, index, w) → IsSoundMessage (parts_of s past).face w
said_sound s past w place index was there = each_at (λ (m : ℕ × ℕ × What). IsSoundMessage (parts_of s past).face m.2) (pending s past) (place, index, w) was.mail there

sends_sound : (s : Setting) (past : History) (e : Entry) → IsRun s past → IsSoundRun s past → IsLegal s past e → Each (IsSoundMessage (parts_of s past).face) (sends e (parts_of s past))
sends_sound s past (Call t home c a w) run was legal = elim (is_done a.code) as (λ b. is_done a.code ≡ b → Each (IsSoundMessage (parts_of s past).face) (if b then sent_by c a (parts_of s past) else [])) [
  | true ↦ λ on. call_sound (parts_of s past) t c a (sym legal.on_parts.code ∙ done_is a.code on) was.parts
  | false ↦ λ _. tt
] refl
sends_sound s past (Deliver m c) run was legal = elim (is_done c) as (λ b. Each (IsSoundMessage (parts_of s past).face) (if b then sent_by_message m.what (parts_of s past) else [])) [
  | true ↦ brought_sound s past m.what run (said_sound s past m.what m.place m.index was legal.said) was.parts
  | false ↦ tt
]
sends_sound s past (End t g) run was legal =
    end_sound (parts_of s past).face (identity_on ((parts_of s past).core t)) (payload_of_end ((parts_of s past).face g) g) (core_identity s past run t) (end_given (parts_of s past).face g)
sends_sound s past other run was legal = tt

changed_parts : (s : Setting) (past : History) (e : Entry) → IsSoundRun s past → IsLegal s past e → AreSoundParts (parts_of s past).face (changed e (readied_on s past e (parts_of s past)))
changed_parts s past (Call t home c a w) was legal = elim (is_done a.code) as (λ b. is_done a.code ≡ b → AreSoundParts (parts_of s past).face (if b then joined c home (called t c a w (parts_of s past)) else parts_of s past)) [
  | true ↦ λ on. joined_parts (parts_of s past).face c home (called t c a w (parts_of s past)) (called_parts (parts_of s past) t c a w (sym legal.on_parts.code ∙ done_is a.code on) was.parts)
  | false ↦ λ _. was.parts
] refl
changed_parts s past (Deliver m c) was legal = elim (is_done c) as (λ b. AreSoundParts (parts_of s past).face (if b then brought m.what (parts_of s past) else parts_of s past)) [
  | true ↦ brought_parts (parts_of s past) m.what (said_sound s past m.what m.place m.index was legal.said) was.parts
  | false ↦ was.parts
]
changed_parts s past (Acquire t d) was legal = sound_at (parts_of s past).face (parts_of s past) d _ (block_part (parts_of s past).face ((parts_of s past).face d) _ (was.parts d)) was.parts
changed_parts s past (Wait t d) was legal = sound_at (parts_of s past).face (parts_of s past) d _ (block_part (parts_of s past).face ((parts_of s past).face d) _ (was.parts d)) was.parts
changed_parts s past (Free t d w) was legal = sound_at (parts_of s past).face (parts_of s past) d _ (block_part (parts_of s past).face ((parts_of s past).face d) _ (was.parts d)) was.parts
changed_parts s past other was legal = was.parts

pub sound_run : (s : Setting) (past : History) → IsRun s past → IsSoundRun s past
sound_run s [] run = record { parts = λ g. opened_part (parts_of s []).face (opened s g) (link_calls [] g) (block_calls s [] g); mail = tt }
sound_run s (e ∷ past) run =
    let f : Faces = (parts_of s past).face in
    let h : Faces = (parts_of s (e ∷ past)).face in
    let was = sound_run s past run.0 in
    let last : AreLasting f h = lasts s past e run.1 in
    let more : (m : ℕ × ℕ × What) → IsSoundMessage f m.2 → IsSoundMessage h m.2 = λ m. message_lasts f h last m.2 in
    record {
      parts = λ g. part_lasts f h last (h g) (subst (λ (x : Parts). IsSoundPart f (x.face g)) (sym (after_law s past e run.0 run.1)) (changed_parts s past e was run.1 g));
      mail =
          each_from (λ m. IsSoundMessage f m.2) (λ m. IsSoundMessage h m.2) more (pending s (e ∷ past))
          (each_joined (λ m. IsSoundMessage f m.2) (mail.without (delivered e) (pending s past)) (mail.named (length past) 0 (sends e (parts_of s past)))
          (kept_sound f (delivered e) (pending s past) was.mail) (named_sound f (length past) 0 (sends e (parts_of s past)) (sends_sound s past e run.0 was run.1)));
    }

pub sent_law : SentLaw
sent_law s past run m there = each_at (λ (m : ℕ × ℕ × What). IsSoundMessage (parts_of s past).face m.2) (pending s past) m (sound_run s past run).mail there
