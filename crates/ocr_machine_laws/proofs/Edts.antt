-- The EDTs of a run are what was made as EDTs.
use Rattle.std.proofs.Common.{◌≡◌, ℕ, List, [], ◌∷◌, Bool, true, false, ◌||◌, ◌&&◌, ◌==◌, if◌then◌else◌, Option, Some, None, refl, sym, ◌∙◌, ap}
use Rattle.std.proofs.lemmas.Bool.{eqb-true, or_parts, and_parts, not-false}
use Rattle.ocr_guid.specs.Target.{EventCall}
use Rattle.ocr_guid.specs.declared.Code.TheVariants as code
use Rattle.ocr_slots.specs.Slots as slot
use Rattle.ocr_datablock.specs.Block as block
use Rattle.ocr_body_meaning.specs.Holds.{is_done}
use Rattle.ocr_body_meaning.specs.declared.call.Call.TheVariants as call
use Rattle.ocr_body_meaning.specs.declared.call.Answer.{Answer}
use Rattle.ocr_machine_history.specs.declared.entry.Entry.TheVariants.{Call}
use Rattle.ocr_machine_history.specs.declared.objects.TheConstants.{ARGUMENTS, MAIN_EDT}
use Rattle.ocr_machine_history.specs.History.{History, Setting}
use Rattle.ocr_machine_history.specs.Made.{Made, MadeBlock, MadeTemplate, MadeEdt, makes, names_new, edt_from, is_edt, made, is_edt_made}
use Rattle.ocr_machine_parts.specs.Calls.{link_calls, block_calls, event_calls, scope_calls}
use Rattle.ocr_machine_parts.specs.Parts.{face, parts_of}
use Rattle.ocr_machine_parts.specs.Kinds.{is_template}
use Rattle.ocr_machine_parts.specs.Codes.{ATemplate, is_of_other_kind}
use Rattle.ocr_machine_parts.specs.LegalOn.{IsNamed}
use Rattle.ocr_machine_laws.specs.Quiet.{EdtsLaw}
use Rattle.ocr_machine_parts.proofs.Within.{done_is, new_free, beside_free}
use Rattle.ocr_machine_laws.proofs.Choices.{done_kinds}
use Rattle.ocr_finish.specs.Scope.{ScopeCall}

-- an accepted creation finds a template
template_made : (m : Option Made) (links : List slot.SlotCall) (blocks : List block.BlockCall) (events : List EventCall) (scopes : List ScopeCall) (ps : List ℕ) (dc : ℕ) → is_template (face m links blocks events scopes) ≡ true → is_edt_made (edt_from m ps dc) ≡ true
template_made (Some (MadeTemplate f pc own)) links blocks events scopes ps dc is = refl
template_made other links blocks events scopes ps dc is = cc is

-- what is made is no EDT, and was none
other_made : (b : Bool) (m n : Option Made) (is_it : Bool) → (b ≡ true → is_it ≡ false) → is_edt_made m ≡ false → is_edt_made n ≡ is_it → is_edt_made (if b then m else n) ≡ is_it
other_made true m n is_it free off was = off ∙ sym (free refl)
other_made false m n is_it free off was = was

none_edt : (s : Setting) (past : History) (t : ℕ) → is_edt_made (made s past t) ≡ is_edt past t → made s past t ≡ None → is_edt past t ≡ false
none_edt s past t was none = sym was ∙ ap is_edt_made none

named_edt : (s : Setting) (past : History) (a : Answer) (t : ℕ) (m : Option Made) → IsNamed s.limit (parts_of s past) a → is_edt_made m ≡ false → is_edt_made (made s past t) ≡ is_edt past t → is_edt_made (if makes a t then m else made s past t) ≡ is_edt past t
named_edt s past a t m named off was = other_made (makes a t) m (made s past t) _ (λ on. none_edt s past t was (new_free s past a t named on).0) off was

edt_made : (b : Bool) (m n : Option Made) (is_it : Bool) → (b ≡ true → is_edt_made m ≡ true) → is_edt_made n ≡ is_it → is_edt_made (if b then m else n) ≡ (b || is_it)
edt_made true m n is_it on was = on refl
edt_made false m n is_it on was = was

opened_edts : (b : Bool) (f n c k : ℕ) (t : ℕ) → (t == ARGUMENTS) ≡ b → is_edt_made (if b then Some (MadeBlock n c) else if t == MAIN_EDT then Some (MadeEdt f [] k) else None) ≡ (t == MAIN_EDT)
opened_edts true f n c k t is = sym (ap (λ (m : ℕ). m == MAIN_EDT) (eqb-true t ARGUMENTS is))
opened_edts false f n c k t is = elim (t == MAIN_EDT) as (λ b. is_edt_made (if b then Some (MadeEdt f [] k) else None) ≡ b) [ true ↦ refl | false ↦ refl ]

pub edts_law : EdtsLaw
edts_law s [] run t = opened_edts (t == ARGUMENTS) _ _ _ _ t refl
edts_law s (Call u home (call.DbCreate n fl) a w ∷ past) run t = named_edt s past a t _ run.1.on_parts.value refl (edts_law s past run.0 t)
edts_law s (Call u home (call.TemplateCreate f pc dc) a w ∷ past) run t = named_edt s past a t _ run.1.on_parts.value refl (edts_law s past run.0 t)
edts_law s (Call u home (call.EventCreate k fl) a w ∷ past) run t = named_edt s past a t _ run.1.on_parts.value refl (edts_law s past run.0 t)
edts_law s (Call u home (call.EventCreateParams k fl most sats ds) a w ∷ past) run t = named_edt s past a t _ run.1.on_parts.value refl (edts_law s past run.0 t)
edts_law s (Call u home (call.EdtCreate from pc ps dc ds fl o) a w ∷ past) run t =
    let was : is_edt_made (made s past t) ≡ is_edt past t = edts_law s past run.0 t in
    edt_made (makes a t) _ _ _ (λ is.
    let done : a.code ≡ code.Done = done_is a.code (and_parts (is_done a.code) (a.value == t) is).0 in
    let kinds = done_kinds u (parts_of s past).face (call.EdtCreate from pc ps dc ds fl o) (sym run.1.on_parts.code ∙ done) in
    template_made (made s past from) (link_calls past from) (block_calls s past from) (event_calls s past from) (scope_calls past from) ps dc (not-false _ (or_parts (is_of_other_kind ATemplate ((parts_of s past).face from)) _ kinds).0))
    (other_made (is_done a.code && names_new a.scope t) _ _ _ (λ on. none_edt s past t was (beside_free _ (is_done a.code) s past _ a.scope t run.1.on_parts.scope on).0) refl
    (other_made (is_done a.code && names_new a.output t) _ _ _ (λ on. none_edt s past t was (beside_free _ (is_done a.code) s past _ a.output t run.1.on_parts.output on).0) refl was))
edts_law s (e ∷ past) run t = edts_law s past run.0 t
