-- What is made stays what it is: a block stays a block, and an event keeps its slots. Nothing is made
-- past the limit.
use Rattle.std.proofs.Common.{◌≡◌, ◌⊎◌, inl, inr, ℕ, ◌+◌, ◌≤◌, List, ◌∷◌, [], Bool, true, false, Option, Some, None, ◌==◌, refl, sym, ◌∙◌, subst, arith}
use Rattle.std.proofs.lemmas.Bool.{eqb-true, false_from_ne_true}
use Rattle.ocr_guid.specs.Target.{EventCall}
use Rattle.ocr_slots.specs.Slots as slot
use Rattle.ocr_datablock.specs.Block as block
use Rattle.ocr_event.specs.declared.EventKind.{EventKind}
use Rattle.ocr_event_any.specs.declared.TheConstants.{LATCH, CHANNEL}
use Rattle.ocr_event_any.specs.AnyEvent.{takes_arg, plain_kind, state_by}
use Rattle.ocr_body_meaning.specs.declared.call.Call as body
use Rattle.ocr_body_meaning.specs.declared.call.Answer.{Answer}
use Rattle.ocr_machine_history.specs.declared.entry.Entry.{Entry}
use Rattle.ocr_machine_history.specs.declared.entry.Entry.TheVariants.{Call}
use Rattle.ocr_machine_history.specs.declared.objects.TheConstants.{ARGUMENTS, MAIN_EDT}
use Rattle.ocr_machine_history.specs.History.{History, Setting}
use Rattle.ocr_machine_history.specs.Made.{Made, MadeEvent, is_new, made, opened}
use Rattle.ocr_machine_parts.specs.declared.part.Part.{Part}
use Rattle.ocr_machine_parts.specs.declared.part.Part.TheVariants as part
use Rattle.ocr_machine_parts.specs.Calls.{link_calls, block_calls, event_calls, scope_calls}
use Rattle.ocr_machine_parts.specs.Parts.{face, parts_of}
use Rattle.ocr_machine_parts.specs.Kinds.{is_block, is_scope}
use Rattle.ocr_machine_parts.specs.Codes.{slot_most}
use Rattle.ocr_machine_parts.specs.LegalOn.{IsSatisfiable, IsCallOn}
use Rattle.ocr_machine_parts.specs.Legal.{IsRun, IsLegal}
use Rattle.ocr_machine_parts.proofs.Fresh.{new_fresh, made_old}
use Rattle.ocr_finish.specs.Scope.{ScopeCall}

abbrev pub Faces : Type 0
Faces = ℕ → Part

pub record IsLasting (x y : Part) : Type 0 where
  pub block : is_block x ≡ true → is_block y ≡ true
  pub slots : (i : ℕ) → IsSatisfiable i x → IsSatisfiable i y
  pub scope : is_scope x ≡ true → is_scope y ≡ true

abbrev pub AreLasting : Faces → Faces → Type 0
AreLasting f h = (g : ℕ) → IsLasting (f g) (h g)

-- the calls on an object are no matter
most_same : (a b : Bool) (k : EventKind) (takes : Bool) (most : ℕ) (calls later : List EventCall) → slot_most (state_by a b k takes most calls) ≡ slot_most (state_by a b k takes most later)
most_same true b k takes most calls later = refl
most_same false true k takes most calls later = refl
most_same false false k takes most calls later = refl

face_lasts : (m : Option Made) (links new_links : List slot.SlotCall) (blocks new_blocks : List block.BlockCall) (events new_events : List EventCall) (scopes new_scopes : List ScopeCall) → IsLasting (face m links blocks events scopes) (face m new_links new_blocks new_events new_scopes)
face_lasts (Some (MadeEvent k fl most)) links new_links blocks new_blocks events new_events scopes new_scopes = record {
  block = λ is. is;
  slots = λ i is. subst (λ (n : ℕ). i ≤ n) (most_same (k == LATCH) (k == CHANNEL) (plain_kind k) (takes_arg fl) most events new_events) is;
  scope = λ is. is;
}
face_lasts other links new_links blocks new_blocks events new_events scopes new_scopes = record { block = λ is. is; slots = λ i is. is; scope = λ is. is }

none_lasts : (x y : Part) → x ≡ part.Vacant → IsLasting x y
none_lasts part.Vacant y is = record { block = λ is. cc is; slots = λ i is. absurd is; scope = λ is. cc is }
none_lasts other y is = cc is

-- what an object is stays, and only what was nothing is made
abbrev Remains : Setting → History → Entry → ℕ → Type 0
Remains s past e g = (made s (e ∷ past) g ≡ made s past g) ⊎ ((parts_of s past).face g ≡ part.Vacant)

called_remains : (s : Setting) (past : History) (t home : ℕ) (c : body.Call) (a : Answer) (w : List (ℕ × ℕ)) (g : ℕ) → IsCallOn s.limit (parts_of s past) t home c a w → Remains s past (Call t home c a w) g
called_remains s past t home c a w g legal = elim (is_new c a g) as (λ b. is_new c a g ≡ b → Remains s past (Call t home c a w) g) [
  | true ↦ λ is. inr (new_fresh s.limit (parts_of s past) t home c a w g legal is).vacant
  | false ↦ λ off. inl (made_old s past t home c a w g off)
] refl

remains : (s : Setting) (past : History) (e : Entry) (g : ℕ) → IsLegal s past e → Remains s past e g
remains s past (Call t home c a w) g legal = called_remains s past t home c a w g legal.on_parts
remains s past other g legal = inl refl

pub lasts : (s : Setting) (past : History) (e : Entry) → IsLegal s past e → AreLasting (parts_of s past).face (parts_of s (e ∷ past)).face
lasts s past e legal = λ g. elim (remains s past e g legal) [
  | inl same ↦ subst (λ (m : Option Made). IsLasting ((parts_of s past).face g) (face m (link_calls (e ∷ past) g) (block_calls s (e ∷ past) g) (event_calls s (e ∷ past) g) (scope_calls (e ∷ past) g))) (sym same)
      (face_lasts (made s past g) (link_calls past g) (link_calls (e ∷ past) g) (block_calls s past g) (block_calls s (e ∷ past) g) (event_calls s past g) (event_calls s (e ∷ past) g) (scope_calls past g) (scope_calls (e ∷ past) g))
  | inr none ↦ none_lasts ((parts_of s past).face g) ((parts_of s (e ∷ past)).face g) none
]

-- NOTHING IS MADE above the limit
called_above : (s : Setting) (past : History) (t home : ℕ) (c : body.Call) (a : Answer) (w : List (ℕ × ℕ)) (d : ℕ) → IsCallOn s.limit (parts_of s past) t home c a w → s.limit + 3 ≤ d → made s past d ≡ None → made s (Call t home c a w ∷ past) d ≡ None
called_above s past t home c a w d legal above none = elim (is_new c a d) as (λ b. is_new c a d ≡ b → made s (Call t home c a w ∷ past) d ≡ None) [
  | true ↦ λ is. absurd (let within = (new_fresh s.limit (parts_of s past) t home c a w d legal is).within in omega (arith, within, above))
  | false ↦ λ off. made_old s past t home c a w d off ∙ none
] refl

opened_above : (s : Setting) (d : ℕ) → s.limit + 3 ≤ d → opened s d ≡ None
opened_above s d above =
    let one : (d == ARGUMENTS) ≡ false = false_from_ne_true (d == ARGUMENTS) (λ is. let e : d ≡ 1 = eqb-true d ARGUMENTS is in omega (arith, e, above)) in
    let two : (d == MAIN_EDT) ≡ false = false_from_ne_true (d == MAIN_EDT) (λ is. let e : d ≡ 2 = eqb-true d MAIN_EDT is in omega (arith, e, above)) in
    rw (one, two) refl

pub above_law : (s : Setting) (past : History) → IsRun s past → (d : ℕ) → s.limit + 3 ≤ d → made s past d ≡ None
above_law s [] run d above = opened_above s d above
above_law s (Call t home c a w ∷ past) run d above = called_above s past t home c a w d run.1.on_parts above (above_law s past run.0 d above)
above_law s (e ∷ past) run d above = above_law s past run.0 d above

none_there : (m : Option Made) (links : List slot.SlotCall) (blocks : List block.BlockCall) (events : List EventCall) (scopes : List ScopeCall) → m ≡ None → is_block (face m links blocks events scopes) ≡ false
none_there None links blocks events scopes is = refl
none_there (Some m) links blocks events scopes is = cc is

pub bounded : (s : Setting) (past : History) → IsRun s past → (d : ℕ) → s.limit + 3 ≤ d → is_block ((parts_of s past).face d) ≡ false
bounded s past run d above = none_there (made s past d) (link_calls past d) (block_calls s past d) (event_calls s past d) (scope_calls past d) (above_law s past run d above)
