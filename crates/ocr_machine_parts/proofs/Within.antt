-- What is made lasts, and it has a number from 1 to the limit.
use Rattle.std.proofs.Common.{◌≡◌, ℕ, ◌≤◌, List, [], ◌∷◌, Bool, true, false, ◌&&◌, ◌==◌, if◌then◌else◌, Option, Some, None, refl, sym, ◌∙◌, ap, arith}
use Rattle.std.proofs.lemmas.Grind.{common_steps}
use Rattle.std.proofs.lemmas.Bool.{and_parts}
use Rattle.ocr_guid.specs.Target.{EventCall}
use Rattle.ocr_guid.specs.declared.Code.{Code}
use Rattle.ocr_guid.specs.declared.Code.TheVariants as code
use Rattle.ocr_event_any.specs.declared.TheConstants.{CHANNEL}
use Rattle.ocr_machine_parts.specs.declared.part.Part.{Part}
use Rattle.ocr_machine_parts.specs.Codes.{code_of}
use Rattle.ocr_slots.specs.Slots as slot
use Rattle.ocr_datablock.specs.Block as block
use Rattle.ocr_program_tree.specs.Functions.{number_of_main}
use Rattle.ocr_body_meaning.specs.declared.call.Call.TheVariants as call
use Rattle.ocr_body_meaning.specs.declared.call.Answer.{Answer}
use Rattle.ocr_machine_history.specs.declared.entry.Entry.TheVariants.{Call}
use Rattle.ocr_machine_parts.specs.declared.part.Part.TheVariants as part
use Rattle.ocr_machine_history.specs.History.{History, Setting}
use Rattle.ocr_machine_history.specs.Made.{Made, MadeBlock, MadeTemplate, MadeEdt, MadeEvent, MadeScope, made, makes, names_new, opened, edt_from}
use Rattle.ocr_machine_parts.specs.Calls.{link_calls, block_calls, edt_calls, loans_of, event_calls, scope_calls}
use Rattle.ocr_machine_parts.specs.Parts.{parts_of, face, core, identity_of}
use Rattle.ocr_machine_parts.specs.LegalOn.{IsFresh, IsNamed, IsBeside}
use Rattle.ocr_machine_parts.specs.Legal.{IsRun}
use Rattle.ocr_machine_parts.specs.Laws.{WithinLaw}
use Rattle.ocr_body_meaning.specs.Holds.{is_done}
use Rattle.ocr_machine_parts.specs.Taken.{is_within}
use Rattle.ocr_finish.specs.Scope.{ScopeCall}
use Rattle.ocr_machine_parts.proofs.Fresh.{named_fresh, beside_fresh}

none_made : (m : Option Made) (links : List slot.SlotCall) (blocks : List block.BlockCall) (events : List EventCall) (scopes : List ScopeCall) → face m links blocks events scopes ≡ part.Vacant → m ≡ None
none_made None links blocks events scopes is = refl
none_made (Some (MadeBlock n c)) links blocks events scopes is = cc is
none_made (Some (MadeTemplate f pc dc)) links blocks events scopes is = cc is
none_made (Some (MadeEdt f ps n)) links blocks events scopes is = cc is
none_made (Some (MadeEvent k fl most)) links blocks events scopes is = cc is
none_made (Some (MadeScope outer event)) links blocks events scopes is = cc is

pub made_none : (s : Setting) (past : History) (g : ℕ) → (parts_of s past).face g ≡ part.Vacant → made s past g ≡ None
made_none s past g is = none_made (made s past g) (link_calls past g) (block_calls s past g) (event_calls s past g) (scope_calls past g) is

-- a fresh number is free, and is from 1 to the limit
pub fresh_free : (s : Setting) (past : History) (g : ℕ) → IsFresh s.limit (parts_of s past) g → (made s past g ≡ None) × (is_within s.limit g ≡ true)
fresh_free s past g fresh = (made_none s past g fresh.vacant, inside s.limit g fresh.some fresh.within)
  where
    inside : (limit g : ℕ) → 1 ≤ g → g ≤ limit → is_within limit g ≡ true
    inside limit g low high = grind (arith, common_steps)

pub new_free : (s : Setting) (past : History) (a : Answer) (g : ℕ) → IsNamed s.limit (parts_of s past) a → makes a g ≡ true → (made s past g ≡ None) × (is_within s.limit g ≡ true)
new_free s past a g named is = fresh_free s past g (named_fresh s.limit (parts_of s past) a g named is)

-- and so is that of an EDT's scope, and of its output event
pub beside_free : (on done : Bool) (s : Setting) (past : History) (other n g : ℕ) → IsBeside on s.limit (parts_of s past) other n → (done && names_new n g) ≡ true → (made s past g ≡ None) × (is_within s.limit g ≡ true)
beside_free on done s past other n g beside is = fresh_free s past g (beside_fresh on s.limit (parts_of s past) other n g beside (and_parts done (names_new n g) is).1)

out_made : (b : Bool) (x y : Option Made) → (b ≡ true → ⊥) → y ≡ None → (if b then x else y) ≡ None
out_made true x y wrong is = absurd (wrong refl)
out_made false x y wrong is = is

out_is : (limit g : ℕ) → is_within limit g ≡ true → is_within limit g ≡ false → ⊥
out_is limit g inside off = cc (inside, off)

opened_out : (s : Setting) (g : ℕ) → 2 ≤ s.limit → is_within s.limit g ≡ false → opened s g ≡ None
opened_out s g enough off =
    out_made (g == 1) _ (if g == 2 then Some (MadeEdt (number_of_main s.program) [] 1) else None) (λ is. out_is s.limit g (low s.limit g enough is) off)
    (out_made (g == 2) _ None (λ is. out_is s.limit g (two s.limit g enough is) off) refl)
  where
    low : (limit g : ℕ) → 2 ≤ limit → (g == 1) ≡ true → is_within limit g ≡ true
    low limit g enough is = grind (arith, common_steps)

    two : (limit g : ℕ) → 2 ≤ limit → (g == 2) ≡ true → is_within limit g ≡ true
    two limit g enough is = grind (arith, common_steps)

pub made_out : (s : Setting) (past : History) (g : ℕ) → 2 ≤ s.limit → IsRun s past → is_within s.limit g ≡ false → made s past g ≡ None
made_out s [] g enough run off = opened_out s g enough off
made_out s (Call t home (call.DbCreate n fl) a w ∷ past) g enough run off = out_made (makes a g) _ (made s past g) (λ on. out_is s.limit g (new_free s past a g run.1.on_parts.value on).1 off) (made_out s past g enough run.0 off)
made_out s (Call t home (call.TemplateCreate f pc dc) a w ∷ past) g enough run off = out_made (makes a g) _ (made s past g) (λ on. out_is s.limit g (new_free s past a g run.1.on_parts.value on).1 off) (made_out s past g enough run.0 off)
made_out s (Call t home (call.EdtCreate from pc ps dc ds fl o) a w ∷ past) g enough run off =
    out_made (makes a g) _ _ (λ on. out_is s.limit g (new_free s past a g run.1.on_parts.value.named on).1 off)
    (out_made (is_done a.code && names_new a.scope g) _ _ (λ on. out_is s.limit g (beside_free _ (is_done a.code) s past _ a.scope g run.1.on_parts.scope on).1 off)
    (out_made (is_done a.code && names_new a.output g) _ _ (λ on. out_is s.limit g (beside_free _ (is_done a.code) s past _ a.output g run.1.on_parts.output on).1 off)
    (made_out s past g enough run.0 off)))
made_out s (Call t home (call.EventCreate k fl) a w ∷ past) g enough run off = out_made (makes a g) _ (made s past g) (λ on. out_is s.limit g (new_free s past a g run.1.on_parts.value on).1 off) (made_out s past g enough run.0 off)
made_out s (Call t home (call.EventCreateParams k fl most sats deps) a w ∷ past) g enough run off = out_made (makes a g) _ (made s past g) (λ on. out_is s.limit g (new_free s past a g run.1.on_parts.value on).1 off) (made_out s past g enough run.0 off)
made_out s (other ∷ past) g enough run off = made_out s past g enough run.0 off

-- a channel keeps some satisfactions
abbrev pub IsKeeping : Option Made → Type 0
IsKeeping (Some (MadeEvent k fl most)) = (k == CHANNEL) ≡ true → 1 ≤ most
IsKeeping other = Unit {0}

keeping_if : (b : Bool) (m n : Option Made) → (b ≡ true → IsKeeping m) → IsKeeping n → IsKeeping (if b then m else n)
keeping_if true m n one other = one refl
keeping_if false m n one other = other

from_keeping : (m : Option Made) (ps : List ℕ) (dc : ℕ) → IsKeeping (edt_from m ps dc)
from_keeping (Some (MadeTemplate f pc own)) ps dc = tt
from_keeping other ps dc = tt

opened_keeping : (b c : Bool) (x y : Made) → IsKeeping (Some x) → IsKeeping (Some y) → IsKeeping (if b then Some x else if c then Some y else None)
opened_keeping true c x y one two = one
opened_keeping false true x y one two = two
opened_keeping false false x y one two = tt

plain_code : (t k fl : ℕ) (f : ℕ → Part) → code_of t f (call.EventCreate k fl) ≡ code.Done → (k == CHANNEL) ≡ true → 1 ≤ 0
plain_code t k fl f is here = grind (arith, common_steps)

kept_code : (t k fl most sats deps : ℕ) (f : ℕ → Part) → code_of t f (call.EventCreateParams k fl most sats deps) ≡ code.Done → 1 ≤ most
kept_code t k fl most sats deps f is = grind (arith, common_steps)

pub done_is : (c : Code) → is_done c ≡ true → c ≡ code.Done
done_is code.Done is = refl
done_is other is = cc is

pub keeping_law : (s : Setting) (past : History) (g : ℕ) → IsRun s past → IsKeeping (made s past g)
keeping_law s [] g run = opened_keeping (g == 1) (g == 2) _ _ tt tt
keeping_law s (Call t home (call.DbCreate n fl) a w ∷ past) g run = keeping_if (makes a g) _ (made s past g) (λ _. tt) (keeping_law s past g run.0)
keeping_law s (Call t home (call.TemplateCreate f pc dc) a w ∷ past) g run = keeping_if (makes a g) _ (made s past g) (λ _. tt) (keeping_law s past g run.0)
keeping_law s (Call t home (call.EdtCreate from pc ps dc ds fl o) a w ∷ past) g run =
    keeping_if (makes a g) _ _ (λ _. from_keeping (made s past from) ps dc)
    (keeping_if (is_done a.code && names_new a.scope g) _ _ (λ _. tt)
    (keeping_if (is_done a.code && names_new a.output g) _ _ (λ _ is. cc is) (keeping_law s past g run.0)))
keeping_law s (Call t home (call.EventCreate k fl) a w ∷ past) g run =
    keeping_if (makes a g) _ (made s past g) (λ on. plain_code t k fl (parts_of s past).face (sym run.1.on_parts.code ∙ done_is a.code (and_parts (is_done a.code) (a.value == g) on).0)) (keeping_law s past g run.0)
keeping_law s (Call t home (call.EventCreateParams k fl most sats deps) a w ∷ past) g run =
    keeping_if (makes a g) _ (made s past g) (λ on _. kept_code t k fl most sats deps (parts_of s past).face (sym run.1.on_parts.code ∙ done_is a.code (and_parts (is_done a.code) (a.value == g) on).0)) (keeping_law s past g run.0)
keeping_law s (other ∷ past) g run = keeping_law s past g run.0

pub within_law : WithinLaw
within_law s past enough run = record {
  faces = λ g off. ap (λ (m : Option Made). face m (link_calls past g) (block_calls s past g) (event_calls s past g) (scope_calls past g)) (made_out s past g enough run off);
  cores = λ u off. ap (λ (m : Option Made). core m (identity_of past u) (edt_calls s past u) (loans_of s past u)) (made_out s past u enough run off);
}
