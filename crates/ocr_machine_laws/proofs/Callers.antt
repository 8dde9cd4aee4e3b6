-- What a running EDT calls, in plain words.
use Rattle.std.proofs.Common.{◌≡◌, inl, inr, ℕ, ◌≤◌, List, [], true, false, Option, Some, None, ◌==◌, if◌then◌else◌, sym, ◌∙◌, ap, subst, is_some, slice_index}
use Rattle.ocr_acquire.specs.declared.Mode.{Mode}
use Rattle.ocr_finish.specs.declared.TheConstants.{MOST_MEMBERS}
use Rattle.ocr_finish.specs.Scope.{ScopeCall}
use Rattle.ocr_guid.specs.Target.{EventCall}
use Rattle.ocr_slots.specs.Slots as slot
use Rattle.ocr_datablock.specs.Block as block
use Rattle.ocr_edt.specs.declared.Identity.{Identity}
use Rattle.ocr_body_meaning.specs.Behaviour.{IsNext}
use Rattle.ocr_body_meaning.specs.Holds.{Access, Entered, load_of, store_of}
use Rattle.ocr_body_meaning.specs.declared.call.Answer.{Answer}
use Rattle.ocr_body_meaning.specs.declared.call.Call as body
use Rattle.ocr_body_meaning.specs.declared.call.Call.TheVariants as call
use Rattle.ocr_body_meaning.proofs.Accesses.{plain_next}
use Rattle.ocr_machine_history.specs.Edts.{is_started}
use Rattle.ocr_machine_history.specs.History.{History, Setting}
use Rattle.ocr_machine_history.specs.Made.{Made, MadeBlock, made, size_in}
use Rattle.ocr_machine_parts.specs.declared.part.Part.TheVariants as part
use Rattle.ocr_machine_parts.specs.Bodies.{holds_on, says_next}
use Rattle.ocr_machine_parts.specs.Calls.{link_calls, block_calls, event_calls, scope_calls, edt_calls, loans_of}
use Rattle.ocr_machine_parts.specs.Kinds.{IsBlock, home_on, is_running, mode_on}
use Rattle.ocr_machine_parts.specs.LegalOn.{IsShared, IsLoaded, IsJoinable, IsHome, IsAnswered}
use Rattle.ocr_machine_parts.specs.Legal.{IsRun}
use Rattle.ocr_machine_parts.specs.Parts.{face, core, identity_of, parts_of}
use Rattle.ocr_machine_parts.proofs.Within.{made_none}
use Rattle.ocr_machine_laws.specs.Answered.{AnswersSo}
use Rattle.ocr_machine_laws.specs.Plain.{IsEntered, IsPlainValue, home_for, CallLaw}
use Rattle.ocr_machine_laws.proofs.Answered.{call_on}
use Rattle.ocr_machine_laws.proofs.Members.{running_identity}
use Rattle.ocr_machine_laws.proofs.Room.{joining_law}
use Rattle.ocr_machine_laws.proofs.Runners.{runs, runs_core}
use Rattle.ocr_machine_laws.proofs.Said.{enters}
use Rattle.ocr_machine_laws.proofs.Works.{sharing_law}

-- A WORD of a block that is lent to nobody is that of its contents
word_there : (n k : ℕ) (o : Option ℕ) (blocks : List block.BlockCall) → o ≡ None → slice_index (if is_some o then [] else block.contents n blocks) k ≡ slice_index (block.contents n blocks) k
word_there n k o blocks none = ap (λ (p : Option ℕ). slice_index (if is_some p then [] else block.contents n blocks) k) none

loaded_word : (md : Option Made) (links : List slot.SlotCall) (blocks : List block.BlockCall) (events : List EventCall) (scopes : List ScopeCall) (t k : ℕ) (o : Option Mode) (value : ℕ)
    → IsBlock (face md links blocks events scopes) (IsLoaded t k o value) → value ≡ slice_index (block.contents (size_in md) blocks) k
loaded_word (Some (MadeBlock n c)) links blocks events scopes t k o value is = is.word ∙ word_there n k (block.borrower_of blocks) blocks is.shared.not_lent
loaded_word other links blocks events scopes t k o value is = absurd is

word_loaded : (md : Option Made) (links : List slot.SlotCall) (blocks : List block.BlockCall) (events : List EventCall) (scopes : List ScopeCall) (t k : ℕ) (o : Option Mode) (value : ℕ)
    → IsBlock (face md links blocks events scopes) (IsShared t k o) → value ≡ slice_index (block.contents (size_in md) blocks) k → IsBlock (face md links blocks events scopes) (IsLoaded t k o value)
word_loaded (Some (MadeBlock n c)) links blocks events scopes t k o value shared is = record { shared = shared; word = is ∙ sym (word_there n k (block.borrower_of blocks) blocks shared.not_lent) }
word_loaded other links blocks events scopes t k o value shared is = absurd shared

-- A LOAD OR A STORE that the body says is one of a word that is shared
entered_is : (x : Access) → x ≡ Entered → IsEntered x
entered_is x is = subst IsEntered (sym is) tt

load_shared : (s : Setting) (past : History) (t d k : ℕ) → IsRun s past → is_started past t ≡ true → IsNext (call.Load d k) (says_next s past t) → IsBlock ((parts_of s past).face d) (IsShared t k (mode_on ((parts_of s past).core t) d))
load_shared s past t d k run on next = sharing_law s past t d k run (inl (entered_is (load_of (holds_on (parts_of s past) t d) k) (enters s past t (call.Load d k) run on next)))

store_shared : (s : Setting) (past : History) (t d k v : ℕ) → IsRun s past → is_started past t ≡ true → IsNext (call.Store d k v) (says_next s past t) → IsBlock ((parts_of s past).face d) (IsShared t k (mode_on ((parts_of s past).core t) d))
store_shared s past t d k v run on next = sharing_law s past t d k run (inr (entered_is (store_of (holds_on (parts_of s past) t d) k) (enters s past t (call.Store d k v) run on next)))

-- AN EDT that is made at a number that nothing has, had no core
no_core : (s : Setting) (past : History) (g : ℕ) → (parts_of s past).face g ≡ part.Vacant → (parts_of s past).core g ≡ part.Vacant
no_core s past g vacant = ap (λ (m : Option Made). core m (identity_of past g) (edt_calls s past g) (loans_of s past g)) (made_none s past g vacant)

-- THE VALUE
value_so : (s : Setting) (past : History) (t : ℕ) (c : body.Call) (a : Answer) → IsRun s past → is_started past t ≡ true → IsNext c (says_next s past t) → IsPlainValue s past c a → AnswersSo s.limit (parts_of s past) t c a
value_so s past t (call.Load d k) a run on next is =
    word_loaded (made s past d) (link_calls past d) (block_calls s past d) (event_calls s past d) (scope_calls past d) t k (mode_on ((parts_of s past).core t) d) a.value (load_shared s past t d k run on next) is
value_so s past t (call.Store d k v) a run on next is = (store_shared s past t d k v run on next, is)
value_so s past t (call.EdtCreate from pc ps dc ds fl o) a run on next is = record { named = is; no_core = λ done. no_core s past a.value (is.fresh done).vacant }
value_so s past t other a run on next is = is

plain_value : (s : Setting) (past : History) (t : ℕ) (c : body.Call) (a : Answer) → IsAnswered s.limit (parts_of s past) t c a → IsPlainValue s past c a
plain_value s past t (call.Load d k) a is = loaded_word (made s past d) (link_calls past d) (block_calls s past d) (event_calls s past d) (scope_calls past d) t k (mode_on ((parts_of s past).core t) d) a.value is
plain_value s past t (call.Store d k v) a is = is.1
plain_value s past t (call.EdtCreate from pc ps dc ds fl o) a is = is.named
plain_value s past t (call.DbRelease d) a is = is.1
plain_value s past t (call.DbDestroy d) a is = is.1
plain_value s past t other a is = is

-- THE HOME
home_now : (s : Setting) (past : History) (t : ℕ) → IsRun s past → is_running ((parts_of s past).core t) ≡ true → home_on ((parts_of s past).core t) ≡ (identity_of past t).scope
home_now s past t run running = ap (λ (i : Identity). i.scope) (running_identity s past t run running)

home_so : (s : Setting) (past : History) (t home : ℕ) (c : body.Call) (a : Answer) → IsRun s past → s.limit ≤ MOST_MEMBERS → is_running ((parts_of s past).core t) ≡ true → IsPlainValue s past c a → home ≡ home_for c (identity_of past t).scope
    → IsHome (parts_of s past) t home c a
home_so s past t home (call.EdtCreate from pc ps dc ds fl o) a run few running value is =
    let own : home ≡ home_on ((parts_of s past).core t) = is ∙ sym (home_now s past t run running) in
    record {
      own = own;
      joinable = λ done some.
          subst (λ (h : ℕ). (h == 0) ≡ false → IsJoinable ((parts_of s past).face h)) (sym own)
          (λ there. joining_law s past t a.value run few running there (value.fresh done)) some;
    }
home_so s past t home other a run few running value is = is

plain_home : (s : Setting) (past : History) (t home : ℕ) (c : body.Call) (a : Answer) → IsRun s past → is_running ((parts_of s past).core t) ≡ true → IsHome (parts_of s past) t home c a → home ≡ home_for c (identity_of past t).scope
plain_home s past t home (call.EdtCreate from pc ps dc ds fl o) a run running is = is.own ∙ home_now s past t run running
plain_home s past t home other a run running is = is

pub call_law : CallLaw
call_law s past t home c a w few run = (
  λ legal. record {
    open_run = legal.open_run;
    running = runs s past t run legal.on_parts.running;
    said = legal.said;
    code = legal.on_parts.code;
    value = plain_value s past t c a legal.on_parts.value;
    scope = legal.on_parts.scope;
    output = legal.on_parts.output;
    home_is = plain_home s past t home c a run legal.on_parts.running legal.on_parts.at_home;
  },
  λ may.
      let running = runs_core s past t run may.running in
      let next : IsNext c (says_next s past t) = plain_next c may.said.0 (says_next s past t) may.said.1 in
      record {
        open_run = may.open_run;
        on_parts = call_on s past t home c a w run (record {
          running = running;
          code = may.code;
          value = value_so s past t c a run may.running.started next may.value;
          scope = may.scope;
          output = may.output;
          at_home = home_so s past t home c a run few running may.value may.home_is;
        });
        on_facts = tt;
        said = may.said;
        stopping = tt;
      },
)
