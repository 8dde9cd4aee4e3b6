-- When an entry may come, in plain words: legality on the parts asks no more of a run than this.
use Rattle.std.specs.Prelude.{◌≡◌, ◌⊎◌, ◌↔◌, ◌≤◌, ℕ, List, [], Bool, true, false, ◌&&◌, not, Option, Some, None, is_some, slice_index}
use Rattle.std.specs.List.{filter, Contains}
use Rattle.ocr_guid.specs.Code.{number_of}
use Rattle.ocr_guid.specs.declared.Code.{Code}
use Rattle.ocr_guid.specs.declared.Code.TheVariants as code
use Rattle.ocr_acquire.specs.declared.Mode.{Mode}
use Rattle.ocr_acquire.specs.Mode.{mode_in}
use Rattle.ocr_datablock.specs.Block as block
use Rattle.ocr_edt.specs.Edt as edt
use Rattle.ocr_edt.specs.Phases.{first_of, least_of}
use Rattle.ocr_finish.specs.declared.TheConstants.{MOST_MEMBERS}
use Rattle.ocr_machine_history.specs.declared.entry.Entry.TheVariants.{Call, Deliver, Acquire, Wait, StaleAcquire, Start, Free, End}
use Rattle.ocr_machine_history.specs.declared.entry.Message.{Message}
use Rattle.ocr_machine_history.specs.declared.entry.What.{What}
use Rattle.ocr_machine_history.specs.declared.entry.What.TheVariants as what
use Rattle.ocr_machine_history.specs.Edts.{is_started, IsRunning}
use Rattle.ocr_machine_history.specs.History.{History, Setting, is_stopped}
use Rattle.ocr_machine_history.specs.Made.{is_edt}
use Rattle.ocr_body_meaning.specs.Holds.{Access, Entered, load_of, store_of}
use Rattle.ocr_body_meaning.specs.declared.call.Answer.{Answer}
use Rattle.ocr_body_meaning.specs.declared.call.Call as body
use Rattle.ocr_body_meaning.specs.declared.call.Call.TheVariants as call
use Rattle.ocr_machine_parts.specs.declared.part.Part.{Part}
use Rattle.ocr_machine_parts.specs.declared.part.Part.TheVariants as part
use Rattle.ocr_machine_parts.specs.Calls.{open_slots, plan_of, edt_calls, contents_of}
use Rattle.ocr_machine_parts.specs.Codes.{code_of}
use Rattle.ocr_machine_parts.specs.Messages.{pending}
use Rattle.ocr_machine_parts.specs.Parts.{identity_of, parts_of}
use Rattle.ocr_machine_parts.specs.Kinds.{IsBlock, is_block, is_held_by, work_of, is_running, holds_of, mode_on}
use Rattle.ocr_machine_parts.specs.Progress.{ready_at, next_on}
use Rattle.ocr_machine_parts.specs.Bodies.{holds_on, says_next}
use Rattle.ocr_machine_parts.specs.LegalOn.{IsFreeOn, IsDooming, IsShared, IsNamed, IsScoped, HasOutput, delivery_code}
use Rattle.ocr_machine_parts.specs.Legal.{IsRun, IsLegal, IsCallSaid, IsFreeSaid, IsEndSaid}
use Rattle.ocr_machine_laws.specs.Waits.{standing, is_gone_on}

-- the first block of its plan that the EDT has neither acquired nor found gone, with its mode
abbrev pub is_undone : List edt.EdtCall → ℕ × Mode → Bool
is_undone calls member = not (edt.was_acquired member.0 calls) && not (edt.was_stale member.0 calls)

abbrev pub next_planned : Setting → History → ℕ → Option (ℕ × Mode)
next_planned s past t =
    first_of
    (filter (λ (member : ℕ × Mode). is_undone (edt_calls s past t) member) (plan_of s past t))

-- the parts tell it
abbrev pub NextLaw : Type 0
NextLaw = (s : Setting) (past : History) (t : ℕ) → IsRun s past → is_edt past t ≡ true
    → is_started past t ≡ false
    → next_on (ready_at t (plan_of s past t) (parts_of s past)) t ≡ next_planned s past t

-- GOING ON. The EDT has not started, and every slot of it is set
pub record IsReady (s : Setting) (past : History) (t : ℕ) : Type 0 where
  pub open_run : is_stopped past ≡ false
  pub made : is_edt past t ≡ true
  pub not_started : is_started past t ≡ false
  pub all_set : open_slots s past t ≡ []

-- and this block is next in its plan
pub record IsReadyFor (s : Setting) (past : History) (t d : ℕ) (m : Mode) : Type 0 where
  pub ready : IsReady s past t
  pub next : next_planned s past t ≡ Some (d, m)

abbrev pub grants : Part → Mode → Bool
grants (part.Block st) m = block.is_grantable st m
grants other m = false

-- the block has the EDT as a holder already, or can be granted
abbrev pub IsAvailable : Part → ℕ → Mode → Type 0
IsAvailable x t m = (is_held_by x t ≡ true) ⊎ (grants x m ≡ true)

-- it can neither be granted nor is it gone, and the EDT neither holds it nor waits for it
pub record IsUnavailable (x : Part) (t : ℕ) (m : Mode) : Type 0 where
  pub not_there : mode_in t (standing x) ≡ None
  pub not_grantable : grants x m ≡ false
  pub not_gone : is_gone_on x ≡ false

abbrev pub AcquireLaw : Type 0
AcquireLaw = (s : Setting) (past : History) (t d : ℕ) → IsRun s past
    → IsLegal s past (Acquire t d)
    ↔ ((m : Mode) × IsReadyFor s past t d m × IsAvailable ((parts_of s past).face d) t m)

abbrev pub WaitLaw : Type 0
WaitLaw = (s : Setting) (past : History) (t d : ℕ) → IsRun s past
    → IsLegal s past (Wait t d)
    ↔ ((m : Mode) × IsReadyFor s past t d m × IsUnavailable ((parts_of s past).face d) t m)

abbrev pub StaleLaw : Type 0
StaleLaw = (s : Setting) (past : History) (t d : ℕ) → IsRun s past
    → IsLegal s past (StaleAcquire t d)
    ↔ ((m : Mode) × IsReadyFor s past t d m × (is_gone_on ((parts_of s past).face d) ≡ true))

abbrev pub BeginLaw : Type 0
BeginLaw = (s : Setting) (past : History) (t : ℕ) → IsRun s past
    → IsLegal s past (Start t) ↔ (IsReady s past t × (next_planned s past t ≡ None))

-- RUNNING. An EDT frees the least block that it holds
abbrev pub FreeingLaw : Type 0
FreeingLaw = (s : Setting) (past : History) (t d : ℕ) → IsRun s past
    → is_running ((parts_of s past).core t) ≡ true
    → least_of (holds_of (work_of ((parts_of s past).core t))) ≡ Some d
    → IsFreeOn (parts_of s past) t d

-- may destroy any block
abbrev pub DoomingLaw : Type 0
DoomingLaw = (s : Setting) (past : History) (t d : ℕ) → IsRun s past
    → is_running ((parts_of s past).core t) ≡ true
    → is_block ((parts_of s past).face d) ≡ true → IsDooming (parts_of s past) t d

-- and loads and stores, as entries, what its holds let it
abbrev pub IsEntered : Access → Type 0
IsEntered Entered = Unit {0}
IsEntered other = ⊥

abbrev pub SharingLaw : Type 0
SharingLaw = (s : Setting) (past : History) (t d k : ℕ) → IsRun s past
    → IsEntered (load_of (holds_on (parts_of s past) t d) k)
    ⊎ IsEntered (store_of (holds_on (parts_of s past) t d) k)
    → IsBlock ((parts_of s past).face d) (IsShared t k (mode_on ((parts_of s past).core t) d))

-- ENDING. What the EDT holds, and the least block of it
abbrev pub holds_now : Setting → History → ℕ → List (ℕ × Mode)
holds_now s past t = edt.holds_of (edt_calls s past t)

pub record IsLeastOf (holds : List (ℕ × Mode)) (d : ℕ) : Type 0 where
  pub held : is_some (mode_in d holds) ≡ true
  pub least : (b : ℕ) → is_some (mode_in b holds) ≡ true → d ≤ b

-- its body has come to its end, and it frees the least block that it holds
pub record IsPlainFree (s : Setting) (past : History) (t d : ℕ) (w : List (ℕ × ℕ)) : Type 0 where
  pub open_run : is_stopped past ≡ false
  pub running : IsRunning past t
  pub least : IsLeastOf (holds_now s past t) d
  pub said : IsFreeSaid (says_next s past t) d w

abbrev pub FreeLaw : Type 0
FreeLaw = (s : Setting) (past : History) (t d : ℕ) (w : List (ℕ × ℕ)) → IsRun s past
    → IsLegal s past (Free t d w) ↔ IsPlainFree s past t d w

-- or it holds nothing
pub record IsPlainEnd (s : Setting) (past : History) (t g : ℕ) : Type 0 where
  pub open_run : is_stopped past ≡ false
  pub running : IsRunning past t
  pub nothing_held : holds_now s past t ≡ []
  pub said : IsEndSaid (says_next s past t) g

abbrev pub EndLaw : Type 0
EndLaw = (s : Setting) (past : History) (t g : ℕ) → IsRun s past
    → IsLegal s past (End t g) ↔ IsPlainEnd s past t g

-- DELIVERING. A message comes that was sent and not delivered. Its code is what its event answers,
-- and Done where it satisfies none
abbrev pub code_for : (ℕ → Part) → What → Code
code_for face (what.Satisfy e slot p) = delivery_code (face e) p
code_for face other = code.Done

pub record IsPlainDeliver (s : Setting) (past : History) (m : Message) (c : Code) : Type 0 where
  pub open_run : is_stopped past ≡ false
  pub sent : Contains (pending s past) (m.place, m.index, m.what)
  pub code : c ≡ code_for (parts_of s past).face m.what

abbrev pub DeliverLaw : Type 0
DeliverLaw = (s : Setting) (past : History) (m : Message) (c : Code) → IsRun s past
    → IsLegal s past (Deliver m c) ↔ IsPlainDeliver s past m c

-- CALLING. A load answers the word of the block, a print and a store 0, a creation a number that
-- nothing has, or 0 where it is refused, and any other call the number of its code. Shutdown and
-- Abort end the run by a Stop: no entry has them
abbrev pub IsPlainValue : Setting → History → body.Call → Answer → Type 0
IsPlainValue s past (call.Load d k) a = a.value ≡ slice_index (contents_of s past d) k
IsPlainValue s past (call.Print v) a = a.value ≡ 0
IsPlainValue s past (call.Store d k v) a = a.value ≡ 0
IsPlainValue s past (call.TemplateCreate function pc dc) a = IsNamed s.limit (parts_of s past) a
IsPlainValue s past (call.EdtCreate from pc params dc deps flags output) a =
    IsNamed s.limit (parts_of s past) a
IsPlainValue s past (call.DbCreate n fl) a = IsNamed s.limit (parts_of s past) a
IsPlainValue s past (call.EventCreate k fl) a = IsNamed s.limit (parts_of s past) a
IsPlainValue s past (call.EventCreateParams k fl most sats deps) a =
    IsNamed s.limit (parts_of s past) a
IsPlainValue s past call.Shutdown a = ⊥
IsPlainValue s past (call.Abort number) a = ⊥
IsPlainValue s past other a = a.value ≡ number_of a.code

-- the home that the entry tells: that of the EDT where it makes one, else 0
abbrev pub home_for : body.Call → ℕ → ℕ
home_for (call.EdtCreate from pc params dc deps flags output) home = home
home_for other home = 0

-- the EDT runs, its body says the call, and this is what it is answered
pub record IsPlainCall (s : Setting) (past : History) (t home : ℕ) (c : body.Call) (a : Answer)
    (w : List (ℕ × ℕ)) : Type 0 where
  pub open_run : is_stopped past ≡ false
  pub running : IsRunning past t
  pub said : IsCallSaid (says_next s past t) c a w
  pub code : a.code ≡ code_of t (parts_of s past).face c
  pub value : IsPlainValue s past c a
  pub scope : IsScoped s.limit (parts_of s past) c a
  pub output : HasOutput s.limit (parts_of s past) c a
  pub home_is : home ≡ home_for c (identity_of past t).scope

abbrev pub CallLaw : Type 0
CallLaw = (s : Setting) (past : History) (t home : ℕ) (c : body.Call) (a : Answer)
    (w : List (ℕ × ℕ)) → s.limit ≤ MOST_MEMBERS → IsRun s past
    → IsLegal s past (Call t home c a w) ↔ IsPlainCall s past t home c a w
