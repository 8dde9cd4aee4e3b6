-- What the legality of an entry asks of the parts.
use Rattle.std.specs.Prelude.{◌≡◌, ◌≤◌, ◌<◌, ◌⊎◌, ℕ, List, [], Bool, true, false, ◌&&◌, ◌==◌, if◌then◌else◌, Option, Some, None, is_some, length, slice_index}
use Rattle.ocr_guid.specs.Code.{number_of}
use Rattle.ocr_guid.specs.declared.Code.{Code}
use Rattle.ocr_guid.specs.declared.Code.TheVariants as code
use Rattle.ocr_event_any.specs.AnyEvent as event
use Rattle.ocr_acquire.specs.declared.Mode.{Mode}
use Rattle.ocr_acquire.specs.Mode.{is_null, mode_in, is_exclusive}
use Rattle.ocr_datablock.specs.Block as block
use Rattle.ocr_datablock.specs.Lent.{Loan}
use Rattle.ocr_edt.specs.Phases.{least_of}
use Rattle.ocr_finish.specs.declared.TheConstants.{MOST_MEMBERS}
use Rattle.ocr_body_meaning.specs.Holds.{is_done}
use Rattle.ocr_body_meaning.specs.declared.call.Call as body
use Rattle.ocr_body_meaning.specs.declared.call.Call.TheVariants as call
use Rattle.ocr_body_meaning.specs.declared.call.Answer.{Answer}
use Rattle.ocr_machine_history.specs.declared.entry.Entry.{Entry}
use Rattle.ocr_machine_history.specs.declared.entry.Entry.TheVariants.{Call, Deliver, Acquire, Wait, StaleAcquire, Start, Free, End, Stop}
use Rattle.ocr_machine_history.specs.declared.entry.What.{What}
use Rattle.ocr_machine_history.specs.declared.entry.What.TheVariants as what
use Rattle.ocr_machine_parts.specs.declared.part.Part.{Part}
use Rattle.ocr_machine_parts.specs.declared.part.Part.TheVariants as part
use Rattle.ocr_machine_parts.specs.Calls.{is_number}
use Rattle.ocr_machine_parts.specs.Parts.{Parts}
use Rattle.ocr_machine_parts.specs.Kinds.{IsBlock, work_of, is_running, holds_of, mode_on, loan_on, is_acquiring, home_on}
use Rattle.ocr_machine_parts.specs.Codes.{code_of, code_or, slot_most}
use Rattle.ocr_machine_parts.specs.Progress.{next_on, next_mode_on}

-- A CALL. A number that nothing has yet
pub record IsFresh (limit : ℕ) (f : Parts) (g : ℕ) : Type 0 where
  pub some : 1 ≤ g
  pub within : g ≤ limit
  pub vacant : f.face g ≡ part.Vacant

-- a creation answers a fresh number, or 0 where it is refused
pub record IsNamed (limit : ℕ) (f : Parts) (a : Answer) : Type 0 where
  pub fresh : is_done a.code ≡ true → IsFresh limit f a.value
  pub refused : is_done a.code ≡ false → a.value ≡ 0

-- a hold that ends: the core and the block have it in the same mode, and its loan is such as the
-- block gave out: an exclusive one is lent to this EDT, and has as many words as the block
pub record IsLoanFit (t : ℕ) (st : block.State) (l : Loan) : Type 0 where
  pub lent : is_number t st.borrower ≡ is_exclusive l.mode
  pub size : is_exclusive l.mode ≡ true → length l.began ≡ st.size

abbrev pub IsLoanBack : ℕ → Option Loan → block.State → Type 0
IsLoanBack t None st = is_number t st.borrower ≡ false
IsLoanBack t (Some l) st = IsLoanFit t st l

pub record IsHeld (t : ℕ) (m : Option Mode) (loan : Option Loan) (st : block.State) : Type 0 where
  pub holder : is_some (mode_in t st.holders) ≡ true
  pub same : m ≡ mode_in t st.holders
  pub loan_back : IsLoanBack t loan st

abbrev pub IsEnding : Parts → ℕ → ℕ → Type 0
IsEnding f t d = IsBlock (f.face d) (IsHeld t (mode_on (f.core t) d) (loan_on (f.core t) d))

-- a block that is destroyed: where the EDT holds it, core and block have the hold in the same mode,
-- and its loan is such as the block gave out; where it does not, nothing is lent to it
pub record IsAgreed (t : ℕ) (m : Option Mode) (loan : Option Loan) (st : block.State) : Type 0 where
  pub same : m ≡ mode_in t st.holders
  pub loan_back : IsLoanBack t loan st

abbrev pub IsDooming : Parts → ℕ → ℕ → Type 0
IsDooming f t d = IsBlock (f.face d) (IsAgreed t (mode_on (f.core t) d) (loan_on (f.core t) d))

-- a word of a block that is lent to nobody, and that the core and the block have in the same mode;
-- a body makes such a call only where this mode is RW or RO
pub record IsShared (t k : ℕ) (m : Option Mode) (st : block.State) : Type 0 where
  pub exists : k < st.size
  pub same : m ≡ mode_in t st.holders
  pub not_lent : st.borrower ≡ None

-- and its value
pub record IsLoaded (t k : ℕ) (m : Option Mode) (value : ℕ) (st : block.State) : Type 0 where
  pub shared : IsShared t k m st
  pub word : value ≡ slice_index st.words k

-- an EDT that is made: its number, and no core there before
pub record IsEdtNamed (limit : ℕ) (f : Parts) (a : Answer) : Type 0 where
  pub named : IsNamed limit f a
  pub no_core : is_done a.code ≡ true → f.core a.value ≡ part.Vacant

-- an object that is made beside another, where one is: a fresh number, drawn after the other's
abbrev pub IsBeside : Bool → ℕ → Parts → (other g : ℕ) → Type 0
IsBeside true limit f other g = IsFresh limit f g × (other < g)
IsBeside false limit f other g = g ≡ 0

-- the scope of an EDT that is made, where it is a finish EDT
abbrev pub IsScoped : ℕ → Parts → body.Call → Answer → Type 0
IsScoped limit f (call.EdtCreate from pc params dc deps flags output) a =
    IsBeside (is_done a.code && (flags == 1)) limit f a.value a.scope
IsScoped limit f other a = a.scope ≡ 0

-- and its output event, where one was asked for, which is drawn last
abbrev pub last_of : Answer → ℕ
last_of a = if a.scope == 0 then a.value else a.scope

abbrev pub HasOutput : ℕ → Parts → body.Call → Answer → Type 0
HasOutput limit f (call.EdtCreate from pc params dc deps flags output) a =
    IsBeside (is_done a.code && output) limit f (last_of a) a.output
HasOutput limit f other a = a.output ≡ 0

-- a scope that takes one member more
abbrev pub IsJoinable : Part → Type 0
IsJoinable (part.Scope st) = (0 < st.members) × (st.members < MOST_MEMBERS)
IsJoinable other = ⊥

-- THE HOME that the entry tells is that of the EDT, and one that is made can join it
pub record IsAtHome (f : Parts) (t home : ℕ) (done : Bool) : Type 0 where
  pub own : home ≡ home_on (f.core t)
  pub joinable : done ≡ true → (home == 0) ≡ false → IsJoinable (f.face home)

-- only an EDT that is made joins one
abbrev pub IsHome : Parts → (t home : ℕ) → body.Call → Answer → Type 0
IsHome f t home (call.EdtCreate from pc params dc deps flags output) a =
    IsAtHome f t home (is_done a.code)
IsHome f t home other a = home ≡ 0

-- what the call answers besides its code
abbrev pub IsAnswered : ℕ → Parts → ℕ → body.Call → Answer → Type 0
IsAnswered limit f t (call.Print v) a = a.value ≡ 0
IsAnswered limit f t (call.Load d k) a =
    IsBlock (f.face d) (IsLoaded t k (mode_on (f.core t) d) a.value)
IsAnswered limit f t (call.Store d k v) a =
    IsBlock (f.face d) (IsShared t k (mode_on (f.core t) d)) × (a.value ≡ 0)
IsAnswered limit f t (call.TemplateCreate function pc dc) a = IsNamed limit f a
IsAnswered limit f t (call.EdtCreate from pc params dc deps flags output) a =
    IsEdtNamed limit f a
IsAnswered limit f t (call.DbCreate n fl) a = IsNamed limit f a
IsAnswered limit f t (call.DbRelease d) a =
    (is_done a.code ≡ true → IsEnding f t d) × (a.value ≡ number_of a.code)
IsAnswered limit f t (call.DbDestroy d) a =
    (is_done a.code ≡ true → IsDooming f t d) × (a.value ≡ number_of a.code)
IsAnswered limit f t (call.TemplateDestroy x) a = a.value ≡ number_of a.code
IsAnswered limit f t (call.AddDependence from x i m) a = a.value ≡ number_of a.code
IsAnswered limit f t (call.EventCreate k fl) a = IsNamed limit f a
IsAnswered limit f t (call.EventCreateParams k fl most sats deps) a = IsNamed limit f a
IsAnswered limit f t (call.EventDestroy e) a = a.value ≡ number_of a.code
IsAnswered limit f t (call.Satisfy e p slot) a = a.value ≡ number_of a.code
-- Shutdown and Abort end the run by a Stop, and are answered nothing
IsAnswered limit f t other a = ⊥

pub record IsCallOn (limit : ℕ) (f : Parts) (t home : ℕ) (c : body.Call) (a : Answer)
    (w : List (ℕ × ℕ)) : Type 0 where
  pub running : is_running (f.core t) ≡ true
  pub code : a.code ≡ code_of t f.face c
  pub value : IsAnswered limit f t c a
  pub scope : IsScoped limit f c a
  pub output : HasOutput limit f c a
  pub at_home : IsHome f t home c a

-- GOING ON. The EDT does not stand at the block, and asks for it in a mode that is not NULL
pub record IsNewcomer (t : ℕ) (m : Mode) (st : block.State) : Type 0 where
  pub no_holder : mode_in t st.holders ≡ None
  pub not_waiting : mode_in t st.queue ≡ None
  pub some_mode : is_null m ≡ false

pub record IsGranted (t : ℕ) (m : Mode) (st : block.State) : Type 0 where
  pub newcomer : IsNewcomer t m st
  pub grantable : block.is_grantable st m ≡ true

-- the block is held already in this mode, or can be granted; its words are there
pub record IsTaken (t : ℕ) (m : Mode) (st : block.State) : Type 0 where
  pub fit : (mode_in t st.holders ≡ Some m) ⊎ IsGranted t m st
  pub not_lent : st.borrower ≡ None

pub record IsAcquireOn (f : Parts) (t d : ℕ) : Type 0 where
  pub next : next_on f t ≡ Some (d, next_mode_on f t)
  pub taken : IsBlock (f.face d) (IsTaken t (next_mode_on f t))

-- the block can neither be granted nor is it gone
pub record IsRefused (t : ℕ) (m : Mode) (st : block.State) : Type 0 where
  pub newcomer : IsNewcomer t m st
  pub not_grantable : block.is_grantable st m ≡ false
  pub not_gone : block.is_gone st ≡ false

pub record IsWaitOn (f : Parts) (t d : ℕ) : Type 0 where
  pub next : next_on f t ≡ Some (d, next_mode_on f t)
  pub acquiring : is_acquiring (f.core t) ≡ true
  pub refused : IsBlock (f.face d) (IsRefused t (next_mode_on f t))

-- the block is gone
pub record IsStaleOn (f : Parts) (t d : ℕ) : Type 0 where
  pub next : next_on f t ≡ Some (d, next_mode_on f t)
  pub gone : IsBlock (f.face d) (λ st. block.is_gone st ≡ true)

-- the whole plan is done
pub record IsStartOn (f : Parts) (t : ℕ) : Type 0 where
  pub acquiring : is_acquiring (f.core t) ≡ true
  pub through : next_on f t ≡ None

-- ENDING. The block is the least that the running EDT holds
pub record IsFreeOn (f : Parts) (t d : ℕ) : Type 0 where
  pub running : is_running (f.core t) ≡ true
  pub least : least_of (holds_of (work_of (f.core t))) ≡ Some d
  pub held : IsEnding f t d

-- the running EDT holds nothing
pub record IsEndOn (f : Parts) (t : ℕ) : Type 0 where
  pub running : is_running (f.core t) ≡ true
  pub nothing_held : holds_of (work_of (f.core t)) ≡ []

-- a delivered Set touches no part, and a delivered Satisfy is answered as its event does
abbrev pub delivery_code : Part → ℕ → Code
delivery_code (part.Event st) p = code_or (event.refusal st p)
delivery_code other p = code.Done

-- an event that has the slot
abbrev pub IsSatisfiable : ℕ → Part → Type 0
IsSatisfiable slot (part.Event st) = slot ≤ slot_most st
IsSatisfiable slot other = ⊥

-- a scope that has a member, which can leave it
abbrev pub HasMember : Part → Type 0
HasMember (part.Scope st) = 0 < st.members
HasMember other = ⊥

abbrev pub IsDeliverOn : Parts → What → Code → Type 0
IsDeliverOn f (what.Set x i p) c = c ≡ code.Done
IsDeliverOn f (what.Satisfy e slot p) c =
    IsSatisfiable slot (f.face e) × (c ≡ delivery_code (f.face e) p)
IsDeliverOn f (what.Leave x) c = HasMember (f.face x) × (c ≡ code.Done)

abbrev pub IsLegalOn : ℕ → Parts → Entry → Type 0
IsLegalOn limit f (Call t home c a w) = IsCallOn limit f t home c a w
IsLegalOn limit f (Deliver m c) = IsDeliverOn f m.what c
IsLegalOn limit f (Acquire t d) = IsAcquireOn f t d
IsLegalOn limit f (Wait t d) = IsWaitOn f t d
IsLegalOn limit f (StaleAcquire t d) = IsStaleOn f t d
IsLegalOn limit f (Start t) = IsStartOn f t
IsLegalOn limit f (Free t d w) = IsFreeOn f t d
IsLegalOn limit f (End t g) = IsEndOn f t
IsLegalOn limit f (Stop why) = Unit {0}
