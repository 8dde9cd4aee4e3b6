-- What a delivery of a worker is, and what it leaves.
use Rattle.std.specs.Prelude.{◌≡◌, ℕ, zero, suc, List, [], ◌∷◌, ◌++◌, if◌then◌else◌, reverse, Some}
use mathlib.Core.Option.{some}
use lib.ListN.{get_elem?}
use Rattle.ocr_guid.specs.declared.Code.{Code}
use Rattle.ocr_guid.specs.declared.Code.TheVariants as code
use Rattle.ocr_body_meaning.specs.Holds.{is_done}
use Rattle.ocr_machine_history.specs.declared.entry.Entry.{Entry}
use Rattle.ocr_machine_history.specs.declared.entry.Entry.TheVariants.{Deliver}
use Rattle.ocr_machine_history.specs.declared.entry.Message.{Message}
use Rattle.ocr_machine_history.specs.declared.entry.What.{What}
use Rattle.ocr_machine_history.specs.declared.entry.What.TheVariants as what
use Rattle.ocr_base.specs.Mail.{named, without}
use Rattle.ocr_machine_parts.specs.declared.part.Part.{Part}
use Rattle.ocr_machine_parts.specs.LegalOn.{HasMember, IsSatisfiable, delivery_code}
use Rattle.ocr_machine_parts.specs.Messages.{satisfied, sent_by_leave}
use Rattle.ocr_machine_parts.specs.Parts.{parts_of}
use Rattle.ocr_steal.specs.declared.hand.Hand.{Hand}
use Rattle.ocr_steal.specs.Hand.{own}
use Rattle.ocr_turns_rule.specs.Contract.{SameHand}
use Rattle.ocr_turns_rule.specs.Rule.{Fits}
use Rattle.ocr_turns_rule.specs.Words.{counting_down, putting}
use Rattle.ocr_worker_machine.specs.Clerks.{OcrTerms, OcrView, OwesSatisfaction, of_terms}
use Rattle.ocr_worker_machine.specs.Ocr.{meaning}
use Rattle.ocr_worker_clerk.specs.Entry as entering
use Rattle.ocr_worker_clerk.specs.Entry.{OcrKnown}
use Rattle.ocr_worker_clerk.specs.Push.{Pushes}

-- MESSAGES. The clerk owes this one
abbrev pub IsOwed : Message → OcrView → Type 0
IsOwed m v = (k : ℕ) × (get_elem? v.owed k ≡ some (m.place, m.index, m.what))

-- and it is the first that it owes
abbrev pub IsFirstOwed : Message → OcrView → Type 0
IsFirstOwed m v = get_elem? v.owed 0 ≡ some (m.place, m.index, m.what)

-- what it brings is set into a slot
abbrev pub SetsSlot : What → Type 0
SetsSlot (what.Set edt slot payload) = Unit {0}
SetsSlot other = ⊥

-- or satisfies an event
abbrev pub SatisfiesEvent : What → Type 0
SatisfiesEvent (what.Satisfy event slot payload) = Unit {0}
SatisfiesEvent other = ⊥

-- or leaves a scope
abbrev pub LeavesScope : What → Type 0
LeavesScope (what.Leave scope) = Unit {0}
LeavesScope other = ⊥

-- some message that the clerk owes satisfies this event
abbrev pub OwesTo : ℕ → OcrView → Type 0
OwesTo event v = (slot : ℕ) × (payload : ℕ) × OwesSatisfaction v event slot payload

-- THE DELIVERY of what is set, which names no part
abbrev pub delivery_of : Message → Entry
delivery_of m = Deliver m code.Done

abbrev pub no_parts : entering.PlannedParts
no_parts = record { members = []; parts = [] }

-- a satisfaction is answered so by the event of this face, which sends these messages
pub record IsAnswered (face : Part) (slot payload : ℕ) (answer : Code) (sent : List What) : Type 0
  where
    pub has_slot : IsSatisfiable slot face
    pub code : answer ≡ delivery_code face payload
    pub sends : sent ≡ (if is_done answer then satisfied face slot payload else [])

-- a scope of this face is left by a member, and sends these messages
pub record IsLeft (face : Part) (answer : Code) (sent : List What) : Type 0 where
  pub member : HasMember face
  pub code : answer ≡ code.Done
  pub sends : sent ≡ sent_by_leave face

-- What a delivery is answered and sends: nothing is sent by a slot that is set; an event answers by
-- its face after a history that the view fits, and so does a scope.
abbrev pub Answers : OcrTerms → OcrView → What → Code → List What → Type 0
Answers t v (what.Set edt slot payload) answer sent = (answer ≡ code.Done) × (sent ≡ [])
Answers t v (what.Satisfy event slot payload) answer sent =
    (J : List Entry) × Fits meaning t J v
    × IsAnswered ((parts_of (of_terms t) (reverse J)).face event) slot payload answer sent
Answers t v (what.Leave scope) answer sent =
    (J : List Entry) × Fits meaning t J v
    × IsLeft ((parts_of (of_terms t) (reverse J)).face scope) answer sent

-- It is the clerk's newest entry. The clerk owes the message no more, every other as it did, and
-- what the delivery sends; it knows no fact more.
pub record Delivers (t : OcrTerms) (m : Message) (old new : OcrKnown) : Type 0 where
  pub number : ℕ
  pub answer : Code
  pub sent : List What
  pub answers : Answers t old.view m.what answer sent
  pub log : new.view.log ≡ old.view.log ++ (number, Deliver m answer) ∷ []
  pub owed : new.view.owed
      ≡ without (Some (m.place, m.index)) old.view.owed ++ named number 0 sent
  pub facts : new.view.facts ≡ old.view.facts

-- THE WORDS of the EDT: the payload is put and the slot counted, which leaves so much to be
-- counted, and the EDT is pushed where this is nothing
abbrev pub PushesIf : ℕ → ℕ → Hand → Hand → Type 0
PushesIf zero edt before after = Pushes edt before after
PushesIf (suc left) edt before after = own after ≡ own before

pub record Settles (edt slot payload : ℕ) (old new : OcrKnown) (before after : Hand) : Type 0 where
  pub left : ℕ
  pub view : new.view ≡ counting_down (putting old.view edt slot payload) edt left
  pub hand : SameHand old new
  pub pushed : PushesIf left edt before after
