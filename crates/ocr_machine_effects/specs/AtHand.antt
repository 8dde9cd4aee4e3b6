-- The parts that an entry has at hand, and what is told of a step that changes them.
use Rattle.std.specs.Prelude.{◌≡◌, ◌<◌, ℕ, ◌+◌, ◌==◌, List, [], ◌∷◌, Bool, true, false, Option, None, is_some}
use Rattle.ocr_guid.specs.declared.Code.TheVariants.{Done}
use Rattle.ocr_template.specs.Template.{count_meant}
use Rattle.ocr_acquire.specs.Mode.{mode_in}
use Rattle.ocr_datablock.specs.Block as block
use Rattle.ocr_datablock.specs.Lent.{Loan}
use Rattle.ocr_body_meaning.specs.Call.{is_creation}
use Rattle.ocr_body_meaning.specs.declared.call.Call as body
use Rattle.ocr_body_meaning.specs.declared.call.Answer.{Answer}
use Rattle.ocr_machine_parts.specs.declared.part.Part.{Part}
use Rattle.ocr_machine_parts.specs.declared.part.Part.TheVariants as part
use Rattle.ocr_machine_parts.specs.Calls.{is_object}
use Rattle.ocr_machine_parts.specs.Footprint.{makes_core}
use Rattle.ocr_machine_parts.specs.LegalOn.{IsCallOn, IsLoanBack}
use Rattle.ocr_machine_parts.specs.Parts.{Parts}
use Rattle.ocr_machine_effects.specs.declared.taken.PartStore.{PartStore}
use Rattle.ocr_machine_effects.specs.declared.taken.PartStore.TheVariants as hand
use Rattle.ocr_machine_parts.specs.Taken.{has, put, keys, is_within, parts_in, ArePlaced}

-- parts with their numbers, of a state with so many objects: some of them, or the whole
pub record AtHand : Type 0 where
  pub limit : ℕ
  pub items : List (ℕ × Part)
  pub whole : Bool

abbrev pub state : AtHand → Parts
state h = parts_in h.limit h.items

abbrev pub with_part : AtHand → ℕ → Part → AtHand
with_part h n x = record { limit = h.limit; items = put h.items n x; whole = h.whole }

-- all parts, each with its number
abbrev pub numbered : ℕ → List Part → List (ℕ × Part)
numbered n [] = []
numbered n (p ∷ rest) = (n, p) ∷ numbered (n + 1) rest

abbrev pub items_of : PartStore → List (ℕ × Part)
items_of (hand.Listed parts) = parts.items
items_of (hand.Whole parts) = numbered 0 parts.items

abbrev pub is_whole : PartStore → Bool
is_whole (hand.Listed parts) = false
is_whole (hand.Whole parts) = true

abbrev pub listed : ℕ → List (ℕ × Part) → AtHand
listed limit ps = record { limit = limit; items = ps; whole = false }

abbrev pub all_of : ℕ → List Part → AtHand
all_of limit ps = record { limit = limit; items = numbered 0 ps; whole = true }

abbrev pub is_core : Part → Bool
is_core (part.Core c) = true
is_core other = false

-- the number of slots that an EDT made from a template gets
abbrev pub slots_meant : Part → ℕ → ℕ
slots_meant (part.Template t) depc = count_meant t.depc depc
slots_meant other depc = 0

-- A STEP makes these parts of them, each at its number, and in a place of its kind if they all were
-- so before
pub record Becomes (old new : AtHand) (f : Parts) : Type 0 where
  pub limit : new.limit ≡ old.limit
  pub state : state new ≡ f
  pub keys : keys new.items ≡ keys old.items
  pub whole : new.whole ≡ old.whole
  pub placed : ArePlaced old.limit old.items → ArePlaced new.limit new.items

-- the face of an object, or the core of an EDT, is at hand
pub record HasFace (h : AtHand) (g : ℕ) : Type 0 where
  pub within : is_within h.limit g ≡ true
  pub here : has h.items g ≡ true

pub record HasCore (h : AtHand) (t : ℕ) : Type 0 where
  pub within : is_within h.limit t ≡ true
  pub here : has h.items (h.limit + t) ≡ true

-- the face of an object, where the number is not NULL_GUID
abbrev pub HasNamed : AtHand → ℕ → Type 0
HasNamed h n = (n == 0) ≡ false → HasFace h n

-- the parts of what an accepted call makes are at hand
pub record HasMade (h : AtHand) (c : body.Call) (a : Answer) : Type 0 where
  pub face : is_creation c ≡ true → HasFace h a.value
  pub core : makes_core c ≡ true → HasCore h a.value
  pub scope : makes_core c ≡ true → HasNamed h a.scope
  pub output : makes_core c ≡ true → HasNamed h a.output

-- a call of an EDT with this home that is accepted on these parts
pub record IsAccepted (h : AtHand) (t home : ℕ) (c : body.Call) (a : Answer)
    (w : List (ℕ × ℕ)) : Type 0 where
  pub legal : IsCallOn h.limit (state h) t home c a w
  pub done : a.code ≡ Done
  pub made : HasMade h c a

-- a hold that may end
pub record IsReturning (t : ℕ) (loan : Option Loan) (st : block.State) : Type 0 where
  pub holder : is_some (mode_in t st.holders) ≡ true
  pub loan_back : IsLoanBack t loan st

-- a block that may be destroyed
pub record IsDoomable (t : ℕ) (loan : Option Loan) (st : block.State) : Type 0 where
  pub live : st.destroyed ≡ false
  pub loan_back : IsLoanBack t loan st

-- a word that may be set
pub record IsStorable (k : ℕ) (st : block.State) : Type 0 where
  pub exists : k < st.size
  pub not_lent : st.borrower ≡ None

-- the dependences name no such object as this
abbrev pub AreOthers : ℕ → List ℕ → Type 0
AreOthers g [] = Unit {0}
AreOthers g (d ∷ rest) = (is_object d ≡ true → (g == d) ≡ false) × AreOthers g rest

-- an EDT can be made: its parts are at hand, and the faces of its scope and of its output event,
-- where it has them, and the dependences name none of these
pub record HasRoom (h : AtHand) (a : Answer) (deps : List ℕ) : Type 0 where
  pub face : HasFace h a.value
  pub core : HasCore h a.value
  pub scope : HasNamed h a.scope
  pub output : HasNamed h a.output
  pub others : AreOthers a.value deps
  pub not_scope : AreOthers a.scope deps
  pub not_output : AreOthers a.output deps
