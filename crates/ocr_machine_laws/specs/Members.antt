-- The members of a finish scope: who is in it still, and whose Leave is on its way.
use Rattle.std.specs.Prelude.{◌≡◌, ◌↔◌, ◌≤◌, ℕ, zero, suc, ◌+◌, List, [], ◌∷◌, Bool, true, false, ◌||◌, ◌&&◌, not, ◌==◌, if◌then◌else◌}
use Rattle.std.specs.List.{Contains}
use Rattle.ocr_finish.specs.declared.TheConstants.{MOST_MEMBERS}
use Rattle.ocr_machine_history.specs.declared.entry.What.{What}
use Rattle.ocr_machine_history.specs.declared.entry.What.TheVariants as what
use Rattle.ocr_machine_history.specs.Edts.{is_ended}
use Rattle.ocr_machine_history.specs.History.{History, Setting}
use Rattle.ocr_machine_history.specs.Made.{is_edt, names_new}
use Rattle.ocr_machine_parts.specs.declared.part.Part.{Part}
use Rattle.ocr_machine_parts.specs.declared.part.Part.TheVariants as part
use Rattle.ocr_machine_parts.specs.Parts.{Parts, identity_of, parts_of}
use Rattle.ocr_machine_parts.specs.Kinds.{home_on, is_running}
use Rattle.ocr_machine_parts.specs.Messages.{pending}
use Rattle.ocr_machine_parts.specs.LegalOn.{IsFresh, IsJoinable, HasMember}
use Rattle.ocr_machine_parts.specs.Legal.{IsRun}

-- how many numbers below this one pass the test
abbrev pub how_many : (ℕ → Bool) → ℕ → ℕ
how_many passes zero = 0
how_many passes (suc n) = (if passes n then 1 else 0) + how_many passes n

-- all that a run makes has a number below this one
abbrev pub numbers : Setting → ℕ
numbers s = s.limit + 3

-- an EDT that has not ended is a member of its home
abbrev pub is_member_edt : History → ℕ → ℕ → Bool
is_member_edt past x t =
    (is_edt past t && not (is_ended past t)) && names_new (identity_of past t).scope x

-- a scope that is not done is a member of its outer scope
abbrev pub is_member_scope : ℕ → Part → Bool
is_member_scope x (part.Scope st) = not (st.members == 0) && names_new st.outer x
is_member_scope x other = false

-- how many of these messages leave the scope
abbrev pub is_leave_of : ℕ → What → Bool
is_leave_of x (what.Leave y) = y == x
is_leave_of x other = false

abbrev pub leaves : ℕ → List (ℕ × ℕ × What) → ℕ
leaves x [] = 0
leaves x (m ∷ rest) = (if is_leave_of x m.2 then 1 else 0) + leaves x rest

-- how many members an object counts, 0 where it is no scope
abbrev pub members_on : Part → ℕ
members_on (part.Scope st) = st.members
members_on other = 0

abbrev pub member_edts : Setting → History → ℕ → ℕ
member_edts s past x = how_many (λ t. is_member_edt past x t) (numbers s)

abbrev pub member_scopes : Setting → History → ℕ → ℕ
member_scopes s past x =
    how_many (λ y. is_member_scope x ((parts_of s past).face y)) (numbers s)

-- THE MEMBERS of a scope are the EDTs whose home it is and that have not ended, the scopes in it
-- that are not done, and one for each Leave that was not delivered yet
abbrev pub MembersLaw : Type 0
MembersLaw = (s : Setting) (past : History) (x : ℕ) → IsRun s past
    → members_on ((parts_of s past).face x)
    ≡ member_edts s past x + (member_scopes s past x + leaves x (pending s past))

-- so a Leave finds a scope with a member
abbrev pub LeavingLaw : Type 0
LeavingLaw = (s : Setting) (past : History) (place index x : ℕ) → IsRun s past
    → Contains (pending s past) (place, index, what.Leave x)
    → HasMember ((parts_of s past).face x)

-- and the home of a running EDT can be joined by one that it makes, whose number is free
abbrev pub JoiningLaw : Type 0
JoiningLaw = (s : Setting) (past : History) (t g : ℕ) → IsRun s past → s.limit ≤ MOST_MEMBERS
    → is_running ((parts_of s past).core t) ≡ true
    → (home_on ((parts_of s past).core t) == 0) ≡ false → IsFresh s.limit (parts_of s past) g
    → IsJoinable ((parts_of s past).face (home_on ((parts_of s past).core t)))

-- THE TREE of scopes: a scope lies in itself, and in all that its outer one lies in, at most so
-- many steps up
abbrev pub outer_on : Part → ℕ
outer_on (part.Scope st) = st.outer
outer_on other = 0

abbrev pub lies_in : Parts → ℕ → ℕ → ℕ → Bool
lies_in f x zero y = y == x
lies_in f x (suc k) y =
    (y == x) || (not (outer_on (f.face y) == 0) && lies_in f x k (outer_on (f.face y)))

-- so once a scope has no member, each EDT that was made in it has ended, however deep it was made
abbrev pub FinishLaw : Type 0
FinishLaw = (s : Setting) (past : History) (x steps y t : ℕ) → IsRun s past
    → members_on ((parts_of s past).face x) ≡ 0 → lies_in (parts_of s past) x steps y ≡ true
    → is_edt past t ≡ true → names_new (identity_of past t).scope y ≡ true
    → is_ended past t ≡ true

-- ALL MEMBERS HAVE LEFT once each EDT whose home it is has ended, each scope in it is done, and no
-- Leave of it is undelivered
pub record HaveAllLeft (s : Setting) (past : History) (x : ℕ) : Type 0 where
  pub edts : (t : ℕ) → is_edt past t ≡ true → names_new (identity_of past t).scope x ≡ true
      → is_ended past t ≡ true
  pub scopes : (y : ℕ) → names_new (outer_on ((parts_of s past).face y)) x ≡ true
      → members_on ((parts_of s past).face y) ≡ 0
  pub delivered : (place index : ℕ) → Contains (pending s past) (place, index, what.Leave x) → ⊥

-- and exactly then the scope has no member
abbrev pub AllLeftLaw : Type 0
AllLeftLaw = (s : Setting) (past : History) (x : ℕ) → IsRun s past
    → members_on ((parts_of s past).face x) ≡ 0 ↔ HaveAllLeft s past x
