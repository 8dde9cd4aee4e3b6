-- What a clerk knows of every history that fits its view, and what it may enter.
use Rattle.std.specs.Prelude.{◌≡◌, ◌<◌, ◌≤◌, ◌+◌, ◌-◌, ◌^◌, ◌==◌, ℕ, List, [], ◌∷◌, ◌++◌, Bool, true, false, reverse}
use mathlib.Core.Option.{some}
use lib.ListN.{get_elem?}
use Rattle.ocr_acquire.specs.declared.Mode.{Mode}
use Rattle.ocr_body_code.specs.Checked.{checked_tree}
use Rattle.ocr_program_tree.specs.Runnable.{IsRunnable}
use Rattle.ocr_finish.specs.declared.TheConstants.{MOST_MEMBERS}
use Rattle.ocr_guid.specs.declared.Code.TheVariants as code
use Rattle.ocr_machine_history.specs.declared.entry.Entry.{Entry}
use Rattle.ocr_machine_history.specs.declared.entry.Entry.TheVariants.{Deliver}
use Rattle.ocr_machine_history.specs.declared.entry.Message.{Message}
use Rattle.ocr_machine_history.specs.declared.entry.What.{What}
use Rattle.ocr_machine_history.specs.declared.entry.What.TheVariants as what
use Rattle.ocr_machine_history.specs.History as history
use Rattle.ocr_machine_parts.specs.declared.part.Part.{Part}
use Rattle.ocr_machine_parts.specs.Effects.{changed}
use Rattle.ocr_machine_parts.specs.Footprint.{Covers}
use Rattle.ocr_machine_parts.specs.Kinds.{counted_on, home_on, is_running}
use Rattle.ocr_machine_parts.specs.Legal.{AreFacts, IsSaid, is_stop}
use Rattle.ocr_machine_parts.specs.LegalOn.{HasMember, IsAtHome, IsLegalOn, IsSatisfiable, delivery_code}
use Rattle.ocr_machine_parts.specs.Messages.{sends}
use Rattle.ocr_machine_parts.specs.Parts.{parts_of}
use Rattle.ocr_machine_parts.specs.Taken.{core_in, face_in, has, is_within, keys, look, parts_in, seen}
use Rattle.ocr_machine_laws.specs.Kept.{IsPlanFor, kept_ready}
use Rattle.ocr_turns_rule.specs.Contract.{Legal}
use Rattle.ocr_turns_rule.specs.Meaning.{Open}
use Rattle.ocr_turns_rule.specs.Debts.{times}
use Rattle.ocr_turns_rule.specs.Rule.{FactsOf, Fits}
use Rattle.ocr_turns_rule.specs.Steps.{deed}
use Rattle.ocr_turns_rule.specs.Sums.{one_at, weigh}
use Rattle.ocr_turns_rule.specs.declared.view.Terms.{Terms}
use Rattle.ocr_turns_rule.specs.declared.view.View.{View}
use Rattle.ocr_worker_machine.specs.Facts.{learns}
use Rattle.ocr_worker_machine.specs.Ocr.{MayFollow, meaning, setting_in, stands}
use Rattle.ocr_worker_machine.specs.declared.fact.Fact.{Fact}
use Rattle.ocr_worker_machine.specs.declared.setting.Setting.{Setting}

abbrev pub OcrTerms : Type 0
OcrTerms = Terms Setting

abbrev pub OcrView : Type 0
OcrView = View Setting Entry Part What Fact

abbrev pub of_terms : OcrTerms → history.Setting
of_terms t = setting_in t.setting.value t.limit

-- it is so after every history that fits the view and in which the run has not ended
abbrev pub Knows : OcrTerms → OcrView → (List Entry → Type 0) → Type 0
Knows t v P = (J : List Entry) → Open meaning.stops J → Fits meaning t J v → P J

-- the facts stand that the entry tells
abbrev pub TellsFacts : OcrTerms → OcrView → Entry → List Entry → Type 0
TellsFacts t v e J = MayFollow t.setting.value t.limit J e
    → FactsOf (stands t.setting.value t.limit (J ++ e ∷ [])) (learns t.limit e v.parts)

-- these parts are at hand, each once, and are some of those that the view keeps, but for what was
-- stored in loans
pub record AreAtHand (limit : ℕ) (hand kept : List (ℕ × Part)) : Type 0 where
  pub once : (n : ℕ) → weigh (one_at n) hand ≤ 1
  pub there : (n : ℕ) → has hand n ≡ true → has kept n ≡ true
  pub alike : (n : ℕ) → has hand n ≡ true
      → seen limit n (look hand n) ≡ seen limit n (look kept n)

-- What a clerk has to know to enter an entry that is legal on the parts at hand, the EDT that it
-- takes on made ready with this plan.
pub record MayEnter (t : OcrTerms) (v : OcrView) (e : Entry) (members : List (ℕ × Mode))
    (hand : List (ℕ × Part)) : Type 0 where
  pub runnable : IsRunnable (checked_tree t.setting.value.program)
  pub at_hand : AreAtHand t.limit hand v.parts
  pub covers : Covers t.limit e hand
  pub on_hand : IsLegalOn t.limit (kept_ready t.limit members e hand) e
  pub plans : Knows t v (λ J. IsPlanFor (of_terms t) (reverse J) e members)
  pub set : Knows t v (λ J. AreFacts (of_terms t) (reverse J) e)
  pub says : Knows t v (λ J. IsSaid (of_terms t) (reverse J) e)
  pub told : Knows t v (TellsFacts t v e)

-- what the step makes of them
pub record IsStep (limit : ℕ) (e : Entry) (members : List (ℕ × Mode))
    (hand later : List (ℕ × Part)) (sent : List What) : Type 0 where
  pub parts : parts_in limit later ≡ changed e (kept_ready limit members e hand)
  pub same_keys : keys later ≡ keys hand
  pub sends_are : sent ≡ sends e (kept_ready limit members e hand)

-- such an entry is legal after every history that fits, and leaves these parts and messages
abbrev pub EntryLaw : Type 0
EntryLaw = (t : OcrTerms) (v : OcrView) (e : Entry) (members : List (ℕ × Mode))
    (hand later : List (ℕ × Part)) (sent : List What) → is_stop e ≡ false
    → MayEnter t v e members hand → IsStep t.limit e members hand later sent
    → Legal meaning t v (deed meaning t.limit v e later sent)

-- OWED SATISFACTIONS. The clerk owes a message that satisfies this event
abbrev pub OwesSatisfaction : OcrView → ℕ → ℕ → ℕ → Type 0
OwesSatisfaction v e slot payload = (k : ℕ) × (place : ℕ) × (index : ℕ)
    × (get_elem? v.owed k ≡ some (place, index, what.Satisfy e slot payload))

-- the event is an object, and has the slot
pub record CanSatisfy (t : OcrTerms) (J : List Entry) (e slot : ℕ) : Type 0 where
  pub within : is_within t.limit e ≡ true
  pub satisfiable : IsSatisfiable slot ((parts_of (of_terms t) (reverse J)).face e)

-- so it is after every history that fits the view
abbrev pub KnowsSatisfiable : Type 0
KnowsSatisfiable = (t : OcrTerms) (v : OcrView) (J : List Entry) (e slot payload : ℕ)
    → OwesSatisfaction v e slot payload → Fits meaning t J v → CanSatisfy t J e slot

-- and of the event as it is at hand
abbrev pub HandSatisfiable : Type 0
HandSatisfiable = (t : OcrTerms) (v : OcrView) (J : List Entry) (hand : List (ℕ × Part))
    (e slot payload : ℕ) → OwesSatisfaction v e slot payload → Fits meaning t J v
    → AreAtHand t.limit hand v.parts → has hand e ≡ true
    → IsSatisfiable slot (face_in t.limit hand e)

-- COUNTERS. Each event can be counted once more, after every history that fits the view
abbrev pub KnowsCounted : Type 0
KnowsCounted = (t : OcrTerms) (v : OcrView) (J : List Entry) (g : ℕ) → Fits meaning t J v
    → counted_on ((parts_of (of_terms t) (reverse J)).face g) < 2 ^ 64 - 1

-- and as it is at hand
abbrev pub HandCounted : Type 0
HandCounted = (t : OcrTerms) (v : OcrView) (J : List Entry) (hand : List (ℕ × Part)) (g : ℕ)
    → Fits meaning t J v → AreAtHand t.limit hand v.parts
    → counted_on (face_in t.limit hand g) < 2 ^ 64 - 1

-- DELIVERIES. The clerk owes the message, which satisfies this event, and has the event's face
pub record HasEvent (t : OcrTerms) (v : OcrView) (m : Message) (e slot payload : ℕ)
    (hand : List (ℕ × Part)) : Type 0 where
  pub runnable : IsRunnable (checked_tree t.setting.value.program)
  pub owed : (k : ℕ) × (get_elem? v.owed k ≡ some (m.place, m.index, m.what))
  pub brings : m.what ≡ what.Satisfy e slot payload
  pub fitting : (J : List Entry) × Fits meaning t J v
  pub at_hand : AreAtHand t.limit hand v.parts
  pub here : has hand e ≡ true

-- so it may enter the delivery, with the event's answer
abbrev pub DeliverLaw : Type 0
DeliverLaw = (t : OcrTerms) (v : OcrView) (m : Message) (e slot payload : ℕ)
    (hand : List (ℕ × Part)) → HasEvent t v m e slot payload hand
    → MayEnter t v (Deliver m (delivery_code (face_in t.limit hand e) payload)) [] hand

-- OWED LEAVES. The clerk owes a message that leaves this scope
abbrev pub OwesLeave : OcrView → ℕ → Type 0
OwesLeave v x = (k : ℕ) × (place : ℕ) × (index : ℕ)
    × (get_elem? v.owed k ≡ some (place, index, what.Leave x))

-- the scope is an object, and has a member that can leave it
pub record CanLeave (t : OcrTerms) (J : List Entry) (x : ℕ) : Type 0 where
  pub within : is_within t.limit x ≡ true
  pub member : HasMember ((parts_of (of_terms t) (reverse J)).face x)

-- so it is after every history that fits the view
abbrev pub KnowsMember : Type 0
KnowsMember = (t : OcrTerms) (v : OcrView) (J : List Entry) (x : ℕ) → OwesLeave v x
    → Fits meaning t J v → CanLeave t J x

-- and of the scope as it is at hand
abbrev pub HandMember : Type 0
HandMember = (t : OcrTerms) (v : OcrView) (J : List Entry) (hand : List (ℕ × Part)) (x : ℕ)
    → OwesLeave v x → Fits meaning t J v → AreAtHand t.limit hand v.parts → has hand x ≡ true
    → HasMember (face_in t.limit hand x)

-- The clerk owes the message, which leaves this scope, and has the scope's face
pub record HasScope (t : OcrTerms) (v : OcrView) (m : Message) (x : ℕ) (hand : List (ℕ × Part))
    : Type 0 where
  pub runnable : IsRunnable (checked_tree t.setting.value.program)
  pub owed : (k : ℕ) × (get_elem? v.owed k ≡ some (m.place, m.index, m.what))
  pub brings : m.what ≡ what.Leave x
  pub fitting : (J : List Entry) × Fits meaning t J v
  pub at_hand : AreAtHand t.limit hand v.parts
  pub here : has hand x ≡ true

-- so it may enter the delivery
abbrev pub LeaveLaw : Type 0
LeaveLaw = (t : OcrTerms) (v : OcrView) (m : Message) (x : ℕ) (hand : List (ℕ × Part))
    → HasScope t v m x hand → MayEnter t v (Deliver m code.Done) [] hand

-- HOMES. After every history that fits, the home of a running EDT takes one member more, where the
-- clerk has a number for it
abbrev pub KnowsHome : Type 0
KnowsHome = (t : OcrTerms) (v : OcrView) (J : List Entry) (u g : ℕ) (done : Bool)
    → Fits meaning t J v → t.limit ≤ MOST_MEMBERS
    → is_running ((parts_of (of_terms t) (reverse J)).core u) ≡ true
    → (done ≡ true → 1 ≤ times g v.drawn)
    → IsAtHome (parts_of (of_terms t) (reverse J)) u
    (home_on ((parts_of (of_terms t) (reverse J)).core u)) done

-- The clerk has the core of a running EDT, its home's face, and a number for what it makes
pub record HasHome (t : OcrTerms) (v : OcrView) (u g : ℕ) (done : Bool) (hand : List (ℕ × Part))
    : Type 0 where
  pub most : t.limit ≤ MOST_MEMBERS
  pub fitting : (J : List Entry) × Fits meaning t J v
  pub at_hand : AreAtHand t.limit hand v.parts
  pub here : has hand (t.limit + u) ≡ true
  pub running : is_running (core_in t.limit hand u) ≡ true
  pub home : (home_on (core_in t.limit hand u) == 0) ≡ false
      → has hand (home_on (core_in t.limit hand u)) ≡ true
  pub drawn : done ≡ true → 1 ≤ times g v.drawn

-- so the EDT is at home on the parts at hand
abbrev pub HandHome : Type 0
HandHome = (t : OcrTerms) (v : OcrView) (u g : ℕ) (done : Bool) (hand : List (ℕ × Part))
    → HasHome t v u g done hand
    → IsAtHome (parts_in t.limit hand) u (home_on (core_in t.limit hand u)) done
