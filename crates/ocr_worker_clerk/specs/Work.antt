-- What the functions of workers ask of a clerk, and what they leave.
use Rattle.std.specs.declared.snapshot.Snapshot.{Snapshot}
use Rattle.std.specs.Prelude.{◌≡◌, ◌≢◌, ◌≤◌, ◌<◌, ℕ, ◌+◌, ◌*◌, List, [], ◌∷◌, ◌++◌, ◌⊎◌, length, true, false, Option, Some, None, is_some, slice_index_or, MatchOption}
use Rattle.std.specs.List.{All}
use Rattle.std.specs.Option.{option_or}
use mathlib.Core.Option.{some}
use lib.ListN.{get_elem?}
use Rattle.atomic_table.specs.Seated.{TableId}
use Rattle.ocr_body_code.specs.Checked.{checked_tree}
use Rattle.ocr_body_code.specs.declared.checked.Checked.{Checked}
use Rattle.ocr_program_tree.specs.Runnable.{IsRunnable}
use Rattle.ocr_worker_machine.specs.Clerks.{IsStep}
pub use Rattle.ocr_worker_machine.specs.Clerks.{OcrTerms, OcrView}
use Rattle.ocr_worker_machine.specs.Ocr.{ends, starts}
pub use Rattle.ocr_worker_machine.specs.Ocr.{meaning}
use Rattle.ocr_worker_machine.specs.Holds.{awaits_in, is_own, plan_from}
use Rattle.ocr_worker_machine.specs.declared.fact.Fact.{Fact}
use Rattle.ocr_worker_machine.specs.declared.fact.Fact.TheVariants.{IsSet, Short}
use Rattle.ocr_body_meaning.specs.declared.call.Call as body
use Rattle.ocr_machine_history.specs.declared.entry.Entry.{Entry}
use Rattle.ocr_machine_history.specs.declared.entry.Entry.TheVariants as an
use Rattle.ocr_machine_history.specs.declared.entry.Stop as run
use Rattle.ocr_machine_history.specs.declared.entry.Stop.TheVariants as by
use Rattle.ocr_machine_history.specs.declared.entry.What.{What}
use Rattle.ocr_machine_history.specs.History.{History}
use Rattle.ocr_machine_history.specs.History as history
use Rattle.ocr_machine_history.specs.Weight.{weight_of}
use Rattle.ocr_machine_parts.specs.Readiness.{ready_with}
use Rattle.ocr_machine_parts.specs.declared.part.Core.{Core}
use Rattle.ocr_machine_parts.specs.declared.part.Part.{Part}
use Rattle.ocr_machine_parts.specs.declared.part.Part.TheVariants as part
use Rattle.ocr_machine_parts.specs.Legal.{IsSaid, IsStop}
use Rattle.ocr_machine_parts.specs.Progress.{made_ready, with_phase}
use Rattle.ocr_machine_parts.specs.Kinds.{is_acquiring_edt, next_in, progress_in}
use Rattle.ocr_machine_parts.specs.Taken.{is_within}
use Rattle.ocr_slots.specs.declared.Slot.{Slot}
use Rattle.ocr_turns_rule.specs.Contract.{IsOfTable}
use Rattle.ocr_turns_rule.specs.Rule.{RunsIn}
use Rattle.ocr_live.specs.declared.answers.LiveRead.{LiveRead}
use Rattle.ocr_live.specs.declared.answers.LiveRead.TheVariants as live
use Rattle.ocr_turns_rule.specs.Live.{SeesStill, raising}
use Rattle.ocr_turns_rule.specs.Steps.{Sees, deed, logged}
use Rattle.ocr_turns_rule.specs.Units.{claim_count}
use Rattle.ocr_turns_rule.specs.Sums.{as_some, entries, is_among, keys, load_of, replace_all}
pub use Rattle.ocr_turns.specs.Hand.{at_hand as in_hand}
use Rattle.ocr_worker_clerk.specs.Number.{object_count}
use Rattle.ocr_worker_clerk.specs.Entry.{PlannedParts, OcrKnown}

abbrev pub OcrTable : Type 0
OcrTable = TableId × OcrTerms

-- ENDS OF RUNS in a log
abbrev pub stop_of : Entry → Option run.Stop
stop_of (an.Stop why) = Some why
stop_of other = None

abbrev pub stop_in : List (ℕ × Entry) → Option run.Stop
stop_in [] = None
stop_in (x ∷ rest) = option_or (stop_of x.1) (stop_in rest)

-- a run may be stopped so after the history, by what bodies say and by what may come
pub record MayStopSo (s : history.Setting) (past : History) (why : run.Stop) : Type 0 where
  pub said : IsSaid s past (an.Stop why)
  pub cause : IsStop s past why

-- No number was left for the creation that the body of an EDT says next, and fewer are drawn for it
-- than it needs.
pub record LacksNumbers (v : OcrView) : Type 0 where
  pub edt : ℕ
  pub call : Snapshot body.Call
  pub known : (k : ℕ) × (get_elem? v.facts k ≡ some (Short edt call))
  pub few : length v.drawn < object_count call.value
  pub reached : is_some v.reached ≡ true

-- A limit makes a worker end the run only where it passes the limit itself: an entry of this weight
-- would pass its share, or the numbers left are too few for its own EDT's next call.
abbrev pub IsOwnStop : OcrTerms → ℕ → OcrView → run.Stop → Type 0
IsOwnStop t worker v (by.Events w k) = (w ≡ worker) × (t.share < v.weight + k)
IsOwnStop t worker v by.Objects = LacksNumbers v
IsOwnStop t worker v other = Unit {0}

-- with more facts
abbrev pub told : OcrView → List Fact → OcrView
told v fs = record v { facts = v.facts ++ fs }

-- THE SEAT is the same, and the log has what it had
pub record Stays (old new : OcrKnown) : Type 0 where
  pub table : new.table ≡ old.table
  pub terms : new.view.terms ≡ old.view.terms
  pub root : new.view.root ≡ old.view.root
  pub seat : new.view.seat ≡ old.view.seat
  pub out : new.view.out ≡ old.view.out
  pub joined : new.view.joined ≡ old.view.joined
  pub log : (more : List (ℕ × Entry)) × (new.view.log ≡ old.view.log ++ more)

-- UNITS. By so much a clerk raises the live word at most for an entry
abbrev pub RAISES : ℕ
RAISES = 4400000000

-- AT WORK: the clerk is of this table, whose program is this one and may be run; it does not know
-- that the run has ended, and did not end it; it has room for a Stop and for 40 parts, its log
-- weighs no more than its share, and it has a unit to spare or a claim.
pub record AtWork (table : OcrTable) (program : Checked) (c : OcrKnown) : Type 0 where
  pub of_table : IsOfTable table c
  pub limits : (2 ≤ table.1.limit) × (table.1.limit ≤ 65536)
  pub program_is : table.1.setting.value.program ≡ program
  pub runnable : IsRunnable (checked_tree program)
  pub is_open : c.view.closed ≡ None
  pub unstopped : stop_in c.view.log ≡ None
  pub room : 1 ≤ c.room
  pub spare : 40 ≤ c.spare + length c.parts
  pub weighs : c.view.weight ≡ load_of weight_of c.view.log
  pub light : c.view.weight ≤ table.1.share
  pub few : length c.view.drawn ≤ 3
  pub full : MatchOption c.view.full (Unit {0}) (λ _. is_some c.view.reached ≡ true)
  pub loads : table.1.share ≤ 16000000
  pub stake : 1 ≤ c.view.spares + claim_count c.view
  pub raised : c.view.raised ≤ RAISES * c.view.weight
  pub ended : c.view.ended ≡ 0

-- AT REST: but for a unit to spare, or a claim, it is at work
abbrev pub with_spare : OcrKnown → OcrKnown
with_spare c = record c { view = record c.view { spares = c.view.spares + 1 } }

abbrev pub IsResting : OcrTable → Checked → OcrKnown → Type 0
IsResting table program c = AtWork table program (with_spare c)

-- what an idle clerk reads of the live word
abbrev pub ReadsIdle : LiveRead → OcrKnown → Type 0
ReadsIdle (live.Quiet n) c = (c.view.quiet ≡ Some n) × SeesStill meaning c.view n
ReadsIdle (live.Busy x) c = (1 ≤ x) × (c.view.live ≡ Some x)

-- GONE OR AT WORK: what its log tells, however the run goes on. Nothing is said of what it keeps.
pub record IsAway (table : OcrTable) (worker : ℕ) (c : OcrKnown) : Type 0 where
  pub of_table : IsOfTable table c
  pub few : length c.view.drawn ≤ 3
  pub weighs : c.view.weight ≡ load_of weight_of c.view.log
  pub light : c.view.weight ≤ table.1.share
  pub own : MatchOption (stop_in c.view.log) (Unit {0}) (IsOwnStop table.1 worker c.view)

-- the run has ended, and the clerk was told so, or ended it itself
abbrev pub HasEnded : OcrKnown → Type 0
HasEnded c = (is_some c.view.closed ≡ true) ⊎ (is_some (stop_in c.view.log) ≡ true)

-- both, where a call found the run ended or ended it
abbrev pub IsGone : OcrTable → ℕ → OcrKnown → Type 0
IsGone table worker c = IsAway table worker c × HasEnded c

-- WHAT IT OWES. Nothing to the words that count, but that it may have counted last units
pub record OwesNoCount (v : OcrView) : Type 0 where
  pub unput : v.debts.unput ≡ []
  pub put : v.debts.put ≡ []
  pub made : v.debts.made ≡ []
  pub resumes : v.debts.resumes ≡ []

-- so all its units but for messages and one claim are to spare
pub record HasFewDuties (v : OcrView) : Type 0 where
  pub owes : OwesNoCount v
  pub claims : claim_count v ≤ 1

-- the live word was raised so that it has these units to spare, and one more, or a claim
pub record Pays (needed : ℕ) (v w : OcrView) : Type 0 where
  pub paid : ℕ
  pub view : w ≡ raising v paid
  pub most : paid ≤ RAISES
  pub enough : needed ≤ w.spares
  pub stake : needed + 1 ≤ w.spares + claim_count w

-- no EDT runs by its log but this one
abbrev pub RunsOnly : OcrView → ℕ → Type 0
RunsOnly v edt = (u : ℕ) → RunsIn starts ends v.log u → u ≡ edt

abbrev pub RunsNone : OcrView → Type 0
RunsNone v = (u : ℕ) → RunsIn starts ends v.log u → ⊥

-- IDLE: between the calls of a worker
pub record IsIdleClerk (c : OcrKnown) : Type 0 where
  pub kept : c.view.parts ≡ []
  pub hand : c.parts ≡ []
  pub claims : c.view.claims ≡ []
  pub drawn : c.view.drawn ≡ []
  pub owes : OwesNoCount c.view
  pub none : RunsNone c.view

-- TAKEN ON: the worker has the claim of this EDT and no other
pub record HasTakenOn (t : OcrTerms) (edt : ℕ) (c : OcrKnown) : Type 0 where
  pub number : is_within t.limit edt ≡ true
  pub claims : c.view.claims ≡ edt ∷ []
  pub drawn : c.view.drawn ≡ []
  pub owes : OwesNoCount c.view
  pub only : RunsOnly c.view edt

-- PARTS: the places of a list, all lifted
abbrev pub lifted : List (ℕ × Option Part) → List (ℕ × Option Part)
lifted [] = []
lifted (x ∷ rest) = (x.0, None) ∷ lifted rest

-- it keeps the parts of these places, in this order, and has all of them at hand
pub record HasAllAtHand (c : OcrKnown) (places : List ℕ) : Type 0 where
  pub at_hand : c.parts ≡ as_some (in_hand c.parts)
  pub kept : keys c.view.parts ≡ places
  pub hand : keys c.parts ≡ places

-- the clerk took the parts of these places, which stand at hand behind what it had
pub record Took (old new : OcrKnown) (places : List ℕ) : Type 0 where
  pub parts : List (ℕ × Part)
  pub places_are : keys parts ≡ places
  pub view : new.view ≡ record old.view { parts = old.view.parts ++ parts }
  pub hand : new.parts ≡ old.parts ++ as_some parts
  pub sees : 1 ≤ length places → Sees meaning new.view

-- It keeps the core of the EDT, which does not wait, at hand or lifted, and behind it the parts of
-- these other places as they stand at hand.
pub record KeepsFaces (t : OcrTerms) (edt : ℕ) (places : List ℕ) (c : OcrKnown) : Type 0 where
  pub core : Core
  pub item : Option Part
  pub faces : List (ℕ × Part)
  pub kept : c.view.parts ≡ (t.limit + edt, part.Core core) ∷ faces
  pub hand : c.parts ≡ (t.limit + edt, item) ∷ as_some faces
  pub awake : awaits_in core.edt ≡ None
  pub places_are : keys faces ≡ places
  pub others : All (λ p. (p ≢ t.limit + edt) × (p ≤ t.limit + t.limit)) places

-- it keeps the parts of these places alone, as they stand at hand, and has no claim
pub record KeepsLoose (t : OcrTerms) (places : List ℕ) (c : OcrKnown) : Type 0 where
  pub kept : keys c.view.parts ≡ places
  pub hand : c.parts ≡ as_some c.view.parts
  pub claims : c.view.claims ≡ []
  pub none : RunsNone c.view
  pub within : All (λ p. p ≤ t.limit + t.limit) places

-- AN ENTRY is in the log, and the parts that it names are at hand as it leaves them
pub record EntersAs (t : OcrTerms) (old new : OcrKnown) (e : Entry) (h : PlannedParts)
    : Type 0 where
  pub number : ℕ
  pub later : List (ℕ × Part)
  pub sent : List What
  pub step : IsStep t.limit e h.members h.parts later sent
  -- by so much the live word was raised before it
  pub paid : ℕ
  pub view : new.view
      ≡ logged (raising old.view paid) number (deed meaning t.limit old.view e later sent)
  pub hand : new.parts ≡ replace_all (as_some later) old.parts
  pub sees : Sees meaning new.view

-- of a clerk all of whose parts it names: what it leaves is kept and at hand
pub record EntersKept (t : OcrTerms) (old new : OcrKnown) (e : Entry) (h : PlannedParts)
    : Type 0 where
  pub number : ℕ
  pub later : List (ℕ × Part)
  pub sent : List What
  pub step : IsStep t.limit e h.members h.parts later sent
  -- by so much the live word was raised before it
  pub paid : ℕ
  pub view : new.view
      ≡ logged (raising old.view paid) number (deed meaning t.limit old.view e later sent)
  pub kept : new.view.parts ≡ later
  pub hand : new.parts ≡ as_some later
  pub sees : Sees meaning new.view

-- READY TO RUN. The view knows that the slots of the EDT are set to these payloads
abbrev pub KnowsPayloads : OcrView → ℕ → List ℕ → Type 0
KnowsPayloads v edt payloads = (k : ℕ) → k < length payloads
    → (j : ℕ) × (get_elem? v.facts j ≡ some (IsSet edt k (slice_index_or payloads k 0)))

-- The worker has taken on the EDT and keeps its core and its face, both at hand, and knows the
-- payloads of its slots; once the core is made ready with them, its plan is done.
pub record CanRun (t : OcrTerms) (edt : ℕ) (payloads : List ℕ) (c : OcrKnown) : Type 0 where
  pub taken : HasTakenOn t edt c
  pub core : Core
  pub slots : List Slot
  pub kept : c.view.parts ≡ (t.limit + edt, part.Core core) ∷ (edt, part.Edt slots) ∷ []
  pub hand : c.parts ≡ (t.limit + edt, Some (part.Core core)) ∷ (edt, Some (part.Edt slots)) ∷ []
  -- no entry of it stands in the log
  pub unstarted : is_among (λ e. is_own e edt) (entries c.view.log) ≡ false
  pub count : length payloads ≡ length slots
  pub facts : KnowsPayloads c.view edt payloads
  pub acquiring : is_acquiring_edt (ready_with slots payloads core).edt ≡ true
  pub through : next_in (progress_in (ready_with slots payloads core).edt) ≡ None
