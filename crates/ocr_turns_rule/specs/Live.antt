-- The steps on the live word: what each asks, and what it tells.
use Rattle.std.specs.Prelude.{◌≡◌, ℕ, ◌+◌, ◌-◌, ◌<◌, ◌≤◌, List, length, Option, Some, None}
use Rattle.atomic_table.specs.Table.{Me}
use Rattle.ocr_turns_rule.specs.Meaning.{Meaning}
use Rattle.ocr_turns_rule.specs.Rule.{IsStill, OPEN}
use Rattle.ocr_turns_rule.specs.Units.{MOST_RAISED, claim_count, units}
use Rattle.ocr_turns_rule.specs.Words.{Knows}
use Rattle.ocr_turns_rule.specs.declared.view.View.{View}
use Rattle.ocr_turns_rule.specs.declared.view.Terms.{Terms}
use Rattle.ocr_turns_rule.specs.declared.words.LiveStep.{LiveStep}
use Rattle.ocr_turns_rule.specs.declared.words.LiveStep.TheVariants as step

module _ {G E P N F : Type 0} where
  abbrev pub raising : View G E P N F → ℕ → View G E P N F
  raising v n = record v { spares = v.spares + n; raised = v.raised + n }

  abbrev pub lowering : View G E P N F → ℕ → View G E P N F
  lowering v n = record v { spares = v.spares - n }

  abbrev pub reading : View G E P N F → ℕ → View G E P N F
  reading v x = record v { live = Some x }

  -- the live word is 0, and there are so many entries
  abbrev pub stilled : View G E P N F → ℕ → View G E P N F
  stilled v n = record v { quiet = Some n }

  -- So many units may be raised: the clerk has one, and it raises no more than its share.
  abbrev pub MayRaise : View G E P N F → ℕ → Type 0
  MayRaise v n = (1 ≤ units v) × (v.raised + n ≤ MOST_RAISED)

  -- So many may be lowered: the clerk has them to spare, and one more, or a claim, where it ended
  -- the run.
  abbrev pub MayLower : View G E P N F → ℕ → Type 0
  MayLower v n = (n ≤ v.spares) × (1 ≤ v.ended → n + 1 ≤ v.spares + claim_count v)

  abbrev pub MayLive : View G E P N F → LiveStep → Type 0
  MayLive v (step.Raise n) = MayRaise v n
  MayLive v (step.Lower n) = MayLower v n
  MayLive v step.Read = Unit {0}
  MayLive v step.Entries = v.live ≡ Some 0

-- what a step leaves of a count of the view's units
abbrev pub count_lived : LiveStep → ℕ → ℕ
count_lived (step.Raise n) c = c + n
count_lived (step.Lower n) c = c - n
count_lived other c = c

module _ {G E P N F : Type 0} (m : Meaning G E P N F) where
  -- The history so far has so many entries, and nothing can come any more.
  abbrev pub SeesStill : View G E P N F → ℕ → Type 0
  SeesStill w n = (t : Terms G) → w.terms ≡ Some t → (J : List E) × Knows m t J w × (length J ≡ n)
      × IsStill m t J

  -- what the step tells, from the view v to the view w, where the word was x
  abbrev pub LiveTells : LiveStep → View G E P N F → ℕ → View G E P N F → Type 0
  LiveTells (step.Raise n) v x w = (w ≡ raising v n) × (units w < 18446744073709551616)
  LiveTells (step.Lower n) v x w = (w ≡ lowering v n) × (n ≤ x)
  LiveTells step.Read v x w = w ≡ reading v x
  LiveTells step.Entries v x w = (x < OPEN) × (w ≡ stilled v x) × SeesStill w x

  -- the step of a seat, which no act of a slot comes with
  abbrev pub steps_live : Option LiveStep → Me (Option P) (View G E P N F) → ℕ → Me (Option P)
      (View G E P N F) → Type 0
  steps_live None me x w = Unit {0}
  steps_live (Some s) me x w = (w.1 ≡ me.1) × LiveTells s me.0 x w.0
