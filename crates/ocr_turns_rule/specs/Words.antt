-- The steps on the words that count: what each asks, and what it tells.
use Rattle.std.specs.Prelude.{◌≡◌, ◌≢◌, ℕ, ◌+◌, ◌-◌, ◌<◌, ◌≤◌, ◌⊎◌, reverse, true, false, List, [], ◌∷◌, ◌++◌, Option, Some, None}
use mathlib.Core.Option.{some}
use lib.ListN.{get_elem?}
use Rattle.atomic_table.specs.Table.{Me}
use Rattle.ocr_base.specs.Mail.{tally}
use Rattle.ocr_turns_rule.specs.Counts.{IsSet, Found, slots_of, awaited, is_ended, is_started, READY}
use Rattle.ocr_turns_rule.specs.Meaning.{Meaning, Run}
use Rattle.ocr_turns_rule.specs.Debts.{IsNumber, of_edt, times, put_debts, counted_debts, made_debts, resumed_debts}
use Rattle.ocr_turns_rule.specs.Rule.{Fits, LogOf, FactsOf}
use Rattle.ocr_turns_rule.specs.Steps.{Sees}
use Rattle.ocr_turns_rule.specs.Sums.{is_free, less_one}
use Rattle.ocr_turns_rule.specs.Units.{units}
use Rattle.ocr_turns_rule.specs.declared.view.View.{View}
use Rattle.ocr_turns_rule.specs.declared.view.Terms.{Terms}
use Rattle.ocr_turns_rule.specs.declared.words.WordStep.{WordStep}
use Rattle.ocr_turns_rule.specs.declared.words.WordStep.TheVariants as word

module _ {G E P N F : Type 0} where
  abbrev pub claiming : View G E P N F → ℕ → View G E P N F
  claiming v n = record v { claims = v.claims ++ n ∷ [] }

  abbrev pub unclaiming : View G E P N F → ℕ → View G E P N F
  unclaiming v n = record v { claims = less_one n v.claims; spares = v.spares + 1 }

  abbrev pub resuming : View G E P N F → ℕ → View G E P N F
  resuming v n = record v { debts = resumed_debts v.debts n }

  abbrev pub putting : View G E P N F → ℕ → ℕ → ℕ → View G E P N F
  putting v n k x = record v { debts = put_debts v.debts n k x }

  -- So much is left of the EDT's word then: where nothing is, the unit becomes that of a ready EDT,
  -- else the view has it to spare.
  abbrev pub counting_down : View G E P N F → ℕ → ℕ → View G E P N F
  counting_down v n left = record v {
    debts = counted_debts v.debts n left;
    spares = v.spares + (1 - is_free left);
  }

  abbrev pub counting_made : View G E P N F → ℕ → ℕ → View G E P N F
  counting_made v n left = record v {
    debts = made_debts v.debts n left;
    spares = v.spares + (1 - is_free left);
  }

  abbrev pub learning : View G E P N F → F → View G E P N F
  learning v f = record v { facts = v.facts ++ f ∷ [] }

module _ {G E P N F : Type 0} where
  -- an entry of the view's log set the slot so, and the payload is not put
  abbrev pub OwesPayload : View G E P N F → ℕ → ℕ → ℕ → Type 0
  OwesPayload v n k x = (j : ℕ) × (get_elem? v.debts.unput j ≡ some (n, k, x))

  -- the view's seat put a payload of the EDT that it has not counted
  abbrev pub OwesCount : View G E P N F → ℕ → Type 0
  OwesCount v n = 1 ≤ tally (of_edt n) v.debts.put

  -- an entry of the view's log made the EDT with so many slots, and this is not counted
  abbrev pub OwesMaking : View G E P N F → ℕ → ℕ → Type 0
  OwesMaking v n d = (j : ℕ) × (get_elem? v.debts.made j ≡ some (n, d))

  abbrev pub HasClaim : View G E P N F → ℕ → Type 0
  HasClaim v n = 1 ≤ times n v.claims

  -- an entry of the view's log resumed the EDT, and it is not made ready
  abbrev pub OwesResume : View G E P N F → ℕ → Type 0
  OwesResume v n = 1 ≤ times n v.debts.resumes

module _ {G E P N F : Type 0} (m : Meaning G E P N F) (t : Terms G) where
  -- what a view knows of the history, also once it knows that this has ended
  pub record Knows (J : List E) (v : View G E P N F) : Type 0 where
    pub run : Run (m.legal t.setting.value t.limit) J
    pub log : LogOf J v.log
    pub facts : FactsOf (m.stands t.setting.value t.limit J) v.facts
    pub fits : v.closed ≡ None → Fits m t J v

  -- the EDT has the slot
  abbrev pub HasSlot : View G E P N F → ℕ → ℕ → Type 0
  HasSlot v n k = (J : List E) → Knows J v → (d : ℕ) × (slots_of m t (reverse J) n ≡ Some d) ×
      (k < d)

  -- the EDT waits for a part
  abbrev pub Waits : View G E P N F → ℕ → Type 0
  Waits v n = (J : List E) → Knows J v → (p : ℕ) × (awaited m t (reverse J) n ≡ Some p)

  -- the EDT has its end
  abbrev pub IsOver : View G E P N F → ℕ → Type 0
  IsOver v n = (J : List E) → Knows J v → is_ended m t (reverse J) n ≡ true

  abbrev pub MayStep : View G E P N F → ℕ → WordStep → Type 0
  MayStep v n (word.Put k x) = OwesPayload v n k x
  MayStep v n word.Count = OwesCount v n
  MayStep v n (word.CountMade d) = OwesMaking v n d
  MayStep v n (word.Read k) = HasClaim v n × HasSlot v n k
  MayStep v n word.Claim = IsNumber t.limit n
  MayStep v n word.Park = HasClaim v n × Waits v n
  MayStep v n word.Resume = OwesResume v n
  MayStep v n word.Drop = HasClaim v n × IsOver v n

-- the slot or the slot count of a step on an EDT's words is in range
abbrev pub FitsSlots : WordStep → Type 0
FitsSlots (word.Put k x) = k < 32
FitsSlots (word.CountMade d) = d ≤ 32
FitsSlots other = Unit {0}

-- what a step leaves of a count of the view's units
abbrev pub count_after : WordStep → ℕ → ℕ → ℕ
count_after word.Claim x c = c + is_free x
count_after word.Count x c = c - is_free (x - 1)
count_after (word.CountMade d) x c = c - is_free (x - (33 - d))
count_after word.Resume x c = c - 1
count_after other x c = c

-- WHAT THE STEP TELLS, from the view v to the view w, where the word was x
module _ {G E P N F : Type 0} (m : Meaning G E P N F) where
  -- some history so far is one that the view knows, and the word of the EDT says so much of it
  abbrev pub SeesWord : View G E P N F → ℕ → ℕ → Type 0
  SeesWord w n x = (t : Terms G) → w.terms ≡ Some t → (J : List E) × Knows m t J w × Found m t
      (reverse J) w n x

  -- some history so far is one that the view knows, in which the EDT may start
  abbrev pub SeesReady : View G E P N F → ℕ → Type 0
  SeesReady w n = (t : Terms G) → w.terms ≡ Some t → (J : List E) × Knows m t J w × IsSet m t
      (reverse J) n × (is_started m t (reverse J) n ≡ false) × (awaited m t (reverse J) n ≡ None)

  abbrev pub StepTells : ℕ → WordStep → View G E P N F → ℕ → View G E P N F → Type 0
  StepTells n (word.Put k p) v x w = w ≡ putting v n k p
  StepTells n word.Count v x w = (w ≡ counting_down v n (x - 1)) × (1 ≤ x) × (x ≤ 33)
      × SeesWord w n (x - 1)
  StepTells n (word.CountMade d) v x w = (w ≡ counting_made v n (x - (33 - d))) × (d ≤ 32) ×
      (33 - d ≤ x) × (x ≤ 33) × SeesWord w n (x - (33 - d))
  StepTells n (word.Read k) v x w = (w ≡ learning v (m.counting.is_set n k x)) × Sees m w
  StepTells n word.Claim v x w = ((x ≡ READY) × (w ≡ claiming v n) ×
      SeesReady w n × (units w < 18446744073709551616)) ⊎ ((x ≢ READY)
      × (w ≡ v) × SeesWord w n x)
  StepTells n word.Park v x w = w ≡ unclaiming v n
  StepTells n word.Resume v x w = w ≡ resuming v n
  StepTells n word.Drop v x w = w ≡ unclaiming v n

  -- the step of a seat, which no act of a slot comes with
  abbrev pub steps_word : Option (ℕ × WordStep) → Me (Option P) (View G E P N F) → ℕ → Me
      (Option P) (View G E P N F) → Type 0
  steps_word None me x w = Unit {0}
  steps_word (Some s) me x w = (w.1 ≡ me.1) × StepTells s.0 s.1 me.0 x w.0
