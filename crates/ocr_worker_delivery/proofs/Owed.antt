-- A message that a clerk owes and that sets a slot may be delivered, whatever the history is.
use Rattle.std.proofs.Common.{◌≡◌, ℕ, ◌-◌, true, false, ◌&&◌, if◌then◌else◌, List, [], Option, refl, ap, sym, subst, arith}
use Rattle.ocr_body_code.specs.Checked.{checked_tree}
use Rattle.ocr_body_code.specs.declared.checked.Checked.{Checked}
use Rattle.ocr_program_tree.specs.Runnable.{IsRunnable}
use Rattle.ocr_guid.specs.declared.Code.TheVariants as code
use Rattle.ocr_machine_history.specs.declared.entry.Message.{Message}
use Rattle.ocr_machine_history.specs.declared.entry.What.{What}
use Rattle.ocr_machine_history.specs.declared.entry.What.TheVariants as what
use Rattle.ocr_machine_parts.specs.Footprint.{Covers, is_brought_to, is_touched}
use Rattle.ocr_machine_parts.specs.LegalOn.{IsDeliverOn}
use Rattle.ocr_machine_parts.specs.Messages.{sends}
use Rattle.ocr_machine_parts.specs.declared.part.Part.{Part}
use Rattle.ocr_machine_parts.specs.Parts.{Parts}
use Rattle.ocr_machine_parts.specs.Taken.{is_within}
use Rattle.ocr_machine_laws.specs.Kept.{kept_ready}
use Rattle.ocr_worker_machine.specs.Clerks.{MayEnter}
use Rattle.ocr_worker_machine.specs.Ocr.{touches}
use Rattle.ocr_worker_machine.proofs.Owed.{owed_is, no_facts}
use Rattle.ocr_turns_rule.specs.Sums.{as_some, keys}
use Rattle.ocr_worker_clerk.specs.Entry.{CanMake, OcrKnown}
use Rattle.ocr_worker_clerk.specs.Work.{AtWork, HasAllAtHand, IsIdleClerk, OcrTable, in_hand}
use Rattle.ocr_worker_clerk.proofs.Counters.{none_counted}
use Rattle.ocr_worker_delivery.specs.Delivery.{IsOwed, SetsSlot, delivery_of, no_parts}
use Rattle.ocr_base.proofs.Booleans.{and_false}

brought_none : (x : What) (p : ℕ) → SetsSlot x → is_brought_to x p ≡ false
brought_none (what.Set edt slot payload) p sets = refl
brought_none other p sets = absurd sets

untouched : (limit : ℕ) (m : Message) (p : ℕ) → SetsSlot m.what → is_touched limit (delivery_of m) p ≡ false
untouched limit m p sets = elim (is_within limit p) as (λ b. (if b then is_brought_to m.what p else (is_within limit (p - limit) && false)) ≡ false) [ true ↦ brought_none m.what p sets | false ↦ and_false (is_within limit (p - limit)) ]

covers_none : (limit : ℕ) (m : Message) → SetsSlot m.what → Covers limit (delivery_of m) []
covers_none limit m sets = λ p on. let off = untouched limit m p sets in cc (on, off)

named_none : (limit : ℕ) (m : Message) (p : ℕ) → SetsSlot m.what → touches limit (delivery_of m) p ≡ 0
named_none limit m p sets = none_of m.what sets
  where
    none_of : (x : What) → SetsSlot x → touches limit (delivery_of (record m { what = x })) p ≡ 0
    none_of (what.Set edt slot payload) is = refl
    none_of other is = absurd is

pub sends_none : (m : Message) (f : Parts) → SetsSlot m.what → sends (delivery_of m) f ≡ []
sends_none m f sets = none_of m.what sets
  where
    none_of : (x : What) → SetsSlot x → sends (delivery_of (record m { what = x })) f ≡ []
    none_of (what.Set edt slot payload) is = refl
    none_of other is = absurd is

set_on : (f : Parts) (x : What) → SetsSlot x → IsDeliverOn f x code.Done
set_on f (what.Set edt slot payload) is = refl
set_on f other is = absurd is

may_deliver : (table : OcrTable) (p : Checked) (c : OcrKnown) (m : Message) → AtWork table p c → IsOwed m c.view → SetsSlot m.what → MayEnter table.1 c.view (delivery_of m) [] []
may_deliver table p c m work owed sets = record {
  runnable = subst (λ (q : Checked). IsRunnable (checked_tree q)) (sym work.program_is) work.runnable;
  at_hand = record { once = λ n. omega arith; there = λ n here. cc here; alike = λ n here. cc here };
  covers = covers_none table.1.limit m sets;
  on_hand = set_on (kept_ready table.1.limit [] (delivery_of m) []) m.what sets;
  plans = λ J open_run fits waking. absurd waking;
  set = λ J open_run fits. tt;
  says = λ J open_run fits. owed_is table.1 c.view J owed.0 m.place m.index m.what fits owed.1;
  told = λ J open_run fits follows. no_facts _;
}

bare_can : (table : OcrTable) (p : Checked) (c : OcrKnown) (m : Message) → AtWork table p c → IsIdleClerk c → IsOwed m c.view → SetsSlot m.what → CanMake table.1 c.view (delivery_of m) no_parts []
bare_can table p c m work idle owed sets = record {
  goes = refl;
  owes = (owed.0, m.what, owed.1);
  drawn = tt;
  claims = record { starts = λ n is. cc is; waits = λ n d is. cc is; resumes = λ n one. absurd (omega (arith, one)) };
  may = may_deliver table p c m work owed sets;
  ready = refl;
  same_keys = refl;
  places = λ n. (sym (named_none table.1.limit m n sets), omega arith);
  counters = none_counted table.1.limit [] tt;
}

pub can_deliver : (table : OcrTable) (p : Checked) (c : OcrKnown) (m : Message) → AtWork table p c → IsIdleClerk c → IsOwed m c.view → SetsSlot m.what → CanMake table.1 c.view (delivery_of m) no_parts (in_hand c.parts)
can_deliver table p c m work idle owed sets =
    subst (λ (ps : List (ℕ × Option Part)). CanMake table.1 c.view (delivery_of m) no_parts (in_hand ps)) (sym idle.hand) (bare_can table p c m work idle owed sets)

pub idle_hand : (c : OcrKnown) → IsIdleClerk c → HasAllAtHand c []
idle_hand c idle = record {
  at_hand = subst (λ (ps : List (ℕ × Option Part)). ps ≡ as_some (in_hand ps)) (sym idle.hand) refl;
  kept = ap (λ (ps : List (ℕ × Part)). keys ps) idle.kept;
  hand = ap (λ (ps : List (ℕ × Option Part)). keys ps) idle.hand;
}
