-- The units that an entry needs, and what is left of the clerk's.
use Rattle.std.proofs.Common.{◌≡◌, ℕ, ◌+◌, ◌≤◌, List, [], ◌∷◌, length, Option, Some, None, ap, ◌∙◌, refl, arith}
use Rattle.ocr_machine_history.specs.declared.entry.Entry.{Entry}
use Rattle.ocr_machine_history.specs.declared.entry.Entry.TheVariants.{Call, Deliver}
use Rattle.ocr_machine_history.specs.declared.entry.What.{What}
use Rattle.ocr_base.specs.Mail.{tally}
use Rattle.ocr_body_meaning.specs.declared.call.Call.TheVariants as call
use Rattle.ocr_machine_parts.specs.declared.part.Part.{Part}
use Rattle.ocr_worker_machine.specs.Clerks.{OcrTerms, OcrView}
use Rattle.ocr_worker_machine.specs.Ocr.{counts, meaning, set_by, sets, wakes}
use Rattle.ocr_turns_rule.specs.Live.{raising}
use Rattle.ocr_turns_rule.specs.Debts.{listed}
use Rattle.ocr_turns_rule.specs.Steps.{deed, delivered, freed, logged, needed}
use Rattle.ocr_turns_rule.specs.Sums.{sum_of, weigh}
use Rattle.ocr_turns_rule.specs.Units.{claim_count, one_each, units}
use Rattle.ocr_turns_rule.proofs.Units.{claims_left}
use Rattle.ocr_worker_clerk.specs.Entry.{OcrDeed, making_units}
use Rattle.ocr_worker_clerk.specs.Work.{Pays}

-- What an entry needs but for the unit of the message that it delivers is to spare, and one unit
-- stays, or a claim.
pub record Affords (v : OcrView) (d : OcrDeed) : Type 0 where
  pub spares : needed d ≤ v.spares + delivered d.delivers
  pub stake : needed d + 1 ≤ v.spares + delivered d.delivers + claim_count v
  pub unit : 1 ≤ v.spares + claim_count v

-- so the commit may be made, and leaves as much
pub some_unit : (v : OcrView) (d : OcrDeed) → Affords v d → 1 ≤ units v
some_unit v d affords = let a = affords.unit in omega (arith, a)

pub enough_units : (v : OcrView) (d : OcrDeed) → Affords v d → needed d ≤ v.spares + freed v d
enough_units v d affords = let a = affords.spares in omega (arith, a)

pub still_staked : (v : OcrView) (n : ℕ) (d : OcrDeed) → Affords v d → 1 ≤ (logged v n d).spares + claim_count (logged v n d)
still_staked v n d affords = let a = affords.spares in let b = affords.stake in let c = claims_left d.leaves v.claims in omega (arith, a, b, c)

-- WHAT AN ENTRY NEEDS: a unit for the slot that a delivery sets, which the message had, one for the
-- EDT that it makes, and one for each message and each EDT that it resumes
one_tally : {A : Type 0} (o : Option (ℕ × ℕ × A)) → tally one_each (listed o) ≤ 1
one_tally None = omega arith
one_tally (Some x) = omega arith

one_weight : {A : Type 0} (o : Option (ℕ × A)) → weigh one_each (listed o) ≤ 1
one_weight None = omega arith
one_weight (Some x) = omega arith

all_sum : (ns : List ℕ) → sum_of one_each ns ≡ length ns
all_sum [] = refl
all_sum (n ∷ ns) = let r = all_sum ns in omega (arith, r)

set_few : (e : Entry) → tally one_each (listed (sets e)) ≤ delivered (meaning.delivers e)
set_few (Deliver m c) = one_tally (set_by m.what)
set_few other = omega arith

made_few : (limit : ℕ) (e : Entry) (ps : List (ℕ × Part)) → weigh one_each (listed (counts limit e ps)) ≤ making_units e
made_few limit (Call t home (call.EdtCreate from pc qs dc ds fl o) a w) ps = one_weight (counts limit (Call t home (call.EdtCreate from pc qs dc ds fl o) a w) ps)
made_few limit other ps = omega arith

needs_few : (t : OcrTerms) (v : OcrView) (e : Entry) (ps : List (ℕ × Part)) (sent : List What) → needed (deed meaning t.limit v e ps sent) ≤ delivered (meaning.delivers e) + (length sent + length (wakes t.limit e v.parts) + making_units e)
needs_few t v e ps sent =
    let a = set_few e in let b = made_few t.limit e v.parts in let c = all_sum (wakes t.limit e v.parts) in omega (arith, a, b, c)

-- so a clerk that paid for them can make it
pub paid_affords : (t : OcrTerms) (v mid w : OcrView) (e : Entry) (ps : List (ℕ × Part)) (sent : List What) (resumed : List ℕ) (n : ℕ) → n ≡ length sent + length resumed + making_units e → resumed ≡ wakes t.limit e v.parts → mid ≡ v → Pays n mid w
    → Affords w (deed meaning t.limit w e ps sent)
paid_affords t v mid w e ps sent resumed n is_n woken same pays =
    let few = needs_few t w e ps sent in let r = ap (λ (l : List ℕ). length l) woken in
    let k = ap (λ (x : OcrView). length (wakes t.limit e x.parts)) (pays.view ∙ ap (λ (x : OcrView). raising x pays.paid) same) in
    let a = pays.enough in let b = pays.stake in record {
      spares = omega (arith, few, r, k, is_n, a);
      stake = omega (arith, few, r, k, is_n, b);
      unit = omega (arith, b);
    }
