-- What stays over a worker's rounds.
use Rattle.std.proofs.Common.{◌≡◌, ◌≢◌, ℕ, ◌+◌, ◌<◌, ◌≤◌, ◌==◌, Bool, true, false, refl, sym, ◌∙◌, subst, arith}
use Rattle.std.proofs.lemmas.Bool.{eqb-true, eqb-false}
use Rattle.ocr_worker.specs.Debts.{IsAtRest}
use Rattle.ocr_worker_clerk.specs.Entry.{OcrKnown}
use Rattle.ocr_worker_clerk.specs.Work.{OcrTable}
use Rattle.ocr_worker_machine.specs.Drained.{IsUnready}
use Rattle.ocr_worker_machine.specs.Ocr.{meaning}
use Rattle.ocr_turns_rule.specs.Counts.{READY}
use Rattle.ocr_turns_rule.specs.Words.{SeesWord}
use Rattle.ocr_worker.specs.Leave.{AllUnready}

-- in a quiet run nothing changes
abbrev pub Rests : OcrTable → OcrKnown → OcrKnown → Type 0
Rests table old now = IsAtRest table old → now ≡ old

pub rests_next : (table : OcrTable) (old now new : OcrKnown) → Rests table old now → (IsAtRest table now → new ≡ now) → Rests table old new
rests_next table old now new was next rest =
    let same = was rest in next (subst (IsAtRest table) (sym same) rest) ∙ same

-- no EDT up to this number was ready, or one was
pub record IsPassing (limit number : ℕ) (any : Bool) (old now : OcrKnown) : Type 0 where
  pub most : number ≤ limit
  pub none : any ≡ false → (now ≡ old) × ((n : ℕ) → 1 ≤ n → n ≤ number → IsUnready now.view n)

pub passing_first : (limit : ℕ) (c : OcrKnown) → IsPassing limit 0 false c c
passing_first limit c = record { most = omega arith; none = λ _. (refl, λ n low high. absurd (omega (arith, low, high))) }

pub passing_lost : (limit number word : ℕ) (any later : Bool) (first old new : OcrKnown) → number < limit → later ≡ any → new ≡ old → word ≢ READY → SeesWord meaning new.view (number + 1) word → IsPassing limit number any first old → IsPassing limit (number + 1) later first new
passing_lost limit number word any later first old new lt same unmoved unready sees was = record {
  most = omega (arith, lt);
  none = λ off.
      let before = was.none (sym same ∙ off) in (
        unmoved ∙ before.0,
        λ n low high. elim (n == number + 1) as (λ b. (n == number + 1) ≡ b → IsUnready new.view n) [
          | true ↦ λ is. subst (IsUnready new.view) (sym (eqb-true n (number + 1) is)) (word, unready, sees)
          | false ↦ λ apart.
              let differ : n ≢ number + 1 = eqb-false n (number + 1) apart in
              subst (λ (c : OcrKnown). IsUnready c.view n) (sym unmoved) (before.1 n low (omega (arith, high, differ)))
        ] refl,
      );
}

pub passing_won : (limit number : ℕ) (later : Bool) (first new : OcrKnown) → number < limit → later ≡ true → IsPassing limit (number + 1) later first new
passing_won limit number later first new lt won = record { most = omega (arith, lt); none = λ off. cc (won, off) }

pub passed : (limit number : ℕ) (any : Bool) (first now : OcrKnown) → limit ≤ number → IsPassing limit number any first now → any ≡ false → (now ≡ first) × AllUnready limit now
passed limit number any first now all was off =
    let r = was.none off in (r.0, λ n range. r.1 n range.0 (let high = range.1 in omega (arith, all, high)))
