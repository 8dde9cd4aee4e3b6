-- A clerk between its calls, and at work.
use Rattle.std.proofs.Common.{◌≡◌, inr, ⊎_elim, ℕ, ◌+◌, ◌<◌, ◌≤◌, List, [], ◌∷◌, ◌++◌, length, refl, ap, arith}
use Rattle.ocr_worker_clerk.specs.Entry.{OcrKnown}
use Rattle.ocr_worker_clerk.specs.Work.{AtWork, IsIdleClerk, IsResting, OcrTable, with_spare}
use Rattle.ocr_worker_clerk.proofs.Goes.{Calm, work_still}
use Rattle.ocr_body_code.specs.declared.checked.Checked.{Checked}
use Rattle.ocr_turns_rule.specs.Contract.{SameHand}
use Rattle.ocr_turns_rule.specs.Sums.{sum_of}
use Rattle.ocr_turns_rule.specs.Units.{claim_count, one_each}
use Rattle.ocr_turns_rule.specs.Words.{claiming}
use Rattle.ocr_worker.specs.Progress.{IsBetween}

-- with a unit to spare, or a claim, it is at work
pub rested_work : (table : OcrTable) (program : Checked) (c : OcrKnown) → IsResting table program c → 1 ≤ c.view.spares + claim_count c.view → AtWork table program c
rested_work table program c rests stake = record {
  of_table = rests.of_table;
  limits = rests.limits;
  program_is = rests.program_is;
  runnable = rests.runnable;
  is_open = rests.is_open;
  unstopped = rests.unstopped;
  room = rests.room;
  spare = rests.spare;
  weighs = rests.weighs;
  light = rests.light;
  few = rests.few;
  full = rests.full;
  loads = rests.loads;
  stake = stake;
  raised = rests.raised;
  ended = rests.ended;
}

-- and who is at work could rest
pub work_rests : (table : OcrTable) (program : Checked) (c : OcrKnown) → AtWork table program c → IsResting table program c
work_rests table program c work = record {
  of_table = work.of_table;
  limits = work.limits;
  program_is = work.program_is;
  runnable = work.runnable;
  is_open = work.is_open;
  unstopped = work.unstopped;
  room = work.room;
  spare = work.spare;
  weighs = work.weighs;
  light = work.light;
  few = work.few;
  full = work.full;
  loads = work.loads;
  stake = let s = work.stake in omega (arith, s);
  raised = work.raised;
  ended = work.ended;
}

no_claims : (c : OcrKnown) → IsIdleClerk c → claim_count c.view ≡ 0
no_claims c idle = ap (sum_of one_each) idle.claims

-- BETWEEN its calls
pub worked_between : (table : OcrTable) (program : Checked) (c : OcrKnown) → AtWork table program c → IsIdleClerk c → IsBetween table program c
worked_between table program c work idle = record {
  rests = work_rests table program c work;
  idle = idle;
  stake = inr (let s = work.stake in let n = no_claims c idle in omega (arith, s, n));
}

-- who owes a message is at work
pub owing_work : (table : OcrTable) (program : Checked) (c : OcrKnown) → IsBetween table program c → 0 < length c.view.owed → AtWork table program c
owing_work table program c between owes = ⊎_elim
    (λ none. let n = ap (λ (l : List _). length l) none in absurd (omega (arith, n, owes)))
    (λ some. rested_work table program c between.rests (omega (arith, some)))
    between.stake

-- a claim that was won puts it to work
pub claimed_work : (table : OcrTable) (program : Checked) (edt : ℕ) (old new : OcrKnown) → IsBetween table program old → SameHand old new → new.view ≡ claiming old.view edt → AtWork table program new
claimed_work table program edt old new between same view = work_still table program (with_spare old) new (claiming old.view edt) between.rests same.0 view calm room spare
  where
    calm : Calm (with_spare old).view (claiming old.view edt)
    calm = record {
      terms = refl;
      root = refl;
      seat = refl;
      out = refl;
      joined = refl;
      log = refl;
      weight = refl;
      drawn = refl;
      full = refl;
      reached = refl;
      closed = refl;
      stake =
          let before = no_claims old between.idle in
          let after : claim_count (claiming old.view edt) ≡ 1 = ap (λ (l : List ℕ). sum_of one_each (l ++ edt ∷ [])) between.idle.claims in omega (arith, before, after);
      raised = refl;
      ended = refl;
    }

    room : old.room ≤ new.room
    room = let r = same.2.0 in omega (arith, r)

    spare : old.spare + length old.parts ≤ new.spare + length new.parts
    spare = let s = same.2.1 in let l = ap (λ (ps : List _). length ps) same.1 in omega (arith, s, l)
