-- A worker that gave up all its units.
use Rattle.std.proofs.Common.{◌≡◌, inl, ℕ, List, [], ◌∷◌, Option, refl, sym, ◌∙◌, subst, arith}
use Rattle.std.specs.Prelude.{MatchOption}
use Rattle.ocr_worker_clerk.specs.Entry.{OcrKnown}
use Rattle.ocr_worker_clerk.specs.Work.{IsAway, IsIdleClerk, IsOwnStop, IsResting, OcrTable, Stays}
use Rattle.ocr_body_code.specs.declared.checked.Checked.{Checked}
use Rattle.ocr_worker_machine.specs.Clerks.{OcrView}
use Rattle.ocr_machine_history.specs.declared.entry.Stop as run
use Rattle.ocr_machine_history.specs.declared.entry.What.{What}
use Rattle.ocr_base.specs.Mail.{tally}
use Rattle.ocr_turns_rule.specs.Units.{one_each, units}
use Rattle.ocr_worker.specs.Leave.{HasGivenUp, IsWorker}

no_letters : (xs : List (ℕ × ℕ × What)) → tally one_each xs ≡ 0 → xs ≡ []
no_letters [] none = refl
no_letters (x ∷ xs) none = absurd (omega (arith, none))

-- it owes no message
no_mail : (v : OcrView) → units v ≡ 0 → v.owed ≡ []
no_mail v none = no_letters v.owed (omega (arith, none))

pub given_up : (table : OcrTable) (program : Checked) (c : OcrKnown) → IsResting table program c → IsIdleClerk c → units c.view ≡ 0 → HasGivenUp table program c
given_up table program c rests idle none =
    let delivered = no_mail c.view none in record {
      between = record { rests = rests; idle = idle; stake = inl delivered };
      delivered = delivered;
      none = none;
    }

-- it left nothing behind that is not its own
pub rested_left : (table : OcrTable) (program : Checked) (worker : ℕ) (c : OcrKnown) → IsResting table program c → IsAway table worker c
rested_left table program worker c rests = record {
  of_table = rests.of_table;
  few = rests.few;
  weighs = rests.weighs;
  light = rests.light;
  own = subst (λ (o : Option run.Stop). MatchOption o (Unit {0}) (IsOwnStop table.1 worker c.view)) (sym rests.unstopped) tt;
}

pub worker_stays : (old new : OcrKnown) → Stays old new → IsWorker old → IsWorker new
worker_stays old new stays is = stays.seat ∙ is
