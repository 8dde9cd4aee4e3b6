use Rattle.std.proofs.Common.{length, sym, subst}
use Rattle.ocr_machine_history.specs.declared.entry.Entry.{Entry}
use Rattle.ocr_machine_history.specs.History.{History, history_of}
use Rattle.ocr_memory_model.specs.declared.race.Race.{Race}
use Rattle.ocr_memory_model.specs.RaceList.{AreRaces}
use Rattle.ocr_memory_model.specs.Touches.{AreTouches}
use Rattle.ocr_memory_model.specs.Walk.{is_before}
use Rattle.std.specs.Prelude.{List}
use Rattle.ocr_memory_model.proofs.Racers.{races_told}
use Rattle.ocr_memory_model.proofs.Walks.{walk_begun, few_pairs}
use Rattle.ocr_memory_model.proofs.walk.Touches.of.Goals as goal

pub returns-clause-races : goal.returns-clause-races
returns-clause-races c = λ s run.
    let J : History = history_of c.args.journal.now in
    let P : List Race → Type 0 = λ races. AreRaces s J races in
    subst P (sym (walk_begun (is_before s J) c.in_ok-list.list.items))
    (races_told s J c.in_ok-list.list.items run
    (subst (λ (xs : List Entry). AreTouches (history_of xs) c.in_ok-list.list.items) c.entries.ensures c.in_ok-list.ensures.touches))

pub returns-clause-few : goal.returns-clause-few
returns-clause-few c =
    few_pairs (length c.in_ok-list.list.items) (length c.args.journal.now) (rw c.entries.ensures at c.in_ok-list.ensures.few)
