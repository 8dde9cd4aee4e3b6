use Rattle.std.proofs.Common.{refl, sym}
use Rattle.ocr_body_code.specs.Checked.{checked_tree}
use Rattle.ocr_machine_history.specs.History.{setting_of}
use Rattle.ocr_replay.proofs.Plays.{first_replaying}
use Rattle.ocr_replay.proofs.state.Replay.opened.Goals as goal

pub returns-clause-begun : goal.returns-clause-begun
returns-clause-begun c = λ xs.
    let s = setting_of (checked_tree c.args.program.now) c.args.args.now c.args.limit in
    first_replaying s xs _ _ _ (c.in_ok-table.ensures s (sym c.main_function.ensures) refl refl) c.new.ensures

pub returns-clause-limit : goal.returns-clause-limit
returns-clause-limit c =
    let s = setting_of (checked_tree c.args.program.now) c.args.args.now c.args.limit in
    (c.in_ok-table.ensures s (sym c.main_function.ensures) refl refl).limit
