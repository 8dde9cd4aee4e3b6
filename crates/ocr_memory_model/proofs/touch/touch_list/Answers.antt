use Rattle.ocr_machine_history.specs.History.{history_of}
use Rattle.ocr_memory_model.proofs.Marked.{touches_are}
use Rattle.ocr_memory_model.proofs.touch.touch_list.Goals as goal

pub returns-clause-touches : goal.returns-clause-touches
returns-clause-touches c =
    touches_are (history_of c.args.entries.now) c.in_ok-marks.marks c.in_ok-touches.touches.items c.in_ok-marks.ensures.marked c.in_ok-touches.ensures.ordered c.in_ok-touches.ensures.touches
