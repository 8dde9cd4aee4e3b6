-- The order of a run, with the state and the setting of one, handed on.
use Rattle.ocr_machine_history.specs.History.{History, Setting}
use Rattle.ocr_machine_parts.specs.Legal.{IsRun}
pub use Rattle.ocr_machine_state.specs.State.{IsStateOf, face_on}
pub use Rattle.ocr_worker_machine.specs.Ocr.{setting_in}
use Rattle.ocr_memory_model_rows.specs.Order.{IsOrder}
use Rattle.ocr_memory_model_order.specs.Causes.{graph_of}
use Rattle.ocr_memory_model.specs.declared.happens_before.HappensBefore.{HappensBefore}

pub record Orders (s : Setting) (J : History) (order : HappensBefore) : Type 0 where
  pub run : IsRun s J
  pub rows : IsOrder (graph_of s J) order.rows
