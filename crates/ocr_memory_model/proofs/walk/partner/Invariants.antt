use Rattle.std.proofs.Common.{◌≡◌, drop}
use Rattle.ocr_machine_history.specs.History.{Setting, History}
use Rattle.ocr_memory_model.specs.Orders.{Orders}
use Rattle.ocr_memory_model.specs.Touches.{races_with}
use Rattle.ocr_memory_model.specs.Walk.{is_before}
use Rattle.ocr_memory_model.proofs.walk.partner.Given as goal

abbrev pub invariant-loop-second : goal.invariant-loop-second
invariant-loop-second l =
    (s : Setting) (J : History) → Orders s J l.order
    → races_with (is_before s J) l.x (drop l.from l.touches) ≡ races_with (is_before s J) l.x (drop l.second l.touches)
