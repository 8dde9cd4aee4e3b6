-- How a run is stopped by a body.
use Rattle.std.specs.Prelude.{ℕ}
use Rattle.ocr_body_meaning.specs.declared.call.BodyStop.{BodyStop}
use Rattle.ocr_body_meaning.specs.declared.call.BodyStop.TheVariants as stop
use Rattle.ocr_machine_history.specs.declared.entry.Fault.TheVariants as kind
use Rattle.ocr_machine_history.specs.declared.entry.Stop as run
use Rattle.ocr_machine_history.specs.declared.entry.Stop.TheVariants as by

-- where the body of the EDT stopped so
abbrev pub stop_for : ℕ → BodyStop → run.Stop
stop_for t stop.Shutdown = by.Shutdown t
stop_for t (stop.Abort code) = by.Abort t code
stop_for t stop.ZeroDivisor = by.Fault t kind.ZeroDivisor
stop_for t stop.BadIndex = by.Fault t kind.BadIndex
stop_for t stop.NotHeld = by.Fault t kind.NotHeld
stop_for t stop.NotWritable = by.Fault t kind.NotWritable
stop_for t stop.Fuel = by.Fault t kind.Fuel
stop_for t other = by.Memory
