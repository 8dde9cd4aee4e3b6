use Rattle.std.proofs.Common.{[]}
use Rattle.ocr_worker_calls.proofs.entry.enter_call.Given as goal

abbrev pub ghost-enter_at_work : goal.ghost-enter_at_work
ghost-enter_at_work g a = record { members = []; parts = a.parts.items }
