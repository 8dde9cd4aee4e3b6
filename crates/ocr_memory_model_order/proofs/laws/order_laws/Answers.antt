use Rattle.ocr_memory_model_order.proofs.Forward.{forward_law}
use Rattle.ocr_memory_model_order.proofs.Loaded.{loaded_law}
use Rattle.ocr_memory_model_order.proofs.Steady.{later_law}
use Rattle.ocr_memory_model_order.proofs.Writes.{writes_before_law}
use Rattle.ocr_memory_model_order.proofs.Graphs.{graph_law}
use Rattle.ocr_memory_model_order.proofs.laws.order_laws.Goals as goal

pub returns-clause-forward : goal.returns-clause-forward
returns-clause-forward c = forward_law

pub returns-clause-graph : goal.returns-clause-graph
returns-clause-graph c = graph_law

pub returns-clause-writes : goal.returns-clause-writes
returns-clause-writes c = writes_before_law

pub returns-clause-later : goal.returns-clause-later
returns-clause-later c = later_law

pub returns-clause-loaded : goal.returns-clause-loaded
returns-clause-loaded c = loaded_law
