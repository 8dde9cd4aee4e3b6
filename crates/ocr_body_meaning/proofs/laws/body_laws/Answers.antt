use Rattle.ocr_body_meaning.proofs.Nodes.{nodes_law}
use Rattle.ocr_body_meaning.proofs.laws.body_laws.Goals as goal

pub returns-clause-nodes : goal.returns-clause-nodes
returns-clause-nodes c = nodes_law
