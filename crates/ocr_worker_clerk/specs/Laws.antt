-- The laws that the table asks of the machine.
use Rattle.ocr_turns_rule.specs.Counts.{CountingLaws}
use Rattle.ocr_turns_rule.specs.Meaning.{Lawful}
use Rattle.ocr_worker_machine.specs.Ocr.{meaning}
use Rattle.ocr_worker_machine.proofs.Counted as counted_proof
use Rattle.ocr_worker_machine.proofs.Lawful as lawful_proof

pub lawful : Lawful meaning
lawful = lawful_proof.lawful

pub counted : CountingLaws meaning
counted = counted_proof.counted
