use Rattle.ocr_worker_delivery.specs.Delivery.{no_parts}
use Rattle.ocr_worker_delivery.proofs.delivery.enter_delivery.Given as goal

abbrev pub ghost-enter_kept : goal.ghost-enter_kept
ghost-enter_kept g a = no_parts
