-- What many goals share.
use Rattle.ocr_body_steps.proofs.Operands.{joined_number, joined_variable}

pub ruleset joined = (joined_number, joined_variable)
