-- The laws of bodies.
use Rattle.ocr_body_meaning.proofs.Accesses.{access_law}
use Rattle.ocr_body_meaning.proofs.Makes.{served_law}
use Rattle.ocr_body_meaning.proofs.Spent.{fuel_law}
use Rattle.ocr_body_meaning.proofs.Units.{units_law}
use Rattle.ocr_body_meaning.proofs.Words.{words_law}

pub ruleset laws = (served_law, access_law, fuel_law, units_law, words_law)
