use Rattle.std.proofs.Common.{arith}
use Rattle.std.proofs.lemmas.Grind.{common_steps}
use Rattle.ocr_acquire.proofs.Shares.{fits_all_decides}
use Rattle.ocr_acquire.proofs.fits.Goals as goal

pub returns-clause-every : goal.returns-clause-every
returns-clause-every c = let t = fits_all_decides c.args.mode c.args.holders.now in (λ _. t.0 (grind (arith, common_steps)), λ _. search)
