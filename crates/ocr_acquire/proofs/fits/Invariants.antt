use Rattle.std.proofs.Common.{◌≡◌, drop}
use Rattle.ocr_acquire.specs.Mode.{fits_all}
use Rattle.ocr_acquire.proofs.fits.Given as goal

abbrev pub invariant-loop-held : goal.invariant-loop-held
invariant-loop-held l = fits_all l.mode (drop l.held-index l.holders) ≡ fits_all l.mode l.holders
