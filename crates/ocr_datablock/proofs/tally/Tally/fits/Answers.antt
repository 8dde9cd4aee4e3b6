use Rattle.std.proofs.Common.{◌==◌, sym, ◌∙◌, ap}
use Rattle.ocr_acquire.specs.declared.Mode.TheVariants as mode
use Rattle.ocr_acquire.specs.Mode.{fits_all}
use Rattle.ocr_datablock.proofs.Tallies.{fits_clashes, fits_writer_length, fits_null_length}
use Rattle.ocr_datablock.proofs.tally.Tally.fits.Goals as goal

pub returns-in-Ro : goal.returns-in-Ro
returns-in-Ro c = λ holders tells. ap (λ n. n == 0) tells.ro ∙ sym (fits_clashes mode.Ro holders) ∙ ap (λ m. fits_all m holders) (sym c.in-Ro.is)

pub returns-in-Const : goal.returns-in-Const
returns-in-Const c = λ holders tells. ap (λ n. n == 0) tells.constant ∙ sym (fits_clashes mode.Const holders) ∙ ap (λ m. fits_all m holders) (sym c.in-Const.is)

pub returns-in-Rw : goal.returns-in-Rw
returns-in-Rw c = λ holders tells. ap (λ n. n == 0) tells.rw ∙ sym (fits_clashes mode.Rw holders) ∙ ap (λ m. fits_all m holders) (sym c.in-Rw.is)

pub returns-in-Ew : goal.returns-in-Ew
returns-in-Ew c = λ holders tells. ap (λ n. n == 0) tells.all ∙ sym (fits_writer_length holders) ∙ ap (λ m. fits_all m holders) (sym c.in-Ew.is)

pub returns-in-Null : goal.returns-in-Null
returns-in-Null c = λ holders tells. ap (λ n. n == 0) tells.all ∙ sym (fits_null_length holders) ∙ ap (λ m. fits_all m holders) (sym c.in-Null.is)
