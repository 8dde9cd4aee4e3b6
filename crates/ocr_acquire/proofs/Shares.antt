-- What the test over all holders tells.
use Rattle.std.proofs.Common.{ℕ, List, refl, IsTrue}
use Rattle.std.specs.Bool.{Decides}
use Rattle.std.specs.List.{All}
use Rattle.std.proofs.lemmas.Bool.Decides.{Decides-by_and}
use Rattle.ocr_acquire.specs.declared.Mode.{Mode}
use Rattle.ocr_acquire.specs.Mode.{together, fits_all}

-- it says whether the mode goes with that of each holder
pub fits_all_decides : (m : Mode) (holders : List (ℕ × Mode)) → Decides (fits_all m holders) (All (λ holder. IsTrue (together m holder.1)) holders)
fits_all_decides m holders =
    Decides-by_and (λ (holder : ℕ × Mode). together m holder.1) (λ (holder : ℕ × Mode). IsTrue (together m holder.1)) (fits_all m) (λ _. (λ h. h, λ h. h)) refl (λ _ _. refl) holders
