-- What two takings from a source come to.
use Rattle.std.proofs.Common.{◌≡◌, ◌+◌, ℕ, List, ◌++◌, length, Option, refl, ◌∙◌, arith, length-append}
use Rattle.std.specs.Io.KnownBytes.{Consumes}
use Rattle.ocr_base.specs.Count.{RoseBy}
use Rattle.ocr_io.specs.Source.{Took}
use Rattle.ocr_io.proofs.KnownBytes.{consumes_more}

rose_on : (g h i m n k : ℕ) → RoseBy g h m → RoseBy h i n → k ≡ m + n → RoseBy g i k
rose_on g h i m n k before now is = λ fits.
    let first : h ≡ g + m = before (omega arith) in
    let second : i ≡ h + n = now (omega arith) in
    omega arith

pub took_more : (a b c : Option (List ℕ)) (g h i : ℕ) (xs ys : List ℕ) (n k : ℕ) → Consumes a b xs → Consumes b c ys → RoseBy g h (length xs) → RoseBy h i n → n ≡ length ys → k ≡ length xs + n → Took a c g i k
took_more a b c g h i xs ys n k before now rose_before rose_now size is = record {
  bytes = xs ++ ys;
  count = length-append xs ys ∙ omega (arith, size, is);
  front = consumes_more a b c xs ys (xs ++ ys) before now refl;
  given = rose_on g h i (length xs) n k rose_before rose_now is;
}
