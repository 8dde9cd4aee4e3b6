-- What is taken from a source.
use Rattle.std.specs.Prelude.{◌≡◌, ℕ, List, Option, length}
use Rattle.std.specs.Io.KnownBytes.{Consumes}
use Rattle.ocr_base.specs.Count.{RoseBy}

-- n bytes were taken: where the source tells what it has left, from the front of that
pub record Took (left_before left_now : Option (List ℕ)) (given_before given_now n : ℕ)
    : Type 0 where
  pub bytes : List ℕ
  pub count : length bytes ≡ n
  pub front : Consumes left_before left_now bytes
  pub given : RoseBy given_before given_now n
