-- Arguments one after another.
use Rattle.std.proofs.Common.{◌≡◌, refl, ap}
use Rattle.ocr_program_tree.specs.Tree.{Arguments, empty, value, list, named}
use Rattle.ocr_program_parser.specs.Joined.{with}

pub with_none : (a : Arguments) → with a empty ≡ a
with_none empty = refl
with_none (value e a) = ap (value e) (with_none a)
with_none (list es a) = ap (list es) (with_none a)
with_none (named x a) = ap (named x) (with_none a)

pub with_more : (a b c : Arguments) → with (with a b) c ≡ with a (with b c)
with_more empty b c = refl
with_more (value e a) b c = ap (value e) (with_more a b c)
with_more (list es a) b c = ap (list es) (with_more a b c)
with_more (named x a) b c = ap (named x) (with_more a b c)
