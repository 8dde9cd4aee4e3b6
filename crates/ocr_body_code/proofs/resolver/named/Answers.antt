use Rattle.std.proofs.Common.{◌∙◌, ap}
use Rattle.ocr_body_code.specs.Resolved.{numbers_of}
use Rattle.ocr_body_code.proofs.Calls.{name_is}
use Rattle.ocr_body_code.proofs.resolver.named.Goals as goal

pub returns-clause-ok : goal.returns-clause-ok
returns-clause-ok c = λ xs before.
    name_is (numbers_of c.args.numbers.now) c.args.names.now c.place.new.self c.in_ok-place.place c.number-number.result c.in_ok-rest.rest c.args.rest c.args.name.now xs
    c.in_ok-place.ensures.grew c.in_ok-place.ensures.ok (c.number-number.ensures ∙ ap (numbers_of c.args.numbers.now) c.as_bytes.ensures) before c.in_ok-rest.ensures
