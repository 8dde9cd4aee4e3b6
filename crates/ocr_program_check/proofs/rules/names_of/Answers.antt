use Rattle.std.proofs.Common.{◌≡◌, ◌∙◌, ◌||◌, ◌+◌, ℕ, List, true, false, refl, sym, ap}
use Rattle.std.specs.Str.{bytes_eq}
use Rattle.ocr_program_check.specs.Check.{HasNamesake}
use Rattle.ocr_program_check.specs.Names.{knows}
use Rattle.ocr_program_check.proofs.Programs.{name_breach, none_more, names_more, knows_more, not_false, not_true}
use Rattle.ocr_program_check.proofs.rules.names_of.Goals as goal

-- a name that the set had is the name of an earlier function
pub returns-then-not-branch-clause-err : goal.returns-then-not-branch-clause-err
returns-then-not-branch-clause-err c =
    let known : knows c.loop-i.names c.as_bytes.result.now ≡ true = not_false (knows c.loop-i.names c.as_bytes.result.now) (sym c.if-not-branch.true ∙ c.in_ok-insert.ensures.added) in
    name_breach c.args.functions.now c.loop-i.i c.index-functions-i.result (c.loop-i.i + 1) c.loop-i-test.true c.index-functions-i.is c.loop-i.invariant.distinct
    (sym (c.loop-i.invariant.names c.index-functions-i.result.name) ∙ ap (λ (x : List ℕ). knows c.loop-i.names x) (sym c.as_bytes.ensures) ∙ known) refl

pub loop-i-preserved : goal.loop-i-preserved
loop-i-preserved c =
    let new : knows c.loop-i.names c.as_bytes.result.now ≡ false = not_true (knows c.loop-i.names c.as_bytes.result.now) (sym c.if-not-branch.false ∙ c.in_ok-insert.ensures.added) in
    let f = c.index-functions-i.result in
    record {
      distinct = none_more HasNamesake c.args.functions.now c.loop-i.i f c.loop-i-test.true c.index-functions-i.is c.loop-i.invariant.distinct
          (λ same. let clash : true ≡ false = sym same ∙ sym (c.loop-i.invariant.names f.name) ∙ ap (λ (x : List ℕ). knows c.loop-i.names x) (sym c.as_bytes.ensures) ∙ new in cc);
      names = λ x. knows_more c.loop-i.names c.insert.new.self c.as_bytes.result c.in_ok-insert.ensures.updates x
          ∙ (λ j. bytes_eq (c.as_bytes.ensures j) x || c.loop-i.invariant.names x j)
          ∙ sym (names_more c.args.functions.now c.loop-i.i f x c.loop-i-test.true c.index-functions-i.is);
    }
