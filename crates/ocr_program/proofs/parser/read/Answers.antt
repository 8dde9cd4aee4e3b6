use Rattle.std.proofs.Common.{◌∙◌, sym, ap, subst, arith, rules, ◌+◌}
use Rattle.ocr_program_grammar.specs.Limits as limits
use Rattle.ocr_program_parser.specs.View.{state_of, state_if_any}
use Rattle.ocr_program.proofs.Places.{Progress, within_limits, token_at, passed, stepped, over_at, stop_at, tree_at_end, fault_at_end}
use Rattle.ocr_program.proofs.parser.read.Goals as goal

pub read_token-requires : goal.read_token-requires
read_token-requires c = token_at _ _ _ _ c.requires c.loop-place-test.true

pub loop-place-preserved-in_default : goal.loop-place-preserved-in_default
loop-place-preserved-in_default c =
    passed _ _ _ _ _ _ c.loop-place.invariant c.loop-place-test.true (sym c.in_ok-lexeme.ensures ∙ c.in_default.is)

pub tally_after-tally-requires : goal.tally_after-tally-requires
tally_after-tally-requires c = within_limits _ _ _ _ _ c.loop-place.invariant

pub returns-then-is_over : goal.returns-then-is_over
returns-then-is_over c =
    over_at _ _ _ _ _ _ _ c.requires c.loop-place.invariant c.loop-place-test.true (sym c.in_ok-lexeme.ensures ∙ c.in-Some.is)
    (sym (ap limits.is_over c.tally_after-tally.ensures) ∙ sym c.is_over.ensures ∙ c.if-is_over.true)

pub returns-in_default-2 : goal.returns-in_default-2
returns-in_default-2 c =
    stop_at _ _ _ _ _ _ _ c.requires c.loop-place.invariant c.loop-place-test.true (sym c.in_ok-lexeme.ensures ∙ c.in-Some.is)
    (sym c.in_ok-next.ensures ∙ ap state_if_any c.in_default-2.is)

pub loop-place-preserved : goal.loop-place-preserved
loop-place-preserved c =
    subst (λ (y : limits.Tally). Progress c.args.bytes.now c.args.tokens.now (c.loop-place.place + 1) (state_of c.in-Some-2.next) y) (sym c.tally_after-tally.ensures)
    (stepped _ _ _ _ _ _ _ _ c.loop-place.invariant c.loop-place-test.true (sym c.in_ok-lexeme.ensures ∙ c.in-Some.is)
    (sym c.in_ok-next.ensures ∙ ap state_if_any c.in-Some-2.is) (sym (ap limits.is_over c.tally_after-tally.ensures) ∙ sym c.is_over.ensures ∙ c.if-is_over.false))

pub returns-in-Some-finished : goal.returns-in-Some-finished
returns-in-Some-finished c = tree_at_end _ _ _ _ _ _ c.requires c.loop-place.invariant (omega arith) (search rules)

pub returns-in-None : goal.returns-in-None
returns-in-None c = fault_at_end _ _ _ _ _ c.requires c.loop-place.invariant (omega arith) (search rules)
