use Rattle.std.proofs.Common.{◌≡◌, ◌∙◌, Bool, Some, true, ℕ, if◌then◌else◌, ap, sym, subst, arith}
use Rattle.ocr_machine_parts.specs.Taken.{is_within}
use Rattle.ocr_turns_rule.specs.Sums.{find}
use Rattle.ocr_worker_access.proofs.Phases.{number_within, payload_is}
use Rattle.ocr_worker_access.proofs.ending.payload_of_end.Goals as goal

pub returns-then-is_block : goal.returns-then-is_block
returns-then-is_block c =
    let within : is_within c.args.limit c.args.returned ≡ true = subst (λ (n : ℕ). is_within c.args.limit n ≡ true) c.returned.view_is (number_within c.args.limit c.returned.inside.0 (omega (arith, c.if-returned-lt1.false)) (omega (arith, c.if-limit-returned.false))) in
    let found = subst (λ (n : ℕ). find n c.args.clerk.now.parts ≡ Some (Some c.part.result.now)) c.returned.view_is c.part.ensures in
    c.returned.view_is ∙ sym (payload_is c.args.limit c.args.returned c.args.clerk.now.parts c.part.result.now within found ∙ ap (λ (b : Bool). if b then c.args.returned else 0) (sym c.is_block.ensures ∙ c.if-is_block.true))

pub returns : goal.returns
returns c =
    let within : is_within c.args.limit c.args.returned ≡ true = subst (λ (n : ℕ). is_within c.args.limit n ≡ true) c.returned.view_is (number_within c.args.limit c.returned.inside.0 (omega (arith, c.if-returned-lt1.false)) (omega (arith, c.if-limit-returned.false))) in
    let found = subst (λ (n : ℕ). find n c.args.clerk.now.parts ≡ Some (Some c.part.result.now)) c.returned.view_is c.part.ensures in
    sym (payload_is c.args.limit c.args.returned c.args.clerk.now.parts c.part.result.now within found ∙ ap (λ (b : Bool). if b then c.args.returned else 0) (sym c.is_block.ensures ∙ c.if-is_block.false))
