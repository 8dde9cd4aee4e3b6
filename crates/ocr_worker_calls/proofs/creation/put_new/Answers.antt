use Rattle.std.proofs.Common.{◌≡◌, ◌∙◌, ◌+◌, ◌==◌, List, ℕ, false, length, Option, ap}
use Rattle.ocr_machine_parts.specs.declared.part.Part.{Part}
use Rattle.ocr_turns_rule.specs.Sums.{find}
use Rattle.ocr_worker_calls.proofs.Created.{core_apart, find_apart, replace_length}
use Rattle.ocr_worker_calls.proofs.creation.put_new.Goals as goal

pub put_over-requires-2 : goal.put_over-requires-2
put_over-requires-2 c =
    let low = c.requires.low in
    let off : ((c.args.limit + c.args.new) == c.args.new) ≡ false = core_apart c.args.limit c.args.new low.1 low.2 in
    (c.requires.core.0, ap (find (c.args.limit + c.args.new)) c.put_over.ensures.parts ∙ (find_apart (c.args.limit + c.args.new) c.args.new _ c.args.clerk.now.parts off ∙ c.requires.core.1))

pub returns-clause-rest : goal.returns-clause-rest
returns-clause-rest c =
    let one = c.put_over.ensures in let two = c.put_over-2.ensures in
    let a = ap (λ (l : List (ℕ × Option Part)). length l) one.parts ∙ replace_length c.args.new _ c.args.clerk.now.parts in
    let b = ap (λ (l : List (ℕ × Option Part)). length l) two.parts ∙ replace_length (c.args.limit + c.args.new) _ c.put_over.new.clerk.parts in
    (two.rest.0 ∙ one.rest.0, two.rest.1 ∙ one.rest.1, (two.rest.2.0 ∙ one.rest.2.0, two.rest.2.1 ∙ one.rest.2.1, two.rest.2.2 ∙ one.rest.2.2), b ∙ a)
