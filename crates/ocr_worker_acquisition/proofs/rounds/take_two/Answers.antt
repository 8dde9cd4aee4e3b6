use Rattle.std.proofs.Common.{Bool, ◌∷◌, [], ◌∙◌, ℕ, List, Option, length, ap, sym, arith}
use Rattle.ocr_machine_parts.specs.declared.part.Part.{Part}
use Rattle.ocr_machine_parts.specs.declared.part.Part.TheVariants as part
use Rattle.ocr_turns_rule.specs.Sums.{keys}
use Rattle.ocr_worker_clerk.proofs.Hands.{took_length}
use Rattle.ocr_worker_acquisition.specs.Block.{pair_of}
use Rattle.ocr_worker_acquisition.proofs.Holds.{can_again, core_can, took_both, took_ready}
use Rattle.ocr_worker_clerk.proofs.Push.{took_readies}
use Rattle.ocr_worker_acquisition.proofs.rounds.take_two.Goals.{then-first, else-first}
use Rattle.ocr_worker_acquisition.proofs.rounds.take_two.Goals as goal

pub take_part-requires-2-clause-room : goal.take_part-requires-2-clause-room
take_part-requires-2-clause-room g c =
    let one = ap (λ (l : List (ℕ × Option Part)). length l) c.requires.holds.hand in
    let more = took_length c.args.clerk.now c.take_part.new.clerk _ c.in_ok-take_part.ensures.took in
    omega (arith, one, more)

pub returns-clause-three : goal.returns-clause-three
returns-clause-three g c =
    took_both c.args.job.now.turns.now.1 c.args.edt c.args.block c.lt-first.result c.args.clerk.now c.take_part.new.clerk c.take_part-2.new.clerk _ _ c.requires.holds c.in_ok-take_part.ensures.took c.in_ok-take_part-2.ensures.took
    (elim c.if-first.branch [
      | then-first w ↦ (λ i. c.one.view_is i ∷ c.two.view_is i ∷ []) ∙ (ap (λ (x : ℕ × ℕ). x.0 ∷ x.1 ∷ []) w.one-is ∙ sym (ap (λ (b : Bool). keys (pair_of b c.args.edt c.args.block part.Vacant part.Vacant)) w.if-first.true))
      | else-first w ↦ (λ i. c.one.view_is i ∷ c.two.view_is i ∷ []) ∙ (ap (λ (x : ℕ × ℕ). x.0 ∷ x.1 ∷ []) w.one-is ∙ sym (ap (λ (b : Bool). keys (pair_of b c.args.edt c.args.block part.Vacant part.Vacant)) w.if-first.false))
    ])

pub returns-clause-ready : goal.returns-clause-ready
returns-clause-ready g c =
    let table = c.args.job.now.turns.now in let program = c.args.job.now.program.now in
    let one = c.in_ok-take_part.ensures in let two = c.in_ok-take_part-2.ensures in
    let can = core_can table program c.args.edt c.args.clerk.now c.requires.work c.requires.holds in
    let again = can_again table program c.args.edt _ c.args.clerk.now c.take_part.new.clerk can one.work one.took one.sees in
    took_ready table program c.args.edt _ c.take_part.new.clerk c.take_part-2.new.clerk again two.work two.took two.sees

pub returns-clause-readied : goal.returns-clause-readied
returns-clause-readied g c =
    took_readies c.take_part.new.clerk c.take_part-2.new.clerk _ c.in_ok-take_part-2.ensures.took
    ∙ took_readies c.args.clerk.now c.take_part.new.clerk _ c.in_ok-take_part.ensures.took
