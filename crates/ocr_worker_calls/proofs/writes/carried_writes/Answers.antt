use Rattle.std.proofs.Common.{◌≡◌, ◌∙◌, ap, sym}
use Rattle.ocr_body_meaning.specs.Holds.{is_done, private_in, private_of}
use Rattle.ocr_machine_parts.specs.declared.part.Core.{Core}
use Rattle.ocr_machine_parts.specs.declared.part.Part.TheVariants as part
use Rattle.ocr_machine_parts.specs.Legal.{carried}
use Rattle.ocr_machine_parts.specs.Bodies.{holds_in}
use Rattle.ocr_machine_parts.proofs.Listed.{listed_holds, listed_settled, ok_map}
use Rattle.ocr_worker_calls.proofs.Carried.{carried_is, carried_none}
use Rattle.ocr_worker_calls.proofs.writes.carried_writes.Goals as goal

pub returns-in-None-clause-writes : goal.returns-in-None-clause-writes
returns-in-None-clause-writes c =
    c.none.ensures ∙ sym (carried_none c.args.call.now (is_done c.args.code) (holds_in (part.Core c.args.core.now)) (sym c.ended_block.ensures ∙ c.in-None.is))

pub returns-in-Some-clause-alike : goal.returns-in-Some-clause-alike
returns-in-Some-clause-alike c = listed_settled c.in-Some.block c.args.core.now c.listed_writes.new.core c.listed_writes.ensures.core

pub returns-in-Some-clause-edt : goal.returns-in-Some-clause-edt
returns-in-Some-clause-edt c = ap (λ (x : Core). x.edt) c.listed_writes.ensures.core

pub returns-in-Some-clause-holds : goal.returns-in-Some-clause-holds
returns-in-Some-clause-holds c = listed_holds c.in-Some.block c.args.core.now c.listed_writes.new.core c.listed_writes.ensures.core

pub returns-in-Some-clause-writes : goal.returns-in-Some-clause-writes
returns-in-Some-clause-writes c =
    let core = c.args.core.now in
    ok_map c.listed_writes.result (λ w. w ≡ private_in (holds_in (part.Core core) c.in-Some.block)) (λ w. w ≡ carried (is_done c.args.code) (private_of c.args.call.now (holds_in (part.Core core)))) c.listed_writes.ensures.writes
    (λ w is. is ∙ sym (carried_is c.args.call.now (is_done c.args.code) (holds_in (part.Core core)) c.in-Some.block (sym c.ended_block.ensures ∙ c.in-Some.is)))
