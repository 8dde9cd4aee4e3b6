use Rattle.std.proofs.Common.{◌≡◌, ◌∙◌, ap, sym}
use Rattle.ocr_acquire.specs.Mode.{mode_in}
use Rattle.ocr_body_meaning.specs.Holds.{private_in}
use Rattle.ocr_machine_parts.specs.declared.part.Core.{Core}
use Rattle.ocr_machine_parts.specs.declared.part.Part.TheVariants as part
use Rattle.ocr_machine_parts.specs.Bodies.{holds_in, writes_in}
use Rattle.ocr_machine_parts.specs.Kinds.{holds_of, work_in}
use Rattle.ocr_machine_parts.specs.Loans.{is_apart, kept_in, loan_in}
use Rattle.ocr_machine_parts.proofs.Listed.{loans_listed, ok_map, private_is, private_none, writes_listed}
use Rattle.ocr_machine_parts.proofs.writes.listed_writes.Goals as goal

pub writes_among-requires : goal.writes_among-requires
writes_among-requires c = loans_listed c.args.block c.args.core.now.loans c.get-then-holds_apart.result.now.loans (ap (λ (x : Core). x.loans) (c.get-then-holds_apart.ensures ∙ c.list_writes.ensures))

pub returns-then-holds_apart-clause-writes : goal.returns-then-holds_apart-clause-writes
returns-then-holds_apart-clause-writes c =
    let core = c.args.core.now in let d = c.args.block in let listed = c.get-then-holds_apart.result.now in
    let apart = ap (λ (x : Core). is_apart (mode_in d (holds_of (work_in x.edt)))) (sym (c.get.ensures ∙ c.list_writes.ensures)) ∙ (sym c.holds_apart.ensures ∙ c.if-holds_apart.true) in
    ok_map c.writes_among.result (λ w. w ≡ writes_in (loan_in (kept_in d listed.loans))) (λ w. w ≡ private_in (holds_in (part.Core core) d)) c.writes_among.ensures
    (λ w is. is ∙ (writes_listed d core.loans listed.loans (ap (λ (x : Core). x.loans) (c.get-then-holds_apart.ensures ∙ c.list_writes.ensures)) ∙ sym (private_is (mode_in d (holds_of (work_in core.edt))) (kept_in d core.loans) apart)))

pub returns-clause-writes : goal.returns-clause-writes
returns-clause-writes c =
    let core = c.args.core.now in let d = c.args.block in
    let apart = ap (λ (x : Core). is_apart (mode_in d (holds_of (work_in x.edt)))) (sym (c.get.ensures ∙ c.list_writes.ensures)) ∙ (sym c.holds_apart.ensures ∙ c.if-holds_apart.false) in
    c.none.ensures ∙ sym (private_none (mode_in d (holds_of (work_in core.edt))) (kept_in d core.loans) apart)
