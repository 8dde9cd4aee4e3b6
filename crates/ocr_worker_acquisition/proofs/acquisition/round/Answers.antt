use Rattle.std.proofs.Common.{◌≡◌, ◌+◌, ◌∙◌, ℕ, Option, ap, sym}
use Rattle.std.specs.Option.{option_or}
use Rattle.ocr_machine_parts.specs.declared.part.Part.{Part}
use Rattle.ocr_machine_parts.specs.declared.part.Part.TheVariants as part
use Rattle.ocr_turns_rule.specs.Sums.{find}
use Rattle.ocr_worker_acquisition.specs.Rounds.{next_block}
use Rattle.ocr_worker_acquisition.proofs.Holds.{awake_or, core_alone, wanted_or}
use Rattle.ocr_worker_clerk.proofs.Puts.{item_same}
use Rattle.ocr_worker_acquisition.proofs.acquisition.round.Goals as goal

pub part-requires : goal.part-requires
part-requires g c =
    let t = c.args.job.now.turns.now.1 in let h = c.requires.holds in
    (part.Core h.core, (λ i. find (c.limit.ensures i + c.edt.view_is i) c.args.clerk.now.parts) ∙ core_alone t c.args.edt c.args.clerk.now h)

pub block_round-requires-clause-block : goal.block_round-requires-clause-block
block_round-requires-clause-block g c =
    let t = c.args.job.now.turns.now.1 in let h = c.requires.holds in let clerk = c.args.clerk.now in
    let same : c.part.result.now ≡ part.Core h.core = item_same c.part.result.now (part.Core h.core)
    (sym c.part.ensures ∙ ((λ i. find (c.limit.ensures i + c.edt.view_is i) clerk.parts) ∙ core_alone t c.args.edt clerk h)) in
    wanted_or t c.args.edt c.in-Some.block c.args.wanted clerk h c.requires.wanted
    (ap (λ (x : Part). option_or (next_block x) c.args.wanted) (sym same) ∙ (ap (λ (o : Option ℕ). option_or o c.args.wanted) (sym c.next_of.ensures) ∙ (sym c.or.ensures ∙ c.in-Some.is)))

pub face_round-requires-clause-holds : goal.face_round-requires-clause-holds
face_round-requires-clause-holds g c =
    let t = c.args.job.now.turns.now.1 in let h = c.requires.holds in let clerk = c.args.clerk.now in
    let same : c.part.result.now ≡ part.Core h.core = item_same c.part.result.now (part.Core h.core)
    (sym c.part.ensures ∙ ((λ i. find (c.limit.ensures i + c.edt.view_is i) clerk.parts) ∙ core_alone t c.args.edt clerk h)) in
    record {
      holds = h;
      awake = awake_or h.core.edt c.args.wanted
          (ap (λ (x : Part). option_or (next_block x) c.args.wanted) (sym same) ∙ (ap (λ (o : Option ℕ). option_or o c.args.wanted) (sym c.next_of.ensures) ∙ (sym c.or.ensures ∙ c.in-None.is)));
    }
