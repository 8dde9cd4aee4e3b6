use Rattle.std.proofs.Common.{◌∙◌, ℕ, List, sym, subst}
use Rattle.ocr_worker_clerk.proofs.Goes.{stays_both}
use Rattle.ocr_worker_acquisition.proofs.Holds.{still_unbegun, wants_learnt}
use Rattle.ocr_worker_acquisition.proofs.Parks.{met_after}
use Rattle.ocr_worker_acquisition.specs.Rounds.{HasMet, IsAfter}
use Rattle.ocr_worker_acquisition.specs.declared.acquisition.Step.{Step}
use Rattle.ocr_worker_acquisition.proofs.Readied.{learnt_readies}
use Rattle.ocr_worker_acquisition.proofs.rounds.block_round.Goals as goal

pub meet-requires-clause-wants : goal.meet-requires-clause-wants
meet-requires-clause-wants g c = wants_learnt c.args.job.now.turns.now.1 c.args.edt c.args.block c.take_two.new.clerk c.read_three.new.clerk c.in_ok-first.ensures.wants.next c.in_ok-payloads.ensures.learns

pub meet-requires-clause-unbegun : goal.meet-requires-clause-unbegun
meet-requires-clause-unbegun g c =
    let start = c.args.clerk.now in let mid = c.read_three.new.clerk in
    let stays = stays_both start c.take_two.new.clerk mid c.in_ok-first.ensures.stays c.in_ok-payloads.ensures.stays in
    still_unbegun start mid c.args.edt stays c.requires.holds.unbegun

pub returns-clause-stays : goal.returns-clause-stays
returns-clause-stays g c =
    let start = c.args.clerk.now in let mid = c.read_three.new.clerk in
    let stays = stays_both start c.take_two.new.clerk mid c.in_ok-first.ensures.stays c.in_ok-payloads.ensures.stays in
    stays_both start mid c.meet.new.clerk stays c.in_ok-met.ensures.stays

pub returns-clause-after : goal.returns-clause-after
returns-clause-after g c =
    let start = c.args.clerk.now in let mid = c.read_three.new.clerk in let t = c.args.job.now.turns.now.1 in
    let stays = stays_both start c.take_two.new.clerk mid c.in_ok-first.ensures.stays c.in_ok-payloads.ensures.stays in
    let payloads = c.in_ok-payloads.payloads in let m = c.in_ok-met.met in
    let is = subst (λ (l : List ℕ). HasMet t c.args.edt l m mid c.meet.new.clerk) c.as_slice-known.ensures c.in_ok-met.ensures.met in
    subst (λ (s : Step). IsAfter t c.args.edt s start c.meet.new.clerk) (sym c.step_of.ensures) (met_after t c.args.edt payloads m start mid c.meet.new.clerk stays is)

pub returns-clause-readied : goal.returns-clause-readied
returns-clause-readied g c =
    let mid = c.read_three.new.clerk in
    c.in_ok-met.ensures.readied ∙ (learnt_readies c.take_two.new.clerk mid c.in_ok-payloads.ensures.learns ∙ c.in_ok-first.ensures.readied)
