use Rattle.std.proofs.Common.{◌≡◌, ◌∙◌, ℕ, List, map, take, refl, ap, subst}
use Rattle.std.specs.Option.{option_copied}
use Rattle.ocr_acquire.specs.Mode.{mode_in}
use Rattle.ocr_machine_parts.specs.declared.loans.Kept.{Kept}
use Rattle.ocr_machine_parts.specs.Bodies.{hold_of}
use Rattle.ocr_machine_parts.specs.Loans.{kept_in}
use Rattle.ocr_replay_body.specs.Cases.{begun_holds}
use Rattle.ocr_replay_body.proofs.Begun.{HasBegun, got, begun_next, begun_every}
use Rattle.ocr_replay_body.proofs.Held.{all_words}
use Rattle.ocr_replay_body.proofs.holds.begun_all.Goals as goal

pub loop-block-init : goal.loop-block-init
loop-block-init c = λ d. rw c.new-items.ensures.empty refl

pub loop-block-preserved : goal.loop-block-preserved
loop-block-preserved c =
    let loans : List (ℕ × Kept) = c.args.loans.now in
    let kept = got c.get.result (kept_in c.block-item.result loans) c.get.ensures.some c.get.ensures.none in
    let held : c.in_ok-held.held ≡ begun_holds c.args.running.now.holds loans c.block-item.result =
    c.in_ok-held.ensures ∙ ap (λ m. hold_of m (option_copied c.get.result)) c.mode.ensures ∙ ap (hold_of (mode_in c.block-item.result c.args.running.now.holds)) kept in
    begun_next c.args.running.now.holds loans c.deref-block-items.result.now c.loop-block.block-index c.block-item.result c.in_ok-held.held
    c.loop-block.items.entries c.begin.new.items.entries c.loop-block-test.true c.block-item.is held c.loop-block.invariant c.in_ok-begin.ensures

pub returns : goal.returns
returns c =
    let loans : List (ℕ × Kept) = c.args.loans.now in
    let every : take c.loop-block.block-index c.deref-block-items.result.now ≡ map (λ (one : ℕ × Kept). one.0) loans =
    all_words c.deref-block-items.result.now c.loop-block.block-index c.loop-block-test.false ∙ c.deref-block-items.ensures.value ∙ c.in_ok-blocks.ensures in
    begun_every c.args.running.now.holds loans c.loop-block.items.entries
    (subst (λ (blocks : List ℕ). HasBegun c.args.running.now.holds loans blocks c.loop-block.items.entries) every c.loop-block.invariant)
