use Rattle.std.proofs.Common.{◌≡◌, rules}
use Rattle.std.specs.List.{filter}
use Rattle.ocr_edt.proofs.Steps.{kept_is, stays, held_in-stays, stale_in-stays}
use Rattle.ocr_edt.proofs.execution.drop_hold_among.Goals as goal

pub returns-clause-holds : goal.returns-clause-holds
returns-clause-holds c =
    let kept : c.retain.new.self.items ≡ filter (stays c.args.block) c.args.entries.now.items =
    kept_is _ (stays c.args.block) _ (λ x b g y called. search rules) _ _ c.retain.ensures.filtered in
    rw kept (held_in-stays c.args.block c.args.entries.now.items)

pub returns-clause-stale : goal.returns-clause-stale
returns-clause-stale c =
    let kept : c.retain.new.self.items ≡ filter (stays c.args.block) c.args.entries.now.items =
    kept_is _ (stays c.args.block) _ (λ x b g y called. search rules) _ _ c.retain.ensures.filtered in
    rw kept (stale_in-stays c.args.block c.args.entries.now.items)
