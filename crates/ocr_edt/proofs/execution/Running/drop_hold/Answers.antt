use Rattle.std.proofs.Common.{◌≡◌, not, ◌==◌, ℕ}
use Rattle.ocr_acquire.specs.declared.Mode.{Mode}
use Rattle.ocr_edt.specs.Phases.{without}
use Rattle.ocr_edt.specs.Steps.{held_in, with_made}
use Rattle.ocr_edt.proofs.Holds.{any_filter, mode_in-without}
use Rattle.ocr_edt.proofs.Made.{with_made-remove, work_same}
use Rattle.ocr_edt.proofs.execution.Running.drop_hold.Goals as goal

pub invariant_of-self : goal.invariant_of-self
invariant_of-self c = rw c.drop_hold_among.ensures.holds
    (any_filter (λ (e : ℕ × Mode). not (c.args.block == e.0)) (held_in c.self.inside.entries.items) c.self.invariant)

-- neither the plan nor what is made has the block
taken : (c : goal.After-drop_hold_among) → with_made c.remove.new.self.keys (held_in c.drop_hold_among.new.entries.items)
    ≡ without c.args.block (with_made c.self.inside.made.keys (held_in c.self.inside.entries.items))
taken c = rw (c.drop_hold_among.ensures.holds, ← c.block.view_is)
    (with_made-remove c.block.inside.0 c.self.inside.made.keys c.remove.new.self.keys (held_in c.self.inside.entries.items) c.self.invariant c.remove.ensures.updates.0)

pub returns-clause-state : goal.returns-clause-state
returns-clause-state c =
    rw (← c.self.view_is) (work_same c.self.inside.identity _ _ _ _ (taken c) c.drop_hold_among.ensures.stale)

pub returns-clause-dropped : goal.returns-clause-dropped
returns-clause-dropped c = rw (taken c) (mode_in-without c.args.block (with_made c.self.inside.made.keys (held_in c.self.inside.entries.items)))
