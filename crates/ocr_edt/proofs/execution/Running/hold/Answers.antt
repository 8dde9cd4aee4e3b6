use Rattle.std.proofs.Common.{◌≡◌, ◌∙◌, ℕ, List, Bool, if◌then◌else◌, Some, refl, ap}
use Rattle.ocr_acquire.specs.declared.Mode.{Mode}
use Rattle.ocr_acquire.specs.declared.Mode.TheVariants as mode
use Rattle.ocr_acquire.specs.Mode.{mode_in}
use Rattle.ocr_edt.specs.Phases.{name_of, placed_by, without}
use Rattle.ocr_edt.specs.Steps.{held_in, stale_in, with_made}
use Rattle.ocr_edt.proofs.Made.{made_mode, with_made-insert, work_same}
use Rattle.ocr_edt.proofs.execution.Running.hold.Goals as goal

pub returns-clause-state : goal.returns-clause-state
returns-clause-state c =
    let planned : List (ℕ × Mode) = held_in c.self.inside.entries.items in
    let old : List ℕ = c.self.inside.made.keys in
    let put : with_made c.insert.new.self.keys planned ≡ placed_by name_of (c.block.inside.0, mode.Rw) (without c.block.inside.0 (with_made old planned)) =
    with_made-insert c.block.inside.0 old c.insert.new.self.keys planned c.self.invariant c.in_ok-insert.ensures.updates.0 in
    rw (← c.self.view_is, ← c.block.view_is) (work_same c.self.inside.identity _ _ (stale_in c.self.inside.entries.items) _ put refl)

pub returns-clause-held : goal.returns-clause-held
returns-clause-held c =
    let planned : List (ℕ × Mode) = held_in c.self.inside.entries.items in
    rw (← c.block.view_is) (made_mode c.block.inside.0 c.insert.new.self.keys planned
    ∙ ap (λ (b : Bool). if b then Some mode.Rw else mode_in c.block.inside.0 planned) c.in_ok-insert.ensures.updates.1)
