use Rattle.std.proofs.Common.{◌≡◌, ◌∙◌, Bool, true, false, if◌then◌else◌, Some, sym, ap}
use Rattle.ocr_acquire.specs.declared.Mode.TheVariants as mode
use Rattle.ocr_acquire.specs.Mode.{mode_in}
use Rattle.ocr_edt.proofs.Made.{is_made, made_mode}
use Rattle.ocr_edt.proofs.execution.Running.mode.Goals as goal
use Rattle.ocr_edt.specs.Steps.{held_in}

pub returns-then-contains : goal.returns-then-contains
returns-then-contains c =
    let made : is_made c.args.block c.self.inside.made.keys ≡ true = rw (← c.block.view_is) (sym c.if-contains.ensures) in
    rw (← c.self.view_is) (sym (made_mode c.args.block c.self.inside.made.keys (held_in c.self.inside.entries.items)
    ∙ ap (λ (b : Bool). if b then Some mode.Rw else mode_in c.args.block (held_in c.self.inside.entries.items)) made))

pub returns : goal.returns
returns c =
    let made : is_made c.args.block c.self.inside.made.keys ≡ false = rw (← c.block.view_is) (sym c.if-contains.ensures) in
    rw (← c.self.view_is, c.mode_among.ensures, c.as_slice.ensures) (sym (made_mode c.args.block c.self.inside.made.keys (held_in c.self.inside.entries.items)
    ∙ ap (λ (b : Bool). if b then Some mode.Rw else mode_in c.args.block (held_in c.self.inside.entries.items)) made))
