use Rattle.std.proofs.Common.{◌<◌, ◌-◌, ◌∙◌, length, ap, sym, arith}
use Rattle.ocr_program_tree.specs.declared.tree.Program.{Program}
use Rattle.ocr_program_tree.specs.View.{tree_of}
use Rattle.ocr_body_code.specs.Code.{is_sound}
use Rattle.ocr_program_tree.specs.Functions.{statements_at, numbers_in}
use Rattle.ocr_body_code.proofs.Functions.{as_many, body_at, sound_at}
use Rattle.ocr_body_code.proofs.checked.Checked.function.Goals as goal

pub index-requires : goal.index-requires
index-requires c =
    omega (arith, c.requires.0, c.requires.1, as_many c.self.inside.code.items (tree_of c.self.inside.program) c.self.invariant.0, ap (λ (p : Program). length (tree_of p)) c.self.view_is)

pub returns-clause-body : goal.returns-clause-body
returns-clause-body c =
    let less : c.args.function - 1 < length (tree_of c.self.inside.program) =
    omega (arith, c.requires.0, c.requires.1, ap (λ (p : Program). length (tree_of p)) c.self.view_is) in
    body_at c.self.inside.code.items (tree_of c.self.inside.program) c.args.function (c.args.function - 1) c.index.result.now c.self.invariant.0
    (omega (arith, c.requires.0)) less c.index.ensures
    ∙ ap (λ (p : Program). statements_at (tree_of p) c.args.function) c.self.view_is

pub returns-clause-sound : goal.returns-clause-sound
returns-clause-sound c =
    sym (ap (λ (p : Program). is_sound (numbers_in (tree_of p)) c.index.result.now) c.self.view_is)
    ∙ sound_at (numbers_in (tree_of c.self.inside.program)) c.self.inside.code.items (c.args.function - 1) c.index.result.now c.self.invariant.1
    (omega (arith, c.requires.0, c.requires.1, as_many c.self.inside.code.items (tree_of c.self.inside.program) c.self.invariant.0, ap (λ (p : Program). length (tree_of p)) c.self.view_is))
    c.index.ensures
