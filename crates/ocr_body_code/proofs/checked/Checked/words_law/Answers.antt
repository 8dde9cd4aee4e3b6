use Rattle.std.proofs.Common.{ap, sym, ◌∙◌}
use Rattle.ocr_program_tree.specs.declared.tree.Program.{Program}
use Rattle.ocr_program_tree.specs.Functions.{numbers_in}
use Rattle.ocr_program_tree.specs.View.{tree_of}
use Rattle.ocr_body_meaning.specs.Words.{is_program_of_words}
use Rattle.ocr_body_code.proofs.Coded.{codes_words}
use Rattle.ocr_body_code.proofs.checked.Checked.words_law.Goals as goal

pub returns : goal.returns
returns c =
    sym (ap (λ (p : Program). is_program_of_words (tree_of p)) c.self.view_is)
    ∙ codes_words (numbers_in (tree_of c.self.inside.program)) c.self.inside.code.items (tree_of c.self.inside.program) c.self.invariant.0 c.self.invariant.1
