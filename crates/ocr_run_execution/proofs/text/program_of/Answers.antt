use Rattle.std.proofs.Common.{◌≡◌, ◌≤◌, ℕ, List, length, Result, Ok, Err, sym, subst}
use Rattle.std.specs.Prelude.{IfOk, OnOk}
use Rattle.ocr_text.specs.Tokens.{AreTokens}
use Rattle.ocr_text.specs.declared.token.Token.{Token}
use Rattle.ocr_program_tree.specs.Tree.{FunctionTree}
use Rattle.ocr_program_tree.specs.View.{tree_of}
use Rattle.ocr_program_grammar.specs.Lexemes.{IsTreeOf}
use Rattle.ocr_program_check.specs.Check.{BreaksNoRule}
use Rattle.ocr_body_code.specs.Checked.{checked_tree}
use Rattle.ocr_body_code.specs.declared.checked.Checked.{Checked}
use Rattle.ocr_run_execution.specs.declared.text.TextStop.{TextStop}
use Rattle.ocr_run_execution.specs.ProgramText.{IsProgramText, most_bytes}
use Rattle.ocr_run_execution.proofs.text.program_of.Goals as goal

judged_text : (bytes : List ℕ) (tokens : List Token) (program : List FunctionTree) (result : Result Checked TextStop) → length bytes ≤ most_bytes → AreTokens bytes tokens
    → IsTreeOf bytes tokens program → IfOk result (λ checked. checked_tree checked ≡ program) → OnOk result (BreaksNoRule program) → IfOk result (λ checked. IsProgramText bytes (checked_tree checked))
judged_text bytes tokens program (Ok checked) size are tree same sound = record {
  size = size;
  tokens = tokens;
  are_tokens = are;
  tree = subst (λ (p : List FunctionTree). IsTreeOf bytes tokens p) (sym same) tree;
  sound = subst BreaksNoRule (sym same) sound;
}
judged_text bytes tokens program (Err stop) size are tree same sound = tt

pub returns-clause-program : goal.returns-clause-program
returns-clause-program c =
    judged_text c.args.bytes.now c.deref.result.now (tree_of c.in_ok-program.program) c.judged.result c.requires
    (subst (AreTokens c.args.bytes.now) (sym c.deref.ensures.value) c.in_ok-tokens.ensures.tokens) c.in_ok-program.ensures.tree c.judged.ensures.tree c.judged.ensures.sound
