-- Bytes are at most one program, have at most one fault, and never both.
use Rattle.std.proofs.Common.{◌≡◌, ◌<◌, ◌^◌, ℕ, List, sym, ap, subst, arith}
use Rattle.ocr_text.specs.Tokens.{AreTokens}
use Rattle.ocr_text.proofs.Laws.{tokens_law}
use Rattle.ocr_text.specs.declared.token.Token.{Token}
use Rattle.ocr_program_tree.specs.Tree.{FunctionTree}
use Rattle.ocr_program_grammar.specs.Lexemes.{IsTreeOf, IsSyntaxFault}
use Rattle.ocr_program.proofs.One as parsing
use Rattle.ocr_program_check.specs.Check.{IsBreach, BreaksNoRule}
use Rattle.ocr_program_check.proofs.First.{breach_is_one}
use Rattle.ocr_program_check.specs.declared.rules.CheckFault.{CheckFault}
use Rattle.ocr_run_execution.specs.declared.text.TextFault.{TextFault}
use Rattle.ocr_run_execution.specs.declared.text.TextFault.TheVariants as fault
use Rattle.ocr_run_execution.specs.ProgramText.{IsProgramText, IsNoProgram, no_tokens, no_tree, breaks_rule, TextLaw}
use Rattle.ocr_program_load.specs.LoadText.{load_text}
use Rattle.ocr_program_load.proofs.Loaded.{load_law}

-- a tree of other tokens of the same bytes is a tree of these
tree_here : (bytes : List ℕ) (tokens others : List Token) (program : List FunctionTree) → AreTokens bytes tokens → AreTokens bytes others
    → IsTreeOf bytes others program → IsTreeOf bytes tokens program
tree_here bytes tokens others program are those tree =
    subst (λ (list : List Token). IsTreeOf bytes list program) (tokens_law.one bytes others tokens those are) tree

fault_here : (bytes : List ℕ) (tokens others : List Token) (place : ℕ) → AreTokens bytes tokens → AreTokens bytes others
    → IsSyntaxFault bytes others place → IsSyntaxFault bytes tokens place
fault_here bytes tokens others place are those fault =
    subst (λ (list : List Token). IsSyntaxFault bytes list place) (tokens_law.one bytes others tokens those are) fault

same_program : (bytes : List ℕ) (tokens others : List Token) (program other : List FunctionTree) → AreTokens bytes tokens → AreTokens bytes others
    → IsTreeOf bytes tokens program → IsTreeOf bytes others other → program ≡ other
same_program bytes tokens others program other are those tree another =
    parsing.same_tree bytes tokens program other tree (tree_here bytes tokens others other are those another)

no_fault : (bytes : List ℕ) (program : List FunctionTree) (tokens : List Token) → BreaksNoRule program → AreTokens bytes tokens → IsTreeOf bytes tokens program
    → (found : TextFault) → IsNoProgram bytes found → ⊥
no_fault bytes program tokens sound are tree found (no_tokens place is) = tokens_law.apart bytes tokens place are is
no_fault bytes program tokens sound are tree found (no_tree others place those is) =
    parsing.no_tree bytes tokens place program (fault_here bytes tokens others place are those is) tree
no_fault bytes program tokens sound are tree found (breaks_rule others other breach those another is) =
    sound breach.rule breach.function (subst (λ (p : List FunctionTree). IsBreach p breach.rule breach.function) (sym (same_program bytes tokens others program other are those tree another)) is)

same_breach : (a b : CheckFault) → (a.rule ≡ b.rule) × (a.function ≡ b.function) → a ≡ b
same_breach a b same = λ i. record { rule = same.0 i; function = same.1 i }

same_fault : (bytes : List ℕ) (found other : TextFault) → IsNoProgram bytes found → IsNoProgram bytes other → found ≡ other
same_fault bytes found other (no_tokens place is) (no_tokens place2 is2) = ap fault.Lexical (tokens_law.one_fault bytes place place2 is is2)
same_fault bytes found other (no_tokens place is) (no_tree tokens place2 are is2) = absurd (tokens_law.apart bytes tokens place are is)
same_fault bytes found other (no_tokens place is) (breaks_rule tokens program breach are tree is2) = absurd (tokens_law.apart bytes tokens place are is)
same_fault bytes found other (no_tree tokens place are is) (no_tokens place2 is2) = absurd (tokens_law.apart bytes tokens place2 are is2)
same_fault bytes found other (no_tree tokens place are is) (no_tree others place2 those is2) =
    ap fault.Syntax (parsing.same_place bytes tokens place place2 is (fault_here bytes tokens others place2 are those is2))
same_fault bytes found other (no_tree tokens place are is) (breaks_rule others program breach those tree is2) =
    absurd (parsing.no_tree bytes tokens place program is (tree_here bytes tokens others program are those tree))
same_fault bytes found other (breaks_rule tokens program breach are tree is) (no_tokens place2 is2) = absurd (tokens_law.apart bytes tokens place2 are is2)
same_fault bytes found other (breaks_rule tokens program breach are tree is) (no_tree others place2 those is2) =
    absurd (parsing.no_tree bytes tokens place2 program (fault_here bytes tokens others place2 are those is2) tree)
same_fault bytes found other (breaks_rule tokens program breach are tree is) (breaks_rule others program2 breach2 those tree2 is2) =
    let same : program2 ≡ program = sym (same_program bytes tokens others program program2 are those tree tree2) in
    ap fault.Breach (same_breach breach breach2 (breach_is_one program breach.rule breach.function breach2.rule breach2.function is (subst (λ (p : List FunctionTree). IsBreach p breach2.rule breach2.function) same is2)))

-- the text of `load` is a program
pub loaded_program : (n : ℕ) → n < 2 ^ 64 → (program : List FunctionTree) × IsProgramText (load_text n) program
loaded_program n low =
    let is = load_law n low in (
      is.program,
      record {
        size = omega (arith, is.short);
        tokens = is.is_text.tokens;
        are_tokens = is.is_text.are;
        tree = is.is_text.tree;
        sound = is.sound;
      },
    )

pub text_law : TextLaw
text_law = record {
  one_program = λ bytes program other is another. same_program bytes is.tokens another.tokens program other is.are_tokens another.are_tokens is.tree another.tree;
  one_fault = same_fault;
  apart = λ bytes program found is none. no_fault bytes program is.tokens is.sound is.are_tokens is.tree found none;
}
