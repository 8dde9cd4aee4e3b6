-- The canonical text of a tree that some text has is read as that tree.
use Rattle.std.proofs.Common.{ℕ, List, length, refl, sym, subst, arith}
use Rattle.ocr_program_tree.specs.Tree.{FunctionTree}
use Rattle.ocr_program_grammar.specs.declared.lexeme.Lexeme.{Lexeme}
use Rattle.ocr_program_grammar.specs.Parser.{IsTree}
use Rattle.ocr_program_grammar.specs.Limits.{nothing_read}
use Rattle.ocr_program_grammar.specs.Lexing.{lexemes_of, places_of}
use Rattle.ocr_program_grammar.proofs.Lexed.{seen, tree_told}
use Rattle.ocr_program_canonical.specs.Canonical.{program_text}
use Rattle.ocr_program_canonical.specs.RoundTrip.{IsTextOf}
use Rattle.ocr_program_canonical.proofs.Lexemes as canonical
use Rattle.ocr_program_canonical.proofs.Speakable.{IsWritableProgram}
use Rattle.ocr_program_canonical.proofs.Grammatical as grammatical
use Rattle.ocr_program_canonical.proofs.Keeps.{from_fits, to_fits}
use Rattle.ocr_program_canonical.proofs.Limited as limited
use Rattle.ocr_program_canonical.proofs.Read as reading
use Rattle.ocr_program_canonical.proofs.Written as written
use Rattle.ocr_program_canonical.proofs.Tokens.{Spelled, spelled, tokens_good}

tree_is : (fs : List FunctionTree) → IsWritableProgram fs → IsTree (canonical.program fs) fs
tree_is fs w = record {
  whole = grammatical.program fs w;
  fits = to_fits (canonical.program fs) nothing_read (limited.program fs w);
}

pub reads_back : (fs : List FunctionTree) (given : List ℕ) → IsTextOf given fs → IsTextOf (program_text fs) fs
reads_back fs given is =
    let ts = lexemes_of given is.tokens in
    let t : IsTree ts fs = tree_told given is.tokens fs is.tree in
    let w : IsWritableProgram fs = reading.program ts fs t.whole (from_fits ts nothing_read t.fits) (tokens_good given 0 (length given) is.tokens is.are) in
    let s : Spelled (program_text fs) 0 (canonical.program fs) = spelled (program_text fs) (program_text fs) (canonical.program fs) (written.program fs w) 0 (omega arith) refl in
    record {
      tokens = s.tokens;
      are = s.tile;
      tree = record {
        places = places_of (program_text fs) s.tokens;
        lexemes = lexemes_of (program_text fs) s.tokens;
        seen = seen (program_text fs) 0 (length (program_text fs)) s.tokens s.tile;
        tree = subst (λ (l : List Lexeme). IsTree l fs) (sym s.lexemes) (tree_is fs w);
      };
    }
