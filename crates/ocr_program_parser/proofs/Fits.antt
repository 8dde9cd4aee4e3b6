-- One argument more keeps that the arguments fit.
use Rattle.std.proofs.Common.{◌≡◌, ℕ, List, [], ◌∷◌, true, refl, sym, ap, ◌∙◌}
use Rattle.std.proofs.lemmas.Bool.{cond_both}
use Rattle.std.specs.Prelude.{nat_le}
use Rattle.ocr_program_tree.specs.declared.tree.CallName.{CallName}
use Rattle.ocr_program_tree.specs.Tree as tree
use Rattle.ocr_program_tree.specs.Tree.{Expression, Arguments, empty, value, list, named}
use Rattle.ocr_program_grammar.specs.Texts.{level}
use Rattle.ocr_program_grammar.specs.declared.argument_kind.ArgumentKind.{ArgumentKind}
use Rattle.ocr_program_grammar.specs.declared.argument_kind.ArgumentKind.TheVariants.{Value, Values, NameOfFunction}
use Rattle.ocr_program_grammar.specs.Shape.{shape}
use Rattle.ocr_program_parser.specs.Joined.{with}
use Rattle.ocr_program_parser.specs.Machine as m
use Rattle.ocr_program_parser.specs.Fits.{fits, LeadsTo, LeadsToFlags, LeadsToOutput, IsFitting}
use Rattle.ocr_program_parser.proofs.Joined.{with_none, with_more}

-- arguments that lead to no further slot fit
pub fits_whole : (c : CallName) (done : Arguments) → LeadsTo c done [] → fits (shape c) done ≡ true
fits_whole c done w = ap (fits (shape c)) (sym (with_none done)) ∙ w empty refl

pub leads_value : (c : CallName) (done : Arguments) (ss : List ArgumentKind) (e : Expression) → LeadsTo c done (Value ∷ ss)
    → LeadsTo c (with done (value e empty)) ss
leads_value c done ss e w args is = ap (fits (shape c)) (with_more done (value e empty) args) ∙ w (value e args) is

pub leads_list : (c : CallName) (done : Arguments) (ss : List ArgumentKind) (es : Arguments) → LeadsTo c done (Values ∷ ss)
    → LeadsTo c (with done (list es empty)) ss
leads_list c done ss es w args is = ap (fits (shape c)) (with_more done (list es empty) args) ∙ w (list es args) is

pub leads_named : (c : CallName) (done : Arguments) (ss : List ArgumentKind) (x : List ℕ) → LeadsTo c done (NameOfFunction ∷ ss)
    → LeadsTo c (with done (named x empty)) ss
leads_named c done ss x w args is = ap (fits (shape c)) (with_more done (named x empty) args) ∙ w (named x args) is

pub leads_output : (c : CallName) (done : Arguments) (e : Expression) → LeadsToFlags c done
    → LeadsToOutput c (with done (value e empty))
leads_output c done e w x = ap (fits (shape c)) (with_more done (value e empty) (named x empty)) ∙ w e (named x empty) refl

pub folded_fits : (l : ℕ) (k : m.Stack) (e : Expression) → IsFitting k → IsFitting (m.fold_of l k e).pending
folded_fits l (m.Bottom p) e w = w
folded_fits l (m.Left a op k) e w = cond_both (nat_le l (level op)) _ _ (λ (held : m.Held). IsFitting held.pending)
    (λ _. folded_fits l k (tree.Binary op a e) w)
    (λ _. w)
folded_fits l (m.Prefix op k) e w = folded_fits l k (tree.Unary op e) w
folded_fits l (m.Round k) e w = w
folded_fits l (m.Index i k) e w = w
folded_fits l (m.Argument c done ss k) e w = w
folded_fits l (m.Member c done es ss k) e w = w
folded_fits l (m.FlagsArgument c done k) e w = w
