-- The calls that are being read, in memory.
use Rattle.std.proofs.Common.{◌≡◌, ℕ, List, [], ◌∷◌, ◌++◌, Some, None, true, length, refl, sym, ap, subst, ◌∙◌, Vec, Box, Global}
use Rattle.std.specs.List.{slice_get}
use Rattle.ocr_program_tree.specs.declared.tree.CallName.{CallName}
use Rattle.ocr_program_tree.specs.declared.tree.BinaryOp.{BinaryOp}
use Rattle.ocr_program_tree.specs.declared.tree.Expr.{Expr}
use Rattle.ocr_program_tree.specs.View.{expression_of, members_of}
use Rattle.ocr_program_tree.specs.Tree.{Expression, Arguments, empty, value, list, named}
use Rattle.ocr_program_grammar.specs.declared.lexeme.Lexeme.{Lexeme}
use Rattle.ocr_program_grammar.specs.declared.argument_kind.ArgumentKind.{ArgumentKind}
use Rattle.ocr_program_grammar.specs.declared.argument_kind.ArgumentKind.TheVariants.{Value, Values, NameOfFunction, FlagsAndOutput}
use Rattle.ocr_program_grammar.specs.Shape.{shape}
use Rattle.ocr_program_parser.specs.Joined.{with}
use Rattle.ocr_program_parser.specs.Machine as m
use Rattle.ocr_program_parser.specs.Fits.{fits, LeadsTo, LeadsToFlags, IsFitting}
use Rattle.ocr_program_parser.specs.View.{IsPushed, argument_onto, args_of, slots_left, slots_after, stack_of, held_of}
use Rattle.ocr_program_parser.specs.declared.stack.Arg.{Arg}
use Rattle.ocr_program_parser.specs.declared.stack.Arg.TheVariants as arg
use Rattle.ocr_program_parser.specs.declared.stack.Stack.{Stack}
use Rattle.ocr_program_parser.proofs.Fits.{fits_whole, leads_value, folded_fits}
use Rattle.ocr_program_parser.proofs.Lists.{args_more, slots_more, slots_some, slots_none}

is_pushed : (args more : List Arg) (a : Arg) → more ≡ args ++ a ∷ [] → IsPushed args more (argument_onto a empty)
is_pushed args more a is = record {
  given = ap args_of is ∙ args_more args a;
  slots = λ c. ap (slots_left c) is ∙ slots_more c args a;
}

pub pushed_value : (args more : List Arg) (b : Box Expr Global) → more ≡ args ++ arg.Value b ∷ []
    → IsPushed args more (value (expression_of b.value) empty)
pushed_value args more b is = is_pushed args more (arg.Value b) is

pub pushed_list : (args more : List Arg) (es : Vec Expr Global) → more ≡ args ++ arg.List es ∷ []
    → IsPushed args more (list (members_of es.items) empty)
pushed_list args more es is = is_pushed args more (arg.List es) is

pub pushed_name : (args more : List Arg) (x : List ℕ) → more ≡ args ++ arg.Named x ∷ []
    → IsPushed args more (named x empty)
pushed_name args more x is = is_pushed args more (arg.Named x) is

-- the next argument, by its slot
begins : (h : m.Position) (c : CallName) (args : List Arg) (k : m.CallSite) (ss : List ArgumentKind) → slots_left c args ≡ ss
    → m.argument h c (args_of args) ss k ≡ m.argument h c (args_of args) (slots_left c args) k
begins h c args k ss is = ap (λ (l : List ArgumentKind). m.argument h c (args_of args) l k) (sym is)

pub argument_none : (h : m.Position) (c : CallName) (args : List Arg) (k : m.CallSite)
    → slice_get (shape c) (length args) ≡ None
    → m.CallEnd h c (args_of args) k ≡ m.argument h c (args_of args) (slots_left c args) k
argument_none h c args k is = begins h c args k [] (slots_none c args is)

pub argument_value : (h : m.Position) (c : CallName) (args : List Arg) (k : m.CallSite)
    → slice_get (shape c) (length args) ≡ Some Value
    → m.Operand h (m.Argument c (args_of args) (slots_after c args) k) ≡ m.argument h c (args_of args) (slots_left c args) k
argument_value h c args k is = begins h c args k (Value ∷ slots_after c args) (slots_some c args Value is)

pub argument_values : (h : m.Position) (c : CallName) (args : List Arg) (k : m.CallSite)
    → slice_get (shape c) (length args) ≡ Some Values
    → m.ListOpen h c (args_of args) (slots_after c args) k ≡ m.argument h c (args_of args) (slots_left c args) k
argument_values h c args k is = begins h c args k (Values ∷ slots_after c args) (slots_some c args Values is)

pub argument_named : (h : m.Position) (c : CallName) (args : List Arg) (k : m.CallSite)
    → slice_get (shape c) (length args) ≡ Some NameOfFunction
    → m.NameAt h c (args_of args) (slots_after c args) k ≡ m.argument h c (args_of args) (slots_left c args) k
argument_named h c args k is = begins h c args k (NameOfFunction ∷ slots_after c args) (slots_some c args NameOfFunction is)

pub argument_flags : (h : m.Position) (c : CallName) (args : List Arg) (k : m.CallSite)
    → slice_get (shape c) (length args) ≡ Some FlagsAndOutput
    → m.Operand h (m.FlagsArgument c (args_of args) k) ≡ m.argument h c (args_of args) (slots_left c args) k
argument_flags h c args k is = begins h c args k (FlagsAndOutput ∷ slots_after c args) (slots_some c args FlagsAndOutput is)

-- the token after an argument, by the slot that comes next
follows : (h : m.Position) (c : CallName) (args : List Arg) (k : m.CallSite) (t : Lexeme) (ss : List ArgumentKind) → slots_left c args ≡ ss
    → m.after_argument h c (args_of args) ss k t ≡ m.after_argument h c (args_of args) (slots_left c args) k t
follows h c args k t ss is = ap (λ (l : List ArgumentKind). m.after_argument h c (args_of args) l k t) (sym is)

pub followed_none : (h : m.Position) (c : CallName) (args : List Arg) (k : m.CallSite) (t : Lexeme)
    → slice_get (shape c) (length args) ≡ None
    → m.at_end h c (args_of args) k t ≡ m.after_argument h c (args_of args) (slots_left c args) k t
followed_none h c args k t is = follows h c args k t [] (slots_none c args is)

pub followed_some : (h : m.Position) (c : CallName) (args : List Arg) (k : m.CallSite) (t : Lexeme) (s : ArgumentKind)
    → slice_get (shape c) (length args) ≡ Some s
    → m.at_comma h c (args_of args) (slots_left c args) k t ≡ m.after_argument h c (args_of args) (slots_left c args) k t
followed_some h c args k t s is =
    ap (λ (l : List ArgumentKind). m.at_comma h c (args_of args) l k t) (slots_some c args s is)
    ∙ follows h c args k t (s ∷ slots_after c args) (slots_some c args s is)

pub fits_at_end : (c : CallName) (args : List Arg) → slice_get (shape c) (length args) ≡ None
    → LeadsTo c (args_of args) (slots_left c args) → fits (shape c) (args_of args) ≡ true
fits_at_end c args is w = fits_whole c (args_of args) (subst (LeadsTo c (args_of args)) (slots_none c args is) w)

-- after one argument more
pub leads_pushed : (c : CallName) (args more : List Arg) (e : Expression) → IsPushed args more (value e empty)
    → LeadsTo c (args_of args) (Value ∷ slots_after c args) → LeadsTo c (args_of more) (slots_left c more)
leads_pushed c args more e p w =
    let here : LeadsTo c (args_of more) (slots_after c args) = subst (λ (a : Arguments). LeadsTo c a (slots_after c args)) (sym p.given) (leads_value c (args_of args) (slots_after c args) e w) in
    subst (LeadsTo c (args_of more)) (sym (p.slots c)) here

pub followed_pushed : (h : m.Position) (c : CallName) (args more : List Arg) (a : Arguments) (k : m.CallSite) (t : Lexeme)
    → IsPushed args more a
    → m.after_argument h c (args_of more) (slots_left c more) k t ≡ m.after_argument h c (with (args_of args) a) (slots_after c args) k t
followed_pushed h c args more a k t p =
    ap (λ (g : Arguments). m.after_argument h c g (slots_left c more) k t) p.given
    ∙ ap (λ (l : List ArgumentKind). m.after_argument h c (with (args_of args) a) l k t) (p.slots c)

pub after_pushed : (h : m.Position) (c : CallName) (args more : List Arg) (a : Arguments) (k : m.CallSite)
    → IsPushed args more a
    → m.AfterArgument h c (args_of more) (slots_left c more) k ≡ m.AfterArgument h c (with (args_of args) a) (slots_after c args) k
after_pushed h c args more a k p =
    ap (λ (g : Arguments). m.AfterArgument h c g (slots_left c more) k) p.given
    ∙ ap (λ (l : List ArgumentKind). m.AfterArgument h c (with (args_of args) a) l k) (p.slots c)

pub ending_pushed : (h : m.Position) (c : CallName) (args more : List Arg) (a : Arguments) (k : m.CallSite)
    → IsPushed args more a → m.CallEnd h c (args_of more) k ≡ m.CallEnd h c (with (args_of args) a) k
ending_pushed h c args more a k p = ap (λ (g : Arguments). m.CallEnd h c g k) p.given

pub flags_pushed : (c : CallName) (args more : List Arg) (e : Expression) → IsPushed args more (value e empty)
    → LeadsToFlags c (args_of args) → fits (shape c) (args_of more) ≡ true
flags_pushed c args more e p w = ap (fits (shape c)) p.given ∙ w e empty refl

pub after_flags_pushed : (h : m.Position) (c : CallName) (args more : List Arg) (a : Arguments) (k : m.CallSite) (t : Lexeme)
    → IsPushed args more a → m.after_flags h c (args_of more) k t ≡ m.after_flags h c (with (args_of args) a) k t
after_flags_pushed h c args more a k t p = ap (λ (g : Arguments). m.after_flags h c g k t) p.given

-- a call begins
pub opened : (h : m.Position) (c : CallName) (items : List Arg) (k : m.CallSite) → items ≡ []
    → m.argument h c (args_of items) (slots_left c items) k ≡ m.argument h c empty (shape c) k
opened h c items k is = ap (λ (l : List Arg). m.argument h c (args_of l) (slots_left c l) k) is

-- what was put together
pub closed_held : (h : m.Position) (stack : Stack) (e : Expr) (held : m.Held) (t : Lexeme) → held_of stack e ≡ held
    → m.at_operand_end h (stack_of stack) (expression_of e) t ≡ m.at_operand_end h held.pending held.value t
closed_held h stack e held t is = ap (λ (x : m.Held). m.at_operand_end h x.pending x.value t) is

pub infixed_held : (h : m.Position) (op : BinaryOp) (stack : Stack) (e : Expr) (held : m.Held) → held_of stack e ≡ held
    → m.Operand h (m.Left (expression_of e) op (stack_of stack)) ≡ m.at_right_operand h op held
infixed_held h op stack e held is = ap (λ (x : m.Held). m.at_right_operand h op x) is

pub fitting_held : (l : ℕ) (stack : Stack) (e : Expr) (k : m.Stack) (e1 : Expression) → held_of stack e ≡ m.fold_of l k e1
    → IsFitting k → IsFitting (stack_of stack)
fitting_held l stack e k e1 is w = subst (λ (x : m.Held). IsFitting x.pending) (sym is) (folded_fits l k e1 w)
