-- The arguments of a call, looked at one by one.
use Rattle.std.proofs.Common.{◌≡◌, ◌<◌, ◌+◌, ℕ, suc, Bool, List, [], ◌∷◌, length, get_or, drop, Option, None, refl, sym, ap, subst, ◌∙◌}
use Rattle.std.specs.Option.{option_or}
use Rattle.std.proofs.lemmas.List.{at_drop_more}
use Rattle.ocr_program_tree.specs.Tree.{Arguments}
use Rattle.ocr_program_tree.specs.Argument.{plain_of, plain_before}
use Rattle.ocr_program_tree.specs.View.{expression_of, members_of}
use Rattle.ocr_program_tree.specs.declared.tree.CallName.{CallName}
use Rattle.ocr_program_tree.specs.declared.tree.CallName.TheVariants as name
use Rattle.ocr_program_tree.specs.declared.tree.Expr.{Expr}
use Rattle.ocr_program_tree.specs.declared.argument.Argument.{Argument}
use Rattle.ocr_program_tree.specs.declared.argument.Argument.TheVariants as argument
use Rattle.ocr_program_check.specs.Check.{count_of, ListClosed, mention_of_name}
use Rattle.ocr_program_check.specs.Checked.{expression_rule, arguments_rule, mention_rule}
use Rattle.ocr_program_check.specs.Names.{members_rule, IsStopAt}
use Rattle.ocr_program_check.specs.declared.rules.CheckStop.{CheckStop}
use Rattle.ocr_program_tree.specs.declared.rules.TheConstants.{MOST_PARAMETERS, MOST_DEPENDENCES}
use Rattle.ocr_program_check.proofs.Mentions.{option_or-assoc}
use Rattle.ocr_program_check.proofs.Parts.{or_of_none}
use Rattle.ocr_program_check.proofs.Stops.{first_stops}

count-members : (xs : List Expr) → count_of (members_of xs) ≡ length xs
count-members [] = refl
count-members (x ∷ xs) = ap suc (count-members xs)

-- values are looked at alike in each list of each call
members_alike : (known declared : List ℕ → Bool) (call : CallName) (most : ℕ) (xs : List Expr)
    → arguments_rule known declared call most (members_of xs) ≡ arguments_rule known declared name.EdtCreate MOST_PARAMETERS (members_of xs)
members_alike known declared call most [] = refl
members_alike known declared call most (x ∷ xs) =
    ap (λ (o : Option ℕ). option_or (expression_rule known declared (expression_of x)) o) (members_alike known declared call most xs)

-- the rule that an argument alone breaks
abbrev pub own_rule : (known declared : List ℕ → Bool) → CallName → ℕ → Argument → Option ℕ
own_rule known declared call most (argument.Value e) = expression_rule known declared (expression_of e.now)
own_rule known declared call most (argument.List es) = members_rule known declared most es.now
own_rule known declared call most (argument.Name x) = mention_rule known declared (mention_of_name call x.now)

-- what the next list holds
abbrev pub next_most : ℕ → Argument → ℕ
next_most most (argument.Value e) = most
next_most most (argument.List es) = MOST_DEPENDENCES
next_most most (argument.Name x) = most

taken : (known declared : List ℕ → Bool) (call : CallName) (most : ℕ) (a : Argument) (rest : Arguments)
    → arguments_rule known declared call most (plain_before a rest)
    ≡ option_or (own_rule known declared call most a) (arguments_rule known declared call (next_most most a) rest)
taken known declared call most (argument.Value e) rest = refl
taken known declared call most (argument.List es) rest =
    let after : Option ℕ = arguments_rule known declared call MOST_DEPENDENCES rest in
    (λ i. option_or (members_alike known declared call most es.now i)
    (option_or (mention_rule known declared (ListClosed most (count-members es.now i))) after))
    ∙ sym (option_or-assoc (arguments_rule known declared name.EdtCreate MOST_PARAMETERS (members_of es.now))
    (mention_rule known declared (ListClosed most (length es.now))) after)
taken known declared call most (argument.Name x) rest = refl

parted : (known declared : List ℕ → Bool) (call : CallName) (most : ℕ) (place : ℕ) (xs : List Argument) (a : Argument)
    → place < length xs → a ≡ get_or xs place a → arguments_rule known declared call most (plain_of (drop place xs))
    ≡ option_or (own_rule known declared call most a) (arguments_rule known declared call (next_most most a) (plain_of (drop (place + 1) xs)))
parted known declared call most place xs a inside is =
    at_drop_more (λ (l : List Argument). arguments_rule known declared call most (plain_of l)) xs place a inside
    ∙ ap (λ (b : Argument). arguments_rule known declared call most (plain_of (b ∷ drop (place + 1) xs))) (sym is)
    ∙ taken known declared call most a (plain_of (drop (place + 1) xs))

-- an argument that breaks no rule leaves the others
pub passes : (known declared : List ℕ → Bool) (call : CallName) (most next : ℕ) (place : ℕ) (xs : List Argument) (a b : Argument)
    (whole : Option ℕ) → place < length xs → a ≡ get_or xs place a → a ≡ b → next ≡ next_most most b
    → whole ≡ arguments_rule known declared call most (plain_of (drop place xs)) → own_rule known declared call most b ≡ None
    → whole ≡ arguments_rule known declared call next (plain_of (drop (place + 1) xs))
passes known declared call most next place xs a b whole inside at is most_is so_far none =
    so_far ∙ parted known declared call most place xs a inside at
    ∙ or_of_none (own_rule known declared call most a) (arguments_rule known declared call (next_most most a) (plain_of (drop (place + 1) xs)))
    (ap (own_rule known declared call most) is ∙ none)
    ∙ ap (λ (k : ℕ). arguments_rule known declared call k (plain_of (drop (place + 1) xs))) (ap (next_most most) is ∙ sym most_is)

-- one that breaks a rule is the first that does
pub stops : (known declared : List ℕ → Bool) (call : CallName) (most : ℕ) (place : ℕ) (xs : List Argument) (a : Argument) (whole : Option ℕ)
    (number : ℕ) (stop : CheckStop) → place < length xs → a ≡ get_or xs place a
    → whole ≡ arguments_rule known declared call most (plain_of (drop place xs))
    → IsStopAt number (own_rule known declared call most a) stop → IsStopAt number whole stop
stops known declared call most place xs a whole number stop inside is so_far at =
    subst (λ (o : Option ℕ). IsStopAt number o stop) (sym (so_far ∙ parted known declared call most place xs a inside is))
    (first_stops number (own_rule known declared call most a) (arguments_rule known declared call (next_most most a) (plain_of (drop (place + 1) xs))) stop at)
