-- Arguments, the first of which are found.
use Rattle.std.proofs.Common.{rules, ◌≡◌, ◌∙◌, ap, sym, subst, refl, arith, ℕ, List, [], ◌∷◌, true, ◌==◌, length, nat_lt, Option, None, Some, IfNone, IfSome}
use Rattle.ocr_body_meaning.specs.Behaviour.{Behaviour}
use Rattle.ocr_body_meaning.specs.Holds.{Holds}
use Rattle.ocr_body_meaning.specs.Meaning.{Frame, State, Given, nothing_given, with_value, with_list, eval_all}
use Rattle.ocr_program_tree.specs.Tree as tree
use Rattle.ocr_program_tree.specs.Tree.{Expression, Arguments, names_in}
use Rattle.ocr_body_code.specs.Code.{IsFirstName, name_at, is_name_placed}
use Rattle.ocr_body_code.specs.declared.code.Named.{Named}
use Rattle.ocr_body_code.proofs.Sides.{first_of, second_of}
use Rattle.ocr_body_steps.specs.Given.{IsFirst}
use Rattle.ocr_body_steps.specs.Plain.{Leaves, LeavesGiven, items_given}

-- a state with so much fuel
abbrev with_fuel : (code : ℕ) → (variables : List ℕ → ℕ) → Holds → ℕ → State
with_fuel code variables holds fuel = record { fuel = fuel; code = code; variables = variables; holds = holds }

-- arguments come to what these come to that are left of them
abbrev pub Goes : Frame → (code : ℕ) → (variables : List ℕ → ℕ) → Arguments → (before : ℕ) → (old : Given) → Arguments → (left : ℕ) → (new : Given) → Type 0
Goes f code variables xs before old rest left new =
    (holds : Holds) (k : Given → State → Behaviour)
    → eval_all f xs old (record { fuel = before; code = code; variables = variables; holds = holds }) k
    ≡ eval_all f rest new (record { fuel = left; code = code; variables = variables; holds = holds }) k

-- a name is not found
pub name_goes : (f : Frame) (code : ℕ) (variables : List ℕ → ℕ) (xs ys rest : Arguments) (before left : ℕ) (old new : Given) (x : List ℕ)
    → Goes f code variables xs before old ys left new → ys ≡ tree.named x rest → Goes f code variables xs before old rest left new
name_goes f code variables xs ys rest before left old new x goes is =
    λ holds k. goes holds k ∙ ap (λ (zs : Arguments). eval_all f zs new (with_fuel code variables holds left) k) is

-- a value is found
pub value_goes : (f : Frame) (code : ℕ) (variables : List ℕ → ℕ) (xs ys rest : Arguments) (before left after : ℕ) (old new more : Given) (e : Expression) (v : ℕ)
    → Goes f code variables xs before old ys left new → ys ≡ tree.value e rest → Leaves f e code variables left v after → more ≡ with_value new v → Goes f code variables xs before old rest after more
value_goes f code variables xs ys rest before left after old new more e v goes is found added =
    λ holds k.
    goes holds k
    ∙ ap (λ (zs : Arguments). eval_all f zs new (with_fuel code variables holds left) k) is
    ∙ found holds (λ v st. eval_all f rest (with_value new v) st k)
    ∙ ap (λ (g : Given). eval_all f rest g (with_fuel code variables holds after) k) (sym added)

-- a list is found
pub list_goes : (f : Frame) (code : ℕ) (variables : List ℕ → ℕ) (xs ys es rest : Arguments) (before left after : ℕ) (old new more : Given) (items : List ℕ)
    → Goes f code variables xs before old ys left new → ys ≡ tree.list es rest → LeavesGiven f es code variables left nothing_given (items_given items) after → more ≡ with_list new items
    → Goes f code variables xs before old rest after more
list_goes f code variables xs ys es rest before left after old new more items goes is found added =
    λ holds k.
    goes holds k
    ∙ ap (λ (zs : Arguments). eval_all f zs new (with_fuel code variables holds left) k) is
    ∙ found holds (λ of st. eval_all f rest (with_list new of.values) st k)
    ∙ ap (λ (g : Given). eval_all f rest g (with_fuel code variables holds after) k) (sym added)

-- none is left
pub all_gone : (f : Frame) (code : ℕ) (variables : List ℕ → ℕ) (xs ys : Arguments) (before left : ℕ) (old new : Given)
    → Goes f code variables xs before old ys left new → ys ≡ tree.empty → LeavesGiven f xs code variables before old new left
all_gone f code variables xs ys before left old new goes is =
    λ holds k. goes holds k ∙ ap (λ (zs : Arguments). eval_all f zs new (with_fuel code variables holds left) k) is

-- while a first name is sought: none came so far, or it is this
abbrev pub Seeks : (numbers : List ℕ → ℕ) (names these left : List (List ℕ)) → Option Named → Type 0
Seeks numbers names these left None = these ≡ left
Seeks numbers names these left (Some named) = IsFirstName numbers names named these

-- what is no name is passed over
pub seeks_on : (numbers : List ℕ → ℕ) (names these left rest : List (List ℕ)) (o : Option Named) → left ≡ rest → Seeks numbers names these left o → Seeks numbers names these rest o
seeks_on numbers names these left rest None is seeks = seeks ∙ is
seeks_on numbers names these left rest (Some named) is seeks = seeks

first_placed : (numbers : List ℕ → ℕ) (names rest : List (List ℕ)) (x : Named) → nat_lt x.place (length names) ≡ true → (numbers (name_at names x.place) == x.number) ≡ true
    → IsFirstName numbers names x (name_at names x.place ∷ rest)
first_placed numbers names rest x less same = record { some = omega arith; placed = search rules; first = refl; number = search rules }

-- a name is the first where none came before
pub seeks_name : (numbers : List ℕ → ℕ) (names these left rest : List (List ℕ)) (x : Named) (o next : Option Named) → left ≡ name_at names x.place ∷ rest → is_name_placed numbers names x ≡ true
    → IfSome o (λ first. next ≡ Some first) → IfNone o (next ≡ Some x) → Seeks numbers names these left o → Seeks numbers names these rest next
seeks_name numbers names these left rest x None next is placed some none seeks =
    let all : these ≡ name_at names x.place ∷ rest = seeks ∙ is in
    subst (λ (n : Option Named). Seeks numbers names these rest n) (sym none)
    (subst (λ (l : List (List ℕ)). IsFirstName numbers names x l) (sym all) (first_placed numbers names rest x (first_of _ _ placed) (second_of _ _ placed)))
seeks_name numbers names these left rest x (Some first) next is placed some none seeks =
    subst (λ (n : Option Named). Seeks numbers names these rest n) (sym some) seeks

-- where none is left, it is known
pub all_sought : (numbers : List ℕ → ℕ) (names these left : List (List ℕ)) (o : Option Named) → left ≡ [] → Seeks numbers names these left o → IsFirst numbers names these o
all_sought numbers names these left None is seeks = seeks ∙ is
all_sought numbers names these left (Some named) is seeks = seeks
