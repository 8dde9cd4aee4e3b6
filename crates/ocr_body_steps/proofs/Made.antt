-- A call once its arguments are found.
use Rattle.std.proofs.Common.{◌≡◌, ◌<◌, ◌∙◌, sym, ap, refl, List, [], ◌∷◌, ℕ, true, nat_lt, length, slice_index_or, Option, None, Some, is_some, IfSome, IfNone, arith}
use Rattle.ocr_program_tree.specs.Tree.{Arguments, names_in}
use Rattle.ocr_program_tree.specs.declared.tree.CallName.{CallName}
use Rattle.ocr_program_tree.specs.declared.tree.CallName.TheVariants as name
use Rattle.ocr_body_meaning.specs.Behaviour.{Asks}
use Rattle.ocr_body_meaning.specs.Holds.{private_of}
use Rattle.ocr_body_meaning.specs.Meaning.{State, Value, Frame, Given, is_output, with_variable, outputs_of, function_in, coded_call, call_step, call_of, made_step}
use Rattle.ocr_body_meaning.specs.Holds.{after_call}
use Rattle.ocr_guid.specs.Code.{number_of}
use Rattle.ocr_body_meaning.specs.declared.call.Call.{Call}
use Rattle.ocr_body_code.specs.Code.{IsFirstName, has_function, name_at, arguments_at, are_args_placed}
use Rattle.ocr_body_code.specs.declared.code.ArgCode.{ArgCode}
use Rattle.ocr_body_code.specs.declared.code.Named.{Named}
use Rattle.ocr_body_steps.specs.Given.{IsFirst, output_at, output_place, way_step}
use Rattle.ocr_body_steps.specs.declared.given.Way.{Way}
use Rattle.ocr_body_steps.specs.declared.given.Way.TheVariants as way

-- what is said of the first name is so
pub first_is : (numbers : List ℕ → ℕ) (names : List (List ℕ)) (args : ArgCode) (o : Option Named) → are_args_placed numbers names args ≡ true
    → IfNone o ((names : List (List ℕ)) → names_in (arguments_at names args) ≡ [])
    → IfSome o (λ named. (numbers : List ℕ → ℕ) (names : List (List ℕ)) → are_args_placed numbers names args ≡ true → IsFirstName numbers names named (names_in (arguments_at names args)))
    → IsFirst numbers names (names_in (arguments_at names args)) o
first_is numbers names args None placed none some = none names
first_is numbers names args (Some named) placed none some = some numbers names placed

-- whether a name stands
pub stands : (numbers : List ℕ → ℕ) (names these : List (List ℕ)) (o : Option Named) → IsFirst numbers names these o → is_output these ≡ is_some o
stands numbers names these None is = ap is_output is
stands numbers names [] (Some named) is = absurd (omega (arith, is.some))
stands numbers names (x ∷ rest) (Some named) is = refl

-- the number of the function that is wanted
pub wanted : (numbers : List ℕ → ℕ) (names : List (List ℕ)) (f : Frame) (xs : Arguments) (o : Option Named) (made : CallName) (n : ℕ) → f.function_of ≡ numbers → has_function made xs ≡ true
    → IsFirst numbers names (names_in xs) o → IfSome o (λ named. n ≡ named.number) → made ≡ name.TemplateCreate → function_in f xs ≡ n
wanted numbers names f xs None made n same has is number of =
    let there : nat_lt 0 (length (names_in xs)) ≡ true = sym (ap (λ (m : CallName). has_function m xs) of) ∙ has in
    cc (sym (ap (λ (l : List (List ℕ)). nat_lt 0 (length l)) is) ∙ there)
wanted numbers names f xs (Some named) made n same has is number of =
    ap (λ (g : List ℕ → ℕ). g (slice_index_or (names_in xs) 0 [])) same ∙ is.number ∙ sym number

first_asked : (these : List (List ℕ)) (x : List ℕ) (made : Call) (st : State) (k : Value) → 0 < length these → slice_index_or these 0 [] ≡ x → coded_call made these st k ≡ coded_call made (x ∷ []) st k
first_asked [] x made st k some is = absurd (omega (arith, some))
first_asked (y ∷ rest) x made st k some is =
    λ i. Asks made (private_of made st.holds) (λ a. k a.value (with_variable (is i) a.output (record { fuel = st.fuel; code = number_of a.code; variables = st.variables; holds = after_call made a st.holds })))

-- the call sets the first name's variable, by its place
asked_alike : (numbers : List ℕ → ℕ) (names : List (List ℕ)) (xs : Arguments) (n : CallName) (o : Option Named) → IsFirst numbers names (names_in xs) o → (made : Call) (st : State) (k : Value)
    → coded_call made (outputs_of n xs) st k ≡ coded_call made (output_at names (output_place n o)) st k
asked_alike numbers names xs name.EdtCreate None is made st k = ap (λ (l : List (List ℕ)). coded_call made l st k) is
asked_alike numbers names xs name.EdtCreate (Some named) is made st k = first_asked (names_in xs) (name_at names named.place) made st k is.some is.first
asked_alike numbers names xs other o is made st k = refl

way_alike : (w : Way) (made : Call) (outputs others : List (List ℕ)) (st : State) (k : Value) → coded_call made outputs st k ≡ coded_call made others st k → way_step w made outputs st k ≡ way_step w made others st k
way_alike (way.Ends s) made outputs others st k alike = refl
way_alike (way.Loads d w) made outputs others st k alike = refl
way_alike (way.Stores d w v) made outputs others st k alike = refl
way_alike way.Coded made outputs others st k alike = alike

-- a call whose arguments were found is the one that its form says, by what it comes to
pub made_alike : (numbers : List ℕ → ℕ) (names : List (List ℕ)) (f : Frame) (n : CallName) (xs : Arguments) (g : Given) (o : Option Named) (made : Call) (w : Way) → IsFirst numbers names (names_in xs) o
    → made ≡ call_of f n xs g → ((outputs : List (List ℕ)) (st : State) (k : Value) → made_step made outputs st k ≡ way_step w made outputs st k)
    → (st : State) (k : Value) → call_step f n xs g st k ≡ way_step w made (output_at names (output_place n o)) st k
made_alike numbers names f n xs g o made w first is ways st k =
    ap (λ (c : Call). made_step c (outputs_of n xs) st k) (sym is)
    ∙ ways (outputs_of n xs) st k
    ∙ way_alike w made (outputs_of n xs) (output_at names (output_place n o)) st k (asked_alike numbers names xs n o first made st k)
