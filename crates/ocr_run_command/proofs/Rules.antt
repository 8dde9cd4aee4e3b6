-- The reader as clap builds it.
use Rattle.std.proofs.Common.{◌≡◌, ◌∙◌, ◌⊎◌, ◌&&◌, ◌||◌, ℕ, Bool, cond, true, false, refl, sym, ap, subst, inl, inr, true≢false, codes, List, [], ◌∷◌, ◌++◌, map, Option, Some, None}
use Rattle.std.specs.Prelude.{find, is_some, not}
use Rattle.std.specs.Str.{bytes_eq}
use Rattle.std.proofs.lemmas.Slice.Eq.{bytes_eq-Decides}
use Rattle.clap.specs.Walk.{Rule, arg_by_id, arg_by_index, arg_by_long, arg_by_short, has_long}
use Rattle.clap.specs.Simple.{Shape, built, is_simple, names_of, new_rule, new_shape}
use Rattle.clap.specs.Faults.{is_simple_and_free}
use Rattle.clap.specs.declared.builder.action.ArgAction.TheVariants.{Set, SetTrue, Append}
use Rattle.clap.specs.declared.builder.value_parser.ValueParser.TheVariants as vp
use Rattle.clap.specs.declared.builder.range.ValueRange.{ValueRange}
use Rattle.ocr_run_command.specs.Form.{Text, option_names, flag_names, is_in, numbers}
use Rattle.ocr_run_command.specs.Reader.{reader_app}
use Rattle.ocr_run_command.proofs.Rows.{same}

abbrev pub times : ℕ → Option ValueRange
times n = Some (record { start_inclusive = n; end_inclusive = n })

abbrev pub option_rule : Text → Rule
option_rule name = record (new_rule name) { long = Some name; action = Some Set; parser = Some vp.String; range = times 1 }

abbrev pub flag_rule : Text → Rule
flag_rule name = record (new_rule name) {
  long = Some name;
  action = Some SetTrue;
  parser = Some vp.Bool;
  range = times 0;
  defaults = codes "false" ∷ [];
  missing = codes "true" ∷ [];
}

abbrev pub number_rule : Rule
number_rule = record (new_rule numbers) { index = Some 1; action = Some Append; parser = Some vp.String; range = times 1 }

abbrev pub rules : List Rule
rules = map option_rule option_names ++ map flag_rule flag_names ++ number_rule ∷ []

-- the built command with these arguments
abbrev pub shape : List Rule → Shape
shape c = record (new_shape (codes "ocr")) { rules = c; disable_help_flag = true; disable_help_subcommand = true; is_built = true }

pub top_built : (built reader_app).top ≡ shape rules
top_built = refl

pub subs_built : (built reader_app).subs ≡ []
subs_built = refl

pub names_built : names_of (built reader_app) ≡ []
names_built = refl

pub is_free : is_simple_and_free reader_app ≡ true
is_free = refl

pub is_plain : is_simple reader_app ≡ true
is_plain = refl

-- what the walk finds in the arguments
pub record Finds (c : List Rule) : Type 0 where
  pub option_long : (name : Text) → is_in name option_names ≡ true → arg_by_long c name ≡ Some (option_rule name)
  pub option_id : (name : Text) → is_in name option_names ≡ true → arg_by_id c name ≡ Some (option_rule name)
  pub flag_long : (name : Text) → is_in name flag_names ≡ true → arg_by_long c name ≡ Some (flag_rule name)
  pub long_cases : (name : Text) (a : Rule) → arg_by_long c name ≡ Some a
      → (is_in name option_names ≡ true) × (a ≡ option_rule name) ⊎ (is_in name flag_names ≡ true) × (a ≡ flag_rule name)
  pub number_id : arg_by_id c numbers ≡ Some number_rule
  pub index : arg_by_index c 1 ≡ Some number_rule
  pub short : (x : ℕ) → arg_by_short c x ≡ None

abbrev pub Each : (Text → Type 0) → List Text → Type 0
Each P [] = Unit {0}
Each P (x ∷ xs) = P x × Each P xs

pub each : (P : Text → Type 0) (names : List Text) (name : Text) → Each P names → is_in name names ≡ true → P name
each P [] name h e = absurd (true≢false (sym e))
each P (x ∷ xs) name h e = go (each P xs name h.1) (bytes_eq x name) refl
  where
    go : (is_in name xs ≡ true → P name) → (b : Bool) → bytes_eq x name ≡ b → P name
    go later true t = subst P (same x name t) h.0
    go later false t = later (ap (λ b. b || is_in name xs) (sym t) ∙ e)

abbrev passes : Text → Rule → Bool
passes name a = not (is_some a.index) && has_long a name

some_same : (a b : Rule) → Some a ≡ Some b → a ≡ b
some_same a b e = ap (λ o. elim o as (λ _. Rule) [ Some x ↦ x | None ↦ a ]) e

-- the first of these that passes, or one of the rest
among : (rule : Text → Rule) (names : List Text) (rest : List Rule) (name : Text) (a : Rule) → ((x : Text) → passes name (rule x) ≡ true → x ≡ name)
    → find (passes name) (map rule names ++ rest) ≡ Some a
    → (is_in name names ≡ true) × (a ≡ rule name) ⊎ (find (passes name) rest ≡ Some a)
among rule [] rest name a exact e = inr e
among rule (x ∷ xs) rest name a exact e = go (among rule xs rest name a exact) (passes name (rule x)) refl
  where
    or_true : (b t : Bool) → t ≡ true → (b || t) ≡ true
    or_true true t e = refl
    or_true false t e = e

    go : (find (passes name) (map rule xs ++ rest) ≡ Some a → (is_in name xs ≡ true) × (a ≡ rule name) ⊎ (find (passes name) rest ≡ Some a))
        → (b : Bool) → passes name (rule x) ≡ b → (is_in name (x ∷ xs) ≡ true) × (a ≡ rule name) ⊎ (find (passes name) rest ≡ Some a)
    go later true t =
        let is : x ≡ name = exact x t in
        let here : Some (rule x) ≡ Some a = ap (λ b. cond b (Some (rule x)) (find (passes name) (map rule xs ++ rest))) (sym t) ∙ e in
        let hit : bytes_eq x name ≡ true = (bytes_eq-Decides x name).1 is in
        inl (ap (λ b. b || is_in name xs) hit, sym (some_same _ _ here) ∙ ap rule is)
    go later false t = elim (later (ap (λ b. cond b (Some (rule x)) (find (passes name) (map rule xs ++ rest))) (sym t) ∙ e)) [
      | inl h ↦ inl (or_true (bytes_eq x name) _ h.0, h.1)
      | inr h ↦ inr h
    ]

or_false : (b : Bool) → (b || false) ≡ true → b ≡ true
or_false true e = refl
or_false false e = e

pub finds : Finds rules
finds = record {
  option_long = λ name e. each (λ n. arg_by_long rules n ≡ Some (option_rule n)) option_names name (refl, (refl, (refl, tt))) e;
  option_id = λ name e. each (λ n. arg_by_id rules n ≡ Some (option_rule n)) option_names name (refl, (refl, (refl, tt))) e;
  flag_long = λ name e. each (λ n. arg_by_long rules n ≡ Some (flag_rule n)) flag_names name (refl, (refl, (refl, (refl, (refl, (refl, (refl, tt))))))) e;
  long_cases = λ name a e.
      let exact : (x : Text) → passes name (option_rule x) ≡ true → x ≡ name = λ x t. same x name (or_false _ t) in
      let exact_flag : (x : Text) → passes name (flag_rule x) ≡ true → x ≡ name = λ x t. same x name (or_false _ t) in
      elim (among option_rule option_names (map flag_rule flag_names ++ number_rule ∷ []) name a exact e) [
        | inl h ↦ inl h
        | inr h ↦ elim (among flag_rule flag_names (number_rule ∷ []) name a exact_flag h) [
          | inl k ↦ inr k
          | inr k ↦ absurd (none_some a k)
        ]
      ];
  number_id = refl;
  index = refl;
  short = λ x. refl;
}
  where
    none_some : (a : Rule) → None ≡ Some a → ⊥
    none_some a e = true≢false (sym (ap (λ o. is_some o) e))
