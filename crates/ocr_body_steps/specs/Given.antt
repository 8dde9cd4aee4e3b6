-- What the arguments of a call were found to be, and what the call comes to.
use Rattle.std.specs.Prelude.{◌≡◌, ℕ, List, [], ◌∷◌, ◌++◌, vec_items, map, replicate, Option, None}
use Rattle.std.specs.Prelude.{Some}
use Rattle.ocr_program_tree.specs.declared.tree.CallName.{CallName}
use Rattle.ocr_program_tree.specs.declared.tree.CallName.TheVariants as name
use Rattle.ocr_body_meaning.specs.Behaviour.{Behaviour, Stops}
use Rattle.ocr_body_meaning.specs.Meaning.{State, Given, Value, coded_call, load_step, store_step}
use Rattle.ocr_body_meaning.specs.declared.call.Call.{Call}
use Rattle.ocr_body_code.specs.Code.{name_at, IsFirstName}
use Rattle.ocr_body_code.specs.declared.code.Named.{Named}
use Rattle.ocr_body_steps.specs.declared.given.Given as found
use Rattle.ocr_body_steps.specs.declared.given.Way.{Way}
use Rattle.ocr_body_steps.specs.declared.given.Way.TheVariants as way

-- what the walker found the arguments of a call to be: so many empty lists are the last
abbrev pub given_of : found.Given → Given
given_of g = record {
  values = g.values.items;
  lists = map vec_items g.lists.items ++ replicate g.empty [];
}

-- the first of some names, or that there is none
abbrev pub IsFirst : (List ℕ → ℕ) → List (List ℕ) → (these : List (List ℕ)) → Option Named → Type 0
IsFirst numbers names these None = these ≡ []
IsFirst numbers names these (Some named) = IsFirstName numbers names named these

-- the variable that a call sets to its output event, by its place
abbrev pub output_at : List (List ℕ) → Option ℕ → List (List ℕ)
output_at names None = []
output_at names (Some i) = name_at names i ∷ []

abbrev pub output_place : CallName → Option Named → Option ℕ
output_place name.EdtCreate (Some named) = Some named.place
output_place other named = None

-- a call, by what it comes to
abbrev pub way_step : Way → Call → List (List ℕ) → State → Value → Behaviour
way_step (way.Ends s) call outputs st k = Stops s
way_step (way.Loads d w) call outputs st k = load_step d w st k
way_step (way.Stores d w v) call outputs st k = store_step d w v st k
way_step way.Coded call outputs st k = coded_call call outputs st k
