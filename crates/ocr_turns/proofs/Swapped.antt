-- A clerk with another value where one of its parts stood.
use Rattle.std.proofs.Common.{◌≡◌, ℕ, ◌-◌, ◌∙◌, sym, ap, List, length, Option, Some}
use Rattle.atomic_table.specs.Table.{Me}
use Rattle.ocr_turns_rule.specs.Clerks.{IsTrueTo}
use Rattle.ocr_turns_rule.specs.Contract.{Known}
use Rattle.ocr_turns_rule.specs.Sums.{find, keys, replace}
use Rattle.ocr_turns_rule.specs.declared.view.View.{View}
use Rattle.ocr_turns_rule.proofs.Numbered.{keys_replace}
use Rattle.ocr_turns_rule.proofs.Opens.{replace_length}

module _ {G E P N F : Type 0} where
  -- what is found in the clerk as it is seen stands in its own list
  pub found : {was old : Known G E P N F} (p : ℕ) → was ≡ old → (x : P) × (find p old.parts ≡ Some (Some x)) → (x : Option P) × (find p was.parts ≡ Some x)
  found p same at = (Some at.0, ap (λ k. find p k.parts) same ∙ at.1)

  pub swapped_true : {me : Me (Option P) (View G E P N F)} {log : List (ℕ × E)} {joined : List (List (ℕ × E))} {parts parts' : List (ℕ × Option P)} {owed : List (ℕ × ℕ × N)} {weight : ℕ} {closed full : Option ℕ} {count : ℕ}
      (p : ℕ) (a : Option P) → parts' ≡ replace p a parts → IsTrueTo me log joined parts owed weight closed full count → IsTrueTo me log joined parts' owed weight closed full count
  swapped_true {parts = parts} p a new old = record { log_is = old.log_is; joined_are = old.joined_are; keeps = ap keys new ∙ (keys_replace p a parts ∙ old.keeps); owed_are = old.owed_are; weight_is = old.weight_is; closed_is = old.closed_is; full_is = old.full_is; fewer = old.fewer; exact = old.exact; past_end = old.past_end; past_limit = old.past_limit; ranges = old.ranges; rests = old.rests; seat = old.seat }

  -- it has the same room, since its list is as long as before
  pub swapped_rest : {was old : Known G E P N F} {parts' : List (ℕ × Option P)} {capacity capacity' : ℕ}
      (p : ℕ) (a : Option P) (parts : List (ℕ × Option P)) → parts' ≡ replace p a parts → capacity' ≡ capacity → was.spare ≡ capacity - length parts → was ≡ old
      → (was.table ≡ old.table) × (was.view ≡ old.view) × ((was.room ≡ old.room) × (capacity' - length parts' ≡ old.spare) × (was.space ≡ old.space))
  swapped_rest p a parts new room spare same =
      let size = ap length new ∙ replace_length p a parts in
      (ap (λ k. k.table) same, ap (λ k. k.view) same, (ap (λ k. k.room) same, (λ i. room i - size i) ∙ (sym spare ∙ ap (λ k. k.spare) same), ap (λ k. k.space) same))
