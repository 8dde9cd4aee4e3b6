use Rattle.std.proofs.Common.{sym, ap, subst, ◌∙◌, arith, ◌≡◌, ◌+◌, ◌-◌, ◌%◌, ℕ, Some, Option}
use Rattle.atomic_table.specs.Table.{Me, State, Allows}
use Rattle.ocr_turns_rule.specs.Live.{MayLive, steps_live}
use Rattle.ocr_turns_rule.specs.Rule.{Holds}
use Rattle.ocr_turns_rule.specs.declared.words.LiveStep.{LiveStep}
use Rattle.ocr_turns_rule.specs.declared.words.LiveStep.TheVariants as step
use Rattle.ocr_turns_rule.proofs.Live.{allows_raise, allows_lower, allows_look, allows_entries}
use Rattle.ocr_turns.proofs.turns.Turns.take_live.Goals as goal

-- the step that was chosen
as_chosen : {S V : Type 0} (holds : State S V → Type 0) (slots id : ℕ) (me : Me S V) (f : ℕ → ℕ) (then : Option LiveStep → ℕ → Me S V → Type 0) (a b : LiveStep) (o : Option LiveStep) (i : ℕ)
    → o ≡ Some a → a ≡ b → Allows holds slots id me i f (then (Some b)) → Allows holds slots id me i f (then o)
as_chosen holds slots id me f then a b o i is variant allows = subst (λ z. Allows holds slots id me i f (then z)) (sym (is ∙ ap Some variant)) allows

pub fetch_add-requires : goal.fetch_add-requires
fetch_add-requires g c =
    let m = g.M.Machine.meaning in let t = c.self.inside.table.shared.key in let me = c.args.seat.now.me in
    let id = ap (λ x. x.0) c.self.view_is in let slots = c.self.inside.table.shared.table_id.slots in
    let may = subst (MayLive me.0) c.in-Raise.is c.requires.may in (
      c.requires.table ∙ sym id,
      (let a = c.self.invariant.words in omega arith),
      as_chosen (Holds m t) slots c.args.seat.now.id me (λ x. (x + c.in-Raise.units) % 18446744073709551616) (λ z x w. steps_live m z me x w) c.args.step (step.Raise c.in-Raise.units) g.W.Lived.step 16 c.requires.chosen c.in-Raise.is
          (allows_raise m t slots c.args.seat.now.id me c.requires.seat c.in-Raise.units may),
    )

pub fetch_sub-requires : goal.fetch_sub-requires
fetch_sub-requires g c =
    let m = g.M.Machine.meaning in let t = c.self.inside.table.shared.key in let me = c.args.seat.now.me in
    let id = ap (λ x. x.0) c.self.view_is in let slots = c.self.inside.table.shared.table_id.slots in
    let may = subst (MayLive me.0) c.in-Lower.is c.requires.may in (
      c.requires.table ∙ sym id,
      (let a = c.self.invariant.words in omega arith),
      as_chosen (Holds m t) slots c.args.seat.now.id me (λ x. (x + (18446744073709551616 - c.in-Lower.units)) % 18446744073709551616) (λ z x w. steps_live m z me x w) c.args.step (step.Lower c.in-Lower.units) g.W.Lived.step 16 c.requires.chosen c.in-Lower.is
          (allows_lower m t slots c.args.seat.now.id me c.requires.seat c.in-Lower.units (omega arith) may),
    )

pub load-requires : goal.load-requires
load-requires g c =
    let m = g.M.Machine.meaning in let t = c.self.inside.table.shared.key in let me = c.args.seat.now.me in
    let id = ap (λ x. x.0) c.self.view_is in let slots = c.self.inside.table.shared.table_id.slots in (
      c.requires.table ∙ sym id,
      (let a = c.self.invariant.words in omega arith),
      as_chosen (Holds m t) slots c.args.seat.now.id me (λ x. x) (λ z x w. steps_live m z me x w) c.args.step step.Read g.W.Lived.step 16 c.requires.chosen c.in-Read.is
          (allows_look m t slots c.args.seat.now.id me c.requires.seat),
    )

pub load-requires-in-Entries : goal.load-requires-in-Entries
load-requires-in-Entries g c =
    let m = g.M.Machine.meaning in let t = c.self.inside.table.shared.key in let me = c.args.seat.now.me in
    let id = ap (λ x. x.0) c.self.view_is in let slots = c.self.inside.table.shared.table_id.slots in
    let may = subst (MayLive me.0) c.in-Entries.is c.requires.may in (
      c.requires.table ∙ sym id,
      (let a = c.self.invariant.words in omega arith),
      as_chosen (Holds m t) slots c.args.seat.now.id me (λ x. x) (λ z x w. steps_live m z me x w) c.args.step step.Entries g.W.Lived.step 0 c.requires.chosen c.in-Entries.is
          (allows_entries m t slots c.args.seat.now.id me c.requires.seat may),
    )
