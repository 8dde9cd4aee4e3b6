use Rattle.std.proofs.Common.{◌≡◌, ◌++◌, ◌∙◌, ap, sym, IfNone, List, None, Option, Some, ℕ}
use Rattle.std.proofs.lemmas.Option.{IfSome_then}
use Rattle.ocr_machine_parts.specs.Loans.{kept_in}
use Rattle.ocr_machine_parts.specs.declared.loans.Kept.{Kept}
use Rattle.ocr_machine_parts.proofs.Lists.{in_first, in_second}
use Rattle.ocr_machine_parts.proofs.loans.Loans.get.Goals as goal

if_none : {A : Type 0} (o : Option A) (P Q : Type 0) → IfNone o P → (P → Q) → IfNone o Q
if_none None P Q is step = step is
if_none (Some a) P Q is step = tt

later : (d : ℕ) (many few items now : List (ℕ × Kept)) → many ++ few ≡ now → items ≡ few → kept_in d many ≡ None → kept_in d now ≡ kept_in d items
later d many few items now view is none = ap (kept_in d) (sym view) ∙ (in_second d many few none ∙ ap (kept_in d) (sym is))

pub returns-in-Some-clause-some : goal.returns-in-Some-clause-some
returns-in-Some-clause-some c = ap (kept_in c.args.block) (sym c.self.view_is) ∙ in_first c.args.block c.in-Some.kept.now c.self.inside.many c.self.inside.few.items c.in-Some.ensures.some

pub returns-in-None-clause-some : goal.returns-in-None-clause-some
returns-in-None-clause-some c =
    IfSome_then c.get_among.result c.get_among.ensures.some (λ k is. later c.args.block c.self.inside.many c.self.inside.few.items c.deref.result.now c.args.self.now c.self.view_is c.deref.ensures.value c.in-None.ensures.none ∙ is)

pub returns-in-None-clause-none : goal.returns-in-None-clause-none
returns-in-None-clause-none c =
    if_none c.get_among.result _ _ c.get_among.ensures.none (λ is. later c.args.block c.self.inside.many c.self.inside.few.items c.deref.result.now c.args.self.now c.self.view_is c.deref.ensures.value c.in-None.ensures.none ∙ is)
