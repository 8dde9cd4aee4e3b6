use Rattle.std.proofs.Common.{sym, ap, subst, arith, ◌∙◌, ◌≡◌, ◌+◌, ◌-◌, ◌++◌, ◌∷◌, [], length, length-append, vec_capacity, refl, Some}
use Rattle.ocr_turns_rule.specs.Steps.{SeesBoth, SeesOpen, with_part}
use Rattle.ocr_turns_rule.proofs.Clerks.{true_same, took_true}
use Rattle.ocr_turns.proofs.turns.Turns.attempt.Goals as goal

pub invariant_of-clerk : goal.invariant_of-clerk
invariant_of-clerk g c =
    let took = c.try_take.ensures.free c.if-try_take.true in let rest = c.clerk.invariant.rests.0 in
    true_same ((λ i. (with_part c.clerk.inside.seat.me.0 c.args.place took.0, rest i)) ∙ sym took.1) refl refl (sym took.3) refl refl refl refl (took_true c.clerk.invariant c.args.place took.0)

pub invariant_of-clerk-2 : goal.invariant_of-clerk-2
invariant_of-clerk-2 g c =
    let left = c.try_take.ensures.busy c.if-try_take.false in true_same (sym left.0) refl refl (sym left.1) refl refl refl refl c.clerk.invariant

pub returns-then-try_take : goal.returns-then-try_take
returns-then-try_take g c =
    let look = c.in_default.ensures in let is = c.clerk.view_is in let took = c.try_take.ensures.free c.if-try_take.true in let p = c.args.place in let x = took.0 in
    let view = ap (λ k. k.view) is ∙ look.2 in let room = look.1.2 in
    let spare : vec_capacity c.try_take.new.parts - length c.try_take.new.parts.items + 1 ≡ c.args.clerk.now.spare =
    (let cap = c.try_take.ensures.room in let len = ap length took.3 in let more = length-append c.clerk.inside.parts.items ((p, Some x) ∷ []) in let was = ap (λ k. k.spare) is ∙ room.1 in let had = c.requires.room in omega arith) in (
      x,
      look.0,
      c.try_take.ensures.table.0 ∙ (ap (λ k. k.table) is ∙ look.1.0),
      ap (λ m. m.0) took.1 ∙ ap (λ v. with_part v p x) view,
      took.3 ∙ ap (λ l. l ++ (p, Some x) ∷ []) (ap (λ k. k.parts) is ∙ look.1.1),
      ap (λ k. k.room) is ∙ room.0,
      spare,
      ap (λ k. k.space) is ∙ room.2,
      subst (λ v. SeesBoth g.M.Machine.meaning v c.try_take.new.seat.me.0) view took.2,
      subst (λ v. SeesOpen g.M.Machine.meaning v) look.2 look.3,
    )
