use Rattle.std.proofs.Common.{sym, ap, subst, ◌∙◌, arith, ◌≡◌, ◌∷◌, ◌++◌, [], map, refl, length, length-append}
use Rattle.ocr_turns_rule.proofs.Clerks.{seat_of, true_same, gathered_true, map_append}
use Rattle.ocr_turns_rule.specs.Steps.{limit_of}
use Rattle.ocr_turns_rule.proofs.Splits.{joined}
use Rattle.ocr_turns.proofs.turns.Turns.join.Goals as goal

pub join_seat-requires : goal.join_seat-requires
join_seat-requires g c =
    let m = g.M.Machine.meaning in let id = ap (λ x. x.0) c.self.view_is in let view = sym (ap (λ x. x.view) c.root.view_is) in let theirs = sym (ap (λ x. x.view) c.clerk.view_is) in (
      ap (λ x. x.table) c.root.view_is ∙ (c.requires.table.0.0 ∙ sym id),
      ap (λ x. x.table) c.clerk.view_is ∙ (c.requires.table.1.0 ∙ sym id),
      c.clerk.invariant.rests.0,
      (let a = c.self.invariant.words in omega arith),
      λ s k at ne bt. joined m c.self.inside.table.shared.key s k c.root.inside.seat.id c.root.inside.seat.me.0 at c.clerk.inside.seat.id c.clerk.inside.seat.me.0 ne bt
          (subst (λ v. v.root ≡ 1) view c.requires.root.0)
          (seat_of c.clerk.inside.seat.me c.clerk.invariant.seat (subst (λ v. v.root ≡ 0) theirs c.requires.root.1))
          (subst (λ v. v.root ≡ 0) theirs c.requires.root.1)
          c.root.invariant.rests.1 c.clerk.invariant.rests.1,
    )

pub invariant_of-root-2 : goal.invariant_of-root-2
invariant_of-root-2 g c =
    let same = c.make_room.ensures.same in let view = sym (ap (λ x. x.view) c.root.view_is) in let theirs = sym (ap (λ x. x.view) c.clerk.view_is) in
    true_same (sym c.join_seat.ensures.2) refl
    (sym (ap (map (λ l. l.items)) (c.push_reserved.ensures.items ∙ ap (λ l. l ++ c.clerk.inside.log ∷ []) same.0) ∙ map_append (λ l. l.items) c.root.inside.joined.items (c.clerk.inside.log ∷ [])))
    (sym (c.append.ensures.items ∙ ap (λ l. l ++ c.clerk.inside.parts.items) same.1))
    (sym (c.append-2.ensures ∙ ap (λ l. l ++ c.clerk.inside.owed.items) same.2))
    refl (sym c.or-root-inside.ensures) refl
    (gathered_true c.root.invariant c.clerk.invariant (let n = c.saturating_add-root-inside.ensures in omega arith) (subst (λ v. v.root ≡ 1) view c.requires.root.0) (subst (λ v. v.root ≡ 0) theirs c.requires.root.1)
    (sym (ap (λ v. limit_of v.terms) theirs) ∙ (ap limit_of (c.requires.table.1.1 ∙ sym c.requires.table.0.1) ∙ ap (λ v. limit_of v.terms) view)))

pub returns-clause-parts : goal.returns-clause-parts
returns-clause-parts g c =
    let same = c.make_room.ensures.same in let is = c.root.view_is in let theirs = c.clerk.view_is in
    (c.append.ensures.items ∙ ((λ i. same.1 i ++ c.clerk.inside.parts.items) ∙ (λ i. ap (λ x. x.parts) is i ++ ap (λ x. x.parts) theirs i)), ap (λ x. x.room) is, (let len = ap length (c.append.ensures.items ∙ ap (λ l. l ++ c.clerk.inside.parts.items) same.1) in let both = length-append c.root.inside.parts.items c.clerk.inside.parts.items in let old = ap length same.1 in let room = c.in-Ok.ensures.room.1 in let grew = c.append.ensures.room in let n = c.len-parts.ensures in let real = c.clerk.inside.parts.ok.0 in omega arith))
