use Rattle.std.proofs.Common.{sym, ap, subst, ◌∙◌, arith}
use Rattle.std.specs.Prelude.{slice_index, Some}
use Rattle.atomic_table.specs.Table.{keeps}
use Rattle.ocr_turns_rule.specs.Contract.{MayCommit}
use Rattle.ocr_turns_rule.specs.Steps.{commits, deed}
use Rattle.ocr_turns_rule.proofs.Commits.{commit_at}
use Rattle.ocr_turns.specs.Hand.{at_hand}
use Rattle.ocr_turns.proofs.turns.Turns.step_at_hand.Goals as goal

pub fetch_add-requires : goal.fetch_add-requires
fetch_add-requires g c =
    let m = g.M.Machine.meaning in let laws = g.met.M.Machine.laws in let me = c.args.seat.now.me in let e = c.args.entry.now in let ps = at_hand c.args._hand.now.items in let ms = c.args._messages.now.items in
    let key = c.self.inside.table.shared.key in let is = sym (ap (λ x. x.1) c.self.view_is) in
    let may : MayCommit m key me.0 e ps ms = subst (λ t. MayCommit m t me.0 e ps ms) is c.requires.may in (
      c.requires.table ∙ sym (ap (λ x. x.0) c.self.view_is),
      omega (arith, c.self.invariant.words),
      λ s k len at lt.
          let r = commit_at m laws g.met.M.Machine.counting_laws key k.history s k.kept k.counted k.alive c.args.seat.now.id me.0 at c.requires.open c.requires.seat e me.1 ps ms may in
          (r.0, keeps, tt, r.1.0, subst (λ o. commits m o me (slice_index s.words 0) (r.0, me.1)) (sym (c.requires.told ∙ ap (λ t. Some (deed m t.limit me.0 e ps ms)) is)) r.1.1),
    )
