use Rattle.std.proofs.Common.{sym, ap, subst, ◌∙◌, ◌≡◌, arith, ◌+◌, ◌*◌, length, Some, refl, replicate}
use Rattle.std.proofs.lemmas.List.{length-replicate}
use Rattle.atomic_table.specs.Table.{opening}
use Rattle.ocr_turns_rule.specs.Beginning.{IsLaidOut}
use Rattle.ocr_turns_rule.specs.Contract.{OpensWith, faces}
use Rattle.ocr_turns_rule.specs.Rule.{Holds}
use Rattle.ocr_turns_rule.specs.Steps.{rooted}
use Rattle.ocr_turns_rule.specs.declared.view.Terms.{Terms}
use Rattle.ocr_turns_rule.proofs.Totals.{weigh_at}
use Rattle.ocr_turns_rule.proofs.Opens.{opens, placed_length}
use Rattle.ocr_turns.proofs.turns.Turns.new.Goals as goal

pub first_words-requires-clause-limit : goal.first_words-requires-clause-limit
first_words-requires-clause-limit g c =
    let t : Terms _ = record { setting = c.of.result; limit = c.args.limit; share = c.args.share; seats = c.args.seats } in
    (c.requires t (record { setting = c.of.ensures; limit = refl; share = refl; seats = refl })).limits.1

pub first_words-requires-clause-first : goal.first_words-requires-clause-first
first_words-requires-clause-first g c =
    let t : Terms _ = record { setting = c.of.result; limit = c.args.limit; share = c.args.share; seats = c.args.seats } in
    let ok = c.requires t (record { setting = c.of.ensures; limit = refl; share = refl; seats = refl }) in
    let first = g.met.M.Machine.counting_laws.first_made in let is = ap (λ x. x.0) c.first.ensures in let few = ok.few in let a = first.0 in let b = first.1 in (omega arith, omega arith)

pub first_parts-requires : goal.first_parts-requires
first_parts-requires g c =
    let t : Terms _ = record { setting = c.of.result; limit = c.args.limit; share = c.args.share; seats = c.args.seats } in
    let ok = c.requires t (record { setting = c.of.ensures; limit = refl; share = refl; seats = refl }) in
    (ok.limits.1, λ k p x there. ok.places p (weigh_at c.args.opening.items k p x there))

pub new-requires : goal.new-requires
new-requires g c =
    let m = g.M.Machine.meaning in
    let t : Terms _ = record { setting = c.of.result; limit = c.args.limit; share = c.args.share; seats = c.args.seats } in
    let ok : OpensWith m t c.args.opening.items = c.requires t (record { setting = c.of.ensures; limit = refl; share = refl; seats = refl }) in
    let drawn : c.face_count.result ≡ m.opened = c.face_count.ensures ∙ (ap (faces c.args.limit) c.as_slice.ensures.value ∙ ok.opened) in
    let laid : IsLaidOut m.first c.args.limit m.opened c.as_slice-2.result.now =
    subst (IsLaidOut m.first c.args.limit m.opened) (sym c.as_slice-2.ensures.value) (subst (λ d. IsLaidOut m.first c.args.limit d c.in_ok-words.words.items) drawn (subst (λ f. IsLaidOut f c.args.limit c.face_count.result c.in_ok-words.words.items) c.first.ensures c.in_ok-words.ensures)) in
    subst (λ xs. Holds m t (opening c.as_slice-2.result.now xs (rooted t))) (sym c.in_ok-parts.ensures)
    (opens m g.met.M.Machine.counting_laws t c.args.opening.items ok c.as_slice-2.result.now laid)

pub invariant_of-result : goal.invariant_of-result
invariant_of-result g c =
    let m = g.M.Machine.meaning in let made = c.in-Ok.ensures.ok in
    let t : Terms _ = record { setting = c.of.result; limit = c.args.limit; share = c.args.share; seats = c.args.seats } in
    let ok : OpensWith m t c.args.opening.items = c.requires t (record { setting = c.of.ensures; limit = refl; share = refl; seats = refl }) in
    let limit : c.in-Ok.table.shared.key.limit ≡ c.args.limit = ap (λ k. k.limit) made.5 in let share = ap (λ k. k.share) made.5 in
    let size = c.in_ok-words.ensures.size in let words = ap length c.as_slice-2.ensures.value in
    let slots = ap length c.in_ok-parts.ensures ∙ (placed_length c.args.opening.items (replicate (2 * c.args.limit + 1) (Some m.vacant)) ∙ length-replicate (2 * c.args.limit + 1) (Some m.vacant)) in
    let a = made.0 in let b = made.1 in let lim = ok.limits in record {
      words = omega arith;
      slots = omega arith;
      limits = (let x = lim.0 in omega arith, let x = lim.1 in omega arith);
      limit_is = sym limit;
      loads = (let x = ok.share.1 in omega arith);
      share_is = sym share;
    }
