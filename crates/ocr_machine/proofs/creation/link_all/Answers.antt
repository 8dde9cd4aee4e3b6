use Rattle.std.proofs.Common.{◌≡◌, ◌<◌, ◌+◌, ◌∷◌, ◌∙◌, sym, ap, ℕ, List, drop, if◌then◌else◌, arith}
use Rattle.std.proofs.lemmas.Grind.{common_steps}
use Rattle.std.specs.Prelude.{slice_index}
use Rattle.ocr_acquire.specs.declared.Mode.TheVariants as mode
use Rattle.ocr_slots.specs.declared.Slot.{Slot}
use Rattle.ocr_slots.specs.Steps.{after_link}
use Rattle.ocr_machine_parts.specs.Calls.{is_given, with_dep, dep_links}
use Rattle.ocr_machine_effects.proofs.Steps.{linked_one, unlinked_above}
use Rattle.ocr_machine.proofs.creation.link_all.Goals as goal

pub loop-k-preserved : goal.loop-k-preserved
loop-k-preserved c =
    let deps = c.args.deps.now in
    let k = c.loop-k.k in
    let calls = c.loop-k.invariant.0 in
    let d = slice_index deps k in
    let below : k < c.args.count = omega (arith, c.loop-k-test.true, c.requires.few) in
    let rest : drop k deps ≡ d ∷ drop (k + 1) deps = grind (arith, common_steps) in (
      with_dep k d calls,
      c.link_given.ensures
          ∙ ap (λ (slots : List Slot). if is_given d then after_link slots k mode.Rw else slots) c.loop-k.invariant.1
          ∙ linked_one c.args.count calls k d below (c.loop-k.invariant.3 k (omega arith)),
      sym (ap (λ (xs : List ℕ). dep_links k xs calls) rest) ∙ c.loop-k.invariant.2,
      unlinked_above calls k d c.loop-k.invariant.3,
    )
