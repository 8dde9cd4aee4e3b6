use Rattle.std.proofs.Common.{◌≡◌, ℕ, length, Some, if◌then◌else◌, sym, ap, ◌∙◌}
use Rattle.std.specs.Ordering.{is_eq}
use Rattle.std.proofs.Common.{cond}
use Rattle.std.specs.BTreeMap.{get}
use Rattle.ocr_memory_model.specs.Touches.{store_in, site_cmp}
use Rattle.ocr_memory_model.proofs.Marked.{noted_is}
use Rattle.ocr_memory_model.proofs.touch.note.Goals as goal
use Rattle.ocr_memory_model.proofs.touch.note.Goals.{then-is_store, else-is_store}

pub returns-clause-marked : goal.returns-clause-marked
returns-clause-marked c = λ past at was d w t.
    let site = c.in-Some.site in
    let stored : c.if-is_store.store ≡ (if c.in-Some.is_store then Some (length past) else store_in (get site_cmp c.args.marks.now site)) =
    elim c.if-is_store.branch [
      | then-is_store b ↦ b.store-is ∙ ap Some at ∙ sym (ap (λ x. if x then Some (length past) else store_in (get site_cmp c.args.marks.now site)) b.if-is_store.true)
      | else-is_store b ↦ b.store-is ∙ b.store_at-store.ensures ∙ sym (ap (λ x. if x then Some (length past) else store_in (get site_cmp c.args.marks.now site)) b.if-is_store.false)
    ] in
    noted_is past c.args.entry.now (site, c.in-Some.is_store) c.args.marks.now c.if-is_store.store d w t _
    (sym c.in-Some.ensures) was stored
    (c.in_ok-insert.ensures.updates.0 (d, w, t)
    ∙ ap (λ (n : ℕ). cond (is_eq (site_cmp site (d, w, t))) (Some (record { last = n; store = c.if-is_store.store })) (get site_cmp c.args.marks.now (d, w, t))) at)
