use Rattle.std.proofs.Common.{◌≡◌, ◌∙◌, List, ℕ, Some, None, rules, sym, ap}
use Rattle.std.specs.BTreeMap.{BTreeMap, get_by}
use Rattle.std.specs.Option.{option_copied_mut}
use Rattle.std.specs.Ordering.{nat_cmp}
use Rattle.ocr_body_meaning.specs.Holds.{Hold}
use Rattle.ocr_replay_body.specs.Holds.{held_in}
use Rattle.ocr_replay_body.proofs.Held.{not_found, not_stored, stored_holds}
use Rattle.ocr_replay_body.proofs.holds.Holding.store.Goals as goal

pub returns-in_default : goal.returns-in_default
returns-in_default c =
    let items : List (ℕ × Hold) = c.self.inside.items.entries in
    let same : c.get_mut.follows.lender-at-none.entries ≡ items = ap (λ (m : BTreeMap ℕ Hold). m.entries) c.get_mut.follows.holds-at-none in
    let none : held_in items c.block.inside.0 ≡ None = not_found c.get_mut.result c.block.inside.0 items (λ h is. c.in_default.not-Some h is) c.get_mut.ensures.value in
    rw (← c.self.view_is, ← c.block.view_is, same) (not_stored c.block.inside.0 c.args.word c.args.value items none)

pub returns : goal.returns
returns c =
    let found : get_by (nat_cmp c.block.inside.0) c.self.inside.items ≡ Some c.in-Some.held.now = sym c.get_mut.ensures.value ∙ ap option_copied_mut c.in-Some.is in
    rw (← c.self.view_is, ← c.block.view_is) (stored_holds c.store.result c.block.inside.0 c.args.word c.args.value c.in-Some.held.now c.store.new.self
    c.self.inside.items.entries (c.get_mut.follows.lender c.store.new.self).entries found ((c.get_mut.follows.holds c.store.new.self).3 (search rules)).0 c.store.ensures.ok)
