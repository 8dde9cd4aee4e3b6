use Rattle.std.proofs.Common.{◌<◌, length, IsSome, sym, subst}
use Rattle.ocr_edt.specs.Phases.{Progress, next_of}
use Rattle.ocr_edt.proofs.Steps as steps
use Rattle.ocr_edt.proofs.preparation.Acquiring.acquired.Goals as goal

pub returns : goal.returns
returns c =
    let h = subst (λ (s : Progress). IsSome (next_of s)) (sym c.self.view_is) c.requires in
    let lt : c.self.inside.done < length c.self.inside.entries.items = steps.next_within c.self.inside.entries.items c.self.inside.done h in
    rw (c.marked.ensures, ← c.self.view_is) (steps.advance c.self.inside.identity c.self.inside.entries.items c.self.inside.done c.args.stale
    c.self.invariant.rising lt (steps.next_used c.self.inside.entries.items c.self.inside.done lt c.self.invariant.used))

pub invariant_of-result : goal.invariant_of-result
invariant_of-result c =
    let h = subst (λ (s : Progress). IsSome (next_of s)) (sym c.self.view_is) c.requires in
    let lt : c.self.inside.done < length c.self.inside.entries.items = steps.next_within c.self.inside.entries.items c.self.inside.done h in
    rw c.marked.ensures (steps.still_under_way c.self.inside.entries.items c.self.inside.done c.args.stale lt c.self.invariant)
