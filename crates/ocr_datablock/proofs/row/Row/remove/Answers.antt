use Rattle.std.proofs.Common.{◌≡◌, None, Some, ◌∙◌, ap, sym}
use Rattle.std.specs.Prelude.{reverse}
use Rattle.ocr_acquire.specs.Mode.{mode_in}
use Rattle.ocr_datablock.specs.Block.{without}
use Rattle.ocr_datablock.proofs.Lines.{once_rest, without_none}
use Rattle.ocr_datablock.proofs.Tallies.{counts_one}
use Rattle.ocr_datablock.proofs.Rows.{lookup_named, removed_named}
use Rattle.ocr_datablock.proofs.row.Row.remove.Goals as goal

pub minus-self-inside-requires : goal.minus-self-inside-requires
minus-self-inside-requires c =
    let row = reverse c.self.inside.cache.entries in
    let found : mode_in c.args.edt row ≡ Some c.in-Some.mode = sym (lookup_named c.edt.inside.0 c.args.edt c.self.inside.cache.entries c.edt.view_is c.self.invariant.1) ∙ sym c.pop.ensures.value ∙ c.in-Some.is in
    counts_one c.self.inside.tally row c.args.edt c.in-Some.mode c.self.invariant.2 c.self.invariant.1 found

pub invariant_of-self : goal.invariant_of-self
invariant_of-self c =
    let row = reverse c.self.inside.cache.entries in
    let found : mode_in c.args.edt row ≡ Some c.in-Some.mode = sym (lookup_named c.edt.inside.0 c.args.edt c.self.inside.cache.entries c.edt.view_is c.self.invariant.1) ∙ sym c.pop.ensures.value ∙ c.in-Some.is in
    let now : reverse c.pop.new.self.entries ≡ without c.args.edt row = ap (λ cache. reverse cache.entries) c.pop.ensures.entries ∙ removed_named c.edt.inside.0 c.args.edt c.self.inside.cache.entries c.edt.view_is c.self.invariant.1 in
    (ap (λ cache. cache.cap) c.pop.ensures.entries ∙ c.self.invariant.0, rw now (once_rest c.args.edt row c.self.invariant.1), rw now (c.minus-self-inside.ensures.tells row c.self.invariant.2 c.self.invariant.1 found))

pub invariant_of-self-in_default : goal.invariant_of-self-in_default
invariant_of-self-in_default c =
    let row = reverse c.self.inside.cache.entries in
    let none : mode_in c.args.edt row ≡ None = sym (lookup_named c.edt.inside.0 c.args.edt c.self.inside.cache.entries c.edt.view_is c.self.invariant.1) ∙ sym c.pop.ensures.value ∙ c.in_default.is in
    let now : reverse c.pop.new.self.entries ≡ row = ap (λ cache. reverse cache.entries) c.pop.ensures.entries ∙ removed_named c.edt.inside.0 c.args.edt c.self.inside.cache.entries c.edt.view_is c.self.invariant.1 ∙ without_none c.args.edt row none in
    (ap (λ cache. cache.cap) c.pop.ensures.entries ∙ c.self.invariant.0, rw now c.self.invariant.1, rw now c.self.invariant.2)

pub returns-in-Some : goal.returns-in-Some
returns-in-Some c = ap (λ cache. reverse cache.entries) c.pop.ensures.entries ∙ removed_named c.edt.inside.0 c.args.edt c.self.inside.cache.entries c.edt.view_is c.self.invariant.1 ∙ ap (without c.args.edt) c.self.view_is

pub returns-in_default : goal.returns-in_default
returns-in_default c = ap (λ cache. reverse cache.entries) c.pop.ensures.entries ∙ removed_named c.edt.inside.0 c.args.edt c.self.inside.cache.entries c.edt.view_is c.self.invariant.1 ∙ ap (without c.args.edt) c.self.view_is
