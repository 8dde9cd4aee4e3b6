use Rattle.std.proofs.Common.{◌≡◌, Some, ◌∙◌, ap, sym, subst}
use Rattle.std.specs.Prelude.{reverse}
use Rattle.ocr_acquire.specs.Mode.{mode_in}
use Rattle.ocr_datablock.specs.Block.{without}
use Rattle.ocr_datablock.specs.Tally.{IsTally}
use Rattle.ocr_datablock.proofs.Lines.{without_none}
use Rattle.ocr_datablock.proofs.Tallies.{counts_one, tally_bounded}
use Rattle.ocr_datablock.proofs.row.Row.tally_without.Goals as goal

pub minus-requires : goal.minus-requires
minus-requires c =
    let row = reverse c.self.inside.cache.entries in
    let found : mode_in c.args.edt row ≡ Some c.in-Some.mode = ap (mode_in c.args.edt) c.self.view_is ∙ sym c.mode_of.ensures ∙ c.in-Some.is in
    counts_one c.self.inside.tally row c.args.edt c.in-Some.mode c.self.invariant.2 c.self.invariant.1 found

pub returns-in-Some-clause-tells : goal.returns-in-Some-clause-tells
returns-in-Some-clause-tells c =
    let row = reverse c.self.inside.cache.entries in
    let found : mode_in c.args.edt row ≡ Some c.in-Some.mode = ap (mode_in c.args.edt) c.self.view_is ∙ sym c.mode_of.ensures ∙ c.in-Some.is in
    subst (λ all. IsTally c.minus.result (without c.args.edt all)) c.self.view_is (c.minus.ensures.tells row c.self.invariant.2 c.self.invariant.1 found)

pub returns-in-Some-clause-bounded : goal.returns-in-Some-clause-bounded
returns-in-Some-clause-bounded c =
    let row = reverse c.self.inside.cache.entries in
    let found : mode_in c.args.edt row ≡ Some c.in-Some.mode = ap (mode_in c.args.edt) c.self.view_is ∙ sym c.mode_of.ensures ∙ c.in-Some.is in
    tally_bounded c.minus.result (without c.args.edt row) (c.minus.ensures.tells row c.self.invariant.2 c.self.invariant.1 found)

pub returns-in-None-clause-tells : goal.returns-in-None-clause-tells
returns-in-None-clause-tells c =
    let none = without_none c.args.edt c.args.self.now (sym c.mode_of.ensures ∙ c.in-None.is) in
    rw none (subst (λ all. IsTally c.self.inside.tally all) c.self.view_is c.self.invariant.2)

pub returns-in-None-clause-bounded : goal.returns-in-None-clause-bounded
returns-in-None-clause-bounded c = tally_bounded c.self.inside.tally (reverse c.self.inside.cache.entries) c.self.invariant.2
