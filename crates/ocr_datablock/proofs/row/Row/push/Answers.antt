use Rattle.std.proofs.Common.{◌≡◌, ◌∷◌, ◌++◌, [], None, ◌<◌, ◌^◌, length, ◌∙◌, ap}
use Rattle.std.specs.Prelude.{reverse}
use Rattle.ocr_acquire.specs.Mode.{mode_in}
use Rattle.ocr_datablock.proofs.Lines.{once_push}
use Rattle.ocr_datablock.proofs.Tallies.{tally_bounded}
use Rattle.ocr_datablock.proofs.Rows.{put_named}
use Rattle.ocr_datablock.proofs.row.Row.push.Goals as goal

pub plus-tally-requires-clause-bounded : goal.plus-tally-requires-clause-bounded
plus-tally-requires-clause-bounded c = tally_bounded c.self.inside.tally (reverse c.self.inside.cache.entries) c.self.invariant.2

pub invariant_of-self-2 : goal.invariant_of-self-2
invariant_of-self-2 c =
    let row = reverse c.self.inside.cache.entries in
    let none : mode_in c.args.edt row ≡ None = ap (mode_in c.args.edt) c.self.view_is ∙ c.requires in
    let small : length c.self.inside.cache.entries < 2 ^ 63 = rw (← c.len-count.ensures.len) c.len-count.ensures.fits in
    let put = put_named c.self.inside.cache c.edt.inside.0 c.args.edt c.args.mode c.edt.view_is c.self.invariant.0 small c.self.invariant.1 none in
    let now : reverse c.put.new.self.entries ≡ row ++ (c.args.edt, c.args.mode) ∷ [] = ap (λ cache. reverse cache.entries) c.in_ok-put.ensures.entries ∙ put in
    (ap (λ cache. cache.cap) c.in_ok-put.ensures.entries ∙ c.self.invariant.0, rw now (once_push row c.args.edt c.args.mode c.self.invariant.1 none), rw now (c.plus-tally.ensures.last row c.self.invariant.2))

pub returns-clause-state : goal.returns-clause-state
returns-clause-state c =
    let row = reverse c.self.inside.cache.entries in
    let none : mode_in c.args.edt row ≡ None = ap (mode_in c.args.edt) c.self.view_is ∙ c.requires in
    let small : length c.self.inside.cache.entries < 2 ^ 63 = rw (← c.len-count.ensures.len) c.len-count.ensures.fits in
    let put = put_named c.self.inside.cache c.edt.inside.0 c.args.edt c.args.mode c.edt.view_is c.self.invariant.0 small c.self.invariant.1 none in
    ap (λ cache. reverse cache.entries) c.in_ok-put.ensures.entries ∙ put ∙ ap (λ all. all ++ (c.args.edt, c.args.mode) ∷ []) c.self.view_is
