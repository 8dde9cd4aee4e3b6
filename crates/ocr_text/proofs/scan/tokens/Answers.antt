use Rattle.std.proofs.Common.{sym, subst, ℕ, rules}
use Rattle.ocr_text.specs.Tokens.{IsLongest, text_of}
use Rattle.ocr_text.specs.Texts.{IsInRange}
use Rattle.ocr_text.proofs.Laws.{tile_on}
use Rattle.ocr_text.proofs.scan.tokens.Goals as goal

pub loop-place-preserved : goal.loop-place-preserved
loop-place-preserved c =
    let bytes = c.args.bytes.now in
    let token = c.in-Some.token in
    let fits : IsInRange token.kind (text_of bytes token) = search rules in
    let here : IsLongest bytes token.start token.kind token.end = subst (λ (p : ℕ). IsLongest bytes p token.kind token.end) (sym c.in-Some.ensures.start) c.in-Some.ensures.longest in
    record {
      within = c.in-Some.ensures.longest.within;
      tiled = tile_on bytes c.loop-place.found.items _ token c.loop-place.place c.loop-place.invariant.tiled c.in-Some.ensures.start (record { longest = here; in_range = fits }) (search rules);
    }
