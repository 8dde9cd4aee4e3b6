use Rattle.std.proofs.Common.{ℕ, List, ap, subst, ◌∙◌, IfSome}
use Rattle.ocr_body_code.specs.Places.{place_in}
use Rattle.ocr_body_code.specs.Resolved.{IsPlace}
use Rattle.ocr_body_code.proofs.Indexes.{place_found}
use Rattle.ocr_body_code.proofs.places.Places.known.Goals as goal

pub returns-clause-some : goal.returns-clause-some
returns-clause-some c =
    subst (λ (names : List (List ℕ)). IfSome c.copied.result (λ place. IsPlace names place c.args.name.now)) c.self.view_is
    (place_found c.self.inside.names.items c.self.inside.places c.args.name.now c.copied.result
    (c.copied.ensures ∙ c.get.ensures.value ∙ ap (place_in c.self.inside.places) c.as_bytes.ensures) c.self.invariant)
