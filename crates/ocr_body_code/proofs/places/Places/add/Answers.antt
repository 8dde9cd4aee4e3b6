use Rattle.std.proofs.Common.{◌≡◌, ◌++◌, ◌∷◌, [], false, length, bytes_eq, ap, sym, ◌∙◌, arith}
use Rattle.std.specs.List.{list_any}
use Rattle.ocr_body_code.proofs.Indexes.{places_kept, place_entered, where_ok, where_err}
use Rattle.ocr_body_code.proofs.places.Places.add.Goals as goal

pub invariant_of-self-then-is_err-2 : goal.invariant_of-self-then-is_err-2
invariant_of-self-then-is_err-2 c =
    places_kept c.self.inside.names.items c.reserve.new.self.items c.self.inside.places c.insert.new.self
    (where_err c.insert.result (sym c.is_err-2.ensures.value ∙ c.if-is_err-2.true) c.insert.ensures.err) c.reserve.ensures.items c.self.invariant

pub invariant_of-self-2 : goal.invariant_of-self-2
invariant_of-self-2 c =
    let text : c.from_vec.result ≡ c.args.name.now = c.from_vec.ensures ∙ c.in-Ok.ensures.items ∙ c.as_bytes.ensures in
    let pushed : c.push_reserved.new.self.items ≡ c.self.inside.names.items ++ c.args.name.now ∷ [] =
    c.push_reserved.ensures.items ∙ (λ i. c.reserve.ensures.items i ++ text i ∷ []) in
    let at : c.len-place.result ≡ length c.self.inside.names.items = omega (arith, c.self.inside.names.ok.0, c.len-place.ensures, c.reserve.ensures.len) in
    let new : list_any (bytes_eq c.args.name.now) c.self.inside.names.items ≡ false = ap (list_any (bytes_eq c.args.name.now)) c.self.view_is ∙ c.requires.new in
    place_entered c.self.inside.names.items c.push_reserved.new.self.items c.self.inside.places c.insert.new.self c.as_bytes-2.result c.args.name.now c.len-place.result
    (where_ok c.insert.result (sym c.is_err-2.ensures.value ∙ c.if-is_err-2.false) c.insert.ensures.updates) c.as_bytes-2.ensures at pushed new c.self.invariant
