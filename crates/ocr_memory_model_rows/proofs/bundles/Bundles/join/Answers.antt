use Rattle.std.proofs.Common.{subst}
use Rattle.ocr_memory_model_rows.specs.Order.{IsBundle}
use Rattle.ocr_memory_model_rows.proofs.Joins.{next_joined, none_joined, bundle_low, bundle_is}
use Rattle.ocr_memory_model_rows.proofs.bundles.Bundles.join.Goals as goal

pub returns-in_ok-take_in : goal.returns-in_ok-take_in
returns-in_ok-take_in c = λ g causes f are next.
    next_joined g causes (f c.args.number) c.args.row.now _ c.in-Some.places.now next
    (bundle_low g c.in-Some.places.now _ c.in-Some.ensures.some (are.room c.args.number))
    (bundle_is g (f c.args.number) c.in-Some.places.now _ c.in-Some.ensures.some (are.is c.args.number)) c.in_ok-take_in.ensures.len c.in_ok-take_in.ensures.most c.in_ok-take_in.ensures.has

pub returns-in_default : goal.returns-in_default
returns-in_default c = λ g causes f are next. none_joined g causes (f c.args.number) c.args.row.now (subst (IsBundle g (f c.args.number)) c.in_default.ensures.none (are.is c.args.number)) next
