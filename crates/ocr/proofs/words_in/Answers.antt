use Rattle.std.proofs.Common.{◌≡◌, ◌∙◌, ap, sym}
use Rattle.std.proofs.lemmas.List.{map-id}
use Rattle.std.proofs.lemmas.Result.{IfOk-weaker}
use Rattle.std.proofs.lemmas.Iterator.{items_from_drains}
use Rattle.std.proofs.lemmas.Iterator.Adapters.{YieldsList-from_skip, YieldsList-from_vec}
use Rattle.std.specs.Vec.Iter.{into_iter_items, into_iter_len, into_iter_deque}
use Rattle.ocr.proofs.words_in.Goals as goal

pub returns : goal.returns
returns c =
    let args = c.args.args in
    let source = c.skip.ensures.source in
    let all = YieldsList-from_vec (into_iter_items args) (ap into_iter_items source) (ap into_iter_len source ∙ (into_iter_deque args).ok.0) in
    IfOk-weaker c.collect.result _ _ (λ v ran. ran.2.0 ∙ sym (map-id ran.0) ∙ items_from_drains {v = λ y. y} ran.0 ran.1 (YieldsList-from_skip 1 all c.skip.ensures.count)) c.collect.ensures.ran
