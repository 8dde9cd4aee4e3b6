use Rattle.ocr_body_code.proofs.Calls.{list_is}
use Rattle.ocr_body_code.proofs.resolver.list.Goals as goal

pub returns : goal.returns
returns c = λ numbers names now xs ys grew first rest.
    list_is numbers names now c.in_ok-list.list c.in_ok-rest.rest c.args.list c.args.rest xs ys grew first rest c.in_ok-list.ensures c.in_ok-rest.ensures
