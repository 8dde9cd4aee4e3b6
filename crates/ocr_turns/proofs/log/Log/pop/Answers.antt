use Rattle.std.proofs.Common.{◌≡◌, ◌∷◌, [], ◌∙◌, sym, ap, arith, length, length-append}
use Rattle.std.specs.List.{zip}
use Rattle.ocr_turns.proofs.Logs.{zip_more}
use Rattle.ocr_turns.proofs.log.Log.pop.Goals as goal

pub returns : goal.returns
returns g c =
    let ns = c.pop-2.new.self.items in let es = c.pop.new.self.items in let n = c.in-Some.number in let e = c.in_ok-entry.entry in
    let numbers = c.in-Some.ensures.items in let entries = c.in_ok-entry.ensures.items in
    let same : length ns ≡ length es =
    (let a = ap length numbers in let b = ap length entries in let was = c.self.invariant in let x = length-append ns (n ∷ []) in let y = length-append es (e ∷ []) in omega arith) in
    sym (ap (λ x. x.items) c.self.view_is) ∙ ((λ i. zip (numbers i) (entries i)) ∙ zip_more ns es n e same)
