use Rattle.std.proofs.Common.{◌≡◌, ◌+◌, ◌∙◌, ◌∷◌, [], ap, arith, subst, sym}
use Rattle.ocr_body_code.specs.Checked.{checked_tree}
use Rattle.ocr_worker_machine.specs.Clerks.{of_terms}
use Rattle.ocr_machine_parts.specs.Parts.{parts_of}
use Rattle.ocr_machine_parts.specs.Taken.{ArePlaced, keys, parts_in}
use Rattle.ocr_program_tree.specs.Functions.{number_of_main}
use Rattle.ocr_run_crew.proofs.Opening.{opens_with}
use Rattle.ocr_run_crew.proofs.crew.open.Goals as goal

pub new-requires : goal.new-requires
new-requires c = λ t are.
    let told = c.in_ok-parts.ensures in let parts = c.in_ok-parts.parts.items in
    let limit = are.limit in let share = are.share in let seats = are.seats in
    let objects = c.requires.objects in let shares = c.requires.share in let workers = c.requires.workers in
    let main = ap (λ g. number_of_main (checked_tree g.program)) are.setting ∙ sym c.main_function-main.ensures in
    let args = ap (λ g. g.args.items) are.setting ∙ sym c.as_slice.ensures.value in
    let same = told.parts (of_terms t) main args limit in
    opens_with t parts (omega (arith, limit, objects), omega (arith, limit, objects)) (omega (arith, share, shares), omega (arith, share, shares)) (omega (arith, seats, workers), omega (arith, seats, workers))
    (subst (λ n. parts_in n parts ≡ parts_of (of_terms t) []) (sym limit) same)
    (subst (λ n. ArePlaced n parts) (sym limit) told.placed)
    (subst (λ n. keys parts ≡ 1 ∷ 2 ∷ (n + 2) ∷ []) (sym limit) told.keys)
