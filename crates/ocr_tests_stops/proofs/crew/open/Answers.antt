use Rattle.std.proofs.Common.{◌≡◌, ◌+◌, ◌-◌, ◌∙◌, ◌∷◌, [], ap, arith, refl, subst, sym}
use Rattle.ocr_body_code.specs.Checked.{checked_tree}
use Rattle.ocr_program_tree.specs.Functions.{number_of_main}
use Rattle.ocr_program_tree.specs.Runnable.{IsRunnable}
use Rattle.ocr_machine_parts.specs.Parts.{parts_of}
use Rattle.ocr_machine_parts.specs.Taken.{ArePlaced, keys, parts_in}
use Rattle.ocr_worker_machine.specs.Clerks.{of_terms}
use Rattle.ocr_worker_machine.specs.declared.setting.Setting.{Setting}
use Rattle.ocr_run_crew.proofs.Opening.{opens_with}
use Rattle.ocr_tests_stops.proofs.crew.open.Goals as goal

pub new-requires : goal.new-requires
new-requires c = λ t are.
    let told = c.in_ok-parts.ensures in let parts = c.in_ok-parts.parts.items in
    let limit = are.limit in let share = are.share in let seats = are.seats in
    let main = ap (λ g. number_of_main (checked_tree g.program)) are.setting ∙ sym c.main_function-main.ensures in
    let args = ap (λ g. g.args.items) are.setting ∙ sym c.as_slice.ensures.value in
    let same = told.parts (of_terms t) main args limit in
    opens_with t parts (omega (arith, limit), omega (arith, limit)) (omega (arith, share), omega (arith, share)) (omega (arith, seats), omega (arith, seats))
    (subst (λ n. parts_in n parts ≡ parts_of (of_terms t) []) (sym limit) same)
    (subst (λ n. ArePlaced n parts) (sym limit) told.placed)
    (subst (λ n. keys parts ≡ 1 ∷ 2 ∷ (n + 2) ∷ []) (sym limit) told.keys)

pub returns-clause-root : goal.returns-clause-root
returns-clause-root c =
    let told = c.in_ok-turns.ensures in let are = told.table in let view = told.root.1 in
    let limit = are.limit in let share = are.share in let seats = are.seats in (
      record {
        of_table = (told.root.0, ap (λ v. v.terms) view);
        limits = (omega (arith, limit), omega (arith, limit));
        loads = omega (arith, share);
        runnable = subst (λ (s : Setting). IsRunnable (checked_tree s.program)) (sym are.setting) c.runnable_law.ensures;
        root = ap (λ v. v.root) view;
        others = ap (λ v. v.out) view;
      },
      record {
        spares = ap (λ v. v.spares) view;
        raised_is = ap (λ v. v.raised) view;
        goes = ap (λ v. v.ended) view;
      },
      ap (λ v. v.quota) view ∙ ap (λ n. n - 1) seats,
    )
