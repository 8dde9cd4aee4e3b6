use Rattle.std.proofs.Common.{◌≡◌, ◌≤◌, ◌∙◌, ℕ, List, length, take, true, false, refl, sym, ap, subst, arith}
use Rattle.std.proofs.lemmas.List.{take_all, length-map}
use Rattle.std.proofs.lemmas.Result.{err_from_is_err_and}
use Rattle.ocr_program_check.specs.Check.{FailsNowhere, is_among, names_of, no_main}
use Rattle.ocr_program_check.specs.Checked.{BreaksSome}
use Rattle.ocr_program_tree.proofs.Named.{functions_named}
use Rattle.ocr_program_tree.specs.Functions.{main_name}
use Rattle.ocr_program_check.specs.Names.{knows}
use Rattle.ocr_program_tree.specs.View.{function_of, functions_of}
use Rattle.ocr_program_tree.specs.declared.tree.Function.{Function}
use Rattle.ocr_program_check.proofs.Kept.{keeps_named, keeps_short, named_within}
use Rattle.ocr_program_check.proofs.First.{FailsNowhere-nil}
use Rattle.ocr_program_check.proofs.Programs.{no_breach, none_more, function_sound, walk_stops}
use Rattle.ocr_program_check.proofs.rules.judge.Goals as goal

pub returns-then-not-contains-clause-err : goal.returns-then-not-contains-clause-err
returns-then-not-contains-clause-err c =
    let missing : is_among main_name (names_of (functions_of c.args.functions.now)) ≡ false =
    sym (c.in_ok-names.ensures.names main_name) ∙ ap (λ (x : List ℕ). knows c.in_ok-names.names x) (sym c.main_name.ensures) ∙ sym c.contains.ensures ∙ c.if-not-contains.true in
    no_main c.in_ok-names.ensures.distinct missing

pub loop-i-init : goal.loop-i-init
loop-i-init c = FailsNowhere-nil (BreaksSome (names_of (functions_of c.args.functions.now)))

pub returns-in_err-walk_function-clause-err : goal.returns-in_err-walk_function-clause-err
returns-in_err-walk_function-clause-err c =
    let p = err_from_is_err_and c.from_residual-in_err-walk_function.result c.from_residual-in_err-walk_function.ensures.1 in
    let main : is_among main_name (names_of (functions_of c.args.functions.now)) ≡ true =
    sym (c.in_ok-names.ensures.names main_name) ∙ ap (λ (x : List ℕ). knows c.in_ok-names.names x) (sym c.main_name.ensures) ∙ sym c.contains.ensures ∙ c.if-not-contains.false in
    rw (p.1, p.2)
    (walk_stops (λ x. knows c.in_ok-names.names x) c.args.functions.now c.loop-i.i c.index-functions-i.result c.in_err-walk_function.field-0.0 c.loop-i-test.true c.index-functions-i.is
    c.in_ok-names.ensures.names c.in_ok-names.ensures.distinct main c.loop-i.invariant c.in_err-walk_function.ensures.err)

pub loop-i-preserved : goal.loop-i-preserved
loop-i-preserved c =
    none_more (BreaksSome (names_of (functions_of c.args.functions.now))) c.args.functions.now c.loop-i.i c.index-functions-i.result c.loop-i-test.true c.index-functions-i.is c.loop-i.invariant
    (λ b. function_sound (λ x. knows c.in_ok-names.names x) (names_of (functions_of c.args.functions.now)) c.in_ok-names.ensures.names (functions_of (take c.loop-i.i c.args.functions.now)) (function_of c.index-functions-i.result) c.in_ok-walk_function.ensures.ok b)

-- what was kept of each function so far was kept of all, past the last
all_sound : (fs : List Function) (i : ℕ) → length fs ≤ i → FailsNowhere (BreaksSome (names_of (functions_of fs))) (functions_of (take i fs))
    → FailsNowhere (BreaksSome (names_of (functions_of fs))) (functions_of fs)
all_sound fs i outside kept =
    subst (λ (gs : List Function). FailsNowhere (BreaksSome (names_of (functions_of fs))) (functions_of gs)) (take_all i fs outside) kept

pub returns-clause-ok : goal.returns-clause-ok
returns-clause-ok c =
    let fs : List Function = c.args.functions.now in
    let main : is_among main_name (names_of (functions_of fs)) ≡ true =
    sym (c.in_ok-names.ensures.names main_name) ∙ ap (λ (x : List ℕ). knows c.in_ok-names.names x) (sym c.main_name.ensures) ∙ sym c.contains.ensures ∙ c.if-not-contains.false in
    no_breach (functions_of fs) c.in_ok-names.ensures.distinct main (all_sound fs c.loop-i.i (omega (arith, c.loop-i-test.false)) c.loop-i.invariant)

pub returns-clause-runnable : goal.returns-clause-runnable
returns-clause-runnable c =
    let fs : List Function = c.args.functions.now in
    let sound = all_sound fs c.loop-i.i (omega (arith, c.loop-i-test.false)) c.loop-i.invariant in
    let main : is_among main_name (names_of (functions_of fs)) ≡ true =
    sym (c.in_ok-names.ensures.names main_name) ∙ ap (λ (x : List ℕ). knows c.in_ok-names.names x) (sym c.main_name.ensures) ∙ sym c.contains.ensures ∙ c.if-not-contains.false in
    record {
      named = keeps_named (functions_of fs) (functions_named fs) sound;
      short = keeps_short (names_of (functions_of fs)) (functions_of fs) (functions_named fs) sound;
      has_main = named_within main_name (functions_of fs) main;
      few = omega (arith, c.requires, length-map fs function_of);
    }
