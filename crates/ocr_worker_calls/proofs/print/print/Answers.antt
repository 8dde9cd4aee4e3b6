use Rattle.std.proofs.Common.{◌≡◌, [], List, length, refl, ap, sym, subst, arith}
use Rattle.ocr_body_meaning.specs.declared.call.Answer.{Answer}
use Rattle.ocr_body_meaning.specs.declared.call.Call.TheVariants as call
use Rattle.ocr_machine_history.specs.declared.entry.Entry.{Entry}
use Rattle.ocr_machine_history.specs.declared.entry.What.{What}
use Rattle.ocr_worker_machine.specs.Clerks.{IsStep}
use Rattle.ocr_worker_machine.specs.Ocr.{wakes}
use Rattle.ocr_worker_clerk.specs.Entry.{CanMake}
use Rattle.ocr_worker_clerk.specs.Work.{EntersAs, in_hand}
use Rattle.ocr_worker_clerk.proofs.Push.{entered_readies}
use Rattle.ocr_worker_clerk.proofs.Units.{taken_duties}
use Rattle.ocr_worker_access.specs.Access.{IsCalled}
use Rattle.ocr_worker_calls.proofs.Printed.{at_hand, can_print, leaves_all, plain_hand, print_done, print_runs}
use Rattle.ocr_worker_calls.proofs.print.print.Goals as goal

pub enter_at_hand-requires : goal.enter_at_hand-requires
enter_at_hand-requires g c = λ κs within.
    let r = c.requires.1.1 in let table = c.args.job.now.turns.now in let program = c.args.job.now.program.now in let clerk = c.args.clerk.now in
    let is = sym c.print_entry-entry.ensures in let none = c.new.ensures.items in (
      within.0,
      (
        within.1,
        (
          r.0,
          (
            at_hand table program c.args.edt g.b clerk c.args.value r.0 r.1.0 r.1.1,
            (
              (in_hand clerk.parts, subst (λ (e : Entry). CanMake table.1 clerk.view e (plain_hand clerk) (in_hand clerk.parts)) is (can_print table program c.args.edt g.b clerk c.args.value r.0 r.1.0 r.1.1)),
              (
                subst (λ (l : List What). IsStep table.1.limit c.print_entry-entry.result [] (in_hand clerk.parts) (in_hand clerk.parts) l) (sym none)
                    (subst (λ (e : Entry). IsStep table.1.limit e [] (in_hand clerk.parts) (in_hand clerk.parts) []) is (leaves_all table.1.limit c.args.edt c.args.value (in_hand clerk.parts))),
                (
                  (let l = ap (λ (l : List What). length l) none in omega (arith, l)),
                  (
                    taken_duties table.1 c.args.edt clerk r.1.0.taken,
                    subst (λ (e : Entry). wakes table.1.limit e clerk.view.parts ≡ []) is refl,
                  ),
                ),
              ),
            ),
          ),
        ),
      ),
    )

pub returns-clause-readied : goal.returns-clause-readied
returns-clause-readied g c =
    entered_readies c.args.job.now.turns.now.1 c.args.clerk.now c.enter_at_hand.new.clerk c.print_entry-entry.result (plain_hand c.args.clerk.now) c.in_ok-enter_at_hand.ensures.entered

pub returns-clause-runs : goal.returns-clause-runs
returns-clause-runs g c =
    let r = c.requires.1.1 in let table = c.args.job.now.turns.now in let clerk = c.args.clerk.now in
    print_runs table c.args.job.now.program.now c.args.edt g.b clerk c.args.value r.0 r.1.0 r.1.1 c.enter_at_hand.new.clerk
    (subst (λ (e : Entry). EntersAs table.1 clerk c.enter_at_hand.new.clerk e (plain_hand clerk)) c.print_entry-entry.ensures c.in_ok-enter_at_hand.ensures.entered)

pub returns-clause-called : goal.returns-clause-called
returns-clause-called g c =
    let r = c.requires.1.1 in let table = c.args.job.now.turns.now in let clerk = c.args.clerk.now in
    subst (λ (a : Answer). IsCalled c.args.edt (call.Print c.args.value) a clerk c.enter_at_hand.new.clerk) (sym c.print_answer.ensures)
    (print_done table c.args.job.now.program.now c.args.edt g.b clerk c.args.value r.0 r.1.0 r.1.1 c.enter_at_hand.new.clerk
    (subst (λ (e : Entry). EntersAs table.1 clerk c.enter_at_hand.new.clerk e (plain_hand clerk)) c.print_entry-entry.ensures c.in_ok-enter_at_hand.ensures.entered))
