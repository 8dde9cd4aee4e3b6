use Rattle.std.proofs.Common.{sym, subst, refl, codes}
use Rattle.ocr_run_execution.specs.ProgramText.{IsNoProgram}
use Rattle.ocr_run.specs.Headline.{want_of_memory}
use Rattle.ocr_run_execution.proofs.Texts.{text_law}
use Rattle.ocr_run.proofs.Told.{weaker_line, line_at, run_caused, run_complete, run_keeps, run_failed, ran_not}
use Rattle.ocr_run.proofs.top.answer_run.Goals as goal

pub returns-in-Ok-clause-accepted : goal.returns-in-Ok-clause-accepted
returns-in-Ok-clause-accepted g c =
    (ran_not _ _ _ _ _ c.finish.result.status 2 c.in-Ok.ensures.met c.finish.ensures.written refl, ran_not _ _ _ _ _ c.finish.result.status 7 c.in-Ok.ensures.met c.finish.ensures.written refl)

pub returns-in-Ok-clause-caused : goal.returns-in-Ok-clause-caused
returns-in-Ok-clause-caused g c =
    run_caused c.finish.result.journal c.in-Ok.executed.journal _ _ _ _ c.in-Ok.executed.status c.finish.result.status c.finish.ensures.journal (sym c.in-Ok.ensures.ran.of.ending) c.finish.ensures.written

pub returns-in-Ok-clause-no_program : goal.returns-in-Ok-clause-no_program
returns-in-Ok-clause-no_program g c = λ is. absurd (ran_not _ _ _ _ _ c.finish.result.status 3 c.in-Ok.ensures.met c.finish.ensures.written refl is)

pub returns-in-Ok-clause-complete : goal.returns-in-Ok-clause-complete
returns-in-Ok-clause-complete g c = λ program is sound.
    run_complete c.finish.result.journal c.in-Ok.executed.journal _ _ _ _ c.in-Ok.executed.status c.finish.result.status c.finish.ensures.journal (sym c.in-Ok.ensures.ran.of.ending) c.finish.ensures.written sound

pub returns-in-Ok-clause-refused : goal.returns-in-Ok-clause-refused
returns-in-Ok-clause-refused g c = λ found none. absurd (text_law.apart c.args.bytes.now c.in-Ok.ensures.ran.program found c.in-Ok.ensures.ran.is_program none)

pub returns-in-Ok-clause-told : goal.returns-in-Ok-clause-told
returns-in-Ok-clause-told g c =
    let t = c.finish.ensures.told in
    (t.0, (t.1.0, weaker_line ⊥ ⊥ (λ found. ⊥) (IsNoProgram c.args.bytes.now) c.finish.result.journal c.finish.result.status t.0 (λ a. a) (λ found a. absurd a) t.1.1))

pub returns-in-Ok-clause-write_fault : goal.returns-in-Ok-clause-write_fault
returns-in-Ok-clause-write_fault g c = λ is. run_failed _ _ _ _ _ c.finish.result.status c.in-Ok.ensures.met c.finish.ensures.written is

pub returns-in-Ok-clause-memory : goal.returns-in-Ok-clause-memory
returns-in-Ok-clause-memory g c = λ is. run_keeps _ _ _ _ _ c.finish.result.status c.finish.ensures.written is

pub returns-in-Err-Fault-clause-complete : goal.returns-in-Err-Fault-clause-complete
returns-in-Err-Fault-clause-complete g c = λ program is sound.
    absurd (text_law.apart c.args.bytes.now program c.in-Err-Fault.found is (rw c.in-Err-Fault.field-0-is at c.in-Err-Fault.ensures.stop))

pub returns-in-Err-Fault-clause-told : goal.returns-in-Err-Fault-clause-told
returns-in-Err-Fault-clause-told g c =
    let t = c.refuse_text.ensures.told in
    let none : IsNoProgram c.args.bytes.now c.in-Err-Fault.found = rw c.in-Err-Fault.field-0-is at c.in-Err-Fault.ensures.stop in
    (t.0, (t.1.0, weaker_line ⊥ ⊥ _ (IsNoProgram c.args.bytes.now) c.refuse_text.result.journal c.refuse_text.result.status t.0 (λ a. a) (λ other same. subst (IsNoProgram c.args.bytes.now) (sym same) none) t.1.1))

pub returns-in-Err-NoMemory-clause-told : goal.returns-in-Err-NoMemory-clause-told
returns-in-Err-NoMemory-clause-told g c =
    (codes "want of memory\n", (c.refuse.ensures.told, line_at ⊥ (IsNoProgram c.args.bytes.now) c.refuse.result.journal 9 c.refuse.result.status _ c.refuse.ensures.status want_of_memory))
