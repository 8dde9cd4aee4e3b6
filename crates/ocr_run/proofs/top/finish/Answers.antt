use Rattle.std.proofs.Common.{◌<◌, ◌∙◌, inr, arith, subst, refl, ℕ, List, codes, length, take, Some}
use Rattle.std.specs.Io.KnownBytes.{Appends}
use Rattle.ocr_run.specs.Headline.{write_fault, whole, front, nothing}
use Rattle.ocr_run.proofs.Told.{run_line, met_status}
use Rattle.ocr_run.proofs.top.finish.Goals as goal
use Rattle.ocr_io.proofs.KnownBytes.{keeps_all}

pub returns-then-executed-eq9-clause-written : goal.returns-then-executed-eq9-clause-written
returns-then-executed-eq9-clause-written g c = nothing c.if-executed-eq9.true (keeps_all _)

pub returns-then-executed-eq9-clause-told : goal.returns-then-executed-eq9-clause-told
returns-then-executed-eq9-clause-told g c =
    let entries = c.args.executed.journal in
    (c.deref.result.now, (c.tell.ensures, run_line entries (Some entries) c.deref.result.now 9 refl (c.deref.ensures.value ∙ c.requires.line) (c.requires.ending ∙ c.if-executed-eq9.true)))

pub returns-then-executed-eq9-clause-status : goal.returns-then-executed-eq9-clause-status
returns-then-executed-eq9-clause-status g c = inr (omega arith, omega arith)

pub returns-in-Ok-clause-written : goal.returns-in-Ok-clause-written
returns-in-Ok-clause-written g c =
    whole c.if-executed-eq9.false (subst (λ (text : List ℕ). Appends (g.O.Sink.taken c.args.out.now) (g.O.Sink.taken c.write_all.new.sink) text) c.deref-2.ensures.value c.in-Ok.ensures.whole)

pub returns-in-Ok-clause-told : goal.returns-in-Ok-clause-told
returns-in-Ok-clause-told g c =
    let entries = c.args.executed.journal in
    (c.deref-in-Ok.result.now, (c.tell-in-Ok.ensures, run_line entries (Some entries) c.deref-in-Ok.result.now c.args.executed.status refl (c.deref-in-Ok.ensures.value ∙ c.requires.line) c.requires.ending))

pub returns-in-Ok-clause-status : goal.returns-in-Ok-clause-status
returns-in-Ok-clause-status g c = met_status c.args.executed.status c.requires.met

pub returns-clause-written : goal.returns-clause-written
returns-clause-written g c =
    front c.if-executed-eq9.false c.in-Err.ensures.failed c.in-Err.field-0.sent (subst (λ (text : List ℕ). c.in-Err.field-0.sent < length text) c.deref-2.ensures.value c.in-Err.ensures.within)
    (subst (λ (text : List ℕ). Appends (g.O.Sink.taken c.args.out.now) (g.O.Sink.taken c.write_all.new.sink) (take c.in-Err.field-0.sent text)) c.deref-2.ensures.value c.in-Err.ensures.sent)

pub returns-clause-told : goal.returns-clause-told
returns-clause-told g c = (codes "write fault\n", (c.tell-in-Err.ensures, write_fault))

pub returns-clause-status : goal.returns-clause-status
returns-clause-status g c = inr (omega arith, omega arith)
