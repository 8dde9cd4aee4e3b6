use Rattle.std.proofs.Common.{List, sym, subst, take, arith}
use Rattle.ocr_machine_history.specs.History.{History, history_of}
use Rattle.ocr_machine_history.specs.declared.entry.Entry.{Entry}
use Rattle.ocr_replay_body.specs.declared.judge.Verdict.{Verdict}
use Rattle.ocr_replay.specs.Stops.{IsFront}
use Rattle.ocr_replay.proofs.Cuts.{front_of, stop_illegal, after_stop, whole_run}
use Rattle.ocr_replay.proofs.replay_stop.ended_by.Goals as goal

pub returns-in-Ok-false-clause-stop : goal.returns-in-Ok-false-clause-stop
returns-in-Ok-false-clause-stop c = λ s done.
    let xs : List Entry = c.args.entries.now in
    let past : History = history_of (take c.args.end xs) in
    let front : IsFront s past c.args.replay.now.table c.args.replay.now.mail c.deref.result.now =
    subst (λ (vs : List Verdict). IsFront s past c.args.replay.now.table c.args.replay.now.mail vs) (sym c.deref.ensures.value)
    (front_of c.standing_laws.ensures.told c.standing_laws.ensures.edts c.machine_laws.ensures.within s (take c.args.end xs) c.args.replay.now done) in
    stop_illegal s xs c.args.end c.args.stop front.run c.requires.within c.requires.is (λ legal. (c.in-Ok-false.ensures s past front).no c.in-Ok-false.field-0-test legal)

pub returns-then-end-entries-clause-stop : goal.returns-then-end-entries-clause-stop
returns-then-end-entries-clause-stop c = λ s done.
    let xs : List Entry = c.args.entries.now in
    let past : History = history_of (take c.args.end xs) in
    let front : IsFront s past c.args.replay.now.table c.args.replay.now.mail c.deref.result.now =
    subst (λ (vs : List Verdict). IsFront s past c.args.replay.now.table c.args.replay.now.mail vs) (sym c.deref.ensures.value)
    (front_of c.standing_laws.ensures.told c.standing_laws.ensures.edts c.machine_laws.ensures.within s (take c.args.end xs) c.args.replay.now done) in
    after_stop s xs c.args.end c.args.stop front.run c.if-end-entries.true c.requires.is ((c.in-Ok-true.ensures s past front).yes c.in-Ok-true.field-0-test)

pub returns-clause-ok : goal.returns-clause-ok
returns-clause-ok c = λ s done.
    let xs : List Entry = c.args.entries.now in
    let past : History = history_of (take c.args.end xs) in
    let front : IsFront s past c.args.replay.now.table c.args.replay.now.mail c.deref.result.now =
    subst (λ (vs : List Verdict). IsFront s past c.args.replay.now.table c.args.replay.now.mail vs) (sym c.deref.ensures.value)
    (front_of c.standing_laws.ensures.told c.standing_laws.ensures.edts c.machine_laws.ensures.within s (take c.args.end xs) c.args.replay.now done) in
    whole_run s xs c.args.end c.args.stop front.run c.requires.within (omega (arith, c.if-end-entries.false)) c.requires.is ((c.in-Ok-true.ensures s past front).yes c.in-Ok-true.field-0-test)
