use Rattle.std.proofs.Common.{◌≡◌, ℕ, true, arith, rules, subst, sym}
use Rattle.ocr_machine_history.specs.History.{History, Setting}
use Rattle.ocr_replay_body.specs.Cases.{IsFitCore}
use Rattle.ocr_replay_body.proofs.Nexts.{following_start}
use Rattle.ocr_machine_parts.specs.declared.part.Core.{Core}
use Rattle.ocr_machine_state.specs.State.{IsStateOf}
use Rattle.ocr_machine_parts.specs.Calls.{depv_of}
use Rattle.ocr_machine_parts.specs.Kinds.{is_running}
use Rattle.ocr_machine_parts.specs.Parts.{parts_of}
use Rattle.ocr_replay.proofs.Plays.{next_same, fresh_now, fit_started, small_started, judged_now}
use Rattle.ocr_replay.proofs.state.Replay.judge.Goals as goal

pub verdict_on-requires-clause-following : goal.verdict_on-requires-clause-following
verdict_on-requires-clause-following c =
    let started = c.requires.started.1 in
    following_start _ c.args.front.now c.args.links.now c.args.edt c.args.place c.next-next.result c.requires.linked (small_started c.args.self.now.table c.args.edt c.requires.running) started.within started.is (next_same c.args.links.now.nexts.items c.args.place c.next-next.result (omega (arith, c.requires.linked.nexts_are, started.within)) c.next-next.ensures)

pub verdict_on-requires-clause-fresh : goal.verdict_on-requires-clause-fresh
verdict_on-requires-clause-fresh c = fresh_now c.lasting_laws.ensures.no_own c.requires.started.0 c.args.front.now c.args.place c.args.edt c.args.self.now c.requires.started.1

pub verdict_on-requires-clause-fit : goal.verdict_on-requires-clause-fit
verdict_on-requires-clause-fit c =
    subst (λ (core : Core). IsFitCore core) (sym c.get.ensures) (fit_started c.holding_laws.ensures.fits c.requires.started.0 c.args.front.now c.args.place c.args.edt c.args.self.now c.in-Some-Core.core c.requires.started.1 (search rules))

pub set_verdict-requires : goal.set_verdict-requires
set_verdict-requires c = omega (arith, small_started c.args.self.now.table c.args.edt c.requires.running, c.requires.room)

pub returns-clause-verdict : goal.returns-clause-verdict
returns-clause-verdict c = λ s program started.
    judged_now s c.args.front.now c.args.place c.args.edt c.args.self.now c.in-Some-Core.core c.in_ok-deps.deps.items c.in_ok-verdict.verdict c.set_verdict.new.verdicts.items _ started program c.requires.running (search rules)
    c.in_ok-deps.ensures (omega (arith, small_started c.args.self.now.table c.args.edt c.requires.running, c.requires.room)) c.set_verdict.ensures (rw (c.deref.ensures.value, c.get.ensures) at c.in_ok-verdict.ensures)
