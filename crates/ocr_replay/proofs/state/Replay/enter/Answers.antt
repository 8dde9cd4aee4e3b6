use Rattle.std.proofs.Common.{refl, take}
use Rattle.ocr_machine_history.specs.History.{history_of}
use Rattle.ocr_replay.proofs.Plays.{coming_legal, can_deliver, entered_next, few_counted}
use Rattle.ocr_replay.proofs.state.Replay.enter.Goals as goal

pub enter-requires-clause-before : goal.enter-requires-clause-before
enter-requires-clause-before c =
    let s = c.requires.comes.0 in
    let xs = c.requires.comes.1 in
    let coming = c.requires.comes.2 in
    (s, _, record { of = coming.next.so_far.of; run = coming.next.so_far.run; legal = coming_legal s xs c.args.place c.args.entry.now c.args.self.now coming })

pub enter-requires-clause-counts : goal.enter-requires-clause-counts
enter-requires-clause-counts c = few_counted c.event_laws.ensures.counted c.requires.comes.0 c.requires.comes.1 c.args.place c.args.entry.now c.args.self.now c.requires.comes.2 c.requires.few

pub deliver-requires : goal.deliver-requires
deliver-requires c = can_deliver c.requires.comes.0 (history_of (take c.args.place c.requires.comes.1)) c.args.entry.now c.args.self.now.mail c.requires.comes.2.next.so_far.left c.requires.comes.2.said

pub returns-clause-entered : goal.returns-clause-entered
returns-clause-entered c = λ s xs coming.
    entered_next s xs c.args.place c.args.entry.now c.args.self.now c.enter.new.self _ c.in_ok-entered.entered.messages.items coming
    (λ before. c.in_ok-entered.ensures.table s _ before) c.in_ok-entered.ensures.messages
    (rw (c.in_ok-push.ensures, c.deliver.ensures, c.deref.ensures.value) refl)
