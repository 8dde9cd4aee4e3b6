use Rattle.std.proofs.Common.{ℕ, ◌+◌, List, refl, subst, take}
use Rattle.ocr_body_code.specs.Checked.{checked_tree}
use Rattle.ocr_machine_history.specs.declared.entry.Entry.{Entry}
use Rattle.ocr_machine_history.specs.History.{Setting, history_of, setting_of}
use Rattle.ocr_replay.specs.Replay.{IsNext, IsComing, IsEntered, IsStarted}
use Rattle.ocr_replay.proofs.Plays.{next_of, comes, may_not, said_not, started_of, start_running, next_other, go_start}
use Rattle.ocr_replay.proofs.state.Replay.go_on.Goals as goal

pub returns-then-not-branch-clause-illegal : goal.returns-then-not-branch-clause-illegal
returns-then-not-branch-clause-illegal c = λ _.
    let s : Setting = setting_of (checked_tree c.args.program.now) c.args.args.now c.args.self.now.table.limit in
    let xs : List Entry = c.args.front.now in
    let n : ℕ = c.args.place in
    let e : Entry = c.index-front-place.result in
    may_not s xs n e c.args.self.now c.requires.so_far c.requires.within c.index-front-place.is
    ((c.in_ok-is_legal.ensures s (history_of (take n xs)) c.requires.so_far.of c.requires.so_far.run).no c.if-not-branch.true)

pub returns-then-not-is_said-clause-illegal : goal.returns-then-not-is_said-clause-illegal
returns-then-not-is_said-clause-illegal c = λ _.
    let s : Setting = setting_of (checked_tree c.args.program.now) c.args.args.now c.args.self.now.table.limit in
    let xs : List Entry = c.args.front.now in
    let n : ℕ = c.args.place in
    let e : Entry = c.index-front-place.result in
    let may = (c.in_ok-is_legal.ensures s (history_of (take n xs)) c.requires.so_far.of c.requires.so_far.run).yes c.if-not-branch.false in
    let next : IsNext s xs n e c.args.self.now = next_of s xs n e c.args.self.now c.requires.so_far c.requires.within c.index-front-place.is c.requires.no_stop may in
    said_not s xs n e c.args.self.now c.requires.so_far c.requires.within c.index-front-place.is ((c.is_said.ensures s xs next).no c.if-not-is_said.true)

pub enter-requires-clause-comes : goal.enter-requires-clause-comes
enter-requires-clause-comes c =
    let s : Setting = setting_of (checked_tree c.args.program.now) c.args.args.now c.args.self.now.table.limit in
    let xs : List Entry = c.args.front.now in
    let n : ℕ = c.args.place in
    let e : Entry = c.index-front-place.result in
    let may = (c.in_ok-is_legal.ensures s (history_of (take n xs)) c.requires.so_far.of c.requires.so_far.run).yes c.if-not-branch.false in
    let coming : IsComing s xs n e c.args.self.now = comes s xs n e c.args.self.now c.requires.so_far c.requires.within c.index-front-place.is c.requires.no_stop may (λ next. (c.is_said.ensures s xs next).yes c.if-not-is_said.false) in
    (s, xs, coming)

pub judge-requires-clause-started : goal.judge-requires-clause-started
judge-requires-clause-started c =
    let s : Setting = setting_of (checked_tree c.args.program.now) c.args.args.now c.args.self.now.table.limit in
    let xs : List Entry = c.args.front.now in
    let n : ℕ = c.args.place in
    let e : Entry = c.index-front-place.result in
    let may = (c.in_ok-is_legal.ensures s (history_of (take n xs)) c.requires.so_far.of c.requires.so_far.run).yes c.if-not-branch.false in
    let coming : IsComing s xs n e c.args.self.now = comes s xs n e c.args.self.now c.requires.so_far c.requires.within c.index-front-place.is c.requires.no_stop may (λ next. (c.is_said.ensures s xs next).yes c.if-not-is_said.false) in
    let t : ℕ = c.in-Start.edt in
    let entered : IsEntered s xs (n + 1) c.enter.new.self.table c.enter.new.self.mail = c.in_ok-enter.ensures.entered s xs coming in
    let started : IsStarted s xs n t c.enter.new.self = started_of s xs n t c.args.self.now c.enter.new.self (subst (λ (x : Entry). IsComing s xs n x c.args.self.now) c.in-Start.is coming) entered in
    (s, started)

pub judge-requires-clause-running : goal.judge-requires-clause-running
judge-requires-clause-running c =
    let s : Setting = setting_of (checked_tree c.args.program.now) c.args.args.now c.args.self.now.table.limit in
    let xs : List Entry = c.args.front.now in
    let n : ℕ = c.args.place in
    let e : Entry = c.index-front-place.result in
    let may = (c.in_ok-is_legal.ensures s (history_of (take n xs)) c.requires.so_far.of c.requires.so_far.run).yes c.if-not-branch.false in
    let coming : IsComing s xs n e c.args.self.now = comes s xs n e c.args.self.now c.requires.so_far c.requires.within c.index-front-place.is c.requires.no_stop may (λ next. (c.is_said.ensures s xs next).yes c.if-not-is_said.false) in
    let t : ℕ = c.in-Start.edt in
    let entered : IsEntered s xs (n + 1) c.enter.new.self.table c.enter.new.self.mail = c.in_ok-enter.ensures.entered s xs coming in
    let started : IsStarted s xs n t c.enter.new.self = started_of s xs n t c.args.self.now c.enter.new.self (subst (λ (x : Entry). IsComing s xs n x c.args.self.now) c.in-Start.is coming) entered in
    start_running c.machine_laws.ensures.after s xs n t c.enter.new.self started

pub returns-in_ok-judge-clause-legal : goal.returns-in_ok-judge-clause-legal
returns-in_ok-judge-clause-legal c = λ _.
    let s : Setting = setting_of (checked_tree c.args.program.now) c.args.args.now c.args.self.now.table.limit in
    let xs : List Entry = c.args.front.now in
    let n : ℕ = c.args.place in
    let e : Entry = c.index-front-place.result in
    let may = (c.in_ok-is_legal.ensures s (history_of (take n xs)) c.requires.so_far.of c.requires.so_far.run).yes c.if-not-branch.false in
    let coming : IsComing s xs n e c.args.self.now = comes s xs n e c.args.self.now c.requires.so_far c.requires.within c.index-front-place.is c.requires.no_stop may (λ next. (c.is_said.ensures s xs next).yes c.if-not-is_said.false) in
    go_start c.standing_laws.ensures.told c.standing_laws.ensures.edts c.lasting_laws.ensures.body s xs n c.in-Start.edt e c.args.self.now c.enter.new.self c.judge.new.self
    c.in-Start.is coming (c.in_ok-enter.ensures.entered s xs coming) c.enter.ensures.verdicts c.judge.ensures.table c.judge.ensures.mail (λ started. c.in_ok-judge.ensures.verdict s refl started)

pub returns-in_default-clause-legal : goal.returns-in_default-clause-legal
returns-in_default-clause-legal c = λ _.
    let s : Setting = setting_of (checked_tree c.args.program.now) c.args.args.now c.args.self.now.table.limit in
    let xs : List Entry = c.args.front.now in
    let n : ℕ = c.args.place in
    let e : Entry = c.index-front-place.result in
    let may = (c.in_ok-is_legal.ensures s (history_of (take n xs)) c.requires.so_far.of c.requires.so_far.run).yes c.if-not-branch.false in
    let coming : IsComing s xs n e c.args.self.now = comes s xs n e c.args.self.now c.requires.so_far c.requires.within c.index-front-place.is c.requires.no_stop may (λ next. (c.is_said.ensures s xs next).yes c.if-not-is_said.false) in
    next_other c.standing_laws.ensures.told c.standing_laws.ensures.edts c.lasting_laws.ensures.body s xs n e c.args.self.now c.enter.new.self
    coming (c.in_ok-enter.ensures.entered s xs coming) c.enter.ensures.verdicts c.in_default.not-Start
