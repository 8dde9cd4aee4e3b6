use Rattle.std.proofs.Common.{refl, arith}
use Rattle.ocr_body_steps.specs.Api.{refused_closed, refused_memory}
use Rattle.ocr_machine_history.specs.declared.entry.Entry.{Entry}
use Rattle.ocr_body_meaning.specs.Holds.{private_of}
use Rattle.ocr_replay_body.specs.Cases.{judged_body}
use Rattle.ocr_replay_body.specs.Holds.{held_in}
use Rattle.ocr_replay_body.proofs.Steps.{answer_said, other_stuck}
use Rattle.ocr_replay_body.proofs.Nexts.{following_next}
use Rattle.ocr_replay_body.proofs.judge.Judge.ask.Goals as goal

pub returns-in_default-clause-keeps : goal.returns-in_default-clause-keeps
returns-in_default-clause-keeps c =
    let j = c.args.self.now in
    let go = c.requires.ready.following in
    let e : Entry = c.index-entries-at.result in
    let wrong = c.in_default.ensures.none in
    record {
      going = record {
        judging = other_stuck (judged_body j) j.edt j.entries.now j.start j.place j.next j.refusals _ c.args.call.now (private_of c.args.call.now (held_in j.holding)) e c.requires.ready.judging go.now.after c.if-at-entries.false go.now.idle
            c.index-entries-at.is (go.now.own c.if-at-entries.false e c.index-entries-at.is) c.requires.next wrong;
        following = go;
        told = λ some past. absurd (omega (arith, past, c.if-at-entries.false));
      };
      body = refl;
      kept = refl;
      later = omega arith;
    }

pub returns-in_default-clause-refused : goal.returns-in_default-clause-refused
returns-in_default-clause-refused c = refused_closed (omega arith)

pub returns-in-Err-clause-refused : goal.returns-in-Err-clause-refused
returns-in-Err-clause-refused c = refused_memory

pub returns-clause-keeps : goal.returns-clause-keeps
returns-clause-keeps c =
    let j = c.args.self.now in
    let go = c.requires.ready.following in
    let e : Entry = c.index-entries-at.result in
    let said = answer_said (judged_body j) j.edt j.entries.now j.start j.place j.next j.refusals c.args.call.now (private_of c.args.call.now (held_in j.holding)) c.in-Some.answer e c.requires.ready.judging go.now.after c.if-at-entries.false go.now.idle
    c.index-entries-at.is (go.now.own c.if-at-entries.false e c.index-entries-at.is) c.requires.next c.in-Some.ensures.some in
    record {
      going = record {
        judging = said.0;
        following = following_next j.edt j.entries.now j.links.now j.place j.next c.index.result.now go c.if-at-entries.false c.index.ensures;
        told = λ some past. absurd (said.2 some);
      };
      body = refl;
      kept = refl;
      later = omega arith;
    }

pub returns-clause-ok : goal.returns-clause-ok
returns-clause-ok c =
    let j = c.args.self.now in
    let go = c.requires.ready.following in
    let e : Entry = c.index-entries-at.result in
    (answer_said (judged_body j) j.edt j.entries.now j.start j.place j.next j.refusals c.args.call.now (private_of c.args.call.now (held_in j.holding)) c.in-Some.answer e c.requires.ready.judging go.now.after c.if-at-entries.false go.now.idle
    c.index-entries-at.is (go.now.own c.if-at-entries.false e c.index-entries-at.is) c.requires.next c.in-Some.ensures.some).1
