use Rattle.std.proofs.Common.{arith}
use Rattle.ocr_worker_clerk.proofs.Counters.{hand_counters}
use Rattle.ocr_worker_clerk.proofs.Entries.{hand_legal, other_covers, resumed_is, step_is}
use Rattle.ocr_worker_clerk.proofs.preparation.prepare.Goals as goal

pub step-requires-clause-covers : goal.step-requires-clause-covers
step-requires-clause-covers g c = other_covers c.args.turns.now.1 c.args.limit c.args.clerk.now.view c.args.entry.now g.h c.args.parts.items c.requires.0.0 c.requires.1

pub step-requires-clause-legal : goal.step-requires-clause-legal
step-requires-clause-legal g c = hand_legal c.args.turns.now.1 c.args.limit c.args.clerk.now.view c.args.entry.now g.h c.args.parts.items c.requires.0.0 c.requires.1

pub step-requires-clause-counts : goal.step-requires-clause-counts
step-requires-clause-counts g c = hand_counters c.args.turns.now.1 c.args.limit c.args.clerk.now.view c.args.entry.now g.h c.args.parts.items c.requires.0.0 c.requires.1

pub returns-clause-change : goal.returns-clause-change
returns-clause-change g c =
    let st = c.in_ok-stepped in let limit = c.args.limit in
    let room = c.in_ok-reserve.ensures.room in
    let len = c.len-count.ensures in
    let few = c.if-count.false in
    let space = room.1 in
    record {
      step = step_is c.args.turns.now.1 limit c.args.clerk.now.view c.args.entry.now g.h c.args.parts.items st.stepped.parts.items st.stepped.messages.items c.requires.0.0 c.requires.1 st.ensures.parts st.ensures.keys st.ensures.messages;
      room = room.0;
      space = omega (arith, space, len);
      few = omega (arith, few, len);
    }

pub returns-clause-resumed : goal.returns-clause-resumed
returns-clause-resumed g c =
    let st = c.in_ok-stepped in
    resumed_is c.args.turns.now.1 c.args.limit c.args.clerk.now.view c.args.entry.now g.h c.args.parts.items st.stepped.resumed.items c.requires.0.0 c.requires.1 st.ensures.resumed
