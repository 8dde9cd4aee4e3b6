use Rattle.std.proofs.Common.{ℕ, [], ◌∷◌, drop, length, reverse, sym, subst, arith}
use Rattle.std.proofs.lemmas.Iterator.Adapters.{YieldsList-from_rev_slice}
use Rattle.std.proofs.lemmas.Iterator.Consumers.{YieldsList-end, YieldsList-turn}
use Rattle.std.proofs.lemmas.List.{length-append}
use Rattle.ocr_worker_clerk.proofs.Gives.{GaveFaces, all_given, face_work, gave_face, may_face, none_gave, place_fits}
use Rattle.ocr_worker_clerk.proofs.give.give_faces.Goals as goal

pub loop-place-init : goal.loop-place-init
loop-place-init c = record { work = c.requires.work; so = none_gave c.args.turns.now.1 c.args.edt c.args.places.now c.args.clerk.now c.requires.keeps }

pub give_back-requires-clause-place : goal.give_back-requires-clause-place
give_back-requires-clause-place c =
    let at = c.loop-place in
    let turn = YieldsList-turn (YieldsList-from_rev_slice c.args.places.now (cc)) at.yielded _ at.yielded_by _ _ c.in-Some.place c.in-Some.is c.next.ensures.steps in
    place_fits c.args.turns.now.1 c.args.edt c.args.places.now (length at.yielded) c.in-Some.place.now c.args.clerk.now at.clerk c.requires.keeps.others c.requires.taken turn at.invariant.so

pub give_back-requires-clause-may : goal.give_back-requires-clause-may
give_back-requires-clause-may c =
    let at = c.loop-place in
    let turn = YieldsList-turn (YieldsList-from_rev_slice c.args.places.now (cc)) at.yielded _ at.yielded_by _ _ c.in-Some.place c.in-Some.is c.next.ensures.steps in
    λ _. may_face c.args.turns.now.1 c.args.edt c.args.places.now (length at.yielded) c.in-Some.place.now c.args.clerk.now at.clerk c.requires.keeps.others c.requires.taken turn at.invariant.so

pub loop-place-preserved : goal.loop-place-preserved
loop-place-preserved c =
    let at = c.loop-place in let t = c.args.turns.now.1 in let places = c.args.places.now in let old = c.args.clerk.now in
    let turn = YieldsList-turn (YieldsList-from_rev_slice places (cc)) at.yielded _ at.yielded_by _ _ c.in-Some.place c.in-Some.is c.next.ensures.steps in
    record {
      work = face_work t c.args.edt places (length at.yielded) c.in-Some.place.now old at.clerk c.requires.keeps.others c.requires.taken turn at.invariant.so c.give_back.new.clerk at.invariant.work.is_open c.give_back.ensures c.args.turns.now c.args.program.now at.invariant.work;
      so = subst (λ (n : ℕ). GaveFaces t c.args.edt (drop n (reverse places)) old c.give_back.new.clerk) (sym (length-append at.yielded (c.in-Some.place ∷ []))) (gave_face t c.args.edt places (length at.yielded) c.in-Some.place.now old at.clerk c.requires.keeps.others c.requires.taken turn at.invariant.so c.give_back.new.clerk at.invariant.work.is_open c.give_back.ensures);
    }

pub returns-clause-view : goal.returns-clause-view
returns-clause-view c =
    let at = c.loop-place in
    let end = YieldsList-end (YieldsList-from_rev_slice c.args.places.now (cc)) at.yielded _ at.yielded_by _ _ c.in-None.is c.next.ensures.steps in
    (all_given c.args.turns.now.1 c.args.edt c.args.places.now (length at.yielded) c.args.clerk.now at.clerk (let e = end.1 in omega (arith, e)) at.invariant.so).0

pub returns-clause-hand : goal.returns-clause-hand
returns-clause-hand c =
    let at = c.loop-place in
    let end = YieldsList-end (YieldsList-from_rev_slice c.args.places.now (cc)) at.yielded _ at.yielded_by _ _ c.in-None.is c.next.ensures.steps in
    (all_given c.args.turns.now.1 c.args.edt c.args.places.now (length at.yielded) c.args.clerk.now at.clerk (let e = end.1 in omega (arith, e)) at.invariant.so).1
