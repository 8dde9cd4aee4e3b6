use Rattle.std.proofs.Common.{◌≡◌, ◌+◌, ◌++◌, ◌∙◌, drop, refl, ap, sym, arith}
use Rattle.ocr_body_meaning.specs.declared.call.Answer.{Answer}
use Rattle.ocr_machine_parts.specs.Footprint.{makes_core}
use Rattle.ocr_worker_machine.specs.Ocr.{some_number}
use Rattle.ocr_worker_access.specs.Access.{new_places}
use Rattle.ocr_worker_calls.proofs.Answered.{beside_low, lifted_next, lifted_whole, makes_one, placed_edt, placed_one, some_longer, still_drawn, value_low}
use Rattle.ocr_worker_calls.proofs.Makes.{more_again}
use Rattle.ocr_worker_calls.proofs.answer.take_made.Goals as goal

pub take_some-requires : goal.take_some-requires
take_some-requires g c = λ κs within.
    let r = c.requires.1.1 in let t = c.args.job.now.turns.now.1 in let call = c.args.asked.now.call in let a = c.args.given.now in let p0 = c.args.asked.now.places.items in
    let few = r.1.1.1.1.1.1.0 in let first = r.1.1.1.1.1.0 in
    let v = c.given.inside.0.1.0 in let v_is : v ≡ a.value = ap (λ (x : Answer). x.value) c.given.view_is in
    let low = value_low t.limit call a r.1.0 r.1.1.1.0 in (
      within.0,
      (
        within.1,
        (
          r.0,
          (
            omega (arith, low, v_is),
            (
              omega (arith, few),
              r.1.1.1.1.1.1.1,
            ),
          ),
        ),
      ),
    )

pub take_some-requires-2 : goal.take_some-requires-2
take_some-requires-2 g c = λ κs within.
    let r = c.requires.1.1 in let t = c.args.job.now.turns.now.1 in let call = c.args.asked.now.call in let a = c.args.given.now in let p0 = c.args.asked.now.places.items in
    let few = r.1.1.1.1.1.1.0 in let first = r.1.1.1.1.1.0 in
    let v = c.given.inside.0.1.0 in let v_is : v ≡ a.value = ap (λ (x : Answer). x.value) c.given.view_is in
    let e1 = c.in_ok-take_some.ensures in let p1 = c.take_some.new.asked.places.items in let one = some_longer p0 p1 v e1.places in
    let low = value_low t.limit call a r.1.0 r.1.1.1.0 in (
      within.0,
      (
        within.1,
        (
          e1.work,
          (
            (let l = c.limit.ensures in omega (arith, low, l, v_is)),
            (
              omega (arith, few, one),
              lifted_next t c.args.edt g.g c.take_some.new.clerk p0 p1 c.args.clerk.now.view.drawn (some_number v) c.take_some.new.asked.parts.items first e1.places e1.lifted,
            ),
          ),
        ),
      ),
    )

pub take_some-requires-3 : goal.take_some-requires-3
take_some-requires-3 g c = λ κs within.
    let r = c.requires.1.1 in let t = c.args.job.now.turns.now.1 in let call = c.args.asked.now.call in let a = c.args.given.now in let p0 = c.args.asked.now.places.items in
    let few = r.1.1.1.1.1.1.0 in let first = r.1.1.1.1.1.0 in
    let v = c.given.inside.0.1.0 in let v_is : v ≡ a.value = ap (λ (x : Answer). x.value) c.given.view_is in
    let s = c.given.inside.0.1.1.0.0 in let s_is : s ≡ a.scope = ap (λ (x : Answer). x.scope) c.given.view_is in
    let e1 = c.in_ok-take_some.ensures in let p1 = c.take_some.new.asked.places.items in let one = some_longer p0 p1 v e1.places in
    let e2 = c.in_ok-take_some-2.ensures in let p2 = c.take_some-2.new.asked.places.items in let two = some_longer p1 p2 (c.limit.result + v) e2.places in
    let cored = ap makes_core (sym e1.same.0) ∙ (sym c.has_core.ensures ∙ c.if-not-has_core.false) in
    let low = beside_low t.limit call a r.1.0 cored r.1.1.1.0 in (
      within.0,
      (
        within.1,
        (
          e2.work,
          (
            omega (arith, low, s_is),
            (
              omega (arith, few, one, two),
              lifted_next t c.args.edt g.g c.take_some-2.new.clerk p1 p2 c.take_some.new.clerk.view.drawn (some_number (c.limit.result + v)) c.take_some-2.new.asked.parts.items (omega (arith, first, one)) e2.places e2.lifted,
            ),
          ),
        ),
      ),
    )

pub take_some-requires-4 : goal.take_some-requires-4
take_some-requires-4 g c = λ κs within.
    let r = c.requires.1.1 in let t = c.args.job.now.turns.now.1 in let call = c.args.asked.now.call in let a = c.args.given.now in let p0 = c.args.asked.now.places.items in
    let few = r.1.1.1.1.1.1.0 in let first = r.1.1.1.1.1.0 in
    let v = c.given.inside.0.1.0 in let v_is : v ≡ a.value = ap (λ (x : Answer). x.value) c.given.view_is in
    let s = c.given.inside.0.1.1.0.0 in let s_is : s ≡ a.scope = ap (λ (x : Answer). x.scope) c.given.view_is in
    let o = c.given.inside.0.1.1.1.0.0 in let o_is : o ≡ a.output = ap (λ (x : Answer). x.output) c.given.view_is in
    let e1 = c.in_ok-take_some.ensures in let p1 = c.take_some.new.asked.places.items in let one = some_longer p0 p1 v e1.places in
    let e2 = c.in_ok-take_some-2.ensures in let p2 = c.take_some-2.new.asked.places.items in let two = some_longer p1 p2 (c.limit.result + v) e2.places in
    let e3 = c.in_ok-take_some-3.ensures in let p3 = c.take_some-3.new.asked.places.items in let three = some_longer p2 p3 s e3.places in
    let cored = ap makes_core (sym e1.same.0) ∙ (sym c.has_core.ensures ∙ c.if-not-has_core.false) in
    let low = beside_low t.limit call a r.1.0 cored r.1.1.1.0 in (
      within.0,
      (
        within.1,
        (
          e3.work,
          (
            omega (arith, low, o_is),
            (
              omega (arith, few, one, two, three),
              lifted_next t c.args.edt g.g c.take_some-3.new.clerk p2 p3 c.take_some-2.new.clerk.view.drawn (some_number s) c.take_some-3.new.asked.parts.items (omega (arith, first, one, two)) e3.places e3.lifted,
            ),
          ),
        ),
      ),
    )

pub returns-clause-more : goal.returns-clause-more
returns-clause-more g c =
    let p0 = c.args.asked.now.parts.items in let p1 = c.take_some.new.asked.parts.items in let p2 = c.take_some-2.new.asked.parts.items in let p3 = c.take_some-3.new.asked.parts.items in let p4 = c.take_some-4.new.asked.parts.items in
    more_again p0 p3 p4 (more_again p0 p2 p3 (more_again p0 p1 p2 c.in_ok-take_some.ensures.more c.in_ok-take_some-2.ensures.more) c.in_ok-take_some-3.ensures.more) c.in_ok-take_some-4.ensures.more

pub returns-clause-places : goal.returns-clause-places
returns-clause-places g c =
    let r = c.requires.1.1 in let t = c.args.job.now.turns.now.1 in let call = c.args.asked.now.call in let a = c.args.given.now in let p0 = c.args.asked.now.places.items in
    let v = c.given.inside.0.1.0 in let v_is : v ≡ a.value = ap (λ (x : Answer). x.value) c.given.view_is in
    let s = c.given.inside.0.1.1.0.0 in let s_is : s ≡ a.scope = ap (λ (x : Answer). x.scope) c.given.view_is in
    let o = c.given.inside.0.1.1.1.0.0 in let o_is : o ≡ a.output = ap (λ (x : Answer). x.output) c.given.view_is in
    let e1 = c.in_ok-take_some.ensures in let p1 = c.take_some.new.asked.places.items in
    let e2 = c.in_ok-take_some-2.ensures in let p2 = c.take_some-2.new.asked.places.items in
    let e3 = c.in_ok-take_some-3.ensures in let p3 = c.take_some-3.new.asked.places.items in
    let e4 = c.in_ok-take_some-4.ensures in let p4 = c.take_some-4.new.asked.places.items in
    let cored = ap makes_core (sym e1.same.0) ∙ (sym c.has_core.ensures ∙ c.if-not-has_core.false) in
    let x_is : c.limit.result + v ≡ t.limit + a.value = (λ i. c.limit.ensures i + v_is i) in
    placed_edt t.limit call a v (c.limit.result + v) s o p0 p1 p2 p3 p4 (makes_one call a.code r.1.0) cored r.1.1.0 v_is x_is s_is o_is e1.places e2.places e3.places e4.places

pub returns-clause-lifted : goal.returns-clause-lifted
returns-clause-lifted g c =
    let r = c.requires.1.1 in let t = c.args.job.now.turns.now.1 in let call = c.args.asked.now.call in let a = c.args.given.now in let p0 = c.args.asked.now.places.items in
    let first = r.1.1.1.1.1.0 in
    let v = c.given.inside.0.1.0 in let v_is : v ≡ a.value = ap (λ (x : Answer). x.value) c.given.view_is in
    let s = c.given.inside.0.1.1.0.0 in let s_is : s ≡ a.scope = ap (λ (x : Answer). x.scope) c.given.view_is in
    let o = c.given.inside.0.1.1.1.0.0 in let o_is : o ≡ a.output = ap (λ (x : Answer). x.output) c.given.view_is in
    let e1 = c.in_ok-take_some.ensures in let p1 = c.take_some.new.asked.places.items in let one = some_longer p0 p1 v e1.places in
    let e2 = c.in_ok-take_some-2.ensures in let p2 = c.take_some-2.new.asked.places.items in let two = some_longer p1 p2 (c.limit.result + v) e2.places in
    let e3 = c.in_ok-take_some-3.ensures in let p3 = c.take_some-3.new.asked.places.items in let three = some_longer p2 p3 s e3.places in
    let e4 = c.in_ok-take_some-4.ensures in let p4 = c.take_some-4.new.asked.places.items in
    let cored = ap makes_core (sym e1.same.0) ∙ (sym c.has_core.ensures ∙ c.if-not-has_core.false) in
    let x_is : c.limit.result + v ≡ t.limit + a.value = (λ i. c.limit.ensures i + v_is i) in
    let d1 = still_drawn t c.args.edt g.g c.take_some.new.clerk (drop 1 p0 ++ some_number v) c.args.clerk.now.view.drawn c.take_some.new.asked.parts.items e1.lifted in
    let d2 = still_drawn t c.args.edt g.g c.take_some-2.new.clerk (drop 1 p1 ++ some_number (c.limit.result + v)) c.take_some.new.clerk.view.drawn c.take_some-2.new.asked.parts.items e2.lifted in
    let d3 = still_drawn t c.args.edt g.g c.take_some-3.new.clerk (drop 1 p2 ++ some_number s) c.take_some-2.new.clerk.view.drawn c.take_some-3.new.asked.parts.items e3.lifted in
    lifted_whole t c.args.edt g.g c.take_some-4.new.clerk p0 p3 p4 (some_number o) (new_places t.limit call a) c.take_some-3.new.clerk.view.drawn c.args.clerk.now.view.drawn c.take_some-4.new.asked.parts.items
    first (omega (arith, first, one, two, three)) e4.places
    (placed_edt t.limit call a v (c.limit.result + v) s o p0 p1 p2 p3 p4 (makes_one call a.code r.1.0) cored r.1.1.0 v_is x_is s_is o_is e1.places e2.places e3.places e4.places)
    (d3 ∙ (d2 ∙ d1)) e4.lifted

pub returns-clause-drawn : goal.returns-clause-drawn
returns-clause-drawn g c =
    let t = c.args.job.now.turns.now.1 in let p0 = c.args.asked.now.places.items in let p1 = c.take_some.new.asked.places.items in let p2 = c.take_some-2.new.asked.places.items in let p3 = c.take_some-3.new.asked.places.items in
    let v = c.given.inside.0.1.0 in let s = c.given.inside.0.1.1.0.0 in let o = c.given.inside.0.1.1.1.0.0 in
    let e1 = c.in_ok-take_some.ensures in let e2 = c.in_ok-take_some-2.ensures in let e3 = c.in_ok-take_some-3.ensures in let e4 = c.in_ok-take_some-4.ensures in
    let d1 = still_drawn t c.args.edt g.g c.take_some.new.clerk (drop 1 p0 ++ some_number v) c.args.clerk.now.view.drawn c.take_some.new.asked.parts.items e1.lifted in
    let d2 = still_drawn t c.args.edt g.g c.take_some-2.new.clerk (drop 1 p1 ++ some_number (c.limit.result + v)) c.take_some.new.clerk.view.drawn c.take_some-2.new.asked.parts.items e2.lifted in
    let d3 = still_drawn t c.args.edt g.g c.take_some-3.new.clerk (drop 1 p2 ++ some_number s) c.take_some-2.new.clerk.view.drawn c.take_some-3.new.asked.parts.items e3.lifted in
    let d4 = still_drawn t c.args.edt g.g c.take_some-4.new.clerk (drop 1 p3 ++ some_number o) c.take_some-3.new.clerk.view.drawn c.take_some-4.new.asked.parts.items e4.lifted in
    d4 ∙ (d3 ∙ (d2 ∙ d1))

pub returns-then-not-has_core-clause-drawn : goal.returns-then-not-has_core-clause-drawn
returns-then-not-has_core-clause-drawn g c =
    still_drawn c.args.job.now.turns.now.1 c.args.edt g.g c.take_some.new.clerk (drop 1 c.args.asked.now.places.items ++ some_number c.given.inside.0.1.0) c.args.clerk.now.view.drawn c.take_some.new.asked.parts.items c.in_ok-take_some.ensures.lifted

pub returns-then-not-has_core-clause-places : goal.returns-then-not-has_core-clause-places
returns-then-not-has_core-clause-places g c =
    let r = c.requires.1.1 in let t = c.args.job.now.turns.now.1 in let call = c.args.asked.now.call in let a = c.args.given.now in let p0 = c.args.asked.now.places.items in
    let v = c.given.inside.0.1.0 in let v_is : v ≡ a.value = ap (λ (x : Answer). x.value) c.given.view_is in
    let e1 = c.in_ok-take_some.ensures in let p1 = c.take_some.new.asked.places.items in
    let none = ap makes_core (sym e1.same.0) ∙ (sym c.has_core.ensures ∙ c.if-not-has_core.true) in
    placed_one t.limit call a v p0 p1 (makes_one call a.code r.1.0) none r.1.1.0 v_is e1.places

pub returns-then-not-has_core-clause-lifted : goal.returns-then-not-has_core-clause-lifted
returns-then-not-has_core-clause-lifted g c =
    let r = c.requires.1.1 in let t = c.args.job.now.turns.now.1 in let call = c.args.asked.now.call in let a = c.args.given.now in let p0 = c.args.asked.now.places.items in
    let first = r.1.1.1.1.1.0 in
    let v = c.given.inside.0.1.0 in let v_is : v ≡ a.value = ap (λ (x : Answer). x.value) c.given.view_is in
    let e1 = c.in_ok-take_some.ensures in let p1 = c.take_some.new.asked.places.items in
    let none = ap makes_core (sym e1.same.0) ∙ (sym c.has_core.ensures ∙ c.if-not-has_core.true) in
    lifted_whole t c.args.edt g.g c.take_some.new.clerk p0 p0 p1 (some_number v) (new_places t.limit call a) c.args.clerk.now.view.drawn c.args.clerk.now.view.drawn c.take_some.new.asked.parts.items
    first first e1.places (placed_one t.limit call a v p0 p1 (makes_one call a.code r.1.0) none r.1.1.0 v_is e1.places) refl e1.lifted
