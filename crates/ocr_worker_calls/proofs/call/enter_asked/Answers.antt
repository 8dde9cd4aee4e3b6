use Rattle.std.proofs.Common.{◌≡◌, ◌∙◌, ◌+◌, ◌++◌, ℕ, List, [], refl, ap, sym, subst}
use Rattle.ocr_body_meaning.specs.Behaviour.{IsNextWith}
use Rattle.ocr_body_meaning.specs.Body.{says}
use Rattle.ocr_body_meaning.specs.Holds.{Holds, is_done, private_of}
use Rattle.ocr_machine_history.specs.declared.entry.Entry.TheVariants.{Call}
use Rattle.ocr_machine_parts.specs.declared.part.Part.{Part}
use Rattle.ocr_machine_parts.specs.Legal.{carried}
use Rattle.ocr_turns_rule.specs.Debts.{listed}
use Rattle.ocr_worker_machine.specs.Ocr.{counts}
use Rattle.ocr_worker_clerk.proofs.Push.{pushes_ok}
use Rattle.ocr_worker_access.specs.Calls.{faces_of}
use Rattle.ocr_worker_calls.specs.Calls.{IsLet}
use Rattle.ocr_worker_access.specs.Access.{AreOthers, HasEntered, made_by, places_made}
use Rattle.ocr_worker_access.specs.Served.{own_log}
use Rattle.ocr_worker_access.proofs.Asked.{rest_is}
use Rattle.ocr_worker_calls.proofs.Makes.{called_so, code_same, counts_kept, holds_first, holds_same, home_listed, is_let, lifted_listed, runs_listed, with_first}
use Rattle.ocr_worker_calls.proofs.call.enter_asked.Goals as goal

pub edt_made-made-requires : goal.edt_made-made-requires
edt_made-made-requires g c =
    let r = c.requires.1.1 in let L = c.args.job.now.turns.now.1.limit in let asked = c.args.asked in
    subst (λ (ps : List (ℕ × Part)). IsLet asked.call c.args.given.now.code ps) (sym c.deref.ensures.value)
    (is_let L c.args.edt asked.call c.args.given.now asked.parts.items r.1.1.1.1.1.1.1.1)

pub enter_call-requires : goal.enter_call-requires
enter_call-requires g c = λ κs within.
    let r = c.requires.1.1 in let t = c.args.job.now.turns.now.1 in let L = t.limit in let call = c.args.asked.call in let given = c.args.given.now in
    let ps = c.args.asked.parts.items in let now = c.list_carried.new.parts.items in
    let runs = r.1.0 in let lift = r.1.1.0 in let lists = c.list_carried.ensures.listed in
    let same = holds_same t c.args.edt g.s.0 g.s.1 c.args.clerk.now _ _ ps runs lift now lists in (
      within.0,
      (
        within.1,
        (
          r.0,
          (
            runs_listed t c.args.edt g.s.0 g.s.1 c.args.clerk.now _ _ ps runs lift now lists,
            (
              lifted_listed t c.args.edt g.s.0 g.s.1 c.args.clerk.now _ _ ps runs lift now lists,
              (
                subst (λ (h : Holds). IsNextWith call (private_of call h) (says g.s.0 (own_log g.s.1.view.log c.args.edt))) (sym same) r.1.1.1.1.0,
                (
                  r.1.1.1.1.1.0 ∙ sym (home_listed t c.args.edt g.s.0 g.s.1 c.args.clerk.now _ _ ps runs lift now lists call),
                  (
                    r.1.1.1.1.1.1.0,
                    (
                      r.1.1.1.1.1.1.1.0,
                      (
                        r.1.1.1.1.1.1.1.1 ∙ sym (code_same t c.args.edt g.s.0 g.s.1 c.args.clerk.now _ _ ps runs lift now lists call),
                        c.in-Ok.ensures.writes ∙ ap (λ (h : Holds). carried (is_done given.code) (private_of call h)) (holds_first t c.args.edt g.s.0 g.s.1 c.args.clerk.now _ _ ps runs lift ∙ sym same),
                      ),
                    ),
                  ),
                ),
              ),
            ),
          ),
        ),
      ),
    )

pub conclude-requires : goal.conclude-requires
conclude-requires g c = λ κs within.
    let r = c.requires.1.1 in let t = c.args.job.now.turns.now.1 in let L = t.limit in let call = c.args.asked.call in let given = c.args.given.now in
    let ps = c.args.asked.parts.items in let e = c.in_ok-resumed.ensures in let mid = c.enter_call.new.clerk in let writes = c.in-Ok.writes in
    let places = faces_of L c.args.asked.home call ++ places_made L call given in
    let d = c.deref-3.result.now in
    let others = rest_is d (L + c.args.edt) places (c.deref-3.ensures ∙ r.1.1.1.0) in
    let made : made_by L (Call c.args.edt c.args.asked.home call given writes) c.args.clerk.now.view.parts ≡ listed c.edt_made-made.result =
    ap (λ o. listed o) (sym (c.edt_made-made.ensures L c.args.edt ∙ (ap (counts L (Call c.args.edt 0 call given [])) c.deref.ensures.value ∙ counts_kept t c.args.edt g.s.0 g.s.1 c.args.clerk.now _ _ ps r.1.0 r.1.1.0 c.args.asked.home call given writes))) in (
      within.0,
      (
        within.1,
        (
          (refl, refl),
          (
            e.work,
            (
              subst (λ (ns : List ℕ). HasEntered t c.args.edt g.s.0 mid ns (listed c.edt_made-made.result) c.deref-2.result.now) (sym others)
                  (subst (λ (ms : List (ℕ × ℕ)). HasEntered t c.args.edt g.s.0 mid places ms c.deref-2.result.now) made
                  (subst (λ (rs : List ℕ). HasEntered t c.args.edt g.s.0 mid places (made_by L (Call c.args.edt c.args.asked.home call given writes) c.args.clerk.now.view.parts) rs) (sym c.deref-2.ensures.value) e.entered)),
              subst (λ (ns : List ℕ). AreOthers t c.args.edt ns) (sym others) e.others,
            ),
          ),
        ),
      ),
    )

pub returns-clause-pushed : goal.returns-clause-pushed
returns-clause-pushed g c =
    pushes_ok c.conclude.result c.args.clerk.now c.enter_call.new.clerk c.conclude.new.clerk c.args.hand.now c.conclude.new.hand c.in_ok-resumed.ensures.readied c.conclude.ensures.pushed

pub returns-clause-called : goal.returns-clause-called
returns-clause-called g c =
    let r = c.requires.1.1 in let t = c.args.job.now.turns.now.1 in let now = c.list_carried.new.parts.items in
    called_so c.conclude.result c.args.edt c.args.asked.call c.args.given.now g.s.1 (with_first g.s.1 now) c.enter_call.new.clerk c.conclude.new.clerk c.conclude.ensures.log c.conclude.ensures.holds c.in_ok-resumed.ensures.called refl
    (holds_same t c.args.edt g.s.0 g.s.1 c.args.clerk.now _ _ c.args.asked.parts.items r.1.0 r.1.1.0 now c.list_carried.ensures.listed)
