use Rattle.std.proofs.Common.{rules, arith, ◌≡◌, ◌∙◌, sym, ap, subst, ◌+◌, ◌-◌, ◌<◌, ◌≤◌, ◌∷◌, ◌&&◌, suc, List, true, drop}
use Rattle.std.proofs.lemmas.Grind.{common_steps}
use Rattle.ocr_body_meaning.specs.Behaviour.{Behaviour, IsTrace}
use Rattle.ocr_program_tree.specs.Tree as tree
use Rattle.ocr_body_code.specs.Code.{name_at, statement_at, statements_in, expression_at, is_step_placed, is_placed, are_placed}
use Rattle.ocr_body_meaning.specs.Meaning as meaning
use Rattle.ocr_body_steps.specs.Local.{state_of, frame_of, numbers_of}
use Rattle.ocr_body_meaning.specs.Body.{Body, says, behaviour}
use Rattle.ocr_body_steps.specs.Api.{Begins, IsDone}
use Rattle.ocr_body_code.specs.declared.code.StmtCode.{StmtCode}
use Rattle.ocr_body_code.proofs.Weight.{weight, weights, weight_at}
use Rattle.ocr_body_code.proofs.Rows.{if_view, while_view, if_placed, while_placed}
use Rattle.ocr_body.proofs.Statements.{assigned, assigns, chosen, chosen_first, chosen_second, printed, returned, flows_after}
use Rattle.ocr_body.proofs.Turns.{tested, turn_ends, turn_goes_on, turns_left, flows_along, flowed_on}
use Rattle.ocr_body_code.proofs.Sides.{first_of, second_of}
use Rattle.ocr_body.proofs.walker.+exec.Goals as goal

pub exec-repeat-requires : goal.exec-repeat-requires
exec-repeat-requires g t c = λ κs l.
    let names = c.args.frame.now.names.now in
    let items : c.deref.result.now ≡ c.in-While.body.items = c.deref.ensures.value in
    let view : statement_at names c.args.step.now ≡ tree.While (expression_at names c.in-While.test) (statements_in names c.deref.result.now) =
    ap (statement_at names) c.in-While.is ∙ while_view names c.in-While.test c.in-While.body
    ∙ ap (λ (ss : List StmtCode). tree.While (expression_at names c.in-While.test) (statements_in names ss)) (sym items) in
    let placed : (is_placed (numbers_of c.args.frame.now) names c.in-While.test && are_placed (numbers_of c.args.frame.now) names c.deref.result.now) ≡ true =
    ap (λ (ss : List StmtCode). is_placed (numbers_of c.args.frame.now) names c.in-While.test && are_placed (numbers_of c.args.frame.now) names ss) items
    ∙ sym (ap (is_step_placed (numbers_of c.args.frame.now) names) c.in-While.is ∙ while_placed (numbers_of c.args.frame.now) names c.in-While.test c.in-While.body) ∙ c.requires.placed in
    let P : tree.Statement → Type 0 = λ s. Begins (says (g.A.Api.serves c.args.api.now) (g.A.Api.log c.args.api.now)) (meaning.exec (frame_of c.args.frame.now) s (state_of names (g.A.Api.holds c.args.api.now) c.args.local.now)) in
    (omega (arith, ap weight view), (l.0, (l.1, (c.requires.ready, (c.requires.fits, (placed, subst P view c.requires.begins))))))

pub exec-returns-in-While-clause-ok : goal.exec-returns-in-While-clause-ok
exec-returns-in-While-clause-ok g t c =
    let names = c.args.frame.now.names.now in
    let items : c.deref.result.now ≡ c.in-While.body.items = c.deref.ensures.value in
    let view : statement_at names c.args.step.now ≡ tree.While (expression_at names c.in-While.test) (statements_in names c.deref.result.now) =
    ap (statement_at names) c.in-While.is ∙ while_view names c.in-While.test c.in-While.body
    ∙ ap (λ (ss : List StmtCode). tree.While (expression_at names c.in-While.test) (statements_in names ss)) (sym items) in
    flows_along _ _ _ _ _ _ _ _ _ view c.repeat.ensures.ok

pub repeat-find_paid-requires-clause-begins : goal.repeat-find_paid-requires-clause-begins
repeat-find_paid-requires-clause-begins g t c =
    let names = c.args.frame.now.names.now in
    let test : meaning.State → meaning.Value → Behaviour = meaning.eval (frame_of c.args.frame.now) (expression_at names c.args.test.now) in
    let body : meaning.State → (meaning.State → Behaviour) → Behaviour = meaning.exec_all (frame_of c.args.frame.now) (statements_in names c.args.steps.now) in
    let m = c.loop-value.invariant.left.0 in (
      tested m test body c.requires.begins.0,
      ap (λ (b : Body). says b (g.A.Api.log c.loop-value.api)) c.loop-value.invariant.goes_on.serves
          ∙ c.loop-value.invariant.left.1.1 c.requires.begins.0 c.requires.begins.1,
    )

pub repeat-exec_all-requires : goal.repeat-exec_all-requires
repeat-exec_all-requires g t c = λ κs l.
    let names = c.args.frame.now.names.now in
    let test : meaning.State → meaning.Value → Behaviour = meaning.eval (frame_of c.args.frame.now) (expression_at names c.args.test.now) in
    let body : meaning.State → (meaning.State → Behaviour) → Behaviour = meaning.exec_all (frame_of c.args.frame.now) (statements_in names c.args.steps.now) in
    let m = c.loop-value.invariant.left.0 in
    let before = state_of names (g.A.Api.holds c.loop-value.api) c.loop-value.local in
    let tried = state_of names (g.A.Api.holds c.find_paid.new.api) c.find_paid.new.local in
    let v = c.in_ok-value.value in
    let found : (k : meaning.State → Behaviour) → says (g.A.Api.serves c.args.api.now) (g.A.Api.log c.loop-value.api) ≡ meaning.turns (suc m) test body before k
    → says (g.A.Api.serves c.find_paid.new.api) (g.A.Api.log c.find_paid.new.api) ≡ tested m test body k v tried =
    λ k here.
    ap (λ (b : Body). says b (g.A.Api.log c.find_paid.new.api)) c.in_ok-value.ensures.goes_on.serves
    ∙ c.in_ok-value.ensures.ok (tested m test body k) (ap (λ (b : Body). says b (g.A.Api.log c.loop-value.api)) c.loop-value.invariant.goes_on.serves ∙ here) in
    let served : g.A.Api.serves c.find_paid.new.api ≡ g.A.Api.serves c.args.api.now = c.in_ok-value.ensures.goes_on.serves ∙ c.loop-value.invariant.goes_on.serves in (
      omega arith,
      (
        l.0,
        (
          l.1,
          (
            c.in_ok-value.ensures.goes_on.ready,
            (
              record { distinct = c.requires.fits.distinct; room = c.in_ok-value.ensures.still_fits.room },
              (
                second_of _ _ c.requires.placed,
                (
                  λ st. meaning.turns m test body st c.requires.begins.0,
                  found c.requires.begins.0 (c.loop-value.invariant.left.1.1 c.requires.begins.0 c.requires.begins.1) ∙ turn_goes_on m test body c.requires.begins.0 v tried c.if-value-eq0.false,
                ),
              ),
            ),
          ),
        ),
      ),
    )

pub repeat-returns-then-value-eq0-clause-ok : goal.repeat-returns-then-value-eq0-clause-ok
repeat-returns-then-value-eq0-clause-ok g t c =
    let names = c.args.frame.now.names.now in
    let test : meaning.State → meaning.Value → Behaviour = meaning.eval (frame_of c.args.frame.now) (expression_at names c.args.test.now) in
    let body : meaning.State → (meaning.State → Behaviour) → Behaviour = meaning.exec_all (frame_of c.args.frame.now) (statements_in names c.args.steps.now) in
    let m = c.loop-value.invariant.left.0 in
    let before = state_of names (g.A.Api.holds c.loop-value.api) c.loop-value.local in
    let tried = state_of names (g.A.Api.holds c.find_paid.new.api) c.find_paid.new.local in
    let v = c.in_ok-value.value in
    let found : (k : meaning.State → Behaviour) → says (g.A.Api.serves c.args.api.now) (g.A.Api.log c.loop-value.api) ≡ meaning.turns (suc m) test body before k
    → says (g.A.Api.serves c.find_paid.new.api) (g.A.Api.log c.find_paid.new.api) ≡ tested m test body k v tried =
    λ k here.
    ap (λ (b : Body). says b (g.A.Api.log c.find_paid.new.api)) c.in_ok-value.ensures.goes_on.serves
    ∙ c.in_ok-value.ensures.ok (tested m test body k) (ap (λ (b : Body). says b (g.A.Api.log c.loop-value.api)) c.loop-value.invariant.goes_on.serves ∙ here) in
    let served : g.A.Api.serves c.find_paid.new.api ≡ g.A.Api.serves c.args.api.now = c.in_ok-value.ensures.goes_on.serves ∙ c.loop-value.invariant.goes_on.serves in
    λ k was.
    ap (λ (b : Body). says b (g.A.Api.log c.find_paid.new.api)) (sym served)
    ∙ found k (c.loop-value.invariant.left.1.1 k was) ∙ turn_ends m test body k v tried c.if-value-eq0.true

pub repeat-loop-value-preserved : goal.repeat-loop-value-preserved
repeat-loop-value-preserved g t c =
    let names = c.args.frame.now.names.now in
    let test : meaning.State → meaning.Value → Behaviour = meaning.eval (frame_of c.args.frame.now) (expression_at names c.args.test.now) in
    let body : meaning.State → (meaning.State → Behaviour) → Behaviour = meaning.exec_all (frame_of c.args.frame.now) (statements_in names c.args.steps.now) in
    let m = c.loop-value.invariant.left.0 in
    let before = state_of names (g.A.Api.holds c.loop-value.api) c.loop-value.local in
    let tried = state_of names (g.A.Api.holds c.find_paid.new.api) c.find_paid.new.local in
    let v = c.in_ok-value.value in
    let found : (k : meaning.State → Behaviour) → says (g.A.Api.serves c.args.api.now) (g.A.Api.log c.loop-value.api) ≡ meaning.turns (suc m) test body before k
    → says (g.A.Api.serves c.find_paid.new.api) (g.A.Api.log c.find_paid.new.api) ≡ tested m test body k v tried =
    λ k here.
    ap (λ (b : Body). says b (g.A.Api.log c.find_paid.new.api)) c.in_ok-value.ensures.goes_on.serves
    ∙ c.in_ok-value.ensures.ok (tested m test body k) (ap (λ (b : Body). says b (g.A.Api.log c.loop-value.api)) c.loop-value.invariant.goes_on.serves ∙ here) in
    let served : g.A.Api.serves c.find_paid.new.api ≡ g.A.Api.serves c.args.api.now = c.in_ok-value.ensures.goes_on.serves ∙ c.loop-value.invariant.goes_on.serves in
    let second : IsTrace (behaviour (g.A.Api.serves c.args.api.now)) (g.A.Api.log c.loop-value.api) → IsTrace (behaviour (g.A.Api.serves c.args.api.now)) (g.A.Api.log c.find_paid.new.api) =
    subst (λ (b : Body). IsTrace (behaviour b) (g.A.Api.log c.loop-value.api) → IsTrace (behaviour b) (g.A.Api.log c.find_paid.new.api)) c.loop-value.invariant.goes_on.serves c.in_ok-value.ensures.goes_on.trace in
    let third : IsTrace (behaviour (g.A.Api.serves c.args.api.now)) (g.A.Api.log c.find_paid.new.api) → IsTrace (behaviour (g.A.Api.serves c.args.api.now)) (g.A.Api.log c.exec_all.new.api) =
    subst (λ (b : Body). IsTrace (behaviour b) (g.A.Api.log c.find_paid.new.api) → IsTrace (behaviour b) (g.A.Api.log c.exec_all.new.api)) served c.in_ok-exec_all.ensures.goes_on.trace in
    let done : IsDone (says (g.A.Api.serves c.find_paid.new.api) (g.A.Api.log c.find_paid.new.api)) (body tried) (state_of names (g.A.Api.holds c.exec_all.new.api) c.exec_all.new.local) (says (g.A.Api.serves c.find_paid.new.api) (g.A.Api.log c.exec_all.new.api)) =
    flowed_on _ _ (body tried) _ c.in_ok-exec_all.field-0 _ c.in_default.is c.in_ok-exec_all.ensures.ok in
    let less : c.exec_all.new.local.fuel < c.loop-value.local.fuel = omega (arith, c.in_ok-exec_all.ensures.still_fits.fuel, c.in_ok-value.ensures.less) in
    let enough : c.loop-value.local.fuel ≤ m = c.loop-value.invariant.left.1.0 in
    record {
      goes_on = record {
        ready = c.in_ok-exec_all.ensures.goes_on.ready;
        serves = c.in_ok-exec_all.ensures.goes_on.serves ∙ served;
        kept = c.in_ok-exec_all.ensures.goes_on.kept ∙ c.in_ok-value.ensures.goes_on.kept ∙ c.loop-value.invariant.goes_on.kept;
        trace = λ was. third (second (c.loop-value.invariant.goes_on.trace was));
        later = omega (arith, c.loop-value.invariant.goes_on.later, c.in_ok-value.ensures.goes_on.later, c.in_ok-exec_all.ensures.goes_on.later);
      };
      still_fits = record {
        room = c.in_ok-exec_all.ensures.still_fits.room;
        fuel = omega (arith, c.loop-value.invariant.still_fits.fuel);
      };
      left = (
        m - 1,
        (
          omega arith,
          λ k was.
              ap (λ (b : Body). says b (g.A.Api.log c.exec_all.new.api)) (sym served)
              ∙ done (λ st. meaning.turns m test body st k) (found k (c.loop-value.invariant.left.1.1 k was) ∙ turn_goes_on m test body k v tried c.if-value-eq0.false)
              ∙ turns_left m c.exec_all.new.local.fuel c.loop-value.local.fuel test body (state_of names (g.A.Api.holds c.exec_all.new.api) c.exec_all.new.local) k less enough,
        ),
      );
    }

pub exec-exec_all-requires : goal.exec-exec_all-requires
exec-exec_all-requires g t c = λ κs l.
    let names = c.args.frame.now.names.now in
    let items : c.deref-then-value-eq0.result.now ≡ c.in-If.no.items = c.deref-then-value-eq0.ensures.value in
    let view : statement_at names c.args.step.now ≡ tree.If (expression_at names c.in-If.test) (statements_in names c.in-If.yes.items) (statements_in names c.in-If.no.items) =
    ap (statement_at names) c.in-If.is ∙ if_view names c.in-If.test c.in-If.yes c.in-If.no in
    let parts : (is_placed (numbers_of c.args.frame.now) names c.in-If.test && (are_placed (numbers_of c.args.frame.now) names c.in-If.yes.items && are_placed (numbers_of c.args.frame.now) names c.in-If.no.items)) ≡ true =
    sym (ap (is_step_placed (numbers_of c.args.frame.now) names) c.in-If.is ∙ if_placed (numbers_of c.args.frame.now) names c.in-If.test c.in-If.yes c.in-If.no) ∙ c.requires.placed in
    let placed : are_placed (numbers_of c.args.frame.now) names c.deref-then-value-eq0.result.now ≡ true = ap (are_placed (numbers_of c.args.frame.now) names) items ∙ second_of _ _ (second_of _ _ parts) in
    let before = state_of names (g.A.Api.holds c.args.api.now) c.args.local.now in
    let tried = state_of names (g.A.Api.holds c.find_paid.new.api) c.find_paid.new.local in
    let k = c.requires.begins.0 in
    let yes = statements_in names c.in-If.yes.items in
    let no = statements_in names c.in-If.no.items in
    let begins : says (g.A.Api.serves c.find_paid.new.api) (g.A.Api.log c.find_paid.new.api) ≡ meaning.exec_all (frame_of c.args.frame.now) (statements_in names c.deref-then-value-eq0.result.now) tried k =
    ap (λ (b : Body). says b (g.A.Api.log c.find_paid.new.api)) c.in_ok-value-in-If.ensures.goes_on.serves
    ∙ c.in_ok-value-in-If.ensures.ok (chosen (frame_of c.args.frame.now) yes no k) (c.requires.begins.1 ∙ ap (λ (s : tree.Statement). meaning.exec (frame_of c.args.frame.now) s before k) view)
    ∙ chosen_second (frame_of c.args.frame.now) yes no k c.in_ok-value-in-If.value tried c.if-value-eq0.true
    ∙ ap (λ (ss : List StmtCode). meaning.exec_all (frame_of c.args.frame.now) (statements_in names ss) tried k) (sym items) in (
      omega (arith, ap weight view, ap (λ (ss : List StmtCode). weights (statements_in names ss)) items),
      (l.0, (l.1, (c.in_ok-value-in-If.ensures.goes_on.ready, (record { distinct = c.requires.fits.distinct; room = c.in_ok-value-in-If.ensures.still_fits.room }, (placed, (k, begins)))))),
    )

pub exec-exec_all-requires-else-value-eq0 : goal.exec-exec_all-requires-else-value-eq0
exec-exec_all-requires-else-value-eq0 g t c = λ κs l.
    let names = c.args.frame.now.names.now in
    let items : c.deref-else-value-eq0.result.now ≡ c.in-If.yes.items = c.deref-else-value-eq0.ensures.value in
    let view : statement_at names c.args.step.now ≡ tree.If (expression_at names c.in-If.test) (statements_in names c.in-If.yes.items) (statements_in names c.in-If.no.items) =
    ap (statement_at names) c.in-If.is ∙ if_view names c.in-If.test c.in-If.yes c.in-If.no in
    let parts : (is_placed (numbers_of c.args.frame.now) names c.in-If.test && (are_placed (numbers_of c.args.frame.now) names c.in-If.yes.items && are_placed (numbers_of c.args.frame.now) names c.in-If.no.items)) ≡ true =
    sym (ap (is_step_placed (numbers_of c.args.frame.now) names) c.in-If.is ∙ if_placed (numbers_of c.args.frame.now) names c.in-If.test c.in-If.yes c.in-If.no) ∙ c.requires.placed in
    let placed : are_placed (numbers_of c.args.frame.now) names c.deref-else-value-eq0.result.now ≡ true = ap (are_placed (numbers_of c.args.frame.now) names) items ∙ first_of _ _ (second_of _ _ parts) in
    let before = state_of names (g.A.Api.holds c.args.api.now) c.args.local.now in
    let tried = state_of names (g.A.Api.holds c.find_paid.new.api) c.find_paid.new.local in
    let k = c.requires.begins.0 in
    let yes = statements_in names c.in-If.yes.items in
    let no = statements_in names c.in-If.no.items in
    let begins : says (g.A.Api.serves c.find_paid.new.api) (g.A.Api.log c.find_paid.new.api) ≡ meaning.exec_all (frame_of c.args.frame.now) (statements_in names c.deref-else-value-eq0.result.now) tried k =
    ap (λ (b : Body). says b (g.A.Api.log c.find_paid.new.api)) c.in_ok-value-in-If.ensures.goes_on.serves
    ∙ c.in_ok-value-in-If.ensures.ok (chosen (frame_of c.args.frame.now) yes no k) (c.requires.begins.1 ∙ ap (λ (s : tree.Statement). meaning.exec (frame_of c.args.frame.now) s before k) view)
    ∙ chosen_first (frame_of c.args.frame.now) yes no k c.in_ok-value-in-If.value tried c.if-value-eq0.false
    ∙ ap (λ (ss : List StmtCode). meaning.exec_all (frame_of c.args.frame.now) (statements_in names ss) tried k) (sym items) in (
      omega (arith, ap weight view, ap (λ (ss : List StmtCode). weights (statements_in names ss)) items),
      (l.0, (l.1, (c.in_ok-value-in-If.ensures.goes_on.ready, (record { distinct = c.requires.fits.distinct; room = c.in_ok-value-in-If.ensures.still_fits.room }, (placed, (k, begins)))))),
    )

pub exec-returns-then-value-eq0-clause-ok : goal.exec-returns-then-value-eq0-clause-ok
exec-returns-then-value-eq0-clause-ok g t c =
    let names = c.args.frame.now.names.now in
    let before = state_of names (g.A.Api.holds c.args.api.now) c.args.local.now in
    let items : c.deref-then-value-eq0.result.now ≡ c.in-If.no.items = c.deref-then-value-eq0.ensures.value in
    let view : statement_at names c.args.step.now ≡ tree.If (expression_at names c.in-If.test) (statements_in names c.in-If.yes.items) (statements_in names c.in-If.no.items) =
    ap (statement_at names) c.in-If.is ∙ if_view names c.in-If.test c.in-If.yes c.in-If.no in
    let tried = state_of names (g.A.Api.holds c.find_paid.new.api) c.find_paid.new.local in
    let yes = statements_in names c.in-If.yes.items in
    let no = statements_in names c.in-If.no.items in
    flows_after (g.A.Api.serves c.args.api.now) (g.A.Api.serves c.find_paid.new.api) (g.A.Api.log c.args.api.now) (g.A.Api.log c.find_paid.new.api) (g.A.Api.log c.exec_all.new.api)
    (meaning.exec (frame_of c.args.frame.now) (statement_at names c.args.step.now) before) (meaning.exec_all (frame_of c.args.frame.now) (statements_in names c.deref-then-value-eq0.result.now) tried)
    c.exec_all.new.local.returned (state_of names (g.A.Api.holds c.exec_all.new.api) c.exec_all.new.local) c.exec_all.result c.in_ok-value-in-If.ensures.goes_on.serves (λ k was.
    c.in_ok-value-in-If.ensures.ok (chosen (frame_of c.args.frame.now) yes no k) (was ∙ ap (λ (s : tree.Statement). meaning.exec (frame_of c.args.frame.now) s before k) view)
    ∙ chosen_second (frame_of c.args.frame.now) yes no k c.in_ok-value-in-If.value tried c.if-value-eq0.true
    ∙ ap (λ (ss : List StmtCode). meaning.exec_all (frame_of c.args.frame.now) (statements_in names ss) tried k) (sym items)) c.exec_all.ensures.ok

pub exec-returns-else-value-eq0-clause-ok : goal.exec-returns-else-value-eq0-clause-ok
exec-returns-else-value-eq0-clause-ok g t c =
    let names = c.args.frame.now.names.now in
    let before = state_of names (g.A.Api.holds c.args.api.now) c.args.local.now in
    let items : c.deref-else-value-eq0.result.now ≡ c.in-If.yes.items = c.deref-else-value-eq0.ensures.value in
    let view : statement_at names c.args.step.now ≡ tree.If (expression_at names c.in-If.test) (statements_in names c.in-If.yes.items) (statements_in names c.in-If.no.items) =
    ap (statement_at names) c.in-If.is ∙ if_view names c.in-If.test c.in-If.yes c.in-If.no in
    let tried = state_of names (g.A.Api.holds c.find_paid.new.api) c.find_paid.new.local in
    let yes = statements_in names c.in-If.yes.items in
    let no = statements_in names c.in-If.no.items in
    flows_after (g.A.Api.serves c.args.api.now) (g.A.Api.serves c.find_paid.new.api) (g.A.Api.log c.args.api.now) (g.A.Api.log c.find_paid.new.api) (g.A.Api.log c.exec_all-else-value-eq0.new.api)
    (meaning.exec (frame_of c.args.frame.now) (statement_at names c.args.step.now) before) (meaning.exec_all (frame_of c.args.frame.now) (statements_in names c.deref-else-value-eq0.result.now) tried)
    c.exec_all-else-value-eq0.new.local.returned (state_of names (g.A.Api.holds c.exec_all-else-value-eq0.new.api) c.exec_all-else-value-eq0.new.local) c.exec_all-else-value-eq0.result c.in_ok-value-in-If.ensures.goes_on.serves (λ k was.
    c.in_ok-value-in-If.ensures.ok (chosen (frame_of c.args.frame.now) yes no k) (was ∙ ap (λ (s : tree.Statement). meaning.exec (frame_of c.args.frame.now) s before k) view)
    ∙ chosen_first (frame_of c.args.frame.now) yes no k c.in_ok-value-in-If.value tried c.if-value-eq0.false
    ∙ ap (λ (ss : List StmtCode). meaning.exec_all (frame_of c.args.frame.now) (statements_in names ss) tried k) (sym items)) c.exec_all-else-value-eq0.ensures.ok

pub exec-find_paid-requires-clause-begins : goal.exec-find_paid-requires-clause-begins
exec-find_paid-requires-clause-begins g t c =
    let names = c.args.frame.now.names.now in
    let before = state_of names (g.A.Api.holds c.args.api.now) c.args.local.now in
    let view : statement_at names c.args.step.now ≡ tree.If (expression_at names c.in-If.test) (statements_in names c.in-If.yes.items) (statements_in names c.in-If.no.items) =
    ap (statement_at names) c.in-If.is ∙ if_view names c.in-If.test c.in-If.yes c.in-If.no in
    let k = c.requires.begins.0 in (
      chosen (frame_of c.args.frame.now) (statements_in names c.in-If.yes.items) (statements_in names c.in-If.no.items) k,
      c.requires.begins.1 ∙ ap (λ (s : tree.Statement). meaning.exec (frame_of c.args.frame.now) s before k) view,
    )

pub exec-find_paid-requires-in-Print-clause-begins : goal.exec-find_paid-requires-in-Print-clause-begins
exec-find_paid-requires-in-Print-clause-begins g t c =
    let names = c.args.frame.now.names.now in
    let before = state_of names (g.A.Api.holds c.args.api.now) c.args.local.now in
    let k = c.requires.begins.0 in
    (printed k, c.requires.begins.1 ∙ ap (λ (s : tree.Statement). meaning.exec (frame_of c.args.frame.now) s before k) (ap (statement_at names) c.in-Print.is))

pub exec-print-requires-clause-begins : goal.exec-print-requires-clause-begins
exec-print-requires-clause-begins g t c =
    let names = c.args.frame.now.names.now in
    let before = state_of names (g.A.Api.holds c.args.api.now) c.args.local.now in
    let k = c.requires.begins.0 in (
      k,
      ap (λ (b : Body). says b (g.A.Api.log c.find_paid-in-Print.new.api)) c.in_ok-value-in-Print.ensures.goes_on.serves
          ∙ c.in_ok-value-in-Print.ensures.ok (printed k) (c.requires.begins.1 ∙ ap (λ (s : tree.Statement). meaning.exec (frame_of c.args.frame.now) s before k) (ap (statement_at names) c.in-Print.is)),
    )

pub exec-returns-in_ok-print-in-Print-clause-ok : goal.exec-returns-in_ok-print-in-Print-clause-ok
exec-returns-in_ok-print-in-Print-clause-ok g t c =
    let names = c.args.frame.now.names.now in
    let before = state_of names (g.A.Api.holds c.args.api.now) c.args.local.now in
    λ k was.
    ap (λ (b : Body). says b (g.A.Api.log c.print.new.api)) (sym c.in_ok-value-in-Print.ensures.goes_on.serves)
    ∙ c.in_ok-print-in-Print.ensures.ok k (ap (λ (b : Body). says b (g.A.Api.log c.find_paid-in-Print.new.api)) c.in_ok-value-in-Print.ensures.goes_on.serves
    ∙ c.in_ok-value-in-Print.ensures.ok (printed k) (was ∙ ap (λ (s : tree.Statement). meaning.exec (frame_of c.args.frame.now) s before k) (ap (statement_at names) c.in-Print.is)))

pub exec-find_paid-requires-in-Return-clause-begins : goal.exec-find_paid-requires-in-Return-clause-begins
exec-find_paid-requires-in-Return-clause-begins g t c =
    let names = c.args.frame.now.names.now in
    let before = state_of names (g.A.Api.holds c.args.api.now) c.args.local.now in
    let k = c.requires.begins.0 in
    (returned, c.requires.begins.1 ∙ ap (λ (s : tree.Statement). meaning.exec (frame_of c.args.frame.now) s before k) (ap (statement_at names) c.in-Return.is))

pub exec-returns-in_ok-value-in-Return-clause-ok : goal.exec-returns-in_ok-value-in-Return-clause-ok
exec-returns-in_ok-value-in-Return-clause-ok g t c =
    let names = c.args.frame.now.names.now in
    let before = state_of names (g.A.Api.holds c.args.api.now) c.args.local.now in
    let k = c.requires.begins.0 in
    c.in_ok-value-in-Return.ensures.ok returned (c.requires.begins.1 ∙ ap (λ (s : tree.Statement). meaning.exec (frame_of c.args.frame.now) s before k) (ap (statement_at names) c.in-Return.is))

pub exec-find_paid-requires-in-Let-clause-begins : goal.exec-find_paid-requires-in-Let-clause-begins
exec-find_paid-requires-in-Let-clause-begins g t c =
    let names = c.args.frame.now.names.now in
    let before = state_of names (g.A.Api.holds c.args.api.now) c.args.local.now in
    let k = c.requires.begins.0 in
    (assigned (name_at names c.in-Let.place) k, c.requires.begins.1 ∙ assigns (frame_of c.args.frame.now) names c.args.step.now c.in-Let.place c.in-Let.value before k c.in-Let.is)

pub exec-returns-in_ok-value-in-Let-clause-ok : goal.exec-returns-in_ok-value-in-Let-clause-ok
exec-returns-in_ok-value-in-Let-clause-ok g t c =
    let names = c.args.frame.now.names.now in
    let before = state_of names (g.A.Api.holds c.args.api.now) c.args.local.now in
    λ k was.
    c.in_ok-value-in-Let.ensures.ok (assigned (name_at names c.in-Let.place) k) (was ∙ assigns (frame_of c.args.frame.now) names c.args.step.now c.in-Let.place c.in-Let.value before k c.in-Let.is)
    ∙ ap k (sym c.assign.ensures.state)

pub exec_all-exec-requires : goal.exec_all-exec-requires
exec_all-exec-requires g t c = λ κs l.
    let names = c.args.frame.now.names.now in
    let rest : drop c.loop-step.step-index c.args.steps.now ≡ c.step-item.result ∷ drop (c.loop-step.step-index + 1) c.args.steps.now = search (rules, common_steps) in
    let placed : (is_step_placed (numbers_of c.args.frame.now) names c.step-item.result && are_placed (numbers_of c.args.frame.now) names (drop (c.loop-step.step-index + 1) c.args.steps.now)) ≡ true =
    sym (ap (are_placed (numbers_of c.args.frame.now) names) rest) ∙ c.loop-step.invariant.placed in
    let here : says (g.A.Api.serves c.loop-step.api) (g.A.Api.log c.loop-step.api) ≡ meaning.exec_all (frame_of c.args.frame.now) (statements_in names (drop c.loop-step.step-index c.args.steps.now)) (state_of names (g.A.Api.holds c.loop-step.api) c.loop-step.local) c.requires.begins.0 =
    ap (λ (b : Body). says b (g.A.Api.log c.loop-step.api)) c.loop-step.invariant.goes_on.serves ∙ c.loop-step.invariant.left c.requires.begins.0 c.requires.begins.1 in (
      omega (arith, weight_at names c.args.steps.now c.loop-step.step-index c.step-item.result c.loop-step-test.true, ap (λ (s : StmtCode). weight (statement_at names s)) c.step-item.is),
      (
        l.0,
        (
          l.1,
          (
            c.loop-step.invariant.goes_on.ready,
            (
              record { distinct = c.requires.fits.distinct; room = c.loop-step.invariant.still_fits.room },
              (
                first_of _ _ placed,
                (
                  λ st. meaning.exec_all (frame_of c.args.frame.now) (statements_in names (drop (c.loop-step.step-index + 1) c.args.steps.now)) st c.requires.begins.0,
                  here ∙ ap (λ (xs : List StmtCode). meaning.exec_all (frame_of c.args.frame.now) (statements_in names xs) (state_of names (g.A.Api.holds c.loop-step.api) c.loop-step.local) c.requires.begins.0) rest,
                ),
              ),
            ),
          ),
        ),
      ),
    )
