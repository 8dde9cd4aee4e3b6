use Rattle.std.proofs.Common.{◌≡◌, ◌&&◌, ◌++◌, List, false, sym, ◌∙◌, ap, arith}
use Rattle.std.proofs.lemmas.Grind.{common_steps}
use Rattle.ocr_machine_history.specs.declared.entry.What.{What}
use Rattle.ocr_machine_parts.specs.Kinds.{is_event}
use Rattle.ocr_machine_effects.specs.AtHand.{state}
use Rattle.ocr_machine_effects.proofs.Links.{not_linked}
use Rattle.ocr_machine_effects.proofs.Places.{ok_any, ok_with, into, stays}
use Rattle.ocr_machine_effects.proofs.events.depend.Goals as goal
use Rattle.ocr_machine_effects.proofs.events.depend.Goals.{else-is_named-via-then-is_named+else-is_event, else-is_named-via-else-is_named}

pub returns-else-is_named-clause-parts : goal.returns-else-is_named-clause-parts
returns-else-is_named-clause-parts c =
    let h = c.args.parts.now in
    let off : (c.args.is_named && is_event ((state h).face c.args.source)) ≡ false =
    elim c.else-is_named.branch [
      | else-is_named-via-then-is_named+else-is_event w ↦ grind (arith, common_steps)
      | else-is_named-via-else-is_named w ↦ grind (arith, common_steps)
    ] in
    ok_any c.get_now-else-is_named.result (into h h _ _ (stays h) (sym (not_linked c.args.is_named (state h) c.args.source c.args.target.now off)))

pub returns-in_ok-linked-clause-parts : goal.returns-in_ok-linked-clause-parts
returns-in_ok-linked-clause-parts c = ok_any c.get_now.result (rw c.if-is_named.true c.in_ok-linked.ensures.parts)

pub returns-in_ok-linked-clause-messages : goal.returns-in_ok-linked-clause-messages
returns-in_ok-linked-clause-messages c = rw c.if-is_named.true (ok_with c.get_now.result c.get_now.ensures (λ r is. is ∙ ap (λ (ms : List What). c.args.messages.now.items ++ ms) c.in_ok-linked.ensures.answer))
