use Rattle.std.proofs.Common.{◌≡◌, ◌+◌, ◌∷◌, ◌++◌, ℕ, List, drop, slice_index, Bool, true, false, ap, sym, ◌∙◌, arith}
use Rattle.std.proofs.lemmas.Grind.{common_steps}
use Rattle.ocr_machine_parts.specs.Calls.{is_given, slot_target}
use Rattle.ocr_machine_parts.specs.Effects.{deps_linked}
use Rattle.ocr_machine_parts.specs.Progress.{linked_if}
use Rattle.ocr_machine_parts.specs.Messages.{dep_sends, linked_by}
use Rattle.ocr_machine_parts.specs.Parts.{Parts}
use Rattle.ocr_machine_effects.specs.AtHand.{state}
use Rattle.ocr_machine_effects.proofs.Links.{given_next, missing_next}
use Rattle.ocr_machine_effects.proofs.Places.{further}
use Rattle.ocr_machine_effects.proofs.events.depend_all.Goals as goal
use Rattle.ocr_machine_effects.proofs.events.depend_all.Goals.{then-deps-k+in_ok-depend, else-deps-k}

pub loop-k-preserved : goal.loop-k-preserved
loop-k-preserved c =
    let deps : List ℕ = c.args.deps.now in
    let k : ℕ = c.loop-k.k in
    let t : ℕ = c.args.edt in
    let d : ℕ = slice_index deps k in
    let f : Parts = state c.loop-k.parts in
    let rest : drop k deps ≡ d ∷ drop (k + 1) deps = grind (arith, common_steps) in
    let linked : deps_linked t k (d ∷ drop (k + 1) deps) f ≡ deps_linked t 0 deps (state c.args.parts.now) =
    ap (λ (ds : List ℕ). deps_linked t k ds f) (sym rest) ∙ c.loop-k.invariant.linked in
    let sends : c.loop-k.messages.items ++ dep_sends t k (d ∷ drop (k + 1) deps) f ≡ dep_sends t 0 deps (state c.args.parts.now) =
    ap (λ (ds : List ℕ). c.loop-k.messages.items ++ dep_sends t k ds f) (sym rest) ∙ c.loop-k.invariant.sent in
    elim c.if-deps-k.branch [
      | then-deps-k+in_ok-depend w ↦
          let given : is_given d ≡ true = grind (arith, common_steps) in
          let next = given_next t k d (drop (k + 1) deps) f (state c.if-deps-k.parts) (deps_linked t 0 deps (state c.args.parts.now)) c.loop-k.messages.items c.if-deps-k.messages.items (dep_sends t 0 deps (state c.args.parts.now)) given
          (rw w.parts-is (w.in_ok-depend.ensures.parts.state ∙ ap (λ (b : Bool). linked_if b d (slot_target t k) f) w.is_object.ensures))
          (rw w.messages-is (w.in_ok-depend.ensures.messages ∙ ap (λ (b : Bool). c.loop-k.messages.items ++ linked_by b d (slot_target t k) f) w.is_object.ensures))
          linked sends in
          record {
            becomes = rw w.parts-is (further c.args.parts.now c.loop-k.parts w.depend.new.parts _ _ c.loop-k.invariant.becomes w.in_ok-depend.ensures.parts);
            linked = next.0;
            sent = next.1;
          }
      | else-deps-k w ↦
          let missing : is_given d ≡ false = grind (arith, common_steps) in
          let next = missing_next t k d (drop (k + 1) deps) f (deps_linked t 0 deps (state c.args.parts.now)) c.loop-k.messages.items (dep_sends t 0 deps (state c.args.parts.now)) missing linked sends in
          record { becomes = rw w.parts-is c.loop-k.invariant.becomes; linked = rw w.parts-is next.0; sent = rw (w.messages-is, w.parts-is) next.1 }
    ]
