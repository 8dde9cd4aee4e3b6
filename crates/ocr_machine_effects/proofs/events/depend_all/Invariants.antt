use Rattle.std.proofs.Common.{◌≡◌, ◌++◌, drop}
use Rattle.ocr_machine_parts.specs.Effects.{deps_linked}
use Rattle.ocr_machine_parts.specs.Messages.{dep_sends}
use Rattle.ocr_machine_effects.specs.AtHand.{state, Becomes}
use Rattle.ocr_machine_effects.proofs.events.depend_all.Given as goal

abbrev pub invariant-loop-k : goal.invariant-loop-k
invariant-loop-k l = record {
  becomes : Becomes l.fn.parts l.parts (state l.parts);
  linked : deps_linked l.edt l.k (drop l.k l.deps) (state l.parts) ≡ deps_linked l.edt 0 l.deps (state l.fn.parts);
  sent : l.messages.items ++ dep_sends l.edt l.k (drop l.k l.deps) (state l.parts) ≡ dep_sends l.edt 0 l.deps (state l.fn.parts);
}
