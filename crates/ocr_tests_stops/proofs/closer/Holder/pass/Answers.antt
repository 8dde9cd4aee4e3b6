use Rattle.std.proofs.Common.{arith}
use Rattle.ocr_tests_stops.proofs.closer.Holder.pass.Goals as goal

pub act-self-requires : goal.act-self-requires
act-self-requires g c =
    (c.args.self.now.held c.args.turns.now c.requires).1 (λ e. omega (arith, e))

pub invariant_of-self-else-self-eq0-2 : goal.invariant_of-self-else-self-eq0-2
invariant_of-self-else-self-eq0-2 g c = record {
  held = λ table known.
      let h = c.args.self.now.held table known in (h.0, λ more. h.1 (λ e. omega (arith, e)));
}
