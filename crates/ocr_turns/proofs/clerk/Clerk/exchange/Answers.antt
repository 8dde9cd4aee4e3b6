use Rattle.std.proofs.Common.{refl, Some}
use Rattle.ocr_turns.proofs.Swapped.{found, swapped_rest, swapped_true}
use Rattle.ocr_turns.proofs.clerk.Clerk.exchange.Goals as goal

pub swap_part-requires : goal.swap_part-requires
swap_part-requires g c = found c.args.place c.self.view_is c.requires

pub invariant_of-self : goal.invariant_of-self
invariant_of-self g c = swapped_true c.args.place (Some c.args.part) c.swap_part.ensures.replaced c.self.invariant

pub returns-clause-rest : goal.returns-clause-rest
returns-clause-rest g c = swapped_rest c.args.place (Some c.args.part) c.self.inside.parts.items c.swap_part.ensures.replaced c.swap_part.ensures.room refl c.self.view_is
