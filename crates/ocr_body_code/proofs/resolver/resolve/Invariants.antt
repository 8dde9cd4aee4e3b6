use Rattle.std.proofs.Common.{◌≡◌, take, map, true}
use Rattle.ocr_body_code.specs.Code.{bodies_in, are_sound}
use Rattle.ocr_program_tree.specs.Functions.{numbers_in}
use Rattle.ocr_program_tree.specs.View.{functions_of}
use Rattle.ocr_body_code.proofs.resolver.resolve.Given as goal

abbrev pub invariant-loop-f : goal.invariant-loop-f
invariant-loop-f l = record {
  bodies : bodies_in l.codes.items ≡ map (λ f. f.body) (functions_of (take l.f-index l.functions));
  sound : are_sound (numbers_in (functions_of l.functions)) l.codes.items ≡ true;
}
