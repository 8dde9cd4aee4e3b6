use Rattle.std.proofs.Common.{◌≡◌, All, length}
use Rattle.std.specs.Vec.Iter.{into_iter_items, into_iter_len}
use Rattle.ocr_tests_turns.specs.Clerks.{IsOut, IsRoot}
use Rattle.ocr_tests_turns.proofs.threads.gather.Given as goal

abbrev pub invariant-loop-worked : goal.invariant-loop-worked
invariant-loop-worked l = record {
  root : IsRoot l.turns l.root (into_iter_len l.worked-iterator);
  left : into_iter_len l.worked-iterator ≡ length (into_iter_items l.worked-iterator);
  out : All (λ w. IsOut l.turns w.clerk) (into_iter_items l.worked-iterator);
}
