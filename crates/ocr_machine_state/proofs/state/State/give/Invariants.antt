use Rattle.std.proofs.Common.{◌≡◌, ◌≤◌, ◌+◌, ℕ, vec_len}
use Rattle.std.specs.List.{All}
use Rattle.ocr_machine_parts.specs.declared.part.Part.{Part}
use Rattle.ocr_machine_state.specs.State.{IsWholeState}
use Rattle.ocr_machine_state.proofs.Wholes.{given}
use Rattle.ocr_machine_state.proofs.state.State.give.Given as goal

abbrev pub invariant-loop-number : goal.invariant-loop-number
invariant-loop-number l = record {
  limit : l.self.limit ≡ l.fn.self.limit;
  sets : l.self.sets ≡ l.fn.self.sets;
  len : vec_len l.self.parts ≡ vec_len l.fn.self.parts;
  below : All (λ (p : ℕ × Part). p.0 ≤ l.self.limit + l.self.limit) l.parts.items;
  same : IsWholeState l.fn.self → (n : ℕ) → given l.parts.items l.self.parts.items n ≡ given l.fn.parts.items l.fn.self.parts.items n;
}

abbrev pub decreases-loop-number : goal.decreases-loop-number
decreases-loop-number l = vec_len l.parts
