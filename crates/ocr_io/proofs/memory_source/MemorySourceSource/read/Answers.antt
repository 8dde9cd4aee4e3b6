use Rattle.std.proofs.Common.{rules, ◌≡◌, ◌≤◌, ◌+◌, ◌∙◌, length, take, drop, arith}
use Rattle.std.proofs.lemmas.Grind.{common_steps}
use Rattle.std.proofs.lemmas.List.{drop_all}
use Rattle.ocr_io.proofs.KnownBytes.{handed}
use Rattle.ocr_io.proofs.memory_source.MemorySourceSource.read.Goals as goal

pub returns-clause-bytes : goal.returns-clause-bytes
returns-clause-bytes c =
    let at = c.self.inside.at in
    let bytes = c.self.inside.bytes.items in
    let count = c.min-count.result in
    let left : c.args.self.now.left ≡ drop at bytes = search rules in
    let copied : c.copy_from_slice.new.self ≡ take count (drop at bytes) = search (rules, common_steps) in
    let few : count ≤ length (drop at bytes) = grind (arith, common_steps) in (
      left ∙ handed at count bytes c.copy_from_slice.new.self (drop count c.args.buf.now) copied few,
      λ none some. drop_all (at + count) bytes (grind (arith, common_steps)),
    )
