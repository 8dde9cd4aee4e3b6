use Rattle.ocr_replay_body.specs.Links.{IsLinkedFrom}
use Rattle.ocr_replay_body.proofs.links.link.Given as goal

abbrev pub invariant-loop-place : goal.invariant-loop-place
invariant-loop-place l = IsLinkedFrom l.limit l.entries l.place l.links.nexts.items l.links.firsts.items
