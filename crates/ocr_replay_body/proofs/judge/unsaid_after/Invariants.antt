use Rattle.std.proofs.Common.{◌≡◌, ◌≤◌, ◌-◌, length}
use Rattle.ocr_body_meaning.specs.Body.{Body}
use Rattle.ocr_replay_body.specs.Judge.{IsSaidIn, at_place, ended_as}
use Rattle.ocr_replay_body.specs.Links.{IsFollowing}
use Rattle.ocr_replay_body.proofs.judge.unsaid_after.Given as goal

abbrev pub invariant-loop-at : goal.invariant-loop-at
invariant-loop-at l = record {
  after : l.next ≤ l.at;
  following : IsFollowing l.fn.edt l.entries l.links l.at l.at;
  so_far : (b : Body) → at_place b l.fn.edt l.entries l.next ≡ ended_as l.ending l.holding → IsSaidIn b l.fn.edt l.entries l.next l.at × (at_place b l.fn.edt l.entries l.at ≡ ended_as l.ending l.holding);
}

abbrev pub decreases-loop-at : goal.decreases-loop-at
decreases-loop-at l = length l.entries - l.at
