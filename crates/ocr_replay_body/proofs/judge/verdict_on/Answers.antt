use Rattle.std.proofs.Common.{◌≡◌, ◌≤◌, ◌⊎◌, ◌<◌, ◌∙◌, inl, inr, refl, sym, ap, arith, List, ℕ, length}
use Rattle.ocr_base.specs.Count.{Rose}
use Rattle.ocr_body_code.specs.Checked.{checked_tree}
use Rattle.ocr_body_meaning.specs.Behaviour.{Ends, Stops}
use Rattle.ocr_body_meaning.specs.Body.{Body}
use Rattle.ocr_body_meaning.specs.Holds.{Holds}
use Rattle.ocr_body_steps.specs.Api.{StoppedBy}
use Rattle.ocr_machine_history.specs.declared.entry.Entry.{Entry}
use Rattle.ocr_replay_body.specs.declared.judge.Ending.TheVariants as ending
use Rattle.ocr_replay_body.specs.declared.judge.Told.{Told}
use Rattle.ocr_replay_body.specs.declared.links.Links.{Links}
use Rattle.ocr_replay_body.specs.Cases.{case_body, core_holds, judged_body}
use Rattle.ocr_replay_body.specs.Holds.{held_in}
use Rattle.ocr_replay_body.specs.Judge.{at_place, IsJudging, IsToldAs}
use Rattle.ocr_replay_body.specs.Links.{IsFollowing}
use Rattle.ocr_replay_body.proofs.Steps.{moved, ends_at_once, stopped_zero}
use Rattle.ocr_replay_body.proofs.Nexts.{lifted, stuck_told}
use Rattle.ocr_replay_body.proofs.judge.verdict_on.Goals.{then-function-eq0-via-then-function-eq0, then-function-eq0-via-else-function-eq0+then-function-count}
use Rattle.ocr_replay_body.proofs.judge.verdict_on.Goals as goal

-- what a judge keeps: the entries, the EDT, the start and the links
abbrev Kept : Type 0
Kept = List Entry × ℕ × ℕ × Links

abbrev IsGone : ℕ → ℕ → ℕ → Told → Body → Kept → Type 0
IsGone place next refusals say b k =
    IsJudging b k.1 k.0 k.2 place refusals × IsFollowing k.1 k.0 k.3 place next × (0 < refusals → length k.0 ≤ next → IsToldAs (at_place b k.1 k.0 place) say)

pub returns-then-function-eq0 : goal.returns-then-function-eq0
returns-then-function-eq0 c =
    let fs = checked_tree c.args.program.now in
    let core = c.args.core.now in
    let b : Body = case_body fs core c.args.deps.now in
    let none : (core.function ≡ 0) ⊎ (length fs < core.function) = elim c.then-function-eq0.branch [
      | then-function-eq0-via-then-function-eq0 w ↦ inl w.if-function-eq0.true
      | then-function-eq0-via-else-function-eq0+then-function-count w ↦ inr (omega (arith, w.if-function-count.true, w.count.ensures))
    ] in
    lifted b c.args.edt c.args.entries.now c.args.links.now c.args.start c.args.start c.args.next (ending.Ended 0) c.in_ok-holding.holding c.conclude.result (omega arith) (λ m lower upper. absurd (omega (arith, lower, upper)))
    c.requires.following
    (ends_at_once fs core.function core.params c.args.deps.now (core_holds core) c.args.edt c.args.entries.now c.args.start none c.requires.fresh ∙ ap (λ (h : Holds). Ends 0 h) (sym c.in_ok-holding.ensures))
    c.conclude.ensures

pub returns-in-Ok : goal.returns-in-Ok
returns-in-Ok c =
    let j = c.walk-ending.new.api in
    let b : Body = case_body (checked_tree c.args.program.now) c.args.core.now c.args.deps.now in
    let t : ℕ = c.args.edt in
    let xs : List Entry = c.args.entries.now in
    let kept : Kept = (xs, t, c.args.start, c.args.links.now) in
    let r = c.walk-ending.ensures.ready in
    let going : IsGone j.place j.next j.refusals j.told b kept = moved (IsGone j.place j.next j.refusals j.told) (judged_body j) b (j.entries.now, j.edt, j.start, j.links.now) kept c.walk-ending.ensures.serves c.walk-ending.ensures.kept (r.judging, r.following, r.told) in
    let ended : at_place b t xs j.place ≡ Ends c.in-Ok.returned (held_in j.holding) = moved (λ (b : Body) (k : Kept). at_place b k.1 k.0 j.place ≡ Ends c.in-Ok.returned (held_in j.holding))
    b b (j.entries.now, j.edt, j.start, j.links.now) kept refl c.walk-ending.ensures.kept c.in-Ok.ensures.ok in
    lifted b t xs c.args.links.now c.args.start j.place j.next (ending.Ended c.in-Ok.returned) j.holding c.conclude-in-Ok.result going.0.after going.0.said going.1 ended c.conclude-in-Ok.ensures

pub returns-then-refusals-eq0 : goal.returns-then-refusals-eq0
returns-then-refusals-eq0 c =
    let j = c.walk-ending.new.api in
    let b : Body = case_body (checked_tree c.args.program.now) c.args.core.now c.args.deps.now in
    let t : ℕ = c.args.edt in
    let xs : List Entry = c.args.entries.now in
    let kept : Kept = (xs, t, c.args.start, c.args.links.now) in
    let r = c.walk-ending.ensures.ready in
    let going : IsGone j.place j.next j.refusals j.told b kept = moved (IsGone j.place j.next j.refusals j.told) (judged_body j) b (j.entries.now, j.edt, j.start, j.links.now) kept c.walk-ending.ensures.serves c.walk-ending.ensures.kept (r.judging, r.following, r.told) in
    let stopped : StoppedBy (at_place b t xs j.place) (Rose 0 j.refusals) c.in-Err.stop = moved (λ (b : Body) (k : Kept). StoppedBy (at_place b k.1 k.0 j.place) (Rose 0 j.refusals) c.in-Err.stop)
    b b (j.entries.now, j.edt, j.start, j.links.now) kept refl c.walk-ending.ensures.kept c.in-Err.ensures.err in
    let says : at_place b t xs j.place ≡ Stops c.in-Err.stop =
    stopped_zero (at_place b t xs j.place) (Rose 0 j.refusals) c.in-Err.stop stopped (λ rose. omega (arith, rose, c.if-refusals-eq0.true)) c.in_default.not-NoMemory in
    lifted b t xs c.args.links.now c.args.start j.place j.next (ending.Stopped c.in-Err.stop) j.holding c.conclude-then-refusals-eq0.result going.0.after going.0.said going.1 says c.conclude-then-refusals-eq0.ensures

pub returns : goal.returns
returns c =
    let j = c.walk-ending.new.api in
    let b : Body = case_body (checked_tree c.args.program.now) c.args.core.now c.args.deps.now in
    let t : ℕ = c.args.edt in
    let xs : List Entry = c.args.entries.now in
    let kept : Kept = (xs, t, c.args.start, c.args.links.now) in
    let r = c.walk-ending.ensures.ready in
    let going : IsGone j.place j.next j.refusals j.told b kept = moved (IsGone j.place j.next j.refusals j.told) (judged_body j) b (j.entries.now, j.edt, j.start, j.links.now) kept c.walk-ending.ensures.serves c.walk-ending.ensures.kept (r.judging, r.following, r.told) in
    let some : 0 < j.refusals = omega (arith, c.if-refusals-eq0.false) in
    stuck_told b t xs c.args.links.now c.args.start j.place j.next j.told going.0.after going.0.said going.1 (going.0.stuck some) (going.2 some)
