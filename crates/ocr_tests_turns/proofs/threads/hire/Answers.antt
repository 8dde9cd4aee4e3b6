use Rattle.std.proofs.Common.{◌∷◌, [], suc, zero, All, ap, sym, subst, ◌∙◌, arith}
use Rattle.std.proofs.lemmas.List.Elements.{All-append}
use Rattle.ocr_turns_rule.specs.Steps.{parted_spare}
use Rattle.ocr_tests_turns.specs.Clerks.{IsIdle}
use Rattle.ocr_tests_turns.specs.declared.play.Job.{Job}
use Rattle.ocr_tests_turns.proofs.Seats.{hired, hires, raises, stays}
use Rattle.ocr_tests_turns.proofs.threads.hire.Goals as goal

one : {X : Type 0} (P : X → Type 0) (x : X) → P x → All P (x ∷ [])
one P x is zero d less = is
one P x is (suc k) d less = absurd (omega (arith, less))

pub split_live-requires-clause-spare : goal.split_live-requires-clause-spare
split_live-requires-clause-spare c =
    let at = c.loop-k.invariant.unit in let more = ap (λ v. v.spares) c.raise.ensures.view in let goes = ap (λ v. v.ended) c.raise.ensures.view in let one = at.spares in let none = at.goes in
    (omega arith, λ ended. absurd (omega arith))

pub loop-k-preserved : goal.loop-k-preserved
loop-k-preserved c =
    let t = c.args.turns.now in let raised = c.raise.new.clerk in
    let at = c.loop-k in let split = c.in_ok-clerk.ensures in let old = at.invariant in let clerk = split.clerk in
    let root = raises t at.root raised at.k 1 old.root c.raise.ensures.hand.0 c.raise.ensures.view in
    let idle = hired t raised c.in_ok-clerk.clerk at.k root clerk.0 clerk.1 clerk.2 clerk.3 clerk.4 in
    let quota = ap (λ v. v.quota) split.root.1 in let same = ap (λ v. v.quota) c.raise.ensures.view in record {
      root = hires t raised c.split_live.new.root at.k root split.root.0.0 split.root.1;
      unit = stays at.root c.split_live.new.root at.k old.unit (split.root.1 ∙ ap parted_spare c.raise.ensures.view);
      quota = omega (arith, quota, same, old.quota, c.loop-k-test.true);
      many = omega (arith, old.many, c.in_ok-push.ensures.len);
      idle = subst (All (λ (job : Job). IsIdle t job.clerk)) (sym c.in_ok-push.ensures.items) (All-append (λ (job : Job). IsIdle t job.clerk) at.jobs.items (c.job.result ∷ []) old.idle (one (λ (job : Job). IsIdle t job.clerk) c.job.result (subst (IsIdle t) (sym c.job.ensures) idle)));
    }
