use Rattle.std.proofs.Common.{◌≡◌, ◌++◌, length, drop, ◌∙◌, ap, refl, false, rules}
use Rattle.ocr_datablock.specs.Block.{Line, line_after_grants, line_without, without, front_that_fits, names, leavers}
use Rattle.ocr_datablock.proofs.Lines.{once_left, once_front, once_passed, front_apart, queue_passed, lent_passed, names_split}
use Rattle.ocr_datablock.proofs.datablock.Block.pass_on.Goals as goal

pub replace-requires : goal.replace-requires
replace-requires c =
    let now : Line = record { holders = c.self.inside.holders; queue = c.self.inside.queue } in
    let fits = c.in_ok-front.ensures (without c.args.edt now.holders) c.tally_without-held.ensures.tells in
    let granted : c.deref-2.result.now ≡ front_that_fits (without c.args.edt now.holders) now.queue = c.deref-2.ensures.value ∙ fits in
    record {
      once = rw granted (once_front now c.args.edt c.self.invariant.5);
      apart = rw granted (front_apart now c.args.edt c.self.invariant.5 (rw (← c.self.view_is) at c.requires.holder));
    }

pub invariant_of-self-2 : goal.invariant_of-self-2
invariant_of-self-2 c =
    let kept = c.self.invariant in
    let now : Line = record { holders = c.self.inside.holders; queue = c.self.inside.queue } in
    let fits = c.in_ok-front.ensures (without c.args.edt now.holders) c.tally_without-held.ensures.tells in
    let granted : c.deref-2.result.now ≡ front_that_fits (without c.args.edt now.holders) now.queue = c.deref-2.ensures.value ∙ fits in
    let after = line_after_grants false (line_without c.args.edt now) in
    let holders : c.replace.new.self ≡ after.holders = c.in_ok-replace.ensures.state ∙ ap (λ front. without c.args.edt now.holders ++ front) granted in
    let count : c.len.result ≡ length c.in_ok-front.front.items = search rules in
    let queue : c.drop_first.new.self ≡ after.queue = c.drop_first.ensures ∙ ap (λ many. drop many now.queue) (count ∙ ap length fits) ∙ queue_passed now c.args.edt in
    let lent = lent_passed c.self.inside.borrower false now c.args.edt (rw (← c.self.view_is) at c.requires.nothing_lent) kept.2 kept.3 in
    let once = once_passed false (line_without c.args.edt now) (once_left c.args.edt now kept.5) in
    (kept.0, kept.1, rw holders lent.0, rw holders lent.1, kept.4, rw (holders, queue) once)

pub returns-clause-state : goal.returns-clause-state
returns-clause-state c =
    let now : Line = record { holders = c.self.inside.holders; queue = c.self.inside.queue } in
    let fits = c.in_ok-front.ensures (without c.args.edt now.holders) c.tally_without-held.ensures.tells in
    let granted : c.deref-2.result.now ≡ front_that_fits (without c.args.edt now.holders) now.queue = c.deref-2.ensures.value ∙ fits in
    let after = line_after_grants false (line_without c.args.edt now) in
    let holders : c.replace.new.self ≡ after.holders = c.in_ok-replace.ensures.state ∙ ap (λ front. without c.args.edt now.holders ++ front) granted in
    let count : c.len.result ≡ length c.in_ok-front.front.items = search rules in
    let queue : c.drop_first.new.self ≡ after.queue = c.drop_first.ensures ∙ ap (λ many. drop many now.queue) (count ∙ ap length fits) ∙ queue_passed now c.args.edt in
    rw (← c.self.view_is) (rw (holders, queue) refl)

pub returns-clause-rest_waits : goal.returns-clause-rest_waits
returns-clause-rest_waits c =
    let now : Line = record { holders = c.self.inside.holders; queue = c.self.inside.queue } in
    let fits = c.in_ok-front.ensures (without c.args.edt now.holders) c.tally_without-held.ensures.tells in
    let after = line_after_grants false (line_without c.args.edt now) in
    let count : c.len.result ≡ length c.in_ok-front.front.items = search rules in
    let queue : c.drop_first.new.self ≡ after.queue = c.drop_first.ensures ∙ ap (λ many. drop many now.queue) (count ∙ ap length fits) ∙ queue_passed now c.args.edt in
    let resumed : c.in_ok-resumed.resumed.items ≡ names (leavers false (line_without c.args.edt now)) = c.in_ok-resumed.ensures ∙ ap names (c.deref.ensures.value ∙ fits) in
    rw (← c.self.view_is) (rw (resumed, queue) (names_split false (line_without c.args.edt now)))
