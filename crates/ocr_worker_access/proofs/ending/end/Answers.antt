use Rattle.std.proofs.Common.{◌≡◌, ◌∙◌, ◌+◌, [], ℕ, true, List, length, get_or, refl, ap, sym, subst, arith}
use Rattle.ocr_machine_history.specs.declared.entry.What.{What}
use Rattle.ocr_machine_history.specs.declared.entry.Entry.TheVariants.{End}
use Rattle.ocr_machine_parts.specs.declared.part.Part.{Part}
use Rattle.ocr_machine_parts.specs.Messages.{payload_of_end, sent_by_end}
use Rattle.ocr_machine_parts.specs.Taken.{face_in, is_within}
use Rattle.ocr_turns_rule.specs.Sums.{as_some}
use Rattle.ocr_worker_machine.specs.Clerks.{IsStep}
use Rattle.ocr_worker_clerk.specs.Entry.{CanMake, OcrKnown}
use Rattle.ocr_worker_clerk.specs.Work.{EntersAs, HasFewDuties, in_hand}
use Rattle.ocr_worker_access.proofs.Ended.{core_first_at, ended_at_hand, ended_can, ended_kept, ended_step, ended_work, face_found, few_sent, idle_end, loose_end, newest_end, none_held}
use Rattle.ocr_worker_access.proofs.Readied.{entered_none, kept_duties}
use Rattle.ocr_worker_access.proofs.ending.end.Goals as goal

pub payload_of_end-payload-requires : goal.payload_of_end-payload-requires
payload_of_end-payload-requires g c =
    let r = c.requires.1.1 in let a = c.args in
    λ on. face_found a.job.now.turns.now a.job.now.program.now a.edt a.returned g.s.0 g.s.1.0 g.s.1.1.0 a.clerk.now r.1.0 r.1.1.0 r.1.1.1.0 r.1.1.1.1.1.0 r.1.1.1.1.1.1 (subst (λ (n : ℕ). is_within n a.returned ≡ true) c.limit.ensures on)

pub end_core-identity-requires : goal.end_core-identity-requires
end_core-identity-requires g c =
    let r = c.requires.1.1 in let a = c.args in let at : get_or a.places.now 0 0 ≡ a.job.now.turns.now.1.limit + a.edt = ap (λ (l : List ℕ). get_or l 0 0) r.1.1.1.1.0 in
    let took = r.1.1.1.0 in (
      took.core,
      as_some took.taken,
      core_first_at a.job.now.turns.now a.job.now.program.now a.edt a.returned g.s.0 g.s.1.0 g.s.1.1.0 a.clerk.now r.1.0 r.1.1.0 r.1.1.1.0 r.1.1.1.1.1.0 r.1.1.1.1.1.1 (get_or a.places.now 0 0) at,
      took.is.running,
      none_held a.job.now.turns.now a.job.now.program.now a.edt a.returned g.s.0 g.s.1.0 g.s.1.1.0 a.clerk.now r.1.0 r.1.1.0 r.1.1.1.0 r.1.1.1.1.1.0 r.1.1.1.1.1.1,
    )

pub close_memory-requires : goal.close_memory-requires
close_memory-requires g c =
    let r = c.requires.1.1 in let a = c.args in let at : get_or a.places.now 0 0 ≡ a.job.now.turns.now.1.limit + a.edt = ap (λ (l : List ℕ). get_or l 0 0) r.1.1.1.1.0 in
    record { work = ended_work a.job.now.turns.now a.job.now.program.now a.edt a.returned g.s.0 g.s.1.0 g.s.1.1.0 a.clerk.now r.1.0 r.1.1.0 r.1.1.1.0 r.1.1.1.1.1.0 r.1.1.1.1.1.1 c.end_core-identity.new.clerk (get_or a.places.now 0 0) at c.end_core-identity.ensures.stepped }

pub enter_at_hand-requires : goal.enter_at_hand-requires
enter_at_hand-requires g c = λ κs lives.
    let r = c.requires.1.1 in let a = c.args in let at : get_or a.places.now 0 0 ≡ a.job.now.turns.now.1.limit + a.edt = ap (λ (l : List ℕ). get_or l 0 0) r.1.1.1.1.0 in
    let took = r.1.1.1.0 in
    let identity = c.end_core-identity.ensures.identity took.core (as_some took.taken) (core_first_at a.job.now.turns.now a.job.now.program.now a.edt a.returned g.s.0 g.s.1.0 g.s.1.1.0 a.clerk.now r.1.0 r.1.1.0 r.1.1.1.0 r.1.1.1.1.1.0 r.1.1.1.1.1.1 (get_or a.places.now 0 0) at) in
    let payload = subst (λ (n : ℕ). c.payload_of_end-payload.result ≡ payload_of_end (face_in n (in_hand a.clerk.now.parts) a.returned) a.returned) c.limit.ensures c.payload_of_end-payload.ensures in
    let sent = c.in-Ok.ensures ∙ λ i. sent_by_end (identity i) (payload i) in (
      lives.0,
      (
        lives.1,
        (
          ended_work a.job.now.turns.now a.job.now.program.now a.edt a.returned g.s.0 g.s.1.0 g.s.1.1.0 a.clerk.now r.1.0 r.1.1.0 r.1.1.1.0 r.1.1.1.1.1.0 r.1.1.1.1.1.1 c.end_core-identity.new.clerk (get_or a.places.now 0 0) at c.end_core-identity.ensures.stepped,
          (
            ended_at_hand a.job.now.turns.now a.job.now.program.now a.edt a.returned g.s.0 g.s.1.0 g.s.1.1.0 a.clerk.now r.1.0 r.1.1.0 r.1.1.1.0 r.1.1.1.1.1.0 r.1.1.1.1.1.1 c.end_core-identity.new.clerk (get_or a.places.now 0 0) at c.end_core-identity.ensures.stepped,
            (
              subst (λ (k : OcrKnown). (was : List (ℕ × Part)) × CanMake a.job.now.turns.now.1 c.end_core-identity.new.clerk.view (End a.edt a.returned) (record { members = []; parts = in_hand k.parts }) was) (sym r.0) (ended_can a.job.now.turns.now a.job.now.program.now a.edt a.returned g.s.0 g.s.1.0 g.s.1.1.0 a.clerk.now r.1.0 r.1.1.0 r.1.1.1.0 r.1.1.1.1.1.0 r.1.1.1.1.1.1 c.end_core-identity.new.clerk (get_or a.places.now 0 0) at c.end_core-identity.ensures.stepped),
              (
                subst (λ (k : OcrKnown). IsStep a.job.now.turns.now.1.limit (End a.edt a.returned) [] (in_hand k.parts) (in_hand c.end_core-identity.new.clerk.parts) c.in-Ok.messages.items) (sym r.0) (ended_step a.job.now.turns.now a.job.now.program.now a.edt a.returned g.s.0 g.s.1.0 g.s.1.1.0 a.clerk.now r.1.0 r.1.1.0 r.1.1.1.0 r.1.1.1.1.1.0 r.1.1.1.1.1.1 c.end_core-identity.new.clerk (get_or a.places.now 0 0) at c.end_core-identity.ensures.stepped c.in-Ok.messages.items sent),
                (
                  (let l = ap (λ (l : List What). length l) c.in-Ok.ensures in let few = few_sent c.end_core-identity.result c.payload_of_end-payload.result in omega (arith, l, few)),
                  (subst HasFewDuties (sym c.end_core-identity.ensures.stepped.view) (kept_duties a.job.now.turns.now.1 a.edt g.s.0 g.s.1.1.0 a.clerk.now _ r.1.1.0 took), refl),
                ),
              ),
            ),
          ),
        ),
      ),
    )

pub give_all-requires-clause-keeps : goal.give_all-requires-clause-keeps
give_all-requires-clause-keeps g c =
    let r = c.requires.1.1 in let a = c.args in let at : get_or a.places.now 0 0 ≡ a.job.now.turns.now.1.limit + a.edt = ap (λ (l : List ℕ). get_or l 0 0) r.1.1.1.1.0 in
    let enters = subst (λ (k : OcrKnown). EntersAs a.job.now.turns.now.1 c.end_core-identity.new.clerk c.enter_at_hand.new.clerk (End a.edt a.returned) (record { members = []; parts = in_hand k.parts })) r.0 c.in_ok-enter_at_hand.ensures.entered in
    let kept = ended_kept a.job.now.turns.now a.job.now.program.now a.edt a.returned g.s.0 g.s.1.0 g.s.1.1.0 a.clerk.now r.1.0 r.1.1.0 r.1.1.1.0 r.1.1.1.1.1.0 r.1.1.1.1.1.1 c.end_core-identity.new.clerk (get_or a.places.now 0 0) at c.end_core-identity.ensures.stepped c.enter_at_hand.new.clerk enters in
    loose_end a.job.now.turns.now a.job.now.program.now a.edt a.returned g.s.0 g.s.1.0 g.s.1.1.0 a.clerk.now r.1.0 r.1.1.0 r.1.1.1.0 r.1.1.1.1.1.0 r.1.1.1.1.1.1 c.enter_at_hand.new.clerk kept a.places.now r.1.1.1.1.0

pub returns-clause-idle : goal.returns-clause-idle
returns-clause-idle g c =
    let r = c.requires.1.1 in let a = c.args in let at : get_or a.places.now 0 0 ≡ a.job.now.turns.now.1.limit + a.edt = ap (λ (l : List ℕ). get_or l 0 0) r.1.1.1.1.0 in
    let enters = subst (λ (k : OcrKnown). EntersAs a.job.now.turns.now.1 c.end_core-identity.new.clerk c.enter_at_hand.new.clerk (End a.edt a.returned) (record { members = []; parts = in_hand k.parts })) r.0 c.in_ok-enter_at_hand.ensures.entered in
    let kept = ended_kept a.job.now.turns.now a.job.now.program.now a.edt a.returned g.s.0 g.s.1.0 g.s.1.1.0 a.clerk.now r.1.0 r.1.1.0 r.1.1.1.0 r.1.1.1.1.1.0 r.1.1.1.1.1.1 c.end_core-identity.new.clerk (get_or a.places.now 0 0) at c.end_core-identity.ensures.stepped c.enter_at_hand.new.clerk enters in
    idle_end a.job.now.turns.now a.job.now.program.now a.edt a.returned g.s.0 g.s.1.0 g.s.1.1.0 a.clerk.now r.1.0 r.1.1.0 r.1.1.1.0 r.1.1.1.1.1.0 r.1.1.1.1.1.1 c.enter_at_hand.new.clerk kept c.give_all.new.clerk c.give_all.ensures.view c.give_all.ensures.hand

pub returns-clause-newest : goal.returns-clause-newest
returns-clause-newest g c =
    let r = c.requires.1.1 in let a = c.args in let at : get_or a.places.now 0 0 ≡ a.job.now.turns.now.1.limit + a.edt = ap (λ (l : List ℕ). get_or l 0 0) r.1.1.1.1.0 in
    let enters = subst (λ (k : OcrKnown). EntersAs a.job.now.turns.now.1 c.end_core-identity.new.clerk c.enter_at_hand.new.clerk (End a.edt a.returned) (record { members = []; parts = in_hand k.parts })) r.0 c.in_ok-enter_at_hand.ensures.entered in
    let kept = ended_kept a.job.now.turns.now a.job.now.program.now a.edt a.returned g.s.0 g.s.1.0 g.s.1.1.0 a.clerk.now r.1.0 r.1.1.0 r.1.1.1.0 r.1.1.1.1.1.0 r.1.1.1.1.1.1 c.end_core-identity.new.clerk (get_or a.places.now 0 0) at c.end_core-identity.ensures.stepped c.enter_at_hand.new.clerk enters in
    newest_end a.job.now.turns.now a.job.now.program.now a.edt a.returned g.s.0 g.s.1.0 g.s.1.1.0 a.clerk.now r.1.0 r.1.1.0 r.1.1.1.0 r.1.1.1.1.1.0 r.1.1.1.1.1.1 c.enter_at_hand.new.clerk kept c.give_all.new.clerk c.give_all.ensures.view

pub returns-clause-readied : goal.returns-clause-readied
returns-clause-readied g c =
    let a = c.args in
    entered_none a.job.now.turns.now.1 a.clerk.now c.end_core-identity.new.clerk c.enter_at_hand.new.clerk c.give_all.new.clerk (End a.edt a.returned) (record { members = []; parts = in_hand g.s.1.1.1.parts }) _ c.end_core-identity.ensures.stepped.view c.in_ok-enter_at_hand.ensures.entered c.give_all.ensures.view
