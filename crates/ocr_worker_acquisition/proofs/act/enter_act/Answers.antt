use Rattle.std.proofs.Common.{sym, subst}
use Rattle.ocr_machine_history.specs.declared.entry.Entry.{Entry}
use Rattle.ocr_worker_clerk.specs.Entry.{CanMake}
use Rattle.ocr_worker_clerk.specs.Work.{in_hand}
use Rattle.ocr_worker_clerk.proofs.Units.{taken_duties}
use Rattle.ocr_worker_acquisition.proofs.Can.{all_at_hand, can_make}
use Rattle.ocr_worker_acquisition.proofs.act.enter_act.Goals as goal

pub enter_kept-requires : goal.enter_kept-requires
enter_kept-requires g c =
    let r = c.requires.1.1 in let job = c.args.job.now in
    let can = can_make job.turns.now job.program.now c.args.edt c.args.block c.args.act c.args.payloads.now c.args.places.now g.h c.args.clerk.now r.0 r.1.0 r.1.1 in
    let has = all_at_hand job.turns.now job.program.now c.args.edt c.args.block c.args.act c.args.payloads.now c.args.places.now g.h c.args.clerk.now r.0 r.1.0 r.1.1 in
    let now = subst (λ (e : Entry). CanMake job.turns.now.1 c.args.clerk.now.view e g.h (in_hand c.args.clerk.now.parts)) (sym c.entry_of-entry.ensures) can in
    λ κs lives. (lives.0, (lives.1, (r.0, (has, (taken_duties job.turns.now.1 c.args.edt c.args.clerk.now r.1.0, now)))))
