use Rattle.ocr_body_meaning.specs.Holds.{private_of}
use Rattle.ocr_worker_access.specs.Access.{holds_at}
use Rattle.ocr_worker_body.proofs.Desks.{next_coded}
use Rattle.ocr_worker_body.proofs.desk.answer.Goals as goal

pub make_call-requires : goal.make_call-requires
make_call-requires g c κs within =
    let a = c.args in let r = c.requires.1.1 in (
      within.0,
      (
        within.1,
        (r.1.0, (r.1.1.0, (r.1.1.1.1, next_coded a.job.now.turns.now a.job.now.program.now a.edt g.b a.clerk.now a.call.now (private_of a.call.now (holds_at a.clerk.now)) r.1.1.1.0 r.1.0 r.1.1.0 r.1.1.1.1))),
      ),
    )
