use Rattle.ocr_replay.proofs.stops.may_stop.Goals as goal

pub returns-in-Shutdown : goal.returns-in-Shutdown
returns-in-Shutdown c = rw c.in-Shutdown.is (λ s past front. c.may_shut_down.ensures s past c.args.mail.now front)

pub returns-in-Abort : goal.returns-in-Abort
returns-in-Abort c = rw c.in-Abort.is (λ s past front. c.may_abort.ensures s past c.args.mail.now front)

pub returns-in-Fault : goal.returns-in-Fault
returns-in-Fault c = rw c.in-Fault.is (λ s past front. c.may_fault.ensures s past c.args.mail.now front)

pub returns-in-Objects : goal.returns-in-Objects
returns-in-Objects c = rw c.in-Objects.is (λ s past front. c.may_lack.ensures s past c.args.mail.now front)
