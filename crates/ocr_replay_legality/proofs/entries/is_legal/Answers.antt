use Rattle.ocr_replay_legality.proofs.entries.is_legal.Goals as goal

pub returns-in-Call : goal.returns-in-Call
returns-in-Call c = rw c.in-Call.is (λ s past of run. c.may_call.ensures s past of run c.in-Call.writes)

pub returns-in-Acquire : goal.returns-in-Acquire
returns-in-Acquire c = rw c.in-Acquire.is c.may_acquire.ensures

pub returns-in-Wait : goal.returns-in-Wait
returns-in-Wait c = rw c.in-Wait.is c.may_wait.ensures

pub returns-in-StaleAcquire : goal.returns-in-StaleAcquire
returns-in-StaleAcquire c = rw c.in-StaleAcquire.is c.may_find_gone.ensures

pub returns-in-Start : goal.returns-in-Start
returns-in-Start c = rw c.in-Start.is c.may_start.ensures

pub returns-in-Free : goal.returns-in-Free
returns-in-Free c = rw c.in-Free.is (λ s past of run. c.may_free.ensures s past of run c.in-Free.writes)

pub returns-in-End : goal.returns-in-End
returns-in-End c = rw c.in-End.is (λ s past of run. c.may_end.ensures s past of run c.in-End.returned)
