use Rattle.ocr_datablock.proofs.Laws.{ask_law, release_law, doom_law, store_law, lend_law, take_back_law, words_law, holders_law, once_law, waiting_law, queue_law, gone_law, loan_law}
use Rattle.ocr_datablock.proofs.datablock.block_laws.Goals as goal

pub returns-clause-ask : goal.returns-clause-ask
returns-clause-ask c = ask_law

pub returns-clause-release : goal.returns-clause-release
returns-clause-release c = release_law

pub returns-clause-doom : goal.returns-clause-doom
returns-clause-doom c = doom_law

pub returns-clause-store : goal.returns-clause-store
returns-clause-store c = store_law

pub returns-clause-lend : goal.returns-clause-lend
returns-clause-lend c = lend_law

pub returns-clause-take_back : goal.returns-clause-take_back
returns-clause-take_back c = take_back_law

pub returns-clause-words : goal.returns-clause-words
returns-clause-words c = words_law

pub returns-clause-holders : goal.returns-clause-holders
returns-clause-holders c = holders_law

pub returns-clause-once : goal.returns-clause-once
returns-clause-once c = once_law

pub returns-clause-waiting : goal.returns-clause-waiting
returns-clause-waiting c = waiting_law

pub returns-clause-queue : goal.returns-clause-queue
returns-clause-queue c = queue_law

pub returns-clause-gone : goal.returns-clause-gone
returns-clause-gone c = gone_law

pub returns-clause-loan : goal.returns-clause-loan
returns-clause-loan c = loan_law
