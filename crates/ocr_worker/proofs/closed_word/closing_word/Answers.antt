use Rattle.std.proofs.Common.{ap, subst, sym, ◌∙◌}
use Rattle.ocr_worker.proofs.Ended.{left_told, not_ended, same_known}
use Rattle.ocr_worker_clerk.specs.Work.{HasEnded}
use Rattle.ocr_worker.proofs.closed_word.closing_word.Goals as goal

pub unreachable-requires : goal.unreachable-requires
unreachable-requires c =
    let told = c.in-None.ensures in
    let same = same_known c.args.clerk.now c.look.new.clerk told.1 told.2 in
    not_ended c.args.turns.now c.look.new.clerk (told.1.0 ∙ c.requires.table.0, ap (λ v. v.terms) told.2 ∙ c.requires.table.1)
    (subst HasEnded (sym same) c.requires.ended) (ap (λ v. v.closed) told.2 ∙ told.0) told.3

pub returns-clause-left : goal.returns-clause-left
returns-clause-left c = λ worker left. left_told c.args.turns.now worker c.in-Some.word c.args.clerk.now c.look.new.clerk c.in-Some.ensures left
