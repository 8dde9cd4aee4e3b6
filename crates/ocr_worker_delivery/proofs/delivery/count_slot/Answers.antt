use Rattle.std.proofs.Common.{◌≡◌, ℕ, sym, subst, refl}
use Rattle.ocr_worker_clerk.specs.Entry.{OcrKnown}
use Rattle.ocr_worker_clerk.specs.Work.{AtWork}
use Rattle.ocr_worker_clerk.proofs.Goes.{stays_both}
use Rattle.ocr_worker_delivery.specs.Delivery.{Settles}
use Rattle.ocr_worker_delivery.proofs.Delivered.{on_both, on_ok, owes_count, settles_last, settles_more, words_stay, words_work}
use Rattle.ocr_worker_delivery.proofs.delivery.count_slot.Goals as goal

pub count_down-requires-clause-owes : goal.count_down-requires-clause-owes
count_down-requires-clause-owes g c = owes_count c.args.clerk.now c.put_payload.new.clerk c.args.edt c.args.slot c.payload.inside.0 c.put_payload.ensures.view

pub returns-in-More-clause-stays : goal.returns-in-More-clause-stays
returns-in-More-clause-stays g c = words_stay c.args.clerk.now c.put_payload.new.clerk c.count_down.new.clerk c.args.edt c.args.slot c.payload.inside.0 c.in-More._left c.put_payload.ensures.hand c.put_payload.ensures.view c.in-More.ensures.hand c.in-More.ensures.view

pub returns-in-More-clause-work : goal.returns-in-More-clause-work
returns-in-More-clause-work g c =
    words_work c.args.clerk.now c.put_payload.new.clerk c.count_down.new.clerk c.args.edt c.args.slot c.payload.inside.0 c.in-More._left c.put_payload.ensures.hand c.put_payload.ensures.view c.in-More.ensures.hand c.in-More.ensures.view
    c.args.job.now.turns.now c.args.job.now.program.now c.requires.work

pub returns-in-More-clause-settled : goal.returns-in-More-clause-settled
returns-in-More-clause-settled g c =
    let same : c.payload.inside.0 ≡ c.args.payload = cc c.payload.view_is in
    subst (λ (word : ℕ). Settles c.args.edt c.args.slot word c.args.clerk.now c.count_down.new.clerk c.args.hand.now c.args.hand.now) same
    (settles_more c.args.clerk.now c.put_payload.new.clerk c.count_down.new.clerk c.args.edt c.args.slot c.payload.inside.0 c.in-More._left c.put_payload.ensures.hand c.put_payload.ensures.view c.in-More.ensures.hand c.in-More.ensures.view
    c.args.hand.now c.args.hand.now c.in-More.ensures.told.0 refl)

pub returns-in-Last-clause-stays : goal.returns-in-Last-clause-stays
returns-in-Last-clause-stays g c =
    stays_both c.args.clerk.now c.count_down.new.clerk c.push_ready.new.clerk
    (words_stay c.args.clerk.now c.put_payload.new.clerk c.count_down.new.clerk c.args.edt c.args.slot c.payload.inside.0 0 c.put_payload.ensures.hand c.put_payload.ensures.view c.in-Last.ensures.hand c.in-Last.ensures.view)
    c.push_ready.ensures.stays

pub push_ready-requires : goal.push_ready-requires
push_ready-requires g c =
    let work = words_work c.args.clerk.now c.put_payload.new.clerk c.count_down.new.clerk c.args.edt c.args.slot c.payload.inside.0 0 c.put_payload.ensures.hand c.put_payload.ensures.view c.in-Last.ensures.hand c.in-Last.ensures.view
    c.args.job.now.turns.now c.args.job.now.program.now c.requires.work in
    record { work = work }

pub returns-in-Last-clause-work : goal.returns-in-Last-clause-work
returns-in-Last-clause-work g c =
    let work = words_work c.args.clerk.now c.put_payload.new.clerk c.count_down.new.clerk c.args.edt c.args.slot c.payload.inside.0 0 c.put_payload.ensures.hand c.put_payload.ensures.view c.in-Last.ensures.hand c.in-Last.ensures.view
    c.args.job.now.turns.now c.args.job.now.program.now c.requires.work in
    on_ok c.push_ready.result _ _ (λ same. subst (λ (k : OcrKnown). AtWork c.args.job.now.turns.now c.args.job.now.program.now k) (sym same) work) c.push_ready.ensures.same

pub returns-in-Last-clause-settled : goal.returns-in-Last-clause-settled
returns-in-Last-clause-settled g c =
    let word : c.payload.inside.0 ≡ c.args.payload = cc c.payload.view_is in
    on_both c.push_ready.result _ _ _ (λ same pushed.
    subst (λ (k : OcrKnown). Settles c.args.edt c.args.slot c.args.payload c.args.clerk.now k c.args.hand.now c.push_ready.new.hand) (sym same)
    (subst (λ (w : ℕ). Settles c.args.edt c.args.slot w c.args.clerk.now c.count_down.new.clerk c.args.hand.now c.push_ready.new.hand) word
    (settles_last c.args.clerk.now c.put_payload.new.clerk c.count_down.new.clerk c.args.edt c.args.slot c.payload.inside.0 0 c.put_payload.ensures.hand c.put_payload.ensures.view c.in-Last.ensures.hand c.in-Last.ensures.view
    c.args.hand.now c.push_ready.new.hand refl pushed))) c.push_ready.ensures.same c.push_ready.ensures.pushed
