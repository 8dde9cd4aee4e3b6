use Rattle.std.proofs.Common.{◌≡◌, ◌∙◌, All, List, ap, arith, length, subst, sym}
use Rattle.std.proofs.lemmas.List.{length-map}
use Rattle.crossbeam_deque.specs.Handles.{stealer_deque, worker_deque}
use Rattle.ocr_steal.specs.Parts.{IsNewOwner, Name}
use Rattle.ocr_steal.specs.Pool.{AreFresh}
use Rattle.ocr_steal.proofs.Owners.{any_room}
use Rattle.ocr_steal.proofs.pool.Pool.new.Goals as goal

pub hands_of-requires-clause-owners : goal.hands_of-requires-clause-owners
hands_of-requires-clause-owners c =
    subst (λ n. All (IsNewOwner n 0) c.rows_of.new.owners.items) (sym c.in_ok-rows.ensures.kept)
    (c.in_ok-rows.ensures.owners 0 (λ k d lt. any_room 0 c.args.room _ (c.in_ok-owners.ensures.owners k d lt)))

pub returns-clause-pool : goal.returns-clause-pool
returns-clause-pool c =
    let ws = c.in_ok-owners.owners.items in
    let ss = c.in_ok-owners.stealers.items in
    let same : length ss ≡ length ws =
    sym (length-map ss (λ s. stealer_deque s)) ∙ ap (λ (l : List Name). length l) c.in_ok-owners.ensures.same ∙ length-map ws (λ w. worker_deque w) in
    omega (arith, same, c.in_ok-owners.ensures.many, c.in_ok-owners.owners.ok.0)

pub returns-clause-many : goal.returns-clause-many
returns-clause-many c = c.in_ok-hands.ensures.many ∙ c.in_ok-rows.ensures.kept ∙ c.in_ok-owners.ensures.many

pub returns-clause-hands : goal.returns-clause-hands
returns-clause-hands c =
    let ws = c.in_ok-owners.owners.items in
    subst (λ names. AreFresh names c.args.room c.in_ok-hands.hands.items) (c.in_ok-rows.ensures.same ∙ sym c.in_ok-owners.ensures.same)
    (c.in_ok-hands.ensures.hands c.args.room
    (subst (λ n. All (IsNewOwner n c.args.room) c.rows_of.new.owners.items) (sym c.in_ok-rows.ensures.kept)
    (c.in_ok-rows.ensures.owners c.args.room c.in_ok-owners.ensures.owners)))
