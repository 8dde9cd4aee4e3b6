use Rattle.std.proofs.Common.{◌≡◌, ◌+◌, ◌<◌, ℕ, if◌then◌else◌, ap, ◌∙◌, arith, take, get_or, length, List}
use Rattle.std.specs.Prelude.{leb}
use Rattle.std.proofs.lemmas.Bool.{le-leb, lt-leb}
use Rattle.std.proofs.lemmas.List.{take_more}
use Rattle.ocr_turns_rule.specs.Contract.{faces}
use Rattle.ocr_turns_rule.proofs.Totals.{weigh_snoc}
use Rattle.ocr_turns.proofs.opening.face_count.Goals.{then-opening-i, else-opening-i}
use Rattle.ocr_turns.proofs.opening.face_count.Goals as goal

-- one more part
faces_more : {P : Type 0} (limit : ℕ) (ps : List (ℕ × P)) (i : ℕ) (x : ℕ × P) → i < length ps → faces limit (take (i + 1) ps) ≡ faces limit (take i ps) + (if leb (get_or ps i x).0 limit then 1 else 0)
faces_more limit ps i x lt =
    ap (faces limit) (take_more ps i x lt) ∙ weigh_snoc (λ p. if leb p limit then 1 else 0) (take i ps) (get_or ps i x).0 (get_or ps i x).1

pub loop-i-preserved : goal.loop-i-preserved
loop-i-preserved g c =
    let old = c.loop-i.invariant in let x = get_or c.args.opening.now c.loop-i.i c.index-opening-i.result in
    let more = faces_more c.args.limit c.args.opening.now c.loop-i.i c.index-opening-i.result c.loop-i-test.true in
    elim c.if-opening-i.branch [
      | then-opening-i w ↦ let one : ◌≡◌ {A = ℕ} (if leb x.0 c.args.limit then 1 else 0) 1 = ap (λ b. if b then 1 else 0) (le-leb x.0 c.args.limit w.if-opening-i.true) in let is = w.count-is in (omega arith, omega arith)
      | else-opening-i w ↦ let none : ◌≡◌ {A = ℕ} (if leb x.0 c.args.limit then 1 else 0) 0 = ap (λ b. if b then 1 else 0) (lt-leb x.0 c.args.limit w.if-opening-i.false) in let is = w.count-is in (omega arith, omega arith)
    ]
