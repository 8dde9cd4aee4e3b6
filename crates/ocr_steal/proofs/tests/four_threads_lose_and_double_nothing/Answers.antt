use Rattle.std.proofs.Common.{◌≡◌, ◌∙◌, ◌<◌, ◌++◌, All, ℕ, zero, suc, List, [], ◌∷◌, ap, arith, get_or, length, subst, sym}
use Rattle.std.proofs.lemmas.List.{length-append}
use Rattle.ocr_steal.specs.declared.hand.Hand.{Hand}
use Rattle.ocr_steal.specs.declared.pool.Pool.{Pool}
use Rattle.ocr_steal.specs.declared.tests.Played.{Played}
use Rattle.ocr_steal.specs.Hand.{pool_of}
use Rattle.ocr_steal.specs.Pool.{AreAll, AreFresh, IsOfPool, deques_in, hands_in}
use Rattle.ocr_steal.proofs.Orders.{all_in_order}
use Rattle.ocr_steal.proofs.Steps.{no_items}
use Rattle.ocr_steal.proofs.tests.four_threads_lose_and_double_nothing.Goals as goal

-- four that were popped, the last first
four : (whole x3 x2 x1 x0 : List Played) (a b c d : Played) → whole ≡ x3 ++ d ∷ [] → x3 ≡ x2 ++ c ∷ [] → x2 ≡ x1 ++ b ∷ [] → x1 ≡ x0 ++ a ∷ [] → length whole ≡ 4 → whole ≡ a ∷ b ∷ c ∷ d ∷ []
four whole x3 x2 x1 x0 a b c d e3 e2 e1 e0 long =
    let is = e3 ∙ ap (λ l. l ++ d ∷ []) (e2 ∙ ap (λ l. l ++ c ∷ []) (e1 ∙ ap (λ l. l ++ b ∷ []) e0)) in
    let none : x0 ≡ [] = no_items x0 (omega (
      arith,
      long,
      ap (λ (l : List Played). length l) is,
      length-append (((x0 ++ a ∷ []) ++ b ∷ []) ++ c ∷ []) (d ∷ []),
      length-append ((x0 ++ a ∷ []) ++ b ∷ []) (c ∷ []),
      length-append (x0 ++ a ∷ []) (b ∷ []),
      length-append x0 (a ∷ []),
    )) in
    is ∙ ap (λ x. (((x ++ a ∷ []) ++ b ∷ []) ++ c ∷ []) ++ d ∷ []) none

abbrev IsKept : Pool → ℕ → Hand → Type 0
IsKept pool number h = (h.number ≡ number) × IsOfPool pool h

all_four : (pool : Pool) (a b c d : Hand) → hands_in pool ≡ 4 → IsKept pool 0 a → IsKept pool 1 b → IsKept pool 2 c → IsKept pool 3 d → AreAll pool (a ∷ b ∷ c ∷ d ∷ [])
all_four pool a b c d many ha hb hc hd = all_in_order pool (a ∷ b ∷ c ∷ d ∷ []) (omega (arith, many)) each number
  where
    each : All (IsOfPool pool) (a ∷ b ∷ c ∷ d ∷ [])
    each zero e lt = ha.1
    each (suc zero) e lt = hb.1
    each (suc (suc zero)) e lt = hc.1
    each (suc (suc (suc zero))) e lt = hd.1
    each (suc (suc (suc (suc k)))) e lt = absurd (omega arith)

    number : (k : ℕ) (e : Hand) → k < length (a ∷ b ∷ c ∷ d ∷ []) → (get_or (a ∷ b ∷ c ∷ d ∷ []) k e).number ≡ k
    number zero e lt = ha.0
    number (suc zero) e lt = hb.0
    number (suc (suc zero)) e lt = hc.0
    number (suc (suc (suc zero))) e lt = hd.0
    number (suc (suc (suc (suc k)))) e lt = absurd (omega arith)

-- what is kept of a hand that played at this place
kept : (pool : Pool) (hands : List Hand) (played : List Played) (k : ℕ) (p : Played) (h : Hand) → AreFresh (deques_in pool) 8 hands → k < length hands
    → ((k : ℕ) (p : Played) (h : Hand) → k < length hands → ((get_or played k p).hand.number ≡ (get_or hands k h).number) × IsOfPool pool (get_or played k p).hand)
    → (h.number ≡ (get_or played k p).hand.number) × (pool_of h ≡ pool_of (get_or played k p).hand) → IsKept pool k h
kept pool hands played k p h fresh lt was same =
    let one = was k p h lt in
    (same.0 ∙ one.0 ∙ (fresh k h lt).number_is, same.1 ∙ one.1)

pub gather-requires : goal.gather-requires
gather-requires g c =
    let w = c.in-Some-Some-Some-Some in
    let pool = c.in-Ok.pool in
    let hands = c.in-Ok.hands.items in
    let many : length hands ≡ 4 = omega (arith, c.in-Ok.ensures.many, c.in-Ok.hands.ok.0) in
    let is = four c.in_ok-played.played.items c.pop.new.self.items c.pop-2.new.self.items c.pop-3.new.self.items c.pop-4.new.self.items w.a w.b w.c w.d w.ensures.items w.ensures'.items w.ensures''.items w.ensures'''.items
    (omega (arith, c.in_ok-played.ensures.many, c.in_ok-played.played.ok.0, c.in-Ok.ensures.many)) in
    let was = subst (λ l. (k : ℕ) (p : Played) (h : Hand) → k < length hands → ((get_or l k p).hand.number ≡ (get_or hands k h).number) × IsOfPool pool (get_or l k p).hand) is c.in_ok-played.ensures.hands in
    let fresh = c.in-Ok.ensures.hands in
    let row : List Played = w.a ∷ w.b ∷ w.c ∷ w.d ∷ [] in
    subst (AreAll pool) (sym c.in_ok-vec.ensures.items)
    (all_four pool c.in_ok-a.a c.in_ok-b.b c.in_ok-c.c c.in_ok-d.d c.in-Ok.ensures.pool
    (kept pool hands row 0 w.a c.in_ok-a.a fresh (omega (arith, many)) was c.in_ok-a.ensures)
    (kept pool hands row 1 w.b c.in_ok-b.b fresh (omega (arith, many)) was c.in_ok-b.ensures)
    (kept pool hands row 2 w.c c.in_ok-c.c fresh (omega (arith, many)) was c.in_ok-c.ensures)
    (kept pool hands row 3 w.d c.in_ok-d.d fresh (omega (arith, many)) was c.in_ok-d.ensures))
