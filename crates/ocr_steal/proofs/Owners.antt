-- Owners, and the passes that are made of them.
use Rattle.std.proofs.Common.{◌≡◌, ◌∙◌, ◌<◌, ◌+◌, ◌-◌, ℕ, suc, List, [], ◌∷◌, ◌++◌, All, length, map, set, take, get_or, sym, ap, ap₂, append_assoc, subst, arith, zero, refl}
use Rattle.std.specs.Global.{Global}
use Rattle.std.specs.List.{AllWithin}
use Rattle.std.proofs.lemmas.List.{get_or-map, get_or-set_other, get_or_append_left, length-append, length-map, map-append, take_more}
use Rattle.std.proofs.Math.Seq.{map-set_same}
use mathlib.Core.Option.{some}
use lib.ListN.{get_elem?}
use Rattle.crossbeam_deque.proofs.Lists.{at_map}
use Rattle.crossbeam_deque.specs.Handles.{IsPassOf, SameWorker, view, worker_deque, worker_index, worker_view}
use Rattle.crossbeam_deque.specs.declared.handles.Worker.{Worker}
use Rattle.ocr_steal.specs.declared.account.Account.{Account}
use Rattle.ocr_steal.specs.Deque.{all_parts, newcomer}
use Rattle.ocr_steal.specs.Parts.{IsNewOwner, IsNewPass, IsNewRow, Known, Name, OwnsItsDeque, deque_of, deques_of_owners, deques_of_passes}
use Rattle.ocr_steal.specs.Pool.{IsNew}

module _ {P : Type 0} where
  -- a pass was cut off
  abbrev pub IsCut : Worker ℕ Global Account P → Worker ℕ Global Account P → Type 0
  IsCut old new = SameWorker old new × (worker_index new ≡ worker_index old) × (worker_view new ≡ record (worker_view old) { parts = (worker_view old).parts - 1 })

  pub cut_owner : (made least : ℕ) (old new : Worker ℕ Global Account P) → 0 < (worker_view old).parts → IsCut old new → IsNewOwner made least old → IsNewOwner (made + 1) least new
  cut_owner made least old new any cut h = record {
    flavor = cut.0.1 ∙ h.flavor;
    port = cut.0.2 ∙ h.port;
    index = cut.1 ∙ h.index;
    room = omega (arith, h.room, cut.0.3);
    parts = let parts = ap (λ (v : Account). v.parts) cut.2 in omega (arith, h.parts, parts, any);
    pushed = ap (λ (v : Account). v.pushed) cut.2 ∙ h.pushed;
    taken = ap (λ (v : Account). v.taken) cut.2 ∙ h.taken;
  }

  pub any_room : (made least : ℕ) (w : Worker ℕ Global Account P) → IsNewOwner made least w → IsNewOwner made 0 w
  any_room made least w h = record {
    flavor = h.flavor;
    port = h.port;
    index = h.index;
    room = omega arith;
    parts = h.parts;
    pushed = h.pushed;
    taken = h.taken;
  }

  pub owner_at : (made least i n : ℕ) (ws : List (Worker ℕ Global Account P)) (w : Worker ℕ Global Account P) → i < n → w ≡ get_or ws i w → AllWithin (IsNewOwner made least) ws i n
      → IsNewOwner made least w
  owner_at made least i n ws w lt at all = subst (IsNewOwner made least) (sym at) (all i w (omega arith) lt)

  pub others : (made least i n : ℕ) (ws : List (Worker ℕ Global Account P)) (w : Worker ℕ Global Account P) → AllWithin (IsNewOwner made least) ws i n
      → AllWithin (IsNewOwner made least) (set ws i w) (i + 1) n
  others made least i n ws w all k d low high =
      subst (IsNewOwner made least) (sym (get_or-set_other ws i k w d (λ e. omega arith))) (all k d (omega arith) high)

  pub deques_cut : (ws : List (Worker ℕ Global Account P)) (i : ℕ) (old new : Worker ℕ Global Account P) → old ≡ get_or ws i old → worker_deque new ≡ worker_deque old
      → deques_of_owners (set ws i new) ≡ deques_of_owners ws
  deques_cut ws i old new at same = map-set_same (λ w. worker_deque w) ws i new old (same ∙ ap (λ w. worker_deque w) at)

  pub row_more : (ws : List (Worker ℕ Global Account P)) (names : List Name) (row : List Known) (i : ℕ) (w : Worker ℕ Global Account P) (p : Known) → i < length ws → w ≡ get_or ws i w
      → deques_of_owners ws ≡ names → deque_of p ≡ worker_deque w → deques_of_passes row ≡ take i names → deques_of_passes (row ++ p ∷ []) ≡ take (i + 1) names
  row_more ws names row i w p lt at same of_it are =
      let within : i < length names = omega (arith, length-map ws (λ w. worker_deque w), ap (λ (l : List Name). length l) same) in
      let name : deque_of p ≡ get_or names i (deque_of p) =
      of_it ∙ ap (λ w. worker_deque w) at ∙ sym (get_or-map (λ w. worker_deque w) ws i w (deque_of p) lt) ∙ ap (λ (l : List Name). get_or l i (deque_of p)) same in
      map-append deque_of row (p ∷ []) ∙ ap₂ (λ (l : List Name) (x : Name). l ++ x ∷ []) are name ∙ sym (take_more names i (deque_of p) within)

pub new_pass : (p : Known) (deque : Name) (v : Account) → IsPassOf deque p → view p ≡ newcomer 1 → IsNewPass p
new_pass p deque v of_it is = record {
  pass = record { hand = of_it.2; spare = of_it.3; parts = ap (λ (a : Account). a.parts) is };
  pushed = ap (λ (a : Account). a.pushed) is;
  taken = ap (λ (a : Account). a.taken) is;
}

pub name_of_pass : (p : Known) (deque : Name) → IsPassOf deque p → deque_of p ≡ deque
name_of_pass p deque of_it = ap₂ (λ a b. (a, b)) of_it.0 of_it.1

-- ---- lists that lose their last element

pub seam : {X : Type 0} (xs : List X) (y : X) (ys : List X) (d : X) → get_or (xs ++ y ∷ ys) (length xs) d ≡ y
seam [] y ys d = refl
seam (x ∷ xs) y ys d = seam xs y ys d

pub all_last : {X : Type 0} (P : X → Type 0) (xs : List X) (x : X) → All P (xs ++ x ∷ []) → P x
all_last P xs x all = subst P (seam xs x [] x) (all (length xs) x (omega (arith, length-append xs (x ∷ []))))

pub all_front : {X : Type 0} (P : X → Type 0) (xs ys : List X) → All P (xs ++ ys) → All P xs
all_front P xs ys all k d lt = subst P (get_or_append_left xs ys d k lt) (all k d (omega (arith, length-append xs ys)))

pub elem_seam : {X : Type 0} (xs : List X) (y : X) (ys : List X) → get_elem? (xs ++ y ∷ ys) (length xs) ≡ some y
elem_seam [] y ys = refl
elem_seam (x ∷ xs) y ys = elem_seam xs y ys

pub cut_last : {X : Type 0} (all some_left rest left : List X) (x : X) → all ≡ some_left ++ rest → some_left ≡ left ++ x ∷ [] → all ≡ left ++ x ∷ rest
cut_last all some_left rest left x whole last = whole ∙ ap (λ l. l ++ rest) last ∙ append_assoc left (x ∷ []) rest

pub all_middle : {X : Type 0} (Q : X → Type 0) (all left rest : List X) (x : X) → all ≡ left ++ x ∷ rest → All Q all → Q x
all_middle Q all left rest x is every =
    let every' : All Q (left ++ x ∷ rest) = subst (All Q) is every in
    subst Q (seam left x rest x) (every' (length left) x (omega (arith, length-append left (x ∷ rest))))

pub each_push : {X : Type 0} (Q : ℕ → X → Type 0) (xs : List X) (x : X) → ((k : ℕ) (d : X) → k < length xs → Q k (get_or xs k d)) → Q (length xs) x → (k : ℕ) (d : X) → k < length (xs ++ x ∷ []) → Q k (get_or (xs ++ x ∷ []) k d)
each_push Q [] x every last zero d lt = last
each_push Q [] x every last (suc k) d lt = absurd (omega arith)
each_push Q (y ∷ ys) x every last zero d lt = every zero d (omega arith)
each_push Q (y ∷ ys) x every last (suc k) d lt =
    each_push (λ j. Q (suc j)) ys x (λ j e l. every (suc j) e (omega arith)) last k d (omega arith)

pub news : (ps : List Known) → All IsNewPass ps → All IsNew (map (λ p. view p) ps)
news [] every k d lt = absurd (omega arith)
news (p ∷ ps) every zero d lt =
    let first : IsNewPass p = every zero p (omega arith) in record { pushed = first.pushed; taken = first.taken }
news (p ∷ ps) every (suc k) d lt = news ps (λ j e l. every (suc j) e (omega arith)) k d (omega arith)

module _ {P : Type 0} where
  -- the deque of the owner that stands there
  pub name_of_owner : (all left rest : List (Worker ℕ Global Account P)) (w : Worker ℕ Global Account P) (number : ℕ) → all ≡ left ++ w ∷ rest → number ≡ length left
      → get_elem? (deques_of_owners all) number ≡ some (worker_deque w)
  name_of_owner all left rest w number is at =
      at_map (λ w. worker_deque w) all number w (ap₂ (λ l n. get_elem? l n) is at ∙ elem_seam left w rest)

  pub row_length : (all : List (Worker ℕ Global Account P)) (ps : List Known) → IsNewRow (deques_of_owners all) ps → length ps ≡ length all
  row_length all ps row = sym (length-map ps deque_of) ∙ ap (λ (l : List Name). length l) row.deques ∙ length-map all (λ w. worker_deque w)

  -- a new owner and a new row are what a hand is made of
  pub new_hand : (n number : ℕ) (own : Worker ℕ Global Account P) (all left rest : List (Worker ℕ Global Account P)) (ps : List Known) → n < all_parts → length all ≡ n → all ≡ left ++ own ∷ rest → number ≡ length left
      → All (IsNewOwner n 0) all → IsNewRow (deques_of_owners all) ps → OwnsItsDeque number own ps
  new_hand n number own all left rest ps few long is at every row =
      let owner : IsNewOwner n 0 own = all_middle (IsNewOwner n 0) all left rest own is every in
      let same = row_length all ps row in
      record {
        owner = record {
          flavor = owner.flavor;
          port = owner.port;
          few = omega (arith, few, long, same);
          parts = omega (arith, owner.parts, long, same);
          index = omega (arith, owner.index);
        };
        deque = ap (λ (l : List Name). get_elem? l number) row.deques ∙ name_of_owner all left rest own number is at;
      }
