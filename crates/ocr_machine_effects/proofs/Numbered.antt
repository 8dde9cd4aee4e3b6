-- All parts, each with its number.
use Rattle.std.proofs.Common.{◌≡◌, ℕ, zero, suc, ◌+◌, ◌<◌, ◌≤◌, List, [], ◌∷◌, length, slice_index_or, slice_set, true, false, ◌==◌, if◌then◌else◌, arith, refl, sym, ◌∙◌, ap, subst}
use Rattle.std.proofs.lemmas.Grind.{common_steps}
use Rattle.std.proofs.lemmas.List.{set_past}
use Rattle.ocr_machine_history.specs.declared.entry.Entry.{Entry}
use Rattle.ocr_machine_parts.specs.declared.part.Part.{Part}
use Rattle.ocr_machine_parts.specs.declared.part.Part.TheVariants as part
use Rattle.ocr_machine_parts.specs.Footprint.{Covers, is_touched}
use Rattle.ocr_machine_parts.specs.Parts.{Parts}
use Rattle.ocr_machine_parts.specs.Taken.{look, has, put, keys, as_face, as_core, is_within, parts_in, place_of, ArePlaced}
use Rattle.ocr_machine_codes.specs.Lookup.{part_at}
use Rattle.ocr_machine_effects.specs.All.{all_parts, AreAllPlaced}
use Rattle.ocr_machine_effects.specs.AtHand.{AtHand, state, numbered, all_of, Becomes}
use Rattle.ocr_machine_effects.proofs.Places.{parts_by}

same_number : (k i : ℕ) → (k == (k + suc i)) ≡ false
same_number k i = grind (arith, common_steps)

here : (k : ℕ) → (k == (k + 0)) ≡ true
here k = grind (arith, common_steps)

further : (k i : ℕ) → k + suc i ≡ (k + 1) + i
further k i = omega arith

look_from : (ps : List Part) (k i : ℕ) → look (numbered k ps) (k + i) ≡ part_at ps i
look_from [] k zero = refl
look_from [] k (suc i) = refl
look_from (p ∷ rest) k zero = rw (here k) refl
look_from (p ∷ rest) k (suc i) = rw (same_number k i, further k i) (look_from rest (k + 1) i)

from_zero : (n : ℕ) → 0 + n ≡ n
from_zero n = omega arith

pub look_numbered : (ps : List Part) (n : ℕ) → look (numbered 0 ps) n ≡ part_at ps n
look_numbered ps n = subst (λ (m : ℕ). look (numbered 0 ps) m ≡ part_at ps n) (from_zero n) (look_from ps 0 n)

same_part : (ps : List Part) (n : ℕ) (x : Part) → n < length ps → x ≡ slice_index_or ps n x → part_at ps n ≡ x
same_part ps n x below is = grind (arith, common_steps)

put_from : (ps : List Part) (k i : ℕ) (x : Part) → put (numbered k ps) (k + i) x ≡ numbered k (slice_set ps i x)
put_from [] k zero x = refl
put_from [] k (suc i) x = refl
put_from (p ∷ rest) k zero x = rw (here k) refl
put_from (p ∷ rest) k (suc i) x = rw (same_number k i, further k i) (ap (λ (ps : List (ℕ × Part)). (k, p) ∷ ps) (put_from rest (k + 1) i x))

pub put_numbered : (ps : List Part) (n : ℕ) (x : Part) → put (numbered 0 ps) n x ≡ numbered 0 (slice_set ps n x)
put_numbered ps n x = subst (λ (m : ℕ). put (numbered 0 ps) m x ≡ numbered 0 (slice_set ps n x)) (from_zero n) (put_from ps 0 n x)

-- a number past all of them
past_at : (ps : List Part) (n : ℕ) → length ps ≤ n → part_at ps n ≡ part.Vacant
past_at ps n past = grind (arith, common_steps)

pub look_past : (ps : List Part) (n : ℕ) → length ps ≤ n → look (numbered 0 ps) n ≡ part.Vacant
look_past ps n past = look_numbered ps n ∙ past_at ps n past

pub put_past : (ps : List Part) (n : ℕ) (x : Part) → length ps ≤ n → put (numbered 0 ps) n x ≡ numbered 0 ps
put_past ps n x past = put_numbered ps n x ∙ ap (numbered 0) (set_past ps n x past)

-- and one of them
pub look_at : (ps : List Part) (n : ℕ) (x : Part) → n < length ps → x ≡ slice_index_or ps n x → look (numbered 0 ps) n ≡ x
look_at ps n x below is = look_numbered ps n ∙ same_part ps n x below is

has_from : (ps : List Part) (k i : ℕ) → i < length ps → has (numbered k ps) (k + i) ≡ true
has_from [] k i below = absurd (omega arith)
has_from (p ∷ rest) k zero below = rw (here k) refl
has_from (p ∷ rest) k (suc i) below = rw (same_number k i, further k i) (has_from rest (k + 1) i (omega arith))

pub has_numbered : (ps : List Part) (n : ℕ) → n < length ps → has (numbered 0 ps) n ≡ true
has_numbered ps n below = subst (λ (m : ℕ). has (numbered 0 ps) m ≡ true) (from_zero n) (has_from ps 0 n below)

keys_length : (ps : List Part) (k : ℕ) → length (keys (numbered k ps)) ≡ length ps
keys_length [] k = refl
keys_length (p ∷ rest) k = ap suc (keys_length rest (k + 1))

pub same_length : (ps qs : List Part) → keys (numbered 0 ps) ≡ keys (numbered 0 qs) → length ps ≡ length qs
same_length ps qs is = sym (keys_length ps 0) ∙ ap (λ (ns : List ℕ). length ns) is ∙ keys_length qs 0

-- the state is the same, told by numbers or by places
pub same_parts : (limit : ℕ) (at other : ℕ → Part) → ((n : ℕ) → at n ≡ other n) → parts_by limit at ≡ parts_by limit other
same_parts limit at other is = λ i. record {
  face = λ g. ap (λ (x : Part). if is_within limit g then as_face x else part.Vacant) (is g) i;
  core = λ t. ap (λ (x : Part). if is_within limit t then as_core x else part.Vacant) (is (limit + t)) i;
}

pub all_numbered : (limit : ℕ) (ps : List Part) → parts_in limit (numbered 0 ps) ≡ all_parts limit ps
all_numbered limit ps = same_parts limit (look (numbered 0 ps)) (part_at ps) (look_numbered ps)

placed_by : (limit : ℕ) (ps : List Part) → AreAllPlaced limit ps → ArePlaced limit (numbered 0 ps)
placed_by limit ps are n = look_numbered ps n ∙ are n ∙ ap (λ (f : Parts). place_of limit f n) (sym (all_numbered limit ps))

placed_at : (limit : ℕ) (ps : List Part) → ArePlaced limit (numbered 0 ps) → AreAllPlaced limit ps
placed_at limit ps are n = sym (look_numbered ps n) ∙ are n ∙ ap (λ (f : Parts). place_of limit f n) (all_numbered limit ps)

-- each number that an entry names is among all of them
touched : (limit : ℕ) (e : Entry) (n : ℕ) → is_touched limit e n ≡ true → n ≤ limit + limit
touched limit e n on = grind (arith, common_steps)

pub all_cover : (limit : ℕ) (e : Entry) (ps : List Part) → limit + limit < length ps → Covers limit e (numbered 0 ps)
all_cover limit e ps all n on =
    let most : n ≤ limit + limit = touched limit e n on in
    has_numbered ps n (omega arith)

-- WHAT A STEP LEAVES of all parts
pub all_stepped : (limit : ℕ) (ps out : List Part) (h k : AtHand) (step : Parts → Parts) → h ≡ all_of limit ps → Becomes h k (step (state h)) → numbered 0 out ≡ k.items
    → all_parts limit out ≡ step (all_parts limit ps)
all_stepped limit ps out h k step is one same =
    sym (all_numbered limit out) ∙ rw same (ap (λ (n : ℕ). parts_in n k.items) (sym (one.limit ∙ ap (λ (l : AtHand). l.limit) is)))
    ∙ one.state ∙ ap (λ (l : AtHand). step (state l)) is ∙ ap step (all_numbered limit ps)

pub all_kept : (limit : ℕ) (ps out : List Part) (h k : AtHand) (f : Parts) → h ≡ all_of limit ps → Becomes h k f → numbered 0 out ≡ k.items → length out ≡ length ps
all_kept limit ps out h k f is one same =
    same_length out ps (ap (λ (xs : List (ℕ × Part)). keys xs) same ∙ one.keys ∙ ap (λ (l : AtHand). keys l.items) is)

pub all_placed : (limit : ℕ) (ps out : List Part) (h k : AtHand) (f : Parts) → h ≡ all_of limit ps → Becomes h k f → numbered 0 out ≡ k.items
    → AreAllPlaced limit ps → AreAllPlaced limit out
all_placed limit ps out h k f is one same are =
    placed_at limit out (rw same (subst (λ (n : ℕ). ArePlaced n k.items) (one.limit ∙ ap (λ (l : AtHand). l.limit) is) (one.placed (rw is (placed_by limit ps are)))))
