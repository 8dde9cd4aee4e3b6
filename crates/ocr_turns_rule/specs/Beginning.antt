-- The words of a new table.
use Rattle.std.specs.Prelude.{◌≡◌, ◌≢◌, ℕ, zero, suc, ◌+◌, ◌*◌, ◌<◌, ◌≤◌, List, [], ◌∷◌, ◌++◌, length, replicate, slice_index}
use Rattle.ocr_turns_rule.specs.Counts.{DRAW, LIVE, TURNS, READY, UNMADE, state_at, payload_at}

-- the words of so many EDTs that are not made: a state word and 32 payload words each
abbrev pub unmade_words : ℕ → List ℕ
unmade_words zero = []
unmade_words (suc n) = unmade_words n ++ UNMADE ∷ replicate 32 0

-- the words before those of EDTs: the commit word, the draw word, the live word, and behind these
-- the turn words
abbrev pub front_words : ℕ → ℕ → List ℕ
front_words drawn limit = replicate 8 0 ++ drawn ∷ (replicate 7 0 ++ 2 ∷ replicate
    (2 * limit + 8) 0)

-- Nothing is entered, as many numbers are drawn as the opening makes, each part is at home, and but
-- for the first EDT, which is ready with the payload of its slot, no EDT is made.
pub record IsLaidOut (first : ℕ × ℕ) (limit drawn : ℕ) (words : List ℕ) : Type 0 where
  pub size : length words ≡ TURNS + (2 * limit + 1) + 33 * limit
  pub commit : slice_index words 0 ≡ 0
  pub draw : slice_index words DRAW ≡ drawn
  -- the first EDT is ready, and the root has a unit to spare
  pub live : slice_index words LIVE ≡ 2
  pub turns : (p : ℕ) → p < 2 * limit + 1 → slice_index words (p + TURNS) ≡ 0
  pub first_ready : slice_index words (state_at (2 * limit + 1) first.0) ≡ READY
  pub first_payload : slice_index words (payload_at (2 * limit + 1) first.0 0) ≡ first.1
  pub unmade : (n : ℕ) → 1 ≤ n → n ≤ limit → n ≢ first.0 → slice_index words (state_at
      (2 * limit + 1) n) ≡ UNMADE
