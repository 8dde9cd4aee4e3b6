-- RACES: two entered accesses to a word, of two EDTs, one of them a store, of which neither happens
-- before the other.
use Rattle.std.specs.Prelude.{◌≡◌, ◌≤◌, ◌<◌, ℕ, Bool, true, false, ◌||◌, ◌&&◌, ◌==◌}
use Rattle.ocr_body_meaning.specs.Holds.{is_done}
use Rattle.ocr_body_meaning.specs.declared.call.Call as body
use Rattle.ocr_body_meaning.specs.declared.call.Call.TheVariants as call
use Rattle.ocr_machine_history.specs.declared.entry.Entry.{Entry}
use Rattle.ocr_machine_history.specs.declared.entry.Entry.TheVariants.{Call}
use Rattle.ocr_machine_history.specs.History.{History, Setting}
use Rattle.ocr_machine_parts.specs.Legal.{IsRun}
use Rattle.ocr_memory_model_order.specs.Pairs.{HappensBefore}
use Rattle.ocr_memory_model_order.specs.Places.{is_at}

abbrev pub is_store_in : body.Call → ℕ → ℕ → Bool
is_store_in (call.Store b k v) d w = (b == d) && (k == w)
is_store_in other d w = false

abbrev pub is_load_in : body.Call → ℕ → ℕ → Bool
is_load_in (call.Load b k) d w = (b == d) && (k == w)
is_load_in other d w = false

-- the EDT stores the word of the block, or loads it
abbrev pub stores : (d w t : ℕ) → History → Entry → Bool
stores d w t past (Call u home c a writes) =
    (u == t) && (is_done a.code && is_store_in c d w)
stores d w t past other = false

abbrev pub loads : (d w t : ℕ) → History → Entry → Bool
loads d w t past (Call u home c a writes) =
    (u == t) && (is_done a.code && is_load_in c d w)
loads d w t past other = false

abbrev pub accesses : (d w t : ℕ) → History → Entry → Bool
accesses d w t past e = stores d w t past e || loads d w t past e

-- two places that are not ordered
pub record AreUnordered (s : Setting) (J : History) (a b : ℕ) : Type 0 where
  pub not_before : HappensBefore s J a b → ⊥
  pub not_after : HappensBefore s J b a → ⊥

pub record AreRacing (s : Setting) (J : History) (d w t u a b : ℕ) : Type 0 where
  pub one : is_at (accesses d w t) J a ≡ true
  pub other : is_at (accesses d w u) J b ≡ true
  pub store : (is_at (stores d w t) J a || is_at (stores d w u) J b) ≡ true
  pub unordered : AreUnordered s J a b

-- a race of the lesser EDT with the greater
abbrev pub IsRace : Setting → History → (d w t u : ℕ) → Type 0
IsRace s J d w t u = (t < u) × ((a : ℕ) × (b : ℕ) × AreRacing s J d w t u a b)

-- a call of the EDT
abbrev pub calls : ℕ → History → Entry → Bool
calls t past (Call u home c a writes) = u == t
calls t past other = false

-- THE LAW: where two calls of two EDTs are not ordered, later ones are not. So the last accesses of
-- each EDT tell its races
abbrev pub LaterLaw : Type 0
LaterLaw = (s : Setting) (J : History) (t u x y later_x later_y : ℕ) → IsRun s J
    → (t == u) ≡ false → x ≤ later_x → y ≤ later_y → is_at (calls t) J x ≡ true
    → is_at (calls t) J later_x ≡ true → is_at (calls u) J y ≡ true
    → is_at (calls u) J later_y ≡ true → AreUnordered s J x y
    → AreUnordered s J later_x later_y
