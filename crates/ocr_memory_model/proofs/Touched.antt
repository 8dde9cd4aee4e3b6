-- What the touches of a history tell of its accesses.
use Rattle.std.proofs.Common.{◌≡◌, ◌≤◌, ◌<◌, inl, inr, ℕ, suc, [], ◌∷◌, length, Bool, true, false, if◌then◌else◌, Option, Some, None, refl, sym, ◌∙◌, subst, arith}
use Rattle.std.proofs.lemmas.Bool.{or_left, or_right}
use Rattle.ocr_machine_history.specs.declared.entry.Entry.{Entry}
use Rattle.ocr_machine_history.specs.History.{History}
use Rattle.ocr_memory_model_order.specs.Places.{is_at}
use Rattle.ocr_memory_model_order.specs.Races.{stores, loads, accesses}
use Rattle.ocr_memory_model_order.proofs.Fronts.{new_at, old_at, at_below, at_from, newest_or}
use Rattle.ocr_memory_model.specs.declared.touch.Places.{Places}
use Rattle.ocr_memory_model.specs.Touches.{touched, store_in}

-- THE LAST PLACE at which a test holds
pub record IsLast (q : History → Entry → Bool) (past : History) (n : ℕ) : Type 0 where
  pub there : is_at q past n ≡ true
  pub last : (a : ℕ) → is_at q past a ≡ true → a ≤ n

abbrev pub IsLastOr : (History → Entry → Bool) → History → Option ℕ → Type 0
IsLastOr q past None = (a : ℕ) → is_at q past a ≡ true → ⊥
IsLastOr q past (Some n) = IsLast q past n

older : (q : History → Entry → Bool) (past : History) (e : Entry) (a : ℕ) → q past e ≡ false → is_at q (e ∷ past) a ≡ true → is_at q past a ≡ true
older q past e a off h = elim (newest_or a past (at_below q (e ∷ past) a h)) [
  | inl new ↦ absurd (let on : q past e ≡ true = sym (new_at q past e) ∙ subst (λ n. is_at q (e ∷ past) n ≡ true) new h in cc (on, off))
  | inr old ↦ sym (old_at q past e a old) ∙ h
]

last_here : (q : History → Entry → Bool) (past : History) (e : Entry) → q past e ≡ true → IsLast q (e ∷ past) (length past)
last_here q past e is = record {
  there = new_at q past e ∙ is;
  last = λ a h. let low : a < suc (length past) = at_below q (e ∷ past) a h in omega (arith, low);
}

last_kept : (q : History → Entry → Bool) (past : History) (e : Entry) (n : ℕ) → q past e ≡ false → IsLast q past n → IsLast q (e ∷ past) n
last_kept q past e n off was = record {
  there = old_at q past e n (at_below q past n was.there) ∙ was.there;
  last = λ a h. was.last a (older q past e a off h);
}

or_kept : (q : History → Entry → Bool) (past : History) (e : Entry) (o : Option ℕ) → q past e ≡ false → IsLastOr q past o → IsLastOr q (e ∷ past) o
or_kept q past e None off was = λ a h. was a (older q past e a off h)
or_kept q past e (Some n) off was = last_kept q past e n off was

-- THE PLACES of an EDT at a word
abbrev pub AreLastPlaces : (d w t : ℕ) → History → Option Places → Type 0
AreLastPlaces d w t past None = (a : ℕ) → is_at (accesses d w t) past a ≡ true → ⊥
AreLastPlaces d w t past (Some p) =
    IsLast (accesses d w t) past p.last × IsLastOr (stores d w t) past p.store

pub store_accesses : (d w t : ℕ) (past : History) (a : ℕ) → is_at (stores d w t) past a ≡ true → is_at (accesses d w t) past a ≡ true
store_accesses d w t past a h =
    at_from (stores d w t) (accesses d w t) (λ past e k. or_left (stores d w t past e) (loads d w t past e) k) past a h

stores_so_far : (d w t : ℕ) (past : History) (o : Option Places) → AreLastPlaces d w t past o → IsLastOr (stores d w t) past (store_in o)
stores_so_far d w t past None none = λ a h. none a (store_accesses d w t past a h)
stores_so_far d w t past (Some p) are = are.1

places_kept : (d w t : ℕ) (past : History) (e : Entry) (o : Option Places) → stores d w t past e ≡ false → loads d w t past e ≡ false → AreLastPlaces d w t past o → AreLastPlaces d w t (e ∷ past) o
places_kept d w t past e None no_store no_load none =
    let off : accesses d w t past e ≡ false = cc (no_store, no_load) in
    λ a h. none a (older (accesses d w t) past e a off h)
places_kept d w t past e (Some p) no_store no_load are =
    let off : accesses d w t past e ≡ false = cc (no_store, no_load) in
    (last_kept (accesses d w t) past e p.last off are.0, or_kept (stores d w t) past e p.store no_store are.1)

pub places_told : (d w t : ℕ) (past : History) → AreLastPlaces d w t past (touched past d w t)
places_told d w t [] = λ a h. cc h
places_told d w t (e ∷ past) = elim (stores d w t past e) as (λ b. stores d w t past e ≡ b → AreLastPlaces d w t (e ∷ past) (if b then Some (record { last = length past; store = Some (length past) }) else if loads d w t past e then Some (record { last = length past; store = store_in (touched past d w t) }) else touched past d w t)) [
  | true ↦ λ is. (
    last_here (accesses d w t) past e (or_left (stores d w t past e) (loads d w t past e) is),
    last_here (stores d w t) past e is,
  )
  | false ↦ λ no_store. elim (loads d w t past e) as (λ b. loads d w t past e ≡ b → AreLastPlaces d w t (e ∷ past) (if b then Some (record { last = length past; store = store_in (touched past d w t) }) else touched past d w t)) [
    | true ↦ λ is. (
      last_here (accesses d w t) past e (or_right (stores d w t past e) (loads d w t past e) is),
      or_kept (stores d w t) past e (store_in (touched past d w t)) no_store
          (stores_so_far d w t past (touched past d w t) (places_told d w t past)),
    )
    | false ↦ λ no_load. places_kept d w t past e (touched past d w t) no_store no_load (places_told d w t past)
  ] refl
] refl

-- where there is an access, there is a last one
pub record IsLater (o : Option Places) (a : ℕ) (p : Places) : Type 0 where
  pub is : o ≡ Some p
  pub later : a ≤ p.last

pub later_place : (d w t : ℕ) (past : History) (o : Option Places) (a : ℕ) → AreLastPlaces d w t past o → is_at (accesses d w t) past a ≡ true → (p : Places) × IsLater o a p
later_place d w t past None a none h = absurd (none a h)
later_place d w t past (Some p) a are h = (p, record { is = refl; later = are.0.last a h })

pub record IsLaterStore (q : History → Entry → Bool) (past : History) (o : Option ℕ) (a n : ℕ) : Type 0 where
  pub is : o ≡ Some n
  pub later : a ≤ n
  pub there : is_at q past n ≡ true

pub later_store : (q : History → Entry → Bool) (past : History) (o : Option ℕ) (a : ℕ) → IsLastOr q past o → is_at q past a ≡ true → (n : ℕ) × IsLaterStore q past o a n
later_store q past None a none h = absurd (none a h)
later_store q past (Some n) a is h = (n, record { is = refl; later = is.last a h; there = is.there })
