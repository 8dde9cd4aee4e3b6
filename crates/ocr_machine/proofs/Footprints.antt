-- What an entry names is in its footprint, whose numbers are those of parts.
use Rattle.std.proofs.Common.{◌≡◌, inl, inr, ℕ, zero, suc, ◌+◌, ◌-◌, ◌<◌, ◌≤◌, List, [], ◌∷◌, length, slice_index_or, Bool, true, false, ◌==◌, ◌||◌, ◌&&◌, nat_lt, if◌then◌else◌, arith, refl, sym, ◌∙◌, ap, subst}
use Rattle.std.proofs.lemmas.Grind.{common_steps}
use Rattle.std.proofs.lemmas.Bool.{eqb-true, and_parts, or_cases}
use Rattle.std.specs.List.{All}
use Rattle.std.proofs.Math.Bool.{or-true}
use Rattle.ocr_machine_history.specs.Made.{names_new}
use Rattle.ocr_machine_history.specs.Numbers.{is_in, placed}
use Rattle.ocr_machine_history.specs.declared.entry.Entry.{Entry}
use Rattle.ocr_machine_history.specs.declared.entry.Entry.TheVariants.{Call, Deliver, Acquire, Wait, StaleAcquire, Start, Free, End}
use Rattle.ocr_machine_history.specs.declared.entry.What.{What}
use Rattle.ocr_machine_history.specs.declared.entry.What.TheVariants as what
use Rattle.ocr_body_meaning.specs.Call.{is_creation}
use Rattle.ocr_body_meaning.specs.Holds.{is_done}
use Rattle.ocr_body_meaning.specs.declared.call.Call as body
use Rattle.ocr_body_meaning.specs.declared.call.Call.TheVariants as call
use Rattle.ocr_body_meaning.specs.declared.call.Answer.{Answer}
use Rattle.ocr_machine_parts.specs.Codes.{Sort, wanted}
use Rattle.ocr_machine_parts.specs.Effects.{joins}
use Rattle.ocr_machine_parts.specs.Footprint.{is_wanted, names_face, names_beside, is_brought_to, on_face, makes_core, on_core_of, and_face, and_core, and_wanted, and_made, and_beside, call_footprint, message_footprint, footprint_of, is_touched, Covers}
use Rattle.ocr_machine_parts.specs.LegalOn.{IsAnswered, IsCallOn, IsFresh, IsNamed, last_of}
use Rattle.ocr_machine_parts.specs.Parts.{Parts}
use Rattle.ocr_machine_parts.specs.Taken.{is_within, keys}
use Rattle.ocr_machine_parts.specs.declared.part.Part.{Part}
use Rattle.ocr_machine_parts.proofs.Beside.{beside_is}
use Rattle.ocr_machine_parts.proofs.Fresh.{number_named}
use Rattle.ocr_machine_parts.proofs.Local.{call_named, named_self}
use Rattle.ocr_machine_effects.specs.AtHand.{AtHand, state, HasMade, HasNamed}
use Rattle.ocr_machine_effects.proofs.Places.{has_keys, no_face, back_again, core_number}
use Rattle.ocr_base.proofs.Booleans.{same}

or_swap : (a b c : Bool) → (a || (b || c)) ≡ (b || (a || c))
or_swap true true c = refl
or_swap true false c = refl
or_swap false true c = refl
or_swap false false c = refl

or_twice : (a b : Bool) → (a || b) ≡ (a || (a || b))
or_twice true b = refl
or_twice false b = refl

-- a number that was placed is in, and so are the others
pub in_placed : (n m : ℕ) (xs : List ℕ) → is_in n (placed m xs) ≡ ((m == n) || is_in n xs)
in_placed n m [] = refl
in_placed n m (x ∷ rest) = elim (nat_lt m x) as (λ b. is_in n (if b then m ∷ x ∷ rest else if m == x then x ∷ rest else x ∷ placed m rest) ≡ ((m == n) || ((x == n) || is_in n rest))) [
  | true ↦ refl
  | false ↦ elim (m == x) as (λ b. (m == x) ≡ b → is_in n (if b then x ∷ rest else x ∷ placed m rest) ≡ ((m == n) || ((x == n) || is_in n rest))) [
    | true ↦ λ same. rw (eqb-true m x same) (or_twice (x == n) (is_in n rest))
    | false ↦ λ _. ap (λ (b : Bool). (x == n) || b) (in_placed n m rest) ∙ or_swap (x == n) (m == n) (is_in n rest)
  ] refl
]

-- what is named is in, and what was in stays
pub face_in_it : (limit g : ℕ) (xs : List ℕ) → is_within limit g ≡ true → is_in g (and_face limit g xs) ≡ true
face_in_it limit g xs within = rw (within, in_placed g g xs, same g) refl

pub core_in_it : (limit t : ℕ) (xs : List ℕ) → is_within limit t ≡ true → is_in (limit + t) (and_core limit t xs) ≡ true
core_in_it limit t xs within = rw (within, in_placed (limit + t) (limit + t) xs, same (limit + t)) refl

pub stays_face : (limit g n : ℕ) (xs : List ℕ) → is_in n xs ≡ true → is_in n (and_face limit g xs) ≡ true
stays_face limit g n xs is = elim (is_within limit g) as (λ b. is_in n (if b then placed g xs else xs) ≡ true) [
  | true ↦ rw (in_placed n g xs, is) (or-true (g == n))
  | false ↦ is
]

pub stays_core : (limit t n : ℕ) (xs : List ℕ) → is_in n xs ≡ true → is_in n (and_core limit t xs) ≡ true
stays_core limit t n xs is = elim (is_within limit t) as (λ b. is_in n (if b then placed (limit + t) xs else xs) ≡ true) [
  | true ↦ rw (in_placed n (limit + t) xs, is) (or-true ((limit + t) == n))
  | false ↦ is
]

face_named : (limit n g : ℕ) (xs : List ℕ) → (n == g) ≡ true → is_within limit g ≡ true → is_in g (and_face limit n xs) ≡ true
face_named limit n g xs is within = subst (λ (k : ℕ). is_in g (and_face limit k xs) ≡ true) (sym (eqb-true n g is)) (face_in_it limit g xs within)

core_named : (limit n u : ℕ) (xs : List ℕ) → (n == u) ≡ true → is_within limit u ≡ true → is_in (limit + u) (and_core limit n xs) ≡ true
core_named limit n u xs is within = subst (λ (k : ℕ). is_in (limit + u) (and_core limit k xs) ≡ true) (sym (eqb-true n u is)) (core_in_it limit u xs within)

wanted_stays : (limit : ℕ) (ws : List (ℕ × Sort)) (xs : List ℕ) (n : ℕ) → is_in n xs ≡ true → is_in n (and_wanted limit ws xs) ≡ true
wanted_stays limit [] xs n is = is
wanted_stays limit (one ∷ rest) xs n is = stays_face limit one.0 n _ (wanted_stays limit rest xs n is)

wanted_face : (limit : ℕ) (ws : List (ℕ × Sort)) (xs : List ℕ) (g : ℕ) → is_wanted g ws ≡ true → is_within limit g ≡ true → is_in g (and_wanted limit ws xs) ≡ true
wanted_face limit [] xs g on within = cc on
wanted_face limit (one ∷ rest) xs g on within = elim (or_cases (one.0 == g) (is_wanted g rest) on) [
  | inl is ↦ face_named limit one.0 g _ is within
  | inr is ↦ stays_face limit one.0 g _ (wanted_face limit rest xs g is within)
]

cores_stay : (limit : ℕ) (c : body.Call) (a : Answer) (xs : List ℕ) (n : ℕ) → is_in n xs ≡ true → is_in n (if makes_core c then and_core limit a.value xs else xs) ≡ true
cores_stay limit c a xs n is = elim (makes_core c) as (λ b. is_in n (if b then and_core limit a.value xs else xs) ≡ true) [
  | true ↦ stays_core limit a.value n xs is
  | false ↦ is
]

made_stays : (limit : ℕ) (c : body.Call) (a : Answer) (xs : List ℕ) (n : ℕ) → is_in n xs ≡ true → is_in n (and_made limit c a xs) ≡ true
made_stays limit c a xs n is = elim (is_creation c) as (λ b. is_in n (if b then and_face limit a.value (if makes_core c then and_core limit a.value xs else xs) else xs) ≡ true) [
  | true ↦ stays_face limit a.value n _ (cores_stay limit c a xs n is)
  | false ↦ is
]

made_face : (limit : ℕ) (c : body.Call) (a : Answer) (xs : List ℕ) (g : ℕ) → is_creation c ≡ true → (a.value == g) ≡ true → is_within limit g ≡ true → is_in g (and_made limit c a xs) ≡ true
made_face limit c a xs g creates is within = rw creates (face_named limit a.value g _ is within)

core_creates : (c : body.Call) → makes_core c ≡ true → is_creation c ≡ true
core_creates (call.EdtCreate from pc ps dc ds fl o) is = refl
core_creates other is = cc is

made_core : (limit : ℕ) (c : body.Call) (a : Answer) (xs : List ℕ) (u : ℕ) → makes_core c ≡ true → (a.value == u) ≡ true → is_within limit u ≡ true → is_in (limit + u) (and_made limit c a xs) ≡ true
made_core limit c a xs u makes is within = rw (core_creates c makes, makes) (stays_face limit a.value (limit + u) _ (core_named limit a.value u xs is within))

call_face : (limit : ℕ) (c : body.Call) (a : Answer) (xs : List ℕ) (g : ℕ) → names_face c a g ≡ true → is_within limit g ≡ true → is_in g (call_footprint limit c a xs) ≡ true
call_face limit c a xs g on within = elim (or_cases (is_wanted g (wanted c)) (is_creation c && (a.value == g)) on) [
  | inl is ↦ wanted_face limit (wanted c) _ g is within
  | inr is ↦ wanted_stays limit (wanted c) _ g (let two = and_parts (is_creation c) (a.value == g) is in made_face limit c a xs g two.0 two.1 within)
]

call_core : (limit : ℕ) (t : ℕ) (c : body.Call) (a : Answer) (u : ℕ) → ((t == u) || (makes_core c && (a.value == u))) ≡ true → is_within limit u ≡ true
    → is_in (limit + u) (call_footprint limit c a (and_core limit t [])) ≡ true
call_core limit t c a u on within = wanted_stays limit (wanted c) _ (limit + u) (elim (or_cases (t == u) (makes_core c && (a.value == u)) on) [
  | inl is ↦ made_stays limit c a _ (limit + u) (core_named limit t u [] is within)
  | inr is ↦ let two = and_parts (makes_core c) (a.value == u) is in made_core limit c a _ u two.0 two.1 within
])

-- those of what is made beside an EDT, and of the home that it joins
some_face : (limit n g : ℕ) (xs : List ℕ) → names_new n g ≡ true → is_within limit g ≡ true → is_in g (and_face limit n xs) ≡ true
some_face limit n g xs on within = subst (λ (k : ℕ). is_in g (and_face limit k xs) ≡ true) (sym (number_named n g on)) (face_in_it limit g xs within)

beside_stays : (limit home : ℕ) (c : body.Call) (a : Answer) (xs : List ℕ) (n : ℕ) → is_in n xs ≡ true → is_in n (and_beside limit home c a xs) ≡ true
beside_stays limit home (call.EdtCreate from pc ps dc ds fl o) a xs n is = stays_face limit home n _ (stays_face limit a.scope n _ (stays_face limit a.output n xs is))
beside_stays limit home other a xs n is = is

beside_face : (limit home : ℕ) (c : body.Call) (a : Answer) (xs : List ℕ) (g : ℕ) → (joins c home g || names_beside c a g) ≡ true → is_within limit g ≡ true → is_in g (and_beside limit home c a xs) ≡ true
beside_face limit home (call.EdtCreate from pc ps dc ds fl o) a xs g on within = elim (or_cases (names_new home g) (names_new a.scope g || names_new a.output g) on) [
  | inl is ↦ some_face limit home g _ is within
  | inr more ↦ stays_face limit home g _ (elim (or_cases (names_new a.scope g) (names_new a.output g) more) [
    | inl is ↦ some_face limit a.scope g _ is within
    | inr is ↦ stays_face limit a.scope g _ (some_face limit a.output g xs is within)
  ])
]
beside_face limit home other a xs g on within = cc on

pair_face : (limit t d : ℕ) (xs : List ℕ) (g : ℕ) → ((t == g) || (d == g)) ≡ true → is_within limit g ≡ true → is_in g (and_face limit t (and_face limit d xs)) ≡ true
pair_face limit t d xs g on within = elim (or_cases (t == g) (d == g) on) [
  | inl is ↦ face_named limit t g _ is within
  | inr is ↦ stays_face limit t g _ (face_named limit d g xs is within)
]

pair_core : (limit t d u : ℕ) → (t == u) ≡ true → is_within limit u ≡ true → is_in (limit + u) (and_face limit t (and_face limit d (and_core limit t []))) ≡ true
pair_core limit t d u on within = stays_face limit t (limit + u) _ (stays_face limit d (limit + u) _ (core_named limit t u [] on within))

message_face : (limit : ℕ) (m : What) (g : ℕ) → is_brought_to m g ≡ true → is_within limit g ≡ true → is_in g (message_footprint limit m) ≡ true
message_face limit (what.Satisfy e slot p) g on within = face_named limit e g [] on within
message_face limit (what.Leave x) g on within = face_named limit x g [] on within
message_face limit other g on within = cc on

pub named_face : (limit : ℕ) (e : Entry) (g : ℕ) → on_face e g ≡ true → is_within limit g ≡ true → is_in g (footprint_of limit e) ≡ true
named_face limit (Call t home c a w) g on within = elim (or_cases (joins c home g || names_beside c a g) (names_face c a g) on) [
  | inl is ↦ beside_face limit home c a _ g is within
  | inr is ↦ beside_stays limit home c a _ g (call_face limit c a _ g is within)
]
named_face limit (Deliver m c) g on within = message_face limit m.what g on within
named_face limit (Acquire t d) g on within = pair_face limit t d _ g on within
named_face limit (Wait t d) g on within = pair_face limit t d _ g on within
named_face limit (StaleAcquire t d) g on within = pair_face limit t d _ g on within
named_face limit (Start t) g on within = face_named limit t g _ on within
named_face limit (Free t d w) g on within = face_named limit d g _ on within
named_face limit (End t returned) g on within = face_named limit returned g _ on within
named_face limit other g on within = cc on

pub named_core : (limit : ℕ) (e : Entry) (u : ℕ) → on_core_of e u ≡ true → is_within limit u ≡ true → is_in (limit + u) (footprint_of limit e) ≡ true
named_core limit (Call t home c a w) u on within = beside_stays limit home c a _ (limit + u) (call_core limit t c a u on within)
named_core limit (Acquire t d) u on within = pair_core limit t d u on within
named_core limit (Wait t d) u on within = pair_core limit t d u on within
named_core limit (StaleAcquire t d) u on within = pair_core limit t d u on within
named_core limit (Start t) u on within = stays_face limit t (limit + u) _ (core_named limit t u [] on within)
named_core limit (Free t d w) u on within = stays_face limit d (limit + u) _ (core_named limit t u [] on within)
named_core limit (End t returned) u on within = stays_face limit returned (limit + u) _ (core_named limit t u [] on within)
named_core limit other u on within = cc on

-- THE FOOTPRINT covers the entry
touched_named : (limit : ℕ) (e : Entry) (n : ℕ) → is_touched limit e n ≡ true → is_in n (footprint_of limit e) ≡ true
touched_named limit e n is = elim (is_within limit n) as (λ b. is_within limit n ≡ b → (if b then on_face e n else is_within limit (n - limit) && on_core_of e (n - limit)) ≡ true → is_in n (footprint_of limit e) ≡ true) [
  | true ↦ λ within on. named_face limit e n on within
  | false ↦ λ _ on.
      let two = and_parts (is_within limit (n - limit)) (on_core_of e (n - limit)) on in
      subst (λ (k : ℕ). is_in k (footprint_of limit e) ≡ true) (core_number limit n two.0) (named_core limit e (n - limit) two.1 two.0)
] refl is

pub footprint_covers : (limit : ℕ) (e : Entry) (ps : List (ℕ × Part)) → keys ps ≡ footprint_of limit e → Covers limit e ps
footprint_covers limit e ps are n is = has_keys ps n ∙ ap (is_in n) are ∙ touched_named limit e n is

-- THE PARTS of what an accepted call makes are among those that cover it
within_fresh : (limit : ℕ) (f : Parts) (g : ℕ) → IsFresh limit f g → is_within limit g ≡ true
within_fresh limit f g fresh = let some : 1 ≤ g = fresh.some in let most : g ≤ limit = fresh.within in grind (arith, common_steps)

named : (limit : ℕ) (f : Parts) (t : ℕ) (c : body.Call) (a : Answer) → IsAnswered limit f t c a → is_creation c ≡ true → IsNamed limit f a
named limit f t (call.TemplateCreate function pc dc) a is creates = is
named limit f t (call.DbCreate n fl) a is creates = is
named limit f t (call.EdtCreate from pc ps dc ds fl o) a is creates = is.named
named limit f t (call.EventCreate kind fl) a is creates = is
named limit f t (call.EventCreateParams kind fl m n o) a is creates = is
named limit f t other a is creates = cc creates

touched_face : (limit : ℕ) (e : Entry) (g : ℕ) → is_within limit g ≡ true → on_face e g ≡ true → is_touched limit e g ≡ true
touched_face limit e g within on = rw within on

touched_core : (limit : ℕ) (e : Entry) (u : ℕ) → is_within limit u ≡ true → on_core_of e u ≡ true → is_touched limit e (limit + u) ≡ true
touched_core limit e u within on = rw (no_face limit u within, back_again limit u, within) on

scope_here : (h : AtHand) (t home : ℕ) (c : body.Call) (a : Answer) (w : List (ℕ × ℕ)) → Covers h.limit (Call t home c a w) h.items → IsCallOn h.limit (state h) t home c a w → makes_core c ≡ true → HasNamed h a.scope
scope_here h t home (call.EdtCreate from pc ps dc ds fl o) a w covers legal makes some =
    let e : Entry = Call t home (call.EdtCreate from pc ps dc ds fl o) a w in
    let within : is_within h.limit a.scope ≡ true = within_fresh h.limit (state h) a.scope (beside_is (is_done a.code && (fl == 1)) h.limit (state h) a.value a.scope legal.scope some).0 in
    let on : on_face e a.scope ≡ true = rw (named_self a.scope some, or-true (names_new home a.scope)) refl in
    record { within = within; here = covers a.scope (touched_face h.limit e a.scope within on) }
scope_here h t home other a w covers legal makes some = cc makes

output_here : (h : AtHand) (t home : ℕ) (c : body.Call) (a : Answer) (w : List (ℕ × ℕ)) → Covers h.limit (Call t home c a w) h.items → IsCallOn h.limit (state h) t home c a w → makes_core c ≡ true → HasNamed h a.output
output_here h t home (call.EdtCreate from pc ps dc ds fl o) a w covers legal makes some =
    let e : Entry = Call t home (call.EdtCreate from pc ps dc ds fl o) a w in
    let within : is_within h.limit a.output ≡ true = within_fresh h.limit (state h) a.output (beside_is (is_done a.code && o) h.limit (state h) (last_of a) a.output legal.output some).0 in
    let on : on_face e a.output ≡ true = rw (named_self a.output some, or-true (names_new a.scope a.output), or-true (names_new home a.output)) refl in
    record { within = within; here = covers a.output (touched_face h.limit e a.output within on) }
output_here h t home other a w covers legal makes some = cc makes

pub has_made : (h : AtHand) (t home : ℕ) (c : body.Call) (a : Answer) (w : List (ℕ × ℕ)) → Covers h.limit (Call t home c a w) h.items → is_done a.code ≡ true
    → IsCallOn h.limit (state h) t home c a w → HasMade h c a
has_made h t home c a w covers done legal =
    let within : is_creation c ≡ true → is_within h.limit a.value ≡ true = λ creates. within_fresh h.limit (state h) a.value ((named h.limit (state h) t c a legal.value creates).fresh done) in
    record {
      face = λ creates. record {
        within = within creates;
        here = covers a.value (touched_face h.limit (Call t home c a w) a.value (within creates) (call_named t home c a w a.value (rw (creates, same a.value) (or-true (is_wanted a.value (wanted c))))));
      };
      core = λ makes.
          let creates : is_creation c ≡ true = core_creates c makes in
          record {
            within = within creates;
            here = covers (h.limit + a.value) (touched_core h.limit (Call t home c a w) a.value (within creates) (rw (makes, same a.value) (or-true (t == a.value))));
          };
      scope = λ makes. scope_here h t home c a w covers legal makes;
      output = λ makes. output_here h t home c a w covers legal makes;
    }

-- THE NUMBERS of a footprint are those of the whole
first_or_later : (most m : ℕ) (rest : List ℕ) (k d : ℕ) → m ≤ most → All (λ n. n ≤ most) rest → k < length (m ∷ rest) → slice_index_or (m ∷ rest) k d ≤ most
first_or_later most m rest zero d first later below = first
first_or_later most m rest (suc k) d first later below = later k d (omega (arith, below))

small_placed : (n m most : ℕ) (xs : List ℕ) → m ≤ most → (is_in n xs ≡ true → n ≤ most) → is_in n (placed m xs) ≡ true → n ≤ most
small_placed n m most xs small rest is = elim (or_cases (m == n) (is_in n xs) (sym (in_placed n m xs) ∙ is)) [
  | inl same ↦ subst (λ (k : ℕ). k ≤ most) (eqb-true m n same) small
  | inr more ↦ rest more
]

small_face : (limit g n : ℕ) (xs : List ℕ) → (is_in n xs ≡ true → n ≤ limit + limit) → is_in n (and_face limit g xs) ≡ true → n ≤ limit + limit
small_face limit g n xs rest is = elim (is_within limit g) as (λ b. is_within limit g ≡ b → is_in n (if b then placed g xs else xs) ≡ true → n ≤ limit + limit) [
  | true ↦ λ within more. small_placed n g (limit + limit) xs (grind (arith, common_steps)) rest more
  | false ↦ λ _ more. rest more
] refl is

small_core : (limit t n : ℕ) (xs : List ℕ) → (is_in n xs ≡ true → n ≤ limit + limit) → is_in n (and_core limit t xs) ≡ true → n ≤ limit + limit
small_core limit t n xs rest is = elim (is_within limit t) as (λ b. is_within limit t ≡ b → is_in n (if b then placed (limit + t) xs else xs) ≡ true → n ≤ limit + limit) [
  | true ↦ λ within more. small_placed n (limit + t) (limit + limit) xs (grind (arith, common_steps)) rest more
  | false ↦ λ _ more. rest more
] refl is

small_wanted : (limit : ℕ) (ws : List (ℕ × Sort)) (n : ℕ) (xs : List ℕ) → (is_in n xs ≡ true → n ≤ limit + limit) → is_in n (and_wanted limit ws xs) ≡ true → n ≤ limit + limit
small_wanted limit [] n xs rest is = rest is
small_wanted limit (one ∷ more) n xs rest is = small_face limit one.0 n _ (small_wanted limit more n xs rest) is

small_cores : (limit : ℕ) (c : body.Call) (a : Answer) (n : ℕ) (xs : List ℕ) → (is_in n xs ≡ true → n ≤ limit + limit) → is_in n (if makes_core c then and_core limit a.value xs else xs) ≡ true → n ≤ limit + limit
small_cores limit c a n xs rest is = elim (makes_core c) as (λ b. is_in n (if b then and_core limit a.value xs else xs) ≡ true → n ≤ limit + limit) [
  | true ↦ λ more. small_core limit a.value n xs rest more
  | false ↦ rest
] is

small_made : (limit : ℕ) (c : body.Call) (a : Answer) (n : ℕ) (xs : List ℕ) → (is_in n xs ≡ true → n ≤ limit + limit) → is_in n (and_made limit c a xs) ≡ true → n ≤ limit + limit
small_made limit c a n xs rest is = elim (is_creation c) as (λ b. is_in n (if b then and_face limit a.value (if makes_core c then and_core limit a.value xs else xs) else xs) ≡ true → n ≤ limit + limit) [
  | true ↦ λ more. small_face limit a.value n _ (small_cores limit c a n xs rest) more
  | false ↦ rest
] is

small_beside : (limit home : ℕ) (c : body.Call) (a : Answer) (n : ℕ) (xs : List ℕ) → (is_in n xs ≡ true → n ≤ limit + limit) → is_in n (and_beside limit home c a xs) ≡ true → n ≤ limit + limit
small_beside limit home (call.EdtCreate from pc ps dc ds fl o) a n xs rest is = small_face limit home n _ (small_face limit a.scope n _ (small_face limit a.output n xs rest)) is
small_beside limit home other a n xs rest is = rest is

nowhere : (n : ℕ) (P : Type 0) → is_in n [] ≡ true → P
nowhere n P is = cc is

small_message : (limit : ℕ) (m : What) (n : ℕ) → is_in n (message_footprint limit m) ≡ true → n ≤ limit + limit
small_message limit (what.Satisfy e slot p) n is = small_face limit e n [] (nowhere n _) is
small_message limit (what.Leave x) n is = small_face limit x n [] (nowhere n _) is
small_message limit other n is = nowhere n _ is

pub small : (limit : ℕ) (e : Entry) (n : ℕ) → is_in n (footprint_of limit e) ≡ true → n ≤ limit + limit
small limit (Call t home c a w) n is = small_beside limit home c a n _ (small_wanted limit (wanted c) n _ (small_made limit c a n _ (small_core limit t n [] (nowhere n _)))) is
small limit (Deliver m c) n is = small_message limit m.what n is
small limit (Acquire t d) n is = small_face limit t n _ (small_face limit d n _ (small_core limit t n [] (nowhere n _))) is
small limit (Wait t d) n is = small_face limit t n _ (small_face limit d n _ (small_core limit t n [] (nowhere n _))) is
small limit (StaleAcquire t d) n is = small_face limit t n _ (small_face limit d n _ (small_core limit t n [] (nowhere n _))) is
small limit (Start t) n is = small_face limit t n _ (small_core limit t n [] (nowhere n _)) is
small limit (Free t d w) n is = small_face limit d n _ (small_core limit t n [] (nowhere n _)) is
small limit (End t returned) n is = small_face limit returned n _ (small_core limit t n [] (nowhere n _)) is
small limit other n is = nowhere n _ is

pub all_small : (most : ℕ) (ns : List ℕ) → ((n : ℕ) → is_in n ns ≡ true → n ≤ most) → All (λ n. n ≤ most) ns
all_small most [] is = λ k d below. absurd (omega (arith, below))
all_small most (m ∷ rest) is = λ k d below. first_or_later most m rest k d (is m (rw (same m) refl)) (all_small most rest (λ n more. is n (rw more (or-true (m == n))))) below
