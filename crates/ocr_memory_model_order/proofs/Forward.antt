-- Each pair goes forward.
use Rattle.std.proofs.Common.{◌≡◌, ◌<◌, inl, inr, ℕ, suc, ◌==◌, ◌||◌, List, [], ◌∷◌, length, reverse, Bool, true, false, if◌then◌else◌, Option, Some, None, is_some, refl, sym, ap, ◌∙◌, subst, arith}
use Rattle.std.proofs.lemmas.List.{reverse-append}
use Rattle.std.proofs.Math.Bool.{or-true}
use Rattle.std.proofs.lemmas.Bool.{or_cases, eqb-true}
use Rattle.ocr_base.specs.Mail.{drop_one, without, named, same_name}
use Rattle.ocr_event_any.specs.declared.TheConstants.{LATCH, CHANNEL}
use Rattle.ocr_guid.specs.declared.Code.{Code}
use Rattle.ocr_body_meaning.specs.declared.call.Call as body
use Rattle.ocr_body_meaning.specs.declared.call.Call.TheVariants as call
use Rattle.ocr_body_meaning.specs.declared.call.Answer.{Answer}
use Rattle.ocr_machine_history.specs.declared.entry.Entry.{Entry}
use Rattle.ocr_machine_history.specs.declared.entry.Entry.TheVariants.{Call, Deliver, Start}
use Rattle.ocr_machine_history.specs.declared.entry.Message.{Message}
use Rattle.ocr_machine_history.specs.declared.entry.What.{What}
use Rattle.ocr_machine_history.specs.declared.entry.What.TheVariants as what
use Rattle.ocr_machine_history.specs.History.{History, Setting}
use Rattle.ocr_machine_history.specs.Edts.{is_started}
use Rattle.ocr_machine_history.specs.Made.{Made, MadeEvent, MadeScope, made, is_new, is_beside, is_edt_made}
use Rattle.ocr_machine_history.specs.Numbers.{is_in}
use Rattle.ocr_slots.specs.Slots as slot
use Rattle.ocr_machine_parts.specs.Calls.{set_calls}
use Rattle.ocr_machine_parts.specs.Legal.{IsRun, IsLegal}
use Rattle.ocr_machine_parts.specs.Messages.{pending, delivered, sends}
use Rattle.ocr_machine_parts.specs.Parts.{parts_of}
use Rattle.ocr_machine_laws.proofs.Each.{Each, each_from, each_joined, each_at}
use Rattle.ocr_machine_laws.proofs.Edts.{edts_law}
use Rattle.ocr_machine_laws.proofs.Permanence.{made_law, not_new, all_set}
use Rattle.ocr_machine_laws.proofs.Once.{set_once_law}
use Rattle.ocr_machine_laws.proofs.Own.{still_started, started_set}
use Rattle.ocr_machine_laws.proofs.Plain.{begin_law}
use Rattle.ocr_memory_model_order.specs.Places.{entry_at, before, is_at, places}
use Rattle.ocr_memory_model_order.specs.Makers.{satisfies, leaves, oldest, links_at, matches_of, source_at, set_off_with, makers}
use Rattle.ocr_memory_model_order.specs.Pairs.{is_made_by, creates, starts, is_set_for, sets, in_order, made as made_pair, sent as sent_pair, set as set_pair, ended as ended_pair, ForwardLaw}
use Rattle.ocr_memory_model_order.proofs.Fronts.{some_same, at_below, places_below, in_each, oldest_each, matched_each}

-- AN EDT THAT HAS STARTED was made
some_edt : (m : Option Made) → is_edt_made m ≡ true → m ≡ None → ⊥
some_edt None is none = cc is
some_edt (Some m) is none = cc none

kept_some : (s : Setting) (past : History) (e : Entry) (t : ℕ) (o : Option Made) → made s past t ≡ o → IsLegal s past e → (o ≡ None → ⊥) → made s (e ∷ past) t ≡ None → ⊥
kept_some s past e t None is legal there none = there refl
kept_some s past e t (Some m) is legal there none = let still : made s (e ∷ past) t ≡ Some m = made_law s past e t m legal is in cc (still, none)

kept_made : (s : Setting) (past : History) (e : Entry) (t : ℕ) → IsRun s (e ∷ past) → made s (e ∷ past) t ≡ None → (made s past t ≡ None → ⊥) → ⊥
kept_made s past e t run none there = kept_some s past e t (made s past t) refl run.1 there none

starts_it : (past : History) (e : Entry) (t : ℕ) → starts t past e ≡ true → is_started (e ∷ past) t ≡ true
starts_it past (Start u) t is = ap (λ b. b || is_started past t) is
starts_it past other t is = cc is

pub started_made : (s : Setting) (past : History) (t : ℕ) → IsRun s past → is_started past t ≡ true → made s past t ≡ None → ⊥
started_made s [] t run on none = cc on
started_made s (Start u ∷ past) t run on none = elim (or_cases (u == t) (is_started past t) on) [
  | inl here ↦
      let ready = ((begin_law s past u run.0).0 run.1).0 in
      let one : is_edt_made (made s past u) ≡ true = edts_law s past run.0 u ∙ ready.made in
      some_edt (made s past u) one (subst (λ n. made s past n ≡ None) (sym (eqb-true u t here)) none)
  | inr k ↦ started_made s past t run.0 k none
]
started_made s (e ∷ past) t run on none = kept_made s past e t run none (started_made s past t run.0 on)

-- one after another
started_at : (past : History) (t b : ℕ) → is_at (starts t) past b ≡ true → is_started past t ≡ true
started_at [] t b h = cc h
started_at (e ∷ past) t b h = elim (b == length past) as (λ x. (if x then starts t past e else is_at (starts t) past b) ≡ true → is_started (e ∷ past) t ≡ true) [
  | true ↦ λ is. starts_it past e t is
  | false ↦ λ k. still_started past e t (started_at past t b k)
] h

-- WHERE ONE KIND of entries never comes after another
no_later : (p q : History → Entry → Bool) (s : Setting) → ((past : History) (e : Entry) → p past e ≡ true → q past e ≡ true → ⊥) → ((past : History) (e : Entry) (b : ℕ) → IsRun s past → IsLegal s past e → p past e ≡ true → is_at q past b ≡ true → ⊥)
    → (J : History) (a b : ℕ) → IsRun s J → is_at p J a ≡ true → is_at q J b ≡ true → a < b
no_later p q s both after [] a b run one other = cc one
no_later p q s both after (e ∷ past) a b run one other = elim (b == length past) as (λ x. (b == length past) ≡ x → (if x then q past e else is_at q past b) ≡ true → a < b) [
  | true ↦ λ is there. elim (a == length past) as (λ x. (if x then p past e else is_at p past a) ≡ true → a < b) [
    | true ↦ λ here. absurd (both past e here there)
    | false ↦ λ here. let l : a < length past = at_below p past a here in let at : b ≡ length past = eqb-true b (length past) is in omega (arith, l, at)
  ] one
  | false ↦ λ _ there. elim (a == length past) as (λ x. (if x then p past e else is_at p past a) ≡ true → a < b) [
    | true ↦ λ here. absurd (after past e b run.0 run.1 here there)
    | false ↦ λ here. no_later p q s both after past a b run.0 here there
  ] one
] refl other

-- a creation and the Start
create_start : (t : ℕ) (past : History) (e : Entry) → creates t past e ≡ true → starts t past e ≡ true → ⊥
create_start t past (Call u home c a w) one other = cc other
create_start t past e one other = cc one

create_new : (c : body.Call) (a : Answer) (t : ℕ) → is_made_by c a t ≡ true → is_new c a t ≡ true
create_new (call.EdtCreate from pc ps dc ds fl o) a t is = ap (λ x. is_beside (call.EdtCreate from pc ps dc ds fl o) a t || x) is ∙ or-true (is_beside (call.EdtCreate from pc ps dc ds fl o) a t)
create_new other a t is = cc is

create_after : (s : Setting) (t : ℕ) (past : History) (e : Entry) (b : ℕ) → IsRun s past → IsLegal s past e → creates t past e ≡ true → is_at (starts t) past b ≡ true → ⊥
create_after s t past (Call u home c a w) b run legal one there =
    let on : is_new c a t ≡ true = create_new c a t one in
    let off : is_new c a t ≡ false = not_new s past u home c a w t legal.on_parts (started_made s past t run (started_at past t b there)) in
    cc (on, off)
create_after s t past e b run legal one there = cc one

-- a Set and the Start
set_start : (t : ℕ) (past : History) (e : Entry) → sets t past e ≡ true → starts t past e ≡ true → ⊥
set_start t past (Deliver m c) one other = cc other
set_start t past e one other = cc one

set_for : (s : Setting) (past : History) (m : Message) (c : Code) (w : What) (t : ℕ) → m.what ≡ w → IsRun s past → IsLegal s past (Deliver m c) → is_set_for w t ≡ true → is_started past t ≡ true → ⊥
set_for s past m c (what.Set u k p) t is run legal one on =
    let here : u ≡ t = eqb-true u t one in
    let free = set_once_law s past m c u k p run legal is in
    let filled : slot.is_set (set_calls past u) k ≡ true = all_set s past u k (started_set s past u run (subst (λ n. is_started past n ≡ true) (sym here) on)) free.exists in
    let empty : slot.payload_of (set_calls past u) k ≡ None = free.unset in
    cc (filled, ap (λ (o : Option ℕ). is_some o) empty)
set_for s past m c other t is run legal one on = cc one

set_after : (s : Setting) (t : ℕ) (past : History) (e : Entry) (b : ℕ) → IsRun s past → IsLegal s past e → sets t past e ≡ true → is_at (starts t) past b ≡ true → ⊥
set_after s t past (Deliver m c) b run legal one there = set_for s past m c m.what t refl run legal one (started_at past t b there)
set_after s t past e b run legal one there = cc one

-- A MESSAGE is delivered after its place
named_places : (n i : ℕ) (xs : List What) → Each (λ (x : ℕ × ℕ × What). x.0 < suc n) (named n i xs)
named_places n i [] = tt
named_places n i (x ∷ xs) = (omega arith, named_places n (suc i) xs)

dropped_places : (P : ℕ × ℕ × What → Type 0) (name : ℕ × ℕ) (xs : List (ℕ × ℕ × What)) → Each P xs → Each P (drop_one name xs)
dropped_places P name [] are = tt
dropped_places P name (x ∷ xs) are = elim (same_name name x) as (λ t. Each P (if t then xs else x ∷ drop_one name xs)) [
  | true ↦ are.1
  | false ↦ (are.0, dropped_places P name xs are.1)
]

without_places : (P : ℕ × ℕ × What → Type 0) (name : Option (ℕ × ℕ)) (xs : List (ℕ × ℕ × What)) → Each P xs → Each P (without name xs)
without_places P None xs are = are
without_places P (Some name) xs are = dropped_places P name xs are

pub pending_places : (s : Setting) (past : History) → Each (λ (x : ℕ × ℕ × What). x.0 < length past) (pending s past)
pending_places s [] = tt
pending_places s (e ∷ past) =
    each_joined (λ (x : ℕ × ℕ × What). x.0 < suc (length past)) (without (delivered e) (pending s past)) (named (length past) 0 (sends e (parts_of s past)))
    (without_places (λ (x : ℕ × ℕ × What). x.0 < suc (length past)) (delivered e) (pending s past)
    (each_from (λ (x : ℕ × ℕ × What). x.0 < length past) (λ (x : ℕ × ℕ × What). x.0 < suc (length past)) (λ x h. omega (arith, h)) (pending s past) (pending_places s past)))
    (named_places (length past) 0 (sends e (parts_of s past)))

pub message_place : (s : Setting) (past : History) (m : Message) (c : Code) → IsLegal s past (Deliver m c) → m.place < length past
message_place s past m c legal = each_at (λ (x : ℕ × ℕ × What). x.0 < length past) (pending s past) (m.place, m.index, m.what) (pending_places s past) legal.said

pub each_reverse : (P : ℕ → Type 0) (xs : List ℕ) → Each P xs → Each P (reverse xs)
each_reverse P [] are = tt
each_reverse P (x ∷ xs) are = subst (Each P) (sym (reverse-append (x ∷ []) xs)) (each_joined P (reverse xs) (x ∷ []) (each_reverse P xs are.1) (are.0, tt))

set_off_below : (past : History) (m : Message) (x : ℕ) (o : Option Made) → Each (λ n. n < length past) (set_off_with past x (matches_of past m x) o)
set_off_below past m x (Some (MadeEvent k fl most)) = elim (k == LATCH) as (λ b. Each (λ n. n < length past) (if b then places (satisfies x) past else if k == CHANNEL then matches_of past m x else oldest (places (satisfies x) past))) [
  | true ↦ places_below (satisfies x) past
  | false ↦ elim (k == CHANNEL) as (λ b. Each (λ n. n < length past) (if b then matches_of past m x else oldest (places (satisfies x) past))) [
    | true ↦ matched_each (λ n. n < length past) m (reverse (places (satisfies x) past)) (links_at past x)
        (each_reverse (λ n. n < length past) (places (satisfies x) past) (places_below (satisfies x) past))
    | false ↦ oldest_each (λ n. n < length past) (places (satisfies x) past) (places_below (satisfies x) past)
  ]
]
set_off_below past m x (Some (MadeScope outer event)) = places_below (leaves x) past
set_off_below past m x other = tt

pub makers_below : (s : Setting) (past : History) (m : Message) → m.place < length past → Each (λ n. n < length past) (makers s past m)
makers_below s past m h = (h, set_off_below past m (source_at past m) (made s past (source_at past m)))

sent_forward : (s : Setting) (J : History) (a b : ℕ) (m : Message) (c : Code) → IsRun s J → entry_at J b ≡ Some (Deliver m c) → is_in a (makers s (before J b) m) ≡ true → a < b
sent_forward s [] a b m c run is there = cc is
sent_forward s (e ∷ past) a b m c run is there = elim (b == length past) as (λ x. (b == length past) ≡ x → (if x then Some e else entry_at past b) ≡ Some (Deliver m c) → is_in a (makers s (if x then past else before past b) m) ≡ true → a < b) [
  | true ↦ λ at here k.
      let legal : IsLegal s past (Deliver m c) = subst (IsLegal s past) (some_same e (Deliver m c) here) run.1 in
      subst (λ n. a < n) (sym (eqb-true b (length past) at))
      (in_each (λ n. n < length past) (makers s past m) a (makers_below s past m (message_place s past m c legal)) k)
  | false ↦ λ _ here k. sent_forward s past a b m c run.0 here k
] refl is there

pub forward_law : ForwardLaw
forward_law s J a b run (in_order t h one other) = h
forward_law s J a b run (made_pair t one other) = no_later (creates t) (starts t) s (create_start t) (create_after s t) J a b run one other
forward_law s J a b run (sent_pair m c is there) = sent_forward s J a b m c run is there
forward_law s J a b run (set_pair t one other) = no_later (sets t) (starts t) s (set_start t) (set_after s t) J a b run one other
forward_law s J a b run (ended_pair d m k h one other which) = h
