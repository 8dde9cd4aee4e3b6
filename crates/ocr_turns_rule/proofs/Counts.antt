-- The steps on the words that count keep the second rule.
use Rattle.std.proofs.Common.{◌≡◌, ◌≢◌, ℕ, ◌+◌, ◌-◌, ◌%◌, ◌<◌, ◌≤◌, inl, inr, ⊎_elim, Bool, true, false, List, [], ◌∷◌, length, refl, ap, sym, subst, ◌∙◌, arith, get_or-set_same, get_or-set_other, None, Some, Option, if◌then◌else◌}
use Rattle.std.specs.Prelude.{slice_index, slice_set}
use Rattle.std.proofs.Math.ListN.{length-set}
use mathlib.Core.Option.{some}
use mathlib.Core.Logic.{dite}
use native.Mathlib.Decide.{ℕ_discrete}
use lib.ListN.{get_elem?}
use Rattle.atomic_table.specs.Table.{State}
use Rattle.atomic_table.proofs.Lists.{at_set}
use Rattle.ocr_base.specs.Mail.{tally, drop_one}
use Rattle.ocr_turns_rule.specs.declared.view.View.{View}
use Rattle.ocr_turns_rule.specs.declared.view.Terms.{Terms}
use Rattle.ocr_turns_rule.specs.Counts.{Account, IsInOrder, Counted, Stakes, account, slots_of, payload_of, awaited, tied_to, is_started, is_ended, is_none, is_true, state_at, payload_at, READY, BUSY, PARKED}
use Rattle.ocr_turns_rule.specs.Meaning.{Meaning}
use Rattle.ocr_turns_rule.specs.Debts.{put_debts, owed_slots, of_edt, of_slot, making, times}
use Rattle.ocr_turns_rule.specs.Sums.{is_free, total, one_at}
use Rattle.ocr_turns_rule.specs.Words.{claiming, unclaiming, resuming, counting_down, counting_made}
use Rattle.ocr_turns_rule.proofs.Totals.{total_set, total_one, tally_append, drop_tally, sum_append, less_sum, one_here, one_else}
use Rattle.ocr_turns_rule.proofs.Numbered.{at_remove}
use Rattle.ocr_turns_rule.proofs.Accounts.{account_is, counting, ready, falls, claimed, parks, forgone, resumed}
use Rattle.ocr_turns_rule.proofs.Owed.{times_last, tally_at, slot_here, slot_else, first_tally, less_made, making_at, dropped_in, is_some}

some_same : {a b : ℕ} → ◌≡◌ {A = Option ℕ} (Some a) (Some b) → a ≡ b
some_same e = cc e

-- where the words of an EDT lie
pub states_apart : (slots a b : ℕ) → 1 ≤ a → 1 ≤ b → a ≢ b → state_at slots a ≢ state_at slots b
states_apart slots a b la lb ne e = ne (omega arith)

pub payload_no_state : (slots a k b : ℕ) → 1 ≤ a → k < 32 → 1 ≤ b → payload_at slots a k ≢ state_at slots b
payload_no_state slots a k b la lk lb e = absurd (omega arith)

pub same_payload : (slots a k b j : ℕ) → 1 ≤ a → k < 32 → 1 ≤ b → j < 32 → payload_at slots a k ≡ payload_at slots b j → (a ≡ b) × (k ≡ j)
same_payload slots a k b j la lk lb lj e = (omega arith, omega arith)

module _ {G E P N F : Type 0} (m : Meaning G E P N F) (t : Terms G) (past : List E) (s : State (Option P) (View G E P N F)) (k : Counted m t past s) (id : ℕ) (v : View G E P N F) (at : get_elem? s.views id ≡ some v) (is_out : 0 < v.root + v.seat) where
  abbrev Vs : Type 0
  Vs = View G E P N F

  abbrev homes : ℕ
  homes = length s.homes

  -- the state after a step on the word i
  abbrev pub at_word : ℕ → ℕ → Vs → State (Option P) Vs
  at_word i x w = record { words = slice_set s.words i x; homes = s.homes; views = slice_set s.views id w }

  tot : (f : Vs → ℕ) (w : Vs) → total f (slice_set s.views id w) + f v ≡ total f s.views + f w
  tot f w = total_set f s.views id v w at

  same_total : (f : Vs → ℕ) (w : Vs) → f w ≡ f v → total f (slice_set s.views id w) ≡ total f s.views
  same_total f w e = let a = tot f w in omega arith

  seated_with : (w : Vs) → Stakes m t past w → (i : ℕ) (u : Vs) → get_elem? (slice_set s.views id w) i ≡ some u → Stakes m t past u
  seated_with w stakes i u u_at = ⊎_elim (λ h. subst (Stakes m t past) h.1 stakes) (λ h. k.seated i u h.1) (at_set s.views id i w u u_at)

  abbrev before : ℕ → Account
  before n = account m t s.words homes s.views past n

  abbrev after : ℕ → ℕ → Vs → ℕ → Account
  after i x w n = account m t (slice_set s.words i x) homes (slice_set s.views id w) past n

  -- an EDT whose word and whose debts stay is in order still
  stays : (i x : ℕ) (w : Vs) (n : ℕ) → i ≢ state_at homes n → making n w.debts.made ≡ making n v.debts.made → owed_slots (of_edt n) w.debts ≡ owed_slots (of_edt n) v.debts → times n w.claims ≡ times n v.claims → times n w.debts.resumes ≡ times n v.debts.resumes → times n w.debts.lasts ≡ times n v.debts.lasts
      → IsInOrder (slots_of m t past n) (before n) → IsInOrder (slots_of m t past n) (after i x w n)
  stays i x w n ne made owed claims resumes lasts h = subst (IsInOrder (slots_of m t past n))
      (account_is (before n) (after i x w n)
      (sym (get_or-set_other s.words i (state_at homes n) x 0 (λ e. ne (sym e))))
      (sym (same_total (λ u. making n u.debts.made) w made))
      (sym (same_total (λ u. owed_slots (of_edt n) u.debts) w owed))
      refl
      (sym (same_total (λ u. times n u.claims) w claims))
      (sym (same_total (λ u. times n u.debts.resumes) w resumes))
      refl refl refl
      (ap (λ z. z + one_at m.first.0 n) (sym (same_total (λ u. times n u.debts.lasts) w lasts)))) h

  -- a slot that is set is one of an EDT that is made
  known : (n q x : ℕ) → payload_of m t past n q ≡ Some x → (1 ≤ n) × (n ≤ t.limit) × (q < 32)
  known n q x set = let d = k.told.set n q x set in let r = k.told.made n d.0 d.1 in (r.0, r.1, (let a = r.2 in let b = d.2 in omega arith))

  inside : (n : ℕ) → 1 ≤ n → n ≤ t.limit → state_at homes n < length s.words
  inside n lo hi = let w = k.words in omega arith

  -- A PAYLOAD IS PUT
  module _ (n q x j : ℕ) (owes : get_elem? v.debts.unput j ≡ some (n, q, x)) where
    abbrev put : Vs
    put = record v { debts = put_debts v.debts n q x }

    abbrev put_word : ℕ
    put_word = payload_at homes n q

    is_set : payload_of m t past n q ≡ Some x
    is_set = (k.seated id v at).unput j n q x owes

    pub dropped : (f : ℕ × ℕ → ℕ) → tally f (drop_one (n, q) v.debts.unput) + f (n, q) ≡ tally f v.debts.unput
    dropped f = drop_tally f (n, q) v.debts.unput (let a = tally_at (of_slot n q) v.debts.unput j n q x owes in let b = slot_here n q in omega arith)

    pub same_owed : (f : ℕ × ℕ → ℕ) → owed_slots f put.debts ≡ owed_slots f v.debts
    same_owed f = let a = dropped f in let b = tally_append f v.debts.put ((n, q, x) ∷ []) in omega arith

    other_payload : (a b y : ℕ) → payload_of m t past a b ≡ Some y → total (λ u. tally (of_slot a b) u.debts.unput) (slice_set s.views id put) ≡ 0 → (put_word ≢ payload_at homes a b) → slice_index (slice_set s.words put_word x) (payload_at homes a b) ≡ y
    other_payload a b y set none ne =
        let z : of_slot a b (n, q) ≡ 0 = apart a b ne in
        let d = dropped (of_slot a b) in
        let same = same_total (λ u. tally (of_slot a b) u.debts.unput) put (omega arith) in
        get_or-set_other s.words put_word (payload_at homes a b) x 0 (λ e. ne (sym e)) ∙ k.payload a b y set (sym same ∙ none)
      where
        apart : (a b : ℕ) → payload_at homes n q ≢ payload_at homes a b → of_slot a b (n, q) ≡ 0
        apart a b ne = slot_else a b n q (dite (ℕ_discrete a n) (λ e. inr (λ h. ne (λ i. payload_at homes (sym e i) (sym h i)))) inl)

    pub put_range : (1 ≤ n) × (n ≤ t.limit) × (q < 32)
    put_range = known n q x is_set

    pub put_kept : Counted m t past (at_word put_word x put)
    put_kept =
        let r = known n q x is_set in record {
          words = length-set s.words put_word x ∙ k.words;
          told = k.told;
          each = λ a lo hi. stays put_word x put a (payload_no_state homes n q a r.0 r.2 lo) refl (same_owed (of_edt a)) refl refl refl (k.each a lo hi);
          stage = λ a b. let old = k.stage a b in let same = same_total (λ u. owed_slots (of_slot a b) u.debts) put (same_owed (of_slot a b)) in omega arith;
          payload = λ a b y set none. dite (ℕ_discrete put_word (payload_at homes a b))
              (λ e.
              let r' = known a b y set in
              let same = same_payload homes n q a b r.0 r.2 r'.0 r'.2 e in
              let within : put_word < length s.words = (let w = k.words in let hi = r.1 in let lo = r.0 in let lq = r.2 in omega arith) in
              let eq : Some x ≡ Some y = sym is_set ∙ ((λ i. payload_of m t past (same.0 i) (same.1 i)) ∙ set) in
              ap (λ z. slice_index (slice_set s.words put_word x) z) (sym e) ∙ (get_or-set_same s.words put_word x 0 within ∙ cc eq))
              (λ ne. other_payload a b y set none ne);
          seated = seated_with put (let old = k.seated id v at in record {
            unput = λ i a b y there. let h = dropped_in (n, q) v.debts.unput i (a, b, y) there in old.unput h.0 a b y h.1;
            made = old.made;
            claims = old.claims;
            tied = old.tied;
            begun = old.begun;
            spent = λ z. absurd (omega arith);
          });
        }

  -- A SLOT IS COUNTED
  -- what is owed of an EDT in all
  owed_in : (f : ℕ × ℕ → ℕ) → tally f v.debts.put ≤ total (λ u. owed_slots f u.debts) s.views
  owed_in f = let a = total_one (λ (u : Vs). owed_slots f u.debts) s.views id v at in omega arith

  -- the slots of views that owe something are set
  owed_set : (n q : ℕ) → 1 ≤ total (λ u. owed_slots (of_slot n q) u.debts) s.views → (x : ℕ) × (payload_of m t past n q ≡ Some x)
  owed_set n q some_owed = let st = k.stage n q in is_some (payload_of m t past n q) (omega arith)

  module _ (n : ℕ) (owes : 1 ≤ tally (of_edt n) v.debts.put) where
    abbrev pub counted : Vs
    counted = counting_down v n (slice_index s.words (state_at homes n) - 1)

    abbrev pub fallen : ℕ
    fallen = (slice_index s.words (state_at homes n) + 18446744073709551615) % 18446744073709551616

    abbrev counted_slot : ℕ
    counted_slot = (first_tally n v.debts.put owes).0

    pub count_less : (f : ℕ × ℕ → ℕ) → owed_slots f counted.debts + f (n, counted_slot) ≡ owed_slots f v.debts
    count_less f = let a = (first_tally n v.debts.put owes).1 f in omega arith

    count_in : (x : ℕ) × (payload_of m t past n counted_slot ≡ Some x)
    count_in =
        let a = (first_tally n v.debts.put owes).1 (of_slot n counted_slot) in let b = slot_here n counted_slot in
        let le = owed_in (of_slot n counted_slot) in owed_set n counted_slot (omega arith)

    pub count_range : (1 ≤ n) × (n ≤ t.limit)
    count_range = let r = known n counted_slot count_in.0 count_in.1 in (r.0, r.1)

    abbrev count_falls : Type 0
    count_falls = IsInOrder (slots_of m t past n) (after (state_at homes n) fallen counted n) × (1 ≤ slice_index s.words (state_at homes n)) × (slice_index s.words (state_at homes n) ≤ 33) × (fallen + 1 ≡ slice_index s.words (state_at homes n))

    pub count_order : count_falls
    count_order =
        let r = count_range in
        let word : slice_index (slice_set s.words (state_at homes n) fallen) (state_at homes n) ≡ fallen = get_or-set_same s.words (state_at homes n) fallen 0 (inside n r.0 r.1) in
        let less = count_less (of_edt n) in let one = one_here n in
        let to = tot (λ u. owed_slots (of_edt n) u.debts) counted in let le = owed_in (of_edt n) in
        let same = same_total (λ u. making n u.debts.made) counted refl in
        let owing : 1 ≤ (before n).making + (before n).owed = omega arith in
        let start = (counting (slots_of m t past n) (before n) (k.each n r.0 r.1) owing).0 in let start_word = start.word in let most = start.most in
        let falls_to : fallen ≡ slice_index s.words (state_at homes n) - 1 = omega arith in
        let f = falls (slots_of m t past n) (before n) (after (state_at homes n) fallen counted n) 1 (k.each n r.0 r.1) (omega arith) (omega arith) (omega arith) word refl
        (same_total (λ u. times n u.claims) counted refl) (same_total (λ u. times n u.debts.resumes) counted refl) refl refl
        (let last = (times_last (slice_index s.words (state_at homes n) - 1) n v.debts.lasts).0 in let to = tot (λ u. times n u.debts.lasts) counted in
        let free = ap is_free (word ∙ falls_to) in omega arith) in
        (f.0, f.1, f.2, (let e = f.3 in omega arith))

    pub count_kept : Counted m t past (at_word (state_at homes n) fallen counted)
    count_kept = let r = count_range in record {
      words = length-set s.words (state_at homes n) fallen ∙ k.words;
      told = k.told;
      each = λ a lo hi. dite (ℕ_discrete n a)
          (λ e. subst (λ z. IsInOrder (slots_of m t past z) (after (state_at homes n) fallen counted z)) e count_order.0)
          (λ ne. stays (state_at homes n) fallen counted a (states_apart homes n a r.0 lo ne) refl (let h = count_less (of_edt a) in let z = one_else a n (λ e. ne (sym e)) in omega arith) refl refl ((times_last (slice_index s.words (state_at homes n) - 1) n v.debts.lasts).1 a (λ e. ne (sym e))) (k.each a lo hi));
      stage = λ a b. let old = k.stage a b in let h = count_less (of_slot a b) in let to = tot (λ u. owed_slots (of_slot a b) u.debts) counted in omega arith;
      payload = λ a b y is none. let r' = known a b y is in
          get_or-set_other s.words (state_at homes n) (payload_at homes a b) fallen 0 (payload_no_state homes a b n r'.0 r'.2 r.0)
          ∙ k.payload a b y is (sym (same_total (λ u. tally (of_slot a b) u.debts.unput) counted refl) ∙ none);
      seated = seated_with counted (let old = k.seated id v at in record { unput = old.unput; made = old.made; claims = old.claims; tied = old.tied; begun = old.begun; spent = λ z. absurd (omega arith) });
    }

  -- A MAKING IS COUNTED
  module _ (n d j : ℕ) (owes : get_elem? v.debts.made j ≡ some (n, d)) where
    abbrev pub began : Vs
    began = counting_made v n (slice_index s.words (state_at homes n) - (33 - d))

    abbrev pub lowered : ℕ
    lowered = (slice_index s.words (state_at homes n) + (18446744073709551616 - (33 - d))) % 18446744073709551616

    made_is : slots_of m t past n ≡ Some d
    made_is = (k.seated id v at).made j n d owes

    pub made_range : (1 ≤ n) × (n ≤ t.limit) × (d ≤ 32)
    made_range = let r = k.told.made n d made_is in (r.0, r.1, r.2)

    all_made : (i q : ℕ) → get_elem? v.debts.made i ≡ some (n, q) → q ≡ d
    all_made i q there = some_same (sym ((k.seated id v at).made i n q there) ∙ made_is)

    owes_making : 33 - d ≤ making n v.debts.made
    owes_making = making_at n v.debts.made j d owes

    less_owed : (making n began.debts.made + (33 - d) ≡ making n v.debts.made) × ((q : ℕ) → q ≢ n → making q began.debts.made ≡ making q v.debts.made)
    less_owed = less_made n d v.debts.made (let a = owes_making in let r = made_range in let lo = r.2 in omega arith) all_made

    pub made_order : IsInOrder (slots_of m t past n) (after (state_at homes n) lowered began n) × (33 - d ≤ slice_index s.words (state_at homes n)) × (slice_index s.words (state_at homes n) ≤ 33) × (lowered + (33 - d) ≡ slice_index s.words (state_at homes n))
    made_order =
        let r = made_range in let small = r.2 in
        let word : slice_index (slice_set s.words (state_at homes n) lowered) (state_at homes n) ≡ lowered = get_or-set_same s.words (state_at homes n) lowered 0 (inside n r.0 r.1) in
        let less = less_owed.0 in
        let to = tot (λ u. making n u.debts.made) began in let le = total_one (λ (u : Vs). making n u.debts.made) s.views id v at in
        let same = same_total (λ u. owed_slots (of_edt n) u.debts) began refl in let owes_it = owes_making in
        let owing : 1 ≤ (before n).making + (before n).owed = omega arith in
        let start = (counting (slots_of m t past n) (before n) (k.each n r.0 r.1) owing).0 in let start_word = start.word in let most = start.most in
        let falls_to : lowered ≡ slice_index s.words (state_at homes n) - (33 - d) = omega arith in
        let f = falls (slots_of m t past n) (before n) (after (state_at homes n) lowered began n) (33 - d) (k.each n r.0 r.1) (omega arith) (omega arith) (omega arith) word refl
        (same_total (λ u. times n u.claims) began refl) (same_total (λ u. times n u.debts.resumes) began refl) refl refl
        (let last = (times_last (slice_index s.words (state_at homes n) - (33 - d)) n v.debts.lasts).0 in let to = tot (λ u. times n u.debts.lasts) began in
        let free = ap is_free (word ∙ falls_to) in omega arith) in
        (f.0, f.1, f.2, (let e = f.3 in omega arith))

    pub made_kept : Counted m t past (at_word (state_at homes n) lowered began)
    made_kept = let r = made_range in record {
      words = length-set s.words (state_at homes n) lowered ∙ k.words;
      told = k.told;
      each = λ a lo hi. dite (ℕ_discrete n a)
          (λ e. subst (λ z. IsInOrder (slots_of m t past z) (after (state_at homes n) lowered began z)) e made_order.0)
          (λ ne. stays (state_at homes n) lowered began a (states_apart homes n a r.0 lo ne) (less_owed.1 a (λ e. ne (sym e))) refl refl refl ((times_last (slice_index s.words (state_at homes n) - (33 - d)) n v.debts.lasts).1 a (λ e. ne (sym e))) (k.each a lo hi));
      stage = λ a b. let old = k.stage a b in let same = same_total (λ u. owed_slots (of_slot a b) u.debts) began refl in omega arith;
      payload = λ a b y is none. let r' = known a b y is in
          get_or-set_other s.words (state_at homes n) (payload_at homes a b) lowered 0 (payload_no_state homes a b n r'.0 r'.2 r.0)
          ∙ k.payload a b y is (sym (same_total (λ u. tally (of_slot a b) u.debts.unput) began refl) ∙ none);
      seated = seated_with began (let old = k.seated id v at in record {
        unput = old.unput;
        made = λ i a q there. let h = at_remove n v.debts.made i a q there in old.made h.0 a q h.1;
        claims = old.claims;
        tied = old.tied;
        begun = old.begun;
        spent = λ z. absurd (omega arith);
      });
    }

  -- THE WORD of an EDT changes with who has claimed it and who owes its resume
  module _ (n x : ℕ) (w : Vs) (lo : 1 ≤ n) (hi : n ≤ t.limit) (same_debts : (w.debts.unput ≡ v.debts.unput) × (w.debts.put ≡ v.debts.put) × (w.debts.made ≡ v.debts.made) × (w.debts.lasts ≡ v.debts.lasts))
      (others : (a : ℕ) → a ≢ n → (times a w.claims ≡ times a v.claims) × (times a w.debts.resumes ≡ times a v.debts.resumes))
      (order : IsInOrder (slots_of m t past n) (after (state_at homes n) x w n)) (stakes : Stakes m t past w) where
    owed_as : (f : ℕ × ℕ → ℕ) → owed_slots f w.debts ≡ owed_slots f v.debts
    owed_as f = λ i. tally f (same_debts.0 i) + tally f (same_debts.1 i)

    pub turned_kept : Counted m t past (at_word (state_at homes n) x w)
    turned_kept = record {
      words = length-set s.words (state_at homes n) x ∙ k.words;
      told = k.told;
      each = λ a la ha. dite (ℕ_discrete n a)
          (λ e. subst (λ z. IsInOrder (slots_of m t past z) (after (state_at homes n) x w z)) e order)
          (λ ne. let o = others a (λ e. ne (sym e)) in stays (state_at homes n) x w a (states_apart homes n a lo la ne) (ap (making a) same_debts.2) (owed_as (of_edt a)) o.0 o.1 (ap (times a) same_debts.3) (k.each a la ha));
      stage = λ a b. let old = k.stage a b in let same = same_total (λ u. owed_slots (of_slot a b) u.debts) w (owed_as (of_slot a b)) in omega arith;
      payload = λ a b y is none. let r' = known a b y is in
          get_or-set_other s.words (state_at homes n) (payload_at homes a b) x 0 (payload_no_state homes a b n r'.0 r'.2 lo)
          ∙ k.payload a b y is (sym (same_total (λ u. tally (of_slot a b) u.debts.unput) w (ap (tally (of_slot a b)) same_debts.0)) ∙ none);
      seated = seated_with w stakes;
    }

  -- A READY EDT IS CLAIMED
  module _ (n : ℕ) (lo : 1 ≤ n) (hi : n ≤ t.limit) where
    abbrev word_after : (x : ℕ) → slice_index (slice_set s.words (state_at homes n) x) (state_at homes n) ≡ x
    word_after x = get_or-set_same s.words (state_at homes n) x 0 (inside n lo hi)

    claims_more : (a : ℕ) → times a (claiming v n).claims ≡ times a v.claims + one_at a n
    claims_more a = let h = sum_append (one_at a) v.claims (n ∷ []) in omega arith

    pub claim_kept : slice_index s.words (state_at homes n) ≡ READY → Counted m t past (at_word (state_at homes n) BUSY (claiming v n))
    claim_kept is =
        let w : Vs = claiming v n in let old = k.seated id v at in
        let r = ready (slots_of m t past n) (before n) (k.each n lo hi) is in let bare = r.0.bare in
        turned_kept n BUSY w lo hi (refl, refl, refl, refl) (λ a ne. ((let h = claims_more a in let z = one_else a n ne in omega arith), refl))
        (claimed (slots_of m t past n) (before n) (after (state_at homes n) BUSY w n) (k.each n lo hi) is (word_after BUSY)
        (same_total (λ u. making n u.debts.made) w refl) (same_total (λ u. owed_slots (of_edt n) u.debts) w refl) refl
        (let to = tot (λ u. times n u.claims) w in let h = claims_more n in let o = one_here n in omega arith)
        (same_total (λ u. times n u.debts.resumes) w refl) refl (ap (λ z. z + one_at m.first.0 n) (same_total (λ u. times n u.debts.lasts) w refl)))
        (record {
          unput = old.unput;
          made = old.made;
          claims = λ a has. dite (ℕ_discrete a n) (λ e. (subst (λ z. 1 ≤ z) (sym e) lo, subst (λ z. z ≤ t.limit) (sym e) hi)) (λ ne. old.claims a (let h = claims_more a in let z = one_else a n ne in omega arith));
          tied = λ a p has is_tied. dite (ℕ_discrete a n)
              (λ e. absurd (loose (is_started m t past n) (is_ended m t past n) (awaited m t past n) p refl (omega arith) (omega arith) (subst (λ z. tied_to m t past z ≡ Some p) e is_tied)))
              (λ ne. old.tied a p (let h = claims_more a in let z = one_else a n ne in omega arith) is_tied);
          begun = λ a has is_begun. dite (ℕ_discrete a n)
              (λ e. absurd (let on = ap is_true (subst (λ z. is_started m t past z ≡ true) e is_begun) in omega arith))
              (λ ne. old.begun a (let h = claims_more a in let z = one_else a n ne in omega arith) is_begun);
          spent = λ z. absurd (omega arith);
        })
      where
        loose : (b e : Bool) (o : Option ℕ) (p : ℕ) → is_started m t past n ≡ b → is_true b ≡ 0 → 1 - is_none o ≡ 0 → (if b then (if e then None else Some (m.core t.limit n)) else o) ≡ Some p → ⊥
        loose true e o p at z w is = absurd (omega arith)
        loose false e None p at z w is = cc is
        loose false e (Some q) p at z w is = absurd (omega arith)

    -- A CLAIM is given up, and the EDT is parked
    claims_less : 1 ≤ times n v.claims → (a : ℕ) → times a (unclaiming v n).claims + one_at a n ≡ times a v.claims
    claims_less has a = less_sum (one_at a) n v.claims has

    pub park_kept : 1 ≤ times n v.claims → (p : ℕ) → awaited m t past n ≡ Some p → Counted m t past (at_word (state_at homes n) PARKED (unclaiming v n))
    park_kept has p waits =
        let w : Vs = unclaiming v n in let old = k.seated id v at in
        let one = total_one (λ (u : Vs). times n u.claims) s.views id v at in
        let rest = k.told.rests n p waits in
        turned_kept n PARKED w lo hi (refl, refl, refl, refl) (λ a ne. ((let h = claims_less has a in let z = one_else a n ne in omega arith), refl))
        (parks (slots_of m t past n) (before n) (after (state_at homes n) PARKED w n) (k.each n lo hi) (omega arith) (ap (λ o. 1 - is_none o) waits) (ap is_true rest.0) (word_after PARKED)
        (same_total (λ u. making n u.debts.made) w refl) (same_total (λ u. owed_slots (of_edt n) u.debts) w refl) refl
        (let to = tot (λ u. times n u.claims) w in let h = claims_less has n in let o = one_here n in omega arith)
        (same_total (λ u. times n u.debts.resumes) w refl) refl refl (ap (λ z. z + one_at m.first.0 n) (same_total (λ u. times n u.debts.lasts) w refl)))
        (record {
          unput = old.unput;
          made = old.made;
          claims = λ a some_claim. old.claims a (let h = claims_less has a in omega arith);
          tied = λ a q some_claim is_tied. old.tied a q (let h = claims_less has a in omega arith) is_tied;
          begun = λ a some_claim. old.begun a (let h = claims_less has a in omega arith);
          spent = λ z. absurd (omega arith);
        })

    -- A CLAIM is dropped of an EDT that has its end
    pub drop_kept : 1 ≤ times n v.claims → is_ended m t past n ≡ true → Counted m t past (at_word (state_at homes n) BUSY (unclaiming v n))
    drop_kept has over =
        let w : Vs = unclaiming v n in let old = k.seated id v at in
        let one = total_one (λ (u : Vs). times n u.claims) s.views id v at in
        turned_kept n BUSY w lo hi (refl, refl, refl, refl) (λ a ne. ((let h = claims_less has a in let z = one_else a n ne in omega arith), refl))
        (forgone (slots_of m t past n) (before n) (after (state_at homes n) BUSY w n) (k.each n lo hi) (omega arith) (ap is_true over) (word_after BUSY)
        (same_total (λ u. making n u.debts.made) w refl) (same_total (λ u. owed_slots (of_edt n) u.debts) w refl) refl
        (let to = tot (λ u. times n u.claims) w in let h = claims_less has n in let o = one_here n in omega arith)
        (same_total (λ u. times n u.debts.resumes) w refl) refl refl (ap (λ z. z + one_at m.first.0 n) (same_total (λ u. times n u.debts.lasts) w refl)))
        (record {
          unput = old.unput;
          made = old.made;
          claims = λ a some_claim. old.claims a (let h = claims_less has a in omega arith);
          tied = λ a q some_claim is_tied. old.tied a q (let h = claims_less has a in omega arith) is_tied;
          begun = λ a some_claim. old.begun a (let h = claims_less has a in omega arith);
          spent = λ z. absurd (omega arith);
        })

    -- A RESUME that was owed is done
    resumes_less : 1 ≤ times n v.debts.resumes → (a : ℕ) → times a (resuming v n).debts.resumes + one_at a n ≡ times a v.debts.resumes
    resumes_less has a = less_sum (one_at a) n v.debts.resumes has

    pub resume_kept : 1 ≤ times n v.debts.resumes → Counted m t past (at_word (state_at homes n) READY (resuming v n))
    resume_kept has =
        let w : Vs = resuming v n in let old = k.seated id v at in
        let one = total_one (λ (u : Vs). times n u.debts.resumes) s.views id v at in
        turned_kept n READY w lo hi (refl, refl, refl, refl) (λ a ne. (refl, (let h = resumes_less has a in let z = one_else a n ne in omega arith)))
        (resumed (slots_of m t past n) (before n) (after (state_at homes n) READY w n) (k.each n lo hi) (omega arith) (word_after READY)
        (same_total (λ u. making n u.debts.made) w refl) (same_total (λ u. owed_slots (of_edt n) u.debts) w refl) refl
        (same_total (λ u. times n u.claims) w refl)
        (let to = tot (λ u. times n u.debts.resumes) w in let h = resumes_less has n in let o = one_here n in omega arith) refl refl (ap (λ z. z + one_at m.first.0 n) (same_total (λ u. times n u.debts.lasts) w refl)))
        (record { unput = old.unput; made = old.made; claims = old.claims; tied = old.tied; begun = old.begun; spent = λ z. absurd (omega arith) })
