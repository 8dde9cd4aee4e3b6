-- What a clerk's invariant tells, and how a step keeps it.
use Rattle.std.proofs.Common.{◌≡◌, ℕ, ◌+◌, ◌*◌, ◌<◌, ◌≤◌, ◌⊎◌, inl, ⊎_elim, List, [], ◌∷◌, ◌++◌, map, refl, ap, sym, subst, ◌∙◌, arith, None, Some, Option}
use Rattle.std.specs.Option.{option_or}
use Rattle.atomic_table.specs.Table.{Me}
use Rattle.atomic_table.specs.Seated.{TableId}
use Rattle.std.specs.Prelude.{MatchOption}
use Rattle.ocr_turns_rule.specs.Clerks.{IsLaidFor, IsTrueTo}
use Rattle.ocr_turns_rule.specs.Debts.{AreInRange}
use Rattle.ocr_turns_rule.specs.Rule.{OPEN}
use Rattle.ocr_turns_rule.specs.Steps.{Deed, limit_of, gathered, with_part, without_part, logged, ended_by, shut_by, filled_by, tries, with_drawn}
use Rattle.ocr_turns_rule.specs.Meaning.{Meaning}
use Rattle.ocr_turns_rule.proofs.Numbered.{keys_append, keys_remove, keys_replace_all}
use Rattle.ocr_turns_rule.proofs.Ranges.{both_owed, entered_owed}
use Rattle.ocr_turns_rule.proofs.Totals.{sum_append}
use Rattle.ocr_turns_rule.specs.Sums.{one_at, less_one, remove_at, replace_all, as_some}
use Rattle.ocr_base.specs.Mail.{without, named}
use Rattle.ocr_turns_rule.specs.Contract.{Known, GiveTells}
use Rattle.ocr_turns_rule.specs.Units.{units}
use Rattle.ocr_turns_rule.proofs.Units.{gathered_units}
use Rattle.ocr_turns_rule.specs.declared.view.Terms.{Terms}
use Rattle.ocr_turns_rule.specs.declared.view.View.{View}

module _ {G E P N F : Type 0} (me : Me (Option P) (View G E P N F)) where
  pub out_of : ((me.0.root ≡ 1) × (me.0.seat ≡ 0)) ⊎ ((me.0.root ≡ 0) × (me.0.seat ≡ 1) × (me.0.joined ≡ [])) → 0 < me.0.root + me.0.seat
  out_of h = ⊎_elim (λ a. let r = a.0 in omega arith) (λ a. let r = a.1 in omega arith) h

  pub seat_of : ((me.0.root ≡ 1) × (me.0.seat ≡ 0)) ⊎ ((me.0.root ≡ 0) × (me.0.seat ≡ 1) × (me.0.joined ≡ [])) → me.0.root ≡ 0 → me.0.seat ≡ 1
  seat_of h not = ⊎_elim (λ a. let r = a.0 in absurd (omega arith)) (λ a. a.1) h

  pub seat_none : ((me.0.root ≡ 1) × (me.0.seat ≡ 0)) ⊎ ((me.0.root ≡ 0) × (me.0.seat ≡ 1) × (me.0.joined ≡ [])) → me.0.root ≡ 1 → me.0.seat ≡ 1 → ⊥
  seat_none h is one = ⊎_elim (λ a. let z = a.1 in absurd (omega arith)) (λ a. let r = a.0 in absurd (omega arith)) h

-- each place has its slot
pub place_fits : {G : Type 0} (id : TableId) (t : Terms G) (limit share p : ℕ) → IsLaidFor id t limit share → p ≤ 2 * t.limit → p < id.slots
place_fits id t limit share p laid small = let s = laid.slots in omega arith

pub map_append : {A B : Type 0} (f : A → B) (xs ys : List A) → map f (xs ++ ys) ≡ map f xs ++ map f ys
map_append f [] ys = refl
map_append f (x ∷ xs) ys = ap (λ l. f x ∷ l) (map_append f xs ys)

either_same : (a b c d : Option ℕ) → a ≡ b → c ≡ d → option_or a c ≡ option_or b d
either_same a b c d p q i = option_or (p i) (q i)

past_both : (a b : Option ℕ) → MatchOption a (Unit {0}) (λ n. OPEN ≤ n) → MatchOption b (Unit {0}) (λ n. OPEN ≤ n) → MatchOption (option_or a b) (Unit {0}) (λ n. OPEN ≤ n)
past_both None b h i = i
past_both (Some n) b h i = h

module _ {G E P N F : Type 0} where
  -- the same clerk by equations
  pub true_same : {me me' : Me (Option P) (View G E P N F)} {log log' : List (ℕ × E)} {joined joined' : List (List (ℕ × E))} {parts parts' : List (ℕ × Option P)} {owed owed' : List (ℕ × ℕ × N)} {weight weight' : ℕ} {closed closed' full full' : Option ℕ} {count : ℕ}
      → me ≡ me' → log ≡ log' → joined ≡ joined' → parts ≡ parts' → owed ≡ owed' → weight ≡ weight' → closed ≡ closed' → full ≡ full' → IsTrueTo me log joined parts owed weight closed full count → IsTrueTo me' log' joined' parts' owed' weight' closed' full' count
  true_same {count} a b c d e f g h k = subst (λ (z : Type 0). z) (λ i. IsTrueTo (a i) (b i) (c i) (d i) (e i) (f i) (g i) (h i) count) k

  none_joined : (me : Me (Option P) (View G E P N F)) → ((me.0.root ≡ 1) × (me.0.seat ≡ 0)) ⊎ ((me.0.root ≡ 0) × (me.0.seat ≡ 1) × (me.0.joined ≡ [])) → me.0.root ≡ 0 → me.0.joined ≡ []
  none_joined me h not = ⊎_elim (λ a. let r = a.0 in absurd (omega arith)) (λ a. a.2) h

  -- the root that a clerk was joined into
  pub gathered_true : {me their : Me (Option P) (View G E P N F)} {log log' : List (ℕ × E)} {joined joined' : List (List (ℕ × E))} {parts parts' : List (ℕ × Option P)} {owed owed' : List (ℕ × ℕ × N)} {weight weight' : ℕ} {closed closed' full full' : Option ℕ} {count count' more : ℕ}
      → IsTrueTo me log joined parts owed weight closed full count → IsTrueTo their log' joined' parts' owed' weight' closed' full' count' → more ≤ count + count' → me.0.root ≡ 1 → their.0.root ≡ 0 → limit_of their.0.terms ≡ limit_of me.0.terms
      → IsTrueTo (gathered me.0 their.0, me.1) log (joined ++ log' ∷ []) (parts ++ parts') (owed ++ owed') weight (option_or closed closed') full more
  gathered_true {me} {their} {log} {log'} {joined} {joined'} {parts} {parts'} {owed} {owed'} {weight} {weight'} {closed} {closed'} {full} {full'} mine theirs few is_root not same = record {
    fewer = let a = mine.fewer in let b = theirs.fewer in let sum = gathered_units me.0 their.0 (gathered me.0 their.0) refl refl refl refl in omega arith;
    exact = λ one. absurd (⊎_elim (λ a. let z = a.1 in omega arith) (λ a. let r = a.0 in omega arith) mine.seat);
    log_is = mine.log_is;
    joined_are = λ i. mine.joined_are i ++ theirs.log_is i ∷ sym (none_joined their theirs.seat not) i;
    keeps = keys_append parts parts' ∙ ((λ i. mine.keeps i ++ theirs.keeps i) ∙ sym (keys_append me.0.parts their.0.parts));
    owed_are = λ i. mine.owed_are i ++ theirs.owed_are i;
    weight_is = mine.weight_is;
    closed_is = either_same closed me.0.closed closed' their.0.closed mine.closed_is theirs.closed_is;
    full_is = mine.full_is;
    past_end = past_both closed closed' mine.past_end theirs.past_end;
    past_limit = mine.past_limit;
    rests = mine.rests;
    ranges = both_owed (limit_of me.0.terms) me.0.debts their.0.debts me.0.claims their.0.claims (me.0.claims ++ their.0.claims) mine.ranges
        (subst (λ l. AreInRange l their.0.debts their.0.claims) same theirs.ranges)
        (λ n has. let sum = sum_append (one_at n) me.0.claims their.0.claims in omega arith);
    seat = inl (is_root, ⊎_elim (λ a. a.1) (λ a. let r = a.0 in absurd (omega arith)) mine.seat);
  }

  module _ {me : Me (Option P) (View G E P N F)} {log : List (ℕ × E)} {joined : List (List (ℕ × E))} {parts : List (ℕ × Option P)} {owed : List (ℕ × ℕ × N)} {weight : ℕ} {closed full : Option ℕ} {count : ℕ} (old : IsTrueTo me log joined parts owed weight closed full count) where
    -- a part more, and one less
    pub took_true : (p : ℕ) (x : P) → IsTrueTo (with_part me.0 p x, me.1) log joined (parts ++ (p, Some x) ∷ []) owed weight closed full count
    took_true p x = record { log_is = old.log_is; joined_are = old.joined_are; keeps = keys_append parts ((p, Some x) ∷ []) ∙ (ap (λ l. l ++ p ∷ []) old.keeps ∙ sym (keys_append me.0.parts ((p, x) ∷ []))); owed_are = old.owed_are; weight_is = old.weight_is; closed_is = old.closed_is; full_is = old.full_is; fewer = old.fewer; exact = old.exact; past_end = old.past_end; past_limit = old.past_limit; rests = old.rests; ranges = old.ranges; seat = old.seat }

    pub gave_true : (p : ℕ) → IsTrueTo (without_part me.0 p, me.1) log joined (remove_at p parts) owed weight closed full count
    gave_true p = record { log_is = old.log_is; joined_are = old.joined_are; keeps = keys_remove p parts ∙ (ap (less_one p) old.keeps ∙ sym (keys_remove p me.0.parts)); owed_are = old.owed_are; weight_is = old.weight_is; closed_is = old.closed_is; full_is = old.full_is; fewer = old.fewer; exact = old.exact; past_end = old.past_end; past_limit = old.past_limit; rests = old.rests; ranges = old.ranges; seat = old.seat }

    -- an entry more
    pub logged_true : (n : ℕ) (d : Deed E P N F) → units (logged me.0 n d) ≡ units me.0 → AreInRange (limit_of me.0.terms) d.debts [] → IsTrueTo (logged me.0 n d, me.1) (log ++ (n, d.entry) ∷ []) joined (replace_all (as_some d.parts) parts) (without d.delivers owed ++ named n 0 d.sends) (weight + d.weight) closed full count
    logged_true n d same adds = record { log_is = ap (λ l. l ++ (n, d.entry) ∷ []) old.log_is; joined_are = old.joined_are; keeps = keys_replace_all (as_some d.parts) parts ∙ (old.keeps ∙ sym (keys_replace_all d.parts me.0.parts)); owed_are = ap (λ l. without d.delivers l ++ named n 0 d.sends) old.owed_are; weight_is = ap (λ w. w + d.weight) old.weight_is; closed_is = old.closed_is; full_is = old.full_is; fewer = let few = old.fewer in omega arith; exact = λ one. old.exact one ∙ sym same; past_end = old.past_end; past_limit = old.past_limit; rests = old.rests; ranges = entered_owed (limit_of me.0.terms) me.0.debts d.debts me.0.claims d.leaves old.ranges adds; seat = old.seat }

    pub ended_true : (n : ℕ) (e : E) (fs : List F) → IsTrueTo (ended_by me.0 n e fs, me.1) (log ++ (n, e) ∷ []) joined parts owed weight closed full count
    ended_true n e fs = record { log_is = ap (λ l. l ++ (n, e) ∷ []) old.log_is; joined_are = old.joined_are; keeps = old.keeps; owed_are = old.owed_are; weight_is = old.weight_is; closed_is = old.closed_is; full_is = old.full_is; fewer = old.fewer; exact = old.exact; past_end = old.past_end; past_limit = old.past_limit; rests = old.rests; ranges = old.ranges; seat = old.seat }

    pub drew_true : (n : ℕ) → IsTrueTo (with_drawn me.0 n, me.1) log joined parts owed weight closed full count
    drew_true n = record { log_is = old.log_is; joined_are = old.joined_are; keeps = old.keeps; owed_are = old.owed_are; weight_is = old.weight_is; closed_is = old.closed_is; full_is = old.full_is; fewer = old.fewer; exact = old.exact; past_end = old.past_end; past_limit = old.past_limit; rests = old.rests; ranges = old.ranges; seat = old.seat }

    pub filled_true : (n : ℕ) → limit_of me.0.terms ≤ n → IsTrueTo (filled_by me.0 n, me.1) log joined parts owed weight closed (Some n) count
    filled_true n past = record { log_is = old.log_is; joined_are = old.joined_are; keeps = old.keeps; owed_are = old.owed_are; weight_is = old.weight_is; closed_is = old.closed_is; full_is = refl; fewer = old.fewer; exact = old.exact; past_end = old.past_end; past_limit = past; rests = old.rests; ranges = old.ranges; seat = old.seat }

    pub shut_true : (n : ℕ) → OPEN ≤ n → IsTrueTo (shut_by me.0 n, me.1) log joined parts owed weight (Some n) full count
    shut_true n past = record { log_is = old.log_is; joined_are = old.joined_are; keeps = old.keeps; owed_are = old.owed_are; weight_is = old.weight_is; closed_is = refl; full_is = old.full_is; fewer = old.fewer; exact = old.exact; past_end = past; past_limit = old.past_limit; rests = old.rests; ranges = old.ranges; seat = old.seat }

  -- a part that went home
  pub gave : (old new : Known G E P N F) (p : ℕ) → old.view.closed ≡ None → new.table ≡ old.table → new.view ≡ without_part old.view p → new.parts ≡ remove_at p old.parts → new.room ≡ old.room → new.spare ≡ old.spare + 1 → new.space ≡ old.space → GiveTells old new p
  gave old new p none table view parts room spare space = subst (λ o. MatchOption o ((new.table ≡ old.table) × (new.view ≡ without_part old.view p) × (new.parts ≡ remove_at p old.parts) × (new.room ≡ old.room) × (new.spare ≡ old.spare + 1) × (new.space ≡ old.space)) (λ _. new ≡ old)) (sym none) (table, view, parts, room, spare, space)

  -- what a step on the commit word told
  module _ (m : Meaning G E P N F) (after : View G E P N F) {told : Type 0} (me w : Me (Option P) (View G E P N F)) (n : ℕ) (does : tries m after told me n w) where
    pub tried_open : n < OPEN → w ≡ (after, me.1)
    tried_open under = ⊎_elim (λ h. λ i. (h.1 i, does.0 i)) (λ h. let past = h.0 in absurd (omega arith)) does.1

    pub tried_tells : n < OPEN → told
    tried_tells under = ⊎_elim (λ h. h.2) (λ h. let past = h.0 in absurd (omega arith)) does.1

    pub tried_shut : OPEN ≤ n → w ≡ (shut_by me.0 n, me.1)
    tried_shut past = ⊎_elim (λ h. let under = h.0 in absurd (omega arith)) (λ h. λ i. (h.1 i, does.0 i)) does.1
