-- What is kept with many blocks, by std's words for maps, and what is kept in two lists.
use Rattle.std.proofs.Common.{◌≡◌, ℕ, ◌+◌, ◌-◌, ◌<◌, ◌≤◌, List, [], ◌∷◌, ◌++◌, length, map, take, nat_eq, rules, Bool, true, false, Option, Some, None, is_some, IfSome, IfNone, ◌==◌, if◌then◌else◌, refl, sym, ◌∙◌, ap, subst, arith, append-nil, append_assoc, length-append}
use Rattle.std.proofs.lemmas.Bool.{eqb-true}
use Rattle.std.proofs.lemmas.Grind.{common_steps}
use Rattle.std.proofs.lemmas.List.{take_all}
use Rattle.std.specs.List.{AllByRecursion, IsDistinct, slice_get}
use Rattle.std.specs.Map.{keys_of, lookup, lookup_entry, remove_entry, set_value}
use Rattle.std.specs.Option.{option_copied, option_map_or}
use Rattle.std.specs.Borrow.{Bor}
use Rattle.lru.specs.LruCache.{last_entry, lru_cache, promoted, put_entries}
use Rattle.lru.proofs.CallerLemmas.{Contains-lookup_entry}
use Rattle.ocr_base.proofs.Booleans.{eqb_flips}
use Rattle.ocr_datablock.specs.Lent.{Loan}
use Rattle.ocr_machine_parts.specs.Loans.{IsStorable, kept_after, kept_in, loan_in, settled_loan, settled_loans, with_kept, with_loan, without_kept}
use Rattle.ocr_machine_parts.specs.declared.loans.Kept.{Kept}

abbrev Item : Type 0
Item = ℕ × Kept

-- STD'S WORDS
pub looked : (d : ℕ) (xs : List Item) → lookup (nat_eq d) xs ≡ kept_in d xs
looked d [] = refl
looked d (one ∷ rest) = (λ i. if eqb_flips d one.0 i then Some one.1 else looked d rest i)

pub removed : (d : ℕ) (xs : List Item) → remove_entry (nat_eq d) xs ≡ without_kept d xs
removed d [] = refl
removed d (one ∷ rest) = (λ i. if eqb_flips d one.0 i then rest else one ∷ removed d rest i)

absent : (d : ℕ) (xs : List Item) → lookup_entry (nat_eq d) xs ≡ None → without_kept d xs ≡ xs
absent d [] is = refl
absent d (one ∷ rest) is = elim (one.0 == d) as (λ b. (if b then Some one else lookup_entry (nat_eq d) rest) ≡ None → (if b then rest else one ∷ without_kept d rest) ≡ one ∷ rest) [
  | true ↦ λ is. cc is
  | false ↦ λ is. ap (λ (l : List Item). one ∷ l) (absent d rest is)
] (ap (λ (b : Bool). if b then Some one else lookup_entry (nat_eq d) rest) (eqb_flips one.0 d) ∙ is)

put_found : (d : ℕ) (k : Kept) (xs : List Item) (n : ℕ) (o : Option Item) → length xs ≤ n → lookup_entry (nat_eq d) xs ≡ o
    → option_map_or (λ (e : Item). (e.0, k) ∷ remove_entry (nat_eq d) xs) o ((d, k) ∷ take n xs) ≡ with_kept d k xs
put_found d k xs n None fits is = ap (λ (l : List Item). (d, k) ∷ l) (take_all n xs fits ∙ sym (absent d xs is))
put_found d k xs n (Some e) fits is =
    let same : d ≡ e.0 = eqb-true d e.0 (Contains-lookup_entry (nat_eq d) xs e is).1 in
    ap (λ (b : ℕ). (b, k) ∷ remove_entry (nat_eq d) xs) (sym same) ∙ ap (λ (l : List Item). (d, k) ∷ l) (removed d xs)

pub put_is : (d : ℕ) (k : Kept) (xs : List Item) (n : ℕ) → length xs ≤ n - 1 → put_entries nat_eq (lru_cache xs n) d k ≡ with_kept d k xs
put_is d k xs n fits = put_found d k xs (n - 1) (lookup_entry (nat_eq d) xs) fits refl

pub stepped : (d : ℕ) (step : Loan → Loan) (xs : List Item) (y w : Kept) → kept_in d xs ≡ Some y → w ≡ kept_after step y → set_value (nat_eq d) xs w ≡ with_loan d step xs
stepped d step [] y w is new = cc is
stepped d step (one ∷ rest) y w is new =
    ap (λ (b : Bool). if b then (one.0, w) ∷ rest else one ∷ set_value (nat_eq d) rest w) (eqb_flips d one.0)
    ∙ elim (one.0 == d) as (λ b. (if b then Some one.1 else kept_in d rest) ≡ Some y → (if b then (one.0, w) ∷ rest else one ∷ set_value (nat_eq d) rest w) ≡ (if b then (one.0, kept_after step one.1) ∷ rest else one ∷ with_loan d step rest)) [
      | true ↦ λ is. let same : y ≡ one.1 = cc in ap (λ (k : Kept). (one.0, k) ∷ rest) (new ∙ ap (kept_after step) same)
      | false ↦ λ is. ap (λ (l : List Item). one ∷ l) (stepped d step rest y w is new)
    ] is

-- what is kept with no block stays
pub no_step : (d : ℕ) (step : Loan → Loan) (xs : List Item) → kept_in d xs ≡ None → with_loan d step xs ≡ xs
no_step d step [] is = refl
no_step d step (one ∷ rest) is = elim (one.0 == d) as (λ b. (if b then Some one.1 else kept_in d rest) ≡ None → (if b then (one.0, kept_after step one.1) ∷ rest else one ∷ with_loan d step rest) ≡ one ∷ rest) [
  | true ↦ λ is. cc is
  | false ↦ λ is. ap (λ (l : List Item). one ∷ l) (no_step d step rest is)
] is

pub none_out : (d : ℕ) (xs : List Item) → kept_in d xs ≡ None → without_kept d xs ≡ xs
none_out d [] is = refl
none_out d (one ∷ rest) is = elim (one.0 == d) as (λ b. (if b then Some one.1 else kept_in d rest) ≡ None → (if b then rest else one ∷ without_kept d rest) ≡ one ∷ rest) [
  | true ↦ λ is. cc is
  | false ↦ λ is. ap (λ (l : List Item). one ∷ l) (none_out d rest is)
] is

-- by a name that is the block's
pub looked_by : (n d : ℕ) (xs : List Item) → n ≡ d → lookup (nat_eq n) xs ≡ kept_in d xs
looked_by n d xs same = looked n xs ∙ ap (λ (b : ℕ). kept_in b xs) same

pub got : (r : Option (Bor Kept)) (n d : ℕ) (xs : List Item) → option_copied r ≡ lookup (nat_eq n) xs → n ≡ d
    → IfSome r (λ k. kept_in d xs ≡ Some k.now) × IfNone r (kept_in d xs ≡ None)
got None n d xs is same = (tt, sym (looked_by n d xs same) ∙ sym is)
got (Some k) n d xs is same = (sym (looked_by n d xs same) ∙ sym is, tt)

pub stepped_by : (n d : ℕ) (step : Loan → Loan) (xs : List Item) (y w : Kept) → n ≡ d → kept_in d xs ≡ Some y → w ≡ kept_after step y → set_value (nat_eq n) xs w ≡ with_loan d step xs
stepped_by n d step xs y w same is new = ap (λ (b : ℕ). set_value (nat_eq b) xs w) same ∙ stepped d step xs y w is new

pub put_by : (n d : ℕ) (k : Kept) (xs : List Item) (most : ℕ) → n ≡ d → length xs ≤ most - 1 → put_entries nat_eq (lru_cache xs most) n k ≡ with_kept d k xs
put_by n d k xs most same fits = ap (λ (b : ℕ). put_entries nat_eq (lru_cache xs most) b k) same ∙ put_is d k xs most fits

-- IN TWO LISTS
pub in_first : (d : ℕ) (k : Kept) (xs ys : List Item) → kept_in d xs ≡ Some k → kept_in d (xs ++ ys) ≡ Some k
in_first d k [] ys is = cc is
in_first d k (one ∷ rest) ys is = elim (one.0 == d) as (λ b. (if b then Some one.1 else kept_in d rest) ≡ Some k → (if b then Some one.1 else kept_in d (rest ++ ys)) ≡ Some k) [
  | true ↦ λ is. is
  | false ↦ λ is. in_first d k rest ys is
] is

pub in_second : (d : ℕ) (xs ys : List Item) → kept_in d xs ≡ None → kept_in d (xs ++ ys) ≡ kept_in d ys
in_second d [] ys is = refl
in_second d (one ∷ rest) ys is = elim (one.0 == d) as (λ b. (if b then Some one.1 else kept_in d rest) ≡ None → (if b then Some one.1 else kept_in d (rest ++ ys)) ≡ kept_in d ys) [
  | true ↦ λ is. cc is
  | false ↦ λ is. in_second d rest ys is
] is

pub out_first : (d : ℕ) (xs ys : List Item) → is_some (kept_in d xs) ≡ true → without_kept d (xs ++ ys) ≡ without_kept d xs ++ ys
out_first d [] ys is = cc is
out_first d (one ∷ rest) ys is = elim (one.0 == d) as (λ b. is_some (if b then Some one.1 else kept_in d rest) ≡ true → (if b then rest ++ ys else one ∷ without_kept d (rest ++ ys)) ≡ (if b then rest else one ∷ without_kept d rest) ++ ys) [
  | true ↦ λ is. refl
  | false ↦ λ is. ap (λ (l : List Item). one ∷ l) (out_first d rest ys is)
] is

pub out_second : (d : ℕ) (xs ys : List Item) → is_some (kept_in d xs) ≡ false → without_kept d (xs ++ ys) ≡ xs ++ without_kept d ys
out_second d [] ys is = refl
out_second d (one ∷ rest) ys is = elim (one.0 == d) as (λ b. is_some (if b then Some one.1 else kept_in d rest) ≡ false → (if b then rest ++ ys else one ∷ without_kept d (rest ++ ys)) ≡ one ∷ rest ++ without_kept d ys) [
  | true ↦ λ is. cc is
  | false ↦ λ is. ap (λ (l : List Item). one ∷ l) (out_second d rest ys is)
] is

pub step_first : (d : ℕ) (step : Loan → Loan) (xs ys : List Item) → is_some (kept_in d xs) ≡ true → with_loan d step (xs ++ ys) ≡ with_loan d step xs ++ ys
step_first d step [] ys is = cc is
step_first d step (one ∷ rest) ys is = elim (one.0 == d) as (λ b. is_some (if b then Some one.1 else kept_in d rest) ≡ true
    → (if b then (one.0, kept_after step one.1) ∷ rest ++ ys else one ∷ with_loan d step (rest ++ ys)) ≡ (if b then (one.0, kept_after step one.1) ∷ rest else one ∷ with_loan d step rest) ++ ys) [
      | true ↦ λ is. refl
      | false ↦ λ is. ap (λ (l : List Item). one ∷ l) (step_first d step rest ys is)
    ] is

pub step_second : (d : ℕ) (step : Loan → Loan) (xs ys : List Item) → is_some (kept_in d xs) ≡ false → with_loan d step (xs ++ ys) ≡ with_loan d step xs ++ with_loan d step ys
step_second d step [] ys is = refl
step_second d step (one ∷ rest) ys is = elim (one.0 == d) as (λ b. is_some (if b then Some one.1 else kept_in d rest) ≡ false
    → (if b then (one.0, kept_after step one.1) ∷ rest ++ ys else one ∷ with_loan d step (rest ++ ys)) ≡ (if b then (one.0, kept_after step one.1) ∷ rest else one ∷ with_loan d step rest) ++ with_loan d step ys) [
      | true ↦ λ is. cc is
      | false ↦ λ is. ap (λ (l : List Item). one ∷ l) (step_second d step rest ys is)
    ] is

-- what may be stored in the loan that is kept in the two, where it is
pub storable_first : (d word : ℕ) (xs ys : List Item) → IsStorable (loan_in (kept_in d (xs ++ ys))) word → IfSome (kept_in d xs) (λ k. IsStorable k.loan word)
storable_first d word xs ys is = by (kept_in d xs) refl
  where
    by : (o : Option Kept) → kept_in d xs ≡ o → IfSome o (λ k. IsStorable k.loan word)
    by None none = tt
    by (Some k) found = subst (λ (o : Option Kept). IsStorable (loan_in o) word) (in_first d k xs ys found) is

pub none_of : (o : Option Kept) → is_some o ≡ false → o ≡ None
none_of None is = refl
none_of (Some k) is = cc is

pub settled_both : (xs ys : List Item) → settled_loans (xs ++ ys) ≡ settled_loans xs ++ settled_loans ys
settled_both [] ys = refl
settled_both (one ∷ rest) ys = ap (λ (l : List Item). (one.0, record { size = one.1.size; loan = settled_loan one.1.loan }) ∷ l) (settled_both rest ys)

pub names_both : (xs ys : List Item) → map (λ (one : Item). one.0) (xs ++ ys) ≡ map (λ (one : Item). one.0) xs ++ map (λ (one : Item). one.0) ys
names_both [] ys = refl
names_both (one ∷ rest) ys = ap (λ (l : List ℕ). one.0 ∷ l) (names_both rest ys)

-- THE LAST, brought to the front
apart_last : (x : ℕ) (front : List Item) (last : Item) → AllByRecursion (λ (y : ℕ). nat_eq x y ≡ false) (keys_of (front ++ last ∷ [])) → nat_eq x last.0 ≡ false
apart_last x [] last all = all.0
apart_last x (one ∷ rest) last all = apart_last x rest last all.1

itself : (n : ℕ) → nat_eq n n ≡ true
itself n = search rules

alone : (front : List Item) (last : Item) → IsDistinct nat_eq (keys_of (front ++ last ∷ []))
    → (lookup_entry (nat_eq last.0) (front ++ last ∷ []) ≡ Some last) × (remove_entry (nat_eq last.0) (front ++ last ∷ []) ≡ front)
unfolding IsDistinct
alone [] last distinct = (rw (itself last.0) refl, rw (itself last.0) refl)
alone (one ∷ rest) last distinct =
    let off : nat_eq last.0 one.0 ≡ false = eqb_flips last.0 one.0 ∙ apart_last one.0 rest last distinct.0 in
    let later = alone rest last distinct.1 in
    (rw off later.0, rw off (ap (λ (l : List Item). one ∷ l) later.1))

pub turned : (front : List Item) (last : Item) (w : Kept) → IsDistinct nat_eq (keys_of (front ++ last ∷ []))
    → set_value (nat_eq last.0) (promoted (nat_eq last.0) (front ++ last ∷ [])) w ≡ (last.0, w) ∷ front
turned front last w distinct =
    let found = alone front last distinct in
    let first : promoted (nat_eq last.0) (front ++ last ∷ []) ≡ last ∷ front =
    ap (λ (o : Option Item). option_map_or (λ (e : Item). e ∷ remove_entry (nat_eq last.0) (front ++ last ∷ [])) o (front ++ last ∷ [])) found.0 ∙ ap (λ (l : List Item). last ∷ l) found.1 in
    ap (λ (l : List Item). set_value (nat_eq last.0) l w) first ∙ rw (itself last.0) refl

pub found_last : (front : List Item) (last : Item) → IsDistinct nat_eq (keys_of (front ++ last ∷ [])) → lookup (nat_eq last.0) (front ++ last ∷ []) ≡ Some last.1
unfolding IsDistinct
found_last [] last distinct = rw (itself last.0) refl
found_last (one ∷ rest) last distinct =
    let off : nat_eq last.0 one.0 ≡ false = eqb_flips last.0 one.0 ∙ apart_last one.0 rest last distinct.0 in
    rw off (found_last rest last distinct.1)

last_at : (front : List Item) (last : Item) → slice_get (front ++ last ∷ []) (length front) ≡ Some last
last_at [] last = refl
last_at (one ∷ rest) last = last_at rest last

pub last_is : (front : List Item) (last : Item) → last_entry (front ++ last ∷ []) ≡ Some last
last_is front last = let at : length (front ++ last ∷ []) - 1 ≡ length front = grind (arith, common_steps) in ap (slice_get (front ++ last ∷ [])) at ∙ last_at front last

pub some_last : (xs : List Item) → 0 < length xs → (front : List Item) × (last : Item) × (xs ≡ front ++ last ∷ [])
some_last [] some = absurd (omega (arith, some))
some_last (one ∷ []) some = ([], one, refl)
some_last (one ∷ (two ∷ rest)) some = let later = some_last (two ∷ rest) (omega arith) in (one ∷ later.0, later.1, ap (λ (l : List Item). one ∷ l) later.2)

-- so many of the last are settled, and stand in front
pub record IsTurnedSo (xs : List Item) (n : ℕ) (ys left done : List Item) : Type 0 where
  pub all : left ++ done ≡ xs
  pub count : length done ≡ n
  pub now : ys ≡ settled_loans done ++ left

abbrev pub IsTurned : List Item → ℕ → List Item → Type 0
IsTurned xs n ys = (left : List Item) × (done : List Item) × IsTurnedSo xs n ys left done

pub none_turned : (xs : List Item) → IsTurned xs 0 xs
none_turned xs = (xs, [], record { all = append-nil xs; count = refl; now = refl })

pub some_turned : (xs : List Item) (n : ℕ) (ys : List Item) → n < length xs → IsTurned xs n ys → 0 < length ys
some_turned xs n ys more turned = let so = turned.2 in omega (arith, more, so.count, ap length so.all, ap length so.now, length-append turned.0 turned.1, length-append (settled_loans turned.1) turned.0)

pub turns : (xs : List Item) (n : ℕ) (ys zs : List Item) → n < length xs → IsTurned xs n ys
    → ((front : List Item) (last : Item) → ys ≡ front ++ last ∷ [] → zs ≡ (last.0, record { size = last.1.size; loan = settled_loan last.1.loan }) ∷ front)
    → IsTurned xs (n + 1) zs
turns xs n ys zs more turned step =
    let so = turned.2 in
    let some : 0 < length turned.0 = omega (arith, more, so.count, ap length so.all, length-append turned.0 turned.1) in
    let split = some_last turned.0 some in
    let front = split.0 in let last = split.1 in
    let is : ys ≡ (settled_loans turned.1 ++ front) ++ last ∷ [] = so.now ∙ (ap (λ (l : List Item). settled_loans turned.1 ++ l) split.2 ∙ sym (append_assoc (settled_loans turned.1) front (last ∷ []))) in (
      front,
      last ∷ turned.1,
      record {
        all = sym (append_assoc front (last ∷ []) turned.1) ∙ (ap (λ (l : List Item). l ++ turned.1) (sym split.2) ∙ so.all);
        count = omega (arith, so.count);
        now = step (settled_loans turned.1 ++ front) last is;
      },
    )

pub all_turned : (xs : List Item) (n : ℕ) (ys : List Item) → length xs ≤ n → IsTurned xs n ys → ys ≡ settled_loans xs
all_turned xs n ys all turned = by turned.0 turned.1 turned.2
  where
    by : (left done : List Item) → IsTurnedSo xs n ys left done → ys ≡ settled_loans xs
    by [] done so = so.now ∙ (append-nil (settled_loans done) ∙ ap settled_loans so.all)
    by (one ∷ rest) done so = absurd (omega (arith, all, so.count, ap length so.all, length-append rest done))
