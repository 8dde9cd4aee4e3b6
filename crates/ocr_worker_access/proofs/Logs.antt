-- The log and the facts of a clerk after an entry of the EDT that it runs.
use Rattle.std.proofs.Common.{◌≡◌, ℕ, zero, suc, Bool, true, false, ◌==◌, ◌||◌, ◌&&◌, if◌then◌else◌, List, [], ◌∷◌, ◌++◌, reverse, refl, ap, sym, ◌∙◌, subst}
use Rattle.std.proofs.lemmas.List.{reverse-append}
use Rattle.std.proofs.lemmas.Bool.{or_parts, or_right}
use mathlib.Core.Option.{some, some-ne-none}
use lib.ListN.{get_elem?}
use Rattle.ocr_base.proofs.Booleans.{same as number_same}
use Rattle.ocr_body_meaning.specs.declared.call.Answer.{Answer}
use Rattle.ocr_body_meaning.specs.declared.call.Call as body
use Rattle.ocr_machine_history.specs.declared.entry.Entry.{Entry}
use Rattle.ocr_machine_history.specs.declared.entry.Entry.TheVariants.{Call, Start, Free, End}
use Rattle.ocr_machine_history.specs.History.{own}
use Rattle.ocr_body_meaning.specs.Body.{Body}
use Rattle.ocr_machine_laws.specs.Permanence.{is_own}
use Rattle.ocr_turns_rule.specs.Debts.{without_all}
use Rattle.ocr_turns_rule.specs.Rule.{RunsIn}
use Rattle.ocr_turns_rule.specs.Sums.{entries, is_among}
use Rattle.ocr_turns_rule.proofs.Totals.{among_append, entries_append}
use Rattle.ocr_worker_machine.specs.Clerks.{OcrTerms, OcrView}
use Rattle.ocr_worker_machine.specs.Ocr.{ends, starts}
use Rattle.ocr_worker_machine.specs.declared.fact.Fact.{Fact}
use Rattle.ocr_worker_access.specs.Served.{IsKnown, Serves, own_log}

or_false : (a b : Bool) → b ≡ false → (a || b) ≡ a
or_false true b is = refl
or_false false b is = is

-- ONE ENTRY MORE
pub among_more : (test : Entry → Bool) (log : List (ℕ × Entry)) (n : ℕ) (e : Entry) → is_among test (entries (log ++ (n, e) ∷ [])) ≡ (is_among test (entries log) || test e)
among_more test log n e =
    ap (is_among test) (entries_append log ((n, e) ∷ []))
    ∙ (among_append test (entries log) (e ∷ []) ∙ ap (λ (b : Bool). is_among test (entries log) || b) (or_false (test e) false refl))

pub runs_on : (log : List (ℕ × Entry)) (n u : ℕ) (e : Entry) → ends e u ≡ false → RunsIn starts ends log u → RunsIn starts ends (log ++ (n, e) ∷ []) u
runs_on log n u e off runs = record {
  started = among_more (λ x. starts x u) log n e ∙ rw runs.started refl;
  goes_on = among_more (λ x. ends x u) log n e ∙ (or_false (is_among (λ x. ends x u) (entries log)) (ends e u) off ∙ runs.goes_on);
}

pub runs_back : (log : List (ℕ × Entry)) (n u : ℕ) (e : Entry) → starts e u ≡ false → RunsIn starts ends (log ++ (n, e) ∷ []) u → RunsIn starts ends log u
runs_back log n u e off runs = record {
  started = sym (or_false (is_among (λ x. starts x u) (entries log)) (starts e u) off) ∙ (sym (among_more (λ x. starts x u) log n e) ∙ runs.started);
  goes_on = (or_parts (is_among (λ x. ends x u) (entries log)) (ends e u) (sym (among_more (λ x. ends x u) log n e) ∙ runs.goes_on)).0;
}

-- the EDT starts
none_ends : (es : List Entry) (t : ℕ) → is_among (λ e. is_own e t) es ≡ false → is_among (λ e. ends e t) es ≡ false
none_ends [] t off = refl
none_ends (e ∷ rest) t off = both (ends e t) (is_among (λ x. ends x t) rest) (one e t (or_parts (is_own e t) (is_among (λ x. is_own x t) rest) off).0) (none_ends rest t (right (is_own e t) (is_among (λ x. is_own x t) rest) off))
  where
    both : (a b : Bool) → a ≡ false → b ≡ false → (a || b) ≡ false
    both true b p q = cc p
    both false b p q = q

    right : (a b : Bool) → (a || b) ≡ false → b ≡ false
    right true b is = cc is
    right false b is = is

    one : (e : Entry) (t : ℕ) → is_own e t ≡ false → ends e t ≡ false
    one (End u g) t off = off
    one other t off = refl

pub starts_now : (log : List (ℕ × Entry)) (n t : ℕ) → is_among (λ e. is_own e t) (entries log) ≡ false → RunsIn starts ends (log ++ (n, Start t) ∷ []) t
starts_now log n t off = record {
  started = among_more (λ x. starts x t) log n (Start t) ∙ or_right (is_among (λ x. starts x t) (entries log)) (t == t) (number_same t);
  goes_on = among_more (λ x. ends x t) log n (Start t) ∙ or_false (is_among (λ x. ends x t) (entries log)) false refl ∙ none_ends (entries log) t off;
}

-- THE CALLS
entries_more : (log : List (ℕ × Entry)) (n : ℕ) (e : Entry) → reverse (entries (log ++ (n, e) ∷ [])) ≡ e ∷ reverse (entries log)
entries_more log n e = ap reverse (entries_append log ((n, e) ∷ [])) ∙ reverse-append (entries log) (e ∷ [])

pub own_call : (log : List (ℕ × Entry)) (n t home : ℕ) (c : body.Call) (a : Answer) (w : List (ℕ × ℕ)) → own_log (log ++ (n, Call t home c a w) ∷ []) t ≡ record { call = c; answer = a } ∷ own_log log t
own_call log n t home c a w = ap (λ (l : List Entry). own l t) (entries_more log n (Call t home c a w)) ∙ rw (number_same t) refl

pub own_start : (log : List (ℕ × Entry)) (n t u : ℕ) → own_log (log ++ (n, Start u) ∷ []) t ≡ own_log log t
own_start log n t u = ap (λ (l : List Entry). own l t) (entries_more log n (Start u))

pub own_free : (log : List (ℕ × Entry)) (n t u d : ℕ) (w : List (ℕ × ℕ)) → own_log (log ++ (n, Free u d w) ∷ []) t ≡ own_log log t
own_free log n t u d w = ap (λ (l : List Entry). own l t) (entries_more log n (Free u d w))

own_none : (past : List Entry) (t : ℕ) → is_among (λ e. is_own e t) past ≡ false → own past t ≡ []
own_none [] t off = refl
own_none (Call u home c a w ∷ past) t off = elim (u == t) as (λ b. (b || is_among (λ e. is_own e t) past) ≡ false → (if b then (record { call = c; answer = a }) ∷ own past t else own past t) ≡ []) [
  | true ↦ λ off. cc off
  | false ↦ λ off. own_none past t off
] off
own_none (other ∷ past) t off = own_none past t (rest (is_own other t) (is_among (λ e. is_own e t) past) off)
  where
    rest : (a b : Bool) → (a || b) ≡ false → b ≡ false
    rest true b is = cc is
    rest false b is = is

pub among_turned : (test : Entry → Bool) (xs : List Entry) → is_among test (reverse xs) ≡ is_among test xs
among_turned test [] = refl
among_turned test (x ∷ xs) =
    ap (is_among test) (reverse-append (x ∷ []) xs) ∙ (among_append test (reverse xs) (x ∷ [])
    ∙ (ap (λ (b : Bool). is_among test (reverse xs) || b) (or_false (test x) false refl) ∙ (swap (is_among test (reverse xs)) (test x) ∙ ap (λ (b : Bool). test x || b) (among_turned test xs))))
  where
    swap : (a b : Bool) → (a || b) ≡ (b || a)
    swap true true = refl
    swap true false = refl
    swap false true = refl
    swap false false = refl

pub own_fresh : (log : List (ℕ × Entry)) (t : ℕ) → is_among (λ e. is_own e t) (entries log) ≡ false → own_log log t ≡ []
own_fresh log t off = own_none (reverse (entries log)) t (among_turned (λ e. is_own e t) (entries log) ∙ off)

-- THE FACTS
at_left : {A : Type 0} (xs ys : List A) (k : ℕ) (x : A) → get_elem? xs k ≡ some x → get_elem? (xs ++ ys) k ≡ some x
at_left [] ys k x at = absurd (some-ne-none x (sym at))
at_left (y ∷ xs) ys zero x at = at
at_left (y ∷ xs) ys (suc k) x at = at_left xs ys k x at

at_right : {A : Type 0} (xs ys : List A) (k : ℕ) (x : A) → get_elem? ys k ≡ some x → (j : ℕ) × (get_elem? (xs ++ ys) j ≡ some x)
at_right [] ys k x at = (k, at)
at_right (y ∷ xs) ys k x at = let r = at_right xs ys k x at in (suc r.0, r.1)

pub still_known : (facts more : List Fact) (f : Fact) → IsKnown facts f → IsKnown (facts ++ more) f
still_known facts more f known = (known.0, at_left facts more known.0 f known.1)

pub now_known : (facts more : List Fact) (f : Fact) → IsKnown more f → IsKnown (facts ++ more) f
now_known facts more f known = at_right facts more known.0 f known.1

-- A VIEW with more facts and a longer log serves the same body
pub serves_on : (t : OcrTerms) (v w : OcrView) (edt n : ℕ) (e : Entry) (b : Body) (more : List Fact) → Serves t v edt b → ends e edt ≡ false → w.log ≡ v.log ++ (n, e) ∷ [] → w.facts ≡ v.facts ++ more → Serves t w edt b
serves_on t v w edt n e b more serves off log facts = record {
  within = serves.within;
  face = serves.face;
  core = serves.core;
  payloads = serves.payloads;
  set = record { sizes = serves.set.sizes; set = λ k lt. known _ (serves.set.set k lt) };
  counted = known _ serves.counted;
  begun = known _ serves.begun;
  body = serves.body;
  runs = subst (λ (l : List (ℕ × Entry)). RunsIn starts ends l edt) (sym log) (runs_on v.log n edt e off serves.runs);
}
  where
    known : (f : Fact) → IsKnown v.facts f → IsKnown w.facts f
    known f is = subst (λ (fs : List Fact). IsKnown fs f) (sym facts) (still_known v.facts more f is)

-- and one with the same log and facts
pub serves_same : (t : OcrTerms) (v w : OcrView) (edt : ℕ) (b : Body) → Serves t v edt b → w.log ≡ v.log → w.facts ≡ v.facts → Serves t w edt b
serves_same t v w edt b serves log facts = record {
  within = serves.within;
  face = serves.face;
  core = serves.core;
  payloads = serves.payloads;
  set = record { sizes = serves.set.sizes; set = λ k lt. known _ (serves.set.set k lt) };
  counted = known _ serves.counted;
  begun = known _ serves.begun;
  body = serves.body;
  runs = subst (λ (l : List (ℕ × Entry)). RunsIn starts ends l edt) (sym log) serves.runs;
}
  where
    known : (f : Fact) → IsKnown v.facts f → IsKnown w.facts f
    known f is = subst (λ (fs : List Fact). IsKnown fs f) (sym facts) is

-- THE CLAIMS of an EDT whose end does not come
abbrev leaving : Entry → ℕ → Bool
leaving e n = is_own e n && ends e n

pub claims_stay : (e : Entry) (ns : List ℕ) → ((n : ℕ) → ends e n ≡ false) → without_all (leaving e) ns ≡ ns
claims_stay e [] off = refl
claims_stay e (n ∷ ns) off = elim (leaving e n) as (λ b. leaving e n ≡ b → (if b then without_all (leaving e) ns else n ∷ without_all (leaving e) ns) ≡ n ∷ ns) [
  | true ↦ λ is. absurd (never (is_own e n) (ends e n) is (off n))
  | false ↦ λ _. ap (λ (l : List ℕ). n ∷ l) (claims_stay e ns off)
] refl
  where
    never : (a b : Bool) → (a && b) ≡ true → b ≡ false → ⊥
    never true b is off = cc (is, off)
    never false b is off = cc is

pub claim_ends : (t g : ℕ) → without_all (leaving (End t g)) (t ∷ []) ≡ []
claim_ends t g = rw (number_same t) refl
