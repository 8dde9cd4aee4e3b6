-- Each entry is linked to the next one of its EDT.
use Rattle.std.proofs.Common.{◌≡◌, ℕ, ◌+◌, ◌<◌, ◌≤◌, List, length, slice_index_or, slice_set, true, false, ◌==◌, ◌||◌, if◌then◌else◌, arith, refl, sym, ◌∙◌, ap, subst, inl, inr}
use Rattle.std.proofs.lemmas.Grind.{common_steps}
use Rattle.std.proofs.lemmas.Bool.{eqb-true, or_parts, or_left, true≢false}
use Rattle.std.specs.Prelude.{Result, Ok, Err, IfOk}
use Rattle.ocr_base.specs.declared.memory.NoMemory.{NoMemory}
use Rattle.ocr_replay_body.specs.declared.judge.Told.{Told}
use Rattle.ocr_replay_body.specs.declared.judge.Verdict.{Verdict}
use Rattle.ocr_body_meaning.specs.Behaviour.{Asked}
use Rattle.ocr_body_meaning.specs.Body.{Body, says}
use Rattle.ocr_body_meaning.specs.Holds.{Hold}
use Rattle.ocr_machine_history.specs.declared.entry.Entry.{Entry}
use Rattle.ocr_machine_history.specs.declared.entry.Entry.TheVariants.{Start}
use Rattle.ocr_replay_body.specs.declared.judge.Ending.{Ending}
use Rattle.ocr_replay_body.specs.declared.links.Links.{Links}
use Rattle.ocr_replay_body.specs.Judge.{runs, IsSaidIn, IsStuck, IsVerdict, IsToldAs, IsMadeBy, at_place, ended_as}
use Rattle.ocr_replay_body.specs.Links.{starts, IsNextOwn, IsLinkedFrom, IsLinked, IsFollowing}
use Rattle.ocr_replay_body.proofs.Steps.{same_item, below_or_equal, own_at, said_idle, ended_next, verdict_from, wrong_next}
use Rattle.ocr_base.proofs.Booleans.{same}
use Rattle.ocr_machine_history.proofs.Fronts.{item, item_is}

-- an entry of the EDT is the next one from its own place on
pub next_here : (t : ℕ) (xs : List Entry) (at : ℕ) (e : Entry) → at < length xs → e ≡ slice_index_or xs at e → runs t e ≡ true → IsNextOwn t xs at at
next_here t xs at e below is mine = record {
  after = omega arith;
  within = omega arith;
  idle = λ m lower upper. absurd (omega (arith, lower, upper));
  own = λ _ f f_is. ap (runs t) (same_item xs at f e below f_is is) ∙ mine;
}

-- over another entry the next one stays
pub next_past : (t : ℕ) (xs : List Entry) (from at : ℕ) (e : Entry) → from < length xs → e ≡ slice_index_or xs from e → runs t e ≡ false → IsNextOwn t xs (from + 1) at → IsNextOwn t xs from at
next_past t xs from at e below is out next = record {
  after = omega (arith, next.after);
  within = next.within;
  idle = λ m lower upper f f_is. elim (below_or_equal from m) as (λ _. runs t f ≡ false) [
    | inl later ↦ next.idle m (omega (arith, later)) upper f f_is
    | inr here ↦
        let same : m ≡ from = omega (arith, here, lower) in
        ap (runs t) (same_item xs from f e below (subst (λ k. f ≡ slice_index_or xs k f) same f_is) is) ∙ out
  ];
  own = next.own;
}

set_at : (ns : List ℕ) (k v j : ℕ) → k < length ns → slice_index_or (slice_set ns k v) j 0 ≡ (if k == j then v else slice_index_or ns j 0)
set_at ns k v j below = grind (arith, common_steps)

set_length : (ns : List ℕ) (k v : ℕ) → length (slice_set ns k v) ≡ length ns
set_length ns k v = grind (arith, common_steps)

pub apart_over : (u t limit : ℕ) → limit < u → t ≤ limit → (u == t) ≡ false
apart_over u t limit over fits = grind (arith, common_steps)

pub read_at : (ns : List ℕ) (k x : ℕ) → k < length ns → x ≡ slice_index_or ns k x → x ≡ slice_index_or ns k 0
read_at ns k x below is = grind (arith, common_steps)

-- an entry of no EDT up to the limit
pub linked_past : (limit : ℕ) (xs : List Entry) (place : ℕ) (nexts firsts : List ℕ) (e : Entry) → place < length xs → e ≡ slice_index_or xs place e
    → ((t : ℕ) → t ≤ limit → (runs t e || starts t e) ≡ false) → IsLinkedFrom limit xs (place + 1) nexts firsts → IsLinkedFrom limit xs place nexts firsts
linked_past limit xs place nexts firsts e below is none linked = record {
  nexts_are = linked.nexts_are;
  firsts_are = linked.firsts_are;
  first = λ t fits. next_past t xs place (slice_index_or firsts t 0) e below is (or_parts (runs t e) (starts t e) (none t fits)).0 (linked.first t fits);
  next = λ t m fits lower upper f f_is mine. elim (below_or_equal place m) as (λ _. IsNextOwn t xs (m + 1) (slice_index_or nexts m 0)) [
    | inl later ↦ linked.next t m fits (omega (arith, later)) upper f f_is mine
    | inr here ↦
        let same : m ≡ place = omega (arith, here, lower) in
        let equal : f ≡ e = same_item xs place f e below (subst (λ k. f ≡ slice_index_or xs k f) same f_is) is in
        absurd (true≢false (sym mine ∙ ap (λ (x : Entry). runs t x || starts t x) equal ∙ none t fits))
  ];
}

apart_later : (p m : ℕ) → p ≤ m → (p == m) ≡ false → p + 1 ≤ m
apart_later p m lower apart = grind (arith, common_steps)

-- an entry of an EDT up to the limit
noted_next : (limit : ℕ) (xs : List Entry) (place u : ℕ) (nexts firsts : List ℕ) (e : Entry) → place < length xs → e ≡ slice_index_or xs place e
    → ((t : ℕ) → (runs t e || starts t e) ≡ (u == t)) → IsLinkedFrom limit xs (place + 1) nexts firsts
    → (t m : ℕ) → t ≤ limit → place ≤ m → m < length xs → (f : Entry) → f ≡ slice_index_or xs m f → (runs t f || starts t f) ≡ true
    → IsNextOwn t xs (m + 1) (slice_index_or (slice_set nexts place (slice_index_or firsts u 0)) m 0)
noted_next limit xs place u nexts firsts e below is of linked t m fits lower upper f f_is mine =
    let room : place < length nexts = omega (arith, below, linked.nexts_are) in
    subst (λ (k : ℕ). IsNextOwn t xs (m + 1) k) (sym (set_at nexts place (slice_index_or firsts u 0) m room))
    (elim (place == m) as (λ b. (place == m) ≡ b → IsNextOwn t xs (m + 1) (if b then slice_index_or firsts u 0 else slice_index_or nexts m 0)) [
      | true ↦ λ here.
          let same : place ≡ m = eqb-true place m here in
          let equal : f ≡ e = same_item xs place f e below (subst (λ k. f ≡ slice_index_or xs k f) (sym same) f_is) is in
          let his : u ≡ t = eqb-true u t (sym (of t) ∙ ap (λ (x : Entry). runs t x || starts t x) (sym equal) ∙ mine) in
          subst (λ (k : ℕ). IsNextOwn t xs (k + 1) (slice_index_or firsts u 0)) same
          (subst (λ (k : ℕ). IsNextOwn t xs (place + 1) (slice_index_or firsts k 0)) (sym his) (linked.first t fits))
      | false ↦ λ apart. linked.next t m fits (apart_later place m lower apart) upper f f_is mine
    ] refl)

-- one that its body makes
pub linked_own : (limit : ℕ) (xs : List Entry) (place u : ℕ) (nexts firsts : List ℕ) (e : Entry) → place < length xs → e ≡ slice_index_or xs place e
    → ((t : ℕ) → (runs t e || starts t e) ≡ (u == t)) → u ≤ limit → runs u e ≡ true → IsLinkedFrom limit xs (place + 1) nexts firsts
    → IsLinkedFrom limit xs place (slice_set nexts place (slice_index_or firsts u 0)) (slice_set firsts u place)
linked_own limit xs place u nexts firsts e below is of fits mine linked = record {
  nexts_are = set_length nexts place _ ∙ linked.nexts_are;
  firsts_are = set_length firsts u place ∙ linked.firsts_are;
  first = λ t small.
      let room : u < length firsts = omega (arith, fits, linked.firsts_are) in
      subst (λ (k : ℕ). IsNextOwn t xs place k) (sym (set_at firsts u place t room))
      (elim (u == t) as (λ b. (u == t) ≡ b → IsNextOwn t xs place (if b then place else slice_index_or firsts t 0)) [
        | true ↦ λ his. next_here t xs place e below is (subst (λ (k : ℕ). runs k e ≡ true) (eqb-true u t his) mine)
        | false ↦ λ other. next_past t xs place (slice_index_or firsts t 0) e below is (or_parts (runs t e) (starts t e) (of t ∙ other)).0 (linked.first t small)
      ] refl);
  next = noted_next limit xs place u nexts firsts e below is of linked;
}

-- one that starts it
pub linked_start : (limit : ℕ) (xs : List Entry) (place u : ℕ) (nexts firsts : List ℕ) (e : Entry) → place < length xs → e ≡ slice_index_or xs place e
    → ((t : ℕ) → (runs t e || starts t e) ≡ (u == t)) → runs u e ≡ false → IsLinkedFrom limit xs (place + 1) nexts firsts
    → IsLinkedFrom limit xs place (slice_set nexts place (slice_index_or firsts u 0)) firsts
linked_start limit xs place u nexts firsts e below is of not_mine linked = record {
  nexts_are = set_length nexts place _ ∙ linked.nexts_are;
  firsts_are = linked.firsts_are;
  first = λ t small. next_past t xs place (slice_index_or firsts t 0) e below is (elim (runs t e) as (λ b. runs t e ≡ b → b ≡ false) [
    | true ↦ λ his.
        let same : u ≡ t = eqb-true u t (sym (of t) ∙ or_left (runs t e) (starts t e) his) in
        absurd (true≢false (sym his ∙ subst (λ (k : ℕ). runs k e ≡ false) same not_mine))
    | false ↦ λ _. refl
  ] refl) (linked.first t small);
  next = noted_next limit xs place u nexts firsts e below is of linked;
}

-- FROM ENTRY TO ENTRY of one EDT
pub following_here : (t : ℕ) (xs : List Entry) (links : Links) (from next : ℕ) → IsFollowing t xs links from next → IsFollowing t xs links next next
following_here t xs links from next following = record {
  nexts = following.nexts;
  now = record {
    after = omega arith;
    within = following.now.within;
    idle = λ m lower upper. absurd (omega (arith, lower, upper));
    own = following.now.own;
  };
  later = following.later;
}

pub following_next : (t : ℕ) (xs : List Entry) (links : Links) (from at next : ℕ) → IsFollowing t xs links from at → at < length xs → next ≡ slice_index_or links.nexts.items at next → IsFollowing t xs links (at + 1) next
following_next t xs links from at next following below is = record {
  nexts = following.nexts;
  now = subst (λ (k : ℕ). IsNextOwn t xs (at + 1) k) (sym (read_at links.nexts.items at next (omega (arith, below, following.nexts)) is))
      (following.later at below (item xs at below) (item_is xs at below) (following.now.own below (item xs at below) (item_is xs at below)));
  later = following.later;
}

pub following_start : (limit : ℕ) (xs : List Entry) (links : Links) (t place next : ℕ) → IsLinked limit xs links → t ≤ limit → place < length xs → Start t ≡ slice_index_or xs place (Start t)
    → next ≡ slice_index_or links.nexts.items place next → IsFollowing t xs links (place + 1) next
following_start limit xs links t place next linked fits below is next_is = record {
  nexts = linked.nexts_are;
  now = subst (λ (k : ℕ). IsNextOwn t xs (place + 1) k) (sym (read_at links.nexts.items place next (omega (arith, below, linked.nexts_are)) next_is)) (linked.next t place fits (omega arith) below (Start t) is (same t));
  later = λ m upper e at mine. linked.next t m fits (omega arith) upper e at (or_left (runs t e) (starts t e) mine);
}

-- from the first entry of an EDT
pub following_first : (limit : ℕ) (xs : List Entry) (links : Links) (t : ℕ) → IsLinked limit xs links → t ≤ limit → IsFollowing t xs links 0 (slice_index_or links.firsts.items t 0)
following_first limit xs links t linked fits = record {
  nexts = linked.nexts_are;
  now = linked.first t fits;
  later = λ m upper e at mine. linked.next t m fits (omega arith) upper e at (or_left (runs t e) (starts t e) mine);
}

-- a body that ended goes on over the entries that it makes
pub ended_following : (b : Body) (t : ℕ) (xs : List Entry) (links : Links) (start at next : ℕ) (e : Entry) (n : Ending) (items : List (ℕ × Hold)) → IsFollowing t xs links (at + 1) next → at < length xs → e ≡ slice_index_or xs at e
    → IsMadeBy (ended_as n items) e → IsSaidIn b t xs start at → at_place b t xs at ≡ ended_as n items → IsSaidIn b t xs start next × (at_place b t xs next ≡ ended_as n items)
ended_following b t xs links start at next e n items following below is said before now =
    let go = following.now in
    let both = ended_next b t xs start at e n items below is (λ _. said) before now in (
      said_idle b t xs start (at + 1) next both.0 go.idle,
      ap (λ (l : List Asked). says b l) (own_at t xs (at + 1) next go.after go.within go.idle) ∙ both.1,
    )

-- the verdict on a body that ended, by its next entry
pub lifted : (b : Body) (t : ℕ) (xs : List Entry) (links : Links) (start from next : ℕ) (n : Ending) (items : List (ℕ × Hold)) (r : Result Verdict NoMemory) → start ≤ from → IsSaidIn b t xs start from → IsFollowing t xs links from next
    → at_place b t xs from ≡ ended_as n items → IfOk r (λ v. (b : Body) → at_place b t xs next ≡ ended_as n items → IsVerdict b t xs next v.at v.told) → IfOk r (λ v. IsVerdict b t xs start v.at v.told)
lifted b t xs links start from next n items (Ok v) after said following ended verdict =
    let go = following.now in
    let now : at_place b t xs next ≡ ended_as n items = ap (λ (l : List Asked). says b l) (own_at t xs from next go.after go.within go.idle) ∙ ended in
    verdict_from b t xs start from next v.at v.told after go.after said go.idle (verdict b now)
lifted b t xs links start from next n items (Err e) after said following ended verdict = tt

-- the verdict on a body that was left, by its next entry
pub stuck_told : (b : Body) (t : ℕ) (xs : List Entry) (links : Links) (start from next : ℕ) (say : Told) → start ≤ from → IsSaidIn b t xs start from → IsFollowing t xs links from next → IsStuck b t xs from
    → (length xs ≤ next → IsToldAs (at_place b t xs from) say) → IsVerdict b t xs start next say
stuck_told b t xs links start from next say after said following stuck told =
    let go = following.now in
    record {
      after = omega (arith, after, go.after);
      within = go.within;
      said = said_idle b t xs start from next said go.idle;
      unsaid = λ below. (wrong_next b t xs start from next after said go.after below go.idle (go.own below) stuck).unsaid;
      told = λ end. subst (λ (l : List Asked). IsToldAs (says b l) say) (sym (own_at t xs from next go.after go.within go.idle)) (told (omega (arith, end)));
    }
