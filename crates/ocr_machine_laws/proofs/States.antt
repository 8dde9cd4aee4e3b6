-- Who stands at a block after a step.
use Rattle.std.proofs.Common.{◌≡◌, ◌⊎◌, inl, inr, ℕ, List, [], ◌∷◌, ◌++◌, Bool, true, false, Option, Some, None, ◌==◌, ◌&&◌, not, if◌then◌else◌, refl, sym, ◌∙◌, ap, subst, is_some}
use Rattle.std.proofs.lemmas.Bool.{eqb-true, and_left, and_right}
use Rattle.std.proofs.lemmas.List.{append-nil, append_assoc}
use Rattle.ocr_acquire.specs.declared.Mode.{Mode}
use Rattle.ocr_acquire.specs.Mode.{mode_in, is_exclusive}
use Rattle.ocr_datablock.specs.Lent.{Loan}
use Rattle.ocr_acquire.specs.Writes.{written}
use Rattle.ocr_datablock.proofs.Lines.{queue_splits, none_both, mode_skips, none_second}
use Rattle.ocr_machine_parts.specs.Effects.{asked_if, lent_if, granted, returned, hold_ended}
use Rattle.ocr_machine_parts.specs.LegalOn.{IsTaken, IsRefused}
use Rattle.ocr_machine_laws.specs.Waits.{stands, standing, queue_on}
use Rattle.ocr_machine_laws.proofs.Moves.{Keeps}
use Rattle.ocr_datablock.specs.Block as block
use Rattle.ocr_datablock.specs.Steps as block_steps
use Rattle.ocr_machine_parts.specs.declared.part.Part.TheVariants as part
use Rattle.ocr_base.proofs.Booleans.{same}
use Rattle.ocr_machine_parts.proofs.Awaited.{not_first}
use Rattle.ocr_machine_parts.proofs.Blocks.{mode_added}

-- LISTS of EDTs with their modes
pub in_front : (t : ℕ) (xs ys : List (ℕ × Mode)) (m : Mode) → mode_in t xs ≡ Some m → mode_in t (xs ++ ys) ≡ Some m
in_front t [] ys m is = cc is
in_front t (one ∷ rest) ys m is = elim (one.0 == t) as (λ b. (if b then Some one.1 else mode_in t rest) ≡ Some m → (if b then Some one.1 else mode_in t (rest ++ ys)) ≡ Some m) [
  | true ↦ λ is. is
  | false ↦ λ is. in_front t rest ys m is
] is

pub push_other : (t u : ℕ) (m : Mode) (xs : List (ℕ × Mode)) → (t == u) ≡ false → mode_in u (xs ++ (t, m) ∷ []) ≡ mode_in u xs
push_other t u m [] apart = rw apart refl
push_other t u m (one ∷ rest) apart = ap (λ (o : Option Mode). if one.0 == u then Some one.1 else o) (push_other t u m rest apart)

pub without_other : (t u : ℕ) (xs ys : List (ℕ × Mode)) → (t == u) ≡ false → mode_in u (block.without t xs ++ ys) ≡ mode_in u (xs ++ ys)
without_other t u [] ys apart = refl
without_other t u (one ∷ rest) ys apart = elim (one.0 == t) as (λ b. (one.0 == t) ≡ b → mode_in u ((if b then block.without t rest else one ∷ block.without t rest) ++ ys) ≡ (if one.0 == u then Some one.1 else mode_in u (rest ++ ys))) [
  | true ↦ λ is. let other : (one.0 == u) ≡ false = ap (λ (n : ℕ). n == u) (eqb-true one.0 t is) ∙ apart in rw other (without_other t u rest ys apart)
  | false ↦ λ _. ap (λ (o : Option Mode). if one.0 == u then Some one.1 else o) (without_other t u rest ys apart)
] refl

pub without_own : (t : ℕ) (xs : List (ℕ × Mode)) → mode_in t (block.without t xs) ≡ None
without_own t [] = refl
without_own t (one ∷ rest) = elim (one.0 == t) as (λ b. (one.0 == t) ≡ b → mode_in t (if b then block.without t rest else one ∷ block.without t rest) ≡ None) [
  | true ↦ λ _. without_own t rest
  | false ↦ λ is. rw is (without_own t rest)
] refl

-- who holds does not wait
pub once_back : (t : ℕ) (xs ys : List (ℕ × Mode)) → block_steps.StandOnce (xs ++ ys) → is_some (mode_in t xs) ≡ true → mode_in t ys ≡ None
once_back t [] ys once is = cc is
once_back t (one ∷ rest) ys once is = elim (one.0 == t) as (λ b. (one.0 == t) ≡ b → is_some (if b then Some one.1 else mode_in t rest) ≡ true → mode_in t ys ≡ None) [
  | true ↦ λ here _. subst (λ (n : ℕ). mode_in n ys ≡ None) (eqb-true one.0 t here) (none_second one.0 rest ys once.0)
  | false ↦ λ _ is. once_back t rest ys once.1 is
] refl is

some_not_empty : (t : ℕ) (xs : List (ℕ × Mode)) → is_some (mode_in t xs) ≡ true → block.is_empty xs ≡ false
some_not_empty t [] is = cc is
some_not_empty t (one ∷ rest) is = refl

pub holder_lives : (t : ℕ) (st : block.State) → is_some (mode_in t st.holders) ≡ true → block.is_gone st ≡ false
holder_lives t st is = and_right st.destroyed _ (some_not_empty t st.holders is)

-- A QUEUE THAT GOES ON: all stay in their order, unless the block is gone
pub passed_same : (b : Bool) (l : block.Line) → block.is_line_gone b (block.line_after_grants b l) ≡ false → stands (block.line_after_grants b l) ≡ stands l
passed_same true l live = elim (block.is_empty l.holders) as (λ e. block.is_empty l.holders ≡ e → block.is_line_gone true (if e then record { holders = l.holders; queue = [] } else l) ≡ false → stands (if e then record { holders = l.holders; queue = [] } else l) ≡ stands l) [
  | true ↦ λ empty live. cc (empty, live)
  | false ↦ λ _ _. refl
] refl live
passed_same false l live = append_assoc l.holders (block.front_that_fits l.holders l.queue) (block.rest_that_waits l.holders l.queue) ∙ ap (λ (q : List (ℕ × Mode)). l.holders ++ q) (sym (queue_splits l.holders l.queue))

pub passed_comes : (b : Bool) (l : block.Line) (u : ℕ) (m : Mode) → mode_in u (stands (block.line_after_grants b l)) ≡ Some m → mode_in u (stands l) ≡ Some m
passed_comes true l u m is = elim (block.is_empty l.holders) as (λ e. mode_in u (stands (if e then record { holders = l.holders; queue = [] } else l)) ≡ Some m → mode_in u (stands l) ≡ Some m) [
  | true ↦ λ is. in_front u l.holders l.queue m (ap (mode_in u) (sym (append-nil l.holders)) ∙ is)
  | false ↦ λ is. is
] is
passed_comes false l u m is = ap (mode_in u) (sym (passed_same false l refl)) ∙ is

pub once_tail : (xs ys : List (ℕ × Mode)) → block_steps.StandOnce (xs ++ ys) → block_steps.StandOnce ys
once_tail [] ys once = once
once_tail (one ∷ rest) ys once = once_tail rest ys once.1

suffix_mode : (u : ℕ) (front rest : List (ℕ × Mode)) (m : Mode) → block_steps.StandOnce (front ++ rest) → mode_in u rest ≡ Some m → mode_in u (front ++ rest) ≡ Some m
suffix_mode u front rest m once is = elim (mode_in u front) as (λ o. mode_in u front ≡ o → mode_in u (front ++ rest) ≡ Some m) [
  | Some k ↦ λ there. absurd (let none : mode_in u rest ≡ None = once_back u front rest once (ap (λ (o : Option Mode). is_some o) there) in cc (none, is))
  | None ↦ λ none. mode_skips u front rest none ∙ is
] refl

pub passed_queue : (b : Bool) (l : block.Line) (u : ℕ) (m : Mode) → block_steps.StandOnce l.queue → mode_in u (block.line_after_grants b l).queue ≡ Some m → mode_in u l.queue ≡ Some m
passed_queue true l u m once is = elim (block.is_empty l.holders) as (λ e. mode_in u (if e then record { holders = l.holders; queue = [] } else l).queue ≡ Some m → mode_in u l.queue ≡ Some m) [
  | true ↦ λ is. cc is
  | false ↦ λ is. is
] is
passed_queue false l u m once is =
    let splits = queue_splits l.holders l.queue in
    ap (mode_in u) splits ∙ suffix_mode u (block.front_that_fits l.holders l.queue) (block.rest_that_waits l.holders l.queue) m (subst block_steps.StandOnce splits once) is

-- A HOLD ENDS
pub returned_kept : (w : List (ℕ × ℕ)) (loan : Option Loan) (st : block.State) → (block.line (returned w loan st) ≡ block.line st) × ((returned w loan st).destroyed ≡ st.destroyed)
returned_kept w None st = (refl, refl)
returned_kept w (Some l) st = elim (is_exclusive l.mode) as (λ b. (block.line (if b then block_steps.with_words st None (written w l.began) else st) ≡ block.line st) × ((if b then block_steps.with_words st None (written w l.began) else st).destroyed ≡ st.destroyed)) [ true ↦ (refl, refl) | false ↦ (refl, refl) ]

ended_line : (t : ℕ) (w : List (ℕ × ℕ)) (loan : Option Loan) (st : block.State) → block.line (hold_ended block_steps.after_release t w loan st) ≡ block.line_after_grants st.destroyed (block.line_without t (block.line st))
ended_line t w loan st =
    let kept = returned_kept w loan st in
    ap (λ (b : Bool). block.line_after_grants b (block.line_without t (block.line (returned w loan st)))) kept.1 ∙ ap (λ (l : block.Line). block.line_after_grants st.destroyed (block.line_without t l)) kept.0

ended_gone : (t : ℕ) (w : List (ℕ × ℕ)) (loan : Option Loan) (st : block.State) → block.is_gone (hold_ended block_steps.after_release t w loan st) ≡ block.is_line_gone st.destroyed (block.line_after_grants st.destroyed (block.line_without t (block.line st)))
ended_gone t w loan st = ap (λ (b : Bool). block.is_line_gone b (block.line (hold_ended block_steps.after_release t w loan st))) (returned_kept w loan st).1 ∙ ap (block.is_line_gone st.destroyed) (ended_line t w loan st)

pub ended_keeps : (t : ℕ) (w : List (ℕ × ℕ)) (loan : Option Loan) (st : block.State) → is_some (mode_in t st.holders) ≡ true → block_steps.StandOnce (stands (block.line st)) → Keeps t (part.Block st) (part.Block (hold_ended block_steps.after_release t w loan st))
ended_keeps t w loan st holder once =
    let left : block.Line = block.line_without t (block.line st) in
    let line : block.line (hold_ended block_steps.after_release t w loan st) ≡ block.line_after_grants st.destroyed left = ended_line t w loan st in
    record {
      gone = λ live. holder_lives t st holder;
      stays = λ u m apart live is.
          let alive : block.is_line_gone st.destroyed (block.line_after_grants st.destroyed left) ≡ false = sym (ended_gone t w loan st) ∙ live in
          ap (λ (l : block.Line). mode_in u (stands l)) line ∙ ap (mode_in u) (passed_same st.destroyed left alive) ∙ without_other t u st.holders st.queue apart ∙ is;
      comes = λ u m apart is.
          sym (without_other t u st.holders st.queue apart) ∙ passed_comes st.destroyed left u m (ap (λ (l : block.Line). mode_in u (stands l)) (sym line) ∙ is);
      queued = λ u m apart is. passed_queue st.destroyed left u m (once_tail st.holders st.queue once) (ap (λ (l : block.Line). mode_in u l.queue) (sym line) ∙ is);
    }

pub ended_unqueued : (t : ℕ) (w : List (ℕ × ℕ)) (loan : Option Loan) (st : block.State) (m : Mode) → is_some (mode_in t st.holders) ≡ true → block_steps.StandOnce (stands (block.line st))
    → mode_in t (queue_on (part.Block (hold_ended block_steps.after_release t w loan st))) ≡ Some m → ⊥
ended_unqueued t w loan st m holder once is =
    let left : block.Line = block.line_without t (block.line st) in
    let was : mode_in t st.queue ≡ Some m = passed_queue st.destroyed left t m (once_tail st.holders st.queue once) (ap (λ (l : block.Line). mode_in t l.queue) (sym (ended_line t w loan st)) ∙ is) in
    let none : mode_in t st.queue ≡ None = once_back t st.holders st.queue once holder in
    cc (was, none)

pub ended_leaves : (t : ℕ) (w : List (ℕ × ℕ)) (loan : Option Loan) (st : block.State) (m : Mode) → is_some (mode_in t st.holders) ≡ true → block_steps.StandOnce (stands (block.line st))
    → mode_in t (standing (part.Block (hold_ended block_steps.after_release t w loan st))) ≡ Some m → ⊥
ended_leaves t w loan st m holder once is =
    let left : block.Line = block.line_without t (block.line st) in
    let was : mode_in t (stands left) ≡ Some m = passed_comes st.destroyed left t m (ap (λ (l : block.Line). mode_in t (stands l)) (sym (ended_line t w loan st)) ∙ is) in
    let none : mode_in t (stands left) ≡ None = mode_skips t (block.without t st.holders) st.queue (without_own t st.holders) ∙ once_back t st.holders st.queue once holder in
    cc (was, none)

-- A BLOCK IS ASKED FOR: who asks comes last
pub record IsPushed (t : ℕ) (m : Mode) (st new : block.State) : Type 0 where
  pub gone : block.is_gone new ≡ block.is_gone st
  pub stood : (stands (block.line new) ≡ stands (block.line st)) ⊎ (stands (block.line new) ≡ stands (block.line st) ++ (t, m) ∷ [])
  pub own : mode_in t (stands (block.line new)) ≡ Some m
  pub queue : (new.queue ≡ st.queue) ⊎ (new.queue ≡ st.queue ++ (t, m) ∷ [])

pushed_queue : (t u : ℕ) (m k : Mode) (old new : List (ℕ × Mode)) → (t == u) ≡ false → (new ≡ old) ⊎ (new ≡ old ++ (t, m) ∷ []) → mode_in u new ≡ Some k → mode_in u old ≡ Some k
pushed_queue t u m k old new apart (inl same) is = ap (mode_in u) (sym same) ∙ is
pushed_queue t u m k old new apart (inr more) is = sym (push_other t u m old apart) ∙ ap (mode_in u) (sym more) ∙ is

pub pushed_keeps : (t : ℕ) (m : Mode) (st new : block.State) → IsPushed t m st new → Keeps t (part.Block st) (part.Block new)
pushed_keeps t m st new pushed = elim pushed.stood [
  | inl same ↦ record { gone = λ live. sym pushed.gone ∙ live; stays = λ u k apart live is. ap (mode_in u) same ∙ is; comes = λ u k apart is. ap (mode_in u) (sym same) ∙ is; queued = λ u k apart is. pushed_queue t u m k st.queue new.queue apart pushed.queue is }
  | inr more ↦ record {
    gone = λ live. sym pushed.gone ∙ live;
    stays = λ u k apart live is. ap (mode_in u) more ∙ push_other t u m (stands (block.line st)) apart ∙ is;
    comes = λ u k apart is. sym (push_other t u m (stands (block.line st)) apart) ∙ ap (mode_in u) (sym more) ∙ is;
    queued = λ u k apart is. pushed_queue t u m k st.queue new.queue apart pushed.queue is;
  }
]

lent_kept : (t : ℕ) (m : Mode) (st : block.State) → (block.line (lent_if t m st) ≡ block.line st) × ((lent_if t m st).destroyed ≡ st.destroyed)
lent_kept t m st = elim (is_exclusive m) as (λ b. (block.line (if b then block_steps.after_lend st t else st) ≡ block.line st) × ((if b then block_steps.after_lend st t else st).destroyed ≡ st.destroyed)) [ true ↦ (refl, refl) | false ↦ (refl, refl) ]

second : {A : Type 0} (b c : Bool) (x y z : A) → b ≡ false → c ≡ true → (if b then x else if c then y else z) ≡ y
second true c x y z off on = cc off
second false true x y z off on = refl
second false false x y z off on = cc on

third : {A : Type 0} (b c : Bool) (x y z : A) → b ≡ false → c ≡ false → (if b then x else if c then y else z) ≡ z
third true c x y z off other = cc off
third false true x y z off other = cc other
third false false x y z off other = refl

can_empty : (d x y : Bool) → (not d && (x && y)) ≡ true → x ≡ true
can_empty true x y is = cc is
can_empty false true y is = refl
can_empty false false y is = cc is

pushed_last : (holders queue : List (ℕ × Mode)) (one : ℕ × Mode) → block.is_empty queue ≡ true → (holders ++ one ∷ []) ++ queue ≡ (holders ++ queue) ++ one ∷ []
pushed_last holders [] one is = append-nil (holders ++ one ∷ []) ∙ ap (λ (h : List (ℕ × Mode)). h ++ one ∷ []) (sym (append-nil holders))
pushed_last holders (other ∷ rest) one is = cc is

pub taken_pushed : (t : ℕ) (m : Mode) (st : block.State) → IsTaken t m st → IsPushed t m st (granted t m st)
taken_pushed t m st taken = elim taken.fit [
  | inl held ↦
      let asked : asked_if t m st ≡ st = ap (λ (o : Option Mode). if is_some o then st else block_steps.after_ask st t m) held in
      let line : block.line (granted t m st) ≡ block.line st = (lent_kept t m (asked_if t m st)).0 ∙ ap block.line asked in
      let dead : (granted t m st).destroyed ≡ st.destroyed = (lent_kept t m (asked_if t m st)).1 ∙ ap (λ (x : block.State). x.destroyed) asked in
      record {
        gone = ap (λ (b : Bool). block.is_line_gone b (block.line (granted t m st))) dead ∙ ap (block.is_line_gone st.destroyed) line;
        stood = inl (ap stands line);
        own = ap (λ (l : block.Line). mode_in t (stands l)) line ∙ in_front t st.holders st.queue m held;
        queue = inl (ap (λ (l : block.Line). l.queue) line);
      }
  | inr free ↦
      let alive : st.destroyed ≡ false = not_first st.destroyed _ free.grantable in
      let new : block.Line = record { holders = st.holders ++ (t, m) ∷ []; queue = st.queue } in
      let joins : block.line_after_ask st.destroyed (block.line st) t m ≡ new = second _ _ _ _ _ (and_left st.destroyed _ alive) free.grantable in
      let asked : asked_if t m st ≡ block_steps.after_ask st t m = ap (λ (o : Option Mode). if is_some o then st else block_steps.after_ask st t m) free.newcomer.no_holder in
      let line : block.line (granted t m st) ≡ new = (lent_kept t m (asked_if t m st)).0 ∙ ap block.line asked ∙ joins in
      let dead : (granted t m st).destroyed ≡ false = (lent_kept t m (asked_if t m st)).1 ∙ ap (λ (x : block.State). x.destroyed) asked ∙ alive in
      let last : stands new ≡ stands (block.line st) ++ (t, m) ∷ [] = pushed_last st.holders st.queue (t, m) (can_empty st.destroyed _ _ free.grantable) in
      record {
        gone = and_left _ _ dead ∙ sym (and_left st.destroyed _ alive);
        stood = inr (ap stands line ∙ last);
        own = ap (λ (l : block.Line). mode_in t (stands l)) line ∙ ap (mode_in t) last ∙ mode_added t m (stands (block.line st)) (none_both t st.holders st.queue free.newcomer.no_holder free.newcomer.not_waiting);
        queue = inl (ap (λ (l : block.Line). l.queue) line);
      }
]

pub refused_pushed : (t : ℕ) (m : Mode) (st : block.State) → IsRefused t m st → IsPushed t m st (block_steps.after_ask st t m)
refused_pushed t m st refused =
    let new : block.Line = record { holders = st.holders; queue = st.queue ++ (t, m) ∷ [] } in
    let line : block.line (block_steps.after_ask st t m) ≡ new = third _ _ _ _ _ refused.not_gone refused.not_grantable in
    let last : stands new ≡ stands (block.line st) ++ (t, m) ∷ [] = sym (append_assoc st.holders st.queue ((t, m) ∷ [])) in
    record {
      gone = ap (block.is_line_gone st.destroyed) line;
      stood = inr (ap stands line ∙ last);
      own = ap (λ (l : block.Line). mode_in t (stands l)) line ∙ ap (mode_in t) last ∙ mode_added t m (stands (block.line st)) (none_both t st.holders st.queue refused.newcomer.no_holder refused.newcomer.not_waiting);
      queue = inr (ap (λ (l : block.Line). l.queue) line);
    }

-- who acquires a block does not stand in its queue
pub taken_unqueued : (t : ℕ) (m : Mode) (st : block.State) → IsTaken t m st → block_steps.StandOnce (stands (block.line st)) → mode_in t (granted t m st).queue ≡ None
taken_unqueued t m st taken once = elim taken.fit [
  | inl held ↦
      let asked : asked_if t m st ≡ st = ap (λ (o : Option Mode). if is_some o then st else block_steps.after_ask st t m) held in
      let line : block.line (granted t m st) ≡ block.line st = (lent_kept t m (asked_if t m st)).0 ∙ ap block.line asked in
      ap (λ (l : block.Line). mode_in t l.queue) line ∙ once_back t st.holders st.queue once (ap (λ (o : Option Mode). is_some o) held)
  | inr free ↦
      let alive : st.destroyed ≡ false = not_first st.destroyed _ free.grantable in
      let new : block.Line = record { holders = st.holders ++ (t, m) ∷ []; queue = st.queue } in
      let joins : block.line_after_ask st.destroyed (block.line st) t m ≡ new = second _ _ _ _ _ (and_left st.destroyed _ alive) free.grantable in
      let asked : asked_if t m st ≡ block_steps.after_ask st t m = ap (λ (o : Option Mode). if is_some o then st else block_steps.after_ask st t m) free.newcomer.no_holder in
      let line : block.line (granted t m st) ≡ new = (lent_kept t m (asked_if t m st)).0 ∙ ap block.line asked ∙ joins in
      ap (λ (l : block.Line). mode_in t l.queue) line ∙ free.newcomer.not_waiting
]

pub refused_queue : (t : ℕ) (m k : Mode) (st : block.State) → IsRefused t m st → mode_in t (block_steps.after_ask st t m).queue ≡ Some k → m ≡ k
refused_queue t m k st refused is =
    let new : block.Line = record { holders = st.holders; queue = st.queue ++ (t, m) ∷ [] } in
    let line : block.line (block_steps.after_ask st t m) ≡ new = third _ _ _ _ _ refused.not_gone refused.not_grantable in
    let both : Some m ≡ Some k = sym (mode_added t m st.queue refused.newcomer.not_waiting) ∙ ap (λ (l : block.Line). mode_in t l.queue) (sym line) ∙ is in
    cc
