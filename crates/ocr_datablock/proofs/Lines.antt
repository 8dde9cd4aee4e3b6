-- Who holds a block and who waits for it, from call to call.
use Rattle.std.proofs.Common.{◌≡◌, ◌≢◌, ℕ, List, [], ◌∷◌, ◌++◌, Bool, true, false, ◌&&◌, not, ◌==◌, if◌then◌else◌, Option, Some, None, is_some, arith, refl, rules, sym, ◌∙◌, ap, subst, append_assoc, take, drop, drop-cons, get_or, length, add-one, ◌+◌, ◌<◌}
use Rattle.std.proofs.lemmas.Grind.{common_steps}
use Rattle.std.proofs.lemmas.Bool.{and_parts, and_from, cond_both, eqb-true}
use Rattle.std.proofs.lemmas.Bool.Decides.{nat_tests}
use Rattle.std.proofs.lemmas.List.{append-nil, take-append-drop, take_more}
use Rattle.ocr_acquire.specs.declared.Mode.{Mode}
use Rattle.ocr_acquire.specs.declared.Mode.TheVariants as mode
use Rattle.ocr_acquire.specs.Mode.{together, fits_all, mode_in}
use Rattle.ocr_datablock.specs.Block.{Line, is_empty, names, without, front_that_fits, rest_that_waits, is_line_gone, can_grant, line_after_ask, line_without, leavers, line_after_grants, GoTogether, IsLentTo}
use Rattle.ocr_datablock.specs.Steps.{StandOnce}

-- THE ORDER OF THE QUEUE.
pub queue_splits : (holders queue : List (ℕ × Mode)) → queue ≡ front_that_fits holders queue ++ rest_that_waits holders queue
queue_splits holders [] = refl
queue_splits holders (one ∷ rest) = elim (fits_all one.1 holders) as (λ b. one ∷ rest ≡ (if b then one ∷ front_that_fits (holders ++ one ∷ []) rest else []) ++ (if b then rest_that_waits (holders ++ one ∷ []) rest else one ∷ rest)) [
  | true ↦ ap (λ (tail : List (ℕ × Mode)). one ∷ tail) (queue_splits (holders ++ one ∷ []) rest)
  | false ↦ refl
]

pub line_splits : (destroyed : Bool) (line : Line) → line.queue ≡ leavers destroyed line ++ (line_after_grants destroyed line).queue
line_splits false line = queue_splits line.holders line.queue
line_splits true line = elim (is_empty line.holders) as (λ b. line.queue ≡ (if b then line.queue else []) ++ (if b then record { holders = line.holders; queue = [] } else line).queue) [
  | true ↦ sym (append-nil line.queue)
  | false ↦ refl
]

names-append : (first second : List (ℕ × Mode)) → names (first ++ second) ≡ names first ++ names second
names-append [] second = refl
names-append (one ∷ rest) second = ap (λ (tail : List ℕ). one.0 ∷ tail) (names-append rest second)

pub names_split : (destroyed : Bool) (line : Line) → names line.queue ≡ names (leavers destroyed line) ++ names (line_after_grants destroyed line).queue
names_split destroyed line = ap names (line_splits destroyed line) ∙ names-append (leavers destroyed line) (line_after_grants destroyed line).queue

-- WHO HOLDS A BLOCK GOES TOGETHER.
together_flips : (one other : Mode) → together one other ≡ together other one
together_flips mode.Null other = elim other as (λ m. together mode.Null m ≡ together m mode.Null) [ mode.Null ↦ refl | mode.Ro ↦ refl | mode.Const ↦ refl | mode.Rw ↦ refl | mode.Ew ↦ refl ]
together_flips mode.Ro other = elim other as (λ m. together mode.Ro m ≡ together m mode.Ro) [ mode.Null ↦ refl | mode.Ro ↦ refl | mode.Const ↦ refl | mode.Rw ↦ refl | mode.Ew ↦ refl ]
together_flips mode.Const other = elim other as (λ m. together mode.Const m ≡ together m mode.Const) [ mode.Null ↦ refl | mode.Ro ↦ refl | mode.Const ↦ refl | mode.Rw ↦ refl | mode.Ew ↦ refl ]
together_flips mode.Rw other = elim other as (λ m. together mode.Rw m ≡ together m mode.Rw) [ mode.Null ↦ refl | mode.Ro ↦ refl | mode.Const ↦ refl | mode.Rw ↦ refl | mode.Ew ↦ refl ]
together_flips mode.Ew other = elim other as (λ m. together mode.Ew m ≡ together m mode.Ew) [ mode.Null ↦ refl | mode.Ro ↦ refl | mode.Const ↦ refl | mode.Rw ↦ refl | mode.Ew ↦ refl ]

pub never_with_writer : (m : Mode) → together m mode.Ew ≡ false
never_with_writer mode.Null = refl
never_with_writer mode.Ro = refl
never_with_writer mode.Const = refl
never_with_writer mode.Rw = refl
never_with_writer mode.Ew = refl

pub writer_with_none : (m : Mode) → together mode.Ew m ≡ false
writer_with_none m = together_flips mode.Ew m ∙ never_with_writer m

fits_push : (m : Mode) (holders : List (ℕ × Mode)) (one : ℕ × Mode) → fits_all m holders ≡ true → together m one.1 ≡ true → fits_all m (holders ++ one ∷ []) ≡ true
fits_push m [] one all last = rw last refl
fits_push m (first ∷ rest) one all last =
    let parts = and_parts (together m first.1) (fits_all m rest) all in
    and_from _ _ parts.0 (fits_push m rest one parts.1 last)

together_push : (holders : List (ℕ × Mode)) (one : ℕ × Mode) → GoTogether holders → fits_all one.1 holders ≡ true → GoTogether (holders ++ one ∷ [])
together_push [] one all fits = (refl, tt)
together_push (first ∷ rest) one all fits =
    let parts = and_parts (together one.1 first.1) (fits_all one.1 rest) fits in
    (fits_push first.1 rest one all.0 (together_flips first.1 one.1 ∙ parts.0), together_push rest one all.1 parts.1)

together_front : (holders queue : List (ℕ × Mode)) → GoTogether holders → GoTogether (holders ++ front_that_fits holders queue)
together_front holders [] all = subst GoTogether (sym (append-nil holders)) all
together_front holders (one ∷ rest) all =
    cond_both (fits_all one.1 holders) (one ∷ front_that_fits (holders ++ one ∷ []) rest) [] (λ (front : List (ℕ × Mode)). GoTogether (holders ++ front))
    (λ fits. subst GoTogether (append_assoc holders (one ∷ []) (front_that_fits (holders ++ one ∷ []) rest))
    (together_front (holders ++ one ∷ []) rest (together_push holders one all fits)))
    (λ _. subst GoTogether (sym (append-nil holders)) all)

fits_without : (m : Mode) (t : ℕ) (holders : List (ℕ × Mode)) → fits_all m holders ≡ true → fits_all m (without t holders) ≡ true
fits_without m t [] all = refl
fits_without m t (first ∷ rest) all =
    let parts = and_parts (together m first.1) (fits_all m rest) all in
    cond_both (first.0 == t) (without t rest) (first ∷ without t rest) (λ (kept : List (ℕ × Mode)). fits_all m kept ≡ true)
    (λ _. fits_without m t rest parts.1)
    (λ _. and_from _ _ parts.0 (fits_without m t rest parts.1))

together_without : (t : ℕ) (holders : List (ℕ × Mode)) → GoTogether holders → GoTogether (without t holders)
together_without t [] all = tt
together_without t (first ∷ rest) all =
    cond_both (first.0 == t) (without t rest) (first ∷ without t rest) GoTogether
    (λ _. together_without t rest all.1)
    (λ _. (fits_without first.1 t rest all.0, together_without t rest all.1))

pub together_joined : (destroyed : Bool) (line : Line) (t : ℕ) (m : Mode) → GoTogether line.holders → GoTogether (line_after_ask destroyed line t m).holders
together_joined destroyed line t m all =
    cond_both (is_line_gone destroyed line) line _ (λ (after : Line). GoTogether after.holders)
    (λ _. all)
    (λ _. cond_both (can_grant destroyed line m) (record { holders = line.holders ++ (t, m) ∷ []; queue = line.queue }) (record { holders = line.holders; queue = line.queue ++ (t, m) ∷ [] }) (λ (after : Line). GoTogether after.holders)
    (λ can. together_push line.holders (t, m) all (and_parts _ _ (and_parts _ _ can).1).1)
    (λ _. all))

pub together_passed : (destroyed : Bool) (line : Line) → GoTogether line.holders → GoTogether (line_after_grants destroyed line).holders
together_passed false line all = together_front line.holders line.queue all
together_passed true line all =
    cond_both (is_empty line.holders) (record { holders = line.holders; queue = [] }) line (λ (after : Line). GoTogether after.holders) (λ _. all) (λ _. all)

pub together_left : (t : ℕ) (line : Line) → GoTogether line.holders → GoTogether (line_without t line).holders
together_left t line all = together_without t line.holders all

-- any two of them do
fits_holder : (m n : Mode) (t : ℕ) (holders : List (ℕ × Mode)) → fits_all m holders ≡ true → mode_in t holders ≡ Some n → together m n ≡ true
fits_holder m n t [] fits is = cc is
fits_holder m n t (first ∷ rest) fits is =
    let parts = and_parts (together m first.1) (fits_all m rest) fits in
    elim (first.0 == t) as (λ b. (if b then Some first.1 else mode_in t rest) ≡ Some n → together m n ≡ true) [
      | true ↦ λ here. let same : first.1 ≡ n = cc here in subst (λ (k : Mode). together m k ≡ true) same parts.0
      | false ↦ λ later. fits_holder m n t rest parts.1 later
    ] is

pub holders_together : (t u : ℕ) (m n : Mode) (holders : List (ℕ × Mode)) → GoTogether holders → (t == u) ≡ false → mode_in t holders ≡ Some m → mode_in u holders ≡ Some n → together m n ≡ true
holders_together t u m n [] all apart one other = cc one
holders_together t u m n (first ∷ rest) all apart one other =
    elim (first.0 == t) as (λ b. (first.0 == t) ≡ b → (if b then Some first.1 else mode_in t rest) ≡ Some m → together m n ≡ true) [
      | true ↦ λ is here.
          let off : (first.0 == u) ≡ false = subst (λ (k : ℕ). (k == u) ≡ false) (sym (eqb-true first.0 t is)) apart in
          let same : first.1 ≡ m = cc here in
          subst (λ (k : Mode). together k n ≡ true) same (fits_holder first.1 n u rest all.0 (rw off at other))
      | false ↦ λ _ later. elim (first.0 == u) as (λ b. (if b then Some first.1 else mode_in u rest) ≡ Some n → together m n ≡ true) [
        | true ↦ λ here.
            let same : first.1 ≡ n = cc here in
            subst (λ (k : Mode). together m k ≡ true) same (together_flips m first.1 ∙ fits_holder first.1 m t rest all.0 later)
        | false ↦ λ last. holders_together t u m n rest all.1 apart later last
      ] other
    ] refl one

-- WHO WAITS HAS A REASON.
abbrev pub IsStuck : Bool → List (ℕ × Mode) → List (ℕ × Mode) → Type 0
IsStuck destroyed holders [] = Unit {0}
IsStuck destroyed holders (one ∷ rest) = (is_empty holders ≡ false) × (destroyed ≡ false → fits_all one.1 holders ≡ false)

pub stuck_at : (destroyed : Bool) (holders queue : List (ℕ × Mode)) (one : ℕ × Mode) (rest : List (ℕ × Mode)) → IsStuck destroyed holders queue → queue ≡ one ∷ rest
    → (is_empty holders ≡ false) × (destroyed ≡ false → fits_all one.1 holders ≡ false)
stuck_at destroyed holders queue one rest stuck is = subst (λ (waiting : List (ℕ × Mode)). IsStuck destroyed holders waiting) is stuck

not_empty : (m : Mode) (holders : List (ℕ × Mode)) → fits_all m holders ≡ false → is_empty holders ≡ false
not_empty m [] is = cc
not_empty m (one ∷ rest) is = refl

stuck_rest : (holders queue : List (ℕ × Mode)) → IsStuck false (holders ++ front_that_fits holders queue) (rest_that_waits holders queue)
stuck_rest holders [] = tt
stuck_rest holders (one ∷ rest) =
    elim (fits_all one.1 holders) as (λ b. fits_all one.1 holders ≡ b → IsStuck false (holders ++ (if b then one ∷ front_that_fits (holders ++ one ∷ []) rest else [])) (if b then rest_that_waits (holders ++ one ∷ []) rest else one ∷ rest)) [
      | true ↦ λ _. subst (λ (all : List (ℕ × Mode)). IsStuck false all (rest_that_waits (holders ++ one ∷ []) rest)) (append_assoc holders (one ∷ []) (front_that_fits (holders ++ one ∷ []) rest)) (stuck_rest (holders ++ one ∷ []) rest)
      | false ↦ λ is. subst (λ (all : List (ℕ × Mode)). IsStuck false all (one ∷ rest)) (sym (append-nil holders)) (not_empty one.1 holders is, λ _. is)
    ] refl

stuck_held : (holders queue : List (ℕ × Mode)) → is_empty holders ≡ false → IsStuck true holders queue
stuck_held holders [] is = tt
stuck_held holders (one ∷ rest) is = (is, λ h. cc)

pub stuck_passed : (destroyed : Bool) (line : Line) → IsStuck destroyed (line_after_grants destroyed line).holders (line_after_grants destroyed line).queue
stuck_passed false line = stuck_rest line.holders line.queue
stuck_passed true line = elim (is_empty line.holders) as (λ b. is_empty line.holders ≡ b → IsStuck true (if b then record { holders = line.holders; queue = [] } else line).holders (if b then record { holders = line.holders; queue = [] } else line).queue) [
  | true ↦ λ _. tt
  | false ↦ λ is. stuck_held line.holders line.queue is
] refl

stuck_queued : (destroyed : Bool) (holders queue : List (ℕ × Mode)) (t : ℕ) (m : Mode) → (destroyed && is_empty holders) ≡ false
    → (not destroyed && (is_empty queue && fits_all m holders)) ≡ false → IsStuck destroyed holders queue → IsStuck destroyed holders (queue ++ (t, m) ∷ [])
stuck_queued true holders [] t m held refused stuck = (held, λ h. cc)
stuck_queued false holders [] t m held refused stuck = (not_empty m holders refused, λ _. refused)
stuck_queued destroyed holders (one ∷ rest) t m held refused stuck = stuck

stuck_granted : (destroyed : Bool) (holders queue more : List (ℕ × Mode)) → is_empty queue ≡ true → IsStuck destroyed more queue
stuck_granted destroyed holders [] more is = tt
stuck_granted destroyed holders (one ∷ rest) more is = cc

pub stuck_joined : (destroyed : Bool) (line : Line) (t : ℕ) (m : Mode) → IsStuck destroyed line.holders line.queue
    → IsStuck destroyed (line_after_ask destroyed line t m).holders (line_after_ask destroyed line t m).queue
stuck_joined destroyed line t m stuck =
    cond_both (is_line_gone destroyed line) line _ (λ (after : Line). IsStuck destroyed after.holders after.queue)
    (λ _. stuck)
    (λ held. cond_both (can_grant destroyed line m) (record { holders = line.holders ++ (t, m) ∷ []; queue = line.queue }) (record { holders = line.holders; queue = line.queue ++ (t, m) ∷ [] }) (λ (after : Line). IsStuck destroyed after.holders after.queue)
    (λ can. stuck_granted destroyed line.holders line.queue (line.holders ++ (t, m) ∷ []) (and_parts _ _ (and_parts _ _ can).1).0)
    (λ refused. stuck_queued destroyed line.holders line.queue t m held refused stuck))

-- A BLOCK THAT IS GONE.
empty_is : (list : List (ℕ × Mode)) → is_empty list ≡ true → list ≡ []
empty_is [] is = refl
empty_is (one ∷ rest) is = cc

empty_without : (t : ℕ) (list : List (ℕ × Mode)) → is_empty list ≡ true → is_empty (without t list) ≡ true
empty_without t [] is = refl
empty_without t (one ∷ rest) is = cc

pub gone_joined : (destroyed : Bool) (line : Line) (t : ℕ) (m : Mode) → is_line_gone destroyed line ≡ true → is_line_gone destroyed (line_after_ask destroyed line t m) ≡ true
gone_joined destroyed line t m is = rw is is

pub gone_passed : (t : ℕ) (line : Line) → is_empty line.holders ≡ true → is_line_gone true (line_after_grants true (line_without t line)) ≡ true
gone_passed t line is = let still : is_empty (without t line.holders) ≡ true = empty_without t line.holders is in rw still still

pub gone_queue : (destroyed : Bool) (holders queue : List (ℕ × Mode)) → IsStuck destroyed holders queue → (destroyed && is_empty holders) ≡ true → queue ≡ []
gone_queue destroyed holders [] stuck is = refl
gone_queue destroyed holders (one ∷ rest) stuck is = let parts = and_parts destroyed (is_empty holders) is in absurd (grind (arith, common_steps, parts.1, stuck.0))

-- NOBODY STANDS TWICE.
none_push : (t : ℕ) (list : List (ℕ × Mode)) (one : ℕ × Mode) → mode_in t list ≡ None → (one.0 == t) ≡ false → mode_in t (list ++ one ∷ []) ≡ None
none_push t [] one none apart = rw apart refl
none_push t (first ∷ rest) one none apart = grind (arith, common_steps, none_push t rest one)

pub none_both : (t : ℕ) (first second : List (ℕ × Mode)) → mode_in t first ≡ None → mode_in t second ≡ None → mode_in t (first ++ second) ≡ None
none_both t [] second none none' = none'
none_both t (one ∷ rest) second none none' = grind (arith, common_steps, none_both t rest second)

pub once_push : (list : List (ℕ × Mode)) (t : ℕ) (m : Mode) → StandOnce list → mode_in t list ≡ None → StandOnce (list ++ (t, m) ∷ [])
once_push [] t m once none = (refl, tt)
once_push (first ∷ rest) t m once none =
    let later : mode_in t rest ≡ None = grind (arith, common_steps) in
    let apart : (t == first.0) ≡ false = grind (arith, common_steps, nat_tests) in
    (none_push first.0 rest (t, m) once.0 apart, once_push rest t m once.1 later)

none_without : (t u : ℕ) (list others : List (ℕ × Mode)) → mode_in u (list ++ others) ≡ None → mode_in u (without t list ++ others) ≡ None
none_without t u [] others none = none
none_without t u (first ∷ rest) others none = grind (arith, common_steps, none_without t u rest others)

once_without : (t : ℕ) (list others : List (ℕ × Mode)) → StandOnce (list ++ others) → StandOnce (without t list ++ others)
once_without t [] others once = once
once_without t (first ∷ rest) others once =
    cond_both (first.0 == t) (without t rest) (first ∷ without t rest) (λ (kept : List (ℕ × Mode)). StandOnce (kept ++ others))
    (λ _. once_without t rest others once.1)
    (λ _. (none_without t first.0 rest others once.0, once_without t rest others once.1))

pub once_left : (t : ℕ) (line : Line) → StandOnce (line.holders ++ line.queue) → StandOnce ((line_without t line).holders ++ (line_without t line).queue)
once_left t line once = once_without t line.holders line.queue once

pub once_passed : (destroyed : Bool) (line : Line) → StandOnce (line.holders ++ line.queue) → StandOnce ((line_after_grants destroyed line).holders ++ (line_after_grants destroyed line).queue)
once_passed false line once =
    subst StandOnce (ap (λ (tail : List (ℕ × Mode)). line.holders ++ tail) (queue_splits line.holders line.queue)
    ∙ sym (append_assoc line.holders (front_that_fits line.holders line.queue) (rest_that_waits line.holders line.queue))) once
once_passed true line once = elim (is_empty line.holders) as (λ b. is_empty line.holders ≡ b → StandOnce ((if b then record { holders = line.holders; queue = [] } else line).holders ++ (if b then record { holders = line.holders; queue = [] } else line).queue)) [
  | true ↦ λ is. subst (λ (list : List (ℕ × Mode)). StandOnce (list ++ [])) (sym (empty_is line.holders is)) tt
  | false ↦ λ _. once
] refl

once_granted : (holders queue : List (ℕ × Mode)) (t : ℕ) (m : Mode) → is_empty queue ≡ true → StandOnce (holders ++ queue) → mode_in t holders ≡ None → StandOnce ((holders ++ (t, m) ∷ []) ++ queue)
once_granted holders [] t m is once none =
    subst StandOnce (sym (append-nil (holders ++ (t, m) ∷ []))) (once_push holders t m (subst StandOnce (append-nil holders) once) none)
once_granted holders (one ∷ rest) t m is once none = cc

pub once_joined : (destroyed : Bool) (line : Line) (t : ℕ) (m : Mode) → mode_in t line.holders ≡ None → mode_in t line.queue ≡ None
    → StandOnce (line.holders ++ line.queue) → StandOnce ((line_after_ask destroyed line t m).holders ++ (line_after_ask destroyed line t m).queue)
once_joined destroyed line t m holds waits once =
    cond_both (is_line_gone destroyed line) line _ (λ (after : Line). StandOnce (after.holders ++ after.queue))
    (λ _. once)
    (λ held. cond_both (can_grant destroyed line m) (record { holders = line.holders ++ (t, m) ∷ []; queue = line.queue }) (record { holders = line.holders; queue = line.queue ++ (t, m) ∷ [] }) (λ (after : Line). StandOnce (after.holders ++ after.queue))
    (λ can. once_granted line.holders line.queue t m (and_parts _ _ (and_parts _ _ can).1).0 once holds)
    (λ refused. subst StandOnce (append_assoc line.holders line.queue ((t, m) ∷ [])) (once_push (line.holders ++ line.queue) t m once (none_both t line.holders line.queue holds waits))))

-- ONE WHO WRITES ALONE.
no_writer : (t : ℕ) (m : Mode) (holders : List (ℕ × Mode)) → fits_all m holders ≡ true → mode_in t holders ≢ Some mode.Ew
no_writer t m [] fits is = cc
no_writer t m (first ∷ rest) fits is =
    let parts = and_parts (together m first.1) (fits_all m rest) fits in
    elim (first.0 == t) as (λ b. (if b then Some first.1 else mode_in t rest) ≡ Some mode.Ew → ⊥) [
      | true ↦ λ same. let writes : first.1 ≡ mode.Ew = cc in let no : together m first.1 ≡ false = rw writes (never_with_writer m) in cc
      | false ↦ λ later. no_writer t m rest parts.1 later
    ] is

fits_writer : (holders : List (ℕ × Mode)) → fits_all mode.Ew holders ≡ true → holders ≡ []
fits_writer [] fits = refl
fits_writer (first ∷ rest) fits =
    let parts = and_parts (together mode.Ew first.1) (fits_all mode.Ew rest) fits in
    let no : together mode.Ew first.1 ≡ false = writer_with_none first.1 in
    cc

pub writer_alone : (t : ℕ) (holders : List (ℕ × Mode)) → GoTogether holders → mode_in t holders ≡ Some mode.Ew → holders ≡ (t, mode.Ew) ∷ []
writer_alone t [] all is = cc
writer_alone t (first ∷ rest) all is =
    elim (first.0 == t) as (λ b. (first.0 == t) ≡ b → (if b then Some first.1 else mode_in t rest) ≡ Some mode.Ew → first ∷ rest ≡ (t, mode.Ew) ∷ []) [
      | true ↦ λ here same.
          let who : first.0 ≡ t = search rules in
          let writes : first.1 ≡ mode.Ew = cc in
          let others : rest ≡ [] = fits_writer rest (rw (← writes) all.0) in
          let pair : first ≡ (t, mode.Ew) = λ i. (who i, writes i) in
          cc
      | false ↦ λ apart later. absurd (no_writer t first.1 rest all.0 later)
    ] refl is

pub alone_joined : (destroyed : Bool) (line : Line) (u t : ℕ) (m : Mode) → line.holders ≡ (u, mode.Ew) ∷ [] → (line_after_ask destroyed line t m).holders ≡ (u, mode.Ew) ∷ []
alone_joined destroyed line u t m alone =
    cond_both (is_line_gone destroyed line) line _ (λ (after : Line). after.holders ≡ (u, mode.Ew) ∷ [])
    (λ _. alone)
    (λ held. cond_both (can_grant destroyed line m) (record { holders = line.holders ++ (t, m) ∷ []; queue = line.queue }) (record { holders = line.holders; queue = line.queue ++ (t, m) ∷ [] }) (λ (after : Line). after.holders ≡ (u, mode.Ew) ∷ [])
    (λ can.
    let fits : fits_all m line.holders ≡ true = (and_parts _ _ (and_parts _ _ can).1).1 in
    let one : fits_all m ((u, mode.Ew) ∷ []) ≡ true = rw alone at fits in
    let parts = and_parts (together m mode.Ew) true one in
    let no : together m mode.Ew ≡ false = never_with_writer m in
    cc)
    (λ refused. alone))

pub alone_doomed : (line : Line) (u t : ℕ) → line.holders ≡ (u, mode.Ew) ∷ [] → (u == t) ≡ false → (line_after_grants true (line_without t line)).holders ≡ (u, mode.Ew) ∷ []
alone_doomed line u t alone apart =
    let kept : without t line.holders ≡ (u, mode.Ew) ∷ [] = rw (alone, apart) refl in
    rw kept refl

pub holds_alone : (line : Line) (u t : ℕ) → line.holders ≡ (u, mode.Ew) ∷ [] → is_some (mode_in t line.holders) ≡ true → u ≡ t
holds_alone line u t alone holds =
    let one : is_some (if u == t then Some mode.Ew else None) ≡ true = rw alone at holds in
    grind (arith, common_steps, nat_tests)

pub other_borrower : (t u : ℕ) (o : Option ℕ) → o ≡ Some t → o ≢ Some u → (t == u) ≡ false
other_borrower t u o is apart = elim (t == u) as (λ b. (t == u) ≡ b → b ≡ false) [
  | true ↦ λ same. absurd (apart (is ∙ ap (λ (x : ℕ). Some x) (search rules)))
  | false ↦ λ _. refl
] refl

-- WHO HAS THE WORDS ON LOAN.
-- somebody is granted the block, and nobody who does not fit beside its borrower
pub lent_granted : (borrower : Option ℕ) (destroyed : Bool) (line : Line) (t : ℕ) (m : Mode) → can_grant destroyed line m ≡ true
    → GoTogether line.holders → IsLentTo borrower line.holders → GoTogether (line.holders ++ (t, m) ∷ []) × IsLentTo borrower (line.holders ++ (t, m) ∷ [])
lent_granted None destroyed line t m can all lent = (together_push line.holders (t, m) all (and_parts _ _ (and_parts _ _ can).1).1, tt)
lent_granted (Some u) destroyed line t m can all lent =
    let fits : fits_all m line.holders ≡ true = (and_parts _ _ (and_parts _ _ can).1).1 in
    let one : fits_all m ((u, mode.Ew) ∷ []) ≡ true = rw lent at fits in
    let parts = and_parts (together m mode.Ew) true one in
    let no : together m mode.Ew ≡ false = never_with_writer m in
    cc

front_beside_writer : (u : ℕ) (queue : List (ℕ × Mode)) → front_that_fits ((u, mode.Ew) ∷ []) queue ≡ []
front_beside_writer u [] = refl
front_beside_writer u (one ∷ rest) = rw (never_with_writer one.1) refl

alone_passed : (destroyed : Bool) (line : Line) (u t : ℕ) → line.holders ≡ (u, mode.Ew) ∷ [] → (u == t) ≡ false → (line_after_grants destroyed (line_without t line)).holders ≡ (u, mode.Ew) ∷ []
alone_passed true line u t alone apart = alone_doomed line u t alone apart
alone_passed false line u t alone apart =
    let kept : without t line.holders ≡ (u, mode.Ew) ∷ [] = rw (alone, apart) refl in
    rw kept (rw (front_beside_writer u line.queue) refl)

-- another than the borrower gives the block up
pub lent_passed : (borrower : Option ℕ) (destroyed : Bool) (line : Line) (t : ℕ) → borrower ≢ Some t
    → GoTogether line.holders → IsLentTo borrower line.holders
    → GoTogether (line_after_grants destroyed (line_without t line)).holders × IsLentTo borrower (line_after_grants destroyed (line_without t line)).holders
lent_passed None destroyed line t apart all lent = (together_passed destroyed (line_without t line) (together_left t line all), tt)
lent_passed (Some u) destroyed line t apart all lent =
    (together_passed destroyed (line_without t line) (together_left t line all), alone_passed destroyed line u t lent (other_borrower u t (Some u) refl apart))

-- WHO STANDS WHERE.
pub without_none : (t : ℕ) (list : List (ℕ × Mode)) → mode_in t list ≡ None → without t list ≡ list
without_none t [] none = refl
without_none t (one ∷ rest) none = grind (arith, common_steps, without_none t rest)

pub without_append : (t : ℕ) (xs ys : List (ℕ × Mode)) → without t (xs ++ ys) ≡ without t xs ++ without t ys
without_append t [] ys = refl
without_append t (one ∷ rest) ys = let more = without_append t rest ys in
    elim (one.0 == t) as (λ b. (if b then without t (rest ++ ys) else one ∷ without t (rest ++ ys)) ≡ (if b then without t rest else one ∷ without t rest) ++ without t ys) [
      | true ↦ more
      | false ↦ ap (λ (tail : List (ℕ × Mode)). one ∷ tail) more
    ]

pub mode_skips : (t : ℕ) (xs ys : List (ℕ × Mode)) → mode_in t xs ≡ None → mode_in t (xs ++ ys) ≡ mode_in t ys
mode_skips t [] ys none = refl
mode_skips t (one ∷ rest) ys none = grind (arith, common_steps, mode_skips t rest ys)

pub mode_finds : (t : ℕ) (m : Mode) (xs ys : List (ℕ × Mode)) → mode_in t xs ≡ Some m → mode_in t (xs ++ ys) ≡ Some m
mode_finds t m [] ys some = cc
mode_finds t m (one ∷ rest) ys some = grind (arith, common_steps, mode_finds t m rest ys)

pub none_first : (t : ℕ) (xs ys : List (ℕ × Mode)) → mode_in t (xs ++ ys) ≡ None → mode_in t xs ≡ None
none_first t [] ys none = refl
none_first t (one ∷ rest) ys none = grind (arith, common_steps, none_first t rest ys)

pub none_second : (t : ℕ) (xs ys : List (ℕ × Mode)) → mode_in t (xs ++ ys) ≡ None → mode_in t ys ≡ None
none_second t [] ys none = none
none_second t (one ∷ rest) ys none = grind (arith, common_steps, none_second t rest ys)

-- of two lists that stand once together, each does, and none of the second is in the first
pub once_first : (xs ys : List (ℕ × Mode)) → StandOnce (xs ++ ys) → StandOnce xs
once_first [] ys once = tt
once_first (one ∷ rest) ys once = (none_first one.0 rest ys once.0, once_first rest ys once.1)

pub once_last : (xs : List (ℕ × Mode)) (one : ℕ × Mode) → StandOnce (xs ++ one ∷ []) → mode_in one.0 xs ≡ None
once_last [] one once = refl
once_last (first ∷ rest) one once =
    let apart : mode_in first.0 (one ∷ []) ≡ None = none_second first.0 rest (one ∷ []) once.0 in
    let later : mode_in one.0 rest ≡ None = once_last rest one once.1 in
    grind (arith, common_steps, nat_tests)

pub once_rest : (t : ℕ) (list : List (ℕ × Mode)) → StandOnce list → StandOnce (without t list)
once_rest t list once = subst StandOnce (append-nil (without t list)) (once_without t list [] (subst StandOnce (sym (append-nil list)) once))

pub without_first : (one : ℕ × Mode) (rest : List (ℕ × Mode)) → mode_in one.0 rest ≡ None → without one.0 (one ∷ rest) ≡ rest
without_first one rest none =
    let own : (one.0 == one.0) ≡ true = grind (arith, nat_tests) in
    rw own (without_none one.0 rest none)

pub mode_first : (one : ℕ × Mode) (rest : List (ℕ × Mode)) → mode_in one.0 (one ∷ rest) ≡ Some one.1
mode_first one rest = let own : (one.0 == one.0) ≡ true = grind (arith, nat_tests) in rw own refl

pub without_middle : (one : ℕ × Mode) (xs ys : List (ℕ × Mode)) → StandOnce (xs ++ one ∷ ys) → without one.0 (xs ++ one ∷ ys) ≡ xs ++ ys
without_middle one [] ys once = without_first one ys once.0
without_middle one (first ∷ rest) ys once =
    let apart : mode_in first.0 (one ∷ ys) ≡ None = none_second first.0 rest (one ∷ ys) once.0 in
    let more : without one.0 (rest ++ one ∷ ys) ≡ rest ++ ys = without_middle one rest ys once.1 in
    let other : (first.0 == one.0) ≡ false = grind (arith, common_steps, nat_tests) in
    rw other (ap (λ (tail : List (ℕ × Mode)). first ∷ tail) more)

-- a holder does not wait
pub none_waits : (t : ℕ) (holders queue : List (ℕ × Mode)) → StandOnce (holders ++ queue) → is_some (mode_in t holders) ≡ true → mode_in t queue ≡ None
none_waits t [] queue once holds = cc
none_waits t (one ∷ rest) queue once holds =
    elim (one.0 == t) as (λ b. (one.0 == t) ≡ b → is_some (if b then Some one.1 else mode_in t rest) ≡ true → mode_in t queue ≡ None) [
      | true ↦ λ here _. none_second t rest queue (subst (λ (k : ℕ). mode_in k (rest ++ queue) ≡ None) (eqb-true one.0 t here) once.0)
      | false ↦ λ _ later. none_waits t rest queue once.1 later
    ] refl holds

pub drop_front : (xs ys : List (ℕ × Mode)) → drop (length xs) (xs ++ ys) ≡ ys
drop_front [] ys = refl
drop_front (one ∷ rest) ys = drop_front rest ys

-- the front of the queue is granted while the hold stands that ends by it
pub once_front : (line : Line) (t : ℕ) → StandOnce (line.holders ++ line.queue) → StandOnce (line.holders ++ front_that_fits (without t line.holders) line.queue)
once_front line t once =
    let front = front_that_fits (without t line.holders) line.queue in
    let rest = rest_that_waits (without t line.holders) line.queue in
    once_first (line.holders ++ front) rest
    (subst StandOnce (ap (λ (tail : List (ℕ × Mode)). line.holders ++ tail) (queue_splits (without t line.holders) line.queue) ∙ sym (append_assoc line.holders front rest)) once)

pub front_apart : (line : Line) (t : ℕ) → StandOnce (line.holders ++ line.queue) → is_some (mode_in t line.holders) ≡ true
    → mode_in t (front_that_fits (without t line.holders) line.queue) ≡ None
front_apart line t once holds =
    let front = front_that_fits (without t line.holders) line.queue in
    let rest = rest_that_waits (without t line.holders) line.queue in
    none_first t front rest (subst (λ (queue : List (ℕ × Mode)). mode_in t queue ≡ None) (queue_splits (without t line.holders) line.queue) (none_waits t line.holders line.queue once holds))

pub replaced : (t : ℕ) (holders front : List (ℕ × Mode)) → mode_in t front ≡ None → without t (holders ++ front) ≡ without t holders ++ front
replaced t holders front apart = without_append t holders front ∙ ap (λ (tail : List (ℕ × Mode)). without t holders ++ tail) (without_none t front apart)

pub queue_passed : (line : Line) (t : ℕ) → drop (length (front_that_fits (without t line.holders) line.queue)) line.queue ≡ (line_after_grants false (line_without t line)).queue
queue_passed line t =
    let front = front_that_fits (without t line.holders) line.queue in
    let rest = rest_that_waits (without t line.holders) line.queue in
    subst (λ (queue : List (ℕ × Mode)). drop (length front) queue ≡ rest) (sym (queue_splits (without t line.holders) line.queue)) (drop_front front rest)

pub cut_at : (list : List (ℕ × Mode)) (i : ℕ) (d : ℕ × Mode) → i < length list → drop i list ≡ get_or list i d ∷ drop (i + 1) list
cut_at list i d below = rw add-one (drop-cons list i d below)

-- of those who are granted in their order, as many as there are so far
pub once_so_far : (holders front : List (ℕ × Mode)) (i : ℕ) → StandOnce (holders ++ front) → StandOnce (holders ++ take i front)
once_so_far holders front i once =
    once_first (holders ++ take i front) (drop i front)
    (subst StandOnce (ap (λ (tail : List (ℕ × Mode)). holders ++ tail) (sym (take-append-drop i front)) ∙ sym (append_assoc holders (take i front) (drop i front))) once)

pub next_is_new : (holders front : List (ℕ × Mode)) (i : ℕ) (d : ℕ × Mode) → i < length front → StandOnce (holders ++ front) → mode_in (get_or front i d).0 (holders ++ take i front) ≡ None
next_is_new holders front i d below once =
    let next : take (i + 1) front ≡ take i front ++ get_or front i d ∷ [] = take_more front i d below in
    once_last (holders ++ take i front) (get_or front i d)
    (subst StandOnce (ap (λ (tail : List (ℕ × Mode)). holders ++ tail) next ∙ sym (append_assoc holders (take i front) (get_or front i d ∷ []))) (once_so_far holders front (i + 1) once))

-- WHO STANDS ONCE AFTER A STEP.
pub once_asked : (destroyed : Bool) (line : Line) (t : ℕ) (m : Mode) → can_grant destroyed line m ≡ true → mode_in t line.holders ≡ None
    → StandOnce (line.holders ++ line.queue) → StandOnce ((line.holders ++ (t, m) ∷ []) ++ line.queue)
once_asked destroyed line t m can none once = once_granted line.holders line.queue t m (and_parts _ _ (and_parts _ _ can).1).0 once none

pub once_queued : (holders queue : List (ℕ × Mode)) (t : ℕ) (m : Mode) → mode_in t holders ≡ None → mode_in t queue ≡ None
    → StandOnce (holders ++ queue) → StandOnce (holders ++ (queue ++ (t, m) ∷ []))
once_queued holders queue t m holds waits once = subst StandOnce (append_assoc holders queue ((t, m) ∷ [])) (once_push (holders ++ queue) t m once (none_both t holders queue holds waits))

-- another than the borrower ends its hold
pub lent_left : (borrower : Option ℕ) (holders : List (ℕ × Mode)) (t : ℕ) → borrower ≢ Some t → IsLentTo borrower holders → IsLentTo borrower (without t holders)
lent_left None holders t apart lent = tt
lent_left (Some u) holders t apart lent = let other = other_borrower u t (Some u) refl apart in rw (lent, other) refl
