-- Nothing but its own entries comes between the calls of an EDT.
use Rattle.std.proofs.Common.{◌≡◌, ◌≤◌, ◌<◌, inl, inr, ℕ, suc, ◌==◌, ◌||◌, ◌&&◌, not, [], ◌∷◌, length, Bool, true, false, if◌then◌else◌, None, refl, sym, ap, ◌∙◌, subst, arith}
use Rattle.std.proofs.lemmas.Bool.{or_cases, cases_Bool, eqb-true, eq-eqb, ne_eqb}
use Rattle.ocr_base.proofs.Booleans.{eqb_flips, and_false}
use Rattle.ocr_machine_history.specs.declared.entry.Entry.{Entry}
use Rattle.ocr_machine_history.specs.declared.entry.Entry.TheVariants.{Call, Deliver, Acquire, Start}
use Rattle.ocr_machine_history.specs.Edts.{is_started}
use Rattle.ocr_machine_history.specs.History.{History, Setting}
use Rattle.ocr_machine_history.specs.Made.{made, names_new}
use Rattle.ocr_machine_laws.proofs.Held.{zero_law}
use Rattle.ocr_memory_model_order.proofs.Forward.{started_made}
use Rattle.ocr_machine_parts.specs.Legal.{IsRun, IsLegal}
use Rattle.ocr_machine_parts.specs.Progress.{edt_in}
use Rattle.ocr_machine_laws.proofs.Own.{started_by, not_started, still_started, goes_on}
use Rattle.ocr_memory_model_rows.specs.Places.{Graph, reaches, reaches_any}
use Rattle.ocr_memory_model_rows.proofs.Reach.{reach_new, reach_old, reach_kept, within, through}
use Rattle.ocr_memory_model_order.specs.Places.{is_at, places}
use Rattle.ocr_memory_model_order.specs.Pairs.{is_of, HappensBefore, in_order}
use Rattle.ocr_memory_model_order.specs.Causes.{newest, last_of, causes, graph_of}
use Rattle.ocr_memory_model_order.specs.Races.{calls, LaterLaw}
use Rattle.ocr_memory_model_rows.specs.Places as order
use Rattle.ocr_memory_model_order.proofs.Fronts.{at_from, new_at, old_at, at_below, newest_or}
use Rattle.ocr_memory_model_order.proofs.Graphs.{graph_length, graph_law, named}
use Rattle.ocr_memory_model_order.proofs.Writes.{is_of_it}

-- an EDT that made a call has started
call_started : (s : Setting) (past : History) (e : Entry) (u : ℕ) → IsRun s (e ∷ past) → calls u past e ≡ true → is_started (e ∷ past) u ≡ true
call_started s past (Call t home c a w) u run is = subst (λ n. is_started past n ≡ true) (eqb-true t u is) (started_by s past t run.0 run.1.on_parts.running)
call_started s past other u run is = cc is

called_started : (s : Setting) (J : History) (u y : ℕ) → IsRun s J → is_at (calls u) J y ≡ true → is_started J u ≡ true
called_started s [] u y run is = cc is
called_started s (e ∷ past) u y run is = elim (y == length past) as (λ t. (if t then calls u past e else is_at (calls u) past y) ≡ true → is_started (e ∷ past) u ≡ true) [
  | true ↦ λ k. call_started s past e u run k
  | false ↦ λ k. still_started past e u (called_started s past u y run.0 k)
] is

-- so what comes before its next entry comes before its last one
only_last : (s : Setting) (past : History) (e : Entry) (u : ℕ) → IsRun s past → IsLegal s past e → is_started past u ≡ true → edt_in e ≡ u → (u == 0) ≡ false → causes s past e ≡ last_of past u
only_last s past (Deliver m c) u run legal on is some = absurd (let zero : (u == 0) ≡ true = eq-eqb u 0 (sym is) in cc (zero, some))
only_last s past (Start t) u run legal on is some = absurd (let off : is_started past u ≡ false = subst (λ n. is_started past n ≡ false) is (not_started s past t run legal) in cc (on, off))
only_last s past (Acquire t d) u run legal on is some = absurd (let off : is_started past u ≡ false = subst (λ n. is_started past n ≡ false) is (goes_on s past t _ run legal.on_facts legal.on_parts.next) in cc (on, off))
only_last s past e u run legal on is some = ap (last_of past) is

record IsLast (past : History) (u y p : ℕ) : Type 0 where
  is : last_of past u ≡ p ∷ []
  after : y ≤ p
  own : is_at (is_of u) past p ≡ true

last_is : (past : History) (u y : ℕ) → is_at (is_of u) past y ≡ true → (p : ℕ) × IsLast past u y p
last_is [] u y h = cc h
last_is (e ∷ past) u y h = elim (is_of u past e) as (λ x. is_of u past e ≡ x → (p : ℕ) × IsLast (e ∷ past) u y p) [
  | true ↦ λ is. (
    length past,
    record {
      is = ap (λ x. newest (if x then length past ∷ places (is_of u) past else places (is_of u) past)) is;
      after = (let low : y < suc (length past) = at_below (is_of u) (e ∷ past) y h in omega (arith, low));
      own = new_at (is_of u) past e ∙ is;
    },
  )
  | false ↦ λ off. elim (newest_or y past (at_below (is_of u) (e ∷ past) y h)) [
    | inl new ↦ absurd (let on : is_of u past e ≡ true = sym (new_at (is_of u) past e) ∙ subst (λ n. is_at (is_of u) (e ∷ past) n ≡ true) new h in cc (on, off))
    | inr old ↦
        let r = last_is past u y (sym (old_at (is_of u) past e y old) ∙ h) in (
          r.0,
          record {
            is = ap (λ x. newest (if x then length past ∷ places (is_of u) past else places (is_of u) past)) off ∙ r.1.is;
            after = r.1.after;
            own = old_at (is_of u) past e r.0 (at_below (is_of u) past r.0 r.1.own) ∙ r.1.own;
          },
        )
  ]
] refl

or_false : (x : Bool) → (x || false) ≡ true → x ≡ true
or_false true h = refl
or_false false h = cc h

steady : (s : Setting) (J : History) (u a y later : ℕ) → IsRun s J → (u == 0) ≡ false → is_at (calls u) J y ≡ true → is_at (is_of u) J y ≡ true → is_at (is_of u) J later ≡ true → is_at (is_of u) J a ≡ false → y ≤ later → reaches (graph_of s J) a later ≡ true → reaches (graph_of s J) a y ≡ true
steady s [] u a y later run some call own other apart up is = cc call
steady s (e ∷ past) u a y later run some call own other apart up is =
    let g : Graph = graph_of s past in
    let len : length g ≡ length past = graph_length s past in
    elim (newest_or later past (at_below (is_of u) (e ∷ past) later other)) [
      | inr old ↦
          let before : y < length past = omega (arith, up, old) in
          let is' : reaches g a later ≡ true = sym (reach_old g (causes s past e) a later (omega (arith, old, len))) ∙ is in
          let low : a < length past = (let w = within g a later is' in omega (arith, w.0, w.1, len)) in
          reach_kept g (causes s past e) a y
          (steady s past u a y later run.0 some (sym (old_at (calls u) past e y before) ∙ call) (sym (old_at (is_of u) past e y before) ∙ own) (sym (old_at (is_of u) past e later old) ∙ other) (sym (old_at (is_of u) past e a low) ∙ apart) up is')
      | inl new ↦ elim (newest_or y past (at_below (is_of u) (e ∷ past) y own)) [
        | inl top ↦ subst (λ n. reaches (graph_of s (e ∷ past)) a n ≡ true) (new ∙ sym top) is
        | inr before ↦
            let here : is_of u past e ≡ true = sym (new_at (is_of u) past e) ∙ subst (λ n. is_at (is_of u) (e ∷ past) n ≡ true) new other in
            let call' : is_at (calls u) past y ≡ true = sym (old_at (calls u) past e y before) ∙ call in
            let own' : is_at (is_of u) past y ≡ true = sym (old_at (is_of u) past e y before) ∙ own in
            let on : is_started past u ≡ true = called_started s past u y run.0 call' in
            let only : causes s past e ≡ last_of past u = only_last s past e u run.0 run.1 on (named (edt_in e) u here) some in
            let l = last_is past u y own' in
            let now : ((a == length g) || reaches_any g a (causes s past e)) ≡ true = sym (reach_new g (causes s past e) a) ∙ subst (λ n. reaches (causes s past e ∷ g) a n ≡ true) (new ∙ sym len) is in
            elim (or_cases (a == length g) (reaches_any g a (causes s past e)) now) [
              | inl at ↦ absurd (
                  let same_place : a ≡ length past = eqb-true a (length g) at ∙ len in
                  let off : is_of u past e ≡ false = sym (new_at (is_of u) past e) ∙ subst (λ n. is_at (is_of u) (e ∷ past) n ≡ false) same_place apart in
                  cc (here, off))
              | inr m ↦
                  let through_last : reaches g a l.0 ≡ true = or_false (reaches g a l.0) (subst (λ xs. reaches_any g a xs ≡ true) (only ∙ l.1.is) m) in
                  let low : a < length past = (let w = within g a l.0 through_last in omega (arith, w.0, w.1, len)) in
                  reach_kept g (causes s past e) a y
                  (steady s past u a y l.0 run.0 some call' own' l.1.own (sym (old_at (is_of u) past e a low) ∙ apart) l.1.after through_last)
            ]
      ]
    ]

-- an entry of one EDT is not of another
other_name : (n t u : ℕ) → (t == u) ≡ false → names_new n t ≡ true → names_new n u ≡ false
other_name n t u apart is = ap (λ m. not (m == 0) && (m == u)) (named n t is) ∙ ap (λ b. not (t == 0) && b) apart ∙ and_false (not (t == 0))

strictly : (x y : ℕ) → x ≤ y → (x ≡ y → ⊥) → x < y
strictly x y le apart = grind (arith, apart)

caller_some : (s : Setting) (J : History) (t x : ℕ) → IsRun s J → is_at (calls t) J x ≡ true → (t == 0) ≡ false
caller_some s J t x run is = ne_eqb t 0 (λ e. started_made s J t run (called_started s J t x run is) (subst (λ n. made s J n ≡ None) (sym e) (zero_law s J run)))

not_other : (J : History) (t u x : ℕ) → (t == u) ≡ false → is_at (is_of t) J x ≡ true → is_at (is_of u) J x ≡ false
not_other [] t u x apart is = refl
not_other (e ∷ past) t u x apart is = elim (x == length past) as (λ b. (if b then is_of t past e else is_at (is_of t) past x) ≡ true → (if b then is_of u past e else is_at (is_of u) past x) ≡ false) [
  | true ↦ λ k. other_name (edt_in e) t u apart k
  | false ↦ λ k. not_other past t u x apart k
] is

calls_of : (u : ℕ) → (u == 0) ≡ false → (past : History) (e : Entry) → calls u past e ≡ true → is_of u past e ≡ true
calls_of u some past (Call t home c a w) is = is_of_it past (Call t home c a w) u (eqb-true t u is) some
calls_of u some past other is = cc is

-- THE LAW, for one direction
not_later : (s : Setting) (J : History) (t u x y later_x later_y : ℕ) → IsRun s J → (t == 0) ≡ false → (u == 0) ≡ false → (t == u) ≡ false → x ≤ later_x → y ≤ later_y → is_at (calls t) J x ≡ true → is_at (calls t) J later_x ≡ true → is_at (calls u) J y ≡ true → is_at (calls u) J later_y ≡ true
    → (HappensBefore s J x y → ⊥) → HappensBefore s J later_x later_y → ⊥
not_later s J t u x y later_x later_y run some_t some_u apart up_x up_y cx clx cy cly never before =
    let r : reaches (graph_of s J) later_x later_y ≡ true = ((graph_law s J later_x later_y run).0 before).1 in
    let own_x : is_at (is_of t) J x ≡ true = at_from (calls t) (is_of t) (calls_of t some_t) J x cx in
    let own_lx : is_at (is_of t) J later_x ≡ true = at_from (calls t) (is_of t) (calls_of t some_t) J later_x clx in
    let own_y : is_at (is_of u) J y ≡ true = at_from (calls u) (is_of u) (calls_of u some_u) J y cy in
    let own_ly : is_at (is_of u) J later_y ≡ true = at_from (calls u) (is_of u) (calls_of u some_u) J later_y cly in
    let q : reaches (graph_of s J) later_x y ≡ true = steady s J u later_x y later_y run some_u cy own_y own_ly (not_other J t u later_x apart own_lx) up_y r in
    let less : later_x < y = strictly later_x y (within (graph_of s J) later_x y q).0 (λ e.
    let on : is_at (is_of u) J later_x ≡ true = subst (λ n. is_at (is_of u) J n ≡ true) (sym e) own_y in
    let off : is_at (is_of u) J later_x ≡ false = not_other J t u later_x apart own_lx in cc (on, off)) in
    let late : HappensBefore s J later_x y = (graph_law s J later_x y run).1 (less, q) in
    elim (cases_Bool (x == later_x)) [
      | inl e ↦ never (subst (λ n. HappensBefore s J n y) (sym (eqb-true x later_x e)) late)
      | inr off ↦
          let first : x < later_x = strictly x later_x up_x (λ e. let on : (x == later_x) ≡ true = eq-eqb x later_x e in cc (on, off)) in
          let xy : reaches (graph_of s J) x y ≡ true = through (graph_of s J) x later_x y ((graph_law s J x later_x run).0 (order.one (in_order t first own_x own_lx))).1 q in
          never ((graph_law s J x y run).1 (omega (arith, first, less), xy))
    ]

pub later_law : LaterLaw
later_law s J t u x y later_x later_y run apart up_x up_y cx clx cy cly un =
    let some_t : (t == 0) ≡ false = caller_some s J t x run cx in
    let some_u : (u == 0) ≡ false = caller_some s J u y run cy in
    record {
      not_before = not_later s J t u x y later_x later_y run some_t some_u apart up_x up_y cx clx cy cly un.not_before;
      not_after = not_later s J u t y x later_y later_x run some_u some_t (eqb_flips u t ∙ apart) up_y up_x cy cly cx clx un.not_after;
    }
