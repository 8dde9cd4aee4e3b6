-- What stays of a clerk at work by each call on the table.
use Rattle.std.proofs.Common.{◌≡◌, ◌⊎◌, inl, inr, ℕ, ◌+◌, ◌≤◌, ◌==◌, true, false, if◌then◌else◌, List, [], ◌∷◌, ◌++◌, length, Option, Some, None, is_some, refl, ap, sym, ◌∙◌, subst, arith}
use Rattle.std.specs.Prelude.{MatchOption}
use Rattle.std.proofs.lemmas.List.{append-nil, append_assoc}
use lib.ListN.{get_elem?}
use Rattle.std.specs.Option.{option_or}
use Rattle.ocr_body_code.specs.declared.checked.Checked.{Checked}
use Rattle.ocr_machine_history.specs.declared.entry.Entry.{Entry}
use Rattle.ocr_machine_history.specs.declared.entry.Entry.TheVariants as an
use Rattle.ocr_machine_history.specs.declared.entry.Stop as run
use Rattle.ocr_machine_history.specs.declared.entry.Stop.TheVariants as by
use Rattle.ocr_machine_history.specs.declared.entry.What.{What}
use Rattle.ocr_machine_history.specs.Weight.{weight_of}
use Rattle.ocr_machine_parts.specs.declared.part.Part.{Part}
use Rattle.ocr_machine_parts.specs.Legal.{is_stop}
use Rattle.ocr_worker_machine.specs.Clerks.{OcrTerms, OcrView}
use Rattle.ocr_worker_machine.specs.Ocr.{makes, meaning}
use Rattle.ocr_worker_machine.specs.declared.fact.Fact.{Fact}
use Rattle.ocr_turns_rule.specs.Contract.{ClosedBy, CommitTells, CloseTells}
use Rattle.ocr_worker_machine.proofs.Lawful.{lawful}
use Rattle.ocr_turns_rule.specs.Live.{raising}
use Rattle.ocr_turns_rule.specs.Steps.{SeesEnd, deed, ended_by, logged, shut_by}
use Rattle.ocr_turns_rule.specs.Units.{claim_count}
use Rattle.ocr_turns_rule.specs.Sums.{as_some, less_all, less_one, load_of, replace, replace_all}
use Rattle.ocr_turns_rule.specs.declared.answers.Committed.{Committed}
use Rattle.ocr_turns_rule.specs.declared.answers.Committed.TheVariants as committed
use Rattle.ocr_worker_clerk.specs.Entry.{OcrDeed, OcrKnown}
use Rattle.ocr_worker_clerk.proofs.Affords.{Affords, still_staked}
use Rattle.ocr_worker_clerk.specs.Work.{RAISES, AtWork, IsAway, IsGone, IsOwnStop, OcrTable, Stays, stop_in, stop_of, told}

-- THE LOG
pub stop_after : (log : List (ℕ × Entry)) (n : ℕ) (e : Entry) → stop_in log ≡ None → stop_in (log ++ (n, e) ∷ []) ≡ stop_of e
stop_after [] n e none = none_or (stop_of e)
  where
    none_or : (o : Option run.Stop) → option_or o None ≡ o
    none_or None = refl
    none_or (Some why) = refl
stop_after (x ∷ rest) n e none = step (stop_of x.1) (stop_in rest) (stop_in (rest ++ (n, e) ∷ [])) (stop_of e) none (stop_after rest n e)
  where
    step : (o rest later new : Option run.Stop) → option_or o rest ≡ None → (rest ≡ None → later ≡ new) → option_or o later ≡ new
    step None rest later new none go = go none
    step (Some why) rest later new none go = cc none

no_stop : (e : Entry) → is_stop e ≡ false → stop_of e ≡ None
no_stop (an.Stop why) is = cc is
no_stop other is = refl

pub load_after : (log : List (ℕ × Entry)) (n : ℕ) (e : Entry) → load_of weight_of (log ++ (n, e) ∷ []) ≡ load_of weight_of log + weight_of e
load_after [] n e = omega arith
load_after (x ∷ rest) n e = let r = load_after rest n e in omega (arith, r)

-- NUMBERS that are used are fewer
less_one_few : (n : ℕ) (ks : List ℕ) → length (less_one n ks) ≤ length ks
less_one_few n [] = omega arith
less_one_few n (k ∷ ks) = elim (n == k) as (λ b. length (if b then ks else k ∷ less_one n ks) ≤ length (k ∷ ks)) [
  | true ↦ omega arith
  | false ↦ let r = less_one_few n ks in omega (arith, r)
]

pub less_all_few : (ns ks : List ℕ) → length (less_all ns ks) ≤ length ks
less_all_few [] ks = omega arith
less_all_few (n ∷ ns) ks = let a = less_one_few n ks in let b = less_all_few ns (less_one n ks) in omega (arith, a, b)

module _ {A : Type 0} where
  replace_length : (p : ℕ) (a : A) (xs : List (ℕ × A)) → length (replace p a xs) ≡ length xs
  replace_length p a [] = refl
  replace_length p a (x ∷ xs) = elim (p == x.0) as (λ b. length (if b then (p, a) ∷ xs else x ∷ replace p a xs) ≡ length (x ∷ xs)) [
    | true ↦ refl
    | false ↦ let r = replace_length p a xs in omega (arith, r)
  ]

  pub replace_all_length : (cs xs : List (ℕ × A)) → length (replace_all cs xs) ≡ length xs
  replace_all_length [] xs = refl
  replace_all_length (c ∷ cs) xs = replace_all_length cs (replace c.0 c.1 xs) ∙ replace_length c.0 c.1 xs

-- A STEP that makes no entry
pub record Calm (u v : OcrView) : Type 0 where
  pub terms : v.terms ≡ u.terms
  pub root : v.root ≡ u.root
  pub seat : v.seat ≡ u.seat
  pub out : v.out ≡ u.out
  pub joined : v.joined ≡ u.joined
  pub log : v.log ≡ u.log
  pub weight : v.weight ≡ u.weight
  pub drawn : v.drawn ≡ u.drawn
  pub full : v.full ≡ u.full
  pub reached : v.reached ≡ u.reached
  pub closed : v.closed ≡ u.closed
  pub stake : u.spares + claim_count u ≤ v.spares + claim_count v
  pub raised : v.raised ≡ u.raised
  pub ended : v.ended ≡ u.ended

pub stays_by : (old new : OcrKnown) (v : OcrView) → new.table ≡ old.table → new.view ≡ v → v.terms ≡ old.view.terms → v.root ≡ old.view.root → v.seat ≡ old.view.seat → v.out ≡ old.view.out → v.joined ≡ old.view.joined
    → (more : List (ℕ × Entry)) × (v.log ≡ old.view.log ++ more) → Stays old new
stays_by old new v table is terms root seat out joined log = record {
  table = table;
  terms = ap (λ (w : OcrView). w.terms) is ∙ terms;
  root = ap (λ (w : OcrView). w.root) is ∙ root;
  seat = ap (λ (w : OcrView). w.seat) is ∙ seat;
  out = ap (λ (w : OcrView). w.out) is ∙ out;
  joined = ap (λ (w : OcrView). w.joined) is ∙ joined;
  log = (log.0, ap (λ (w : OcrView). w.log) is ∙ log.1);
}

pub stays_still : (old new : OcrKnown) (v : OcrView) → new.table ≡ old.table → new.view ≡ v → Calm old.view v → Stays old new
stays_still old new v table is calm = stays_by old new v table is calm.terms calm.root calm.seat calm.out calm.joined ([], calm.log ∙ sym (append-nil old.view.log))

pub stays_both : (a b c : OcrKnown) → Stays a b → Stays b c → Stays a c
stays_both a b c p q = record {
  table = q.table ∙ p.table;
  terms = q.terms ∙ p.terms;
  root = q.root ∙ p.root;
  seat = q.seat ∙ p.seat;
  out = q.out ∙ p.out;
  joined = q.joined ∙ p.joined;
  log = (p.log.0 ++ q.log.0, q.log.1 ∙ (ap (λ (l : List (ℕ × Entry)). l ++ q.log.0) p.log.1 ∙ append_assoc a.view.log p.log.0 q.log.0));
}

pub work_still : (table : OcrTable) (p : Checked) (old new : OcrKnown) (v : OcrView) → AtWork table p old → new.table ≡ old.table → new.view ≡ v → Calm old.view v → old.room ≤ new.room
    → old.spare + length old.parts ≤ new.spare + length new.parts → AtWork table p new
work_still table p old new v work same is calm room spare = record {
  of_table = (same ∙ work.of_table.0, ap (λ (w : OcrView). w.terms) is ∙ (calm.terms ∙ work.of_table.1));
  limits = work.limits;
  program_is = work.program_is;
  runnable = work.runnable;
  is_open = ap (λ (w : OcrView). w.closed) is ∙ (calm.closed ∙ work.is_open);
  unstopped = ap (λ (w : OcrView). stop_in w.log) is ∙ (ap (λ (l : List (ℕ × Entry)). stop_in l) calm.log ∙ work.unstopped);
  room = let r = work.room in omega (arith, r, room);
  spare = let s = work.spare in omega (arith, s, spare);
  weighs = ap (λ (w : OcrView). w.weight) is ∙ (calm.weight ∙ (work.weighs ∙ (ap (λ (l : List (ℕ × Entry)). load_of weight_of l) (sym calm.log) ∙ sym (ap (λ (w : OcrView). load_of weight_of w.log) is))));
  light = let l = work.light in let w = ap (λ (w : OcrView). w.weight) is ∙ calm.weight in omega (arith, l, w);
  few = let f = work.few in let w = ap (λ (w : OcrView). length w.drawn) is ∙ ap (λ (l : List ℕ). length l) calm.drawn in omega (arith, f, w);
  full = subst (λ (w : OcrView). MatchOption w.full (Unit {0}) (λ _. is_some w.reached ≡ true)) (sym is)
      (subst (λ (o : Option ℕ). MatchOption o (Unit {0}) (λ _. is_some v.reached ≡ true)) (sym calm.full)
      (subst (λ (o : Option ℕ). MatchOption old.view.full (Unit {0}) (λ _. is_some o ≡ true)) (sym calm.reached) work.full));
  loads = work.loads;
  stake = let a = work.stake in let b = calm.stake in let k = ap (λ (w : OcrView). w.spares + claim_count w) is in omega (arith, a, b, k);
  raised = let a = work.raised in let b = calm.raised in let k = ap (λ (w : OcrView). w.raised) is in let w = ap (λ (w : OcrView). w.weight) is ∙ calm.weight in omega (arith, a, b, k, w);
  ended = ap (λ (w : OcrView). w.ended) is ∙ (calm.ended ∙ work.ended);
}

-- THE RUN HAS ENDED, as a call found it
left_by : (table : OcrTable) (p : Checked) (worker : ℕ) (old new : OcrKnown) → AtWork table p old → new.table ≡ old.table → new.view.terms ≡ old.view.terms → length new.view.drawn ≡ length old.view.drawn → new.view.log ≡ old.view.log
    → new.view.weight ≡ old.view.weight → is_some new.view.closed ≡ true → IsGone table worker new
left_by table p worker old new work same terms drawn log weight ended = (
  record {
    of_table = (same ∙ work.of_table.0, terms ∙ work.of_table.1);
    few = let f = work.few in omega (arith, f, drawn);
    weighs = weight ∙ (work.weighs ∙ ap (λ (l : List (ℕ × Entry)). load_of weight_of l) (sym log));
    light = let l = work.light in omega (arith, l, weight);
    own = subst (λ (o : Option run.Stop). MatchOption o (Unit {0}) (IsOwnStop table.1 worker new.view)) (sym (ap (λ (l : List (ℕ × Entry)). stop_in l) log ∙ work.unstopped)) tt;
  },
  inl ended,
)

-- a clerk at work left nothing behind that is not its own
pub work_left : (table : OcrTable) (p : Checked) (worker : ℕ) (c : OcrKnown) → AtWork table p c → IsAway table worker c
work_left table p worker c work = record {
  of_table = work.of_table;
  few = work.few;
  weighs = work.weighs;
  light = work.light;
  own = subst (λ (o : Option run.Stop). MatchOption o (Unit {0}) (IsOwnStop table.1 worker c.view)) (sym work.unstopped) tt;
}

shut_view : (old : OcrKnown) (n : ℕ) (v : OcrView) → old.view.closed ≡ None → MatchOption old.view.closed ((v ≡ shut_by old.view n) × SeesEnd meaning v) (λ w. (w ≡ n) × (v ≡ old.view)) → v ≡ shut_by old.view n
shut_view old n v open_run tells = (subst (λ (o : Option ℕ). MatchOption o ((v ≡ shut_by old.view n) × SeesEnd meaning v) (λ w. (w ≡ n) × (v ≡ old.view))) open_run tells).0

pub closed_left : (table : OcrTable) (p : Checked) (worker n : ℕ) (old new : OcrKnown) → AtWork table p old → ClosedBy meaning n old new → IsGone table worker new
closed_left table p worker n old new work tells =
    let is = shut_view old n new.view work.is_open tells.2 in
    left_by table p worker old new work tells.1.0 (ap (λ (w : OcrView). w.terms) is) (ap (λ (w : OcrView). length w.drawn) is) (ap (λ (w : OcrView). w.log) is) (ap (λ (w : OcrView). w.weight) is) (ap (λ (w : OcrView). is_some w.closed) is)

pub closed_stays : (table : OcrTable) (p : Checked) (n : ℕ) (old new : OcrKnown) → AtWork table p old → ClosedBy meaning n old new → Stays old new
closed_stays table p n old new work tells =
    let is = shut_view old n new.view work.is_open tells.2 in
    stays_by old new (shut_by old.view n) tells.1.0 is refl refl refl refl refl ([], sym (append-nil old.view.log))

-- AN ENTRY
module _ (table : OcrTable) (p : Checked) (old mid new : OcrKnown) (e : Entry) (later : List (ℕ × Part)) (sent : List What) (work : AtWork table p old) (table_is : mid.table ≡ old.table) (k : ℕ) (view_is : mid.view ≡ raising old.view k) where
  abbrev its : OcrDeed
  its = deed meaning table.1.limit mid.view e later sent

  pub commit_stays : (r : Committed) → CommitTells meaning r mid new its → Stays old new
  commit_stays (committed.At n) tells =
      stays_by old new (logged mid.view n its) (tells.2 ∙ table_is) tells.3
      (ap (λ (w : OcrView). w.terms) view_is) (ap (λ (w : OcrView). w.root) view_is) (ap (λ (w : OcrView). w.seat) view_is) (ap (λ (w : OcrView). w.out) view_is) (ap (λ (w : OcrView). w.joined) view_is)
      ((n, e) ∷ [], ap (λ (w : OcrView). w.log ++ (n, e) ∷ []) view_is)
  commit_stays (committed.Closed n) tells =
      let is = shut_view mid n new.view (ap (λ (w : OcrView). w.closed) view_is ∙ work.is_open) tells.2 in
      stays_by old new (shut_by mid.view n) (tells.1.0 ∙ table_is) is
      (ap (λ (w : OcrView). w.terms) view_is) (ap (λ (w : OcrView). w.root) view_is) (ap (λ (w : OcrView). w.seat) view_is) (ap (λ (w : OcrView). w.out) view_is) (ap (λ (w : OcrView). w.joined) view_is)
      ([], ap (λ (w : OcrView). w.log) view_is ∙ sym (append-nil old.view.log))

  pub commit_left : (worker n : ℕ) → ClosedBy meaning n mid new → IsGone table worker new
  commit_left worker n tells =
      let is = shut_view mid n new.view (ap (λ (w : OcrView). w.closed) view_is ∙ work.is_open) tells.2 in
      left_by table p worker old new work (tells.1.0 ∙ table_is) (ap (λ (w : OcrView). w.terms) is ∙ ap (λ (w : OcrView). w.terms) view_is) (ap (λ (w : OcrView). length w.drawn) is ∙ ap (λ (w : OcrView). length w.drawn) view_is)
      (ap (λ (w : OcrView). w.log) is ∙ ap (λ (w : OcrView). w.log) view_is) (ap (λ (w : OcrView). w.weight) is ∙ ap (λ (w : OcrView). w.weight) view_is) (ap (λ (w : OcrView). is_some w.closed) is)

  pub commit_work : (n : ℕ) → k ≤ RAISES → Affords mid.view its → is_stop e ≡ false → old.view.weight + weight_of e ≤ table.1.share → 2 ≤ mid.room → old.spare ≤ mid.spare → mid.parts ≡ old.parts
      → 40 ≤ old.spare + length old.parts → CommitTells meaning (committed.At n) mid new its → AtWork table p new
  commit_work n most affords goes light room spare hand enough tells =
      let view = tells.3 in record {
        of_table = (tells.2 ∙ (table_is ∙ work.of_table.0), ap (λ (w : OcrView). w.terms) view ∙ (ap (λ (w : OcrView). w.terms) view_is ∙ work.of_table.1));
        limits = work.limits;
        program_is = work.program_is;
        runnable = work.runnable;
        is_open = ap (λ (w : OcrView). w.closed) view ∙ (ap (λ (w : OcrView). w.closed) view_is ∙ work.is_open);
        unstopped = ap (λ (w : OcrView). stop_in w.log) view ∙ (ap (λ (w : OcrView). stop_in (w.log ++ (n, e) ∷ [])) view_is ∙ (stop_after old.view.log n e work.unstopped ∙ no_stop e goes));
        room = let r = tells.5 in omega (arith, r, room);
        spare = let s = tells.6 in let l = ap (λ (ps : List (ℕ × Option Part)). length ps) tells.4 ∙ (replace_all_length (as_some later) mid.parts ∙ ap (λ (ps : List (ℕ × Option Part)). length ps) hand) in omega (arith, s, l, spare, enough);
        weighs = let w = ap (λ (w : OcrView). w.weight) view in let o = ap (λ (w : OcrView). w.weight) view_is in let l = ap (λ (w : OcrView). load_of weight_of w.log) view in let k = ap (λ (w : OcrView). load_of weight_of (w.log ++ (n, e) ∷ [])) view_is in let a = load_after old.view.log n e in let m = work.weighs in omega (arith, w, o, l, k, a, m);
        light = let w = ap (λ (w : OcrView). w.weight) view in let o = ap (λ (w : OcrView). w.weight) view_is in omega (arith, w, o, light);
        few = let w = ap (λ (w : OcrView). length w.drawn) view in let l = less_all_few (makes e) mid.view.drawn in let o = ap (λ (w : OcrView). length w.drawn) view_is in let f = work.few in omega (arith, w, l, o, f);
        full = subst (λ (w : OcrView). MatchOption w.full (Unit {0}) (λ _. is_some w.reached ≡ true)) (sym view)
            (subst (λ (w : OcrView). MatchOption w.full (Unit {0}) (λ _. is_some w.reached ≡ true)) (sym view_is) work.full);
        loads = work.loads;
        stake = let s = ap (λ (w : OcrView). w.spares + claim_count w) view in let k = still_staked mid.view n its affords in omega (arith, s, k);
        raised = let a = ap (λ (w : OcrView). w.raised) view in let b = ap (λ (w : OcrView). w.raised) view_is in let w = ap (λ (w : OcrView). w.weight) view in let o = ap (λ (w : OcrView). w.weight) view_is in let one = lawful.weighs e goes in let old = work.raised in omega (arith, a, b, w, o, one, old, most);
        ended = ap (λ (w : OcrView). w.ended) view ∙ (ap (λ (w : OcrView). w.ended) view_is ∙ work.ended);
      }

-- AN END
own_ended : (t : OcrTerms) (worker n : ℕ) (v : OcrView) (e : Entry) (fs : List Fact) (why : run.Stop) → IsOwnStop t worker (told v fs) why → IsOwnStop t worker (ended_by v n e fs) why
own_ended t worker n v e fs (by.Events w k) own = own
own_ended t worker n v e fs by.Objects own = record { edt = own.edt; call = own.call; known = own.known; few = own.few; reached = own.reached }
own_ended t worker n v e fs other own = tt

pub close_left : (table : OcrTable) (p : Checked) (worker : ℕ) (why : run.Stop) (fs : List Fact) (r : Committed) (old new : OcrKnown) → AtWork table p old → IsOwnStop table.1 worker (told old.view fs) why → CloseTells meaning r old new (an.Stop why) fs → IsGone table worker new
close_left table p worker why fs (committed.At n) old new work own tells =
    let view = tells.3 in (
      record {
        of_table = (tells.2 ∙ work.of_table.0, ap (λ (w : OcrView). w.terms) view ∙ work.of_table.1);
        few = let w = ap (λ (w : OcrView). length w.drawn) view in let f = work.few in omega (arith, w, f);
        weighs = let w = ap (λ (w : OcrView). w.weight) view in let l = ap (λ (w : OcrView). load_of weight_of w.log) view in let a = load_after old.view.log n (an.Stop why) in let m = work.weighs in omega (arith, w, l, a, m);
        light = let w = ap (λ (w : OcrView). w.weight) view in let l = work.light in omega (arith, w, l);
        own = subst (λ (w : OcrView). MatchOption (stop_in w.log) (Unit {0}) (IsOwnStop table.1 worker w)) (sym view)
            (subst (λ (o : Option run.Stop). MatchOption o (Unit {0}) (IsOwnStop table.1 worker (ended_by old.view n (an.Stop why) fs))) (sym (stop_after old.view.log n (an.Stop why) work.unstopped))
            (own_ended table.1 worker n old.view (an.Stop why) fs why own));
      },
      inr (ap (λ (w : OcrView). is_some (stop_in w.log)) view ∙ ap (λ (o : Option run.Stop). is_some o) (stop_after old.view.log n (an.Stop why) work.unstopped)),
    )
close_left table p worker why fs (committed.Closed n) old new work own tells = closed_left table p worker n old new work tells

-- with no facts learnt
pub own_plain : (t : OcrTerms) (worker : ℕ) (v : OcrView) (why : run.Stop) → IsOwnStop t worker v why → IsOwnStop t worker (told v []) why
own_plain t worker v (by.Events w k) own = own
own_plain t worker v by.Objects own = record { edt = own.edt; call = own.call; known = (own.known.0, ap (λ (fs : List Fact). get_elem? fs own.known.0) (append-nil v.facts) ∙ own.known.1); few = own.few; reached = own.reached }
own_plain t worker v other own = tt

pub close_stays : (table : OcrTable) (p : Checked) (why : run.Stop) (fs : List Fact) (r : Committed) (old new : OcrKnown) → AtWork table p old → CloseTells meaning r old new (an.Stop why) fs → Stays old new
close_stays table p why fs (committed.At n) old new work tells = stays_by old new (ended_by old.view n (an.Stop why) fs) tells.2 tells.3 refl refl refl refl refl ((n, an.Stop why) ∷ [], refl)
close_stays table p why fs (committed.Closed n) old new work tells = closed_stays table p n old new work tells

-- the log has this end, or the run had ended before
pub close_made : (table : OcrTable) (p : Checked) (why : run.Stop) (fs : List Fact) (r : Committed) (old new : OcrKnown) → AtWork table p old → CloseTells meaning r old new (an.Stop why) fs → (is_some new.view.closed ≡ true) ⊎ (stop_in new.view.log ≡ Some why)
close_made table p why fs (committed.At n) old new work tells = inr (ap (λ (w : OcrView). stop_in w.log) tells.3 ∙ stop_after old.view.log n (an.Stop why) work.unstopped)
close_made table p why fs (committed.Closed n) old new work tells = inl (ap (λ (w : OcrView). is_some w.closed) (shut_view old n new.view work.is_open tells.2))

pub stays_self : (c : OcrKnown) → Stays c c
stays_self c = record { table = refl; terms = refl; root = refl; seat = refl; out = refl; joined = refl; log = ([], sym (append-nil c.view.log)) }
