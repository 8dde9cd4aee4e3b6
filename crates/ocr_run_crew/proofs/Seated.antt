-- Clerks that are made, work and come home.
use Rattle.std.proofs.Common.{Bool, false, ◌≢◌, ◌==◌, if◌then◌else◌, ◌≡◌, ℕ, get_or, zero, suc, ◌+◌, ◌<◌, ◌≤◌, ◌⊎◌, inl, inr, ⊎_elim, List, [], ◌∷◌, ◌++◌, length, refl, ap, sym, subst, ◌∙◌, arith, true, Option, Some, None, All, is_some, length-append}
use Rattle.std.specs.Prelude.{MatchOption}
use Rattle.std.specs.Option.{option_or}
use Rattle.std.proofs.lemmas.Bool.{eqb-true, eqb-false}
use Rattle.std.proofs.lemmas.List.Elements.{All-append}
use mathlib.Core.Option.{some, some-injective, some-ne-none}
use lib.ListN.{get_elem?}
use Rattle.atomic_table.proofs.Lists.{at_longer}
use Rattle.crossbeam_utils.specs.Padded.{padded_value}
use Rattle.crossbeam_utils.specs.declared.cache_padded.CachePadded.{CachePadded}
use Rattle.ocr_worker_clerk.specs.Entry.{OcrKnown}
use Rattle.ocr_worker_clerk.specs.Work.{IsAway, IsOwnStop, LacksNumbers, OcrTable, OwesNoCount, Stays, stop_in}
use Rattle.ocr_body_code.specs.declared.checked.Checked.{Checked}
use Rattle.ocr_worker_machine.specs.Clerks.{OcrView}
use Rattle.ocr_worker_machine.specs.declared.fact.Fact.TheVariants.{Short}
use Rattle.ocr_machine_history.specs.declared.entry.Entry.{Entry}
use Rattle.ocr_machine_history.specs.declared.entry.Stop as run
use Rattle.ocr_machine_history.specs.declared.entry.Stop.TheVariants as by
use Rattle.ocr_machine_history.specs.Weight.{weight_of}
use Rattle.ocr_steal.specs.declared.hand.Hand.{Hand}
use Rattle.ocr_steal.specs.declared.pool.Pool.{Pool}
use Rattle.ocr_steal.specs.declared.account.Account.{Account}
use Rattle.ocr_steal.specs.Deque.{newcomer}
use Rattle.ocr_steal.specs.Hand.{own}
use Rattle.ocr_steal.specs.Pool.{IsNew, IsOfPool}
use Rattle.ocr_worker.specs.declared.leave.Worked.{Worked}
use Rattle.ocr_run_crew.specs.declared.seats.Seat.{Seat}
use Rattle.ocr_turns_rule.specs.Contract.{SameHand}
use Rattle.ocr_turns_rule.specs.Steps.{fresh, gathered, parted}
use Rattle.ocr_machine_history.specs.declared.entry.What.{What}
use Rattle.ocr_base.specs.Mail.{tally}
use Rattle.ocr_turns_rule.specs.Live.{MayLower, lowering}
use Rattle.ocr_turns_rule.specs.Sums.{load_of, sum_of, weigh}
use Rattle.ocr_turns_rule.specs.Units.{one_each, units}
use Rattle.ocr_turns_rule.proofs.Totals.{at_append}
use Rattle.ocr_worker.specs.Leave.{WorkLeaves}
use Rattle.ocr_worker.specs.declared.leave.Leave.{Leave}
use Rattle.ocr_worker.specs.declared.leave.Leave.TheVariants as leave
use Rattle.ocr_run_crew.specs.Logs.{EndsBy, HasLogs, IsAnyShort, IsLog, KnowsEnd}
use Rattle.ocr_run_crew.specs.Seats.{AreBack, IsGathering, IsHired, IsHiring, IsHome}

owes_same : (v w : OcrView) → w.debts ≡ v.debts → OwesNoCount v → OwesNoCount w
owes_same v w same is = record {
  unput = ap (λ d. d.unput) same ∙ is.unput;
  put = ap (λ d. d.put) same ∙ is.put;
  made = ap (λ d. d.made) same ∙ is.made;
  resumes = ap (λ d. d.resumes) same ∙ is.resumes;
}

-- A NEW CLERK
pub hired : (table : OcrTable) (program : Checked) (out : ℕ) (root clerk : OcrKnown) → IsHiring table program out root → clerk.table ≡ root.table → clerk.view ≡ fresh root.view → clerk.parts ≡ [] → 1 ≤ clerk.room → 64 ≤ clerk.spare → IsHired table program clerk
hired table program out root clerk is same view bare room spare =
    subst (λ w. IsHired table program (record clerk { view = w })) (sym view) (record {
      between = record {
        rests = record {
          of_table = (same ∙ is.work.of_table.0, is.work.of_table.1);
          limits = is.work.limits;
          program_is = is.work.program_is;
          runnable = is.work.runnable;
          is_open = refl;
          unstopped = refl;
          room = room;
          spare = omega (arith, spare);
          weighs = refl;
          light = omega arith;
          few = omega arith;
          full = tt;
          loads = is.work.loads;
          stake = omega arith;
          raised = omega arith;
          ended = refl;
        };
        idle = record {
          kept = refl;
          hand = bare;
          claims = refl;
          drawn = refl;
          owes = record { unput = refl; put = refl; made = refl; resumes = refl };
          none = λ u runs. absurd (cc runs.started);
        };
        stake = inl refl;
      };
      seat = refl;
      other = refl;
      alone = refl;
    })

-- THE ROOT that made it
pub hires : (table : OcrTable) (program : Checked) (out : ℕ) (root after : OcrKnown) → IsHiring table program out root → SameHand root after → after.view ≡ parted root.view → IsHiring table program (out + 1) after
hires table program out root after is same view =
    let work = is.work in let idle = is.idle in
    let room = same.2.0 in let spare = same.2.1 in let parts = same.1 in
    subst (λ w. IsHiring table program (out + 1) (record after { view = w })) (sym view) (record {
      work = record {
        of_table = (same.0 ∙ work.of_table.0, work.of_table.1);
        limits = work.limits;
        program_is = work.program_is;
        runnable = work.runnable;
        is_open = work.is_open;
        unstopped = work.unstopped;
        room = omega (arith, room, work.room);
        spare = (let l = ap (λ (ps : List _). length ps) parts in let s = work.spare in omega (arith, spare));
        weighs = work.weighs;
        light = work.light;
        few = work.few;
        full = work.full;
        loads = work.loads;
        stake = work.stake;
        raised = work.raised;
        ended = work.ended;
      };
      idle = record {
        kept = idle.kept;
        hand = parts ∙ idle.hand;
        claims = idle.claims;
        drawn = idle.drawn;
        owes = owes_same root.view (parted root.view) refl idle.owes;
        none = idle.none;
      };
      owed = is.owed;
      unit = is.unit;
      root = is.root;
      others = ap (λ n. n + 1) is.others;
      log = is.log;
      joined = is.joined;
    })

-- and gives up its unit
pub may_lower : (table : OcrTable) (program : Checked) (out : ℕ) (root : OcrKnown) → IsHiring table program out root → MayLower root.view 1
may_lower table program out root is = (let u = is.unit in omega (arith, u), λ ended. let none = is.work.ended in absurd (omega (arith, ended, none)))

no_letters : (xs : List (ℕ × ℕ × What)) → xs ≡ [] → tally one_each xs ≡ 0
no_letters xs is = ap (tally one_each) is

pub none_left : (table : OcrTable) (program : Checked) (out : ℕ) (root after : OcrKnown) → IsHiring table program out root → after.view ≡ lowering root.view 1 → units after.view ≡ 0
none_left table program out root after is view =
    let owes = is.idle.owes in
    let a = no_letters root.view.owed is.owed in let b = ap (tally one_each) owes.unput in let c = ap (tally one_each) owes.put in let d = ap (weigh one_each) owes.made in let e = ap (sum_of one_each) owes.resumes in
    let f = ap (sum_of one_each) is.idle.claims in let u = is.unit in
    let all = ap (λ (v : OcrView). units v) view in omega (arith, a, b, c, d, e, f, u, all)

-- THE ROOT that a clerk came home to
or_left : {A : Type 0} (a b : Option A) → is_some a ≡ true → is_some (option_or a b) ≡ true
or_left None b is = absurd (cc is)
or_left (Some x) b is = refl

or_right : {A : Type 0} (a b : Option A) → is_some b ≡ true → is_some (option_or a b) ≡ true
or_right None b is = is
or_right (Some x) b is = refl

knows_gathered : (v w : OcrView) → KnowsEnd w → KnowsEnd (gathered v w)
knows_gathered v w (inl closed) = inl (or_right v.closed w.closed closed)
knows_gathered v w (inr quiet) = inr (or_right v.quiet w.quiet quiet)

one_all : {X : Type 0} (P : X → Type 0) (x : X) → P x → All P (x ∷ [])
one_all P x is zero d less = is
one_all P x is (suc k) d less = absurd (omega (arith, less))

front_short : (log : List (ℕ × Entry)) (logs : List (List (ℕ × Entry))) (more : List (ℕ × Entry)) → IsAnyShort (log ∷ (logs ++ more ∷ [])) → IsAnyShort (log ∷ logs) ⊎ (stop_in more ≡ Some by.Objects)
front_short log logs more (zero, l, at, is) = inl (0, l, at, is)
front_short log logs more (suc j, l, at, is) = ⊎_elim
    (λ h. inl (suc j, l, h, is))
    (λ h. inr (last h.0 h.1))
    (at_append logs (more ∷ []) j l at)
  where
    last : (i : ℕ) → get_elem? (more ∷ []) i ≡ some l → stop_in more ≡ Some by.Objects
    last zero here = ap stop_in (some-injective more l here) ∙ is
    last (suc i) here = absurd (some-ne-none l (sym here))

-- what stands in a list that comes behind another
at_right : {A : Type 0} (xs ys : List A) (k : ℕ) (x : A) → get_elem? ys k ≡ some x → (j : ℕ) × (get_elem? (xs ++ ys) j ≡ some x)
at_right [] ys k x at = (k, at)
at_right (y ∷ xs) ys k x at = let r = at_right xs ys k x at in (suc r.0, r.1)

module _ (table : OcrTable) (workers back : ℕ) (root clerk : OcrKnown) (has : HasLogs workers table.1.share back root.view) (home : IsHome table workers clerk) where
  logs_gathered : HasLogs workers table.1.share (back + 1) (gathered root.view clerk.view)
  logs_gathered =
      let v = root.view in let w = clerk.view in
      let P = IsLog workers table.1.share in
      let alone : w.log ∷ w.joined ≡ w.log ∷ [] = ap (λ (l : List (List (ℕ × Entry))). w.log ∷ l) home.alone in
      let len = length-append v.drawn w.drawn in let few = home.few in
      record {
        each = subst (λ (l : List (List (ℕ × Entry))). All P (v.log ∷ (v.joined ++ l))) (sym alone) (All-append P (v.log ∷ v.joined) (w.log ∷ []) has.each (one_all P w.log home.log));
        many = (let a = length-append v.joined (w.log ∷ w.joined) in let b = ap (λ (l : List (List (ℕ × Entry))). length l) alone in let m = has.many in omega arith);
        few = (let f = has.few in omega arith);
        short = λ any. ⊎_elim
            (λ h. let old = has.short h in record {
              edt = old.edt;
              call = old.call;
              known = (old.known.0, at_longer v.facts w.facts old.known.0 (Short old.edt old.call) old.known.1);
              few = (let f = old.few in omega (arith, f, len, few));
              reached = or_left v.reached w.reached old.reached;
            })
            (λ h. let own = home.short h in record {
              edt = own.edt;
              call = own.call;
              known = at_right v.facts w.facts own.known.0 (Short own.edt own.call) own.known.1;
              few = (let f = own.few in let g = has.few in omega (arith, f, g, len));
              reached = or_right v.reached w.reached own.reached;
            })
            (front_short v.log v.joined w.log (subst (λ (l : List (List (ℕ × Entry))). IsAnyShort (v.log ∷ (v.joined ++ l))) alone any));
      }

pub gathers : (table : OcrTable) (workers out back : ℕ) (root clerk after : OcrKnown) → IsGathering table workers (out + 1) back root → IsHome table workers clerk → after.table ≡ root.table → after.view ≡ gathered root.view clerk.view → IsGathering table workers out (back + 1) after
gathers table workers out back root clerk after is home same view =
    subst (λ w. IsGathering table workers out (back + 1) (record after { view = w })) (sym view) (record {
      limit = is.limit;
      table_is = same ∙ is.table_is;
      terms = is.terms;
      root = is.root;
      others = (let o = is.others in omega arith);
      logs = logs_gathered table workers back root clerk is.logs home;
      knows = λ _. knows_gathered root.view clerk.view home.knows;
    })

-- A WORKER that has left
ends_own : (table : OcrTable) (workers worker : ℕ) (v : OcrView) (o : Option run.Stop) → 1 ≤ worker → worker ≤ workers → v.weight ≡ load_of weight_of v.log → MatchOption o (Unit {0}) (IsOwnStop table.1 worker v) → MatchOption o (Unit {0}) (EndsBy workers table.1.share v.log)
ends_own table workers worker v None low high weighs own = tt
ends_own table workers worker v (Some (by.Events w k)) low high weighs own = (let a = own.0 in let b = own.1 in ((omega arith), (omega arith), (omega arith)))
ends_own table workers worker v (Some other) low high weighs own = tt

short_own : (table : OcrTable) (worker : ℕ) (v : OcrView) → MatchOption (stop_in v.log) (Unit {0}) (IsOwnStop table.1 worker v) → stop_in v.log ≡ Some by.Objects → LacksNumbers v
short_own table worker v own stops = subst (λ o. MatchOption o (Unit {0}) (IsOwnStop table.1 worker v)) stops own

left_home : (table : OcrTable) (workers worker : ℕ) (c : OcrKnown) → 1 ≤ worker → worker ≤ workers → IsAway table worker c → c.view.root ≡ 0 → c.view.joined ≡ [] → KnowsEnd c.view → IsHome table workers c
left_home table workers worker c low high is other alone knows = record {
  table_is = is.of_table.0;
  terms = is.of_table.1;
  other = other;
  alone = alone;
  log = record {
    light = (let w = is.weighs in let l = is.light in omega arith);
    ends = ends_own table workers worker c.view (stop_in c.view.log) low high is.weighs is.own;
  };
  few = is.few;
  short = short_own table worker c.view is.own;
  knows = knows;
}

knows_left : (table : OcrTable) (program : Checked) (worker : ℕ) (left : Leave) (c : OcrKnown) → WorkLeaves table program worker left c → KnowsEnd c.view
knows_left table program worker (leave.Quiet n) c leaves = inr (ap is_some leaves.quiet)
knows_left table program worker (leave.Closed word) c leaves = inl (ap is_some leaves.read)

back_core : (table : OcrTable) (program : Checked) (workers : ℕ) (seat : Seat) (w : Worked) → IsHired table program seat.clerk → (seat.worker ≡ seat.hand.number + 1) × (seat.worker ≤ workers) → Stays seat.clerk w.clerk → IsAway table seat.worker w.clerk → WorkLeaves table program seat.worker w.leave w.clerk → IsHome table workers w.clerk
back_core table program workers seat w hired_one worker stays own leaves =
    let first = worker.0 in let most = worker.1 in
    left_home table workers seat.worker w.clerk (omega arith) (omega arith) own (stays.root ∙ hired_one.other) (stays.joined ∙ hired_one.alone) (knows_left table program seat.worker w.leave w.clerk leaves)

pub back_from : (table : OcrTable) (program : Checked) (workers : ℕ) (seat taken : Seat) (w : Worked) → taken ≡ seat → IsHired table program seat.clerk → (seat.worker ≡ seat.hand.number + 1) × (seat.worker ≤ workers) → Stays taken.clerk w.clerk → IsAway table taken.worker w.clerk → WorkLeaves table program taken.worker w.leave w.clerk → IsHome table workers w.clerk
back_from table program workers seat taken w same hired_one worker stays own leaves =
    back_core table program workers seat w hired_one worker
    (subst (λ (s : Seat). Stays s.clerk w.clerk) same stays)
    (subst (λ (s : Seat). IsAway table s.worker w.clerk) same own)
    (subst (λ (s : Seat). WorkLeaves table program s.worker w.leave w.clerk) same leaves)

-- THE FIRST of those that come home
no_short : (logs : List (List (ℕ × Entry))) → logs ≡ [] ∷ [] → IsAnyShort logs → ⊥
no_short logs is any = none (subst IsAnyShort is any)
  where
    none : IsAnyShort ([] ∷ []) → ⊥
    none (zero, l, at, stops) = let e = ap stop_in (some-injective [] l at) ∙ stops in absurd (cc e)
    none (suc j, l, at, stops) = absurd (some-ne-none l (sym at))

pub begins_gathering : (table : OcrTable) (program : Checked) (out : ℕ) (root after : OcrKnown) → IsHiring table program out root → SameHand root after → after.view ≡ lowering root.view 1 → (workers : ℕ) → IsGathering table workers out 0 after
begins_gathering table program out root after is same view workers =
    let v = root.view in
    let logs : v.log ∷ v.joined ≡ [] ∷ [] = λ i. is.log i ∷ is.joined i in
    let P = IsLog workers table.1.share in
    subst (λ w. IsGathering table workers out 0 (record after { view = w })) (sym view) (record {
      limit = is.work.limits.0;
      table_is = same.0 ∙ is.work.of_table.0;
      terms = is.work.of_table.1;
      root = is.root;
      others = is.others;
      logs = record {
        each = subst (All P) (sym logs) (one_all P [] (record { light = omega arith; ends = tt }));
        many = ap (λ (l : List (List (ℕ × Entry))). length l) is.joined;
        few = (let d = ap (λ (ns : List ℕ). length ns) is.idle.drawn in omega arith);
        short = λ any. absurd (no_short (v.log ∷ v.joined) logs any);
      };
      knows = λ some. absurd (omega (arith, some));
    })

-- THE NEXT of those that come home, and those behind it
pub first_back : (table : OcrTable) (workers : ℕ) (items rest : List (CachePadded Worked)) (back : CachePadded Worked) (w : Worked) → items ≡ back ∷ rest → w ≡ padded_value back → AreBack table workers items → IsHome table workers w.clerk
first_back table workers items rest back w same is all =
    subst (λ (x : Worked). IsHome table workers x.clerk) (sym is) (subst (AreBack table workers) same all 0 back (omega arith))

pub later_back : (table : OcrTable) (workers : ℕ) (items rest : List (CachePadded Worked)) (back : CachePadded Worked) → items ≡ back ∷ rest → AreBack table workers items → AreBack table workers rest
later_back table workers items rest back same all k d lt = subst (AreBack table workers) same all (suc k) d (omega (arith, lt))

-- hands that go to work, from the first of them on
pub record IsUnused (pool : Pool) (n : ℕ) (h : Hand) : Type 0 where
  pub of_pool : IsOfPool pool h
  pub number : h.number ≡ n
  pub fresh : IsNew (own h)

abbrev pub AreUnused : Pool → ℕ → List Hand → Type 0
AreUnused pool n hands = (k : ℕ) (d : Hand) → k < length hands → IsUnused pool (n + k) (get_or hands k d)

at_number : (pool : Pool) (n m : ℕ) (h : Hand) → n ≡ m → IsUnused pool n h → IsUnused pool m h
at_number pool n m h same is = subst (λ k. IsUnused pool k h) same is

pub first_hand : (pool : Pool) (n : ℕ) (items rest : List Hand) (hand : Hand) → items ≡ hand ∷ rest → AreUnused pool n items → IsUnused pool n hand
first_hand pool n items rest hand same all = at_number pool (n + 0) n hand (omega arith) (subst (AreUnused pool n) same all 0 hand (omega arith))

pub later_hands : (pool : Pool) (n m : ℕ) (items rest : List Hand) (hand : Hand) → items ≡ hand ∷ rest → m ≡ n + 1 → AreUnused pool n items → AreUnused pool m rest
later_hands pool n m items rest hand same more all k d lt = at_number pool (n + suc k) (m + k) (get_or rest k d) (omega (arith, more)) (subst (AreUnused pool n) same all (suc k) d (omega (arith, lt)))

-- what stands in its deque as it goes to work
abbrev begun_with : ℕ → Bool → Account
begun_with parts first = record (newcomer parts) { pushed = if first then 2 ∷ [] else [] }

pub begun_hand : (number : ℕ) (old new : Hand) → old.number ≡ number → IsNew (own old) → (old.number ≡ 0 → own new ≡ record (own old) { pushed = (own old).pushed ++ 2 ∷ [] }) → (old.number ≢ 0 → new ≡ old) → own new ≡ record (newcomer (own new).parts) { pushed = if number == 0 then 2 ∷ [] else [] }
begun_hand number old new is unused first others = elim (number == 0) as (λ b. (number == 0) ≡ b → own new ≡ begun_with (own new).parts b) [
  | true ↦ λ same.
      let one = first (is ∙ eqb-true number 0 same) in
      let made : own new ≡ begun_with (own old).parts true = one ∙ (λ i. record { parts = (own old).parts; pushed = unused.pushed i ++ 2 ∷ []; taken = unused.taken i }) in
      made ∙ ap (λ (n : ℕ). begun_with n true) (sym (ap (λ (v : Account). v.parts) made))
  | false ↦ λ apart.
      let one : own new ≡ own old = ap own (others (λ zero_number. eqb-false number 0 apart (sym is ∙ zero_number))) in
      let made : own new ≡ begun_with (own old).parts false = one ∙ (λ i. record { parts = (own old).parts; pushed = unused.pushed i; taken = unused.taken i }) in
      made ∙ ap (λ (n : ℕ). begun_with n false) (sym (ap (λ (v : Account). v.parts) made))
] refl
