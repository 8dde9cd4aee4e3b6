-- A finished table tells a whole run: it came to its end and kept the limits.
use Rattle.std.proofs.Common.{◌≡◌, ℕ, zero, suc, ◌+◌, ◌*◌, ◌≤◌, inl, inr, ⊎_elim, List, [], ◌∷◌, ◌++◌, length, reverse, refl, ap, sym, subst, ◌∙◌, arith, true, false, Option, Some, None, All, is_some}
use Rattle.std.specs.Prelude.{MatchOption, unwrap_or}
use Rattle.std.specs.Option.{option_or}
use Rattle.std.proofs.lemmas.List.{reverse-reverse}
use mathlib.Core.Option.{some, some-injective, some-ne-none}
use lib.ListN.{get_elem?}
use Rattle.atomic_table.proofs.Lists.{at_last}
use Rattle.std.specs.declared.snapshot.Snapshot.{Snapshot}
use Rattle.ocr_body_meaning.specs.declared.call.Call as body
use Rattle.ocr_machine_history.specs.declared.entry.Entry.{Entry}
use Rattle.ocr_machine_history.specs.declared.entry.Entry.TheVariants as an
use Rattle.ocr_machine_history.specs.declared.entry.Stop as run
use Rattle.ocr_machine_history.specs.declared.entry.Stop.TheVariants as by
use Rattle.ocr_machine_history.specs.History.{History, is_stopped}
use Rattle.ocr_machine_history.specs.History as history
use Rattle.ocr_machine_history.specs.Weight.{weight}
use Rattle.ocr_machine_parts.specs.Legal.{IsCreating, IsRun, IsStop, is_stop}
use Rattle.ocr_machine_rules.specs.Laws.{MOST_MEMBERS}
use Rattle.ocr_machine_rules.proofs.Whole.{quiet_is, creating_is, weighed_is}
use Rattle.ocr_worker_machine.proofs.Quiet.{still_law}
use Rattle.ocr_turns_rule.specs.Contract.{Finished}
use Rattle.ocr_turns_rule.specs.Meaning.{Ended, Open}
use Rattle.ocr_turns_rule.specs.Rule.{FactsOf, IsStill, LogOf}
use Rattle.ocr_turns_rule.specs.Sums.{made_sum, sum_of, up_to}
use Rattle.ocr_turns_rule.proofs.Totals.{at_less, at_snoc_at, made_snoc}
use Rattle.ocr_worker_machine.specs.Clerks.{OcrTerms, OcrView, of_terms}
use Rattle.ocr_worker_machine.specs.Ocr.{makes, meaning, stands}
use Rattle.ocr_worker_machine.specs.declared.fact.Fact.TheVariants.{Short}
use Rattle.ocr_worker_machine.proofs.Entered.{goes_on}
use Rattle.ocr_worker_machine.proofs.Runs.{reverse_snoc, run_is}
use Rattle.ocr_worker_clerk.specs.Work.{stop_in, stop_of}
use Rattle.ocr_journal_merge.specs.Numbered.{AreByNumber}
use Rattle.ocr_journal_merge.proofs.Numbers.{number_there}
use Rattle.ocr_run_crew.specs.Ended.{IsFinished, IsWholeRun}
use Rattle.ocr_run_crew.specs.Limits.{IsLimitCause, IsLimitedBy}
use Rattle.ocr_run_crew.specs.Logs.{EndsBy, HasLogs, IsLog, KnowsEnd}
use Rattle.ocr_run_crew.proofs.Numbers.{free_few}
use Rattle.ocr_run_crew.proofs.Weights.{load_within, loads_of, loads_within, run_weight}

-- THE END
stop_is : (e : Entry) (past : History) → is_stop e ≡ true → is_stopped (e ∷ past) ≡ true
stop_is (an.Stop why) past is = refl
stop_is other past is = absurd (cc is)

stopped : (J : List Entry) → Ended is_stop J → is_stopped (reverse J) ≡ true
stopped J ended = ap (λ K. is_stopped (reverse K)) ended.whole ∙ (ap is_stopped (reverse_snoc ended.past ended.last) ∙ stop_is ended.last (reverse ended.past) ended.stop)

match_some : {A : Type 0} (o : Option A) (P : A → Type 0) (Q : Type 0) → is_some o ≡ true → MatchOption o (Unit {0}) (λ _. Q) → Q
match_some None P Q is m = absurd (cc is)
match_some (Some x) P Q is m = m

by_number : (t : OcrTerms) (v : OcrView) (logs : List (List (ℕ × Entry))) (f : Finished meaning t v logs) → AreByNumber (v.log ∷ v.joined) f.history
by_number t v logs f = subst (λ ls. AreByNumber ls f.history) f.logs_are (record { of = f.of_run; once = f.once })

match_any : {A : Type 0} (o : Option A) (P : A → Type 0) → is_some o ≡ true → MatchOption o (Unit {0}) P → (x : A) × P x
match_any None P is m = absurd (cc is)
match_any (Some x) P is m = (x, m)

finished : (t : OcrTerms) (v : OcrView) (logs : List (List (ℕ × Entry))) (f : Finished meaning t v logs) → 2 ≤ t.limit → t.limit ≤ MOST_MEMBERS → KnowsEnd v → IsFinished (of_terms t) (reverse f.history)
finished t v logs f few most (inl closed) = inl (stopped f.history (match_some v.closed (λ _. Unit {0}) (Ended is_stop f.history) closed f.closed))
finished t v logs f few most (inr quiet) =
    let still = match_any v.quiet (λ n. (length f.history ≡ n) × IsStill meaning t f.history) quiet f.quiet in
    inr ((quiet_is (of_terms t) (reverse f.history) most (run_is t.setting.value t.limit f.history f.run)).0 (still_law t f.history few f.run still.1.1))

-- THE STOP of a run stands in one of its logs
stop_first : (why : run.Stop) (e : Entry) (rest : Option run.Stop) → ((w : run.Stop) → e ≡ an.Stop w → w ≡ why) → rest ≡ Some why → option_or (stop_of e) rest ≡ Some why
stop_first why (an.Stop w) rest only is = ap Some (only w refl)
stop_first why other rest only is = is

stop_found : (J : List Entry) (log : List (ℕ × Entry)) (why : run.Stop) (k n : ℕ) → LogOf J log → ((m : ℕ) (w : run.Stop) → get_elem? J m ≡ some (an.Stop w) → w ≡ why) → get_elem? log k ≡ some (n, an.Stop why) → stop_in log ≡ Some why
stop_found J [] why k n of only at = absurd (some-ne-none (n, an.Stop why) (sym at))
stop_found J (x ∷ log) why zero n of only at = ap (λ (y : ℕ × Entry). option_or (stop_of y.1) (stop_in log)) (some-injective x (n, an.Stop why) at)
stop_found J (x ∷ log) why (suc k) n of only at =
    stop_first why x.1 (stop_in log) (λ w e. only x.0 w (of 0 x.0 x.1 refl ∙ ap some e)) (stop_found J log why k n (λ i m e here. of (suc i) m e here) only at)

stop_same : (why w : run.Stop) → an.Stop why ≡ an.Stop w → w ≡ why
stop_same why w e = sym (ap (λ o. unwrap_or o why) (ap stop_of e))

only_one : (before : List Entry) (why : run.Stop) → Open is_stop before → (m : ℕ) (w : run.Stop) → get_elem? (before ++ an.Stop why ∷ []) m ≡ some (an.Stop w) → w ≡ why
only_one before why is_open m w at = ⊎_elim
    (λ h. let no_stop : true ≡ false = is_open m (an.Stop w) h.1 in absurd (cc no_stop))
    (λ h. stop_same why w h.1)
    (at_snoc_at before (an.Stop why) (an.Stop w) m at)

-- the log that has the Stop
record StopsIn (logs : List (List (ℕ × Entry))) (why : run.Stop) : Type 0 where
  j : ℕ
  log : List (ℕ × Entry)
  here : get_elem? logs j ≡ some log
  ends : stop_in log ≡ Some why

stops_in : (logs : List (List (ℕ × Entry))) (before : List Entry) (why : run.Stop) → Open is_stop before → AreByNumber logs (before ++ an.Stop why ∷ []) → StopsIn logs why
stops_in logs before why is_open is =
    let J = before ++ an.Stop why ∷ [] in
    let last : get_elem? J (length before) ≡ some (an.Stop why) = at_last before (an.Stop why) (length before) refl in
    let there = number_there logs J (length before) is (at_less J (length before) (an.Stop why) last) in
    let e = there.0 in let j = there.1.0 in let log = there.1.1 in let at_j = there.1.2 in let k = there.1.3.0 in let at_k = there.1.3.1 in
    let of : LogOf J log = is.of j log at_j in
    let same : e ≡ an.Stop why = some-injective e (an.Stop why) (sym (of k (length before) e at_k) ∙ last) in
    record {
      j = j;
      log = log;
      here = at_j;
      ends = stop_found J log why k (length before) of (only_one before why is_open) (at_k ∙ ap (λ (x : Entry). some (length before, x)) same);
    }

all_at : {A : Type 0} (P : A → Type 0) (xs : List A) (j : ℕ) (y : A) → All P xs → get_elem? xs j ≡ some y → P y
all_at P [] j y all at = absurd (some-ne-none y (sym at))
all_at P (x ∷ xs) zero y all at = subst P (some-injective x y at) (all 0 x (omega arith))
all_at P (x ∷ xs) (suc j) y all at = all_at P xs j y (λ k d lt. all (suc k) d (omega (arith, lt))) at

-- THE CAUSES
-- what is known of the history before the Stop
record Before (t : OcrTerms) (v : OcrView) (workers : ℕ) (before : List Entry) (why : run.Stop) : Type 0 where
  run : IsRun (of_terms t) (reverse before)
  going : is_stopped (reverse before) ≡ false
  cause : IsStop (of_terms t) (reverse before) why
  weighs : weight (reverse before) ≡ loads_of (v.log ∷ v.joined)
  numbers : is_some v.reached ≡ true → (f : ℕ → ℕ) → sum_of f v.drawn + (up_to f 2 + made_sum makes f (reverse (reverse before))) ≡ up_to f t.limit
  has : HasLogs workers t.share workers v
  facts : FactsOf (stands t.setting.value t.limit (before ++ an.Stop why ∷ [])) v.facts
  stops : StopsIn (v.log ∷ v.joined) why

ends_by : (workers share : ℕ) (log : List (ℕ × Entry)) (why : run.Stop) → IsLog workers share log → stop_in log ≡ Some why → EndsBy workers share log why
ends_by workers share log why is ends = subst (λ o. MatchOption o (Unit {0}) (EndsBy workers share log)) ends is.ends

-- what the run was short of could come before its Stop
could_come : (t : OcrTerms) (before : List Entry) (edt : ℕ) (c : Snapshot body.Call) → stands t.setting.value t.limit (before ++ an.Stop by.Objects ∷ []) (Short edt c) → IsCreating (of_terms t) (reverse before) edt c.value
unfolding stands
could_come t before edt c st =
    let same : an.Stop by.Objects ∷ st.before ≡ an.Stop by.Objects ∷ reverse before = sym st.stopped ∙ reverse_snoc before (an.Stop by.Objects) in
    subst (λ (past : History). IsCreating (of_terms t) past edt c.value) (cc same) st.creating

caused : (t : OcrTerms) (v : OcrView) (workers : ℕ) (before : List Entry) (why : run.Stop) → 1 ≤ workers → t.limit ≤ MOST_MEMBERS → Before t v workers before why → IsLimitCause (of_terms t) workers t.share (reverse before) why
caused t v workers before by.Objects hired most b =
    let lacks = b.has.short (b.stops.j, b.stops.log, b.stops.here, b.stops.ends) in
    let free = free_few (of_terms t) (reverse before) v.drawn b.run (b.numbers lacks.reached) in
    let held = lacks.few in (
      lacks.edt,
      lacks.call.value,
      record {
        creating = (creating_is (of_terms t) (reverse before) lacks.edt lacks.call.value b.run).0 (could_come t before lacks.edt lacks.call (b.facts lacks.known.0 (Short lacks.edt lacks.call) lacks.known.1));
        short = omega arith;
      },
    )
caused t v workers before (by.Events worker k) hired most b =
    let weighed = b.cause in
    let own = ends_by workers t.share b.stops.log (by.Events worker k) (all_at (IsLog workers t.share) (v.log ∷ v.joined) b.stops.j b.stops.log b.has.each b.stops.here) b.stops.ends in
    let load = load_within (v.log ∷ v.joined) b.stops.j b.stops.log b.stops.here in
    let past = own.2 in let all = b.weighs in (
      weighed.0,
      record {
        number = (own.0, own.1);
        weighed = (weighed_is (of_terms t) (reverse before) weighed.0 k most b.run b.going).0 weighed.1;
        past_share = omega arith;
      },
    )
caused t v workers before other hired most b = tt

limited_open : (s : history.Setting) (workers share : ℕ) (past : History) → is_stopped past ≡ false → IsLimitedBy s workers share past
limited_open s workers share [] goes = tt
limited_open s workers share (an.Stop why ∷ past) goes = absurd (cc goes)
limited_open s workers share (e ∷ past) goes = tt

limited_last : (s : history.Setting) (workers share : ℕ) (past : History) (e : Entry) → is_stop e ≡ true → ((why : run.Stop) → e ≡ an.Stop why → IsLimitCause s workers share past why) → IsLimitedBy s workers share (e ∷ past)
limited_last s workers share past (an.Stop why) is cause = cause why refl
limited_last s workers share past other is cause = absurd (cc is)

module _ (t : OcrTerms) (v : OcrView) (workers : ℕ) (logs : List (List (ℕ × Entry))) (f : Finished meaning t v logs) (hired : 1 ≤ workers) (most : t.limit ≤ MOST_MEMBERS) (has : HasLogs workers t.share workers v) where
  known : (before : List Entry) (why : run.Stop) → f.history ≡ before ++ an.Stop why ∷ [] → Open is_stop before → Before t v workers before why
  known before why whole is_open =
      let s = of_terms t in
      let J = before ++ an.Stop why ∷ [] in
      let numbered : AreByNumber (v.log ∷ v.joined) f.history = by_number t v logs f in
      let here : AreByNumber (v.log ∷ v.joined) J = subst (AreByNumber (v.log ∷ v.joined)) whole numbered in
      let runs : IsRun s (an.Stop why ∷ reverse before) = subst (IsRun s) (ap reverse whole ∙ reverse_snoc before (an.Stop why)) (run_is t.setting.value t.limit f.history f.run) in
      record {
        run = runs.0;
        going = goes_on before is_open;
        cause = runs.1.stopping;
        weighs = let a = ap weight (reverse_snoc before (an.Stop why)) in let b = run_weight J (v.log ∷ v.joined) here.of here.once in omega arith;
        numbers = λ reached g.
            let full = match_some v.reached (λ _. Unit {0}) ((h : ℕ → ℕ) → sum_of h v.drawn + (up_to h 2 + made_sum makes h f.history) ≡ up_to h t.limit) reached f.full g in
            let same : made_sum makes g f.history ≡ made_sum makes g (reverse (reverse before)) =
            ap (made_sum makes g) whole ∙ (made_snoc makes g before (an.Stop why) ∙ (let r = ap (made_sum makes g) (reverse-reverse before) in omega arith)) in
            omega arith;
        has = has;
        facts = subst (λ (H : List Entry). FactsOf (stands t.setting.value t.limit H) v.facts) whole f.facts;
        stops = stops_in (v.log ∷ v.joined) before why is_open here;
      }

  limited : IsLimitedBy (of_terms t) workers t.share (reverse f.history)
  limited = ⊎_elim
      (λ is_open. limited_open (of_terms t) workers t.share (reverse f.history) (goes_on f.history is_open))
      (λ ended.
      let same : f.history ≡ ended.past ++ ended.last ∷ [] = ended.whole in
      subst (IsLimitedBy (of_terms t) workers t.share) (sym (ap reverse same ∙ reverse_snoc ended.past ended.last))
      (limited_last (of_terms t) workers t.share (reverse ended.past) ended.last ended.stop
      (λ why is. caused t v workers ended.past why hired most (known ended.past why (same ∙ ap (λ (e : Entry). ended.past ++ e ∷ []) is) ended.open_before))))
      f.ends

  within : weight (reverse f.history) ≤ (workers + 1) * t.share
  within =
      let numbered = by_number t v logs f in
      let all = run_weight f.history (v.log ∷ v.joined) numbered.of numbered.once in
      let light = loads_within t.share (v.log ∷ v.joined) (λ j log at. (all_at (IsLog workers t.share) (v.log ∷ v.joined) j log has.each at).light) in
      let many : length (v.log ∷ v.joined) ≡ workers + 1 = (let m = has.many in omega arith) in
      let bound = ap (λ n. n * t.share) many in
      omega (arith, all, light, bound)

pub whole : (t : OcrTerms) (v : OcrView) (workers : ℕ) (logs : List (List (ℕ × Entry))) (f : Finished meaning t v logs) → 1 ≤ workers → 2 ≤ t.limit → t.limit ≤ MOST_MEMBERS → HasLogs workers t.share workers v → KnowsEnd v → IsWholeRun (of_terms t) workers t.share f.history
whole t v workers logs f hired few most has knows = record {
  run = run_is t.setting.value t.limit f.history f.run;
  finished = finished t v logs f few most knows;
  limited = record { within = within t v workers logs f hired most has; cause = limited t v workers logs f hired most has };
}
