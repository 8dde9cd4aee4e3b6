-- A replay goes on by an entry, or stops at it.
use Rattle.std.proofs.Common.{◌≡◌, ℕ, ◌+◌, ◌-◌, ◌^◌, ◌<◌, ◌≤◌, List, [], ◌∷◌, ◌++◌, take, length, slice_index_or, slice_set, Bool, true, false, not, ◌==◌, ◌||◌, nat_lt, if◌then◌else◌, Option, Some, None, is_some, arith, refl, sym, ◌∙◌, ap, subst, rules}
use Rattle.std.proofs.lemmas.Grind.{common_steps}
use Rattle.std.proofs.lemmas.Bool.{eqb-true, or_parts, not-true, not-false, true≢false}
use Rattle.std.specs.List.{Contains}
use Rattle.ocr_acquire.specs.declared.Mode.{Mode}
use Rattle.ocr_datablock.specs.Lent.{Loan, loan_of}
use Rattle.ocr_edt.specs.Edt as edt
use Rattle.ocr_edt.specs.declared.Edt.{Edt}
use Rattle.ocr_edt.specs.declared.Edt.TheVariants as phase
use Rattle.ocr_edt.specs.declared.Identity.{Identity}
use Rattle.ocr_machine_history.specs.Edts.{is_started, IsRunning}
use Rattle.ocr_machine_history.specs.History.{History, Setting, history_of, is_stopped, own}
use Rattle.ocr_machine_history.specs.Made.{Made, MadeBlock, MadeTemplate, MadeEvent, MadeScope, MadeEdt, made, is_edt, function_in, params_in}
use Rattle.ocr_machine_history.specs.declared.entry.Entry.{Entry}
use Rattle.ocr_machine_history.specs.declared.entry.Entry.TheVariants.{Call, Deliver, Start, Free, End, Stop}
use Rattle.ocr_machine_history.specs.declared.entry.Stop.TheVariants as by
use Rattle.ocr_machine_history.specs.declared.entry.What.{What}
use Rattle.ocr_replay_body.specs.Cases.{core_holds, case_body, IsFitLoan, IsFitHold, IsFitCore}
use Rattle.ocr_replay_body.specs.Judge.{runs, IsMadeBy, IsFormed, IsUnsaid, IsVerdict, at_place}
use Rattle.ocr_replay_body.specs.Mail.{left_from, message_at, sent_row}
use Rattle.ocr_replay_body.specs.Tests.{Whether}
use Rattle.ocr_replay_body.specs.declared.judge.Verdict.{Verdict}
use Rattle.ocr_replay_body.proofs.Letters.{dropped, sent, waiting}
use Rattle.ocr_replay_legality.specs.Tests.{MayEnter}
use Rattle.ocr_base.specs.Mail.{without}
use Rattle.ocr_machine_state.specs.State.{state_in, face_on, core_on, IsStateOf, IsBefore}
use Rattle.ocr_machine_state.specs.declared.state.State.{State}
use Rattle.ocr_body_meaning.specs.Body.{Body}
use Rattle.ocr_acquire.specs.Mode.{is_isolated}
use Rattle.ocr_body_meaning.specs.declared.call.Call as body
use Rattle.ocr_body_meaning.specs.declared.call.Call.TheVariants as call
use Rattle.ocr_body_meaning.specs.declared.call.Answer.{Answer}
use Rattle.ocr_machine_parts.specs.Bodies.{body_of, says_next, first_holds, hold_of}
use Rattle.ocr_machine_parts.specs.Calls.{edt_calls, loans_of, depv_of, plan_of}
use Rattle.ocr_machine_parts.specs.Effects.{started_edt}
use Rattle.ocr_machine_parts.specs.Progress.{with_phase, made_ready}
use Rattle.ocr_machine_parts.specs.Kinds.{is_running, is_acquiring, is_acquiring_edt, work_in, on_core, mode_on, kept_on, counted_on}
use Rattle.ocr_machine_parts.specs.Laws.{AfterLaw, CountedLaw}
use Rattle.ocr_machine_parts.specs.Legal.{IsRun, IsLegal, IsSaid, is_stop}
use Rattle.ocr_machine_parts.specs.LegalOn.{IsCallOn}
use Rattle.ocr_machine_parts.specs.Messages.{sends, delivered, pending}
use Rattle.ocr_machine_parts.specs.Parts.{Parts, parts_of, core, identity_of}
use Rattle.ocr_machine_parts.specs.Taken.{is_within}
use Rattle.ocr_machine_parts.specs.declared.loans.Kept.{Kept}
use Rattle.ocr_machine_parts.specs.declared.part.Core.{Core}
use Rattle.ocr_machine_parts.specs.declared.part.Part.{Part}
use Rattle.ocr_machine_parts.specs.declared.part.Part.TheVariants as part
use Rattle.ocr_machine_laws.specs.Marks.{mark, mark_in}
use Rattle.ocr_machine_laws.specs.Quiet.{ToldLaw, EdtsLaw}
use Rattle.ocr_machine_laws.specs.Held.{KeptFitsLaw, IsFitting}
use Rattle.ocr_machine_laws.specs.Permanence.{BodyLaw, NoOwnLaw, has_own}
use Rattle.ocr_program_tree.specs.Tree.{FunctionTree}
use Rattle.ocr_replay.specs.Replay.{entry_at, verdict_at, IsReplayed, IsReplaying, IsNext, IsComing, IsEntered, IsStarted, IsJudged, IsFirstIllegal, mail_after, CanDeliver}
use Rattle.ocr_replay.specs.declared.state.Replay.{Replay}
use Rattle.ocr_base.proofs.Booleans.{same}
use Rattle.ocr_machine_laws.proofs.Said.{started_made}
use Rattle.ocr_machine_history.proofs.Fronts.{history_next, past_len}

abbrev some_or : {A : Type 0} → A → Option A → A
some_or d None = d
some_or d (Some x) = x

some_of : {A : Type 0} (x y : A) → Some x ≡ Some y → x ≡ y
some_of x y is = ap (some_or x) is

abbrev starter : Entry → ℕ
starter (Start u) = u
starter other = 0

start_of : {u t : ℕ} → Start u ≡ Start t → u ≡ t
start_of is = ap starter is

core_mark : (e : Edt) → is_some (work_in e) ≡ true → mark_in e ≡ (2, false)
core_mark (phase.Running w) is = refl
core_mark other is = cc is

running_mark : (x : Part) → is_running x ≡ true → mark x ≡ (2, false)
running_mark (part.Core c) is = core_mark c.edt is
running_mark other is = cc is

pub running_now : ToldLaw → (s : Setting) (past : History) (t : ℕ) → IsRun s past → is_running ((parts_of s past).core t) ≡ true → IsRunning past t
running_now told s past t run is =
    let m : mark ((parts_of s past).core t) ≡ (2, false) = running_mark ((parts_of s past).core t) is in
    record {
      started = (told s past run t).has_started ∙ ap (λ (p : ℕ × Bool). nat_lt 1 p.0) m;
      not_ended = (told s past run t).has_ended ∙ ap (λ (p : ℕ × Bool). nat_lt 2 p.0) m;
    }

-- WHAT A BODY SAYS, by its verdict
past_it : (v n : ℕ) → n ≤ v → (v == n) ≡ false → n < v
past_it v n after apart = grind (arith, common_steps)

made_here : (b : Body) (t n : ℕ) (xs : List Entry) (v : Verdict) (e : Entry) → IsVerdict b t xs n v.at v.told → e ≡ slice_index_or xs n e → runs t e ≡ true → not (v.at == n) ≡ true
    → IsMadeBy (at_place b t xs n) e
made_here b t n xs v e verdict is mine apart =
    let off : (v.at == n) ≡ false = not-true (v.at == n) apart in
    verdict.said n (omega arith) (past_it v.at n verdict.after off) e is mine

not_made_here : (b : Body) (t n : ℕ) (xs : List Entry) (v : Verdict) (e : Entry) → IsVerdict b t xs n v.at v.told → n < length xs → e ≡ slice_index_or xs n e → not (v.at == n) ≡ false
    → IsMadeBy (at_place b t xs n) e → ⊥
not_made_here b t n xs v e verdict below is here =
    let at : v.at ≡ n = eqb-true v.at n (not-false (v.at == n) here) in
    let unsaid : IsUnsaid b t xs v.at = verdict.unsaid (omega (arith, at, below)) in
    (subst (λ (k : ℕ). IsUnsaid b t xs k) at unsaid e is).1

formed : (limit : ℕ) (f : Parts) (t home : ℕ) (c : body.Call) (a : Answer) (w : List (ℕ × ℕ)) → IsCallOn limit f t home c a w → IsFormed c a
formed limit f t home (call.Load d k) a w on = record { done = on.code; no_scope = on.scope; no_output = on.output }
formed limit f t home (call.Store d k v) a w on = (record { done = on.code; no_scope = on.scope; no_output = on.output }, on.value.1)
formed limit f t home other a w on = tt

pub said_call : ToldLaw → (s : Setting) (xs : List Entry) (n t home : ℕ) (c : body.Call) (a : Answer) (w : List (ℕ × ℕ)) (r : Replay) (b : Bool) → b ≡ not ((verdict_at r.verdicts.items t).at == n)
    → IsNext s xs n (Call t home c a w) r → Whether b (IsSaid s (history_of (take n xs)) (Call t home c a w))
said_call told s xs n t home c a w r b is next =
    let past : History = history_of (take n xs) in
    let on : IsCallOn s.limit (parts_of s past) t home c a w = next.may.0 in
    let verdict = next.so_far.judged t (running_now told s past t next.so_far.run on.running) in
    record {
      yes = λ on_it. (made_here (body_of s past t) t n xs (verdict_at r.verdicts.items t) (Call t home c a w) verdict next.is (same t) (sym is ∙ on_it)).0;
      no = λ off said. not_made_here (body_of s past t) t n xs (verdict_at r.verdicts.items t) (Call t home c a w) verdict next.within next.is (sym is ∙ off) (said, formed s.limit (parts_of s past) t home c a w on);
    }

pub said_free : ToldLaw → (s : Setting) (xs : List Entry) (n t d : ℕ) (w : List (ℕ × ℕ)) (r : Replay) (b : Bool) → b ≡ not ((verdict_at r.verdicts.items t).at == n)
    → IsNext s xs n (Free t d w) r → Whether b (IsSaid s (history_of (take n xs)) (Free t d w))
said_free told s xs n t d w r b is next =
    let past : History = history_of (take n xs) in
    let verdict = next.so_far.judged t (running_now told s past t next.so_far.run next.may.0.running) in
    record {
      yes = λ on_it. made_here (body_of s past t) t n xs (verdict_at r.verdicts.items t) (Free t d w) verdict next.is (same t) (sym is ∙ on_it);
      no = λ off said. not_made_here (body_of s past t) t n xs (verdict_at r.verdicts.items t) (Free t d w) verdict next.within next.is (sym is ∙ off) said;
    }

pub said_end : ToldLaw → (s : Setting) (xs : List Entry) (n t g : ℕ) (r : Replay) (b : Bool) → b ≡ not ((verdict_at r.verdicts.items t).at == n)
    → IsNext s xs n (End t g) r → Whether b (IsSaid s (history_of (take n xs)) (End t g))
said_end told s xs n t g r b is next =
    let past : History = history_of (take n xs) in
    let verdict = next.so_far.judged t (running_now told s past t next.so_far.run next.may.0.running) in
    record {
      yes = λ on_it. made_here (body_of s past t) t n xs (verdict_at r.verdicts.items t) (End t g) verdict next.is (same t) (sym is ∙ on_it);
      no = λ off said. not_made_here (body_of s past t) t n xs (verdict_at r.verdicts.items t) (End t g) verdict next.within next.is (sym is ∙ off) said;
    }

pub said_delivery : (s : Setting) (past : History) (rows : List (List (Option What))) (x : ℕ × ℕ × What) (b : Bool) → left_from 0 rows ≡ pending s past → Whether b (Contains (left_from 0 rows) x) → Whether b (Contains (pending s past) x)
said_delivery s past rows x b left whether = subst (λ (ms : List (ℕ × ℕ × What)). Whether b (Contains ms x)) left whether

-- LEGAL
pub coming_legal : (s : Setting) (xs : List Entry) (n : ℕ) (e : Entry) (r : Replay) → IsComing s xs n e r → IsLegal s (history_of (take n xs)) e
coming_legal s xs n (Stop why) r coming = absurd (cc (coming.next.no_stop))
coming_legal s xs n other r coming = record {
  open_run = coming.next.so_far.open_run;
  on_parts = coming.next.may.0;
  on_facts = coming.next.may.1;
  said = coming.said;
  stopping = tt;
}

pub first_illegal : (s : Setting) (xs : List Entry) (n : ℕ) (e : Entry) → IsRun s (history_of (take n xs)) → n < length xs → e ≡ slice_index_or xs n e → (IsLegal s (history_of (take n xs)) e → ⊥) → IsFirstIllegal s xs n
first_illegal s xs n e run below is wrong = record {
  within = below;
  run = run;
  broken = λ more. wrong (subst (λ (h : History). IsRun s h) (history_next xs n e below is) more).1;
}

-- MESSAGES
pub can_deliver : (s : Setting) (past : History) (e : Entry) (rows : List (List (Option What))) → left_from 0 rows ≡ pending s past → IsSaid s past e → CanDeliver e rows
can_deliver s past (Deliver m c) rows left said =
    let there : message_at rows m.place m.index ≡ Some m.what = waiting rows m.place m.index m.what (subst (λ (ms : List (ℕ × ℕ × What)). Contains ms (m.place, m.index, m.what)) (sym left) said) in
    λ none. cc (sym there ∙ none)
can_deliver s past other rows left said = tt

left_after : (s : Setting) (past : History) (e : Entry) (rows : List (List (Option What))) → left_from 0 rows ≡ pending s past → IsSaid s past e → left_from 0 (mail_after e rows) ≡ without (delivered e) (left_from 0 rows)
left_after s past (Deliver m c) rows left said =
    sym (dropped m.place m.index rows m.what (waiting rows m.place m.index m.what (subst (λ (ms : List (ℕ × ℕ × What)). Contains ms (m.place, m.index, m.what)) (sym left) said)))
left_after s past other rows left said = refl

len_after : (e : Entry) (rows : List (List (Option What))) → length (mail_after e rows) ≡ length rows
len_after (Deliver m c) rows = search rules
len_after other rows = refl

pub mail_next : (s : Setting) (past : History) (e : Entry) (rows : List (List (Option What))) (ms : List What) → left_from 0 rows ≡ pending s past → IsSaid s past e → length rows ≡ length past → ms ≡ sends e (parts_of s past)
    → left_from 0 (mail_after e rows ++ sent_row ms ∷ []) ≡ pending s (e ∷ past)
mail_next s past e rows ms left said len are =
    sent (mail_after e rows) ms
    ∙ rw (left_after s past e rows left said, len_after e rows, len, are, left) refl

still_open : (past : History) (e : Entry) → is_stop e ≡ false → is_stopped past ≡ false → is_stopped (e ∷ past) ≡ false
still_open past (Stop why) no_stop going = cc no_stop
still_open past other no_stop going = going

more_len : (xs : List (List (Option What))) (x : List (Option What)) → length (xs ++ x ∷ []) ≡ length xs + 1
more_len xs x = grind (arith, common_steps)

pub entered_next : (s : Setting) (xs : List Entry) (n : ℕ) (e : Entry) (r : Replay) (table : State) (rows : List (List (Option What))) (ms : List What) → IsComing s xs n e r
    → (IsBefore s (history_of (take n xs)) e r.table → IsStateOf s (e ∷ history_of (take n xs)) table) → ms ≡ sends e (state_in r.table)
    → rows ≡ mail_after e r.mail ++ sent_row ms ∷ [] → IsEntered s xs (n + 1) table rows
entered_next s xs n e r table rows ms coming enters sent_are rows_are =
    let past : History = history_of (take n xs) in
    let next = coming.next in
    let legal : IsLegal s past e = coming_legal s xs n e r coming in
    let h : history_of (take (n + 1) xs) ≡ e ∷ past = history_next xs n e next.within next.is in
    let len : length r.mail ≡ length past = next.so_far.sent ∙ sym (past_len xs n (omega (arith, next.within))) in
    let are : ms ≡ sends e (parts_of s past) = sent_are ∙ ap (sends e) next.so_far.of.parts in
    record {
      run = subst (λ (p : History). IsRun s p) (sym h) (next.so_far.run, legal);
      open_run = subst (λ (p : History). is_stopped p ≡ false) (sym h) (still_open past e next.no_stop next.so_far.open_run);
      of = subst (λ (p : History). IsStateOf s p table) (sym h) (enters (record { of = next.so_far.of; run = next.so_far.run; legal = legal }));
      sent = ap length rows_are ∙ more_len (mail_after e r.mail) (sent_row ms) ∙ ap (λ (k : ℕ). k + 1) (len_after e r.mail ∙ next.so_far.sent);
      left = ap (left_from 0) rows_are ∙ mail_next s past e r.mail ms next.so_far.left coming.said len are ∙ ap (pending s) (sym h);
    }

-- COUNTS of latches
pub few_counted : CountedLaw → (s : Setting) (xs : List Entry) (n : ℕ) (e : Entry) (r : Replay) → IsComing s xs n e r → n < 2 ^ 64 - 1 → (g : ℕ) → counted_on (face_on r.table g) < 2 ^ 64 - 1
few_counted law s xs n e r coming few g =
    let past : History = history_of (take n xs) in
    let same : counted_on (face_on r.table g) ≡ counted_on ((parts_of s past).face g) = ap (λ (f : Parts). counted_on (f.face g)) coming.next.so_far.of.parts in
    let most : counted_on ((parts_of s past).face g) ≤ length past = law s past g in
    let len : length past ≡ n = past_len xs n (omega (arith, coming.next.within)) in
    omega (arith, same, most, len, few)

-- VERDICTS after one entry more
legal_made : (s : Setting) (xs : List Entry) (n : ℕ) (e : Entry) (t : ℕ) → IsLegal s (history_of (take n xs)) e → is_stop e ≡ false → runs t e ≡ true → IsMadeBy (says_next s (history_of (take n xs)) t) e
legal_made s xs n (Call u home c a w) t legal no_stop is =
    subst (λ (k : ℕ). IsMadeBy (says_next s (history_of (take n xs)) k) (Call u home c a w)) (eqb-true u t is) (legal.said, formed s.limit (parts_of s (history_of (take n xs))) u home c a w legal.on_parts)
legal_made s xs n (Free u d w) t legal no_stop is = subst (λ (k : ℕ). IsMadeBy (says_next s (history_of (take n xs)) k) (Free u d w)) (eqb-true u t is) legal.said
legal_made s xs n (End u g) t legal no_stop is = subst (λ (k : ℕ). IsMadeBy (says_next s (history_of (take n xs)) k) (End u g)) (eqb-true u t is) legal.said
legal_made s xs n (Stop why) t legal no_stop is = absurd (cc no_stop)
legal_made s xs n other t legal no_stop is = absurd (cc is)

restrict : BodyLaw → (s : Setting) (xs : List Entry) (n : ℕ) (e : Entry) (t : ℕ) (v : Verdict) → IsRun s (history_of (take n xs)) → IsLegal s (history_of (take n xs)) e → is_stop e ≡ false → n < length xs
    → e ≡ slice_index_or xs n e → is_edt (history_of (take n xs)) t ≡ true → IsRunning (history_of (take n xs)) t
    → IsVerdict (body_of s (history_of (take n xs)) t) t xs n v.at v.told → IsVerdict (body_of s (history_of (take (n + 1) xs)) t) t xs (n + 1) v.at v.told
restrict body_law s xs n e t v run legal no_stop below is edt running verdict =
    let past : History = history_of (take n xs) in
    let apart : (v.at == n) ≡ false = elim (v.at == n) as (λ b. (v.at == n) ≡ b → b ≡ false) [
      | true ↦ λ here.
          let at : v.at ≡ n = eqb-true v.at n here in
          let unsaid : IsUnsaid (body_of s past t) t xs n = subst (λ (k : ℕ). IsUnsaid (body_of s past t) t xs k) at (verdict.unsaid (omega (arith, at, below))) in
          absurd ((unsaid e is).1 (legal_made s xs n e t legal no_stop (unsaid e is).0))
      | false ↦ λ _. refl
    ] refl in
    let more : n < v.at = past_it v.at n verdict.after apart in
    let bodies : body_of s (history_of (take (n + 1) xs)) t ≡ body_of s past t = ap (λ (p : History). body_of s p t) (history_next xs n e below is) ∙ body_law s past e t run legal edt running.started in
    subst (λ (b : Body). IsVerdict b t xs (n + 1) v.at v.told) (sym bodies) (record {
      after = omega (arith, more);
      within = verdict.within;
      said = λ m lower upper. verdict.said m (omega (arith, lower)) upper;
      unsaid = verdict.unsaid;
      told = verdict.told;
    })

-- who runs after an entry that did not start it ran before it
ran_before : (past : History) (e : Entry) (t : ℕ) → (e ≡ Start t → ⊥) → IsRunning (e ∷ past) t → IsRunning past t
ran_before past (Start u) t no_start running = record {
  started = elim (u == t) as (λ b. (u == t) ≡ b → (b || is_started past t) ≡ true → is_started past t ≡ true) [
    | true ↦ λ same_edt _. absurd (no_start (ap (λ (k : ℕ). Start k) (eqb-true u t same_edt)))
    | false ↦ λ _ is. is
  ] refl running.started;
  not_ended = running.not_ended;
}
ran_before past (End u g) t no_start running = record { started = running.started; not_ended = (or_parts (u == t) _ running.not_ended).1 }
ran_before past other t no_start running = record { started = running.started; not_ended = running.not_ended }

pub running_edt : ToldLaw → EdtsLaw → (s : Setting) (past : History) (t : ℕ) → IsRun s past → IsRunning past t → is_edt past t ≡ true
running_edt told edts s past t run running =
    sym (edts s past run t) ∙ started_made (made s past t) (identity_of past t) (edt_calls s past t) (loans_of s past t) (sym (told s past run t).has_started ∙ running.started)

-- THE REPLAY after one entry more
pub next_other : ToldLaw → EdtsLaw → BodyLaw → (s : Setting) (xs : List Entry) (n : ℕ) (e : Entry) (r new : Replay) → IsComing s xs n e r → IsEntered s xs (n + 1) new.table new.mail
    → new.verdicts ≡ r.verdicts → ((t : ℕ) → e ≡ Start t → ⊥) → IsReplaying s xs (n + 1) new
next_other told edts body_law s xs n e r new coming entered same_verdicts no_start = record {
  run = entered.run;
  open_run = entered.open_run;
  of = entered.of;
  sent = entered.sent;
  left = entered.left;
  judged = λ t running.
      let past : History = history_of (take n xs) in
      let next = coming.next in
      let before : IsRunning past t = ran_before past e t (no_start t) (subst (λ (h : History). IsRunning h t) (history_next xs n e next.within next.is) running) in
      rw same_verdicts (restrict body_law s xs n e t (verdict_at r.verdicts.items t) next.so_far.run (coming_legal s xs n e r coming) next.no_stop next.within next.is
      (running_edt told edts s past t next.so_far.run before) before (next.so_far.judged t before));
}

pub next_start : ToldLaw → EdtsLaw → BodyLaw → (s : Setting) (xs : List Entry) (n u : ℕ) (r new : Replay) → IsComing s xs n (Start u) r → IsEntered s xs (n + 1) new.table new.mail
    → IsJudged s xs n u r.verdicts.items new.verdicts.items → IsReplaying s xs (n + 1) new
next_start told edts body_law s xs n u r new coming entered judged = record {
  run = entered.run;
  open_run = entered.open_run;
  of = entered.of;
  sent = entered.sent;
  left = entered.left;
  judged = λ t running. elim (u == t) as (λ b. (u == t) ≡ b → IsVerdict (body_of s (history_of (take (n + 1) xs)) t) t xs (n + 1) (verdict_at new.verdicts.items t).at (verdict_at new.verdicts.items t).told) [
    | true ↦ λ mine. subst (λ (k : ℕ). IsVerdict (body_of s (history_of (take (n + 1) xs)) k) k xs (n + 1) (verdict_at new.verdicts.items k).at (verdict_at new.verdicts.items k).told) (eqb-true u t mine) judged.own
    | false ↦ λ apart.
        let past : History = history_of (take n xs) in
        let next = coming.next in
        let before : IsRunning past t = ran_before past (Start u) t (λ is. true≢false (sym (same u) ∙ ap (λ (k : ℕ). u == k) (start_of is) ∙ apart))
        (subst (λ (h : History). IsRunning h t) (history_next xs n (Start u) next.within next.is) running) in
        rw (judged.others t apart) (restrict body_law s xs n (Start u) t (verdict_at r.verdicts.items t) next.so_far.run (coming_legal s xs n (Start u) r coming) refl next.within next.is
        (running_edt told edts s past t next.so_far.run before) before (next.so_far.judged t before))
  ] refl;
}

-- AN EDT THAT HAS STARTED
no_own : (past : History) (t : ℕ) → has_own past t ≡ false → own past t ≡ []
no_own [] t is = refl
no_own (Call u home c a w ∷ past) t is = elim (u == t) as (λ b. (b || has_own past t) ≡ false → (if b then (record { call = c; answer = a }) ∷ own past t else own past t) ≡ []) [
  | true ↦ λ is. cc is
  | false ↦ λ is. no_own past t is
] is
no_own (Start u ∷ past) t is = no_own past t (or_parts (u == t) _ is).1
no_own (Free u d w ∷ past) t is = no_own past t (or_parts (u == t) _ is).1
no_own (End u g ∷ past) t is = no_own past t (or_parts (u == t) _ is).1
no_own (other ∷ past) t is = no_own past t is

pub fresh_now : NoOwnLaw → (s : Setting) (xs : List Entry) (n t : ℕ) (r : Replay) → IsStarted s xs n t r → own (history_of (take (n + 1) xs)) t ≡ []
fresh_now law s xs n t r started =
    let h = history_next xs n (Start t) started.within started.is in
    ap (λ (p : History). own p t) h
    ∙ no_own (history_of (take n xs)) t (law s (history_of (take n xs)) t (subst (λ (p : History). IsRun s p) h started.entered.run).0 started.legal)

started_edt_runs : (e : Edt) → is_acquiring_edt e ≡ true → is_some (work_in (started_edt e)) ≡ true
started_edt_runs (phase.Acquiring p) is = refl
started_edt_runs other is = cc is

started_runs : (x : Part) → is_acquiring x ≡ true → is_running (on_core x (with_phase started_edt)) ≡ true
started_runs (part.Core c) is = started_edt_runs c.edt is
started_runs other is = cc is

pub runs_now : AfterLaw → (s : Setting) (xs : List Entry) (n t : ℕ) (r : Replay) → IsStarted s xs n t r → is_running ((parts_of s (history_of (take (n + 1) xs))).core t) ≡ true
runs_now after s xs n t r started =
    let past : History = history_of (take n xs) in
    let h = history_next xs n (Start t) started.within started.is in
    let run : IsRun s past = (subst (λ (p : History). IsRun s p) h started.entered.run).0 in
    ap (λ (p : History). is_running ((parts_of s p).core t)) h
    ∙ ap (λ (f : Parts). is_running (f.core t)) (after s past (Start t) run started.legal)
    ∙ rw (same t) (started_runs (on_core ((parts_of s past).core t) (with_phase (made_ready (plan_of s past t)))) (rw (same t) at started.legal.on_parts.acquiring))

-- its body
abbrev function_of : Part → ℕ
function_of (part.Core c) = c.function
function_of other = 0

abbrev params_of : Part → List ℕ
params_of (part.Core c) = c.params
params_of other = []

made_function : (m : Option Made) (i : Identity) (calls : List edt.EdtCall) (loans : List (ℕ × Kept)) → function_in m ≡ function_of (core m i calls loans)
made_function None i calls loans = refl
made_function (Some (MadeBlock n c)) i calls loans = refl
made_function (Some (MadeTemplate f pc dc)) i calls loans = refl
made_function (Some (MadeEvent k fl most)) i calls loans = refl
made_function (Some (MadeScope outer event)) i calls loans = refl
made_function (Some (MadeEdt f ps n)) i calls loans = refl

made_params : (m : Option Made) (i : Identity) (calls : List edt.EdtCall) (loans : List (ℕ × Kept)) → params_in m ≡ params_of (core m i calls loans)
made_params None i calls loans = refl
made_params (Some (MadeBlock n c)) i calls loans = refl
made_params (Some (MadeTemplate f pc dc)) i calls loans = refl
made_params (Some (MadeEvent k fl most)) i calls loans = refl
made_params (Some (MadeScope outer event)) i calls loans = refl
made_params (Some (MadeEdt f ps n)) i calls loans = refl

pub body_now : (s : Setting) (past : History) (t : ℕ) (c : Core) (deps : List ℕ) → (parts_of s (Start t ∷ past)).core t ≡ part.Core c → deps ≡ depv_of s (Start t ∷ past) t
    → case_body s.program c deps ≡ body_of s (Start t ∷ past) t
body_now s past t c deps is are =
    let p : History = Start t ∷ past in
    let function : function_in (made s p t) ≡ c.function = made_function (made s p t) (identity_of p t) (edt_calls s p t) (loans_of s p t) ∙ ap function_of is in
    let params : params_in (made s p t) ≡ c.params = made_params (made s p t) (identity_of p t) (edt_calls s p t) (loans_of s p t) ∙ ap params_of is in
    let holds : first_holds s p t ≡ core_holds c = rw (same t) (ap (λ (x : Part). λ (d : ℕ). hold_of (mode_on x d) (kept_on x d)) is) in
    rw (are, sym function, sym params, sym holds) refl

-- and what it keeps fits its holds
fit_for : (m : Mode) (size : ℕ) (loan : Option Loan) → (is_isolated m ≡ true → (words : List ℕ) × (loan ≡ Some (loan_of m words [])) × (length words ≡ size)) → IsFitLoan m size loan
fit_for m size None fits = elim (is_isolated m) as (λ b. is_isolated m ≡ b → b ≡ false) [
  | true ↦ λ on. absurd (cc ((fits on).1))
  | false ↦ λ _. refl
] refl
fit_for m size (Some l) fits = λ on.
    let f = fits on in
    let is : l ≡ loan_of m f.0 [] = some_of l (loan_of m f.0 []) f.1 in
    record { size_is = ap (λ (k : Loan). length k.began) is ∙ f.2; unwritten = ap (λ (k : Loan). k.writes) is }

fit_loan : (m : Mode) (kept : Kept) → (is_isolated m ≡ true → (words : List ℕ) × IsFitting m kept words) → IsFitLoan m kept.size kept.loan
fit_loan m kept fits = fit_for m kept.size kept.loan (λ on. let f = fits on in (f.0, f.1.loan, f.1.size))

pub fit_now : KeptFitsLaw → (s : Setting) (past : History) (t : ℕ) (c : Core) → IsRun s past → (parts_of s past).core t ≡ part.Core c → IsFitCore c
fit_now law s past t c run is d = elim (mode_on (part.Core c) d) as (λ o. mode_on (part.Core c) d ≡ o → IsFitHold o (kept_on (part.Core c) d)) [
  | None ↦ λ _. tt
  | Some m ↦ λ mode.
      let kept = law s past t d m run (ap (λ (x : Part). mode_on x d) is ∙ mode) in
      let there : kept_on (part.Core c) d ≡ Some kept.0 = sym (ap (λ (x : Part). kept_on x d) is) ∙ kept.1.is_kept in
      rw there (fit_loan m kept.0 kept.1.isolated)
] refl

-- THE OPENING
pub first_replaying : (s : Setting) (xs : List Entry) (table : State) (rows : List (List (Option What))) (vs : List Verdict) → IsStateOf s [] table → rows ≡ [] → IsReplayed s xs 0 table rows vs
first_replaying s xs table rows vs of none = record {
  run = tt;
  open_run = refl;
  of = of;
  sent = rw none refl;
  left = rw none refl;
  judged = λ t running. absurd (true≢false (sym running.started));
}

-- THE ENTRY at a place
pub entry_is : (xs : List Entry) (n : ℕ) (e d : Entry) → n < length xs → e ≡ slice_index_or xs n e → slice_index_or xs n d ≡ e
entry_is xs n e d below is = grind (arith, common_steps)

pub no_stop_here : (xs : List Entry) (n : ℕ) (e : Entry) → n < length xs → e ≡ slice_index_or xs n e → is_stop (entry_at xs n) ≡ false → is_stop e ≡ false
no_stop_here xs n e below is none = ap is_stop (sym (entry_is xs n e (Stop by.Memory) below is)) ∙ none

pub may_not : (s : Setting) (xs : List Entry) (n : ℕ) (e : Entry) (r : Replay) → IsReplaying s xs n r → n < length xs → e ≡ slice_index_or xs n e → (MayEnter s (history_of (take n xs)) e → ⊥) → IsFirstIllegal s xs n
may_not s xs n e r so_far below is wrong = first_illegal s xs n e so_far.run below is (λ legal. wrong (legal.on_parts, legal.on_facts))

pub said_not : (s : Setting) (xs : List Entry) (n : ℕ) (e : Entry) (r : Replay) → IsReplaying s xs n r → n < length xs → e ≡ slice_index_or xs n e → (IsSaid s (history_of (take n xs)) e → ⊥) → IsFirstIllegal s xs n
said_not s xs n e r so_far below is wrong = first_illegal s xs n e so_far.run below is (λ legal. wrong legal.said)

-- A START that was entered
pub start_running : AfterLaw → (s : Setting) (xs : List Entry) (n t : ℕ) (r : Replay) → IsStarted s xs n t r → is_running (core_on r.table t) ≡ true
start_running after s xs n t r started = ap (λ (f : Parts). is_running (f.core t)) started.entered.of.parts ∙ runs_now after s xs n t r started

pub small_started : (table : State) (t : ℕ) → is_running (core_on table t) ≡ true → t ≤ table.limit
small_started table t running = elim (is_within table.limit t) as (λ b. is_within table.limit t ≡ b → t ≤ table.limit) [
  | true ↦ λ within. grind (arith, common_steps)
  | false ↦ λ off. let none : is_running (core_on table t) ≡ false = rw off refl in cc (none, running)
] refl

core_started : (s : Setting) (xs : List Entry) (n t : ℕ) (r : Replay) (c : Core) → IsStarted s xs n t r → core_on r.table t ≡ part.Core c → (parts_of s (Start t ∷ history_of (take n xs))).core t ≡ part.Core c
core_started s xs n t r c started is =
    ap (λ (p : History). (parts_of s p).core t) (sym (history_next xs n (Start t) started.within started.is))
    ∙ ap (λ (f : Parts). f.core t) (sym started.entered.of.parts) ∙ is

pub fit_started : KeptFitsLaw → (s : Setting) (xs : List Entry) (n t : ℕ) (r : Replay) (c : Core) → IsStarted s xs n t r → core_on r.table t ≡ part.Core c → IsFitCore c
fit_started law s xs n t r c started is =
    fit_now law s (Start t ∷ history_of (take n xs)) t c (subst (λ (p : History). IsRun s p) (history_next xs n (Start t) started.within started.is) started.entered.run) (core_started s xs n t r c started is)

verdict_set : (vs : List Verdict) (t u : ℕ) (v : Verdict) → t < length vs → verdict_at (slice_set vs t v) u ≡ (if t == u then v else verdict_at vs u)
verdict_set vs t u v below = grind (arith, common_steps)

set_len : (vs : List Verdict) (t : ℕ) (v : Verdict) → length (slice_set vs t v) ≡ length vs
set_len vs t v = search rules

pub judged_now : (s : Setting) (xs : List Entry) (n t : ℕ) (r : Replay) (c : Core) (deps : List ℕ) (v : Verdict) (after : List Verdict) (program : List FunctionTree) → IsStarted s xs n t r → s.program ≡ program
    → is_running (core_on r.table t) ≡ true → core_on r.table t ≡ part.Core c
    → ((s : Setting) (past : History) → IsStateOf s past r.table → is_running ((parts_of s past).core t) ≡ true → deps ≡ depv_of s past t) → t < length r.verdicts.items
    → after ≡ slice_set r.verdicts.items t v → IsVerdict (case_body program c deps) t xs (n + 1) v.at v.told → IsJudged s xs n t r.verdicts.items after
judged_now s xs n t r c deps v after program started is_program running is deps_are room after_is verdict =
    let past : History = history_of (take n xs) in
    let h : history_of (take (n + 1) xs) ≡ Start t ∷ past = history_next xs n (Start t) started.within started.is in
    let of : IsStateOf s (Start t ∷ past) r.table = subst (λ (p : History). IsStateOf s p r.table) h started.entered.of in
    let runs : is_running ((parts_of s (Start t ∷ past)).core t) ≡ true = ap (λ (f : Parts). is_running (f.core t)) (sym of.parts) ∙ running in
    let bodies : case_body program c deps ≡ body_of s (Start t ∷ past) t = ap (λ (fs : List FunctionTree). case_body fs c deps) (sym is_program) ∙ body_now s past t c deps (core_started s xs n t r c started is) (deps_are s (Start t ∷ past) of runs) in
    let at : (u : ℕ) → verdict_at after u ≡ (if t == u then v else verdict_at r.verdicts.items u) = λ u. ap (λ (vs : List Verdict). verdict_at vs u) after_is ∙ verdict_set r.verdicts.items t u v room in
    let own_is : verdict_at after t ≡ v = at t ∙ rw (same t) refl in
    record {
      own = rw own_is (subst (λ (p : History). IsVerdict (body_of s p t) t xs (n + 1) v.at v.told) (sym h) (subst (λ (b : Body). IsVerdict b t xs (n + 1) v.at v.told) bodies verdict));
      others = λ u apart. at u ∙ rw apart refl;
      len = ap length after_is ∙ set_len r.verdicts.items t v;
    }

-- WHAT GOES ON
pub next_of : (s : Setting) (xs : List Entry) (n : ℕ) (e : Entry) (r : Replay) → IsReplaying s xs n r → n < length xs → e ≡ slice_index_or xs n e → is_stop (entry_at xs n) ≡ false → MayEnter s (history_of (take n xs)) e → IsNext s xs n e r
next_of s xs n e r so_far below is none may = record { so_far = so_far; within = below; is = is; no_stop = no_stop_here xs n e below is none; may = may }

pub comes : (s : Setting) (xs : List Entry) (n : ℕ) (e : Entry) (r : Replay) → IsReplaying s xs n r → n < length xs → e ≡ slice_index_or xs n e → is_stop (entry_at xs n) ≡ false → MayEnter s (history_of (take n xs)) e
    → (IsNext s xs n e r → IsSaid s (history_of (take n xs)) e) → IsComing s xs n e r
comes s xs n e r so_far below is none may said = let next : IsNext s xs n e r = next_of s xs n e r so_far below is none may in record { next = next; said = said next }

pub started_of : (s : Setting) (xs : List Entry) (n t : ℕ) (r new : Replay) → IsComing s xs n (Start t) r → IsEntered s xs (n + 1) new.table new.mail → IsStarted s xs n t new
started_of s xs n t r new coming entered = record { entered = entered; within = coming.next.within; is = coming.next.is; legal = coming_legal s xs n (Start t) r coming }

pub next_same : (ns : List ℕ) (n v : ℕ) → n < length ns → v ≡ slice_index_or ns n 0 → v ≡ slice_index_or ns n v
next_same ns n v below is = is ∙ or_same ns n 0 v below
  where
    or_same : (xs : List ℕ) (k a b : ℕ) → k < length xs → slice_index_or xs k a ≡ slice_index_or xs k b
    or_same xs k a b under = grind (arith, common_steps)

pub go_start : ToldLaw → EdtsLaw → BodyLaw → (s : Setting) (xs : List Entry) (n u : ℕ) (e : Entry) (r mid new : Replay) → e ≡ Start u → IsComing s xs n e r → IsEntered s xs (n + 1) mid.table mid.mail → mid.verdicts ≡ r.verdicts
    → new.table ≡ mid.table → new.mail ≡ mid.mail → (IsStarted s xs n u mid → IsJudged s xs n u mid.verdicts.items new.verdicts.items) → IsReplaying s xs (n + 1) new
go_start told edts body_law s xs n u e r mid new is coming entered kept table mail judges =
    let comes : IsComing s xs n (Start u) r = subst (λ (x : Entry). IsComing s xs n x r) is coming in
    let judged : IsJudged s xs n u mid.verdicts.items new.verdicts.items = judges (started_of s xs n u r mid comes entered) in
    let vs : mid.verdicts.items ≡ r.verdicts.items = rw kept refl in
    next_start told edts body_law s xs n u r new comes (rw (table, mail) entered) (subst (λ (v : List Verdict). IsJudged s xs n u v new.verdicts.items) vs judged)
