-- A journal is cut at its first Stop.
use Rattle.std.proofs.Common.{◌≡◌, ℕ, ◌+◌, ◌<◌, ◌≤◌, List, [], ◌∷◌, take, length, slice_index_or, true, false, Option, Some, None, zero, suc, arith, refl, sym, ◌∙◌, ap, subst}
use Rattle.std.proofs.lemmas.Grind.{common_steps}
use Rattle.ocr_machine_history.specs.Edts.{IsRunning}
use Rattle.ocr_machine_history.specs.History.{History, Setting, history_of, is_stopped}
use Rattle.ocr_machine_history.specs.Made.{is_edt}
use Rattle.ocr_machine_history.specs.declared.entry.Entry.{Entry}
use Rattle.ocr_machine_history.specs.declared.entry.Entry.TheVariants.{Stop}
use Rattle.ocr_machine_history.specs.declared.entry.Stop as run
use Rattle.ocr_replay_body.specs.Judge.{IsToldAs, IsVerdict}
use Rattle.ocr_replay_body.specs.declared.judge.Verdict.{Verdict}
use Rattle.ocr_machine_parts.specs.Bodies.{says_next}
use Rattle.ocr_machine_parts.specs.Legal.{IsRun, IsLegal}
use Rattle.ocr_replay.specs.Stops.{IsFront}
use Rattle.ocr_edt.specs.Edt as edt
use Rattle.ocr_edt.specs.declared.Identity.{Identity}
use Rattle.ocr_machine_parts.specs.declared.loans.Kept.{Kept}
use Rattle.ocr_machine_history.specs.History.{own}
use Rattle.ocr_machine_history.specs.Made.{Made, MadeBlock, MadeTemplate, MadeEvent, MadeScope, MadeEdt, made, is_edt_made}
use Rattle.ocr_machine_state.specs.State.{IsStateOf}
use Rattle.ocr_body_meaning.specs.Body.{Body, says}
use Rattle.ocr_machine_parts.specs.Bodies.{body_of}
use Rattle.ocr_machine_parts.specs.Calls.{edt_calls, loans_of}
use Rattle.ocr_machine_parts.specs.Laws.{WithinLaw}
use Rattle.ocr_machine_parts.specs.Messages.{pending}
use Rattle.ocr_machine_parts.specs.Parts.{core, identity_of}
use Rattle.ocr_machine_parts.specs.Taken.{is_within}
use Rattle.ocr_machine_parts.specs.declared.part.Part.TheVariants as part
use Rattle.ocr_machine_laws.specs.Quiet.{ToldLaw, EdtsLaw}
use Rattle.ocr_replay.proofs.Plays.{running_edt}
use Rattle.ocr_replay.specs.declared.state.Replay.{Replay}
use Rattle.ocr_replay.specs.declared.replay_stop.ReplayStop.{ReplayStop}
use Rattle.ocr_replay.specs.declared.replay_stop.ReplayStop.TheVariants as why
use Rattle.ocr_replay.specs.Stopped.{IsStoppedAt}
use Rattle.ocr_replay.specs.Replay.{IsFirstIllegal, IsAtEnd, verdict_at}
use Rattle.ocr_replay.proofs.Some.{within_le}
use Rattle.ocr_machine_history.proofs.Fronts.{item, item_is, history_next, all_of}

pub past_end : (xs : List Entry) (n : ℕ) → length xs ≤ n → take n xs ≡ xs
past_end [] zero past = refl
past_end [] (suc n) past = refl
past_end (x ∷ xs) zero past = absurd (omega (arith, past))
past_end (x ∷ xs) (suc n) past = ap (λ l. x ∷ l) (past_end xs n (omega (arith, past)))

pub take_front : (xs : List Entry) (n end : ℕ) → n ≤ end → take n (take end xs) ≡ take n xs
take_front [] zero zero below = refl
take_front [] zero (suc end) below = refl
take_front [] (suc n) zero below = refl
take_front [] (suc n) (suc end) below = refl
take_front (x ∷ xs) zero end below = refl
take_front (x ∷ xs) (suc n) zero below = absurd (omega (arith, below))
take_front (x ∷ xs) (suc n) (suc end) below = ap (λ l. x ∷ l) (take_front xs n end (omega (arith, below)))

pub front_len : (xs : List Entry) (end : ℕ) → end ≤ length xs → length (take end xs) ≡ end
front_len xs end within = grind (arith, common_steps)

-- the first place that is not legal
pub cut_illegal : (s : Setting) (xs : List Entry) (end n : ℕ) → end ≤ length xs → IsFirstIllegal s (take end xs) n → IsFirstIllegal s xs n
cut_illegal s xs end n within found =
    let len : length (take end xs) ≡ end = front_len xs end within in
    record {
      within = omega (arith, found.within, len, within);
      run = subst (λ (l : List Entry). IsRun s (history_of l)) (take_front xs n end (omega (arith, found.within, len))) found.run;
      broken = λ more. found.broken (subst (λ (l : List Entry). IsRun s (history_of l)) (sym (take_front xs (n + 1) end (omega (arith, found.within, len)))) more);
    }

-- A STOP
pub stop_illegal : (s : Setting) (xs : List Entry) (end : ℕ) (why : run.Stop) → IsRun s (history_of (take end xs)) → end < length xs → Stop why ≡ slice_index_or xs end (Stop why)
    → (IsLegal s (history_of (take end xs)) (Stop why) → ⊥) → IsFirstIllegal s xs end
stop_illegal s xs end why run below is wrong = record {
  within = below;
  run = run;
  broken = λ more. wrong (subst (λ (h : History). IsRun s h) (history_next xs end (Stop why) below is) more).1;
}

pub after_stop : (s : Setting) (xs : List Entry) (n : ℕ) (why : run.Stop) → IsRun s (history_of (take n xs)) → n + 1 < length xs → Stop why ≡ slice_index_or xs n (Stop why) → IsLegal s (history_of (take n xs)) (Stop why)
    → IsFirstIllegal s xs (n + 1)
after_stop s xs n why run below is legal =
    let h : history_of (take (n + 1) xs) ≡ Stop why ∷ history_of (take n xs) = history_next xs n (Stop why) (omega (arith, below)) is in
    let e : Entry = item xs (n + 1) below in
    record {
      within = below;
      run = subst (λ (h : History). IsRun s h) (sym h) (run, legal);
      broken = λ more.
          let next = subst (λ (h : History). IsRun s h) (history_next xs (n + 1) e below (item_is xs (n + 1) below)) more in
          let stopped : is_stopped (history_of (take (n + 1) xs)) ≡ true = ap is_stopped h in
          let going : is_stopped (history_of (take (n + 1) xs)) ≡ false = next.1.open_run in
          cc (stopped, going);
    }

pub whole_run : (s : Setting) (xs : List Entry) (n : ℕ) (why : run.Stop) → IsRun s (history_of (take n xs)) → n < length xs → length xs ≤ n + 1 → Stop why ≡ slice_index_or xs n (Stop why) → IsLegal s (history_of (take n xs)) (Stop why)
    → IsRun s (history_of xs)
whole_run s xs n why run below last is legal =
    subst (λ (l : List Entry). IsRun s (history_of l)) (past_end xs (n + 1) last) (subst (λ (h : History). IsRun s h) (sym (history_next xs n (Stop why) below is)) (run, legal))

-- THE FRONT, all of whose entries were replayed
room_for : (xs : List Verdict) (t : ℕ) (v d : Verdict) → t < length xs → v ≡ slice_index_or xs t v → slice_index_or xs t d ≡ v
room_for xs t v d below is = grind (arith, common_steps)

made_within : WithinLaw → EdtsLaw → (s : Setting) (past : History) (t : ℕ) → 2 ≤ s.limit → IsRun s past → is_edt past t ≡ true → is_within s.limit t ≡ true
made_within law edts s past t enough run there = elim (is_within s.limit t) as (λ b. is_within s.limit t ≡ b → b ≡ true) [
  | true ↦ λ _. refl
  | false ↦ λ off. absurd (not_vacant (made s past t) (identity_of past t) (edt_calls s past t) (loans_of s past t) (edts s past run t ∙ there) ((law s past enough run).cores t off))
] refl
  where
    not_vacant : (m : Option Made) (i : Identity) (calls : List edt.EdtCall) (loans : List (ℕ × Kept)) → is_edt_made m ≡ true → core m i calls loans ≡ part.Vacant → ⊥
    not_vacant None i calls loans is vacant = cc is
    not_vacant (Some (MadeBlock n c)) i calls loans is vacant = cc is
    not_vacant (Some (MadeTemplate f pc dc)) i calls loans is vacant = cc is
    not_vacant (Some (MadeEvent k fl most)) i calls loans is vacant = cc is
    not_vacant (Some (MadeScope outer event)) i calls loans is vacant = cc is
    not_vacant (Some (MadeEdt f ps n)) i calls loans is vacant = cc vacant

front_told : (b : Body) (t : ℕ) (xs : List Entry) (v : Verdict) → IsVerdict b t xs (length xs) v.at v.told → IsToldAs (says b (own (history_of xs) t)) v.told
front_told b t xs v verdict =
    let at : v.at ≡ length xs = omega (arith, verdict.after, verdict.within) in
    subst (λ (l : List Entry). IsToldAs (says b (own (history_of l) t)) v.told) (ap (λ n. take n xs) at ∙ all_of xs) (verdict.told at)

pub front_of : ToldLaw → EdtsLaw → WithinLaw → (s : Setting) (xs : List Entry) (r : Replay) → IsAtEnd s xs r → IsFront s (history_of xs) r.table r.mail r.verdicts.items
front_of told edts within s xs r done =
    let so_far = done.replayed in
    let whole : history_of (take (length xs) xs) ≡ history_of xs = ap history_of (all_of xs) in
    let run : IsRun s (history_of xs) = subst (λ (h : History). IsRun s h) whole so_far.run in
    record {
      run = run;
      open_run = subst (λ (h : History). is_stopped h ≡ false) whole so_far.open_run;
      of = subst (λ (h : History). IsStateOf s h r.table) whole so_far.of;
      left = so_far.left ∙ ap (pending s) whole;
      long = omega (arith, done.room);
      told = λ t running v is.
          let small : t ≤ s.limit = within_le s.limit t (made_within within edts s (history_of xs) t done.some run (running_edt told edts s (history_of xs) t run running)) in
          let same : verdict_at r.verdicts.items t ≡ v = room_for r.verdicts.items t v _ (omega (arith, small, done.room)) is in
          let judged = so_far.judged t (subst (λ (h : History). IsRunning h t) (sym whole) running) in
          subst (λ (w : Verdict). IsToldAs (says_next s (history_of xs) t) w.told) same
          (front_told (body_of s (history_of xs) t) t xs (verdict_at r.verdicts.items t)
          (subst (λ (b : Body). IsVerdict b t xs (length xs) (verdict_at r.verdicts.items t).at (verdict_at r.verdicts.items t).told) (ap (λ (h : History). body_of s h t) whole) judged));
    }

-- the place of the first Stop
pub stop_at : (xs : List Entry) (n : ℕ) (e d : Entry) → n < length xs → slice_index_or xs n d ≡ e → e ≡ slice_index_or xs n e
stop_at xs n e d below is = grind (arith, common_steps)

pub cut_stopped : (s : Setting) (xs : List Entry) (end : ℕ) (stop : ReplayStop) → end ≤ length xs → IsStoppedAt s (take end xs) stop → IsStoppedAt s xs stop
cut_stopped s xs end (why.Illegal n) within found = cut_illegal s xs end n within found
cut_stopped s xs end why.NoMemory within found = tt

pub cut_whole : (s : Setting) (xs : List Entry) (end : ℕ) (r : Replay) → length xs ≤ end → IsAtEnd s (take end xs) r → IsRun s (history_of xs)
cut_whole s xs end r past done =
    let same : take end xs ≡ xs = past_end xs end past in
    subst (λ (l : List Entry). IsRun s (history_of l)) (all_of (take end xs) ∙ same) done.replayed.run
