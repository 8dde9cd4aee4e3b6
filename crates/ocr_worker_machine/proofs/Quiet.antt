-- What the word of an EDT tells the root, while no other clerk is out and it owes nothing.
use Rattle.std.proofs.Common.{◌≡◌, ◌≢◌, ◌⊎◌, inl, inr, ℕ, zero, suc, ◌+◌, ◌-◌, ◌<◌, ◌≤◌, List, [], ◌∷◌, filter, cond, not, reverse, Bool, true, false, nat_lt, nat_le, ◌&&◌, Option, Some, None, is_some, refl, sym, ◌∙◌, ap, subst, arith}
use Rattle.std.specs.List.{range_with_len}
use Rattle.std.proofs.lemmas.Grind.{common_steps}
use Rattle.ocr_acquire.specs.Mode.{mode_in}
use Rattle.ocr_slots.specs.Slots as slot
use Rattle.ocr_machine_history.specs.declared.entry.Entry.{Entry}
use Rattle.ocr_machine_history.specs.declared.entry.What.{What}
use Rattle.ocr_machine_history.specs.Edts as edts
use Rattle.ocr_machine_history.specs.History.{History}
use Rattle.ocr_machine_history.specs.Made.{Made, MadeEdt, is_edt, is_edt_made, made}
use Rattle.ocr_base.specs.Mail.{tally}
use Rattle.ocr_machine_parts.specs.Calls.{depc_of, open_slots, set_calls}
use Rattle.ocr_machine_parts.specs.Legal.{IsRun}
use Rattle.ocr_machine_parts.specs.Messages.{pending}
use Rattle.ocr_machine_parts.specs.Parts.{parts_of}
use Rattle.ocr_machine_parts.specs.Taken.{is_within}
use Rattle.ocr_machine_parts.proofs.Within.{made_out}
use Rattle.ocr_machine_laws.specs.Quiet.{IsIdleEdt, IsOver, IsQueued}
use Rattle.ocr_machine_laws.specs.Waits.{queue_on}
use Rattle.ocr_machine_laws.proofs.Drains.{done_law, drain_law, queued_idle}
use Rattle.ocr_machine_laws.proofs.Edts.{edts_law}
use Rattle.ocr_machine_laws.proofs.Stages.{standing_law, told_law}
use Rattle.ocr_machine_laws.proofs.Permanence.{all_set}
use Rattle.ocr_turns_rule.specs.Counts.{Account, Found, IsBusy, IsCounting, IsInOrder, IsParked, IsSet, READY, awaited, is_none, is_true, is_ended, is_started, payload_of, slots_of, unset_of}
use Rattle.ocr_turns_rule.specs.Debts.{IsNumber, making, of_edt, times}
use Rattle.ocr_turns_rule.specs.Rule.{Fits}
use Rattle.ocr_turns_rule.specs.Sums.{below}
use Rattle.ocr_turns_rule.specs.Words.{Knows, claiming}
use Rattle.ocr_turns_rule.proofs.Claims.{set_all}
use Rattle.ocr_turns_rule.proofs.Sole.{same_histories}
use Rattle.ocr_worker_machine.specs.Clerks.{OcrTerms, OcrView, of_terms}
use Rattle.ocr_worker_machine.specs.Ocr.{meaning}
use Rattle.ocr_worker_machine.proofs.Entered.{goes_on}
use Rattle.ocr_worker_machine.proofs.Owed.{mail_is}
use Rattle.ocr_worker_machine.proofs.Runs.{run_is}
use Rattle.ocr_worker_machine.proofs.Slots.{edt_slots, ended_is, payload_is, slots_are, slots_in, started_is}
use Rattle.ocr_worker_machine.proofs.Waits.{waits_is}
use Rattle.ocr_worker_machine.specs.Drained.{IsLone, OrderlyLaw, OwesNothing, PassLaw, RestLaw, StillLaw}
use Rattle.ocr_machine_laws.proofs.Plain.{some_mode}

-- MESSAGES
no_messages : (ms : List (ℕ × ℕ × What)) → tally (λ _. 1) ms ≡ 0 → ms ≡ []
no_messages [] none = refl
no_messages (x ∷ ms) none = absurd (omega (arith, none))

owed_is : (t : OcrTerms) (v : OcrView) (J : List Entry) → IsLone t v → Fits meaning t J v → tally (λ _. 1) v.owed ≡ tally (λ _. 1) (pending (of_terms t) (reverse J))
owed_is t v J lone fits = fits.alone lone.root lone.nobody_out (λ _. 1) ∙ ap (tally (λ _. 1)) (mail_is t J)

nothing_pending : (t : OcrTerms) (v : OcrView) (J : List Entry) → IsLone t v → Fits meaning t J v → v.owed ≡ [] → pending (of_terms t) (reverse J) ≡ []
nothing_pending t v J lone fits none = no_messages (pending (of_terms t) (reverse J)) (sym (owed_is t v J lone fits) ∙ ap (tally (λ _. 1)) none)

nothing_owed : (t : OcrTerms) (v : OcrView) (J : List Entry) → IsLone t v → Fits meaning t J v → pending (of_terms t) (reverse J) ≡ [] → v.owed ≡ []
nothing_owed t v J lone fits none = no_messages v.owed (owed_is t v J lone fits ∙ ap (tally (λ _. 1)) none)

-- SLOTS
some_is : (o : Option ℕ) → is_some o ≡ true → is_none o ≡ 0
some_is None is = cc is
some_is (Some x) is = refl

all_some : (d : ℕ) (payload : ℕ → Option ℕ) → ((k : ℕ) → k < d → is_some (payload k) ≡ true) → below (λ k. is_none (payload k)) d ≡ 0
all_some zero payload all = refl
all_some (suc d) payload all =
    let here = some_is (payload d) (all d (omega arith)) in
    let rest = all_some d payload (λ k lt. all k (omega (arith, lt))) in omega (arith, here, rest)

slot_count : (t : OcrTerms) (past : History) (n : ℕ) → IsRun (of_terms t) past → is_edt past n ≡ true → slots_of meaning t past n ≡ Some (depc_of (of_terms t) past n)
slot_count t past n run is = slots_are t past n run ∙ edt_slots (made (of_terms t) past n) (edts_law (of_terms t) past run n ∙ is)

none_unset : (t : OcrTerms) (past : History) (n : ℕ) → IsRun (of_terms t) past → is_edt past n ≡ true → open_slots (of_terms t) past n ≡ [] → unset_of (slots_of meaning t past n) (payload_of meaning t past n) ≡ 0
none_unset t past n run is none =
    ap (λ (o : Option ℕ). unset_of o (payload_of meaning t past n)) (slot_count t past n run is)
    ∙ all_some (depc_of (of_terms t) past n) (payload_of meaning t past n) (λ k lt. ap is_some (payload_is t past n k run) ∙ all_set (of_terms t) past n k none lt)

off_all : (p : ℕ → Bool) (a n : ℕ) → ((k : ℕ) → a ≤ k → k < a + n → p k ≡ false) → filter p (range_with_len a n) ≡ []
off_all p a zero off = refl
off_all p a (suc n) off = elim (p a) as (λ b. p a ≡ b → cond b (a ∷ filter p (range_with_len (a + 1) n)) (filter p (range_with_len (a + 1) n)) ≡ []) [
  | true ↦ λ on. let here = off a (omega arith) (omega arith) in absurd (cc (on, here))
  | false ↦ λ _. off_all p (a + 1) n (λ k low high. off k (omega (arith, low)) (omega (arith, high)))
] refl

same_some : (a b : ℕ) → Some a ≡ Some b → a ≡ b
same_some a b is = cc is

set_off : (o : Option ℕ) (x : ℕ) → o ≡ Some x → not (is_some o) ≡ false
set_off o x is = ap (λ (z : Option ℕ). not (is_some z)) is

none_open : (t : OcrTerms) (past : History) (n : ℕ) → IsRun (of_terms t) past → is_edt past n ≡ true → IsSet meaning t past n → open_slots (of_terms t) past n ≡ []
none_open t past n run is set =
    let count : depc_of (of_terms t) past n ≡ set.slots = same_some _ _ (sym (slot_count t past n run is) ∙ set.made) in
    off_all (λ k. not (slot.is_set (set_calls past n) k)) 0 (depc_of (of_terms t) past n) (λ k low high.
    let x = set.all_set k (omega (arith, high, count)) in
    set_off (slot.payload_of (set_calls past n) k) x.0 (sym (payload_is t past n k run) ∙ x.1))

-- WHO IS AN EDT
no_slots : (m : Option Made) → slots_in m ≡ None → is_edt_made m ≡ false
no_slots (Some (MadeEdt f ps n)) none = cc none
no_slots other none = refl

some_slots : (m : Option Made) (d : ℕ) → slots_in m ≡ Some d → is_edt_made m ≡ true
some_slots (Some (MadeEdt f ps n)) d is = refl
some_slots other d is = cc is

no_edt : (t : OcrTerms) (past : History) (n : ℕ) → IsRun (of_terms t) past → slots_of meaning t past n ≡ None → is_edt past n ≡ false
no_edt t past n run none = sym (edts_law (of_terms t) past run n) ∙ no_slots (made (of_terms t) past n) (sym (slots_are t past n run) ∙ none)

an_edt : (t : OcrTerms) (past : History) (n d : ℕ) → IsRun (of_terms t) past → slots_of meaning t past n ≡ Some d → is_edt past n ≡ true
an_edt t past n d run is = sym (edts_law (of_terms t) past run n) ∙ some_slots (made (of_terms t) past n) d (sym (slots_are t past n run) ∙ is)

past_limit : (t : OcrTerms) (past : History) (n : ℕ) → 2 ≤ t.limit → IsRun (of_terms t) past → is_within t.limit n ≡ false → is_edt past n ≡ false
past_limit t past n enough run off = sym (edts_law (of_terms t) past run n) ∙ ap is_edt_made (made_out (of_terms t) past n enough run off)

-- WHAT THE WORD TELLS, where nothing is owed to it and nobody has a claim
record IsBare (a : Account) : Type 0 where
  making : a.making ≡ 0
  owed : a.owed ≡ 0
  claims : a.claims ≡ 0
  resumes : a.resumes ≡ 0

bare : (t : OcrTerms) (past : History) (v : OcrView) (n word : ℕ) → IsLone t v → OwesNothing v → (found : Found meaning t past v n word) → IsBare found.account
bare t past v n word lone owes found =
    let alone = found.alone lone.root lone.nobody_out in
    let unput = ap (tally (of_edt n)) owes.put in
    let put = ap (tally (of_edt n)) owes.counted in record {
      making = alone.0 ∙ ap (making n) owes.made_counted;
      owed = (let owed = alone.1 in omega (arith, owed, unput, put));
      claims = alone.2 ∙ ap (times n) owes.unclaimed;
      resumes = alone.3 ∙ ap (times n) owes.resumed;
    }

true_if : (b : Bool) → 1 ≤ is_true b → b ≡ true
true_if true one = refl
true_if false one = absurd (omega (arith, one))

awaited_if : (o : Option ℕ) → 1 ≤ 1 - is_none o → (d : ℕ) × (o ≡ Some d)
awaited_if None one = absurd (omega (arith, one))
awaited_if (Some d) one = (d, refl)

waiting_idle : (t : OcrTerms) (past : History) (n d : ℕ) → 2 ≤ t.limit → IsRun (of_terms t) past → awaited meaning t past n ≡ Some d → IsIdleEdt (of_terms t) past n
waiting_idle t past n d enough run waits =
    let s = of_terms t in
    let m = some_mode (mode_in n (queue_on ((parts_of s past).face d))) ((waits_is t past n enough run).told d waits) in
    let queued : IsQueued s past n d m.0 = record { waits = (standing_law s past run).queued n d m.0 m.1; queued = m.1 } in
    inr (d, m.0, queued_idle s past n d m.0 run queued)

abbrev IsSettled : OcrTerms → History → ℕ → Type 0
IsSettled t past n = (is_edt past n ≡ false) ⊎ IsIdleEdt (of_terms t) past n

counting_settled : (t : OcrTerms) (past : History) (v : OcrView) (n d word : ℕ) → IsRun (of_terms t) past → slots_of meaning t past n ≡ Some d → (found : Found meaning t past v n word) → word ≢ READY → IsBare found.account → IsCounting found.account → IsSettled t past n
counting_settled t past v n d word run made_is found unready bare counting =
    inr (inl (inr (λ none.
    let unset = none_unset t past n run (an_edt t past n d run made_is) none in
    let is = counting.word in let word_is = found.word_is in let told = found.unset in let making = bare.making in let owed = bare.owed in
    unready (omega (arith, unset, is, word_is, told, making, owed)))))

busy_settled : (t : OcrTerms) (past : History) (v : OcrView) (n word : ℕ) → (found : Found meaning t past v n word) → IsBare found.account → IsBusy found.account → IsSettled t past n
busy_settled t past v n word found bare busy =
    let held = busy.held in let claims = bare.claims in let told = found.ended in
    inr (inl (inl (sym (ended_is t past n) ∙ true_if (is_ended meaning t past n) (omega (arith, held, claims, told)))))

parked_settled : (t : OcrTerms) (past : History) (v : OcrView) (n word : ℕ) → 2 ≤ t.limit → IsRun (of_terms t) past → (found : Found meaning t past v n word) → IsBare found.account → IsParked found.account → IsSettled t past n
parked_settled t past v n word enough run found bare parked =
    let waits = parked.waits in let resumes = bare.resumes in let told = found.waits in
    let block = awaited_if (awaited meaning t past n) (omega (arith, waits, resumes, told)) in
    inr (waiting_idle t past n block.0 enough run block.1)

ordered_settled : (t : OcrTerms) (past : History) (v : OcrView) (n word : ℕ) → 2 ≤ t.limit → IsRun (of_terms t) past → (found : Found meaning t past v n word) → word ≢ READY → IsBare found.account → (o : Option ℕ) → slots_of meaning t past n ≡ o → IsInOrder o found.account → IsSettled t past n
ordered_settled t past v n word enough run found unready bare None is order = inl (no_edt t past n run is)
ordered_settled t past v n word enough run found unready bare (Some d) is (inl counting) = counting_settled t past v n d word run is found unready bare counting
ordered_settled t past v n word enough run found unready bare (Some d) is (inr (inl busy)) = busy_settled t past v n word found bare busy
ordered_settled t past v n word enough run found unready bare (Some d) is (inr (inr parked)) = parked_settled t past v n word enough run found bare parked

pub orderly_law : OrderlyLaw
orderly_law t v J n lone owes fits unready =
    let seen = unready.2 t lone.terms in
    let knows : Knows meaning t seen.0 v = seen.1 in
    let same : seen.0 ≡ J = same_histories meaning t v v seen.0 J refl refl lone.root lone.nobody_out lone.root lone.nobody_out (knows.fits lone.unclosed) fits in
    let run = run_is t.setting.value t.limit J fits.run in
    let found : Found meaning t (reverse J) v n unready.0 = subst (λ (K : List Entry). Found meaning t (reverse K) v n unready.0) same seen.2 in
    ordered_settled t (reverse J) v n unready.0 fits.limits run found unready.1 (bare t (reverse J) v n unready.0 lone owes found) (slots_of meaning t (reverse J) n) refl found.order

-- A PASS
inside : (limit n : ℕ) → is_within limit n ≡ true → IsNumber limit n
inside limit n is = (low limit n is, high limit n is)
  where
    low : (limit n : ℕ) → (nat_le 1 n && nat_le n limit) ≡ true → 1 ≤ n
    low limit n is = grind (arith, common_steps)

    high : (limit n : ℕ) → (nat_le 1 n && nat_le n limit) ≡ true → n ≤ limit
    high limit n is = grind (arith, common_steps)

idle_from : (t : OcrTerms) (past : History) (n : ℕ) → is_edt past n ≡ true → IsSettled t past n → IsIdleEdt (of_terms t) past n
idle_from t past n is (inl off) = cc (is, off)
idle_from t past n is (inr idle) = idle

pub pass_law : PassLaw
pass_law t v J lone owes open_run fits all =
    let s = of_terms t in let past = reverse J in let run = run_is t.setting.value t.limit J fits.run in
    drain_law s past run (goes_on J open_run) (nothing_pending t v J lone fits owes.delivered) (λ n is.
    elim (is_within t.limit n) as (λ b. is_within t.limit n ≡ b → IsIdleEdt s past n) [
      | true ↦ λ on. idle_from t past n is (orderly_law t v J n lone owes fits (all n (inside t.limit n on)))
      | false ↦ λ off. let none = past_limit t past n fits.limits run off in cc (is, none)
    ] refl)

-- A QUIET RUN
started_first : (k : ℕ) → nat_lt 2 k ≡ true → nat_lt 1 k ≡ true
started_first k is = grind (arith, common_steps)

not_ready : (t : OcrTerms) (past : History) (n : ℕ) → IsRun (of_terms t) past → IsSet meaning t past n → is_started meaning t past n ≡ false → IsOver (of_terms t) past n → ⊥
not_ready t past n run set unstarted (inl ended) =
    let told = told_law (of_terms t) past run n in
    let on : edts.is_started past n ≡ true = told.has_started ∙ started_first _ (sym told.has_ended ∙ ended) in
    let off : edts.is_started past n ≡ false = sym (started_is t past n) ∙ unstarted in cc (on, off)
not_ready t past n run set unstarted (inr some) = some (none_open t past n run (an_edt t past n set.slots run set.made) set)

pub rest_law : RestLaw
rest_law t v J lone fits quiet =
    let s = of_terms t in let past = reverse J in let run = run_is t.setting.value t.limit J fits.run in
    let done = (done_law s past run).0 quiet in (
      nothing_owed t v J lone fits done.delivered,
      λ n ready.
          let seen = ready t lone.terms in
          let knows : Knows meaning t seen.0 (claiming v n) = seen.1 in
          let same : seen.0 ≡ J = same_histories meaning t (claiming v n) v seen.0 J refl refl lone.root lone.nobody_out lone.root lone.nobody_out (knows.fits lone.unclosed) fits in
          let set : IsSet meaning t past n = subst (λ (K : List Entry). IsSet meaning t (reverse K) n) same seen.2 in
          let unstarted : is_started meaning t past n ≡ false = subst (λ (K : List Entry). is_started meaning t (reverse K) n ≡ false) same seen.3 in
          not_ready t past n run set unstarted (done.over n (an_edt t past n set.slots run set.made)),
    )

-- THE END OF IT ALL
pub still_law : StillLaw
still_law t J enough ran still =
    let s = of_terms t in let past = reverse J in let run = run_is t.setting.value t.limit J ran in
    drain_law s past run (goes_on J still.unended) (sym (mail_is t J) ∙ still.delivered) (λ n is. by_slots n is (open_slots s past n) refl)
  where
    idle_set : (n : ℕ) → (is_ended meaning t (reverse J) n ≡ true) ⊎ ((d : ℕ) × (awaited meaning t (reverse J) n ≡ Some d)) → IsIdleEdt (of_terms t) (reverse J) n
    idle_set n (inl ended) = inl (inl (sym (ended_is t (reverse J) n) ∙ ended))
    idle_set n (inr waits) = waiting_idle t (reverse J) n waits.0 enough (run_is t.setting.value t.limit J ran) waits.1

    by_slots : (n : ℕ) → is_edt (reverse J) n ≡ true → (l : List ℕ) → open_slots (of_terms t) (reverse J) n ≡ l → IsIdleEdt (of_terms t) (reverse J) n
    by_slots n is [] none =
        let run = run_is t.setting.value t.limit J ran in
        idle_set n (still.each n (set_all meaning t (reverse J) n (depc_of (of_terms t) (reverse J) n) (slot_count t (reverse J) n run is) (none_unset t (reverse J) n run is none)))
    by_slots n is (x ∷ xs) some = inl (inr (λ none. cc (none, some)))
