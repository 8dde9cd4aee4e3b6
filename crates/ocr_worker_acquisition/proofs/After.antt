-- What a worker keeps once its EDT has acquired a block or passed it by.
use Rattle.std.proofs.Common.{◌≡◌, ◌≢◌, ℕ, ◌+◌, ◌≤◌, false, ◌||◌, List, [], ◌∷◌, ◌++◌, take, Option, Some, None, refl, ap, sym, ◌∙◌, subst}
use Rattle.std.specs.List.{All}
use Rattle.ocr_base.proofs.Booleans.{same as number_same}
use Rattle.ocr_edt.specs.declared.Edt.{Edt}
use Rattle.ocr_edt.specs.declared.Edt.TheVariants as phase
use Rattle.ocr_machine_history.specs.declared.entry.Entry.TheVariants.{Acquire, StaleAcquire, Wait}
use Rattle.ocr_machine_parts.specs.declared.part.Core.{Core}
use Rattle.ocr_machine_parts.specs.declared.part.Part.{Part}
use Rattle.ocr_machine_parts.specs.declared.part.Part.TheVariants as part
use Rattle.ocr_machine_parts.specs.Effects.{acquired_edt, acquiring_core, awoken, changed, stale_edt}
use Rattle.ocr_machine_parts.specs.Progress.{next_mode_on, ready_at, with_phase}
use Rattle.ocr_machine_parts.specs.Kinds.{size_on, words_on}
use Rattle.ocr_machine_parts.specs.Parts.{Parts}
use Rattle.ocr_machine_parts.specs.Taken.{as_core, parts_in}
use Rattle.ocr_machine_laws.specs.Waits.{awaits_in}
use Rattle.ocr_machine_laws.specs.Kept.{kept_ready}
use Rattle.ocr_machine_parts.specs.Readiness.{plan_from, ready_with}
use Rattle.ocr_worker_machine.specs.Clerks.{OcrTerms, OcrView}
use Rattle.ocr_worker_machine.specs.Ocr.{ends, starts}
use Rattle.ocr_machine_laws.specs.Permanence.{is_own}
use Rattle.ocr_turns_rule.specs.Debts.{without_all}
use Rattle.ocr_turns_rule.specs.Rule.{RunsIn}
use Rattle.ocr_turns_rule.proofs.Totals.{among_append, entries_append}
use Rattle.ocr_turns_rule.specs.Sums.{as_some, entries, is_among, keys}
use Rattle.ocr_turns_rule.proofs.Histories.{ran}
use Rattle.ocr_worker_clerk.specs.Entry.{PlannedParts, OcrKnown}
use Rattle.ocr_worker_clerk.specs.Work.{EntersKept, HasTakenOn, KeepsFaces}
use Rattle.ocr_worker_clerk.proofs.Entries.{turns_keys}
use Rattle.ocr_worker_acquisition.specs.Acquisition.{Meets, entry_by, two_faces}
use Rattle.ocr_worker_acquisition.specs.declared.act.Act.{Act}
use Rattle.ocr_worker_acquisition.specs.declared.act.Act.TheVariants as act

-- THE EDT is still taken on, and nothing is owed
pub still_taken : (t : OcrTerms) (edt d : ℕ) (a : Act) (h : PlannedParts) (old new : OcrKnown) → HasTakenOn t edt old → EntersKept t old new (entry_by a edt d) h → HasTakenOn t edt new
still_taken t edt d act.Acquire h old new has enters = record {
  number = has.number;
  claims = ap (λ (v : OcrView). v.claims) enters.view ∙ ap (λ (l : List ℕ). without_all (λ n. false) l) has.claims;
  drawn = ap (λ (v : OcrView). v.drawn) enters.view ∙ has.drawn;
  owes = record {
    unput = ap (λ (v : OcrView). v.debts.unput) enters.view ∙ ap (λ l. l ++ []) has.owes.unput;
    put = ap (λ (v : OcrView). v.debts.put) enters.view ∙ ap (λ l. l ++ []) has.owes.put;
    made = ap (λ (v : OcrView). v.debts.made) enters.view ∙ ap (λ l. l ++ []) has.owes.made;
    resumes = ap (λ (v : OcrView). v.debts.resumes) enters.view ∙ ap (λ l. l ++ []) has.owes.resumes;
  };
  only = λ u runs. has.only u (ran starts ends (Acquire edt d) enters.number old.view.log u refl (subst (λ (v : OcrView). RunsIn starts ends v.log u) enters.view runs));
}
still_taken t edt d act.Pass h old new has enters = record {
  number = has.number;
  claims = ap (λ (v : OcrView). v.claims) enters.view ∙ ap (λ (l : List ℕ). without_all (λ n. false) l) has.claims;
  drawn = ap (λ (v : OcrView). v.drawn) enters.view ∙ has.drawn;
  owes = record {
    unput = ap (λ (v : OcrView). v.debts.unput) enters.view ∙ ap (λ l. l ++ []) has.owes.unput;
    put = ap (λ (v : OcrView). v.debts.put) enters.view ∙ ap (λ l. l ++ []) has.owes.put;
    made = ap (λ (v : OcrView). v.debts.made) enters.view ∙ ap (λ l. l ++ []) has.owes.made;
    resumes = ap (λ (v : OcrView). v.debts.resumes) enters.view ∙ ap (λ l. l ++ []) has.owes.resumes;
  };
  only = λ u runs. has.only u (ran starts ends (StaleAcquire edt d) enters.number old.view.log u refl (subst (λ (v : OcrView). RunsIn starts ends v.log u) enters.view runs));
}
still_taken t edt d act.Wait h old new has enters = record {
  number = has.number;
  claims = ap (λ (v : OcrView). v.claims) enters.view ∙ ap (λ (l : List ℕ). without_all (λ n. false) l) has.claims;
  drawn = ap (λ (v : OcrView). v.drawn) enters.view ∙ has.drawn;
  owes = record {
    unput = ap (λ (v : OcrView). v.debts.unput) enters.view ∙ ap (λ l. l ++ []) has.owes.unput;
    put = ap (λ (v : OcrView). v.debts.put) enters.view ∙ ap (λ l. l ++ []) has.owes.put;
    made = ap (λ (v : OcrView). v.debts.made) enters.view ∙ ap (λ l. l ++ []) has.owes.made;
    resumes = ap (λ (v : OcrView). v.debts.resumes) enters.view ∙ ap (λ l. l ++ []) has.owes.resumes;
  };
  only = λ u runs. has.only u (ran starts ends (Wait edt d) enters.number old.view.log u refl (subst (λ (v : OcrView). RunsIn starts ends v.log u) enters.view runs));
}

-- none of its own entries came
pub still_unstarted : (t : OcrTerms) (edt d : ℕ) (a : Act) (h : PlannedParts) (old new : OcrKnown) → EntersKept t old new (entry_by a edt d) h → is_among (λ e. is_own e edt) (entries old.view.log) ≡ false → is_among (λ e. is_own e edt) (entries new.view.log) ≡ false
still_unstarted t edt d a h old new enters none =
    ap (λ (v : OcrView). is_among (λ e. is_own e edt) (entries v.log)) enters.view
    ∙ (ap (is_among (λ e. is_own e edt)) (entries_append old.view.log ((enters.number, entry_by a edt d) ∷ []))
    ∙ (among_append (λ e. is_own e edt) (entries old.view.log) (entry_by a edt d ∷ []) ∙ rw none (not_own a)))
  where
    not_own : (a : Act) → (is_own (entry_by a edt d) edt || false) ≡ false
    not_own act.Acquire = refl
    not_own act.Pass = refl
    not_own act.Wait = refl

-- THE CORE does not wait any more
acquired_awake : (e : Edt) → awaits_in (acquired_edt (awoken e)) ≡ None
acquired_awake (phase.Filling i) = refl
acquired_awake (phase.Acquiring s) = refl
acquired_awake (phase.Waiting s) = refl
acquired_awake (phase.Running s) = refl
acquired_awake (phase.Ended i) = refl

stale_awake : (e : Edt) → awaits_in (stale_edt (awoken e)) ≡ None
stale_awake (phase.Filling i) = refl
stale_awake (phase.Acquiring s) = refl
stale_awake (phase.Waiting s) = refl
stale_awake (phase.Running s) = refl
stale_awake (phase.Ended i) = refl

pub core_back : (x : Part) (c : Core) → as_core x ≡ part.Core c → x ≡ part.Core c
core_back (part.Core d) c is = is
core_back other c is = cc is

-- a list whose first number is this
first_of_list : (n : ℕ) (ns : List ℕ) (ps : List (ℕ × Part)) → keys ps ≡ n ∷ ns → (x : Part) × (rest : List (ℕ × Part)) × (ps ≡ (n, x) ∷ rest) × (keys rest ≡ ns)
first_of_list n ns [] is = cc is
first_of_list n ns (p ∷ rest) is =
    let h : p.0 ≡ n = cc is in let r : keys rest ≡ ns = cc is in
    (p.1, rest, ap (λ (k : ℕ). (k, p.1) ∷ rest) h, r)

-- the EDT goes on, and does not wait
abbrev pub IsGoing : Act → Type 0
IsGoing act.Wait = ⊥
IsGoing other = Unit {0}

module _ (t : OcrTerms) (edt d : ℕ) (a : Act) (payloads places : List ℕ) (h : PlannedParts) (old new : OcrKnown) (has : HasTakenOn t edt old) (m : Meets t edt d a payloads ((t.limit + edt) ∷ places) h old) (enters : EntersKept t old new (entry_by a edt d) h)
    (others : All (λ p. (p ≢ t.limit + edt) × (p ≤ t.limit + t.limit)) places) where
  abbrev before : List (ℕ × Part)
  before = (t.limit + edt, part.Core m.core) ∷ two_faces m.first edt d m.slots m.state

  h_parts : h.parts ≡ before
  h_parts = ap (λ (x : PlannedParts). x.parts) m.before ∙ m.kept

  pub later_keys : keys enters.later ≡ (t.limit + edt) ∷ places
  later_keys = turns_keys enters.later h.parts enters.step.same_keys ∙ (ap (λ (x : PlannedParts). keys x.parts) m.before ∙ m.places_are)

  split : (x : Part) × (rest : List (ℕ × Part)) × (enters.later ≡ (t.limit + edt, x) ∷ rest) × (keys rest ≡ places)
  split = first_of_list (t.limit + edt) places enters.later later_keys

  abbrev f : Parts
  f = ready_at edt (plan_from m.slots payloads) (parts_in t.limit before)

  ready_by : (x : Act) → kept_ready t.limit (plan_from m.slots payloads) (entry_by x edt d) before ≡ f
  ready_by act.Acquire = refl
  ready_by act.Pass = refl
  ready_by act.Wait = refl

  pub state_is : parts_in t.limit enters.later ≡ changed (entry_by a edt d) f
  state_is = enters.step.parts
      ∙ (ap (λ (x : PlannedParts). changed (entry_by a edt d) (kept_ready t.limit x.members (entry_by a edt d) x.parts)) (m.before ∙ ap (λ (l : List (ℕ × Part)). record { members = plan_from m.slots payloads; parts = l }) m.kept)
      ∙ ap (changed (entry_by a edt d)) (ready_by a))

  pub core_now : f.core edt ≡ part.Core (ready_with m.slots payloads m.core)
  core_now = rw (number_same edt, has.number, number_same (t.limit + edt)) refl

  pub record AwakeCore (x : Act) : Type 0 where
    pub core : Core
    pub is : (changed (entry_by x edt d) f).core edt ≡ part.Core core
    pub awake : awaits_in core.edt ≡ None

  core_by : (x : Act) → IsGoing x → AwakeCore x
  core_by act.Acquire going = record {
    core = acquiring_core d (next_mode_on f edt) (size_on (f.face d)) (words_on (f.face d)) (ready_with m.slots payloads m.core);
    is = rw (number_same edt, has.number, number_same (t.limit + edt)) refl;
    awake = acquired_awake (ready_with m.slots payloads m.core).edt;
  }
  core_by act.Pass going = record {
    core = with_phase (λ e. stale_edt (awoken e)) (ready_with m.slots payloads m.core);
    is = rw (number_same edt, has.number, number_same (t.limit + edt)) refl;
    awake = stale_awake (ready_with m.slots payloads m.core).edt;
  }
  core_by act.Wait going = absurd going

  first_core : as_core split.0 ≡ (changed (entry_by a edt d) f).core edt
  first_core =
      let here : (parts_in t.limit ((t.limit + edt, split.0) ∷ split.1)).core edt ≡ as_core split.0 = rw (has.number, number_same (t.limit + edt)) refl in
      sym here ∙ (ap (λ (l : List (ℕ × Part)). (parts_in t.limit l).core edt) (sym split.2) ∙ ap (λ (g : Parts). g.core edt) state_is)

  pub keeps_after : IsGoing a → KeepsFaces t edt places new
  keeps_after going =
      let c = core_by a going in
      let is : split.0 ≡ part.Core c.core = core_back split.0 c.core (first_core ∙ c.is) in
      record {
        core = c.core;
        item = Some split.0;
        faces = split.1;
        kept = enters.kept ∙ (split.2 ∙ ap (λ (x : Part). (t.limit + edt, x) ∷ split.1) is);
        hand = enters.hand ∙ ap (λ (l : List (ℕ × Part)). as_some l) split.2;
        awake = c.awake;
        places_are = split.3;
        others = others;
      }

  -- and once the faces are given back, the core stands at hand as it is kept
  pub alone_after : IsGoing a → (c : Core) × (take 1 new.view.parts ≡ (t.limit + edt, part.Core c) ∷ []) × (take 1 new.parts ≡ (t.limit + edt, Some (part.Core c)) ∷ [])
  alone_after going =
      let c = core_by a going in
      let is : split.0 ≡ part.Core c.core = core_back split.0 c.core (first_core ∙ c.is) in (
        c.core,
        ap (λ (l : List (ℕ × Part)). take 1 l) (enters.kept ∙ (split.2 ∙ ap (λ (x : Part). (t.limit + edt, x) ∷ split.1) is)),
        ap (λ (l : List (ℕ × Option Part)). take 1 l) (enters.hand ∙ ap (λ (l : List (ℕ × Part)). as_some l) (split.2 ∙ ap (λ (x : Part). (t.limit + edt, x) ∷ split.1) is)),
      )
