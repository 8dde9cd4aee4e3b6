-- An entry of a worker.
use Rattle.std.proofs.Common.{◌≡◌, ℕ, ◌+◌, ◌-◌, ◌≤◌, true, false, if◌then◌else◌, List, [], ◌∷◌, Option, refl, ap, sym, ◌∙◌, subst, arith}
use Rattle.std.proofs.lemmas.Grind.{common_steps}
use Rattle.ocr_machine_history.specs.declared.entry.Entry.{Entry}
use Rattle.ocr_machine_history.specs.declared.entry.Entry.TheVariants.{Acquire, Wait, StaleAcquire, Start}
use Rattle.ocr_machine_history.specs.declared.entry.What.{What}
use Rattle.ocr_machine_history.specs.Weight.{weight_of}
use Rattle.ocr_machine_parts.specs.declared.part.Part.{Part}
use Rattle.ocr_machine_parts.specs.declared.part.Part.TheVariants as part
use Rattle.ocr_machine_parts.specs.Effects.{changed, settled, settled_parts}
use Rattle.ocr_machine_parts.specs.Progress.{readied}
use Rattle.ocr_machine_parts.specs.Footprint.{Covers}
use Rattle.ocr_machine_parts.specs.LegalOn.{IsLegalOn}
use Rattle.ocr_machine_parts.specs.Messages.{resumes, sends}
use Rattle.ocr_machine_parts.specs.Parts.{Parts}
use Rattle.ocr_machine_parts.specs.Taken.{ArePartsOf, IsWithin, as_core, as_face, core_in, face_in, has, is_within, keys, look, parts_in, place_of, seen}
use Rattle.ocr_worker_machine.specs.Clerks.{IsStep, OcrTerms, OcrView}
use Rattle.ocr_worker_machine.specs.Ocr.{meaning}
use Rattle.ocr_worker_machine.proofs.Entered.{entry_law, settled_resumes}
use Rattle.ocr_worker_machine.specs.Ocr.{wakes}
use Rattle.ocr_worker_machine.proofs.Holds.{alike_kept}
use Rattle.ocr_machine_parts.proofs.Local.{effect_law}
use Rattle.ocr_acquire.specs.declared.Mode.{Mode}
use Rattle.ocr_turns_rule.proofs.Numbered.{weigh_keys}
use Rattle.ocr_turns_rule.specs.Contract.{CommitTells, MayCommit}
use Rattle.ocr_turns_rule.specs.Live.{raising}
use Rattle.ocr_turns_rule.specs.Rule.{Fits}
use Rattle.ocr_turns_rule.specs.Steps.{deed, freed, logged, needed}
use Rattle.ocr_turns_rule.specs.Units.{units}
use Rattle.ocr_turns_rule.specs.Sums.{as_some, one_at, replace_all, sum_of, weigh}
use Rattle.ocr_turns_rule.specs.Sums as sums
use Rattle.ocr_turns_rule.specs.declared.answers.Committed.TheVariants as committed
use Rattle.ocr_worker_clerk.proofs.Affords.{Affords, enough_units, some_unit}
use Rattle.ocr_worker_clerk.specs.Entry.{CanMake, PlannedParts, OcrKnown}
use Rattle.ocr_worker_clerk.specs.Work.{EntersAs}

-- both ways to list the numbers
pub keys_are : (ps : List (ℕ × Part)) → keys ps ≡ sums.keys ps
keys_are [] = refl
keys_are (p ∷ rest) = ap (λ (ns : List ℕ). p.0 ∷ ns) (keys_are rest)

pub turns_keys : (ps qs : List (ℕ × Part)) → keys ps ≡ keys qs → sums.keys ps ≡ sums.keys qs
turns_keys ps qs same = sym (keys_are ps) ∙ (same ∙ keys_are qs)

has_same : (ps qs : List (ℕ × Part)) (n : ℕ) → keys ps ≡ keys qs → has ps n ≡ has qs n
has_same [] [] n is = refl
has_same [] (q ∷ qs) n is = cc is
has_same (p ∷ ps) [] n is = cc is
has_same (p ∷ ps) (q ∷ qs) n is = let h : p.0 ≡ q.0 = cc is in let t : keys ps ≡ keys qs = cc is in rw (h, has_same ps qs n t) refl

pub covers_same : (limit : ℕ) (e : Entry) (ps qs : List (ℕ × Part)) → keys ps ≡ keys qs → Covers limit e qs → Covers limit e ps
covers_same limit e ps qs same covers = λ n on. has_same ps qs n same ∙ covers n on

-- THE STEP was made on the parts that the caller lifted
pub step_is : (t : OcrTerms) (limit : ℕ) (v : OcrView) (e : Entry) (h : PlannedParts) (ps later : List (ℕ × Part)) (sent : List What) → limit ≡ t.limit → CanMake t v e h ps
    → parts_in limit later ≡ changed e (parts_in limit ps) → keys later ≡ keys ps → sent ≡ sends e (parts_in limit ps) → IsStep t.limit e h.members h.parts later sent
step_is t limit v e h ps later sent lim can is keyed sends_are = record {
  parts = subst (λ (n : ℕ). parts_in n later ≡ changed e (parts_in n ps)) lim is ∙ ap (changed e) can.ready;
  same_keys = keyed ∙ can.same_keys;
  sends_are = subst (λ (n : ℕ). sent ≡ sends e (parts_in n ps)) lim sends_are ∙ ap (sends e) can.ready;
}

-- the same histories fit, whatever was raised
unraised : (t : OcrTerms) (J : List Entry) (v : OcrView) (k : ℕ) → Fits meaning t J (raising v k) → Fits meaning t J v
unraised t J v k fits = record {
  limits = fits.limits;
  run = fits.run;
  few = fits.few;
  log = fits.log;
  joined = fits.joined;
  distinct = fits.distinct;
  unmade = fits.unmade;
  own = fits.own;
  owed = fits.owed;
  sent = fits.sent;
  parts = fits.parts;
  facts = fits.facts;
  claims = λ n has. let c = fits.claims n has in record { set = c.set; unended = c.unended; begun = c.begun; tied = c.tied };
  sole = fits.sole;
  alone = fits.alone;
}

pub may_commit : (t : OcrTerms) (v w : OcrView) (e : Entry) (h : PlannedParts) (ps later : List (ℕ × Part)) (sent : List What) (k : ℕ) → Affords w (deed meaning t.limit w e later sent) → w ≡ raising v k → CanMake t v e h ps → v.weight + weight_of e ≤ t.share → IsStep t.limit e h.members h.parts later sent
    → MayCommit meaning t w e later sent
may_commit t v w e h ps later sent k affords same can light step =
    subst (λ (x : OcrView). MayCommit meaning t x e later sent) (sym same) (record {
      goes = can.goes;
      share = light;
      owes = can.owes;
      drawn = can.drawn;
      keeps = λ p. let w = weigh_keys (one_at p) later h.parts (turns_keys later h.parts step.same_keys) in let r = can.places p in let a = r.0 in let b = r.1 in (w ∙ a, omega (arith, w, b));
      claims = record { starts = can.claims.starts; waits = can.claims.waits; resumes = can.claims.resumes };
      unit = subst (λ (x : OcrView). 1 ≤ units x) same (some_unit w (deed meaning t.limit w e later sent) affords);
      spares = subst (λ (x : OcrView). needed (deed meaning t.limit x e later sent) ≤ x.spares + freed x (deed meaning t.limit x e later sent)) same (enough_units w (deed meaning t.limit w e later sent) affords);
      legal = λ J open_run fits. let next = entry_law t v e h.members h.parts later sent can.goes can.may step J open_run (unraised t J v k fits) in
          record { legal = next.legal; parts = next.parts; sends = next.sends; facts = next.facts; wakes = next.wakes; counts = next.counts };
    })

pub enters_as : (t : OcrTerms) (n : ℕ) (old old1 new : OcrKnown) (e : Entry) (h : PlannedParts) (later : List (ℕ × Part)) (sent : List What) (k : ℕ) → old1.view ≡ raising old.view k → old1.parts ≡ old.parts
    → IsStep t.limit e h.members h.parts later sent → CommitTells meaning (committed.At n) old1 new (deed meaning t.limit old1.view e later sent) → EntersAs t old new e h
enters_as t n old old1 new e h later sent k view parts step tells = record {
  paid = k;
  number = n;
  later = later;
  sent = sent;
  step = step;
  view = tells.3 ∙ ap (λ (x : OcrView). logged x n (deed meaning t.limit x e later sent)) view;
  hand = tells.4 ∙ ap (λ (ps : List (ℕ × Option Part)). replace_all (as_some later) ps) parts;
  sees = tells.7;
}

-- what the step asks of the parts
pub other_covers : (t : OcrTerms) (limit : ℕ) (v : OcrView) (e : Entry) (h : PlannedParts) (ps : List (ℕ × Part)) → limit ≡ t.limit → CanMake t v e h ps → Covers limit e ps
other_covers t limit v e h ps lim can = subst (λ (n : ℕ). Covers n e ps) (sym lim) (covers_same t.limit e ps h.parts can.same_keys can.may.covers)

pub hand_legal : (t : OcrTerms) (limit : ℕ) (v : OcrView) (e : Entry) (h : PlannedParts) (ps : List (ℕ × Part)) → limit ≡ t.limit → CanMake t v e h ps → IsLegalOn limit (parts_in limit ps) e
hand_legal t limit v e h ps lim can = subst (λ (n : ℕ). IsLegalOn n (parts_in n ps) e) (sym lim) (subst (λ (f : Parts). IsLegalOn t.limit f e) (sym can.ready) can.may.on_hand)

-- WHO GOES ON by the entry is told by what the clerk keeps
readied_resumes : (ms : List (ℕ × Mode)) (e : Entry) (f : Parts) → resumes e (readied ms e f) ≡ resumes e f
readied_resumes ms (Acquire t d) f = refl
readied_resumes ms (Wait t d) f = refl
readied_resumes ms (StaleAcquire t d) f = refl
readied_resumes ms (Start t) f = refl
readied_resumes ms other f = refl

look_place : (limit : ℕ) (ps : List (ℕ × Part)) (n : ℕ) → place_of limit (settled_parts (parts_in limit ps)) n ≡ seen limit n (look ps n)
look_place limit ps n = elim (is_within limit n) as (λ b. is_within limit n ≡ b
    → (if b then face_in limit ps n else if is_within limit (n - limit) then settled (core_in limit ps (n - limit)) else part.Vacant) ≡ (if b then as_face (look ps n) else if is_within limit (n - limit) then settled (as_core (look ps n)) else part.Vacant)) [
      | true ↦ λ on. rw on refl
      | false ↦ λ off. elim (is_within limit (n - limit)) as (λ b. is_within limit (n - limit) ≡ b → (if b then settled (core_in limit ps (n - limit)) else part.Vacant) ≡ (if b then settled (as_core (look ps n)) else part.Vacant)) [
        | true ↦ λ on. let same : limit + (n - limit) ≡ n = back limit n on in rw on (ap (λ (k : ℕ). settled (as_core (look ps k))) same)
        | false ↦ λ _. refl
      ] refl
    ] refl
  where
    back : (limit n : ℕ) → is_within limit (n - limit) ≡ true → limit + (n - limit) ≡ n
    back limit n on = let some : 1 ≤ n - limit = grind (arith, on, common_steps) in omega (arith, some)

in_within : (limit : ℕ) (ps : List (ℕ × Part)) → IsWithin limit (settled_parts (parts_in limit ps))
in_within limit ps = record { faces = λ g off. rw off refl; cores = λ u off. rw off refl }

pub resumed_is : (t : OcrTerms) (limit : ℕ) (v : OcrView) (e : Entry) (h : PlannedParts) (ps : List (ℕ × Part)) (rs : List ℕ) → limit ≡ t.limit → CanMake t v e h ps → rs ≡ resumes e (parts_in limit ps) → rs ≡ wakes t.limit e v.parts
resumed_is t limit v e h ps rs lim can is =
    let may = can.may in
    let f = settled_parts (parts_in t.limit v.parts) in
    let are : ArePartsOf t.limit f h.parts = λ n here. look_place t.limit v.parts n ∙ sym (may.at_hand.alike n here) in
    let alike = alike_kept t.limit e f h.parts (in_within t.limit v.parts) may.covers are in
    subst (λ (n : ℕ). rs ≡ resumes e (parts_in n ps)) lim is
    ∙ (ap (resumes e) can.ready
    ∙ (readied_resumes h.members e (parts_in t.limit h.parts)
    ∙ (sym (settled_resumes e (parts_in t.limit h.parts))
    ∙ (sym (effect_law e f (settled_parts (parts_in t.limit h.parts)) alike).2
    ∙ settled_resumes e (parts_in t.limit v.parts)))))
