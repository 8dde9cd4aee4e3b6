-- A clerk that gives the faces back after an entry, and goes on with the core alone.
use Rattle.std.proofs.Common.{◌≡◌, ◌≢◌, ℕ, zero, suc, ◌+◌, ◌≤◌, true, List, [], ◌∷◌, reverse, take, Option, Some, None, refl, ap, sym, ◌∙◌, subst, arith}
use Rattle.std.specs.List.{All}
use Rattle.std.proofs.lemmas.Option.{same_Some}
use mathlib.Core.Logic.{dite}
use mathlib.Core.Option.{some-ne-none}
use native.Mathlib.Decide.{ℕ_discrete}
use lib.ListN.{get_elem?}
use Rattle.ocr_edt.specs.declared.Edt.{Edt}
use Rattle.ocr_edt.specs.declared.Edt.TheVariants as phase
use Rattle.ocr_body_meaning.specs.Body.{Body}
use Rattle.ocr_machine_history.specs.declared.entry.Entry.{Entry}
use Rattle.ocr_machine_parts.specs.declared.part.Core.{Core}
use Rattle.ocr_machine_parts.specs.declared.part.Part.{Part}
use Rattle.ocr_machine_parts.specs.declared.part.Part.TheVariants as part
use Rattle.ocr_machine_parts.specs.Kinds.{is_running}
use Rattle.ocr_machine_laws.specs.Waits.{awaits_in}
use Rattle.ocr_machine_parts.specs.Taken.{is_within}
use Rattle.ocr_machine_parts.specs.Bodies.{holds_in}
use Rattle.ocr_turns_rule.specs.Counts.{tied_to}
use Rattle.ocr_turns_rule.specs.Debts.{times}
use Rattle.ocr_turns_rule.specs.Rule.{Fits, PartsOf}
use Rattle.ocr_turns_rule.specs.Steps.{Sees}
use Rattle.ocr_turns_rule.specs.Sums.{one_at, weigh}
use Rattle.ocr_turns_rule.proofs.Totals.{one_here, one_same}
use Rattle.ocr_worker_machine.specs.Clerks.{OcrTerms, OcrView}
use Rattle.ocr_worker_machine.specs.Ocr.{meaning}
use Rattle.ocr_worker_clerk.specs.Entry.{OcrKnown}
use Rattle.ocr_worker_clerk.specs.Work.{HasTakenOn, KeepsFaces, RunsOnly}
use Rattle.ocr_worker_clerk.proofs.Seen.{face_loose}
use Rattle.ocr_worker_access.specs.Access.{HasEntered, Runs, first_in, holds_at}
use Rattle.ocr_worker_access.proofs.Logs.{serves_same}

-- THE FIRST PART alone
first_of : (f : ℕ → Part → Part) (p : ℕ → Part) (x : ℕ × Part) (rest : List (ℕ × Part)) → PartsOf f p (x ∷ rest) → PartsOf f p (x ∷ [])
first_of f p x rest all zero n y at = all zero n y at
first_of f p x rest all (suc k) n y at = absurd (some-ne-none (n, y) (sym at))

fits_first : (t : OcrTerms) (J : List Entry) (v : OcrView) (edt : ℕ) (core : Core) (rest : List (ℕ × Part)) → v.claims ≡ edt ∷ [] → is_within t.limit edt ≡ true → awaits_in core.edt ≡ None → v.parts ≡ (t.limit + edt, part.Core core) ∷ rest
    → Fits meaning t J v → Fits meaning t J (record v { parts = (t.limit + edt, part.Core core) ∷ [] })
fits_first t J v edt core rest claims within awake is f = record {
  limits = f.limits;
  run = f.run;
  few = f.few;
  log = f.log;
  joined = f.joined;
  distinct = λ p. (let d = f.distinct p in let e = ap (λ (ps : List (ℕ × Part)). weigh (one_at p) ps) is in omega (arith, d, e));
  unmade = f.unmade;
  own = f.own;
  owed = f.owed;
  sent = f.sent;
  parts = first_of _ _ (t.limit + edt, part.Core core) rest (subst (λ (ps : List (ℕ × Part)). PartsOf (meaning.seen t.limit) (meaning.part t.setting.value t.limit J) ps) is f.parts);
  facts = f.facts;
  claims = λ n has. let c = f.claims n has in record { set = c.set; unended = c.unended; begun = c.begun; tied = λ p tied. core_kept n p has tied };
  sole = f.sole;
  alone = f.alone;
}
  where
    -- the one EDT that it has claimed does not wait, so it is tied to its core or to nothing
    core_kept : (n p : ℕ) → 1 ≤ times n v.claims → tied_to meaning t (reverse J) n ≡ Some p → 1 ≤ weigh (one_at p) ((t.limit + edt, part.Core core) ∷ [])
    core_kept n p has tied =
        let one : n ≡ edt = one_same n edt (let h : 1 ≤ times n (edt ∷ []) = subst (λ (l : List ℕ). 1 ≤ times n l) claims has in omega (arith, h)) in
        dite (ℕ_discrete p (t.limit + edt))
        (λ same. let here = one_here (t.limit + edt) in let at = ap (λ (k : ℕ). one_at k (t.limit + edt)) same in omega (arith, here, at))
        (λ other. absurd (face_loose t J v 0 edt p core f within other (ap (λ (ps : List (ℕ × Part)). get_elem? ps 0) is) awake (subst (λ (k : ℕ). tied_to meaning t (reverse J) k ≡ Some p) one tied)))

sees_first : (t : OcrTerms) (v : OcrView) (edt : ℕ) (core : Core) (rest : List (ℕ × Part)) → v.terms ≡ Some t → v.claims ≡ edt ∷ [] → is_within t.limit edt ≡ true → awaits_in core.edt ≡ None → v.parts ≡ (t.limit + edt, part.Core core) ∷ rest
    → Sees meaning v → Sees meaning (record v { parts = (t.limit + edt, part.Core core) ∷ [] })
sees_first t v edt core rest of_table claims within awake is sees = λ t2 terms op.
    let s = sees t2 terms op in let same : t ≡ t2 = same_Some t t2 (sym of_table ∙ terms) in
    let here : Fits meaning t s.0 v = subst (λ (u : OcrTerms). Fits meaning u s.0 v) (sym same) s.1 in
    (s.0, subst (λ (u : OcrTerms). Fits meaning u s.0 (record v { parts = (t.limit + edt, part.Core core) ∷ [] })) same (fits_first t s.0 v edt core rest claims within awake is here))

-- A RUNNING EDT does not wait
awake : (e : Edt) (c : Core) → c.edt ≡ e → is_running (part.Core c) ≡ true → awaits_in c.edt ≡ None
awake (phase.Running s) c same runs = ap (λ (x : Edt). awaits_in x) same
awake (phase.Acquiring s) c same runs = cc (ap (λ (x : Edt). is_running (part.Core (record c { edt = x }))) (sym same) ∙ runs)
awake (phase.Waiting s) c same runs = cc (ap (λ (x : Edt). is_running (part.Core (record c { edt = x }))) (sym same) ∙ runs)
awake (phase.Ended i) c same runs = cc (ap (λ (x : Edt). is_running (part.Core (record c { edt = x }))) (sym same) ∙ runs)
awake (phase.Filling i) c same runs = cc (ap (λ (x : Edt). is_running (part.Core (record c { edt = x }))) (sym same) ∙ runs)

-- WHAT IT ASKS, where nothing is owed
pub has_taken : (t : OcrTerms) (edt : ℕ) (b : Body) (c : OcrKnown) (places : List ℕ) → HasEntered t edt b c places [] [] → HasTakenOn t edt c
has_taken t edt b c places h = record {
  number = h.serves.within;
  claims = h.claims;
  drawn = h.drawn;
  owes = record { unput = h.unput; put = h.put; made = h.made_is; resumes = h.resumes };
  only = h.only;
}

pub keeps_faces : (t : OcrTerms) (edt : ℕ) (b : Body) (c : OcrKnown) (places : List ℕ) → HasEntered t edt b c places [] [] → All (λ p. (p ≢ t.limit + edt) × (p ≤ t.limit + t.limit)) places → KeepsFaces t edt places c
keeps_faces t edt b c places h others = record {
  core = h.core;
  item = Some (part.Core h.core);
  faces = h.rest;
  kept = h.keeps;
  hand = h.hand;
  awake = awake h.core.edt h.core refl h.running;
  places_are = h.places_are;
  others = others;
}

-- AND WHAT IT HAS then
pub runs_again : (t : OcrTerms) (edt : ℕ) (b : Body) (old new : OcrKnown) (places : List ℕ) → HasEntered t edt b old places [] [] → old.view.terms ≡ Some t → new.view ≡ record old.view { parts = take 1 old.view.parts } → new.parts ≡ take 1 old.parts → Runs t edt b new
runs_again t edt b old new places h of_table view hand =
    let whole : new.view ≡ record old.view { parts = (t.limit + edt, part.Core h.core) ∷ [] } = view ∙ ap (λ (ps : List (ℕ × Part)). record old.view { parts = take 1 ps }) h.keeps in
    let log = ap (λ (v : OcrView). v.log) whole in
    let facts = ap (λ (v : OcrView). v.facts) whole in
    let was = has_taken t edt b old places h in
    record {
      taken = record {
        number = h.serves.within;
        claims = ap (λ (v : OcrView). v.claims) whole ∙ h.claims;
        drawn = ap (λ (v : OcrView). v.drawn) whole ∙ h.drawn;
        owes = record {
          unput = ap (λ (v : OcrView). v.debts.unput) whole ∙ h.unput;
          put = ap (λ (v : OcrView). v.debts.put) whole ∙ h.put;
          made = ap (λ (v : OcrView). v.debts.made) whole ∙ h.made_is;
          resumes = ap (λ (v : OcrView). v.debts.resumes) whole ∙ h.resumes;
        };
        only = subst (λ (v : OcrView). RunsOnly v edt) (sym whole) h.only;
      };
      serves = serves_same t old.view new.view edt b h.serves log facts;
      core = h.core;
      kept = h.core;
      keeps = ap (λ (v : OcrView). v.parts) whole;
      hand = hand ∙ ap (λ (ps : List (ℕ × Option Part)). take 1 ps) h.hand;
      is = record { alike = refl; running = h.running };
      sees = subst (Sees meaning) (sym whole) (sees_first t old.view edt h.core h.rest of_table h.claims h.serves.within (awake h.core.edt h.core refl h.running) h.keeps h.sees);
    }

-- and what it holds is the same
pub holds_again : (t : OcrTerms) (edt : ℕ) (b : Body) (old new : OcrKnown) (places : List ℕ) → HasEntered t edt b old places [] [] → new.parts ≡ take 1 old.parts → holds_at new ≡ holds_at old
holds_again t edt b old new places h hand =
    ap (λ (ps : List (ℕ × Option Part)). holds_in (first_in ps)) (hand ∙ ap (λ (ps : List (ℕ × Option Part)). take 1 ps) h.hand)
    ∙ sym (ap (λ (ps : List (ℕ × Option Part)). holds_in (first_in ps)) h.hand)
