-- What kept parts tell of each history that fits.
use Rattle.std.proofs.Common.{◌≡◌, ◌≢◌, ℕ, ◌+◌, ◌-◌, Bool, true, false, if◌then◌else◌, List, reverse, Option, Some, None, refl, ap, sym, ◌∙◌, arith}
use Rattle.std.proofs.lemmas.Grind.{common_steps}
use mathlib.Core.Option.{some}
use lib.ListN.{get_elem?}
use Rattle.ocr_machine_history.specs.declared.entry.Entry.{Entry}
use Rattle.ocr_machine_parts.specs.declared.part.Core.{Core}
use Rattle.ocr_machine_parts.specs.declared.part.Part.{Part}
use Rattle.ocr_machine_parts.specs.declared.part.Part.TheVariants as part
use Rattle.ocr_machine_parts.specs.Effects.{settled}
use Rattle.ocr_machine_parts.specs.Parts.{parts_of}
use Rattle.ocr_machine_parts.specs.Taken.{as_face, is_within, place_of, seen}
use Rattle.ocr_worker_machine.specs.Holds.{awaits, awaits_in}
use Rattle.ocr_worker_machine.proofs.Holds.{standing_law}
use Rattle.ocr_worker_machine.specs.Clerks.{OcrTerms, OcrView, of_terms}
use Rattle.ocr_worker_machine.specs.Ocr.{meaning, part_of}
use Rattle.ocr_worker_machine.proofs.Awaits.{unqueued}
use Rattle.ocr_worker_machine.proofs.Runs.{run_is}
use Rattle.ocr_worker_machine.proofs.Waits.{waits_is}
use Rattle.ocr_turns_rule.specs.Counts.{awaited, is_ended, is_started, tied_to}
use Rattle.ocr_turns_rule.specs.Rule.{Fits}
use Rattle.ocr_worker_machine.proofs.Places.{within_is}

-- THE PLACES of cores lie behind those of faces
pub core_place : (limit t : ℕ) → is_within limit t ≡ true → (is_within limit (limit + t) ≡ false) × ((limit + t) - limit ≡ t)
core_place limit t is = (grind (arith, common_steps), omega arith)

pub core_apart : (limit t g : ℕ) → is_within limit t ≡ true → is_within limit g ≡ true → limit + t ≢ g
core_apart limit t g wt wg same = let a = within_is limit t wt in let b = within_is limit g wg in let c = a.0 in let d = b.1 in absurd (omega (arith, same, c, d))

-- WHAT IS KEPT is so after the history, but for what was stored in loans
pub core_is : (t : OcrTerms) (J : List Entry) (v : OcrView) (k edt : ℕ) (c : Core) → Fits meaning t J v → is_within t.limit edt ≡ true → get_elem? v.parts k ≡ some (t.limit + edt, part.Core c)
    → (parts_of (of_terms t) (reverse J)).core edt ≡ settled (part.Core c)
unfolding part_of
core_is t J v k edt c fits within at =
    let w = core_place t.limit edt within in
    let told : place_of t.limit (parts_of (of_terms t) (reverse J)) (t.limit + edt) ≡ seen t.limit (t.limit + edt) (part.Core c) = fits.parts k (t.limit + edt) (part.Core c) at in
    rw (w.0, w.1, within) at told

pub face_is : (t : OcrTerms) (J : List Entry) (v : OcrView) (k g : ℕ) (x : Part) → Fits meaning t J v → is_within t.limit g ≡ true → get_elem? v.parts k ≡ some (g, x)
    → (parts_of (of_terms t) (reverse J)).face g ≡ as_face x
unfolding part_of
face_is t J v k g x fits within at =
    let told : place_of t.limit (parts_of (of_terms t) (reverse J)) g ≡ seen t.limit g x = fits.parts k g x at in
    rw within at told

-- WHO DOES NOT WAIT is tied to no face
pub awake_is : (t : OcrTerms) (J : List Entry) (v : OcrView) (k edt : ℕ) (c : Core) → Fits meaning t J v → is_within t.limit edt ≡ true → get_elem? v.parts k ≡ some (t.limit + edt, part.Core c) → awaits_in c.edt ≡ None
    → awaited meaning t (reverse J) edt ≡ None
awake_is t J v k edt c fits within at awake =
    let s = of_terms t in let past = reverse J in
    let run = run_is t.setting.value t.limit J fits.run in
    let here : awaits ((parts_of s past).core edt) ≡ None = ap (λ (x : Part). awaits x) (core_is t J v k edt c fits within at) ∙ awake in
    none_of (awaited meaning t past edt) (λ d is. unqueued (parts_of s past) edt d (standing_law s past run) here ((waits_is t past edt fits.limits run).told d is))
  where
    none_of : (o : Option ℕ) → ((d : ℕ) → o ≡ Some d → ⊥) → o ≡ None
    none_of None never = refl
    none_of (Some d) never = absurd (never d refl)

abbrev tie : Bool → Bool → ℕ → Option ℕ → Option ℕ
tie started ended core waits = if started then (if ended then None else Some core) else waits

untied : (started ended : Bool) (core p : ℕ) (waits : Option ℕ) → waits ≡ None → core ≢ p → tie started ended core waits ≢ Some p
untied true true core p waits none apart is = cc is
untied true false core p waits none apart is = apart (same core p is)
  where
    same : (a b : ℕ) → Some a ≡ Some b → a ≡ b
    same a b is = cc is
untied false ended core p waits none apart is = cc (none, is)

pub face_loose : (t : OcrTerms) (J : List Entry) (v : OcrView) (k edt p : ℕ) (c : Core) → Fits meaning t J v → is_within t.limit edt ≡ true → p ≢ t.limit + edt → get_elem? v.parts k ≡ some (t.limit + edt, part.Core c) → awaits_in c.edt ≡ None
    → tied_to meaning t (reverse J) edt ≢ Some p
face_loose t J v k edt p c fits within other at awake =
    untied (is_started meaning t (reverse J) edt) (is_ended meaning t (reverse J) edt) (t.limit + edt) p (awaited meaning t (reverse J) edt) (awake_is t J v k edt c fits within at awake) (λ is. other (sym is))
