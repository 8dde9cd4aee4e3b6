-- What was stored in loans is no matter to what an entry does.
use Rattle.std.proofs.Common.{◌≡◌, ℕ, ◌+◌, ◌/◌, not, List, [], ◌∷◌, Bool, true, false, Option, Some, None, ◌==◌, if◌then◌else◌, refl, sym, ◌∙◌, ap}
use Rattle.ocr_guid.specs.declared.target.Target.{Target as Reached}
use Rattle.ocr_machine_history.specs.declared.entry.What.{What}
use Rattle.ocr_machine_history.specs.declared.entry.What.TheVariants as what
use Rattle.ocr_slots.specs.Steps.{after_link}
use Rattle.ocr_acquire.specs.declared.Mode.{Mode}
use Rattle.ocr_datablock.specs.Block as block
use Rattle.ocr_datablock.specs.Lent.{Loan, loan_of}
use Rattle.ocr_edt.specs.declared.Edt.{Edt}
use Rattle.ocr_edt.specs.Phases.{Progress}
use Rattle.ocr_body_meaning.specs.Holds.{is_done}
use Rattle.ocr_acquire.specs.Mode.{is_isolated}
use Rattle.ocr_body_meaning.specs.declared.call.Call as body
use Rattle.ocr_body_meaning.specs.declared.call.Call.TheVariants as call
use Rattle.ocr_body_meaning.specs.declared.call.Answer.{Answer}
use Rattle.ocr_machine_history.specs.declared.entry.Entry.TheVariants.{Call, Deliver, Acquire, Wait, StaleAcquire, Start, Free, End}
use Rattle.ocr_machine_parts.specs.declared.part.Core.{Core}
use Rattle.ocr_machine_parts.specs.declared.part.Part.{Part}
use Rattle.ocr_machine_parts.specs.declared.part.Part.TheVariants as part
use Rattle.ocr_machine_parts.specs.Calls.{is_object, slot_target, target_of, mode_named, mode_next}
use Rattle.ocr_edt.specs.declared.Identity.{Identity}
use Rattle.ocr_machine_parts.specs.Parts.{Parts, new_identity}
use Rattle.ocr_machine_parts.specs.Effects.{new_face, with_beside, deps_linked, brought, joined, granted, returned, hold_ended, new_core, dropping_core, acquiring_core, waiting_edt, started_edt, ended_edt, ended, called, settled_core, settled, settled_parts, acquired_edt, awoken, creating_core, holding_core, stale_edt}
use Rattle.ocr_machine_parts.specs.Progress.{linked_if, with_face, with_core, with_phase, next_on, core_with}
use Rattle.ocr_machine_parts.specs.Laws.{SettledLaw}
use Rattle.ocr_datablock.specs.Steps.{after_ask, after_release, after_doom}
use Rattle.ocr_machine_parts.specs.Kinds.{home_on, is_edt_face, with_links, core_progress, loan_on, next_in, on_core, size_on, with_block, words_on}
use Rattle.ocr_machine_parts.specs.Loans.{given_loan, kept_created, kept_in, loan_in, settled_loan, settled_loans, without_kept}
use Rattle.ocr_machine_parts.specs.declared.loans.Kept.{Kept}

pub settled_if : (b : Bool) (x y : Part) → settled (if b then x else y) ≡ (if b then settled x else settled y)
settled_if true x y = refl
settled_if false x y = refl

abbrev settled_kept : Kept → Kept
settled_kept k = record { size = k.size; loan = settled_loan k.loan }

settled_without : (d : ℕ) (loans : List (ℕ × Kept)) → settled_loans (without_kept d loans) ≡ without_kept d (settled_loans loans)
settled_without d [] = refl
settled_without d (one ∷ rest) = elim (one.0 == d) as (λ b. settled_loans (if b then rest else one ∷ without_kept d rest) ≡ (if b then settled_loans rest else (one.0, settled_kept one.1) ∷ without_kept d (settled_loans rest))) [
  | true ↦ refl
  | false ↦ ap (λ (l : List (ℕ × Kept)). (one.0, settled_kept one.1) ∷ l) (settled_without d rest)
]

settled_given : (m : Mode) (words : List ℕ) → settled_loan (given_loan m words) ≡ given_loan m words
settled_given m words = elim (is_isolated m) as (λ b. settled_loan (if b then Some (loan_of m words []) else None) ≡ (if b then Some (loan_of m words []) else None)) [ true ↦ refl | false ↦ refl ]

-- a step that commutes
abbrev Commutes : (Core → Core) → Type 0
Commutes step = (x : Part) → settled (on_core x step) ≡ on_core (settled x) step

phase_commutes : (step : Edt → Edt) → Commutes (with_phase step)
phase_commutes step (part.Core c) = refl
phase_commutes step other = refl

dropping_commutes : (d : ℕ) → Commutes (dropping_core d)
dropping_commutes d (part.Core c) = ap (λ (l : List (ℕ × Kept)). part.Core (record { function = c.function; params = c.params; edt = (dropping_core d c).edt; loans = l })) (settled_without d c.loans)
dropping_commutes d other = refl

acquiring_commutes : (d : ℕ) (m : Mode) (size : ℕ) (words : List ℕ) → Commutes (acquiring_core d m size words)
acquiring_commutes d m size words (part.Core c) = (λ i. part.Core (core_with c (acquired_edt (awoken c.edt)) ((d, record { size = size; loan = settled_given m words i }) ∷ settled_without d c.loans i)))
acquiring_commutes d m size words other = refl

creating_commutes : (fl d z : ℕ) → Commutes (creating_core fl d z)
creating_commutes fl d z (part.Core c) = elim (fl == 0) as (λ b. settled (part.Core (if b then holding_core d z c else c)) ≡ part.Core (if b then holding_core d z (settled_core c) else settled_core c)) [
  | true ↦ ap (λ (l : List (ℕ × Kept)). part.Core (core_with c (holding_core d z c).edt ((d, kept_created z) ∷ l))) (settled_without d c.loans)
  | false ↦ refl
]
creating_commutes fl d z other = refl

core_settled : (f : Parts) (t : ℕ) (step : Core → Core) → Commutes step → settled_parts (with_core f t (on_core (f.core t) step)) ≡ with_core (settled_parts f) t (on_core (settled (f.core t)) step)
core_settled f t step commutes = λ i. record {
  face = f.face;
  core = λ u. (settled_if (t == u) (on_core (f.core t) step) (f.core u) ∙ ap (λ (x : Part). if t == u then x else settled (f.core u)) (commutes (f.core t))) i;
}

-- what the settled core tells
pub progress_settled : (x : Part) → core_progress (settled x) ≡ core_progress x
progress_settled (part.Core c) = refl
progress_settled other = refl

returned_settled : (l : Option Loan) (w : List (ℕ × ℕ)) (st : block.State) → returned w l st ≡ returned w (settled_loan l) st
returned_settled None w st = refl
returned_settled (Some l) w st = refl

settled_in : (d : ℕ) (loans : List (ℕ × Kept)) (w : List (ℕ × ℕ)) (st : block.State) → returned w (loan_in (kept_in d loans)) st ≡ returned w (loan_in (kept_in d (settled_loans loans))) st
settled_in d [] w st = refl
settled_in d (one ∷ rest) w st = elim (one.0 == d) as (λ b. returned w (loan_in (if b then Some one.1 else kept_in d rest)) st ≡ returned w (loan_in (if b then Some (settled_kept one.1) else kept_in d (settled_loans rest))) st) [
  | true ↦ returned_settled one.1.loan w st
  | false ↦ settled_in d rest w st
]

loan_settled : (x : Part) (d : ℕ) (w : List (ℕ × ℕ)) (st : block.State) → returned w (loan_on x d) st ≡ returned w (loan_on (settled x) d) st
loan_settled (part.Core c) d w st = settled_in d c.loans w st
loan_settled other d w st = refl

settled_ended : (step : block.State → ℕ → block.State) (f : Parts) (t d : ℕ) (w : List (ℕ × ℕ)) → settled_parts (ended step f t d w) ≡ ended step (settled_parts f) t d w
settled_ended step f t d w =
    core_settled (with_face f d (with_block (f.face d) (hold_ended step t w (loan_on (f.core t) d)))) t (dropping_core d) (dropping_commutes d)
    ∙ (λ i. with_core (with_face (settled_parts f) d (with_block (f.face d) (λ st. step (loan_settled (f.core t) d w st i) t))) t (on_core (settled (f.core t)) (dropping_core d)))

new_settled : (x : Part) (i : Identity) (params : List ℕ) → settled (new_core x i params) ≡ new_core x i params
new_settled (part.Template t) i params = refl
new_settled other i params = refl

home_settled : (x : Part) → home_on x ≡ home_on (settled x)
home_settled (part.Core c) = refl
home_settled other = refl

settled_linked : (b : Bool) (d : ℕ) (to : Reached) (f : Parts) → settled_parts (linked_if b d to f) ≡ linked_if b d to (settled_parts f)
settled_linked true d to f = refl
settled_linked false d to f = refl

settled_deps : (t k : ℕ) (ds : List ℕ) (f : Parts) → settled_parts (deps_linked t k ds f) ≡ deps_linked t k ds (settled_parts f)
settled_deps t k [] f = refl
settled_deps t k (d ∷ rest) f = settled_deps t (k + 1) rest (linked_if (is_object d) d (slot_target t k) f) ∙ ap (deps_linked t (k + 1) rest) (settled_linked (is_object d) d (slot_target t k) f)

settled_brought : (w : What) (b : Bool) (f : Parts) → settled_parts (if b then brought w f else f) ≡ (if b then brought w (settled_parts f) else settled_parts f)
settled_brought w false f = refl
settled_brought (what.Satisfy e i p) true f = refl
settled_brought (what.Leave x) true f = refl
settled_brought other true f = refl

settled_called : (t : ℕ) (c : body.Call) (a : Answer) (w : List (ℕ × ℕ)) (f : Parts) → settled_parts (called t c a w f) ≡ called t c a w (settled_parts f)
settled_called t (call.DbCreate n fl) a w f = core_settled (with_face f a.value (part.Block _)) t (creating_core fl a.value (n / 8)) (creating_commutes fl a.value (n / 8))
settled_called t (call.DbRelease d) a w f = settled_ended after_release f t d w
settled_called t (call.DbDestroy d) a w f = settled_ended after_doom f t d w
settled_called t (call.AddDependence from x i m) a w f = settled_linked (not (from == 0)) from (target_of (is_edt_face (f.face x)) x i) (with_face f x (with_links (f.face x) (λ slots. after_link slots i (mode_named m))))
settled_called t (call.EdtCreate from pc params dc deps flags output) a w f =
    let made : Parts → ℕ → Parts = λ g home. with_core (with_face (with_beside g home a) a.value (new_face (g.face from) dc deps)) a.value (new_core (g.face from) (new_identity a.value flags a home) params) in
    let home : ℕ = home_on (f.core t) in
    settled_deps a.value 0 deps (made f home)
    ∙ ap (deps_linked a.value 0 deps) (λ i. record {
      face = (made f home).face;
      core = λ u. (settled_if (a.value == u) (new_core (f.face from) (new_identity a.value flags a home) params) (f.core u)
          ∙ ap (λ (x : Part). if a.value == u then x else settled (f.core u)) (new_settled (f.face from) (new_identity a.value flags a home) params)) i;
    })
    ∙ ap (λ (k : ℕ). deps_linked a.value 0 deps (made (settled_parts f) k)) (home_settled (f.core t))
settled_called t other a w f = refl

pub settled_law : SettledLaw
settled_law (Call t home c a w) f = elim (is_done a.code) as (λ b. settled_parts (if b then joined c home (called t c a w f) else f) ≡ (if b then joined c home (called t c a w (settled_parts f)) else settled_parts f)) [
  | true ↦ ap (joined c home) (settled_called t c a w f)
  | false ↦ refl
]
settled_law (Deliver m c) f = settled_brought m.what (is_done c) f
settled_law (Acquire t d) f =
    core_settled (with_face f d (with_block (f.face d) (granted t (mode_next (next_on f t))))) t (acquiring_core d (mode_next (next_on f t)) (size_on (f.face d)) (words_on (f.face d))) (acquiring_commutes d (mode_next (next_on f t)) (size_on (f.face d)) (words_on (f.face d)))
    ∙ ap (λ (o : Option Progress). with_core (with_face (settled_parts f) d (with_block (f.face d) (granted t (mode_next (next_in o))))) t (on_core (settled (f.core t)) (acquiring_core d (mode_next (next_in o)) (size_on (f.face d)) (words_on (f.face d))))) (sym (progress_settled (f.core t)))
settled_law (Wait t d) f =
    core_settled (with_face f d (with_block (f.face d) (λ st. after_ask st t (mode_next (next_on f t))))) t (with_phase waiting_edt) (phase_commutes waiting_edt)
    ∙ ap (λ (o : Option Progress). with_core (with_face (settled_parts f) d (with_block (f.face d) (λ st. after_ask st t (mode_next (next_in o))))) t (on_core (settled (f.core t)) (with_phase waiting_edt))) (sym (progress_settled (f.core t)))
settled_law (StaleAcquire t d) f = core_settled f t (with_phase (λ e. stale_edt (awoken e))) (phase_commutes (λ e. stale_edt (awoken e)))
settled_law (Start t) f = core_settled f t (with_phase started_edt) (phase_commutes started_edt)
settled_law (Free t d w) f = settled_ended after_release f t d w
settled_law (End t g) f = core_settled f t (with_phase ended_edt) (phase_commutes ended_edt)
settled_law other f = refl
