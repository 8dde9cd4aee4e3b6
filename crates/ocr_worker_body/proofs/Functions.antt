-- The functions of EDTs are functions of the program.
use Rattle.std.proofs.Common.{◌≡◌, ℕ, ◌+◌, ◌<◌, ◌≤◌, ◌==◌, ◌&&◌, Bool, true, false, if◌then◌else◌, List, [], ◌∷◌, length, reverse, Option, Some, None, refl, subst}
use Rattle.std.specs.Prelude.{codes}
use Rattle.ocr_body_code.specs.Checked.{checked_tree}
use Rattle.ocr_body_code.specs.declared.checked.Checked.{Checked}
use Rattle.ocr_edt.specs.Edt as edt
use Rattle.ocr_edt.specs.declared.Identity.{Identity}
use Rattle.ocr_program_tree.specs.Functions.{number_of_main}
use Rattle.ocr_program_tree.specs.Runnable.{IsRunnable}
use Rattle.ocr_body_meaning.specs.Body.{Body}
use Rattle.ocr_body_meaning.specs.Holds.{is_done}
use Rattle.ocr_body_meaning.specs.Laws.{IsServed}
use Rattle.ocr_body_meaning.specs.declared.call.Answer.{Answer}
use Rattle.ocr_body_meaning.specs.declared.call.Call as body
use Rattle.ocr_body_meaning.specs.declared.call.Call.TheVariants as call
use Rattle.ocr_body_meaning.proofs.Makes.{served_law, number_positive}
use Rattle.ocr_machine_history.specs.declared.entry.Entry.TheVariants.{Call}
use Rattle.ocr_machine_history.specs.declared.objects.TheConstants.{OUTPUT_FLAGS, OUTPUT_KIND}
use Rattle.ocr_machine_history.specs.History.{History, Setting, own}
use Rattle.ocr_machine_history.specs.Made.{Made, MadeBlock, MadeTemplate, MadeEvent, MadeEdt, MadeScope, edt_from, made, made_beside, makes, names_new, opened}
use Rattle.ocr_machine_parts.specs.declared.loans.Kept.{Kept}
use Rattle.ocr_machine_parts.specs.declared.part.Core.{Core}
use Rattle.ocr_machine_parts.specs.declared.part.Part.{Part}
use Rattle.ocr_machine_parts.specs.declared.part.Part.TheVariants as part
use Rattle.ocr_machine_parts.specs.Bodies.{body_of}
use Rattle.ocr_machine_parts.specs.Calls.{edt_calls, loans_of}
use Rattle.ocr_machine_parts.specs.Effects.{settled_core}
use Rattle.ocr_machine_parts.specs.Legal.{IsLegal, IsRun}
use Rattle.ocr_machine_parts.specs.Parts.{core, identity_of}
use Rattle.ocr_worker_machine.specs.Clerks.{AreAtHand, of_terms}
use Rattle.ocr_worker_clerk.specs.Entry.{OcrKnown}
use Rattle.ocr_worker_clerk.specs.Work.{AtWork, OcrTable}
use Rattle.ocr_worker_access.specs.Access.{Runs}
use Rattle.ocr_worker_access.proofs.Asked.{once_in}
use Rattle.ocr_worker_access.proofs.Begun.{core_made}
use Rattle.ocr_worker_access.proofs.Called.{hand_is, runnable_in}
use Rattle.ocr_worker_access.proofs.Cores.{first_has, first_look}
use Rattle.ocr_worker_access.proofs.Parts.{core_of, is_run}
use Rattle.ocr_worker_machine.proofs.Lawful.{asked_call}

-- an EDT, or a template, of one of so many functions
abbrev IsThere : ℕ → ℕ → Type 0
IsThere functions f = (0 < f) × (f ≤ functions)

abbrev IsOfProgram : ℕ → Option Made → Type 0
IsOfProgram functions None = Unit {0}
IsOfProgram functions (Some (MadeBlock n c)) = Unit {0}
IsOfProgram functions (Some (MadeEvent k fl most)) = Unit {0}
IsOfProgram functions (Some (MadeScope outer event)) = Unit {0}
IsOfProgram functions (Some (MadeTemplate f pc dc)) = IsThere functions f
IsOfProgram functions (Some (MadeEdt f ps n)) = IsThere functions f

one_or : (functions : ℕ) (b : Bool) (x y : Option Made) → IsOfProgram functions x → IsOfProgram functions y → IsOfProgram functions (if b then x else y)
one_or functions true x y p q = p
one_or functions false x y p q = q

from_of : (functions : ℕ) (m : Option Made) (ps : List ℕ) (dc : ℕ) → IsOfProgram functions m → IsOfProgram functions (edt_from m ps dc)
from_of functions None ps dc is = tt
from_of functions (Some (MadeBlock n c)) ps dc is = tt
from_of functions (Some (MadeEvent k fl most)) ps dc is = tt
from_of functions (Some (MadeScope outer event)) ps dc is = tt
from_of functions (Some (MadeTemplate f pc own)) ps dc is = is
from_of functions (Some (MadeEdt f own n)) ps dc is = tt

beside_of : (functions : ℕ) (a : Answer) (home g : ℕ) (before : Option Made) → IsOfProgram functions before → IsOfProgram functions (made_beside a home g before)
beside_of functions a home g before is =
    one_or functions (is_done a.code && names_new a.scope g) (Some (MadeScope home a.output)) (if is_done a.code && names_new a.output g then Some (MadeEvent OUTPUT_KIND OUTPUT_FLAGS 0) else before) tt
    (one_or functions (is_done a.code && names_new a.output g) (Some (MadeEvent OUTPUT_KIND OUTPUT_FLAGS 0)) before tt is)

opened_of : (s : Setting) (functions : ℕ) → number_of_main s.program ≤ functions → (n : ℕ) → IsOfProgram functions (opened s n)
opened_of s functions main n = one_or functions (n == 1) (Some (MadeBlock (length s.args + 1) 0)) (if n == 2 then Some (MadeEdt (number_of_main s.program) [] 1) else None) tt
    (one_or functions (n == 2) (Some (MadeEdt (number_of_main s.program) [] 1)) None (number_positive (codes "mainEdt") s.program, main) tt)

-- WHAT IS MADE in a run
module _ (s : Setting) (past : History) (t home : ℕ) (a : Answer) (w : List (ℕ × ℕ)) (runnable : IsRunnable s.program) (before : (g : ℕ) → IsOfProgram (length s.program) (made s past g)) where
  made_more : (c : body.Call) (g : ℕ) → IsLegal s past (Call t home c a w) → IsOfProgram (length s.program) (made s (Call t home c a w ∷ past) g)
  made_more (call.DbCreate n fl) g legal = one_or (length s.program) (makes a g) _ (made s past g) tt (before g)
  made_more (call.TemplateCreate f pc dc) g legal =
      let said = legal.said in
      one_or (length s.program) (makes a g) (Some (MadeTemplate f pc dc)) (made s past g)
      (asked_call (IsServed (length s.program)) _ (call.TemplateCreate f pc dc) said.0 (served_law (body_of s past t) (own past t) runnable.named runnable.short) said.1)
      (before g)
  made_more (call.EdtCreate from pc ps dc ds fl o) g legal = one_or (length s.program) (makes a g) (edt_from (made s past from) ps dc) (made_beside a home g (made s past g)) (from_of (length s.program) (made s past from) ps dc (before from)) (beside_of (length s.program) a home g (made s past g) (before g))
  made_more (call.EventCreate k fl) g legal = one_or (length s.program) (makes a g) (Some (MadeEvent k fl 0)) (made s past g) tt (before g)
  made_more (call.EventCreateParams k fl most sats deps) g legal = one_or (length s.program) (makes a g) (Some (MadeEvent k fl most)) (made s past g) tt (before g)
  made_more other g legal = before g

made_of : (s : Setting) (past : History) → IsRunnable s.program → IsRun s past → (g : ℕ) → IsOfProgram (length s.program) (made s past g)
made_of s [] runnable run g = opened_of s (length s.program) runnable.has_main g
made_of s (Call t home c a w ∷ past) runnable run g = made_more s past t home a w runnable (λ n. made_of s past runnable run.0 n) c g run.1
made_of s (other ∷ past) runnable run g = made_of s past runnable run.0 g

-- THE FUNCTION of a core
core_function : (functions : ℕ) (m : Option Made) (i : Identity) (calls : List edt.EdtCall) (loans : List (ℕ × Kept)) (c : Core) → IsOfProgram functions m → core m i calls loans ≡ part.Core c → IsThere functions c.function
core_function functions (Some (MadeEdt f ps n)) i calls loans c of is = subst (IsThere functions) (core_made (Some (MadeEdt f ps n)) i calls loans c is).0 of
core_function functions None i calls loans c of is = cc is
core_function functions (Some (MadeBlock n k)) i calls loans c of is = cc is
core_function functions (Some (MadeTemplate f pc dc)) i calls loans c of is = cc is
core_function functions (Some (MadeEvent k fl most)) i calls loans c of is = cc is
core_function functions (Some (MadeScope outer event)) i calls loans c of is = cc is

pub runs_function : (table : OcrTable) (program : Checked) (edt : ℕ) (b : Body) (c : OcrKnown) → AtWork table program c → (runs : Runs table.1 edt b c) → (0 < runs.core.function) × (runs.core.function ≤ length (checked_tree program))
runs_function table program edt b c work runs =
    let t = table.1 in
    let fits = runs.sees t work.of_table.1 work.is_open in
    let J = fits.0 in
    let hand : List (ℕ × Part) = (t.limit + edt, part.Core runs.core) ∷ [] in
    let at_hand : AreAtHand t.limit hand c.view.parts = hand_is t.limit edt runs.core runs.kept [] hand c.view.parts runs.taken.number runs.is refl runs.keeps (once_in table program c work runs.sees) in
    let is_core = core_of t c.view J hand edt runs.core fits.1 at_hand runs.taken.number (first_has (t.limit + edt) (part.Core runs.core) []) (first_look (t.limit + edt) (part.Core runs.core) []) in
    let past = reverse J in
    let s = of_terms t in
    let there = core_function (length s.program) (made s past edt) (identity_of past edt) (edt_calls s past edt) (loans_of s past edt) (settled_core runs.core) (made_of s past (runnable_in table program c work) (is_run t c.view J fits.1) edt) is_core in
    subst (λ (p : Checked). IsThere (length (checked_tree p)) runs.core.function) work.program_is there
