-- What a clerk knows of an entry of the EDT that it runs.
use Rattle.std.proofs.Common.{◌≡◌, ℕ, ◌+◌, true, false, List, [], ◌∷◌, reverse, Some, None, is_some, if◌then◌else◌, refl, ap, sym, ◌∙◌, subst}
use Rattle.ocr_acquire.specs.Mode.{mode_in}
use Rattle.ocr_body_code.specs.Checked.{checked_tree}
use Rattle.ocr_guid.specs.declared.Code.TheVariants as code
use Rattle.ocr_program_tree.specs.Runnable.{IsRunnable}
use Rattle.ocr_datablock.specs.Steps as block_steps
use Rattle.ocr_edt.specs.Phases.{least_of}
use Rattle.ocr_body_meaning.specs.Behaviour.{Ends, IsNextWith}
use Rattle.ocr_body_meaning.specs.Body.{Body, says}
use Rattle.ocr_body_meaning.specs.Holds.{Holds, is_done, private_in}
use Rattle.ocr_body_meaning.specs.declared.call.Answer.{Answer}
use Rattle.ocr_body_meaning.specs.declared.call.Call as body
use Rattle.ocr_body_meaning.specs.declared.call.Call.TheVariants as call
use Rattle.ocr_machine_history.specs.declared.entry.Entry.{Entry}
use Rattle.ocr_machine_history.specs.declared.entry.Entry.TheVariants.{Call, Free, End}
use Rattle.ocr_machine_history.specs.History.{History, Setting}
use Rattle.ocr_machine_parts.specs.declared.part.Core.{Core}
use Rattle.ocr_machine_parts.specs.declared.part.Part.{Part}
use Rattle.ocr_machine_parts.specs.declared.part.Part.TheVariants as part
use Rattle.ocr_machine_parts.specs.Effects.{settled, settled_parts}
use Rattle.ocr_machine_parts.specs.Footprint.{Covers}
use Rattle.ocr_machine_parts.specs.Kinds.{holds_of, is_running, work_of}
use Rattle.ocr_machine_parts.specs.Legal.{IsRun, carried}
use Rattle.ocr_machine_parts.specs.LegalOn.{IsLegalOn}
use Rattle.ocr_machine_parts.specs.Messages.{resumed_by, resumed_by_doom, resumes}
use Rattle.ocr_machine_parts.specs.Parts.{Parts, parts_of}
use Rattle.ocr_machine_parts.specs.Taken.{is_within, parts_in}
use Rattle.ocr_machine_parts.proofs.Local.{effect_law}
use Rattle.ocr_machine_laws.specs.Waits.{queue_on, standing}
use Rattle.ocr_machine_laws.proofs.Stages.{once}
use Rattle.ocr_machine_laws.specs.Kept.{kept_ready}
use Rattle.ocr_machine_laws.proofs.Works.{freeing_law}
use Rattle.ocr_turns_rule.specs.Counts.{is_in}
use Rattle.ocr_turns_rule.specs.Debts.{times}
use Rattle.ocr_turns_rule.specs.Rule.{Fits}
use Rattle.ocr_worker_machine.specs.Clerks.{AreAtHand, MayEnter, OcrTerms, OcrView, of_terms}
use Rattle.ocr_worker_machine.specs.Ocr.{meaning, wakes}
use Rattle.ocr_worker_machine.proofs.Entered.{settled_resumes}
use Rattle.ocr_worker_machine.proofs.Queues.{doomed, released}
use Rattle.ocr_worker_machine.proofs.Waits.{end_idle}
use Rattle.ocr_worker_access.specs.Served.{Serves, own_log}
use Rattle.ocr_worker_access.proofs.Cores.{first_core, first_has, first_look}
use Rattle.ocr_worker_access.proofs.Parts.{core_of, hand_alike, is_run, legal_on_hand, runs_in}
use Rattle.ocr_worker_access.proofs.Served.{says_known}
use Rattle.ocr_worker_machine.proofs.Owed.{no_facts}

module _ (t : OcrTerms) (v : OcrView) (edt : ℕ) (b : Body) (hand : List (ℕ × Part)) (runnable : IsRunnable (checked_tree t.setting.value.program)) (serves : Serves t v edt b) (at_hand : AreAtHand t.limit hand v.parts) where
  -- A CALL that is legal on the parts at hand and comes next
  pub call_may : (home : ℕ) (c : body.Call) (a : Answer) (private w : List (ℕ × ℕ)) → Covers t.limit (Call edt home c a w) hand → IsLegalOn t.limit (kept_ready t.limit [] (Call edt home c a w) hand) (Call edt home c a w) → IsNextWith c private (says b (own_log v.log edt)) → w ≡ carried (is_done a.code) private
      → MayEnter t v (Call edt home c a w) [] hand
  call_may home c a private w covers legal next is = record {
    runnable = runnable;
    at_hand = at_hand;
    covers = covers;
    on_hand = legal;
    plans = λ J op fits waking. absurd waking;
    set = λ J op fits. tt;
    says = λ J op fits. (private, subst (IsNextWith c private) (sym (says_known t v edt b J serves fits)) next, is);
    told = λ J op fits follows. no_facts _;
  }

  -- A HOLD is given back, where the body has come to its end
  pub free_may : (d g : ℕ) (w : List (ℕ × ℕ)) (holds : Holds) → Covers t.limit (Free edt d w) hand → IsLegalOn t.limit (kept_ready t.limit [] (Free edt d w) hand) (Free edt d w) → says b (own_log v.log edt) ≡ Ends g holds → w ≡ private_in (holds d)
      → MayEnter t v (Free edt d w) [] hand
  free_may d g w holds covers legal ends is = record {
    runnable = runnable;
    at_hand = at_hand;
    covers = covers;
    on_hand = legal;
    plans = λ J op fits waking. absurd waking;
    set = λ J op fits. tt;
    says = λ J op fits. (g, holds, says_known t v edt b J serves fits ∙ ends, is);
    told = λ J op fits follows. no_facts _;
  }

  -- THE END, where nothing is held
  pub end_may : (g : ℕ) (holds : Holds) → Covers t.limit (End edt g) hand → IsLegalOn t.limit (kept_ready t.limit [] (End edt g) hand) (End edt g) → says b (own_log v.log edt) ≡ Ends g holds → MayEnter t v (End edt g) [] hand
  end_may g holds covers legal ends = record {
    runnable = runnable;
    at_hand = at_hand;
    covers = covers;
    on_hand = legal;
    plans = λ J op fits waking. absurd waking;
    set = λ J op fits. tt;
    says = λ J op fits. (holds, says_known t v edt b J serves fits ∙ ends);
    told = λ J op fits follows. no_facts _;
  }

-- LEGAL ON HAND
module _ (t : OcrTerms) (v : OcrView) (J : List Entry) (fits : Fits meaning t J v) (edt : ℕ) (core : Core) (rest : List (ℕ × Part)) (within : is_within t.limit edt ≡ true) (running : is_running (part.Core core) ≡ true) where
  abbrev hand : List (ℕ × Part)
  hand = (t.limit + edt, part.Core core) ∷ rest

  pub runs_here : AreAtHand t.limit hand v.parts → is_running ((parts_of (of_terms t) (reverse J)).core edt) ≡ true
  runs_here at_hand = runs_in t v J hand edt core fits at_hand within (first_has (t.limit + edt) (part.Core core) rest) (first_look (t.limit + edt) (part.Core core) rest) running

  settled_holds : (x : Part) → holds_of (work_of (settled x)) ≡ holds_of (work_of x)
  settled_holds (part.Core c) = refl
  settled_holds other = refl

  pub free_legal : (d : ℕ) (w : List (ℕ × ℕ)) → AreAtHand t.limit hand v.parts → Covers t.limit (Free edt d w) hand → least_of (holds_of (work_of (part.Core core))) ≡ Some d → IsLegalOn t.limit (kept_ready t.limit [] (Free edt d w) hand) (Free edt d w)
  free_legal d w at_hand covers least =
      let is_core = core_of t v J hand edt core fits at_hand within (first_has (t.limit + edt) (part.Core core) rest) (first_look (t.limit + edt) (part.Core core) rest) in
      let there : least_of (holds_of (work_of ((parts_of (of_terms t) (reverse J)).core edt))) ≡ Some d = ap (λ (x : Part). least_of (holds_of (work_of x))) is_core ∙ (ap least_of (settled_holds (part.Core core)) ∙ least) in
      legal_on_hand t v J fits hand (Free edt d w) [] at_hand covers (λ never. absurd never) (freeing_law (of_terms t) (reverse J) edt d (is_run t v J fits) (runs_here at_hand) there)

  pub end_legal : (g : ℕ) → holds_of (work_of (part.Core core)) ≡ [] → IsLegalOn t.limit (kept_ready t.limit [] (End edt g) hand) (End edt g)
  end_legal g none =
      let is : (parts_in t.limit hand).core edt ≡ part.Core core = first_core t.limit edt core rest within in
      record { running = rw is running; nothing_held = rw is none }

-- WHO IS RESUMED by an entry is not its EDT, which runs
pub wakes_are : (t : OcrTerms) (v : OcrView) (J : List Entry) (e : Entry) (hand : List (ℕ × Part)) → Fits meaning t J v → AreAtHand t.limit hand v.parts → Covers t.limit e hand → resumes e (parts_of (of_terms t) (reverse J)) ≡ wakes t.limit e hand
wakes_are t v J e hand fits at_hand covers =
    (effect_law e (parts_of (of_terms t) (reverse J)) (settled_parts (parts_in t.limit hand)) (hand_alike t v J fits hand e at_hand covers)).2 ∙ settled_resumes e (parts_in t.limit hand)

abbrev OnceAt : Part → Type 0
OnceAt x = block_steps.StandOnce (standing x)

freed_by : (x : Part) (edt : ℕ) → OnceAt x → (is_some (mode_in edt (queue_on x)) ≡ true → ⊥) → times edt (resumed_by x edt) ≡ 0
freed_by (part.Block st) edt one free = elim (is_in edt (block_steps.on_release st edt)) as (λ b. is_in edt (block_steps.on_release st edt) ≡ b → times edt (block_steps.on_release st edt) ≡ 0) [
  | true ↦ λ is. absurd (free ((released edt [] None st one).gone edt is).1)
  | false ↦ λ off. ((released edt [] None st one).stays edt off).0
] refl
freed_by other edt one free = refl

doomed_by : (x : Part) (edt : ℕ) → OnceAt x → (is_some (mode_in edt (queue_on x)) ≡ true → ⊥) → times edt (resumed_by_doom x edt) ≡ 0
doomed_by (part.Block st) edt one free = elim (is_in edt (block_steps.on_doom st edt)) as (λ b. is_in edt (block_steps.on_doom st edt) ≡ b → times edt (block_steps.on_doom st edt) ≡ 0) [
  | true ↦ λ is. absurd (free ((doomed edt [] None st one).gone edt is).1)
  | false ↦ λ off. ((doomed edt [] None st one).stays edt off).0
] refl
doomed_by other edt one free = refl

by_call : (f : Parts) (t : ℕ) (c : body.Call) → ((d : ℕ) → OnceAt (f.face d)) → ((d : ℕ) → is_some (mode_in t (queue_on (f.face d))) ≡ true → ⊥) → times t (resumes (Call t 0 c (record { code = code.Done; value = 0; scope = 0; output = 0 }) []) f) ≡ 0
by_call f t (call.DbRelease d) one free = freed_by (f.face d) t (one d) (free d)
by_call f t (call.DbDestroy d) one free = doomed_by (f.face d) t (one d) (free d)
by_call f t other one free = refl

-- by a call, or where it gives a block back
pub call_wakes : (s : Setting) (past : History) (t : ℕ) (c : body.Call) (a : Answer) (w : List (ℕ × ℕ)) → IsRun s past → is_running ((parts_of s past).core t) ≡ true → times t (resumes (Call t 0 c a w) (parts_of s past)) ≡ 0
call_wakes s past t c a w run running = elim (is_done a.code) as (λ b. times t (if b then resumes (Call t 0 c (record { code = code.Done; value = 0; scope = 0; output = 0 }) []) (parts_of s past) else []) ≡ 0) [
  | true ↦ by_call (parts_of s past) t c (once s past run) (λ d. end_idle s past t d run running)
  | false ↦ refl
]

pub free_wakes : (s : Setting) (past : History) (t d : ℕ) (w : List (ℕ × ℕ)) → IsRun s past → is_running ((parts_of s past).core t) ≡ true → times t (resumes (Free t d w) (parts_of s past)) ≡ 0
free_wakes s past t d w run running = freed_by ((parts_of s past).face d) t (once s past run d) (end_idle s past t d run running)
