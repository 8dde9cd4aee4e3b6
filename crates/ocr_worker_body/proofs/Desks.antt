-- The desk, while the run goes on and once it was found ended.
use Rattle.std.specs.Prelude.{OnOk, IfErr}
use Rattle.std.proofs.Common.{Result, Ok, Err, ◌≡◌, ◌⊎◌, inl, inr, ℕ, ◌+◌, ◌-◌, ◌^◌, min, true, false, List, length, Option, Some, None, is_some, refl, ap, sym, ◌∙◌, subst, arith}
use Rattle.ocr_base.specs.Count.{Rose}
use Rattle.ocr_body_steps.specs.Api.{IsAccessStop, IsNextWhereEntered, IsRefusal, StoppedBy, by_body, by_closing, by_memory, refused_closed}
use Rattle.ocr_body_code.specs.Checked.{checked_tree}
use Rattle.ocr_body_code.specs.declared.checked.Checked.{Checked}
use Rattle.ocr_program_tree.specs.Rules.{are_functions_named, are_lists_short}
use Rattle.ocr_body_meaning.specs.Behaviour.{Asked, Behaviour, IsNextWith, Stops}
use Rattle.ocr_body_meaning.specs.Body.{Body, says}
use Rattle.ocr_body_meaning.specs.Call.{is_access}
use Rattle.ocr_body_meaning.specs.Holds.{Access, Entered, Refused, Silent, load_of, private_of, store_of}
use Rattle.ocr_body_meaning.specs.Laws.{IsSaid, IsServed, MakesOnly}
use Rattle.ocr_body_meaning.specs.declared.call.BodyStop.{BodyStop}
use Rattle.ocr_body_meaning.specs.declared.call.BodyStop.TheVariants as stop
use Rattle.ocr_body_meaning.specs.declared.call.Call as body
use Rattle.ocr_body_meaning.specs.declared.call.Call.TheVariants as call
use Rattle.ocr_body_meaning.proofs.Makes.{served_law}
use Rattle.ocr_steal.specs.declared.hand.Hand.{Hand}
use Rattle.ocr_worker_clerk.specs.Entry.{OcrKnown}
use Rattle.ocr_worker_clerk.specs.Push.{IsPushed, PushesReady, ReadiesNone}
use Rattle.ocr_worker_clerk.specs.Work.{AtWork, IsGone, OcrTable}
use Rattle.ocr_worker_clerk.specs.declared.over.Over.{Over}
use Rattle.ocr_worker_clerk.proofs.Push.{pushes_then, then_none}
use Rattle.ocr_worker_access.specs.Accesses.{OnOver}
use Rattle.ocr_worker_access.specs.Calls.{IsCoded}
use Rattle.ocr_worker_access.specs.declared.access.Refusal.{Refusal}
use Rattle.ocr_worker_access.specs.declared.access.Refusal.TheVariants as refusal
use Rattle.ocr_worker_access.specs.Access.{Runs, holds_at}
use Rattle.ocr_worker_access.specs.Served.{own_log}
use Rattle.ocr_worker_access.proofs.Calls.{served_coded}
use Rattle.ocr_worker_body.specs.Body.{AtDesk, IsReady, PushesSince, holds_while, state_in}
use Rattle.ocr_worker_machine.proofs.Lawful.{asked_call}

-- WHAT IT SAYS NEXT is a call that a code answers
pub served_says : (table : OcrTable) (program : Checked) (edt : ℕ) (b : Body) (c : OcrKnown) (log : List Asked) → AtWork table program c → Runs table.1 edt b c → MakesOnly (IsServed (length b.program)) (says b log)
served_says table program edt b c log work runs =
    let same : b.program ≡ checked_tree program = ap (λ (x : Body). x.program) runs.serves.body ∙ ap checked_tree work.program_is in
    served_law b log (ap are_functions_named same ∙ work.runnable.named) (ap are_lists_short same ∙ work.runnable.short)

pub next_coded : (table : OcrTable) (program : Checked) (edt : ℕ) (b : Body) (c : OcrKnown) (made : body.Call) (writes : List (ℕ × ℕ)) → is_access made ≡ false → AtWork table program c → Runs table.1 edt b c → IsNextWith made writes (says b (own_log c.view.log edt)) → IsCoded made
next_coded table program edt b c made writes plain work runs next = served_coded (length b.program) made (asked_call (IsServed (length b.program)) (says b (own_log c.view.log edt)) made writes (served_says table program edt b c (own_log c.view.log edt) work runs) next) plain

-- A COUNT that rose
pub raised_rose : (before now : ℕ) → now ≡ min (before + 1) (2 ^ 64 - 1) → Rose before now
raised_rose before now is = omega (arith, is)

pub risen : (before now : ℕ) → now ≡ min (before + 1) (2 ^ 64 - 1) → IsRefusal (Rose before now) stop.Closed
risen before now is = refused_closed (raised_rose before now is)

-- WHILE THE RUN GOES ON
module _ {A : Type 0} where
  off_none : (o : Option A) → is_some o ≡ false → o ≡ None
  off_none None off = refl
  off_none (Some x) off = cc off

  on_some : (o : Option A) → is_some o ≡ true → (x : A) × (o ≡ Some x)
  on_some None on = cc on
  on_some (Some x) on = (x, refl)

  pub ready_on : (o : Option A) (table : OcrTable) (program : Checked) (worker edt : ℕ) (b : Body) (c : OcrKnown) (n : ℕ) → is_some o ≡ false → IsReady o table program worker edt b c n → AtDesk table program edt b c n
  ready_on o table program worker edt b c n off is = subst (λ (p : Option A). IsReady p table program worker edt b c n) (off_none o off) is

  pub ready_still : (o : Option A) (table : OcrTable) (program : Checked) (worker edt : ℕ) (b : Body) (c : OcrKnown) (n : ℕ) → is_some o ≡ false → AtDesk table program edt b c n → IsReady o table program worker edt b c n
  ready_still o table program worker edt b c n off is = subst (λ (p : Option A). IsReady p table program worker edt b c n) (sym (off_none o off)) is

  pub state_on : (o : Option A) (now last : OcrKnown) → is_some o ≡ false → state_in o now last ≡ now
  state_on None now last off = refl
  state_on (Some x) now last off = cc off

  pub holds_on : (o : Option A) (c : OcrKnown) → is_some o ≡ false → holds_while o c ≡ holds_at c
  holds_on None c off = refl
  holds_on (Some x) c off = cc off

  -- the call that comes next, and the load and the store
  pub next_on : (o : Option A) (edt : ℕ) (b : Body) (c last : OcrKnown) (made : body.Call) → is_some o ≡ false → IsNextWith made (private_of made (holds_while o c)) (says b (own_log (state_in o c last).view.log edt))
      → IsNextWith made (private_of made (holds_at c)) (says b (own_log c.view.log edt))
  next_on None edt b c last made off is = is
  next_on (Some x) edt b c last made off is = cc off

  pub load_on : (o : Option A) (edt d k : ℕ) (b : Body) (c last : OcrKnown) → is_some o ≡ false → IsNextWhereEntered (load_of (holds_while o c d) k) (call.Load d k) (says b (own_log (state_in o c last).view.log edt))
      → IsNextWhereEntered (load_of (holds_at c d) k) (call.Load d k) (says b (own_log c.view.log edt))
  load_on None edt d k b c last off is = is
  load_on (Some x) edt d k b c last off is = cc off

  pub store_on : (o : Option A) (edt d k v : ℕ) (b : Body) (c last : OcrKnown) → is_some o ≡ false → IsNextWhereEntered (store_of (holds_while o c d) k) (call.Store d k v) (says b (own_log (state_in o c last).view.log edt))
      → IsNextWhereEntered (store_of (holds_at c d) k) (call.Store d k v) (says b (own_log c.view.log edt))
  store_on None edt d k v b c last off is = is
  store_on (Some x) edt d k v b c last off is = cc off

  -- ONCE IT WAS FOUND ENDED
  pub ready_over : (o : Option A) (table : OcrTable) (program : Checked) (worker edt : ℕ) (b : Body) (c : OcrKnown) (n m : ℕ) → is_some o ≡ true → IsReady o table program worker edt b c n → IsReady o table program worker edt b c m
  ready_over o table program worker edt b c n m on is = let some = on_some o on in
      subst (λ (p : Option A). IsReady p table program worker edt b c m) (sym some.1) (subst (λ (p : Option A). IsReady p table program worker edt b c n) some.1 is)

  pub load_over : (o : Option A) (c : OcrKnown) (d k : ℕ) (rose : Type 0) → is_some o ≡ true → IsAccessStop (load_of (holds_while o c d) k) rose stop.NotHeld
  load_over None c d k rose on = cc on
  load_over (Some x) c d k rose on = refl

  pub store_over : (o : Option A) (c : OcrKnown) (d k : ℕ) (rose : Type 0) → is_some o ≡ true → IsAccessStop (store_of (holds_while o c d) k) rose stop.NotHeld
  store_over None c d k rose on = cc on
  store_over (Some x) c d k rose on = refl

  pub ready_gone : (o : Option A) (x : A) (table : OcrTable) (program : Checked) (worker edt : ℕ) (b : Body) (c : OcrKnown) (n : ℕ) → o ≡ Some x → IsReady o table program worker edt b c n → IsGone table worker c
  ready_gone o x table program worker edt b c n is ready = subst (λ (p : Option A). IsReady p table program worker edt b c n) is ready

-- WHAT WAS PUSHED since the start of the body, and by one call more
module _ {A : Type 0} where
  pub since_then : (o : Option A) (old mid new : OcrKnown) (before between after : Hand) → PushesSince o old mid before between → PushesReady mid new between after → PushesSince o old new before after
  since_then None old mid new before between after since more = pushes_then old mid new before between after since more
  since_then (Some x) old mid new before between after since more = tt

  pub since_none : (o : Option A) (old mid new : OcrKnown) (before after : Hand) → PushesSince o old mid before after → ReadiesNone mid new → PushesSince o old new before after
  since_none None old mid new before after since none = then_none old mid new before after since none
  since_none (Some x) old mid new before after since none = tt

-- AN ACCESS that was not done
pub fit_over : (A : Type 0) (r : Refusal) (over : Over) (P : Type 0) → r ≡ refusal.Over over → OnOver {A = A} (Err r) P → P
fit_over A r over P is o = subst (λ (x : Refusal). OnOver {A = A} (Err x) P) is o

pub access_closed : (a : Access) (rose : Type 0) → ((s : BodyStop) → a ≡ Refused s → ⊥) → rose → IsAccessStop a rose stop.Closed
access_closed (Refused s) rose fit is = absurd (fit s refl)
access_closed (Silent v) rose fit is = refused_closed is
access_closed Entered rose fit is = refused_closed is

pub access_fault : (a : Access) (rose : Type 0) (s : BodyStop) → a ≡ Refused s → IsAccessStop a rose s
access_fault a rose s is = subst (λ (x : Access). IsAccessStop x rose s) (sym is) refl

-- AFTER THE WALK, where the run was not found ended
pub walked : {A : Type 0} (o : Option A) (table t : OcrTable) (program p : Checked) (worker edt e : ℕ) (b d : Body) (c : OcrKnown) (n : ℕ) → o ≡ None → table ≡ t → program ≡ p → edt ≡ e → b ≡ d → IsReady o table program worker edt b c n → AtDesk t p e d c n
walked {A} o table t program p worker edt e b d c n none tables programs edts bodies ready =
    subst (λ (x : Body). AtDesk t p e x c n) bodies (
    subst (λ (x : ℕ). AtDesk t p x b c n) edts (
    subst (λ (x : Checked). AtDesk t x edt b c n) programs (
    subst (λ (x : OcrTable). AtDesk x program edt b c n) tables (
    subst (λ (x : Option A). IsReady x table program worker edt b c n) none ready
    )
    )
    )
    )

pub said_now : {A : Type 0} (o : Option A) (b d : Body) (edt e : ℕ) (now last : OcrKnown) → o ≡ None → d ≡ b → edt ≡ e → says d (own_log (state_in o now last).view.log edt) ≡ says b (own_log now.view.log e)
said_now o b d edt e now last none bodies edts i = says (bodies i) (own_log (state_on o now last (ap is_some none) i).view.log (edts i))

pub pushed_so : (old pushed now new : Hand) → pushed ≡ old → new ≡ now → IsPushed pushed now → IsPushed old new
pushed_so old pushed now new first last is = subst (λ (h : Hand). IsPushed old h) (sym last) (subst (λ (h : Hand). IsPushed h now) first is)

pub on_ok_then : {A E : Type 0} (r : Result A E) (P Q : Type 0) → (P → Q) → OnOk r P → OnOk r Q
on_ok_then (Ok a) P Q go is = go is
on_ok_then (Err e) P Q go is = tt

pub err_then : {A E : Type 0} (r : Result A E) (P Q : E → Type 0) → ((e : E) → P e → Q e) → IfErr r P → IfErr r Q
err_then (Ok a) P Q go is = tt
err_then (Err e) P Q go is = go e is

-- WHY THE BODY STOPPED, where the run was not found ended
not_risen : (n : ℕ) → n ≡ 0 → Rose 0 n → ⊥
not_risen n is rose = absurd (omega (arith, is, rose))

stop_cause : (functions : ℕ) (now : Behaviour) (n : ℕ) (e : BodyStop) → MakesOnly (IsServed functions) now → n ≡ 0 → StoppedBy now (Rose 0 n) e → (e ≡ stop.NoMemory) ⊎ (IsSaid e × (now ≡ Stops e))
stop_cause functions now n e only none (by_closing rose) = absurd (not_risen n none rose)
stop_cause functions now n e only none by_memory = inl refl
stop_cause functions now n e only none (by_body s is) = inr (subst (MakesOnly (IsServed functions)) is only, is)

pub body_cause : (table : OcrTable) (program : Checked) (edt : ℕ) (b : Body) (c : OcrKnown) (n m : ℕ) (e : BodyStop) → AtDesk table program edt b c m → n ≡ 0 → StoppedBy (says b (own_log c.view.log edt)) (Rose n m) e → (e ≡ stop.NoMemory) ⊎ (IsSaid e × (says b (own_log c.view.log edt) ≡ Stops e))
body_cause table program edt b c n m e at none stopped =
    stop_cause (length b.program) (says b (own_log c.view.log edt)) m e (served_says table program edt b c (own_log c.view.log edt) at.work at.runs) at.unclosed
    (subst (λ (k : ℕ). StoppedBy (says b (own_log c.view.log edt)) (Rose k m) e) none stopped)
