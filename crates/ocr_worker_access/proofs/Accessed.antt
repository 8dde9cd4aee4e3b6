-- A load or a store of a word that the running EDT shares, as it is entered.
use Rattle.std.proofs.Common.{◌≡◌, ◌⊎◌, inl, inr, ℕ, ◌+◌, ◌≤◌, Bool, true, false, List, [], ◌∷◌, ◌++◌, take, reverse, Option, refl, ap, sym, ◌∙◌, subst, arith}
use Rattle.ocr_body_steps.specs.Api.{answer_with}
use Rattle.ocr_body_code.specs.declared.checked.Checked.{Checked}
use Rattle.ocr_guid.specs.declared.Code.TheVariants.{Done}
use Rattle.ocr_machine_history.specs.declared.entry.Entry.{Entry}
use Rattle.ocr_machine_history.specs.declared.entry.Entry.TheVariants.{Call}
use Rattle.ocr_body_meaning.specs.Behaviour.{IsNextWith}
use Rattle.ocr_body_meaning.specs.Body.{Body, says}
use Rattle.ocr_body_meaning.specs.Call.{is_creation}
use Rattle.ocr_body_meaning.specs.Holds.{Access, Entered, Holds, load_of, store_of}
use Rattle.ocr_body_meaning.specs.declared.call.Answer.{Answer}
use Rattle.ocr_body_meaning.specs.declared.call.Call as body
use Rattle.ocr_body_meaning.specs.declared.call.Call.TheVariants as call
use Rattle.ocr_machine_parts.specs.declared.part.Part.{Part}
use Rattle.ocr_machine_parts.specs.declared.part.Part.TheVariants as part
use Rattle.ocr_machine_parts.specs.Codes.{code_of}
use Rattle.ocr_machine_parts.specs.Footprint.{and_face}
use Rattle.ocr_machine_parts.specs.Kinds.{IsBlock, mode_on}
use Rattle.ocr_machine_parts.specs.LegalOn.{IsLoaded, IsShared}
use Rattle.ocr_machine_parts.specs.Parts.{Parts, parts_of}
use Rattle.ocr_machine_parts.specs.Taken.{face_in, has, is_within, look}
use Rattle.ocr_machine_parts.specs.Bodies.{holds_in}
use Rattle.ocr_machine_laws.specs.Answered.{AnswersSo}
use Rattle.ocr_machine_laws.specs.Plain.{IsEntered}
use Rattle.ocr_turns_rule.specs.Debts.{listed}
use Rattle.ocr_turns_rule.specs.Rule.{Fits}
use Rattle.ocr_turns_rule.specs.Sums.{one_at, weigh}
use Rattle.ocr_worker_machine.specs.Clerks.{AreAtHand, OcrView, of_terms}
use Rattle.ocr_worker_machine.specs.Ocr.{counts, meaning, wakes}
use Rattle.ocr_worker_machine.proofs.Places.{within_is}
use Rattle.ocr_worker_clerk.specs.Entry.{CanMake, OcrKnown}
use Rattle.ocr_worker_clerk.specs.Work.{AtWork, EntersAs, HasAllAtHand, HasTakenOn, KeepsFaces, OcrTable, Took, in_hand, lifted}
use Rattle.ocr_worker_access.specs.Accesses.{HasWord, IsAccessOf, second_in, word_at}
use Rattle.ocr_worker_access.specs.Calls.{IsNextTo, drawn_for, faces_of, home_for, makes_output, makes_scope}
use Rattle.ocr_worker_access.specs.Access.{AreOthers, HasEntered, HasLifted, HasTaken, IsCalled, Runs, first_in, holds_at, home_at, places_made}
use Rattle.ocr_worker_access.specs.Served.{own_log}
use Rattle.ocr_worker_access.proofs.Asked.{lifted_is, once_in, taken_at_hand, taken_once, took_is}
use Rattle.ocr_worker_access.proofs.Back.{has_taken, holds_again, keeps_faces, runs_again}
use Rattle.ocr_worker_access.proofs.Called.{IsNumbered, can_answer, hand_is, others_in}
use Rattle.ocr_worker_access.proofs.Entered.{call_done, call_leaves}
use Rattle.ocr_worker_access.proofs.Kept.{runs_at_hand}
use Rattle.ocr_worker_access.proofs.SharedAccesses.{EntersBy, behind, block_within, loaded_there, shared_there, word_here}
use Rattle.ocr_worker_access.proofs.Taken.{one_part}

-- BY ITS CALL: it makes nothing, is always accepted, and resumes nobody
no_creation : (holds : Holds) (d value : ℕ) (x : Part) (c : body.Call) → IsAccessOf holds d c value x → is_creation c ≡ false
no_creation holds d value x (call.Load e k) is = refl
no_creation holds d value x (call.Store e k v) is = refl
no_creation holds d value x other is = absurd is

its_face : (limit : ℕ) (holds : Holds) (d value : ℕ) (x : Part) (c : body.Call) → IsAccessOf holds d c value x → faces_of limit 0 c ≡ and_face limit d []
its_face limit holds d value x (call.Load e k) is = ap (λ (n : ℕ). and_face limit n []) is.0
its_face limit holds d value x (call.Store e k v) is = ap (λ (n : ℕ). and_face limit n []) is.0
its_face limit holds d value x other is = absurd is

its_code : (holds : Holds) (d value edt : ℕ) (x : Part) (f : ℕ → Part) (c : body.Call) → IsAccessOf holds d c value x → Done ≡ code_of edt f c
its_code holds d value edt x f (call.Load e k) is = refl
its_code holds d value edt x f (call.Store e k v) is = refl
its_code holds d value edt x f other is = absurd is

none_counted : (limit edt : ℕ) (holds : Holds) (d value : ℕ) (x : Part) (c : body.Call) (ps : List (ℕ × Part)) → IsAccessOf holds d c value x → listed (counts limit (Call edt 0 c (answer_with value) []) ps) ≡ []
none_counted limit edt holds d value x (call.Load e k) ps is = refl
none_counted limit edt holds d value x (call.Store e k v) ps is = refl
none_counted limit edt holds d value x other ps is = absurd is

none_woken : (limit edt : ℕ) (holds : Holds) (d value : ℕ) (x : Part) (c : body.Call) (ps : List (ℕ × Part)) → IsAccessOf holds d c value x → wakes limit (Call edt 0 c (answer_with value) []) ps ≡ []
none_woken limit edt holds d value x (call.Load e k) ps is = refl
none_woken limit edt holds d value x (call.Store e k v) ps is = refl
none_woken limit edt holds d value x other ps is = absurd is

abbrev pub word_of_call : body.Call → ℕ
word_of_call (call.Load e k) = k
word_of_call (call.Store e k v) = k
word_of_call other = 0

entered_is : (a : Access) → a ≡ Entered → IsEntered a
entered_is a is = subst IsEntered (sym is) tt

pub enters_from : (h : Holds) (x : Part) (d k : ℕ) → h ≡ holds_in x → (load_of (h d) k ≡ Entered) ⊎ (store_of (h d) k ≡ Entered) → EntersBy x d k
enters_from h x d k is (inl on) = inl (entered_is (load_of (holds_in x d) k) (ap (λ (g : Holds). load_of (g d) k) (sym is) ∙ on))
enters_from h x d k is (inr on) = inr (entered_is (store_of (holds_in x d) k) (ap (λ (g : Holds). store_of (g d) k) (sym is) ∙ on))

enters_by : (d value : ℕ) (x y : Part) (c : body.Call) → IsAccessOf (holds_in x) d c value y → EntersBy x d (word_of_call c)
enters_by d value x y (call.Load e k) is = inl (entered_is (load_of (holds_in x d) k) (ap (λ (n : ℕ). load_of (holds_in x n) k) (sym is.0) ∙ is.1))
enters_by d value x y (call.Store e k v) is = inr (entered_is (store_of (holds_in x d) k) (ap (λ (n : ℕ). store_of (holds_in x n) k) (sym is.0) ∙ is.1))
enters_by d value x y other is = absurd is

answers_so : (limit : ℕ) (f : Parts) (edt d value : ℕ) (holds : Holds) (x : Part) (c : body.Call) → IsAccessOf holds d c value x → IsBlock (f.face d) (IsShared edt (word_of_call c) (mode_on (f.core edt) d))
    → (value ≡ word_at (word_of_call c) x → IsBlock (f.face d) (IsLoaded edt (word_of_call c) (mode_on (f.core edt) d) value)) → AnswersSo limit f edt c (answer_with value)
answers_so limit f edt d value holds x (call.Load e k) is shared loaded = subst (λ (n : ℕ). IsBlock (f.face n) (IsLoaded edt k (mode_on (f.core edt) n) value)) (sym is.0) (loaded is.2)
answers_so limit f edt d value holds x (call.Store e k v) is shared loaded = (subst (λ (n : ℕ). IsBlock (f.face n) (IsShared edt k (mode_on (f.core edt) n))) (sym is.0) shared, is.2)
answers_so limit f edt d value holds x other is shared loaded = absurd is

none_made : (limit : ℕ) (c : body.Call) (value : ℕ) → is_creation c ≡ false → places_made limit c (answer_with value) ≡ []
none_made limit c value off = rw off refl

-- and has no home
its_home : (holds : Holds) (d value : ℕ) (x core : Part) (c : body.Call) → IsAccessOf holds d c value x → 0 ≡ home_for c core
its_home holds d value x core (call.Load e k) is = refl
its_home holds d value x core (call.Store e k v) is = refl
its_home holds d value x core other is = absurd is

none_beside : (holds : Holds) (d value : ℕ) (x : Part) (c : body.Call) → IsAccessOf holds d c value x → (makes_scope c ≡ false) × (makes_output c ≡ false)
none_beside holds d value x (call.Load e k) is = (refl, refl)
none_beside holds d value x (call.Store e k v) is = (refl, refl)
none_beside holds d value x other is = absurd is

none_drawn : (c : body.Call) (value : ℕ) → is_creation c ≡ false → drawn_for c (answer_with value) ≡ []
none_drawn c value off = rw off refl

-- THE FACE that was taken
pub second_of : (t : _) (edt d : ℕ) (old new : OcrKnown) (ps : List (ℕ × Part)) (lift : HasLifted t edt old new (d ∷ []) [] ps) → ps ≡ (t.limit + edt, part.Core lift.core) ∷ (d, second_in ps) ∷ []
second_of t edt d old new ps lift =
    let one = one_part lift.taken d lift.places_are in
    let whole : ps ≡ (t.limit + edt, part.Core lift.core) ∷ (d, one.0) ∷ [] = lift.parts ∙ ap (λ (l : List (ℕ × Part)). (t.limit + edt, part.Core lift.core) ∷ l) one.1 in
    whole ∙ ap (λ (x : Part). (t.limit + edt, part.Core lift.core) ∷ (d, x) ∷ []) (sym (ap second_in whole))

-- IT IS TAKEN behind the core
module _ (table : OcrTable) (program : Checked) (edt d k : ℕ) (b : Body) (old : OcrKnown) (work : AtWork table program old) (runs : Runs table.1 edt b old) (enters : (load_of (holds_at old d) k ≡ Entered) ⊎ (store_of (holds_at old d) k ≡ Entered)) where
  by_hand : EntersBy (part.Core runs.core) d k
  by_hand = enters_from (holds_at old) (part.Core runs.core) d k (ap (λ (l : List (ℕ × Option Part)). holds_in (first_in l)) runs.hand) enters

  face_within : is_within table.1.limit d ≡ true
  face_within = let fits = runs.sees table.1 work.of_table.1 work.is_open in block_within table.1 old.view fits.0 fits.1 edt d k runs.core [] runs.taken.number (runs_at_hand table program edt b old work runs) by_hand

  pub face_low : (n : ℕ) → n ≡ d → n ≤ table.1.limit + table.1.limit
  face_low n same = let high = (within_is table.1.limit d face_within).1 in omega (arith, same, high)

  module _ (mid : OcrKnown) (n : ℕ) (same : n ≡ d) (took : Took old mid (n ∷ [])) (at_work : AtWork table program mid) where
    face_taken : HasTaken table.1 edt old mid (d ∷ [])
    face_taken = took_is table.1 edt b old mid (d ∷ []) runs (subst (λ (m : ℕ). Took old mid (m ∷ [])) same took)

    pub pair_at_hand : (places : List ℕ) → places ≡ (table.1.limit + edt) ∷ d ∷ [] → HasAllAtHand mid places
    pair_at_hand places is = taken_at_hand table.1 edt old mid (d ∷ []) places face_taken is

    pub pair_once : (p : ℕ) → weigh (one_at p) mid.parts ≤ 1
    pair_once = taken_once table program edt old mid (d ∷ []) face_taken at_work

    pub pair_lifted : (new : OcrKnown) (items : List (ℕ × Part)) → new.view ≡ mid.view → items ≡ in_hand mid.parts → new.parts ≡ lifted mid.parts → HasLifted table.1 edt old new (d ∷ []) [] items
    pair_lifted new items view is hand = lifted_is table.1 edt old mid new (d ∷ []) items face_taken runs.taken.drawn view is hand

module _ (table : OcrTable) (program : Checked) (edt d : ℕ) (b : Body) (old new : OcrKnown) (ps : List (ℕ × Part)) (work : AtWork table program new) (runs : Runs table.1 edt b old) (lift : HasLifted table.1 edt old new (d ∷ []) [] ps) where
  within : is_within table.1.limit edt ≡ true
  within = runs.taken.number

  abbrev its : List (ℕ × Part)
  its = (table.1.limit + edt, part.Core lift.core) ∷ (d, second_in ps) ∷ []

  is_its : ps ≡ (table.1.limit + edt, part.Core lift.core) ∷ (d, second_in ps) ∷ []
  is_its = second_of table.1 edt d old new ps lift

  at_hand : AreAtHand table.1.limit its new.view.parts
  at_hand = subst (λ (l : List (ℕ × Part)). AreAtHand table.1.limit l new.view.parts) is_its (hand_is table.1.limit edt lift.core lift.kept lift.taken ps new.view.parts within lift.is lift.parts (ap (λ (v : OcrView). v.parts) lift.view) (once_in table program new work lift.sees))

  held_is : holds_at old ≡ holds_in (part.Core lift.core)
  held_is = ap (λ (l : List (ℕ × Option Part)). holds_in (first_in l)) lift.was

  module _ (k : ℕ) (enters : EntersBy (part.Core lift.core) d k) where
    within_block : is_within table.1.limit d ≡ true
    within_block = let fits = lift.sees table.1 work.of_table.1 work.is_open in block_within table.1 new.view fits.0 fits.1 edt d k lift.core ((d, second_in ps) ∷ []) within at_hand enters

    here : (has its d ≡ true) × (look its d ≡ second_in ps)
    here = behind table.1.limit edt d (part.Core lift.core) (second_in ps) within within_block

    has_word : HasWord k (second_in ps)
    has_word = let fits = lift.sees table.1 work.of_table.1 work.is_open in subst (HasWord k) here.1 (word_here table.1 new.view fits.0 fits.1 edt d k lift.core ((d, second_in ps) ∷ []) within at_hand enters here.0)

  pub word_lifted : (k : ℕ) → (load_of (holds_at old d) k ≡ Entered) ⊎ (store_of (holds_at old d) k ≡ Entered) → HasWord k (second_in ps)
  word_lifted k on = has_word k (enters_from (holds_at old) (part.Core lift.core) d k held_is on)

  -- THE ENTRY
  module _ (c : body.Call) (value : ℕ) (next : IsNextWith c [] (says b (own_log old.view.log edt))) (access : IsAccessOf (holds_at old) d c value (second_in ps)) (a : Answer) (w : List (ℕ × ℕ)) (a_is : a ≡ answer_with value) (w_is : w ≡ []) where
    abbrev entry : Entry
    entry = Call edt 0 c (answer_with value) []

    entry_is : Call edt 0 c a w ≡ Call edt 0 c (answer_with value) []
    entry_is = λ i. Call edt 0 c (a_is i) (w_is i)

    by_core : IsAccessOf (holds_in (part.Core lift.core)) d c value (second_in ps)
    by_core = subst (λ (h : Holds). IsAccessOf h d c value (second_in ps)) held_is access

    enters : EntersBy (part.Core lift.core) d (word_of_call c)
    enters = enters_by d value (part.Core lift.core) (second_in ps) c by_core

    off : is_creation c ≡ false
    off = no_creation (holds_at old) d value (second_in ps) c access

    places_are : d ∷ [] ≡ faces_of table.1.limit 0 c ++ places_made table.1.limit c (answer_with value)
    places_are = sym (ap (λ (l : List ℕ). faces_of table.1.limit 0 c ++ l) (none_made table.1.limit c value off) ∙ ap (λ (l : List ℕ). l ++ []) (its_face table.1.limit (holds_at old) d value (second_in ps) c access ∙ one_face table.1.limit d (within_block (word_of_call c) enters)))
      where
        one_face : (limit d : ℕ) → is_within limit d ≡ true → and_face limit d [] ≡ d ∷ []
        one_face limit d is = rw is refl

    drawn_are : ◌≡◌ {A = List ℕ} [] (drawn_for c (answer_with value))
    drawn_are = sym (none_drawn c value off)

    lift_call : HasLifted table.1 edt old new (faces_of table.1.limit 0 c ++ places_made table.1.limit c (answer_with value)) (drawn_for c (answer_with value)) ps
    lift_call = subst (λ (l : List ℕ). HasLifted table.1 edt old new (faces_of table.1.limit 0 c ++ places_made table.1.limit c (answer_with value)) l ps) drawn_are
        (subst (λ (l : List ℕ). HasLifted table.1 edt old new l [] ps) places_are lift)

    numbered : IsNumbered new.view c (answer_with value)
    numbered = record {
      drawn = ap (λ (v : OcrView). v.drawn) lift.view ∙ drawn_are;
      refused = λ on. cc (on, off);
      scope = subst (λ (b : Bool). IsNextTo b new.view value 0) (sym (none_beside (holds_at old) d value (second_in ps) c access).0) refl;
      output = subst (λ (b : Bool). IsNextTo b new.view value 0) (sym (none_beside (holds_at old) d value (second_in ps) c access).1) refl;
    }

    home_is : 0 ≡ home_at old c
    home_is = its_home (holds_at old) d value (second_in ps) (first_in old.parts) c access

    so : (J : List Entry) → Fits meaning table.1 J new.view → AnswersSo table.1.limit (parts_of (of_terms table.1) (reverse J)) edt c (answer_with value)
    so J fits =
        let k = word_of_call c in let rest : List (ℕ × Part) = (d, second_in ps) ∷ [] in let found = here k enters in
        answers_so table.1.limit (parts_of (of_terms table.1) (reverse J)) edt d value (holds_at old) (second_in ps) c access
        (shared_there table.1 new.view J fits edt d k lift.core rest within at_hand enters)
        (λ word. loaded_there table.1 new.view J fits edt d k lift.core rest within at_hand enters found.0 value (word ∙ ap (word_at k) (sym found.1)))

    can_plain : CanMake table.1 new.view entry (record { members = []; parts = ps }) ps
    can_plain = can_answer table program edt b old new 0 c (answer_with value) [] [] ps work runs home_is lift_call next numbered (λ J fits found. so J fits) (its_code (holds_at old) d value edt (second_in ps) (face_in table.1.limit ps) c access) refl

    pub can_access : CanMake table.1 new.view (Call edt 0 c a w) (record { members = []; parts = ps }) ps
    can_access = subst (λ (e : Entry). CanMake table.1 new.view e (record { members = []; parts = ps }) ps) (sym entry_is) can_plain

    others : AreOthers table.1 edt (d ∷ [])
    others = subst (AreOthers table.1 edt) (sym places_are) (others_in table program edt b old new 0 c (answer_with value) [] [] ps work runs home_is lift_call next numbered (λ J fits found. so J fits) (its_code (holds_at old) d value edt (second_in ps) (face_in table.1.limit ps) c access) refl)

    -- and what it leaves
    module _ (later : OcrKnown) (done_so : EntersAs table.1 new later (Call edt 0 c a w) (record { members = []; parts = ps })) where
      done : EntersAs table.1 new later entry (record { members = []; parts = ps })
      done = subst (λ (e : Entry). EntersAs table.1 new later e (record { members = []; parts = ps })) entry_is done_so

      pub access_leaves : HasEntered table.1 edt b later (d ∷ []) [] []
      access_leaves =
          subst (λ (l : List ℕ). HasEntered table.1 edt b later l [] []) (sym places_are)
          (subst (λ (m : List (ℕ × ℕ)). HasEntered table.1 edt b later (faces_of table.1.limit 0 c ++ places_made table.1.limit c (answer_with value)) m []) (none_counted table.1.limit edt (holds_at old) d value (second_in ps) c new.view.parts access)
          (subst (λ (r : List ℕ). HasEntered table.1 edt b later (faces_of table.1.limit 0 c ++ places_made table.1.limit c (answer_with value)) (listed (counts table.1.limit entry new.view.parts)) r) (none_woken table.1.limit edt (holds_at old) d value (second_in ps) c new.view.parts access)
          (call_leaves table edt b old new later 0 c (answer_with value) [] ps runs lift_call can_plain done)))

      pub access_taken : HasTakenOn table.1 edt later
      access_taken = has_taken table.1 edt b later (d ∷ []) access_leaves

      pub access_keeps : (n : ℕ) → n ≡ d → KeepsFaces table.1 edt (n ∷ []) later
      access_keeps n same = subst (λ (m : ℕ). KeepsFaces table.1 edt (m ∷ []) later) (sym same) (keeps_faces table.1 edt b later (d ∷ []) access_leaves others)

      -- once its face is given back
      module _ (last : OcrKnown) (view : last.view ≡ record later.view { parts = take 1 later.view.parts }) (hand : last.parts ≡ take 1 later.parts) where
        pub access_runs : Runs table.1 edt b last
        access_runs = runs_again table.1 edt b later last (d ∷ []) access_leaves (ap (λ (v : OcrView). v.terms) done.view ∙ work.of_table.1) view hand

        pub access_called : IsCalled edt c (answer_with value) old last
        access_called =
            let called = call_done table edt b old new later 0 c (answer_with value) [] ps runs lift_call can_plain done in
            record {
              log = ap (λ (v : OcrView). own_log v.log edt) view ∙ called.log;
              holds = holds_again table.1 edt b later last (d ∷ []) access_leaves hand ∙ called.holds;
            }
