-- A call of the body, from what it names to what its entry leaves.
use Rattle.std.specs.Prelude.{OnOk}
use Rattle.std.proofs.Common.{◌≡◌, ℕ, ◌+◌, ◌≤◌, Bool, true, false, ◌==◌, ◌||◌, if◌then◌else◌, List, [], ◌∷◌, ◌++◌, length, take, Option, Some, None, is_some, Result, Ok, Err, refl, ap, sym, ◌∙◌, subst}
use Rattle.std.proofs.lemmas.List.{append_assoc}
use Rattle.ocr_base.specs.declared.limits.TheConstants.{MOST_PARAMETERS, MOST_DEPENDENCES}
use Rattle.ocr_body_code.specs.Checked.{checked_tree}
use Rattle.ocr_body_code.specs.declared.checked.Checked.{Checked}
use Rattle.ocr_edt.specs.declared.Edt.{Edt}
use Rattle.ocr_edt.specs.Edt.{identity_of}
use Rattle.ocr_guid.specs.declared.Code.TheVariants as code
use Rattle.ocr_template.specs.declared.Template.{Template}
use Rattle.ocr_template.specs.Template.{count_meant, counts_of, is_refused}
use Rattle.ocr_program_tree.specs.Rules.{are_functions_named, are_lists_short}
use Rattle.ocr_body_meaning.specs.Behaviour.{Asks, Behaviour, Ends, IsNext, IsNextWith, Stops}
use Rattle.ocr_body_meaning.specs.Body.{Body, says}
use Rattle.ocr_body_meaning.specs.Holds.{Holds, after_call, is_done}
use Rattle.ocr_body_meaning.specs.Laws.{IsServed}
use Rattle.ocr_body_meaning.specs.declared.call.Answer.{Answer}
use Rattle.ocr_body_meaning.specs.declared.call.Call as body
use Rattle.ocr_body_meaning.specs.declared.call.Call.TheVariants as call
use Rattle.ocr_body_meaning.proofs.Makes.{served_law}
use Rattle.ocr_machine_history.specs.declared.entry.Entry.{Entry}
use Rattle.ocr_machine_history.specs.declared.entry.Entry.TheVariants.{Call}
use Rattle.ocr_machine_parts.specs.declared.part.Core.{Core}
use Rattle.ocr_machine_parts.specs.declared.part.Part.{Part}
use Rattle.ocr_machine_parts.specs.declared.part.Part.TheVariants as part
use Rattle.ocr_machine_parts.specs.Codes.{code_of, counted_code, creation_code, wanted}
use Rattle.ocr_machine_parts.specs.Effects.{settled_core}
use Rattle.ocr_machine_parts.specs.Footprint.{Covers, makes_core}
use Rattle.ocr_machine_parts.specs.Kinds.{work_in}
use Rattle.ocr_machine_parts.specs.Taken.{as_face, face_in, has, is_within, look}
use Rattle.ocr_machine_parts.specs.Bodies.{holds_in}
use Rattle.ocr_machine_parts.proofs.After.{accepted, done_is}
use Rattle.ocr_machine_parts.proofs.Local.{code_law}
use Rattle.ocr_turns_rule.specs.Sums.{as_some}
use Rattle.ocr_worker_machine.specs.Clerks.{OcrTerms, OcrView}
use Rattle.ocr_worker_machine.specs.Ocr.{counts, slots_meant}
use Rattle.ocr_worker_clerk.specs.Entry.{OcrKnown}
use Rattle.ocr_worker_clerk.specs.Work.{AtWork, OcrTable}
use Rattle.ocr_worker_access.specs.Calls.{home_for}
use Rattle.ocr_worker_calls.specs.Calls.{HasListed, HasMore, IsLet, LetsMake}
use Rattle.ocr_worker_access.specs.Access.{HasLifted, IsCalled, IsCoreOf, Runs, first_in, holds_at, home_at}
use Rattle.ocr_worker_access.specs.Served.{own_log}
use Rattle.ocr_worker_access.proofs.Asked.{blank}
use Rattle.ocr_worker_access.proofs.Called.{runnable_in}
use Rattle.ocr_worker_machine.proofs.Lawful.{wanted_few, asked_call}

pub call_few : (table : OcrTable) (program : Checked) (c : OcrKnown) (edt : ℕ) (b : Body) (made : body.Call) (private : List (ℕ × ℕ)) → AtWork table program c → Runs table.1 edt b c → IsNextWith made private (says b (own_log c.view.log edt)) → length (wanted made) ≤ 33
call_few table program c edt b made private work runs next =
    let runnable = runnable_in table program c work in
    let same : b.program ≡ checked_tree table.1.setting.value.program = ap (λ (x : Body). x.program) runs.serves.body in
    wanted_few (length b.program) made
    (asked_call (IsServed (length b.program)) (says b (own_log c.view.log edt)) made private
    (served_law b (own_log c.view.log edt) (ap are_functions_named same ∙ runnable.named) (ap are_lists_short same ∙ runnable.short)) next)

-- MORE PARTS behind those that it names
pub more_again : (first mid last : List (ℕ × Part)) → HasMore first mid → HasMore mid last → HasMore first last
more_again first mid last one two = (one.0 ++ two.0, two.1 ∙ (ap (λ (l : List (ℕ × Part)). l ++ two.0) one.1 ∙ append_assoc first one.0 two.0))

look_more : (ps more : List (ℕ × Part)) (n : ℕ) → has ps n ≡ true → look (ps ++ more) n ≡ look ps n
look_more [] more n there = cc there
look_more (p ∷ ps) more n there = elim (p.0 == n) as (λ b. (b || has ps n) ≡ true → (if b then p.1 else look (ps ++ more) n) ≡ (if b then p.1 else look ps n)) [
  | true ↦ λ _. refl
  | false ↦ λ there. look_more ps more n there
] there

face_more : (limit g : ℕ) (ps more : List (ℕ × Part)) → (is_within limit g ≡ true → has ps g ≡ true) → face_in limit (ps ++ more) g ≡ face_in limit ps g
face_more limit g ps more there = elim (is_within limit g) as (λ b. is_within limit g ≡ b → (if b then as_face (look (ps ++ more) g) else part.Vacant) ≡ (if b then as_face (look ps g) else part.Vacant)) [
  | true ↦ λ is. ap as_face (look_more ps more g (there is))
  | false ↦ λ _. refl
] refl

-- its code is the same
pub code_more : (limit edt home : ℕ) (c : body.Call) (ps now : List (ℕ × Part)) → Covers limit (Call edt home c blank []) ps → HasMore ps now → code_of edt (face_in limit now) c ≡ code_of edt (face_in limit ps) c
code_more limit edt home c ps now covers more =
    ap (λ (l : List (ℕ × Part)). code_of edt (face_in limit l) c) more.1
    ∙ code_law edt home c blank [] (face_in limit (ps ++ more.0)) (face_in limit ps) (λ g on. face_more limit g ps more.0 (λ within. covers g (rw within on)))

-- THE WRITES are listed in the core at hand
abbrev head_of : List (ℕ × Part) → ℕ × Part
head_of [] = (0, part.Vacant)
head_of (x ∷ rest) = x

abbrev tail_of : List (ℕ × Part) → List (ℕ × Part)
tail_of [] = []
tail_of (x ∷ rest) = rest

same_core : (a b : Core) → part.Core a ≡ part.Core b → a ≡ b
same_core a b is = cc is

abbrev pub with_first : OcrKnown → List (ℕ × Part) → OcrKnown
with_first c ps = record c { parts = as_some (take 1 ps) }

face_first : (limit n g : ℕ) (x y : Core) (rest : List (ℕ × Part)) → face_in limit ((n, part.Core x) ∷ rest) g ≡ face_in limit ((n, part.Core y) ∷ rest) g
face_first limit n g x y rest = elim (n == g) as (λ b. (if is_within limit g then as_face (if b then part.Core x else look rest g) else part.Vacant) ≡ (if is_within limit g then as_face (if b then part.Core y else look rest g) else part.Vacant)) [
  | true ↦ refl
  | false ↦ refl
]

slots_first : (n from dc : ℕ) (x y : Core) (rest : List (ℕ × Part)) → slots_meant (look ((n, part.Core x) ∷ rest) from) dc ≡ slots_meant (look ((n, part.Core y) ∷ rest) from) dc
slots_first n from dc x y rest = elim (n == from) as (λ b. slots_meant (if b then part.Core x else look rest from) dc ≡ slots_meant (if b then part.Core y else look rest from) dc) [
  | true ↦ refl
  | false ↦ refl
]

counts_first : (limit n edt home : ℕ) (c : body.Call) (a : Answer) (v w : List (ℕ × ℕ)) (x y : Core) (rest : List (ℕ × Part)) → counts limit (Call edt 0 c a v) ((n, part.Core x) ∷ rest) ≡ counts limit (Call edt home c a w) ((n, part.Core y) ∷ rest)
counts_first limit n edt home (call.EdtCreate from pc ps dc ds fl o) a v w x y rest = ap (λ (s : ℕ). if is_done a.code then Some (a.value, s) else None) (slots_first n from dc x y rest)
counts_first limit n edt home other a v w x y rest = refl

module _ (t : OcrTerms) (edt : ℕ) (b : Body) (old new : OcrKnown) (places drawn : List ℕ) (ps : List (ℕ × Part)) (runs : Runs t edt b old) (lift : HasLifted t edt old new places drawn ps) where
  -- the EDT that it makes, told by the parts at hand
  pub counts_kept : (home : ℕ) (c : body.Call) (a : Answer) (w : List (ℕ × ℕ)) → counts t.limit (Call edt 0 c a []) ps ≡ counts t.limit (Call edt home c a w) new.view.parts
  counts_kept home c a w =
      ap (counts t.limit (Call edt 0 c a [])) lift.parts
      ∙ (counts_first t.limit (t.limit + edt) edt home c a [] w lift.core lift.kept lift.taken ∙ sym (ap (λ (v : OcrView). counts t.limit (Call edt home c a w) v.parts) lift.view))

  pub holds_first : holds_in (first_in (as_some ps)) ≡ holds_at old
  holds_first = ap (λ (l : List (ℕ × Part)). holds_in (first_in (as_some l))) lift.parts ∙ sym (ap (λ (l : List (ℕ × Option Part)). holds_in (first_in l)) lift.was)

  module _ (now : List (ℕ × Part)) (lists : HasListed ps now) where
    heads : (lists.place, part.Core lists.core) ∷ lists.rest ≡ (t.limit + edt, part.Core lift.core) ∷ lift.taken
    heads = sym lists.was ∙ lift.parts

    place_is : lists.place ≡ t.limit + edt
    place_is = ap (λ (l : List (ℕ × Part)). (head_of l).0) heads

    core_is : lists.core ≡ lift.core
    core_is = same_core lists.core lift.core (ap (λ (l : List (ℕ × Part)). (head_of l).1) heads)

    rest_is : lists.rest ≡ lift.taken
    rest_is = ap tail_of heads

    was_core : lift.core ≡ runs.core
    was_core = same_core lift.core runs.core (ap first_in (sym lift.was ∙ runs.hand))

    now_is : now ≡ (t.limit + edt, part.Core lists.later) ∷ lift.taken
    now_is = lists.is ∙ (λ i. (place_is i, part.Core lists.later) ∷ rest_is i)

    hand_now : as_some (take 1 now) ≡ (t.limit + edt, Some (part.Core lists.later)) ∷ []
    hand_now = ap (λ (l : List (ℕ × Part)). as_some (take 1 l)) now_is

    later_is : (kept : Core) → IsCoreOf lift.core kept → IsCoreOf lists.later kept
    later_is kept is = record {
      alike = lists.alike ∙ (ap settled_core core_is ∙ is.alike);
      running = ap (λ (e : Edt). is_some (work_in e)) (lists.edt ∙ ap (λ (c : Core). c.edt) core_is) ∙ is.running;
    }

    pub runs_listed : Runs t edt b (with_first old now)
    runs_listed = record {
      taken = record { number = runs.taken.number; claims = runs.taken.claims; drawn = runs.taken.drawn; owes = runs.taken.owes; only = runs.taken.only };
      serves = runs.serves;
      core = lists.later;
      kept = runs.kept;
      keeps = runs.keeps;
      hand = hand_now;
      is = later_is runs.kept (subst (λ (c : Core). IsCoreOf c runs.kept) (sym was_core) runs.is);
      sees = runs.sees;
    }

    pub lifted_listed : HasLifted t edt (with_first old now) new places drawn now
    lifted_listed = record {
      core = lists.later;
      kept = lift.kept;
      taken = lift.taken;
      is = later_is lift.kept lift.is;
      was = hand_now;
      places_are = lift.places_are;
      view = lift.view;
      hand = lift.hand;
      parts = now_is;
      sees = lift.sees;
    }

    -- its home
    pub home_listed : (c : body.Call) → home_at (with_first old now) c ≡ home_at old c
    home_listed c =
        ap (λ (l : List (ℕ × Option Part)). home_for c (first_in l)) hand_now
        ∙ (ap (λ (e : Edt). if makes_core c then (identity_of e).scope else 0) (lists.edt ∙ ap (λ (x : Core). x.edt) core_is)
        ∙ sym (ap (λ (l : List (ℕ × Option Part)). home_for c (first_in l)) lift.was))

    -- what the EDT holds, and the call's code, are the same
    pub holds_same : holds_at (with_first old now) ≡ holds_at old
    holds_same =
        ap (λ (l : List (ℕ × Option Part)). holds_in (first_in l)) hand_now
        ∙ (lists.holds ∙ (ap (λ (c : Core). holds_in (part.Core c)) core_is ∙ sym (ap (λ (l : List (ℕ × Option Part)). holds_in (first_in l)) lift.was)))

    pub code_same : (c : body.Call) → code_of edt (face_in t.limit now) c ≡ code_of edt (face_in t.limit ps) c
    code_same c =
        ap (λ (l : List (ℕ × Part)). code_of edt (face_in t.limit l) c) now_is
        ∙ (ap (λ (f : ℕ → Part). code_of edt f c) (λ i g. face_first t.limit (t.limit + edt) g lists.later lift.core lift.taken i)
        ∙ sym (ap (λ (l : List (ℕ × Part)). code_of edt (face_in t.limit l) c) lift.parts))

-- THE TEMPLATE of an accepted creation
counted_done : (t : Template) (pc dc : ℕ) (ps ds : List ℕ) (fl : ℕ) → counted_code (counts_of t pc dc) ps ds fl ≡ code.Done → (n : ℕ × ℕ) × (counts_of t pc dc ≡ Ok n)
counted_done t pc dc ps ds fl is = elim (is_refused t.paramc pc MOST_PARAMETERS || is_refused t.depc dc MOST_DEPENDENCES) as (λ b. counted_code (if b then Err code.Einval else Ok (count_meant t.paramc pc, count_meant t.depc dc)) ps ds fl ≡ code.Done → (n : ℕ × ℕ) × ((if b then Err code.Einval else Ok (count_meant t.paramc pc, count_meant t.depc dc)) ≡ Ok n)) [
  | true ↦ λ wrong. cc wrong
  | false ↦ λ _. ((count_meant t.paramc pc, count_meant t.depc dc), refl)
] is

face_makes : (x : Part) (pc dc : ℕ) (ps ds : List ℕ) (fl : ℕ) → creation_code (as_face x) pc ps dc ds fl ≡ code.Done → LetsMake x pc dc
face_makes (part.Template t) pc dc ps ds fl is = counted_done t pc dc ps ds fl is
face_makes other pc dc ps ds fl is = cc is

pub lets_make : (limit edt from pc dc fl : ℕ) (params ds : List ℕ) (o : Bool) (ps : List (ℕ × Part)) → code_of edt (face_in limit ps) (call.EdtCreate from pc params dc ds fl o) ≡ code.Done → LetsMake (look ps from) pc dc
lets_make limit edt from pc dc fl params ds o ps is = elim (is_within limit from) as (λ b. creation_code (if b then as_face (look ps from) else part.Vacant) pc params dc ds fl ≡ code.Done → LetsMake (look ps from) pc dc) [
  | true ↦ λ is. face_makes (look ps from) pc dc params ds fl is
  | false ↦ λ wrong. cc wrong
] (accepted edt (face_in limit ps) (call.EdtCreate from pc params dc ds fl o) is)

pub counted_so : (t : Template) (pc dc : ℕ) (n : ℕ × ℕ) → counts_of t pc dc ≡ Ok n → n.1 ≡ count_meant t.depc dc
counted_so t pc dc n is = elim (is_refused t.paramc pc MOST_PARAMETERS || is_refused t.depc dc MOST_DEPENDENCES) as (λ b. (if b then Err code.Einval else Ok (count_meant t.paramc pc, count_meant t.depc dc)) ≡ Ok n → n.1 ≡ count_meant t.depc dc) [
  | true ↦ λ wrong. cc wrong
  | false ↦ λ is. (let same : (count_meant t.paramc pc, count_meant t.depc dc) ≡ n = cc is in sym (ap (λ (p : ℕ × ℕ). p.1) same))
] is

pub is_let : (limit edt : ℕ) (c : body.Call) (a : Answer) (ps : List (ℕ × Part)) → a.code ≡ code_of edt (face_in limit ps) c → IsLet c a.code ps
is_let limit edt (call.EdtCreate from pc params dc ds fl o) a ps is = λ done. lets_make limit edt from pc dc fl params ds o ps (sym is ∙ done_is a.code done)
is_let limit edt other a ps is = tt

-- WHAT THE CALL LEAVES
pub plain_next : (c : body.Call) (w : List (ℕ × ℕ)) (b : Behaviour) → IsNextWith c w b → IsNext c b
plain_next c w (Ends g holds) next = absurd next
plain_next c w (Stops e) next = absurd next
plain_next c w (Asks made writes more) next = next.0

pub called_so : {A E : Type 0} (r : Result A E) (edt : ℕ) (c : body.Call) (a : Answer) (old first mid new : OcrKnown) → OnOk r (new.view.log ≡ mid.view.log) → OnOk r (holds_at new ≡ holds_at mid) → IsCalled edt c a first mid → first.view.log ≡ old.view.log → holds_at first ≡ holds_at old
    → OnOk r (IsCalled edt c a old new)
called_so (Ok x) edt c a old first mid new log holds called same_log same_holds = record {
  log = ap (λ (l : List (ℕ × Entry)). own_log l edt) log ∙ (called.log ∙ ap (λ (l : List (ℕ × Entry)). record { call = c; answer = a } ∷ own_log l edt) same_log);
  holds = holds ∙ (called.holds ∙ ap (λ (h : Holds). after_call c a h) same_holds);
}
called_so (Err e) edt c a old first mid new log holds called same_log same_holds = tt
