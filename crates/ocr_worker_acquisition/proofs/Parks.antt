-- What a worker keeps once it has entered what a block let its EDT do.
use Rattle.std.proofs.Common.{◌≡◌, ◌≢◌, ℕ, ◌+◌, ◌≤◌, ◌==◌, Bool, true, false, List, [], ◌∷◌, ◌++◌, take, Option, Some, None, is_some, refl, ap, sym, ◌∙◌, subst, arith}
use Rattle.std.specs.Prelude.{IfNone, IfSome}
use Rattle.std.specs.List.{All}
use Rattle.std.proofs.lemmas.List.{append-nil}
use Rattle.std.proofs.lemmas.List.Elements.{All-cons, All-nil}
use mathlib.Core.Option.{some}
use lib.ListN.{get_elem?}
use Rattle.ocr_base.proofs.Booleans.{same as number_same}
use Rattle.ocr_acquire.specs.declared.Mode.{Mode}
use Rattle.ocr_acquire.specs.Mode.{mode_in}
use Rattle.ocr_datablock.specs.Block as block
use Rattle.ocr_datablock.specs.Steps as block_steps
use Rattle.ocr_machine_history.specs.declared.entry.Entry.{Entry}
use Rattle.ocr_machine_history.specs.declared.entry.Entry.TheVariants.{Wait}
use Rattle.ocr_machine_parts.specs.declared.part.Part.{Part}
use Rattle.ocr_machine_parts.specs.declared.part.Part.TheVariants as part
use Rattle.ocr_machine_parts.specs.Calls.{mode_next}
use Rattle.ocr_machine_parts.specs.Effects.{changed}
use Rattle.ocr_machine_parts.specs.Progress.{next_mode_on, ready_at}
use Rattle.ocr_machine_parts.specs.Kinds.{core_progress, next_in, with_block}
use Rattle.ocr_machine_parts.specs.LegalOn.{IsRefused}
use Rattle.ocr_machine_parts.specs.Parts.{Parts}
use Rattle.ocr_machine_parts.specs.Taken.{as_face, is_within, look, parts_in}
use Rattle.ocr_machine_parts.specs.Readiness.{plan_from, ready_with}
use Rattle.ocr_machine_laws.specs.Permanence.{is_own}
use Rattle.ocr_worker_machine.specs.Clerks.{OcrTerms, OcrView}
use Rattle.ocr_worker_machine.specs.Ocr.{meaning, starts}
use Rattle.ocr_worker_machine.proofs.Queues.{refused_queue}
use Rattle.ocr_turns_rule.specs.Sums.{as_some, entries, is_among, keys, replace}
use Rattle.ocr_worker_clerk.specs.Entry.{PlannedParts, OcrKnown}
use Rattle.ocr_body_code.specs.declared.checked.Checked.{Checked}
use Rattle.ocr_turns_rule.specs.Words.{SeesReady}
use Rattle.ocr_worker_clerk.specs.Work.{AtWork, EntersKept, HasTakenOn, KeepsFaces, OcrTable, RunsNone, RunsOnly, Stays}
use Rattle.ocr_worker_clerk.proofs.Goes.{stays_still}
use Rattle.ocr_worker_clerk.proofs.Hands.{apart_is}
use Rattle.ocr_worker_clerk.proofs.Seen.{core_apart}
use Rattle.ocr_worker_acquisition.specs.Park.{IsLetWait}
use Rattle.ocr_worker_acquisition.specs.Block.{CanAct, CarriesOut, IsUnbegun, WantsOther, pair_of}
use Rattle.ocr_worker_acquisition.specs.Rounds.{GaveFaces, HasMet, HasWaited, IsAfter, hand_of, lets_wait, places_of, slots_on, step_of, two_places}
use Rattle.ocr_worker_acquisition.specs.Acquisition.{Meets, entry_by, two_faces}
use Rattle.ocr_worker_acquisition.specs.declared.act.Act.{Act}
use Rattle.ocr_worker_acquisition.specs.declared.act.Act.TheVariants as act
use Rattle.ocr_worker_acquisition.specs.declared.rounds.Met.{Met}
use Rattle.ocr_worker_acquisition.specs.declared.rounds.Met.TheVariants as met
use Rattle.smallvec.specs.SmallVec.{SmallVec}
use Rattle.ocr_worker_acquisition.proofs.After.{IsGoing, alone_after, core_now, keeps_after, later_keys, state_is, still_taken, still_unstarted}
use Rattle.ocr_worker_acquisition.proofs.Awake.{none_own}
use Rattle.ocr_worker_acquisition.proofs.Carries.{meets_now}
use Rattle.ocr_worker_acquisition.proofs.Holds.{KeepsCore, Shown, other_core, other_faces, shown_ready, shown_taken, still_unbegun, two_others, waited_after}
use Rattle.ocr_worker_acquisition.proofs.Takes.{core_found, face_found, two_items}
use Rattle.ocr_worker_acquisition.proofs.Three.{block_there}
use Rattle.ocr_worker_machine.proofs.Places.{within_is}
use Rattle.ocr_machine_parts.proofs.Blocks.{mode_added}

pub pair_places : (b : Bool) (t d : ℕ) → keys (pair_of b t d part.Vacant part.Vacant) ≡ two_places b t d
pair_places true t d = refl
pair_places false t d = refl

-- AS IT STOOD AT HAND when the entry came: the core made ready
module _ (t : OcrTerms) (edt d : ℕ) (first : Bool) (payloads : List ℕ) (a : Act) (h : PlannedParts) (old new : OcrKnown) (off : edt ≢ d) (wd : is_within t.limit d ≡ true) (carries : CarriesOut t edt d first payloads a h old)
    (enters : EntersKept t old new (entry_by a edt d) h) where
  abbrev pub mid : OcrKnown
  mid = record old { parts = replace (t.limit + edt) (Some (part.Core (ready_with carries.can.knows.slots payloads carries.can.knows.three.core))) (replace (t.limit + edt) None old.parts) }

  pub meets : Meets t edt d a payloads (places_of t.limit first edt d) h mid
  meets =
      let k = carries.can.knows in
      meets_now t edt d first payloads a h old mid _ off wd carries refl
      (record {
        core = k.three.core;
        slots = k.slots;
        core_there = core_found t edt d first old k.three off wd;
        face_there = face_found t edt d first old k.three off wd ∙ ap (λ (x : Part). Some (Some x)) k.face_is;
        put = refl;
      })
      (ap (λ (l : List ℕ). (t.limit + edt) ∷ l) (pair_places first edt d))

  unfoldable pub entered : EntersKept t mid new (entry_by a edt d) h
  entered = record { number = enters.number; later = enters.later; sent = enters.sent; step = enters.step; paid = enters.paid; view = enters.view; kept = enters.kept; hand = enters.hand; sees = enters.sees }

  pub has : HasTakenOn t edt mid
  has = let m = carries.can.knows.three.taken in record { number = m.number; claims = m.claims; drawn = m.drawn; owes = m.owes; only = m.only }

  pub taken_after : HasTakenOn t edt new
  taken_after = still_taken t edt d a h old new carries.can.knows.three.taken enters

  pub unstarted_after : is_among (λ e. is_own e edt) (entries new.view.log) ≡ false
  unstarted_after = still_unstarted t edt d a h old new enters carries.can.knows.three.unstarted

  pub faces_after : IsGoing a → KeepsFaces t edt (two_places first edt d) new
  faces_after going = keeps_after t edt d a payloads (two_places first edt d) h mid new has meets entered (two_others t.limit edt d first has.number wd) going

  pub core_after : IsGoing a → IsUnbegun new.view edt → KeepsCore t edt new
  core_after going unbegun =
      let r = alone_after t edt d a payloads (two_places first edt d) h mid new has meets entered (two_others t.limit edt d first has.number wd) going in record {
        taken = taken_after;
        unstarted = unstarted_after;
        unbegun = unbegun;
        core = r.0;
        kept = r.1;
        hand = r.2;
      }

-- WHO WAITS stands in the block's queue
back_face : (x : Part) (st : block.State) → as_face x ≡ part.Block st → x ≡ part.Block st
back_face (part.Core c) st is = cc is
back_face other st is = is

pub none_runs : (v : OcrView) (edt : ℕ) → RunsOnly v edt → is_among (λ e. is_own e edt) (entries v.log) ≡ false → RunsNone v
none_runs v edt only none u runs =
    let same : u ≡ edt = only u runs in
    let on : is_among (λ e. starts e edt) (entries v.log) ≡ true = subst (λ (n : ℕ). is_among (λ e. starts e n) (entries v.log) ≡ true) same runs.started in
    let off : is_among (λ e. starts e edt) (entries v.log) ≡ false = none_own v.log edt none in
    cc (on, off)

-- three parts with these numbers
pub three_items : (n p q : ℕ) (ps : List (ℕ × Part)) → keys ps ≡ n ∷ p ∷ q ∷ [] → (x : Part) × (y : Part) × (z : Part) × (ps ≡ (n, x) ∷ (p, y) ∷ (q, z) ∷ [])
three_items n p q [] is = cc is
three_items n p q (a ∷ rest) is =
    let first : a.0 ≡ n = cc is in let others : keys rest ≡ p ∷ q ∷ [] = cc is in
    let r = two_items p q rest others in
    (a.1, r.0, r.1, (λ i. (first i, a.1) ∷ r.2 i))

face_low : (limit g : ℕ) → is_within limit g ≡ true → g ≤ limit + limit
face_low limit g is = let b = (within_is limit g is).1 in omega (arith, b)

core_low : (limit g : ℕ) → is_within limit g ≡ true → limit + g ≤ limit + limit
core_low limit g is = let b = (within_is limit g is).1 in omega (arith, b)

all_low : (m n p q : ℕ) → n ≤ m → p ≤ m → q ≤ m → All (λ k. k ≤ m) (n ∷ p ∷ q ∷ [])
all_low m n p q a b c =
    let low : ℕ → Type 0 = λ k. k ≤ m in
    All-cons low n (p ∷ q ∷ []) a (All-cons low p (q ∷ []) b (All-cons low q [] c (All-nil low)))

pub record StandsAt (ps : List (ℕ × Part)) (edt d : ℕ) : Type 0 where
  pub place : ℕ
  pub state : block.State
  pub here : get_elem? ps place ≡ some (d, part.Block state)
  pub queued : is_some (mode_in edt state.queue) ≡ true

module _ (t : OcrTerms) (edt d : ℕ) (first : Bool) (payloads : List ℕ) (h : PlannedParts) (old new : OcrKnown) (off : edt ≢ d) (wd : is_within t.limit d ≡ true) (carries : CarriesOut t edt d first payloads act.Wait h old)
    (enters : EntersKept t old new (Wait edt d) h) where
  abbrev its : Meets t edt d act.Wait payloads (places_of t.limit first edt d) h (mid t edt d first payloads act.Wait h old new off wd carries enters)
  its = meets t edt d first payloads act.Wait h old new off wd carries enters

  abbrev before : List (ℕ × Part)
  before = (t.limit + edt, part.Core its.core) ∷ two_faces its.first edt d its.slots its.state

  abbrev f : Parts
  f = ready_at edt (plan_from its.slots payloads) (parts_in t.limit before)

  number : is_within t.limit edt ≡ true
  number = carries.can.knows.three.taken.number

  keys_now : keys enters.later ≡ places_of t.limit first edt d
  unfolding entered
  keys_now = later_keys t edt d act.Wait payloads (two_places first edt d) h (mid t edt d first payloads act.Wait h old new off wd carries enters) new (has t edt d first payloads act.Wait h old new off wd carries enters) its
      (entered t edt d first payloads act.Wait h old new off wd carries enters) (two_others t.limit edt d first number wd)

  state_now : parts_in t.limit enters.later ≡ changed (Wait edt d) f
  unfolding entered
  state_now = state_is t edt d act.Wait payloads (two_places first edt d) h (mid t edt d first payloads act.Wait h old new off wd carries enters) new (has t edt d first payloads act.Wait h old new off wd carries enters) its
      (entered t edt d first payloads act.Wait h old new off wd carries enters) (two_others t.limit edt d first number wd)

  core_is : f.core edt ≡ part.Core (ready_with its.slots payloads its.core)
  core_is = core_now t edt d act.Wait payloads (two_places first edt d) h (mid t edt d first payloads act.Wait h old new off wd carries enters) new (has t edt d first payloads act.Wait h old new off wd carries enters) its
      (entered t edt d first payloads act.Wait h old new off wd carries enters) (two_others t.limit edt d first number wd)

  mode_is : next_mode_on f edt ≡ its.mode
  mode_is = ap mode_next (ap (λ (x : Part). next_in (core_progress x)) core_is ∙ its.next)

  block_is : f.face d ≡ part.Block its.state
  block_is = let at = block_there t.limit edt d (part.Core its.core) its.slots its.state number wd off its.first in let there = at.1 in rw (wd, there) refl

  waited_face : (changed (Wait edt d) f).face d ≡ part.Block (block_steps.after_ask its.state edt its.mode)
  waited_face = rw (number_same d) (λ i. with_block (block_is i) (λ st. block_steps.after_ask st edt (mode_is i)))

  queue_is : is_some (mode_in edt (block_steps.after_ask its.state edt its.mode).queue) ≡ true
  queue_is =
      let refused : IsRefused edt its.mode its.state = its.lets in
      ap (λ (q : List (ℕ × Mode)). is_some (mode_in edt q)) (refused_queue edt its.mode its.state refused)
      ∙ ap (λ (o : Option Mode). is_some o) (mode_added edt its.mode its.state.queue refused.newcomer.not_waiting)

  face_now : (parts_in t.limit enters.later).face d ≡ part.Block (block_steps.after_ask its.state edt its.mode)
  face_now = ap (λ (g : Parts). g.face d) state_now ∙ waited_face

  stands : (b : Bool) → keys enters.later ≡ places_of t.limit b edt d → StandsAt enters.later edt d
  stands true is =
      let s = three_items (t.limit + edt) d edt enters.later is in
      let core_d : ((t.limit + edt) == d) ≡ false = apart_is (t.limit + edt) d (core_apart t.limit edt d number wd) in
      let here : (parts_in t.limit ((t.limit + edt, s.0) ∷ (d, s.1) ∷ (edt, s.2) ∷ [])).face d ≡ as_face s.1 = rw (wd, core_d, number_same d) refl in
      let it : s.1 ≡ part.Block (block_steps.after_ask its.state edt its.mode) = back_face s.1 _ (sym here ∙ (ap (λ (l : List (ℕ × Part)). (parts_in t.limit l).face d) (sym s.3) ∙ face_now)) in
      record {
        place = 1;
        state = block_steps.after_ask its.state edt its.mode;
        here = ap (λ (l : List (ℕ × Part)). get_elem? l 1) s.3 ∙ ap (λ (x : Part). some (d, x)) it;
        queued = queue_is;
      }
  stands false is =
      let s = three_items (t.limit + edt) edt d enters.later is in
      let core_d : ((t.limit + edt) == d) ≡ false = apart_is (t.limit + edt) d (core_apart t.limit edt d number wd) in
      let t_d : (edt == d) ≡ false = apart_is edt d off in
      let here : (parts_in t.limit ((t.limit + edt, s.0) ∷ (edt, s.1) ∷ (d, s.2) ∷ [])).face d ≡ as_face s.2 = rw (wd, core_d, t_d, number_same d) refl in
      let it : s.2 ≡ part.Block (block_steps.after_ask its.state edt its.mode) = back_face s.2 _ (sym here ∙ (ap (λ (l : List (ℕ × Part)). (parts_in t.limit l).face d) (sym s.3) ∙ face_now)) in
      record {
        place = 2;
        state = block_steps.after_ask its.state edt its.mode;
        here = ap (λ (l : List (ℕ × Part)). get_elem? l 2) s.3 ∙ ap (λ (x : Part). some (d, x)) it;
        queued = queue_is;
      }

  low : (b : Bool) → All (λ p. p ≤ t.limit + t.limit) (places_of t.limit b edt d)
  low true = all_low (t.limit + t.limit) (t.limit + edt) d edt (core_low t.limit edt number) (face_low t.limit d wd) (face_low t.limit edt number)
  low false = all_low (t.limit + t.limit) (t.limit + edt) edt d (core_low t.limit edt number) (face_low t.limit edt number) (face_low t.limit d wd)

  pub let_wait : IsLetWait t edt (places_of t.limit first edt d) new
  let_wait =
      let s = stands first keys_now in
      let taken = taken_after t edt d first payloads act.Wait h old new off wd carries enters in
      record {
        kept = ap (λ (l : List (ℕ × Part)). keys l) enters.kept ∙ keys_now;
        hand = enters.hand ∙ ap (λ (l : List (ℕ × Part)). as_some l) (sym enters.kept);
        place = s.place;
        awaited = d;
        state = s.state;
        here = ap (λ (l : List (ℕ × Part)). get_elem? l s.place) enters.kept ∙ s.here;
        inside = wd;
        queued = s.queued;
        none = none_runs new.view edt taken.only (unstarted_after t edt d first payloads act.Wait h old new off wd carries enters);
        within = low first;
      }

-- and the newest entry says so
pub has_waited : (t : OcrTerms) (edt d : ℕ) (h : PlannedParts) (old new last : OcrKnown) → EntersKept t old new (Wait edt d) h → last.view ≡ record new.view { parts = []; claims = []; spares = new.view.spares + 1 } → HasWaited old last edt
has_waited t edt d h old new last enters view = record {
  more = [];
  number = enters.number;
  block = d;
  log = ap (λ (v : OcrView). v.log) view ∙ (ap (λ (v : OcrView). v.log) enters.view ∙ ap (λ (l : List (ℕ × Entry)). l ++ (enters.number, Wait edt d) ∷ []) (sym (append-nil old.view.log)));
}

-- after others too
pub met_after : (t : OcrTerms) (edt : ℕ) (payloads : SmallVec ℕ) (m : Met) (a b c : OcrKnown) → Stays a b → HasMet t edt payloads.items m b c → IsAfter t edt (step_of m payloads) a c
met_after t edt payloads met.Through a b c stays is = is
met_after t edt payloads met.Further a b c stays is = (is, tt)
met_after t edt payloads met.Parked a b c stays is = (is.0, waited_after a b c edt stays is.1)

-- BY WHAT IS DECIDED
pub if_some : {A : Type 0} (P : A → Type 0) (o : Option A) (x : A) → o ≡ Some x → IfSome o P → P x
if_some P o x is given = subst (λ q. IfSome q P) is given

pub if_none : {A : Type 0} (P : Type 0) (o : Option A) → ((x : A) → o ≡ Some x → ⊥) → IfNone o P → P
if_none P None never given = given
if_none P (Some x) never given = absurd (never x refl)

look_face : (b : Bool) (limit edt d : ℕ) (x y z : Part) → is_within limit edt ≡ true → is_within limit d ≡ true → edt ≢ d → look ((limit + edt, x) ∷ pair_of b edt d y z) edt ≡ y
look_face true limit edt d x y z wt wd off =
    let a : ((limit + edt) == edt) ≡ false = apart_is (limit + edt) edt (core_apart limit edt edt wt wt) in
    let e : (d == edt) ≡ false = apart_is d edt (λ is. off (sym is)) in
    rw (a, e, number_same edt) refl
look_face false limit edt d x y z wt wd off =
    let a : ((limit + edt) == edt) ≡ false = apart_is (limit + edt) edt (core_apart limit edt edt wt wt) in
    rw (a, number_same edt) refl

pub carries : (t : OcrTerms) (edt d : ℕ) (first : Bool) (payloads : List ℕ) (a : Act) (c : OcrKnown) → edt ≢ d → is_within t.limit d ≡ true → CanAct t edt d first payloads a c → CarriesOut t edt d first payloads a (hand_of c edt payloads) c
carries t edt d first payloads a c off wd can =
    let m = can.knows.three in
    let there : look c.view.parts edt ≡ part.Edt can.knows.slots = ap (λ (l : List (ℕ × Part)). look l edt) m.kept ∙ (look_face first t.limit edt d (part.Core m.core) m.face m.other m.taken.number wd off ∙ can.knows.face_is) in
    record {
      can = can;
      hand = ap (λ (x : Part). record { members = plan_from (slots_on x) payloads; parts = c.view.parts }) there;
    }

pub going : (a : Act) → lets_wait a ≡ false → IsGoing a
going act.Acquire is = tt
going act.Pass is = tt
going act.Wait is = cc is

pub let_wait_by : (t : OcrTerms) (edt d : ℕ) (first : Bool) (payloads : List ℕ) (a : Act) (h : PlannedParts) (old new : OcrKnown) → edt ≢ d → is_within t.limit d ≡ true → lets_wait a ≡ true → CarriesOut t edt d first payloads a h old
    → EntersKept t old new (entry_by a edt d) h → IsLetWait t edt (places_of t.limit first edt d) new
let_wait_by t edt d first payloads act.Wait h old new off wd is carries enters = let_wait t edt d first payloads h old new off wd carries enters
let_wait_by t edt d first payloads act.Acquire h old new off wd is carries enters = cc is
let_wait_by t edt d first payloads act.Pass h old new off wd is carries enters = cc is

pub has_waited_by : (t : OcrTerms) (edt d : ℕ) (a : Act) (h : PlannedParts) (old new last : OcrKnown) → lets_wait a ≡ true → EntersKept t old new (entry_by a edt d) h → last.view ≡ record new.view { parts = []; claims = []; spares = new.view.spares + 1 } → HasWaited old last edt
has_waited_by t edt d act.Wait h old new last is enters view = has_waited t edt d h old new last enters view
has_waited_by t edt d act.Acquire h old new last is enters view = cc is
has_waited_by t edt d act.Pass h old new last is enters view = cc is

-- WHAT A ROUND LEAVES before the faces go home
pub record IsDone (t : OcrTerms) (edt d : ℕ) (first : Bool) (c : OcrKnown) : Type 0 where
  pub taken : HasTakenOn t edt c
  pub keeps : KeepsFaces t edt (two_places first edt d) c
  pub core : KeepsCore t edt c
  pub shown : Shown t c.view edt

pub done_other : (table : OcrTable) (program : Checked) (edt d : ℕ) (first : Bool) (payloads : List ℕ) (c : OcrKnown) → is_within table.1.limit d ≡ true → IsUnbegun c.view edt → AtWork table program c → SeesReady meaning c.view edt
    → WantsOther table.1 edt d first payloads c → IsDone table.1 edt d first c
done_other table program edt d first payloads c within unbegun work ready other =
    let t = table.1 in record {
      taken = other.knows.three.taken;
      keeps = other_faces t edt d first payloads c within other;
      core = other_core t edt d first payloads c other unbegun;
      shown = shown_ready table program c edt work ready;
    }

pub done_act : (table : OcrTable) (program : Checked) (edt d : ℕ) (first : Bool) (payloads : List ℕ) (a : Act) (h : PlannedParts) (old new : OcrKnown) → edt ≢ d → is_within table.1.limit d ≡ true → IsUnbegun old.view edt → Stays old new
    → AtWork table program new → lets_wait a ≡ false → CarriesOut table.1 edt d first payloads a h old → EntersKept table.1 old new (entry_by a edt d) h → IsDone table.1 edt d first new
done_act table program edt d first payloads a h old new off wd unbegun stays work goes carries enters =
    let t = table.1 in
    let taken = taken_after t edt d first payloads a h old new off wd carries enters in
    record {
      taken = taken;
      keeps = faces_after t edt d first payloads a h old new off wd carries enters (going a goes);
      core = core_after t edt d first payloads a h old new off wd carries enters (going a goes) (still_unbegun old new edt stays unbegun);
      shown = shown_taken table program new edt work taken enters.sees;
    }

pub gave_stays : (old new : OcrKnown) → GaveFaces old new → Stays old new
gave_stays old new gave = stays_still old new (record old.view { parts = take 1 old.view.parts }) gave.table gave.view
    (record { terms = refl; root = refl; seat = refl; out = refl; joined = refl; log = refl; weight = refl; drawn = refl; full = refl; reached = refl; closed = refl; stake = omega arith; raised = refl; ended = refl })
