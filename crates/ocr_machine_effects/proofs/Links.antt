-- Events that are satisfied, and dependences that name them.
use Rattle.std.proofs.Common.{◌≡◌, ℕ, ◌+◌, List, [], ◌∷◌, ◌++◌, append_assoc, map, Bool, true, false, ◌==◌, ◌&&◌, not, if◌then◌else◌, refl, sym, ◌∙◌, ap}
use Rattle.std.proofs.lemmas.Bool.{eqb-true}
use Rattle.ocr_guid.specs.declared.target.Target.{Target}
use Rattle.ocr_guid.specs.declared.Code.{Code}
use Rattle.ocr_machine_history.specs.declared.entry.What.{What}
use Rattle.ocr_machine_history.specs.declared.entry.Message.{Message}
use Rattle.ocr_machine_history.specs.declared.entry.Entry.TheVariants.{Call, Deliver}
use Rattle.ocr_body_meaning.specs.Holds.{is_done}
use Rattle.ocr_body_meaning.specs.declared.call.Call as body
use Rattle.ocr_body_meaning.specs.declared.call.Answer.{Answer}
use Rattle.ocr_machine_parts.specs.declared.part.Part.{Part}
use Rattle.ocr_machine_parts.specs.declared.part.Part.TheVariants as part
use Rattle.ocr_machine_parts.specs.Calls.{is_given, is_object, slot_target}
use Rattle.ocr_machine_parts.specs.Effects.{with_named, with_beside, new_output, new_scope, deps_linked}
use Rattle.ocr_machine_parts.specs.Progress.{with_face, with_core, linked_if, linked_to}
use Rattle.ocr_machine_parts.specs.Kinds.{is_edt_face, with_links, is_event, with_event}
use Rattle.ocr_machine_parts.specs.Messages.{what_to, linked, linked_by, dep_sends, sent_by, sent_by_message, sends}
use Rattle.ocr_machine_parts.specs.Parts.{Parts}
use Rattle.ocr_event_any.specs.AnyEvent as event
use Rattle.ocr_slots.specs.declared.Slot.{Slot}
use Rattle.ocr_base.proofs.Booleans.{eqb_flips, and_false}
use Rattle.ocr_machine_effects.specs.AtHand.{AtHand, state, AreOthers, HasRoom}
use Rattle.ocr_machine_parts.proofs.Beside.{other_event}

-- a face that is put in its own place
face_back : (f : Parts) (g : ℕ) (x : Part) → x ≡ f.face g → (m : ℕ) → (if g == m then x else f.face m) ≡ f.face m
face_back f g x is m = elim (g == m) as (λ b. (g == m) ≡ b → (if b then x else f.face m) ≡ f.face m) [
  | true ↦ λ same. is ∙ ap f.face (eqb-true g m same)
  | false ↦ λ _. refl
] refl

pub same_face : (f : Parts) (g : ℕ) (x : Part) → x ≡ f.face g → with_face f g x ≡ f
same_face f g x is = λ i. record { face = λ m. face_back f g x is m i; core = f.core }

pub not_linked : (named : Bool) (f : Parts) (d : ℕ) (t : Target) → (named && is_event (f.face d)) ≡ false → linked_if named d t f ≡ f
not_linked true f d t is = same_face f d _ (other_event (f.face d) _ is)
not_linked false f d t is = refl

-- a payload to each target
pub to_each : (p : ℕ) (ts : List Target) → map (λ (t : Target). what_to (p, t)) ts ≡ map what_to (map (λ (t : Target). (p, t)) ts)
to_each p [] = refl
to_each p (t ∷ rest) = ap (λ (ms : List What). what_to (p, t) ∷ ms) (to_each p rest)

-- what an entry sends that was accepted, and one that was refused nothing
pub call_sends : (t home : ℕ) (c : body.Call) (a : Answer) (w : List (ℕ × ℕ)) (f : Parts) → is_done a.code ≡ true → sent_by c a f ≡ sends (Call t home c a w) f
call_sends t home c a w f done = ap (λ (b : Bool). if b then sent_by c a f else []) (sym done)

pub call_silent : (t home : ℕ) (c : body.Call) (a : Answer) (w : List (ℕ × ℕ)) (f : Parts) → is_done a.code ≡ false → [] ≡ sends (Call t home c a w) f
call_silent t home c a w f refused = ap (λ (b : Bool). if b then sent_by c a f else []) (sym refused)

pub message_sends : (m : Message) (c : Code) (f : Parts) → is_done c ≡ true → sent_by_message m.what f ≡ sends (Deliver m c) f
message_sends m c f done = ap (λ (b : Bool). if b then sent_by_message m.what f else []) (sym done)

pub message_silent : (m : Message) (c : Code) (f : Parts) → is_done c ≡ false → [] ≡ sends (Deliver m c) f
message_silent m c f refused = ap (λ (b : Bool). if b then sent_by_message m.what f else []) (sym refused)

-- THE DEPENDENCES of a new EDT, slot by slot: one that is given, and one that is not
pub given_next : (t k d : ℕ) (rest : List ℕ) (f g all : Parts) (ms more sent : List What) → is_given d ≡ true → g ≡ linked_if (is_object d) d (slot_target t k) f
    → more ≡ ms ++ linked_by (is_object d) d (slot_target t k) f → deps_linked t k (d ∷ rest) f ≡ all → ms ++ dep_sends t k (d ∷ rest) f ≡ sent
    → (deps_linked t (k + 1) rest g ≡ all) × (more ++ dep_sends t (k + 1) rest g ≡ sent)
given_next t k d rest f g all ms more sent given is more_is linked sends =
    let at_once : List What = linked_by (is_object d) d (slot_target t k) f in
    let after : Parts = linked_if (is_object d) d (slot_target t k) f in (
      ap (deps_linked t (k + 1) rest) is ∙ linked,
      rw (more_is, is) (append_assoc ms at_once (dep_sends t (k + 1) rest after)
          ∙ ap (λ (b : Bool). ms ++ ((if b then at_once else []) ++ dep_sends t (k + 1) rest after)) (sym given) ∙ sends),
    )

no_object : (d : ℕ) → is_given d ≡ false → is_object d ≡ false
no_object d is = ap (λ (b : Bool). b && not (d == 0)) is

pub missing_next : (t k d : ℕ) (rest : List ℕ) (f all : Parts) (ms sent : List What) → is_given d ≡ false → deps_linked t k (d ∷ rest) f ≡ all → ms ++ dep_sends t k (d ∷ rest) f ≡ sent
    → (deps_linked t (k + 1) rest f ≡ all) × (ms ++ dep_sends t (k + 1) rest f ≡ sent)
missing_next t k d rest f all ms sent missing linked sends =
    let after : linked_if (is_object d) d (slot_target t k) f ≡ f = ap (λ (b : Bool). linked_if b d (slot_target t k) f) (no_object d missing) in (
      ap (deps_linked t (k + 1) rest) (sym after) ∙ linked,
      ap (λ (h : Parts). ms ++ dep_sends t (k + 1) rest h) (sym after)
          ∙ ap (λ (b : Bool). ms ++ ((if b then linked_by (is_object d) d (slot_target t k) f else []) ++ dep_sends t (k + 1) rest (linked_if (is_object d) d (slot_target t k) f))) (sym missing)
          ∙ sends,
    )

-- what comes at once from a source does not rest on another object's face
pub linked_apart : (named : Bool) (f : Parts) (d x : ℕ) (y : Part) (t : Target) → (d == x) ≡ false → linked_by named d t (with_face f x y) ≡ linked_by named d t f
linked_apart true f d x y t apart = ap (λ (b : Bool). linked (if b then y else f.face d) d t) (eqb_flips x d ∙ apart)
linked_apart false f d x y t apart = refl

pub no_links : (x : Part) (step : List Slot → List Slot) → is_edt_face x ≡ false → with_links x step ≡ x
no_links (part.Edt slots) step is = cc is
no_links other step is = refl

-- nor do the dependences of a new EDT on what is made
abbrev IsAlikeBut : ℕ → Parts → Parts → Type 0
IsAlikeBut g f h = (d : ℕ) → (g == d) ≡ false → f.face d ≡ h.face d

alike_linked : (g d : ℕ) (t : Target) (f h : Parts) → (g == d) ≡ false → IsAlikeBut g f h → IsAlikeBut g (linked_to d t f) (linked_to d t h)
alike_linked g d t f h apart like m other =
    elim (d == m) as (λ b. (if b then with_event (f.face d) (λ st. event.after_link st t) else f.face m) ≡ (if b then with_event (h.face d) (λ st. event.after_link st t) else h.face m)) [
      | true ↦ ap (λ (x : Part). with_event x (λ st. event.after_link st t)) (like d apart)
      | false ↦ like m other
    ]

same_sends : (u g k : ℕ) (ds : List ℕ) (f h : Parts) → AreOthers g ds → IsAlikeBut g f h → dep_sends u k ds f ≡ dep_sends u k ds h
same_sends u g k [] f h others like = refl
same_sends u g k (d ∷ rest) f h others like =
    let t : Target = slot_target u k in
    elim (is_object d) as (λ b. (b ≡ true → (g == d) ≡ false) → (if is_given d then linked_by b d t f else []) ++ dep_sends u (k + 1) rest (linked_if b d t f)
    ≡ (if is_given d then linked_by b d t h else []) ++ dep_sends u (k + 1) rest (linked_if b d t h)) [
      | true ↦ λ apart.
          ap (λ (x : Part). (if is_given d then linked x d t else []) ++ dep_sends u (k + 1) rest (linked_to d t f)) (like d (apart refl))
          ∙ ap (λ (ms : List What). (if is_given d then linked (h.face d) d t else []) ++ ms)
          (same_sends u g (k + 1) rest (linked_to d t f) (linked_to d t h) others.1 (alike_linked g d t f h (apart refl) like))
      | false ↦ λ _. ap (λ (ms : List What). (if is_given d then what_to (d, t) ∷ [] else []) ++ ms) (same_sends u g (k + 1) rest f h others.1 like)
    ] others.0

named_sends : (u n : ℕ) (ds : List ℕ) (f : Parts) (x : Part) → AreOthers n ds → dep_sends u 0 ds (with_named f n x) ≡ dep_sends u 0 ds f
named_sends u n ds f x others =
    same_sends u n 0 ds (with_named f n x) f others (λ d apart. ap (λ (b : Bool). if not (n == 0) && b then x else f.face d) apart ∙ ap (λ (b : Bool). if b then x else f.face d) (and_false (not (n == 0))))

pub made_sends : (h : AtHand) (a : Answer) (home : ℕ) (ds : List ℕ) (x y : Part) → HasRoom h a ds
    → dep_sends a.value 0 ds (with_core (with_face (with_beside (state h) home a) a.value x) a.value y) ≡ dep_sends a.value 0 ds (state h)
made_sends h a home ds x y room =
    let f : Parts = with_beside (state h) home a in
    same_sends a.value a.value 0 ds (with_core (with_face f a.value x) a.value y) f room.others (λ d apart. ap (λ (b : Bool). if b then x else f.face d) apart)
    ∙ named_sends a.value a.scope ds (with_named (state h) a.output new_output) (new_scope home a) room.not_scope
    ∙ named_sends a.value a.output ds (state h) new_output room.not_output
