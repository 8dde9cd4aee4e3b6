-- What an accepted call tells of the parts at hand.
use Rattle.std.proofs.Common.{◌≡◌, ◌≤◌, ℕ, List, [], ◌∷◌, length, Bool, true, false, ◌&&◌, ◌==◌, if◌then◌else◌, refl, sym, ◌∙◌, ap, subst, arith}
use Rattle.std.proofs.lemmas.Grind.{common_steps}
use Rattle.std.proofs.lemmas.Bool.{eqb-true, or_parts}
use Rattle.ocr_guid.specs.declared.Code.TheVariants as code
use Rattle.ocr_body_meaning.specs.Holds.{is_done}
use Rattle.ocr_body_meaning.specs.declared.call.Call as body
use Rattle.ocr_body_meaning.specs.declared.call.Call.TheVariants as call
use Rattle.ocr_body_meaning.specs.declared.call.Answer.{Answer}
use Rattle.ocr_template.specs.declared.Template.{Template}
use Rattle.ocr_template.specs.Template.{counts_of, count_meant}
use Rattle.ocr_machine_parts.specs.declared.part.Part.{Part}
use Rattle.ocr_machine_parts.specs.declared.part.Part.TheVariants as part
use Rattle.ocr_machine_parts.specs.Calls.{is_object}
use Rattle.ocr_machine_parts.specs.Codes.{wanted_sources, is_any, is_missing, counted_code, creation_code, Source, code_of}
use Rattle.ocr_machine_parts.specs.Effects.{called, joins}
use Rattle.ocr_machine_parts.specs.Kinds.{home_on, is_vacant, is_template, is_event, is_destroyed}
use Rattle.ocr_machine_parts.specs.LegalOn.{IsDooming, IsBeside, IsJoinable, last_of}
use Rattle.ocr_machine_parts.specs.Parts.{Parts}
use Rattle.ocr_machine_parts.proofs.After.{accepted as accepted_code, of_kind, not_stale, not_missing, not_other, no_other}
use Rattle.ocr_machine_parts.proofs.Beside.{home_stays}
use Rattle.ocr_machine_parts.proofs.Fresh.{some_named}
use Rattle.ocr_machine_effects.specs.AtHand.{AtHand, state, IsAccepted, AreOthers, HasRoom, slots_meant}

code_done : (h : AtHand) (t home : ℕ) (c : body.Call) (a : Answer) (w : List (ℕ × ℕ)) → IsAccepted h t home c a w → code_of t (state h).face c ≡ code.Done
code_done h t home c a w accepted = sym accepted.legal.code ∙ accepted.done

-- a block that is destroyed was not, and a template that is destroyed is one
pub block_dooms : (h : AtHand) (t home d : ℕ) (a : Answer) (w : List (ℕ × ℕ)) → IsAccepted h t home (call.DbDestroy d) a w → IsDooming (state h) t d
block_dooms h t home d a w accepted = accepted.legal.value.0 (ap is_done accepted.done)

pub block_live : (h : AtHand) (t home d : ℕ) (a : Answer) (w : List (ℕ × ℕ)) → IsAccepted h t home (call.DbDestroy d) a w → is_destroyed ((state h).face d) ≡ false
block_live h t home d a w accepted = no_other (is_destroyed ((state h).face d)) (not_stale t (state h).face (call.DbDestroy d) (code_done h t home (call.DbDestroy d) a w accepted))

pub template_there : (h : AtHand) (t home x : ℕ) (a : Answer) (w : List (ℕ × ℕ)) → IsAccepted h t home (call.TemplateDestroy x) a w → is_template ((state h).face x) ≡ true
template_there h t home x a w accepted = not_other (is_template ((state h).face x)) (of_kind t (state h).face (call.TemplateDestroy x) (code_done h t home (call.TemplateDestroy x) a w accepted))

pub event_there : (h : AtHand) (t home x : ℕ) (a : Answer) (w : List (ℕ × ℕ)) → IsAccepted h t home (call.EventDestroy x) a w → is_event ((state h).face x) ≡ true
event_there h t home x a w accepted = not_other (is_event ((state h).face x)) (of_kind t (state h).face (call.EventDestroy x) (code_done h t home (call.EventDestroy x) a w accepted))

-- an EDT is made of a template, with so many slots, and dependences for some of them
record AreFew (deps : List ℕ) (n : ℕ) : Type 0 where
  pub given : length deps ≤ n
  pub most : n ≤ 32

counted : (t : Template) (pc : ℕ) (params : List ℕ) (dc : ℕ) (deps : List ℕ) (flags : ℕ) → counted_code (counts_of t pc dc) params deps flags ≡ code.Done → AreFew deps (count_meant t.depc dc)
counted t pc params dc deps flags is = record { given = grind (arith, common_steps); most = grind (arith, common_steps) }

from_template : (x : Part) (pc : ℕ) (params : List ℕ) (dc : ℕ) (deps : List ℕ) (flags : ℕ) → creation_code x pc params dc deps flags ≡ code.Done → AreFew deps (slots_meant x dc)
from_template (part.Template t) pc params dc deps flags is = counted t pc params dc deps flags is
from_template other pc params dc deps flags is = cc is

few : (h : AtHand) (t home from pc : ℕ) (ps : List ℕ) (dc : ℕ) (ds : List ℕ) (fl : ℕ) (o : Bool) (a : Answer) (w : List (ℕ × ℕ)) → IsAccepted h t home (call.EdtCreate from pc ps dc ds fl o) a w → AreFew ds (slots_meant ((state h).face from) dc)
few h t home from pc ps dc ds fl o a w accepted = from_template ((state h).face from) pc ps dc ds fl (accepted_code t (state h).face (call.EdtCreate from pc ps dc ds fl o) (code_done h t home (call.EdtCreate from pc ps dc ds fl o) a w accepted))

pub slots_most : (h : AtHand) (t home from pc : ℕ) (ps : List ℕ) (dc : ℕ) (ds : List ℕ) (fl : ℕ) (o : Bool) (a : Answer) (w : List (ℕ × ℕ)) → IsAccepted h t home (call.EdtCreate from pc ps dc ds fl o) a w → slots_meant ((state h).face from) dc ≤ 32
slots_most h t home from pc ps dc ds fl o a w accepted = (few h t home from pc ps dc ds fl o a w accepted).most

pub deps_given : (h : AtHand) (t home from pc : ℕ) (ps : List ℕ) (dc : ℕ) (ds : List ℕ) (fl : ℕ) (o : Bool) (a : Answer) (w : List (ℕ × ℕ)) → IsAccepted h t home (call.EdtCreate from pc ps dc ds fl o) a w
    → length ds ≤ slots_meant ((state h).face from) dc
deps_given h t home from pc ps dc ds fl o a w accepted = (few h t home from pc ps dc ds fl o a w accepted).given

-- what is named as a dependence is there, and what is made was not
not_vacant : (f : ℕ → Part) (g d : ℕ) → f g ≡ part.Vacant → is_vacant (f d) ≡ false → (g == d) ≡ false
not_vacant f g d vacant there = elim (g == d) as (λ b. (g == d) ≡ b → b ≡ false) [
  | true ↦ λ same. let here : f d ≡ part.Vacant = ap f (sym (eqb-true g d same)) ∙ vacant in cc (sym there ∙ ap is_vacant here)
  | false ↦ λ _. refl
] refl

others : (f : ℕ → Part) (g : ℕ) (ds : List ℕ) → f g ≡ part.Vacant → is_any is_missing f (wanted_sources ds) ≡ false → AreOthers g ds
others f g [] vacant are = tt
others f g (d ∷ rest) vacant are = elim (is_object d) as (λ b. is_any is_missing f (if b then (d, Source) ∷ wanted_sources rest else wanted_sources rest) ≡ false → (b ≡ true → (g == d) ≡ false) × AreOthers g rest) [
  | true ↦ λ is. (λ _. not_vacant f g d vacant (or_parts (is_vacant (f d)) _ is).0, others f g rest vacant (or_parts (is_vacant (f d)) _ is).1)
  | false ↦ λ is. (λ wrong. cc wrong, others f g rest vacant is)
] are

-- nothing has the numbers of its scope and its output event, where it has them, nor the number 0
beside_vacant : (on : Bool) (limit : ℕ) (f : Parts) (other n : ℕ) → f.face 0 ≡ part.Vacant → IsBeside on limit f other n → f.face n ≡ part.Vacant
beside_vacant true limit f other n none beside = beside.0.vacant
beside_vacant false limit f other n none beside = ap f.face beside ∙ none

pub room : (h : AtHand) (t home from pc : ℕ) (ps : List ℕ) (dc : ℕ) (ds : List ℕ) (fl : ℕ) (o : Bool) (a : Answer) (w : List (ℕ × ℕ)) → IsAccepted h t home (call.EdtCreate from pc ps dc ds fl o) a w → HasRoom h a ds
room h t home from pc ps dc ds fl o a w accepted =
    let f : ℕ → Part = (state h).face in
    let there : is_any is_missing f (wanted_sources ds) ≡ false = (or_parts (is_vacant (f from)) _ (not_missing t f (call.EdtCreate from pc ps dc ds fl o) (code_done h t home (call.EdtCreate from pc ps dc ds fl o) a w accepted))).1 in
    record {
      face = accepted.made.face refl;
      core = accepted.made.core refl;
      scope = accepted.made.scope refl;
      output = accepted.made.output refl;
      others = others f a.value ds (accepted.legal.value.named.fresh (ap is_done accepted.done)).vacant there;
      not_scope = others f a.scope ds (beside_vacant (is_done a.code && (fl == 1)) h.limit (state h) a.value a.scope refl accepted.legal.scope) there;
      not_output = others f a.output ds (beside_vacant (is_done a.code && o) h.limit (state h) (last_of a) a.output refl accepted.legal.output) there;
    }

-- the home that it joins is its maker's
pub own_home : (h : AtHand) (t home from pc : ℕ) (ps : List ℕ) (dc : ℕ) (ds : List ℕ) (fl : ℕ) (o : Bool) (a : Answer) (w : List (ℕ × ℕ)) → IsAccepted h t home (call.EdtCreate from pc ps dc ds fl o) a w → home ≡ home_on ((state h).core t)
own_home h t home from pc ps dc ds fl o a w accepted = accepted.legal.at_home.own

-- and takes one member more, also once it is made
pub joinable : (h : AtHand) (t home : ℕ) (c : body.Call) (a : Answer) (w : List (ℕ × ℕ)) → IsAccepted h t home c a w → joins c home home ≡ true → IsJoinable ((called t c a w (state h)).face home)
joinable h t home (call.EdtCreate from pc ps dc ds fl o) a w accepted on =
    let done : is_done a.code ≡ true = ap is_done accepted.done in
    let some : (home == 0) ≡ false = some_named home home on in
    subst IsJoinable (sym (home_stays h.limit (state h) t home from pc dc fl ps ds o a w accepted.legal done some)) (accepted.legal.at_home.joinable done some)
joinable h t home other a w accepted on = cc on
