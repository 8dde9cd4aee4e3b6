-- The machine obeys the laws of the table.
use Rattle.std.proofs.Common.{◌≡◌, ℕ, ◌+◌, ◌/◌, ◌≤◌, List, [], ◌∷◌, ◌++◌, length, reverse, Bool, true, false, ◌==◌, ◌||◌, if◌then◌else◌, refl, sym, ◌∙◌, ap, subst, arith}
use Rattle.std.proofs.lemmas.Bool.{eqb-true, false_from_ne_true}
use Rattle.std.proofs.lemmas.List.{reverse-append, reverse-reverse}
use Rattle.ocr_body_code.specs.Checked.{checked_tree}
use Rattle.ocr_body_meaning.specs.Behaviour.{Asks, Behaviour, Ends, IsNextWith, Stops}
use Rattle.ocr_body_meaning.specs.Body.{says}
use Rattle.ocr_body_meaning.specs.Holds.{is_done}
use Rattle.ocr_body_meaning.specs.Laws.{IsServed, MakesOnly}
use Rattle.ocr_body_meaning.specs.declared.call.Call as body
use Rattle.ocr_body_meaning.specs.declared.call.Call.TheVariants as call
use Rattle.ocr_body_meaning.specs.declared.call.Answer.{Answer}
use Rattle.ocr_body_meaning.proofs.Makes.{served_law}
use Rattle.ocr_machine_history.specs.declared.entry.Entry.{Entry}
use Rattle.ocr_machine_history.specs.declared.entry.Entry.TheVariants.{Call, Deliver, Acquire, Wait, StaleAcquire, Start, Free, End, Stop}
use Rattle.ocr_machine_history.specs.History.{History, own}
use Rattle.ocr_machine_history.specs.Weight.{call_weight, weight_of}
use Rattle.ocr_machine_parts.specs.Bodies.{body_of}
use Rattle.ocr_machine_parts.specs.Calls.{is_object}
use Rattle.ocr_machine_parts.specs.Codes.{ABlock, Source, Sort, wanted, wanted_payload, wanted_source, wanted_sources}
use Rattle.ocr_machine_parts.specs.Footprint.{footprint_of, is_touched}
use Rattle.ocr_machine_parts.specs.Legal.{IsLegal, is_stop}
use Rattle.ocr_machine_parts.specs.Parts.{parts_of}
use Rattle.ocr_machine_parts.specs.Taken.{place_of}
use Rattle.ocr_machine_laws.specs.Permanence.{has_own, is_own}
use Rattle.ocr_machine_laws.proofs.Kept.{own_core_law, untouched_law}
use Rattle.ocr_machine_laws.proofs.Own.{no_own_law}
use Rattle.ocr_turns_rule.specs.Meaning.{ArePlaces, IsBare, IsNewNumber, Lawful, Run}
use Rattle.ocr_turns_rule.specs.Sums.{made_sum, one_at, picked, sum_of, up_to}
use Rattle.ocr_turns_rule.proofs.Totals.{picked_append}
use Rattle.ocr_worker_machine.specs.Facts.{Stands}
use Rattle.ocr_worker_machine.specs.Ocr.{MayFollow, core_place, makes, meaning, part_of, setting_in, stands, starts, touches}
use Rattle.ocr_worker_machine.specs.declared.fact.Fact.{Fact}
use Rattle.ocr_worker_machine.specs.declared.setting.Setting.{Setting}
use Rattle.ocr_worker_machine.proofs.Permanence.{stands_later}
use Rattle.ocr_worker_machine.proofs.Makes.{free_before, makes_new, makes_once, unmade_sum}
use Rattle.ocr_worker_machine.proofs.Places.{call_few, message_few, named_place, one_few, places_differ, places_good, two_few, within_is}
use Rattle.ocr_worker_machine.proofs.Runs.{reverse_snoc, run_is}

-- WEIGHTS
call_weighs : (c : body.Call) (a : Answer) → 1 ≤ call_weight c a
call_weighs (call.DbCreate n fl) a = elim (is_done a.code) as (λ b. 1 ≤ (if b then 1 + n / 8 / 16 else 1)) [ true ↦ omega arith | false ↦ omega arith ]
call_weighs other a = omega arith

weighs : (e : Entry) → is_stop e ≡ false → 1 ≤ weight_of e
weighs (Call u home c a w) is = let one = call_weighs c a in omega (arith, one)
weighs (Free u d w) is = omega arith
weighs (Stop why) is = cc is
weighs other is = omega arith

bare : (e : Entry) → is_stop e ≡ true → IsBare meaning e
bare (Stop why) is = record {
  delivers = refl;
  makes = refl;
  touches = λ limit p. refl;
  runs = λ t. refl;
  ends = λ t. refl;
  sends = λ g limit J. refl;
  weightless = refl;
  creates = λ g limit J. refl;
  sets = refl;
  waits = λ t. refl;
  resumes = λ g limit J. refl;
}
bare other is = cc is

-- FACTS AND PARTS
lasting : (g : Setting) (limit : ℕ) (J : List Entry) (e : Entry) (f : Fact) → Run (MayFollow g limit) J → MayFollow g limit J e → stands g limit J f → stands g limit (J ++ e ∷ []) f
unfolding stands
lasting g limit J e f run may st = subst (λ (K : History). Stands (setting_in g limit) K f) (sym (reverse_snoc J e)) (stands_later (setting_in g limit) (reverse J) e f (run_is g limit J run) may.legal st)

untouched : (limit : ℕ) (e : Entry) (p : ℕ) → touches limit e p ≡ 0 → is_touched limit e p ≡ false
untouched limit e p none = false_from_ne_true (is_touched limit e p) (λ on. let some = named_place limit e p on in omega (arith, some, none))

local : (g : Setting) (limit : ℕ) (J : List Entry) (e : Entry) (p : ℕ) → 2 ≤ limit → Run (MayFollow g limit) J → MayFollow g limit J e → touches limit e p ≡ 0 → part_of g limit (J ++ e ∷ []) p ≡ part_of g limit J p
unfolding part_of
local g limit J e p enough run may none =
    ap (λ (K : History). place_of limit (parts_of (setting_in g limit) K) p) (reverse_snoc J e) ∙ untouched_law (setting_in g limit) (reverse J) e p enough (run_is g limit J run) may.legal (untouched limit e p none)

on_core : (g : Setting) (limit : ℕ) (J : List Entry) (e : Entry) (t : ℕ) → 2 ≤ limit → Run (MayFollow g limit) J → MayFollow g limit J e → is_own e t ≡ true → 1 ≤ touches limit e (core_place limit t)
on_core g limit J e t enough run may is = named_place limit e (limit + t) (own_core_law (setting_in g limit) (reverse J) e t enough (run_is g limit J run) may.legal is)

-- OWN ENTRIES
pub none_picked : (past : History) (t : ℕ) → has_own past t ≡ false → picked (λ e. is_own e t) (reverse past) ≡ []
none_picked [] t is = refl
none_picked (e ∷ past) t is = elim (is_own e t) as (λ b. is_own e t ≡ b → (b || has_own past t) ≡ false → picked (λ x. is_own x t) (reverse (e ∷ past)) ≡ []) [
  | true ↦ λ _ wrong. cc wrong
  | false ↦ λ off later. ap (picked (λ x. is_own x t)) (reverse-append (e ∷ []) past) ∙ (picked_append (λ x. is_own x t) (reverse past) (e ∷ []) ∙ rw (none_picked past t later, off) refl)
] refl is

start_is : (e : Entry) (t : ℕ) → starts e t ≡ true → e ≡ Start t
start_is (Start u) t is = ap Start (eqb-true u t is)
start_is other t is = cc is

first : (g : Setting) (limit : ℕ) (J : List Entry) (e : Entry) (t : ℕ) → Run (MayFollow g limit) J → MayFollow g limit J e → starts e t ≡ true → picked (λ x. is_own x t) J ≡ []
first g limit J e t run may is =
    let none = no_own_law (setting_in g limit) (reverse J) t (run_is g limit J run) (subst (λ (x : Entry). IsLegal (setting_in g limit) (reverse J) x) (start_is e t is) may.legal) in
    subst (λ (K : List Entry). picked (λ x. is_own x t) K ≡ []) (reverse-reverse J) (none_picked (reverse J) t none)

starting : (e : Entry) (t : ℕ) → starts e t ≡ true → is_own e t ≡ true
starting (Start u) t is = is
starting other t is = cc is

-- PLACES. A call that a body says has short lists
pub sources_few : (ds : List ℕ) → length (wanted_sources ds) ≤ length ds
sources_few [] = omega arith
sources_few (d ∷ rest) = elim (is_object d) as (λ b. length (if b then (d, Source) ∷ wanted_sources rest else wanted_sources rest) ≤ length (d ∷ rest)) [
  | true ↦ let r = sources_few rest in omega (arith, r)
  | false ↦ let r = sources_few rest in omega (arith, r)
]

abbrev source_if : Bool → ℕ → List (ℕ × Sort)
source_if b d = if b then [] else (d, Source) ∷ []

pub source_few : (d : ℕ) → length (wanted_source d) ≤ 1
source_few d = elim (d == 0) as (λ b. length (source_if b d) ≤ 1) [ true ↦ omega arith | false ↦ omega arith ]

abbrev payload_if : Bool → ℕ → List (ℕ × Sort)
payload_if b p = if b then [] else (p, ABlock) ∷ []

pub payload_few : (p : ℕ) → length (wanted_payload p) ≤ 1
payload_few p = elim (p == 0) as (λ b. length (payload_if b p) ≤ 1) [ true ↦ omega arith | false ↦ omega arith ]

pub wanted_few : (functions : ℕ) (c : body.Call) → IsServed functions c → length (wanted c) ≤ 33
wanted_few functions (call.EdtCreate from pc ps dc ds fl o) served = let few = sources_few ds in let short = served.1 in omega (arith, few, short)
wanted_few functions (call.AddDependence from x i m) served = let one = source_few from in omega (arith, one)
wanted_few functions (call.Satisfy e p slot) served = let one = payload_few p in omega (arith, one)
wanted_few functions (call.DbRelease d) served = omega arith
wanted_few functions (call.DbDestroy d) served = omega arith
wanted_few functions (call.Load d k) served = omega arith
wanted_few functions (call.Store d k v) served = omega arith
wanted_few functions (call.TemplateDestroy x) served = omega arith
wanted_few functions other served = omega arith

pub asked_call : (IsSuch : body.Call → Type 0) (b : Behaviour) (c : body.Call) (private : List (ℕ × ℕ)) → MakesOnly IsSuch b → IsNextWith c private b → IsSuch c
asked_call IsSuch (Ends g holds) c private only next = absurd next
asked_call IsSuch (Stops why) c private only next = absurd next
asked_call IsSuch (Asks call writes go) c private only next = subst IsSuch next.0 only.0

call_served : (g : Setting) (limit : ℕ) (J : List Entry) (u home : ℕ) (c : body.Call) (a : Answer) (w : List (ℕ × ℕ)) → MayFollow g limit J (Call u home c a w) → IsServed (length (checked_tree g.program)) c
call_served g limit J u home c a w may =
    let s = setting_in g limit in
    let said = may.legal.said in
    asked_call (IsServed (length (checked_tree g.program))) (says (body_of s (reverse J) u) (own (reverse J) u)) c said.0
    (served_law (body_of s (reverse J) u) (own (reverse J) u) may.runnable.named may.runnable.short) said.1

few : (g : Setting) (limit : ℕ) (J : List Entry) (e : Entry) → MayFollow g limit J e → length (footprint_of limit e) ≤ 40
few g limit J (Call u home c a w) may = let r = call_few limit u home c a (wanted_few (length (checked_tree g.program)) c (call_served g limit J u home c a w may)) in omega (arith, r)
few g limit J (Deliver m c) may = let r = message_few limit m.what in omega (arith, r)
few g limit J (Acquire t d) may = let r = two_few limit t d in omega (arith, r)
few g limit J (Wait t d) may = let r = two_few limit t d in omega (arith, r)
few g limit J (StaleAcquire t d) may = let r = two_few limit t d in omega (arith, r)
few g limit J (Start t) may = let r = one_few limit t t in omega (arith, r)
few g limit J (Free t d w) may = let r = one_few limit t d in omega (arith, r)
few g limit J (End t x) may = let r = one_few limit t x in omega (arith, r)
few g limit J other may = omega arith

places : (g : Setting) (limit : ℕ) (J : List Entry) (e : Entry) → 2 ≤ limit → Run (MayFollow g limit) J → MayFollow g limit J e → ArePlaces limit (touches limit e)
places g limit J e enough run may = record {
  all = footprint_of limit e;
  those = λ p. refl;
  differ = places_differ limit e;
  range = (places_good limit e).range;
  few = few g limit J e may;
}

-- NUMBERS
abbrev up_to_made : List Entry → ℕ → ℕ
up_to_made J n = up_to (one_at n) 2 + made_sum makes (one_at n) J

making : (g : Setting) (limit : ℕ) (J : List Entry) (e : Entry) (n : ℕ) → 2 ≤ limit → Run (MayFollow g limit) J → MayFollow g limit J e → 1 ≤ sum_of (one_at n) (makes e) → IsNewNumber meaning limit J e n
making g limit J (Call u home c a w) n enough run may some =
    let s = setting_in g limit in
    let free = free_before s (reverse J) u home c a w n may.legal (makes_new u home c a w n some) in
    let unmade = unmade_sum s (reverse J) n (run_is g limit J run) free.0 in
    record {
      once = makes_once limit (parts_of s (reverse J)) u home c a w n may.legal.on_parts some;
      range = within_is limit n free.1;
      unmade = subst (λ (K : List Entry). up_to_made K n ≡ 0) (reverse-reverse J) unmade;
    }
making g limit J other n enough run may some = absurd (omega (arith, some))

pub lawful : Lawful meaning
lawful = record {
  weighs = weighs;
  bare = bare;
  lasting = lasting;
  local = local;
  on_core = on_core;
  first = first;
  places = places;
  making = making;
  starting = starting;
}
