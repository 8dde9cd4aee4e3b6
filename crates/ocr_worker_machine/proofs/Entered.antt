-- An entry that is legal on the parts that a clerk has at hand is legal after every history that fits its view.
use Rattle.std.proofs.Common.{◌≡◌, ℕ, zero, suc, ◌≤◌, Bool, true, false, ◌==◌, ◌||◌, if◌then◌else◌, List, [], ◌∷◌, ◌++◌, reverse, Option, Some, None, refl, ap, sym, ◌∙◌, subst, arith}
use Rattle.std.proofs.lemmas.Grind.{common_steps}
use Rattle.std.proofs.lemmas.Bool.{eqb-true, or_parts, and_from, or_left, not-false, true_from_ne_false, cond-true}
use Rattle.std.proofs.lemmas.List.{reverse-append}
use Rattle.ocr_base.proofs.Booleans.{same as number_same}
use Rattle.ocr_guid.specs.Target.{EventCall}
use mathlib.Core.Option.{some, some-injective, some-ne-none}
use lib.ListN.{get_elem?}
use Rattle.ocr_guid.specs.declared.Code.TheVariants as code
use Rattle.ocr_slots.specs.Slots as slot
use Rattle.ocr_datablock.specs.Block as block
use Rattle.ocr_body_meaning.specs.Holds.{is_done}
use Rattle.ocr_body_meaning.specs.declared.call.Call as body
use Rattle.ocr_body_meaning.specs.declared.call.Call.TheVariants as call
use Rattle.ocr_machine_history.specs.declared.entry.Entry.{Entry}
use Rattle.ocr_machine_history.specs.declared.entry.Entry.TheVariants.{Call, Free, Stop}
use Rattle.ocr_machine_history.specs.History.{History, is_stopped}
use Rattle.ocr_machine_history.specs.History as history
use Rattle.ocr_machine_history.specs.Made.{Made, MadeTemplate, depc_in, edt_from, made, made_beside, makes}
use Rattle.ocr_machine_parts.specs.declared.part.Part.{Part}
use Rattle.ocr_machine_parts.specs.declared.part.Part.TheVariants as part
use Rattle.ocr_machine_parts.specs.Calls.{block_calls, depc_of, event_calls, link_calls, scope_calls}
use Rattle.ocr_machine_parts.specs.Codes.{ATemplate, is_of_other_kind}
use Rattle.ocr_machine_parts.specs.Effects.{settled_parts}
use Rattle.ocr_machine_parts.specs.Footprint.{Covers, is_touched, on_face}
use Rattle.ocr_machine_parts.specs.Kinds.{is_template}
use Rattle.ocr_machine_parts.specs.Legal.{IsLegal, IsRun, is_stop, IsStopping}
use Rattle.ocr_machine_parts.specs.Messages.{resumes}
use Rattle.ocr_machine_parts.specs.Parts.{Parts, face, parts_of}
use Rattle.ocr_machine_parts.specs.Taken.{ArePartsOf, as_face, has, is_within, keys, look, parts_in, place_of, seen}
use Rattle.ocr_machine_parts.proofs.After.{done_is}
use Rattle.ocr_machine_parts.proofs.Local.{call_named, effect_law}
use Rattle.ocr_machine_parts.proofs.Within.{within_law}
use Rattle.ocr_machine_laws.proofs.Choices.{done_kinds}
use Rattle.ocr_machine_laws.specs.Kept.{AreKept}
use Rattle.ocr_machine_laws.proofs.Kept.{after_kept_law, alike_kept, kept_law}
use Rattle.ocr_turns_rule.specs.Meaning.{Open}
use Rattle.ocr_turns_rule.specs.Debts.{listed}
use Rattle.ocr_turns_rule.specs.Rule.{Fits, PartsOf}
use Rattle.ocr_turns_rule.specs.Sums.{one_at, picked, weigh}
use Rattle.ocr_turns_rule.proofs.Totals.{picked_append, picked_none, weigh_at}
use Rattle.ocr_worker_machine.specs.Clerks.{EntryLaw, OcrTerms, OcrView, of_terms}
use Rattle.ocr_worker_machine.specs.Ocr.{MayFollow, counts, creates, meaning, part_of, slots_meant}
use Rattle.ocr_worker_machine.proofs.Runs.{reverse_snoc, run_is}
use Rattle.ocr_worker_machine.proofs.Sends.{readied_sends, settled_sends}
use Rattle.ocr_finish.specs.Scope.{ScopeCall}

-- LISTS OF PARTS
pub look_at : (ps : List (ℕ × Part)) (n : ℕ) → has ps n ≡ true → (k : ℕ) × (get_elem? ps k ≡ some (n, look ps n))
look_at [] n is = cc is
look_at (p ∷ rest) n is = elim (p.0 == n) as (λ b. (p.0 == n) ≡ b → (b || has rest n) ≡ true → (k : ℕ) × (get_elem? (p ∷ rest) k ≡ some (n, (if b then p.1 else look rest n)))) [
  | true ↦ λ same on. (0, ap (λ (k : ℕ). some (k, p.1)) (eqb-true p.0 n same))
  | false ↦ λ apart on. let r = look_at rest n on in (suc r.0, r.1)
] refl is

at_look : (ps : List (ℕ × Part)) (k n : ℕ) (x : Part) → weigh (one_at n) ps ≤ 1 → get_elem? ps k ≡ some (n, x) → (has ps n ≡ true) × (look ps n ≡ x)
at_look [] k n x most at = absurd (some-ne-none (n, x) (sym at))
at_look (p ∷ rest) zero n x most at =
    let is : p ≡ (n, x) = some-injective p (n, x) at in
    let same : (p.0 == n) ≡ true = ap (λ (q : ℕ × Part). q.0 == n) is ∙ number_same n in
    (rw same refl, rw same (ap (λ (q : ℕ × Part). q.1) is))
at_look (p ∷ rest) (suc k) n x most at =
    let later = weigh_at rest k n x at in
    let r = at_look rest k n x (omega (arith, most)) at in
    elim (p.0 == n) as (λ b. (p.0 == n) ≡ b → ((b || has rest n) ≡ true) × ((if b then p.1 else look rest n) ≡ x)) [
      | true ↦ λ same. let one : one_at n p.0 ≡ 1 = twice p.0 n same in absurd (omega (arith, one, later, most))
      | false ↦ λ apart. r
    ] refl
  where
    twice : (m n : ℕ) → (m == n) ≡ true → one_at n m ≡ 1
    twice m n is = grind (arith, common_steps)

weigh_keys : (f : ℕ → ℕ) (ps qs : List (ℕ × Part)) → keys ps ≡ keys qs → weigh f ps ≡ weigh f qs
weigh_keys f [] [] is = refl
weigh_keys f [] (q ∷ qs) is = cc is
weigh_keys f (p ∷ ps) [] is = cc is
weigh_keys f (p ∷ ps) (q ∷ qs) is = let h : p.0 ≡ q.0 = cc is in let t : keys ps ≡ keys qs = cc is in let r = weigh_keys f ps qs t in let e = ap f h in omega (arith, r, e)

are_parts : (limit : ℕ) (f : Parts) (ps : List (ℕ × Part)) → PartsOf (seen limit) (place_of limit f) ps → ArePartsOf limit f ps
are_parts limit f ps is = λ n here. let at = look_at ps n here in is at.0 n (look ps n) at.1

parts_are : (limit : ℕ) (f : Parts) (ps : List (ℕ × Part)) → ((n : ℕ) → weigh (one_at n) ps ≤ 1) → ArePartsOf limit f ps → PartsOf (seen limit) (place_of limit f) ps
parts_are limit f ps distinct are = λ k n x at. let l = at_look ps k n x (distinct n) at in are n l.0 ∙ ap (seen limit n) l.1

pub fitting_parts : (t : OcrTerms) (J : List Entry) (v : OcrView) → Fits meaning t J v → ArePartsOf t.limit (parts_of (of_terms t) (reverse J)) v.parts
unfolding part_of
fitting_parts t J v fits = are_parts t.limit (parts_of (of_terms t) (reverse J)) v.parts fits.parts

-- OPEN HISTORIES
picked_reverse : (test : Entry → Bool) (xs : List Entry) → picked test xs ≡ [] → picked test (reverse xs) ≡ []
picked_reverse test [] none = refl
picked_reverse test (x ∷ xs) none =
    ap (picked test) (reverse-append (x ∷ []) xs) ∙ (picked_append test (reverse xs) (x ∷ [])
    ∙ elim (test x) as (λ b. (if b then x ∷ picked test xs else picked test xs) ≡ [] → picked test (reverse xs) ++ (if b then x ∷ [] else []) ≡ []) [
      | true ↦ λ wrong. cc wrong
      | false ↦ λ rest. ap (λ (l : List Entry). l ++ []) (picked_reverse test xs rest)
    ] none)

not_stopped : (past : History) → picked is_stop past ≡ [] → is_stopped past ≡ false
not_stopped [] is = refl
not_stopped (Stop why ∷ past) is = cc is
not_stopped (other ∷ past) is = not_stopped past is

pub goes_on : (J : List Entry) → Open is_stop J → is_stopped (reverse J) ≡ false
goes_on J open_run = not_stopped (reverse J) (picked_reverse is_stop J (picked_none is_stop J open_run))

no_stopping : (s : history.Setting) (past : History) (e : Entry) → is_stop e ≡ false → IsStopping s past e
no_stopping s past (Stop why) is = cc is
no_stopping s past other is = tt

-- WHAT THE RESUMED rest on
pub settled_resumes : (e : Entry) (f : Parts) → resumes e (settled_parts f) ≡ resumes e f
settled_resumes (Call t home c a w) f = call_same c
  where
    call_same : (c : body.Call) → resumes (Call t home c a w) (settled_parts f) ≡ resumes (Call t home c a w) f
    call_same (call.DbRelease d) = refl
    call_same (call.DbDestroy d) = refl
    call_same other = refl
settled_resumes (Free t d w) f = refl
settled_resumes other f = refl

-- THE SLOTS of an EDT that is made, by its template's face
face_slots : (m : Option Made) (links : List slot.SlotCall) (blocks : List block.BlockCall) (events : List EventCall) (scopes : List ScopeCall) (ps : List ℕ) (dc : ℕ) → is_template (face m links blocks events scopes) ≡ true → depc_in (edt_from m ps dc) ≡ slots_meant (face m links blocks events scopes) dc
face_slots (Some (MadeTemplate f pc own)) links blocks events scopes ps dc is = refl
face_slots other links blocks events scopes ps dc is = cc is

seen_slots : (x : Part) (dc : ℕ) → slots_meant (as_face x) dc ≡ slots_meant x dc
seen_slots (part.Core c) dc = refl
seen_slots other dc = refl

template_there : (x : Part) → is_template x ≡ true → x ≡ part.Vacant → ⊥
template_there part.Vacant is none = cc is
template_there other is none = let off : is_template other ≡ false = ap is_template none in cc (is, off)

abbrev if_done : Bool → ℕ → ℕ → Option (ℕ × ℕ)
if_done b v d = if b then Some (v, d) else None

same_count : (b : Bool) (v c d : ℕ) → (b ≡ true → c ≡ d) → if_done b v c ≡ if_done b v d
same_count true v c d same = ap (λ (k : ℕ). Some (v, k)) (same refl)
same_count false v c d same = refl

counts_are : (t : OcrTerms) (J : List Entry) (e : Entry) (ps : List (ℕ × Part)) → 2 ≤ t.limit → IsRun (of_terms t) (reverse J) → IsLegal (of_terms t) (reverse J) e → Covers t.limit e ps → ArePartsOf t.limit (parts_of (of_terms t) (reverse J)) ps
    → creates t.setting.value t.limit J e ≡ counts t.limit e ps
counts_are t J (Call u home (call.EdtCreate from pc ps dc ds fl o) a w) kept enough run legal covers are =
    let s = of_terms t in let past = reverse J in let f = parts_of s past in let e : Entry = Call u home (call.EdtCreate from pc ps dc ds fl o) a w in
    same_count (is_done a.code) a.value (depc_of s (e ∷ past) a.value) (slots_meant (look kept from) dc) (λ done.
    let is_code : a.code ≡ code.Done = done_is a.code done in
    let kinds = done_kinds u f.face (call.EdtCreate from pc ps dc ds fl o) (sym legal.on_parts.code ∙ is_code) in
    let template : is_template (f.face from) ≡ true = not-false _ (or_parts (is_of_other_kind ATemplate (f.face from)) _ kinds).0 in
    let inside : is_within t.limit from ≡ true = true_from_ne_false (is_within t.limit from) (λ off. template_there (f.face from) template ((within_law s past enough run).faces from off)) in
    let named : on_face e from ≡ true = call_named u home (call.EdtCreate from pc ps dc ds fl o) a w from (or_left _ _ (or_left (from == from) _ (number_same from))) in
    let touched : is_touched t.limit e from ≡ true = rw inside named in
    let here = are from (covers from touched) in
    let seen_face : f.face from ≡ as_face (look kept from) = rw inside at here in
    let made_v : makes a a.value ≡ true = and_from (is_done a.code) (a.value == a.value) done (number_same a.value) in
    ap depc_in (cond-true (makes a a.value) (edt_from (made s past from) ps dc) (made_beside a home a.value (made s past a.value)) made_v)
    ∙ (face_slots (made s past from) (link_calls past from) (block_calls s past from) (event_calls s past from) (scope_calls past from) ps dc template
    ∙ (ap (λ (x : Part). slots_meant x dc) seen_face ∙ seen_slots (look kept from) dc)))
counts_are t J (Call u home other a w) kept enough run legal covers are = refl
counts_are t J other kept enough run legal covers are = refl

-- THE LAW
pub entry_law : EntryLaw
unfolding part_of
entry_law t v e members hand later sent no_stop may step = λ J open_run fits.
    let limit = t.limit in let s = of_terms t in let past = reverse J in let f = parts_of s past in
    let run : IsRun s past = run_is t.setting.value limit J fits.run in
    let kept : ArePartsOf limit f v.parts = fitting_parts t J v fits in
    let at_hand : ArePartsOf limit f hand = λ n here. kept n (may.at_hand.there n here) ∙ sym (may.at_hand.alike n here) in
    let are : AreKept s past e hand members = record { enough = fits.limits; run = run; covers = may.covers; parts = at_hand; plan = may.plans J open_run fits } in
    let legal : IsLegal s past e = record {
      open_run = goes_on J open_run;
      on_parts = kept_law s past e hand members are may.on_hand;
      on_facts = may.set J open_run fits;
      said = may.says J open_run fits;
      stopping = no_stopping s past e no_stop;
    } in
    let follows : MayFollow t.setting.value limit J e = record { legal = legal; runnable = may.runnable } in
    let after = after_kept_law s past e hand later members are legal step.parts step.same_keys in
    let covers : Covers limit e v.parts = λ n on. may.at_hand.there n (may.covers n on) in
    let alike = alike_kept limit e f v.parts (within_law s past fits.limits run) covers kept in
    let hand_alike = alike_kept limit e f hand (within_law s past fits.limits run) may.covers at_hand in
    record {
      legal = follows;
      parts = parts_are limit (parts_of s (reverse (J ++ e ∷ []))) later (λ n. let w = weigh_keys (one_at n) later hand step.same_keys in let d = may.at_hand.once n in omega (arith, w, d))
          (subst (λ (K : History). ArePartsOf limit (parts_of s K) later) (sym (reverse_snoc J e)) after);
      sends = (effect_law e f (settled_parts (parts_in limit hand)) hand_alike).1
          ∙ (settled_sends e (parts_in limit hand) ∙ (sym (readied_sends members e (parts_in limit hand)) ∙ sym step.sends_are));
      facts = may.told J open_run fits follows;
      wakes = (effect_law e f (settled_parts (parts_in limit v.parts)) alike).2 ∙ settled_resumes e (parts_in limit v.parts);
      counts = ap listed (counts_are t J e v.parts fits.limits run legal covers kept);
    }
