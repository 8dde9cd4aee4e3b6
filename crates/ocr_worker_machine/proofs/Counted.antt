-- The machine obeys the laws of the words that count.
use Rattle.std.proofs.Common.{◌≡◌, inl, inr, ℕ, ◌+◌, ◌<◌, ◌≤◌, List, [], ◌∷◌, reverse, Bool, true, false, ◌==◌, if◌then◌else◌, Option, Some, None, refl, sym, ◌∙◌, ap, subst, arith}
use Rattle.std.proofs.lemmas.Bool.{eqb-true, and_from, or_right, cond-true}
use Rattle.std.proofs.lemmas.List.{reverse-reverse}
use Rattle.std.proofs.lemmas.Option.{same_Some, some_pair_parts}
use Rattle.ocr_base.proofs.Booleans.{same as number_same}
use Rattle.ocr_guid.specs.declared.Code.{Code}
use Rattle.ocr_slots.specs.Slots as slot
use Rattle.ocr_body_meaning.specs.Holds.{is_done}
use Rattle.ocr_body_meaning.specs.declared.call.Call.TheVariants as call
use Rattle.ocr_machine_history.specs.declared.entry.Entry.{Entry}
use Rattle.ocr_machine_history.specs.declared.entry.Entry.TheVariants.{Call, Deliver, Wait, Start, Free, End}
use Rattle.ocr_machine_history.specs.declared.entry.Message.{Message}
use Rattle.ocr_machine_history.specs.declared.entry.What.{What}
use Rattle.ocr_machine_history.specs.declared.entry.What.TheVariants as what
use Rattle.ocr_machine_history.specs.declared.objects.TheConstants.{ARGUMENTS, MAIN_EDT}
use Rattle.ocr_machine_history.specs.History.{History}
use Rattle.ocr_machine_history.specs.Made.{depc_in, edt_from, is_edt, made, made_beside, makes}
use Rattle.ocr_machine_parts.specs.Calls.{depc_of, set_calls, set_step}
use Rattle.ocr_machine_parts.specs.Calls as calls
use Rattle.ocr_machine_parts.specs.Effects.{changed}
use Rattle.ocr_machine_parts.specs.Progress.{next_mode_on, readied_on}
use Rattle.ocr_machine_parts.specs.LegalOn.{IsRefused}
use Rattle.ocr_machine_parts.specs.Messages.{resumes}
use Rattle.ocr_machine_parts.specs.Parts.{parts_of}
use Rattle.ocr_machine_parts.specs.Taken.{is_within}
use Rattle.ocr_machine_parts.proofs.Within.{within_law}
use Rattle.ocr_machine_laws.proofs.Edts.{edts_law}
use Rattle.ocr_machine_laws.specs.Permanence.{is_own}
use Rattle.ocr_machine_laws.proofs.Once.{set_once_law}
use Rattle.ocr_turns_rule.specs.Counts.{CountingLaws, IsReady, MayCome, awaited, is_ended, is_in, is_started, payload_of, slots_of}
use Rattle.ocr_turns_rule.specs.Sums.{one_at, sum_of}
use Rattle.ocr_turns_rule.specs.declared.view.Terms.{Terms}
use Rattle.ocr_turns_rule.proofs.Totals.{one_here}
use Rattle.ocr_worker_machine.specs.Facts.{Stands}
use Rattle.ocr_worker_machine.specs.Ocr.{beside, creates, ends, meaning, resumed, set_by, sets, stands, starts, touches, waits}
use Rattle.ocr_worker_machine.specs.Ocr as ocr
use Rattle.ocr_worker_machine.specs.declared.fact.Fact.TheVariants.{IsSet}
use Rattle.ocr_worker_machine.specs.declared.setting.Setting.{Setting}
use Rattle.ocr_worker_machine.proofs.Awaits.{Effect, IsNamedBlock, block_within, entry_effect}
use Rattle.ocr_worker_machine.proofs.Makes.{few_slots}
use Rattle.ocr_worker_machine.proofs.Places.{named_place}
use Rattle.ocr_worker_machine.proofs.Runs.{Comes, comes, of_terms}
use Rattle.ocr_worker_machine.proofs.Slots.{depc_edt, edt_slots, payload_is, slots_are}
use Rattle.ocr_worker_machine.proofs.Waits.{ready, resumed_is, running, waits_is}

-- THE OPENING
first_set : (t : Terms Setting) → stands t.setting.value t.limit [] (IsSet MAIN_EDT 0 ARGUMENTS)
unfolding stands
first_set t = record { made = refl; payload = refl }

-- WHAT IS MADE
abbrev pair_if : Bool → ℕ → ℕ → Option (ℕ × ℕ)
pair_if b v D = if b then Some (v, D) else None

pair_is : (b : Bool) (v D n d : ℕ) → pair_if b v D ≡ Some (n, d) → (b ≡ true) × (v ≡ n) × (D ≡ d)
pair_is true v D n d is = let same = some_pair_parts v n D d is in (refl, same.0, same.1)
pair_is false v D n d is = cc is

creating : (t : Terms Setting) (past : List Entry) (e : Entry) (n d : ℕ) → MayCome meaning t past e → creates t.setting.value t.limit (reverse past) e ≡ Some (n, d) → (1 ≤ sum_of (one_at n) (ocr.makes e)) × (d ≤ 32)
creating t past (Call u home (call.EdtCreate from pc ps dc ds fl o) a w) n d may is =
    let s = of_terms t in let e : Entry = Call u home (call.EdtCreate from pc ps dc ds fl o) a w in
    let c = comes t past e may in
    let D : ℕ = depc_of s (e ∷ reverse (reverse past)) a.value in
    let r = pair_is (is_done a.code) a.value D n d is in
    let number : a.value ≡ n = r.1 in let count : D ≡ d = r.2 in
    let rest : List ℕ = beside (call.EdtCreate from pc ps dc ds fl o) a in
    let same : (if is_done a.code then a.value ∷ rest else []) ≡ a.value ∷ rest = cond-true (is_done a.code) (a.value ∷ rest) [] r.0 in
    let made_n : makes a a.value ≡ true = and_from (is_done a.code) (a.value == a.value) r.0 (number_same a.value) in
    let slots : depc_of s (e ∷ past) a.value ≡ depc_in (edt_from (made s past from) ps dc) = ap depc_in (cond-true (makes a a.value) (edt_from (made s past from) ps dc) (made_beside a home a.value (made s past a.value)) made_n) in
    let bound = few_slots s past u home from pc dc fl ps ds o a w r.0 c.legal in
    let twice : D ≡ depc_of s (e ∷ past) a.value = ap (λ (K : History). depc_of s (e ∷ K) a.value) (reverse-reverse past) in
    let one = one_here a.value in
    (subst (λ (l : List ℕ). 1 ≤ sum_of (one_at n) l) (sym same) (subst (λ (k : ℕ). 1 ≤ one_at k a.value + sum_of (one_at k) rest) number (omega (arith, one))), omega (arith, bound, slots, twice, count))
creating t past (Call u home other a w) n d may is = cc is
creating t past other n d may is = cc is

-- WHAT IS SET
set_is : (w : What) (n k x : ℕ) → set_by w ≡ Some (n, k, x) → w ≡ what.Set n k x
set_is (what.Set v i q) n k x is = ap (λ (z : ℕ × ℕ × ℕ). what.Set z.0 z.1 z.2) (same_Some (v, i, q) (n, k, x) is)
set_is other n k x is = cc is

abbrev HasRoom : Terms Setting → List Entry → ℕ → ℕ → Type 0
HasRoom t past n k = (d : ℕ) × (slots_of meaning t past n ≡ Some d) × (k < d)

abbrev Settable : Terms Setting → List Entry → Entry → ℕ → ℕ → ℕ → Type 0
Settable t past e n k x = HasRoom t past n k × (payload_of meaning t past n k ≡ None) × stands t.setting.value t.limit (reverse (e ∷ past)) (IsSet n k x)

set_after : (m : Message) (c : Code) (past : History) (n k x : ℕ) → m.what ≡ what.Set n k x → calls.payload_of (Deliver m c ∷ past) n k ≡ Some x
set_after m c past n k x is =
    ap (λ (w : What). slot.payload_of (set_step w n (set_calls past n)) k) is ∙ rw (number_same n, number_same k) refl

setting : (t : Terms Setting) (past : List Entry) (e : Entry) (n k x : ℕ) → MayCome meaning t past e → sets e ≡ Some (n, k, x) → Settable t past e n k x
unfolding stands
setting t past (Deliver m c) n k x may is =
    let s = of_terms t in
    let come = comes t past (Deliver m c) may in
    let same : m.what ≡ what.Set n k x = set_is m.what n k x is in
    let slot_is = set_once_law s past m c n k x come.run come.legal same in
    let is_made = depc_edt (made s past n) k slot_is.exists in
    let one : is_edt past n ≡ true = sym (edts_law s past come.run n) ∙ is_made in (
      (depc_of s past n, slots_are t past n come.run ∙ edt_slots (made s past n) is_made, slot_is.exists),
      payload_is t past n k come.run ∙ slot_is.unset,
      subst (λ (K : History). Stands s K (IsSet n k x)) (sym (reverse-reverse (Deliver m c ∷ past))) (record { made = one; payload = set_after m c past n k x same }),
    )
setting t past other n k x may is = cc is

-- WHO STARTS, WAITS, GOES ON AND ENDS
starting : (t : Terms Setting) (past : List Entry) (e : Entry) (n : ℕ) → MayCome meaning t past e → starts e n ≡ true → IsReady meaning t past n
starting t past (Start u) n may is =
    let come = comes t past (Start u) may in
    subst (IsReady meaning t past) (eqb-true u n is) (ready t past u come.enough come.run come.legal.on_facts come.legal.on_parts.acquiring)
starting t past other n may is = cc is

place_is : (b : Bool) (d p : ℕ) → (if b then Some d else None) ≡ Some p → (b ≡ true) × (d ≡ p)
place_is true d p is = (refl, same d p is)
  where
    same : (d p : ℕ) → Some d ≡ Some p → d ≡ p
    same d p is = cc is
place_is false d p is = cc is

named_within : (limit : ℕ) (e : Entry) (d : ℕ) → IsNamedBlock limit e d → 1 ≤ touches limit e d
named_within limit e d named = named_place limit e d (rw named.within named.named)

waiting : (t : Terms Setting) (past : List Entry) (e : Entry) (n p : ℕ) → MayCome meaning t past e → waits e n ≡ Some p → IsReady meaning t past n × (1 ≤ touches t.limit e p)
waiting t past (Wait u d) n p may is =
    let s = of_terms t in
    let come = comes t past (Wait u d) may in
    let r = place_is (u == n) d p is in
    let inside : is_within t.limit d ≡ true = block_within t.limit (parts_of s past) d (IsRefused u (next_mode_on (readied_on s past (Wait u d) (parts_of s past)) u)) (within_law s past come.enough come.run) come.legal.on_parts.refused in
    let named : IsNamedBlock t.limit (Wait u d) d = record { named = or_right (u == d) (d == d) (number_same d); within = inside } in (
      subst (IsReady meaning t past) (eqb-true u n r.0) (ready t past u come.enough come.run come.legal.on_facts come.legal.on_parts.acquiring),
      subst (λ (k : ℕ). 1 ≤ touches t.limit (Wait u d) k) r.1 (named_within t.limit (Wait u d) d named),
    )
waiting t past other n p may is = cc is

abbrev Resumes : Terms Setting → List Entry → Entry → ℕ → List ℕ → Type 0
Resumes t past e n woken = (sum_of (one_at n) woken ≡ 1) × ((p : ℕ) × (awaited meaning t past n ≡ Some p) × (1 ≤ touches t.limit e p))

resumed_one : (t : Terms Setting) (past : List Entry) (e : Entry) (n : ℕ) (woken : List ℕ) → Comes (of_terms t) past e → Effect t.limit e (parts_of (of_terms t) past) (changed e (readied_on (of_terms t) past e (parts_of (of_terms t) past))) woken → 1 ≤ sum_of (one_at n) woken → Resumes t past e n woken
resumed_one t past e n woken come (inl quiet) some = absurd (let none = ap (sum_of (one_at n)) quiet.0 in omega (arith, some, none))
resumed_one t past e n woken come (inr moves) some = elim (is_in n woken) as (λ b. is_in n woken ≡ b → Resumes t past e n woken) [
  | true ↦ λ on.
      let r = moves.1.leaves.gone n on in
      (r.0, (moves.0, (waits_is t past n come.enough come.run).all moves.0 r.1, named_within t.limit e moves.0 moves.2))
  | false ↦ λ off. absurd (let none = (moves.1.leaves.stays n off).0 in omega (arith, some, none))
] refl

resuming : (t : Terms Setting) (past : List Entry) (e : Entry) (n : ℕ) → MayCome meaning t past e → 1 ≤ sum_of (one_at n) (resumed t.setting.value t.limit (reverse past) e) → Resumes t past e n (resumed t.setting.value t.limit (reverse past) e)
resuming t past e n may some =
    let s = of_terms t in let come = comes t past e may in
    let now : 1 ≤ sum_of (one_at n) (resumes e (parts_of s past)) = subst (λ (l : List ℕ). 1 ≤ sum_of (one_at n) l) (resumed_is t past e) some in
    subst (Resumes t past e n) (sym (resumed_is t past e)) (by_kind e come now)
  where
    by_kind : (e : Entry) → Comes (of_terms t) past e → 1 ≤ sum_of (one_at n) (resumes e (parts_of (of_terms t) past)) → Resumes t past e n (resumes e (parts_of (of_terms t) past))
    by_kind (Call u home c a w) come now = resumed_one t past (Call u home c a w) n _ come (entry_effect (of_terms t) past (Call u home c a w) come.enough come.run come.legal tt) now
    by_kind (Free u d w) come now = resumed_one t past (Free u d w) n _ come (entry_effect (of_terms t) past (Free u d w) come.enough come.run come.legal tt) now
    by_kind other come now = absurd (omega (arith, now))

abbrev Ends : Terms Setting → List Entry → Entry → ℕ → Type 0
Ends t past e n = (is_own e n ≡ true) × (is_started meaning t past n ≡ true) × (is_ended meaning t past n ≡ false)

ending : (t : Terms Setting) (past : List Entry) (e : Entry) (n : ℕ) → MayCome meaning t past e → ends e n ≡ true → Ends t past e n
ending t past (End u g) n may is =
    let come = comes t past (End u g) may in
    let r = running t past u come.run come.legal.on_parts.running in
    subst (Ends t past (End u g)) (eqb-true u n is) (number_same u, r.0, r.1)
ending t past other n may is = cc is

pub counted : CountingLaws meaning
counted = record {
  first_made = (omega arith, omega arith);
  first_set = first_set;
  creating = creating;
  setting = setting;
  starting = starting;
  waiting = waiting;
  resuming = resuming;
  ending = λ t past e n may is. let r = ending t past e n may is in (r.2, inl (r.0, r.1));
}
