-- What a clerk is once it has entered a delivery, put the payload and counted the slot.
use Rattle.std.proofs.Common.{◌-◌, ◌+◌, ◌≡◌, ℕ, zero, suc, ◌<◌, ◌≤◌, List, [], ◌∷◌, ◌++◌, length, Option, Result, Ok, Err, OnOk, refl, ap, sym, ◌∙◌, subst, arith}
use Rattle.std.proofs.lemmas.List.{append-nil}
use lib.ListN.{get_elem?}
use Rattle.ocr_base.proofs.Booleans.{same as number_same}
use Rattle.ocr_body_code.specs.declared.checked.Checked.{Checked}
use Rattle.ocr_guid.specs.declared.Code.TheVariants as code
use Rattle.ocr_machine_history.specs.declared.entry.Entry.{Entry}
use Rattle.ocr_machine_history.specs.declared.entry.Message.{Message}
use Rattle.ocr_machine_history.specs.declared.entry.What.{What}
use Rattle.ocr_machine_history.specs.declared.entry.What.TheVariants as what
use Rattle.ocr_base.specs.Mail.{drop_one, tally}
use Rattle.ocr_machine_parts.specs.declared.part.Part.{Part}
use Rattle.ocr_machine_parts.specs.Taken as taken
use Rattle.ocr_worker_machine.specs.Clerks.{OcrTerms, OcrView}
use Rattle.ocr_worker_machine.specs.Ocr.{ends, meaning, set_by, starts}
use Rattle.ocr_steal.specs.declared.hand.Hand.{Hand}
use Rattle.ocr_steal.specs.Hand.{own}
use Rattle.ocr_turns_rule.proofs.Histories.{ran}
use Rattle.ocr_turns_rule.specs.Contract.{SameHand}
use Rattle.ocr_turns_rule.specs.Debts.{counted_debts, last_if, listed, of_edt, put_debts, remove_edt, without_all}
use Rattle.ocr_turns_rule.specs.Counts.{leaves}
use Rattle.ocr_turns_rule.specs.Rule.{RunsIn}
use Rattle.ocr_turns_rule.specs.Live.{raising}
use Rattle.ocr_turns_rule.specs.Steps.{deed, logged}
use Rattle.ocr_turns_rule.specs.Sums.{as_some, is_free}
use Rattle.ocr_turns_rule.specs.Words.{OwesCount, OwesPayload, counting_down, putting}
use Rattle.ocr_turns_rule.specs.declared.debts.Debts.{Debts}
use Rattle.ocr_turns_rule.proofs.Totals.{one_here}
use Rattle.ocr_worker_clerk.specs.Entry.{OcrKnown}
use Rattle.ocr_worker_clerk.specs.Work.{AtWork, EntersKept, IsIdleClerk, OcrTable, Stays}
use Rattle.ocr_worker_clerk.proofs.Goes.{Calm, stays_both, stays_still, work_still}
use Rattle.ocr_machine_laws.specs.Kept.{kept_ready}
use Rattle.ocr_worker_delivery.proofs.Owed.{sends_none}
use Rattle.ocr_worker_clerk.specs.Push.{Pushes, PushesReady}
use Rattle.ocr_worker_delivery.specs.Delivery.{Answers, Delivers, PushesIf, SetsSlot, Settles, delivery_of, no_parts}

-- A STEP on the words that count changes what is owed alone
calm_debts : (v : OcrView) (d : Debts) (more : ℕ) → Calm v (record v { debts = d; spares = v.spares + more })
calm_debts v d more = record { terms = refl; root = refl; seat = refl; out = refl; joined = refl; log = refl; weight = refl; drawn = refl; full = refl; reached = refl; closed = refl; stake = omega arith; raised = refl; ended = refl }

pub word_work : (table : OcrTable) (p : Checked) (old new : OcrKnown) (d : Debts) (more : ℕ) → AtWork table p old → SameHand old new → new.view ≡ record old.view { debts = d; spares = old.view.spares + more } → AtWork table p new
word_work table p old new d more work same is =
    work_still table p old new (record old.view { debts = d; spares = old.view.spares + more }) work same.0 is (calm_debts old.view d more)
    (let r = same.2.0 in omega (arith, r))
    (let s = same.2.1 in let l = ap (λ (ps : List (ℕ × Option Part)). length ps) same.1 in omega (arith, s, l))

pub word_stays : (old new : OcrKnown) (d : Debts) (more : ℕ) → SameHand old new → new.view ≡ record old.view { debts = d; spares = old.view.spares + more } → Stays old new
word_stays old new d more same is = stays_still old new (record old.view { debts = d; spares = old.view.spares + more }) same.0 is (calm_debts old.view d more)

-- LISTS of one slot
dropped_alone : (n k x : ℕ) → drop_one (n, k) ((n, k, x) ∷ []) ≡ []
dropped_alone n k x = rw (number_same n, number_same k) refl

removed_alone : (n k x : ℕ) → remove_edt n ((n, k, x) ∷ []) ≡ []
removed_alone n k x = rw (number_same n) refl

no_keys : (ps : List (ℕ × Part)) → taken.keys ps ≡ [] → ps ≡ []
no_keys [] is = refl
no_keys (p ∷ rest) is = cc is

-- WHERE A CALL went well
pub on_ok : {A B : Type 0} (r : Result A B) (P Q : Type 0) → (P → Q) → OnOk r P → OnOk r Q
on_ok (Ok x) P Q go p = go p
on_ok (Err e) P Q go p = tt

pub on_both : {A B : Type 0} (r : Result A B) (P Q S : Type 0) → (P → Q → S) → OnOk r P → OnOk r Q → OnOk r S
on_both (Ok x) P Q S go p q = go p q
on_both (Err e) P Q S go p q = tt

-- THE ENTRY
abbrev pub entered_view : OcrTerms → OcrView → ℕ → ℕ → Message → OcrView
entered_view t v k n m = logged (raising v k) n (deed meaning t.limit v (delivery_of m) [] [])

pub entered_is : (t : OcrTerms) (old mid : OcrKnown) (m : Message) (it : EntersKept t old mid (delivery_of m) no_parts) → SetsSlot m.what → mid.view ≡ entered_view t old.view it.paid it.number m
entered_is t old mid m it sets =
    let none = no_keys it.later it.step.same_keys in
    let sent = it.step.sends_are ∙ sends_none m (kept_ready t.limit [] (delivery_of m) []) sets in
    it.view
    ∙ (ap (λ (ps : List (ℕ × Part)). logged (raising old.view it.paid) it.number (deed meaning t.limit old.view (delivery_of m) ps it.sent)) none
    ∙ ap (λ (ms : List What). logged (raising old.view it.paid) it.number (deed meaning t.limit old.view (delivery_of m) [] ms)) sent)

entered_hand : (t : OcrTerms) (old mid : OcrKnown) (m : Message) → EntersKept t old mid (delivery_of m) no_parts → mid.parts ≡ []
entered_hand t old mid m it = it.hand ∙ ap (λ (ps : List (ℕ × Part)). as_some ps) (no_keys it.later it.step.same_keys)

set_it : (x : What) (edt slot payload : ℕ) → x ≡ what.Set edt slot payload → SetsSlot x
set_it x edt slot payload is = subst SetsSlot (sym is) tt

-- so the payload is owed, and nothing else is
unput_is : (t : OcrTerms) (old mid : OcrKnown) (m : Message) (edt slot payload : ℕ) → IsIdleClerk old → m.what ≡ what.Set edt slot payload → EntersKept t old mid (delivery_of m) no_parts
    → mid.view.debts.unput ≡ (edt, slot, payload) ∷ []
unput_is t old mid m edt slot payload idle is it =
    ap (λ (v : OcrView). v.debts.unput) (entered_is t old mid m it (set_it m.what edt slot payload is))
    ∙ (ap (λ (l : List (ℕ × ℕ × ℕ)). l ++ listed (set_by m.what)) idle.owes.unput
    ∙ ap (λ (x : What). listed (set_by x)) is)

pub owes_payload : (t : OcrTerms) (old mid : OcrKnown) (m : Message) (edt slot payload : ℕ) → IsIdleClerk old → m.what ≡ what.Set edt slot payload → EntersKept t old mid (delivery_of m) no_parts
    → OwesPayload mid.view edt slot payload
owes_payload t old mid m edt slot payload idle is it = (0, ap (λ (l : List (ℕ × ℕ × ℕ)). get_elem? l 0) (unput_is t old mid m edt slot payload idle is it))

-- THE WORDS. What is put is to be counted
some_put : (n k x : ℕ) (ps : List (ℕ × ℕ × ℕ)) → 1 ≤ tally (of_edt n) (ps ++ (n, k, x) ∷ [])
some_put n k x [] = let one = one_here n in omega (arith, one)
some_put n k x (p ∷ ps) = let r = some_put n k x ps in omega (arith, r)

pub owes_count : (mid later : OcrKnown) (edt slot payload : ℕ) → later.view ≡ putting mid.view edt slot payload → OwesCount later.view edt
owes_count mid later edt slot payload is = subst (λ (v : OcrView). OwesCount v edt) (sym is) (some_put edt slot payload mid.view.debts.put)

same_hands : (a b c : OcrKnown) → SameHand a b → SameHand b c → SameHand a c
same_hands a b c p q = (q.0 ∙ p.0, q.1 ∙ p.1, (q.2.0 ∙ p.2.0, q.2.1 ∙ p.2.1, q.2.2 ∙ p.2.2))

pushes_more : (left edt : ℕ) (before after : Hand) → 0 < left → own after ≡ own before → PushesIf left edt before after
pushes_more zero edt before after more same = absurd (omega (arith, more))
pushes_more (suc left) edt before after more same = same

module _ (mid put new : OcrKnown) (edt slot payload left : ℕ) (put_hand : SameHand mid put) (put_view : put.view ≡ putting mid.view edt slot payload) (new_hand : SameHand put new) (new_view : new.view ≡ counting_down put.view edt left) where
  both_view : new.view ≡ counting_down (putting mid.view edt slot payload) edt left
  both_view = new_view ∙ ap (λ (v : OcrView). counting_down v edt left) put_view

  none_more : put.view ≡ record mid.view { debts = put_debts mid.view.debts edt slot payload; spares = mid.view.spares + 0 }
  none_more = put_view ∙ (λ i. record mid.view { debts = put_debts mid.view.debts edt slot payload; spares = none mid.view.spares i })
    where
      none : (n : ℕ) → n ≡ n + 0
      none n = omega arith

  pub words_stay : Stays mid new
  words_stay = stays_both mid put new (word_stays mid put (put_debts mid.view.debts edt slot payload) 0 put_hand none_more) (word_stays put new (counted_debts put.view.debts edt left) (1 - is_free left) new_hand new_view)

  pub words_work : (table : OcrTable) (p : Checked) → AtWork table p mid → AtWork table p new
  words_work table p work =
      word_work table p put new (counted_debts put.view.debts edt left) (1 - is_free left) (word_work table p mid put (put_debts mid.view.debts edt slot payload) 0 work put_hand none_more) new_hand new_view

  pub settles_more : (before after : Hand) → 0 < left → own after ≡ own before → Settles edt slot payload mid new before after
  settles_more before after more same = record { left = left; view = both_view; hand = same_hands mid put new put_hand new_hand; pushed = pushes_more left edt before after more same }

  pub settles_last : (before after : Hand) → left ≡ 0 → Pushes edt before after → Settles edt slot payload mid new before after
  settles_last before after none pushed = record {
    left = left;
    view = both_view;
    hand = same_hands mid put new put_hand new_hand;
    pushed = subst (λ (n : ℕ). PushesIf n edt before after) (sym none) pushed;
  }

-- THE WHOLE
ready_of : (left edt : ℕ) (readied : List ℕ) (old new : OcrKnown) (before after : Hand) → old.view.debts.readied ≡ readied → new.view.debts.readied ≡ last_if left edt readied → PushesIf left edt before after → PushesReady old new before after
ready_of zero edt readied old new before after is made pushed = record {
  ready = edt ∷ [];
  readied = made ∙ ap (λ (l : List ℕ). l ++ edt ∷ []) (sym is);
  pushed = pushed;
}
ready_of (suc left) edt readied old new before after is made pushed = record {
  ready = [];
  readied = made ∙ (sym is ∙ sym (append-nil old.view.debts.readied));
  pushed = pushed ∙ ap (λ (l : List ℕ). record (own before) { pushed = l }) (sym (append-nil (own before).pushed));
}

module _ (t : OcrTerms) (old mid new : OcrKnown) (m : Message) (edt slot payload : ℕ) (before after : Hand) (idle : IsIdleClerk old) (sets : m.what ≡ what.Set edt slot payload)
    (it : EntersKept t old mid (delivery_of m) no_parts) (settled : Settles edt slot payload mid new before after) where
  view_is : new.view ≡ counting_down (putting (entered_view t old.view it.paid it.number m) edt slot payload) edt settled.left
  view_is = settled.view ∙ ap (λ (v : OcrView). counting_down (putting v edt slot payload) edt settled.left) (entered_is t old mid m it (set_it m.what edt slot payload sets))

  pub delivers : Delivers t m old new
  delivers = record {
    number = it.number;
    answer = code.Done;
    sent = [];
    answers = subst (λ (x : What). Answers t old.view x code.Done []) (sym sets) (refl, refl);
    log = ap (λ (v : OcrView). v.log) view_is;
    owed = ap (λ (v : OcrView). v.owed) view_is;
    facts = ap (λ (v : OcrView). v.facts) view_is ∙ append-nil old.view.facts;
  }

  pub idle_after : IsIdleClerk new
  idle_after = record {
    kept = ap (λ (v : OcrView). v.parts) view_is ∙ idle.kept;
    hand = settled.hand.1 ∙ entered_hand t old mid m it;
    claims = ap (λ (v : OcrView). v.claims) view_is ∙ ap (λ (ns : List ℕ). without_all (leaves meaning (delivery_of m)) ns) idle.claims;
    drawn = ap (λ (v : OcrView). v.drawn) view_is ∙ idle.drawn;
    owes = record {
      unput = ap (λ (v : OcrView). v.debts.unput) view_is
          ∙ (ap (λ (l : List (ℕ × ℕ × ℕ)). drop_one (edt, slot) (l ++ listed (set_by m.what))) idle.owes.unput
          ∙ (ap (λ (x : What). drop_one (edt, slot) (listed (set_by x))) sets ∙ dropped_alone edt slot payload));
      put = ap (λ (v : OcrView). v.debts.put) view_is
          ∙ (ap (λ (l : List (ℕ × ℕ × ℕ)). remove_edt edt ((l ++ []) ++ (edt, slot, payload) ∷ [])) idle.owes.put ∙ removed_alone edt slot payload);
      made = ap (λ (v : OcrView). v.debts.made) view_is ∙ ap (λ (l : List (ℕ × ℕ)). l ++ []) idle.owes.made;
      resumes = ap (λ (v : OcrView). v.debts.resumes) view_is ∙ ap (λ (l : List ℕ). l ++ []) idle.owes.resumes;
    };
    none = λ u runs. idle.none u (ran starts ends (delivery_of m) it.number old.view.log u refl (subst (λ (l : List (ℕ × Entry)). RunsIn starts ends l u) (ap (λ (v : OcrView). v.log) view_is) runs));
  }

  pub pushes_ready : PushesReady old new before after
  pushes_ready = ready_of settled.left edt (old.view.debts.readied ++ []) old new before after (sym (append-nil old.view.debts.readied)) (ap (λ (v : OcrView). v.debts.readied) view_is) settled.pushed
