-- What a clerk is while it delivers a message to the face of an object.
use Rattle.std.proofs.Common.{◌≡◌, ℕ, ◌+◌, ◌≤◌, true, List, [], ◌∷◌, ◌++◌, reverse, Option, refl, ap, sym, ◌∙◌, subst, arith}
use Rattle.std.proofs.lemmas.List.{append-nil}
use Rattle.std.proofs.lemmas.List.Elements.{All-cons, All-nil}
use mathlib.Core.Option.{some}
use lib.ListN.{get_elem?}
use Rattle.ocr_base.proofs.Booleans.{same as number_same}
use Rattle.ocr_body_code.specs.Checked.{checked_tree}
use Rattle.ocr_body_code.specs.declared.checked.Checked.{Checked}
use Rattle.ocr_program_tree.specs.Runnable.{IsRunnable}
use Rattle.ocr_guid.specs.declared.Code.{Code}
use Rattle.ocr_machine_history.specs.declared.entry.Entry.{Entry}
use Rattle.ocr_machine_history.specs.declared.entry.Entry.TheVariants.{Deliver}
use Rattle.ocr_machine_history.specs.declared.entry.Message.{Message}
use Rattle.ocr_machine_parts.specs.Parts.{parts_of}
use Rattle.ocr_machine_parts.specs.Taken.{as_face, face_in, has, is_within}
use Rattle.ocr_machine_parts.specs.declared.part.Part.{Part}
use Rattle.ocr_worker_machine.specs.Clerks.{AreAtHand, MayEnter, OcrView, of_terms}
use Rattle.ocr_worker_machine.specs.Ocr.{ends, meaning, set_by, starts, touches}
use Rattle.ocr_worker_machine.proofs.Owed.{hand_counted}
use Rattle.ocr_turns_rule.specs.Rule.{Fits, RunsIn}
use Rattle.ocr_turns_rule.specs.Counts.{leaves}
use Rattle.ocr_turns_rule.specs.Debts.{listed, without_all}
use Rattle.ocr_turns_rule.specs.Live.{raising}
use Rattle.ocr_turns_rule.specs.Steps.{SeesBoth, deed, logged}
use Rattle.ocr_turns_rule.specs.Sums.{as_some, keys, one_at, weigh}
use Rattle.ocr_turns_rule.proofs.Histories.{ran}
use Rattle.ocr_turns_rule.proofs.Numbered.{weigh_keys}
use Rattle.ocr_turns_rule.proofs.Totals.{one_most}
use Rattle.ocr_worker_clerk.specs.Entry.{CanMake, OcrKnown}
use Rattle.ocr_worker_clerk.specs.Push.{ReadiesNone}
use Rattle.ocr_worker_clerk.specs.Work.{AtWork, EntersAs, EntersKept, HasAllAtHand, IsIdleClerk, KeepsLoose, OcrTable, Took, in_hand, lifted}
use Rattle.ocr_worker_clerk.proofs.Entries.{turns_keys}
use Rattle.ocr_worker_clerk.proofs.Hands.{in_hand_some, lifted_keys, some_keys}
use Rattle.ocr_worker_clerk.proofs.Seen.{face_is}
use Rattle.ocr_worker_clerk.proofs.Whole.{entered_whole}
use Rattle.ocr_worker_delivery.specs.Delivery.{Answers, Delivers, IsOwed}
use Rattle.ocr_worker_machine.proofs.Places.{within_is}

-- A LIST of one part
pub record IsOne (n : ℕ) (ps : List (ℕ × Part)) : Type 0 where
  pub item : Part
  pub is : ps ≡ (n, item) ∷ []

one_of : (n : ℕ) (ps : List (ℕ × Part)) → keys ps ≡ n ∷ [] → IsOne n ps
one_of n [] is = cc is
one_of n (p ∷ []) is = let same : p.0 ≡ n = cc is in record { item = p.1; is = ap (λ (k : ℕ). (k, p.1) ∷ []) same }
one_of n (p ∷ q ∷ rest) is = cc is

one_once : (n : ℕ) (x : Part) (p : ℕ) → weigh (one_at p) ((n, x) ∷ []) ≤ 1
one_once n x p = let o = one_most p n in omega (arith, o)

-- A FACE has a place that can be taken
pub face_low : (limit g : ℕ) → is_within limit g ≡ true → g ≤ limit + limit
face_low limit g within = let b = within_is limit g within in let c = b.1 in omega (arith, c)

-- THE CLERK that took the face
module _ (old mid : OcrKnown) (g : ℕ) (idle : IsIdleClerk old) (took : Took old mid (g ∷ [])) where
  one : IsOne g took.parts
  one = one_of g took.parts took.places_are

  view_is : mid.view ≡ record old.view { parts = took.parts }
  view_is = took.view ∙ ap (λ (ps : List (ℕ × Part)). record old.view { parts = ps ++ took.parts }) idle.kept

  parts_are : mid.view.parts ≡ took.parts
  parts_are = ap (λ (v : OcrView). v.parts) view_is

  hand_is : mid.parts ≡ as_some took.parts
  hand_is = took.hand ∙ ap (λ (ps : List (ℕ × Option Part)). ps ++ as_some took.parts) idle.hand

  pub lifted_is : in_hand mid.parts ≡ took.parts
  lifted_is = ap (λ (ps : List (ℕ × Option Part)). in_hand ps) hand_is ∙ in_hand_some took.parts

  pub took_all : HasAllAtHand mid (g ∷ [])
  took_all = record {
    at_hand = hand_is ∙ ap (λ (ps : List (ℕ × Part)). as_some ps) (sym lifted_is);
    kept = ap (λ (ps : List (ℕ × Part)). keys ps) parts_are ∙ took.places_are;
    hand = ap (λ (ps : List (ℕ × Option Part)). keys ps) hand_is ∙ (some_keys took.parts ∙ took.places_are);
  }

  pub took_once : (p : ℕ) → weigh (one_at p) mid.parts ≤ 1
  took_once p = subst (λ (ps : List (ℕ × Option Part)). weigh (one_at p) ps ≤ 1) (sym (hand_is ∙ ap (λ (ps : List (ℕ × Part)). as_some ps) one.is)) (let o = one_most p g in omega (arith, o))

  -- WHAT IT MAY ENTER
  module _ (table : OcrTable) (p : Checked) (m : Message) (work : AtWork table p mid) (owed : IsOwed m old.view) (within : is_within table.1.limit g ≡ true) where
    pub runnable_now : IsRunnable (checked_tree table.1.setting.value.program)
    runnable_now = subst (λ (q : Checked). IsRunnable (checked_tree q)) (sym work.program_is) work.runnable

    pub fitting : (J : List Entry) × Fits meaning table.1 J mid.view
    fitting = took.sees (omega arith) table.1 work.of_table.1 work.is_open

    pub owed_now : IsOwed m mid.view
    owed_now = (owed.0, ap (λ (v : OcrView). get_elem? v.owed owed.0) view_is ∙ owed.1)

    pub took_at_hand : AreAtHand table.1.limit took.parts mid.view.parts
    took_at_hand = subst (AreAtHand table.1.limit took.parts) (sym parts_are) (record {
      once = λ n. subst (λ (ps : List (ℕ × Part)). weigh (one_at n) ps ≤ 1) (sym one.is) (one_once g one.item n);
      there = λ n here. here;
      alike = λ n here. refl;
    })

    pub took_here : has took.parts g ≡ true
    took_here = ap (λ (ps : List (ℕ × Part)). has ps g) one.is ∙ rw (number_same g) refl

    -- a delivery that names this face alone, sets no slot, and is answered by the face
    module _ (answer_by : List (ℕ × Part) → Code) (named : (c : Code) (n : ℕ) → touches table.1.limit (Deliver m c) n ≡ one_at n g + 0) (plain : listed (set_by m.what) ≡ []) (may : MayEnter table.1 mid.view (Deliver m (answer_by took.parts)) [] took.parts) where
      can_took : CanMake table.1 mid.view (Deliver m (answer_by took.parts)) (record { members = []; parts = took.parts }) took.parts
      can_took = record {
        goes = refl;
        owes = (owed_now.0, m.what, owed_now.1);
        drawn = tt;
        claims = record { starts = λ n is. cc is; waits = λ n d is. cc is; resumes = λ n some. absurd (omega (arith, some)) };
        may = may;
        ready = refl;
        same_keys = refl;
        places = λ n. (
          ap (λ (ps : List (ℕ × Part)). weigh (one_at n) ps) one.is ∙ sym (named (answer_by took.parts) n),
          (let same = ap (λ (ps : List (ℕ × Part)). weigh (one_at n) ps) parts_are in omega (arith, same)),
        );
        counters = λ e. hand_counted table.1 mid.view fitting.0 took.parts e fitting.1 may.at_hand;
      }

      pub can_face : (low : OcrKnown) (ps : List (ℕ × Part)) (code : Code) → low.view ≡ mid.view → ps ≡ in_hand mid.parts → code ≡ answer_by ps → CanMake table.1 low.view (Deliver m code) (record { members = []; parts = ps }) ps
      can_face low ps code same is coded =
          subst (λ (k : Code). CanMake table.1 low.view (Deliver m k) (record { members = []; parts = ps }) ps) (sym coded)
          (subst (λ (v : OcrView). CanMake table.1 v (Deliver m (answer_by ps)) (record { members = []; parts = ps }) ps) (sym same)
          (subst (λ (qs : List (ℕ × Part)). CanMake table.1 mid.view (Deliver m (answer_by qs)) (record { members = []; parts = qs }) qs) (sym (is ∙ lifted_is)) can_took))

      -- ONCE IT IS ENTERED
      module _ (low new : OcrKnown) (ps : List (ℕ × Part)) (code : Code) (same : low.view ≡ mid.view) (left : low.parts ≡ lifted mid.parts) (is : ps ≡ in_hand mid.parts) (coded : code ≡ answer_by ps)
          (it : EntersAs table.1 low new (Deliver m code) (record { members = []; parts = ps })) where
        ps_keys : keys ps ≡ g ∷ []
        ps_keys = ap (λ (l : List (ℕ × Part)). keys l) (is ∙ lifted_is) ∙ took.places_are

        pub kept : EntersKept table.1 low new (Deliver m (answer_by ps)) (record { members = []; parts = ps })
        kept = entered_whole table.1 low new (Deliver m (answer_by ps)) (record { members = []; parts = ps })
            (ap (λ (l : List (ℕ × Option Part)). keys l) left ∙ (lifted_keys mid.parts ∙ (took_all.hand ∙ sym ps_keys)))
            (ap (λ (v : OcrView). keys v.parts) same ∙ (took_all.kept ∙ sym ps_keys))
            (λ n. let r = took_once n in let w = weigh_keys (one_at n) ps mid.parts (ps_keys ∙ sym took_all.hand) in omega (arith, r, w))
            (subst (λ (k : Code). EntersAs table.1 low new (Deliver m k) (record { members = []; parts = ps })) coded it)

        abbrev entered : OcrView → OcrView
        entered v = logged (raising v kept.paid) kept.number (deed meaning table.1.limit v (Deliver m (answer_by ps)) kept.later kept.sent)

        new_is : new.view ≡ entered (record old.view { parts = took.parts })
        new_is = kept.view ∙ ap entered (same ∙ view_is)

        pub loose : KeepsLoose table.1 (g ∷ []) new
        loose = record {
          kept = ap (λ (l : List (ℕ × Part)). keys l) kept.kept ∙ (turns_keys kept.later ps kept.step.same_keys ∙ ps_keys);
          hand = kept.hand ∙ ap (λ (l : List (ℕ × Part)). as_some l) (sym kept.kept);
          claims = ap (λ (v : OcrView). v.claims) new_is ∙ ap (λ (ns : List ℕ). without_all (leaves meaning (Deliver m (answer_by ps))) ns) idle.claims;
          none = still;
          within = All-cons low_place g [] (face_low table.1.limit g within) (All-nil low_place);
        }
          where
            still : (u : ℕ) → RunsIn starts ends new.view.log u → ⊥
            still u runs = idle.none u (ran starts ends (Deliver m (answer_by ps)) kept.number old.view.log u refl (subst (λ (l : List (ℕ × Entry)). RunsIn starts ends l u) (ap (λ (v : OcrView). v.log) new_is) runs))

            low_place : ℕ → Type 0
            low_place p = p ≤ table.1.limit + table.1.limit

        -- THE FACE, after a history that fits both
        pub faced : SeesBoth meaning old.view mid.view → (J : List Entry) × Fits meaning table.1 J old.view × Fits meaning table.1 J mid.view
            × (face_in table.1.limit ps g ≡ (parts_of (of_terms table.1) (reverse J)).face g)
        faced sees =
            let seen = sees table.1 work.of_table.1 work.is_open in
            let ps_is : ps ≡ (g, one.item) ∷ [] = is ∙ (lifted_is ∙ one.is) in
            let there : get_elem? mid.view.parts 0 ≡ some (g, one.item) = ap (λ (l : List (ℕ × Part)). get_elem? l 0) (parts_are ∙ one.is) in
            let told : (parts_of (of_terms table.1) (reverse seen.0)).face g ≡ as_face one.item = face_is table.1 seen.0 mid.view 0 g one.item seen.2 within there in
            let at_hand : face_in table.1.limit ps g ≡ as_face one.item = ap (λ (l : List (ℕ × Part)). face_in table.1.limit l g) ps_is ∙ rw (within, number_same g) refl in
            (seen.0, seen.1, seen.2, at_hand ∙ sym told)

        -- ONCE THE FACE IS GIVEN BACK
        module _ (done : OcrKnown) (view : done.view ≡ record new.view { parts = [] }) (hand : done.parts ≡ []) where
          done_is : done.view ≡ record (entered (record old.view { parts = took.parts })) { parts = [] }
          done_is = view ∙ ap (λ (v : OcrView). record v { parts = [] }) new_is

          pub faced_idle : IsIdleClerk done
          faced_idle = record {
            kept = ap (λ (v : OcrView). v.parts) done_is;
            hand = hand;
            claims = ap (λ (v : OcrView). v.claims) view ∙ loose.claims;
            drawn = ap (λ (v : OcrView). v.drawn) done_is ∙ idle.drawn;
            owes = record {
              unput = ap (λ (v : OcrView). v.debts.unput) done_is ∙ (ap (λ (l : List (ℕ × ℕ × ℕ)). l ++ listed (set_by m.what)) idle.owes.unput ∙ plain);
              put = ap (λ (v : OcrView). v.debts.put) done_is ∙ ap (λ (l : List (ℕ × ℕ × ℕ)). l ++ []) idle.owes.put;
              made = ap (λ (v : OcrView). v.debts.made) done_is ∙ ap (λ (l : List (ℕ × ℕ)). l ++ []) idle.owes.made;
              resumes = ap (λ (v : OcrView). v.debts.resumes) done_is ∙ ap (λ (l : List ℕ). l ++ []) idle.owes.resumes;
            };
            none = λ u runs. loose.none u (subst (λ (l : List (ℕ × Entry)). RunsIn starts ends l u) (ap (λ (v : OcrView). v.log) view) runs);
          }

          pub faced_readied : ReadiesNone old done
          faced_readied = ap (λ (v : OcrView). v.debts.readied) done_is ∙ append-nil old.view.debts.readied

          pub faced_delivers : Answers table.1 old.view m.what (answer_by ps) kept.sent → Delivers table.1 m old done
          faced_delivers answers = record {
            number = kept.number;
            answer = answer_by ps;
            sent = kept.sent;
            answers = answers;
            log = ap (λ (v : OcrView). v.log) done_is;
            owed = ap (λ (v : OcrView). v.owed) done_is;
            facts = ap (λ (v : OcrView). v.facts) done_is ∙ append-nil old.view.facts;
          }
