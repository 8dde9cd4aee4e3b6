-- An EDT whose body has returned, until its End.
use Rattle.std.specs.Prelude.{OnOk}
use Rattle.std.proofs.Common.{Result, Ok, Err, ◌≡◌, ℕ, ◌+◌, ◌≤◌, ◌<◌, ◌==◌, Bool, true, false, cond, not, List, [], ◌∷◌, ◌++◌, length, append_assoc, Option, Some, None, is_some, refl, ap, sym, ◌∙◌, subst, arith}
use Rattle.ocr_acquire.specs.declared.Mode.{Mode}
use Rattle.ocr_acquire.specs.Mode.{mode_in}
use Rattle.ocr_base.proofs.Booleans.{same}
use Rattle.ocr_datablock.specs.Lent.{after_list_writes}
use Rattle.ocr_edt.specs.Phases.{least_of, without}
use Rattle.ocr_body_meaning.specs.Behaviour.{Ends}
use Rattle.ocr_body_meaning.specs.Body.{Body, says}
use Rattle.ocr_body_meaning.specs.Holds.{Holds, private_in}
use Rattle.ocr_machine_history.specs.declared.entry.Entry.{Entry}
use Rattle.ocr_machine_history.specs.declared.entry.Entry.TheVariants.{End}
use Rattle.ocr_machine_parts.specs.declared.part.Part.{Part}
use Rattle.ocr_machine_parts.specs.Kinds.{holds_of, work_of}
use Rattle.ocr_machine_parts.specs.Taken.{is_within}
use Rattle.ocr_machine_parts.specs.Progress.{core_after}
use Rattle.ocr_machine_parts.specs.Bodies.{holds_in}
use Rattle.ocr_machine_parts.proofs.Listed.{holds_listed}
use Rattle.ocr_worker_machine.specs.Clerks.{OcrTerms}
use Rattle.ocr_worker_clerk.specs.Entry.{OcrKnown}
use Rattle.ocr_worker_clerk.specs.Work.{Stays, Took}
use Rattle.ocr_worker_access.specs.Access.{HasTaken, IsNewest, Runs, first_in, held_at, holds_at, returned_faces}
use Rattle.ocr_worker_access.specs.Served.{own_log}
use Rattle.ocr_worker_access.proofs.Asked.{took_is}
use Rattle.ocr_worker_access.proofs.Loaned.{core_listed}
use Rattle.ocr_worker_body.specs.Body.{EndsNow, HasReturned, end_holds}
use Rattle.ocr_worker_body.specs.Start.{StepsCore}
use Rattle.ocr_worker_body.proofs.Stepped.{stepped_runs}

-- THE WRITES of the core at hand are listed
module _ (t : OcrTerms) (edt d : ℕ) (b : Body) (old new : OcrKnown) (runs : Runs t edt b old) (steps : StepsCore (t.limit + edt) (core_after after_list_writes d) old new) where
  pub runs_listed : Runs t edt b new
  runs_listed = stepped_runs t edt b (core_after after_list_writes d) old new runs steps (core_listed d runs.core runs.kept runs.is)

  pub held_listed : held_at new ≡ held_at old
  held_listed =
      ap (λ (l : List (ℕ × Option Part)). holds_of (work_of (first_in l))) (steps.core runs.core runs.hand)
      ∙ sym (ap (λ (l : List (ℕ × Option Part)). holds_of (work_of (first_in l))) runs.hand)

  pub holds_same : holds_at new ≡ holds_at old
  holds_same =
      ap (λ (l : List (ℕ × Option Part)). holds_in (first_in l)) (steps.core runs.core runs.hand)
      ∙ (holds_listed d runs.core ∙ sym (ap (λ (l : List (ℕ × Option Part)). holds_in (first_in l)) runs.hand))

-- THE LEAST block is held
least_some : (holds : List (ℕ × Mode)) (d : ℕ) → least_of holds ≡ Some d → is_some (mode_in d holds) ≡ true
least_some [] d is = cc is
least_some (one ∷ rest) d is =
    let e : one.0 ≡ d = cc is in
    let here : (one.0 == d) ≡ true = ap (λ (n : ℕ). n == d) e ∙ same d in
    rw here refl

pub private_left : (t : OcrTerms) (edt d g : ℕ) (b : Body) (c : OcrKnown) (w : List (ℕ × ℕ)) → (r : HasReturned t edt b g c) → least_of (held_at c) ≡ Some d → w ≡ private_in (holds_at c d) → w ≡ private_in (r.holds d)
private_left t edt d g b c w r least is = is ∙ ap private_in (r.left d (least_some (held_at c) d least))

fewer_if : {X : Type 0} (b : Bool) (x : X) (xs ys : List X) → length ys ≤ length xs → length (cond b (x ∷ ys) ys) ≤ length (x ∷ xs)
fewer_if true x xs ys le = omega (arith, le)
fewer_if false x xs ys le = omega (arith, le)

kept_fewer : (d : ℕ) (xs : List (ℕ × Mode)) → length (without d xs) ≤ length xs
kept_fewer d [] = omega arith
kept_fewer d (x ∷ xs) = fewer_if (not (d == x.0)) x xs (without d xs) (kept_fewer d xs)

least_fewer : (holds : List (ℕ × Mode)) (d : ℕ) → least_of holds ≡ Some d → length (without d holds) < length holds
least_fewer [] d is = cc is
least_fewer (one ∷ rest) d is =
    let e : one.0 ≡ d = cc is in
    let here : (d == one.0) ≡ true = ap (λ (n : ℕ). d == n) e ∙ same d in
    let gone : without d (one ∷ rest) ≡ without d rest = rw here refl in
    let few = kept_fewer d rest in
    let l = ap (λ (hs : List (ℕ × Mode)). length hs) gone in
    omega (arith, few, l)

pub held_fewer : (old new : OcrKnown) (d : ℕ) → least_of (held_at old) ≡ Some d → held_at new ≡ without d (held_at old) → length (held_at new) < length (held_at old)
held_fewer old new d least is = let f = least_fewer (held_at old) d least in let l = ap (λ (hs : List (ℕ × Mode)). length hs) is in omega (arith, f, l)

pub nothing_held : (holds : List (ℕ × Mode)) → least_of holds ≡ None → holds ≡ []
nothing_held [] is = refl
nothing_held (one ∷ rest) is = cc is

-- IT STILL HAS RETURNED
pub returned_after : (t : OcrTerms) (edt g : ℕ) (b : Body) (old new : OcrKnown) → HasReturned t edt b g old → Runs t edt b new → own_log new.view.log edt ≡ own_log old.view.log edt
    → ((e : ℕ) → is_some (mode_in e (held_at new)) ≡ true → (is_some (mode_in e (held_at old)) ≡ true) × (holds_at new e ≡ holds_at old e)) → HasReturned t edt b g new
returned_after t edt g b old new r runs own less = record {
  holds = r.holds;
  runs = runs;
  ends = ap (says b) own ∙ r.ends;
  left = λ e some. (let l = less e some in l.1 ∙ r.left e l.0);
}

pub end_says : (t : OcrTerms) (edt g : ℕ) (b : Body) (c : OcrKnown) → HasReturned t edt b g c → says b (own_log c.view.log edt) ≡ Ends g (end_holds (says b (own_log c.view.log edt)))
end_says t edt g b c r = r.ends ∙ sym (ap (λ (h : Holds). Ends g h) (ap end_holds r.ends))

-- THE FACE that it returns
pub taken_none : (t : OcrTerms) (edt g : ℕ) (b : Body) (c : OcrKnown) → Runs t edt b c → is_within t.limit g ≡ false → HasTaken t edt c c (returned_faces t.limit g)
taken_none t edt g b c runs off = record {
  core = runs.core;
  kept = runs.kept;
  taken = [];
  is = runs.is;
  was = runs.hand;
  places_are = sym (none off);
  view = λ i. record c.view { parts = runs.keeps i };
  hand = runs.hand;
  sees = runs.sees;
}
  where
    none : is_within t.limit g ≡ false → returned_faces t.limit g ≡ []
    none off = rw off refl

pub taken_one : (t : OcrTerms) (edt g : ℕ) (b : Body) (old new : OcrKnown) → Runs t edt b old → is_within t.limit g ≡ true → Took old new (g ∷ []) → HasTaken t edt old new (returned_faces t.limit g)
taken_one t edt g b old new runs on took = subst (HasTaken t edt old new) (sym (one on)) (took_is t edt b old new (g ∷ []) runs took)
  where
    one : is_within t.limit g ≡ true → returned_faces t.limit g ≡ g ∷ []
    one on = rw on refl

pub faces_none : (limit g : ℕ) → is_within limit g ≡ false → returned_faces limit g ≡ []
faces_none limit g off = rw off refl

pub faces_one : (limit g : ℕ) → is_within limit g ≡ true → returned_faces limit g ≡ g ∷ []
faces_one limit g on = rw on refl

-- THE END stands last
pub ends_newest : (edt g : ℕ) (old mid new : OcrKnown) → Stays old mid → IsNewest (End edt g) mid.view new.view → EndsNow edt old new
ends_newest edt g old mid new stays newest = record {
  returned = g;
  more = stays.log.0;
  number = newest.0;
  log = newest.1 ∙ ap (λ (l : List (ℕ × Entry)). l ++ (newest.0, End edt g) ∷ []) stays.log.1;
}

pub ends_after : (edt : ℕ) (old mid new : OcrKnown) → Stays old mid → EndsNow edt mid new → EndsNow edt old new
ends_after edt old mid new stays e = record {
  returned = e.returned;
  more = stays.log.0 ++ e.more;
  number = e.number;
  log = e.log ∙ ap (λ (l : List (ℕ × Entry)). l ++ (e.number, End edt e.returned) ∷ []) (ap (λ (l : List (ℕ × Entry)). l ++ e.more) stays.log.1 ∙ append_assoc old.view.log stays.log.0 e.more);
}

pub ok_three : {A E : Type 0} (r : Result A E) (P Q R S : Type 0) → OnOk r P → OnOk r Q → OnOk r R → (P → Q → R → S) → OnOk r S
ok_three (Ok x) P Q R S p q s go = go p q s
ok_three (Err e) P Q R S p q s go = tt
