-- The way of a block that is given back, from the listing of its writes to the next block.
use Rattle.std.proofs.Common.{◌≡◌, ℕ, ◌+◌, ◌≤◌, ◌<◌, true, List, [], ◌∷◌, length, Option, Some, is_some, ap, ◌∙◌, subst, arith}
use Rattle.ocr_acquire.specs.declared.Mode.{Mode}
use Rattle.ocr_acquire.specs.Mode.{mode_in}
use Rattle.ocr_body_code.specs.declared.checked.Checked.{Checked}
use Rattle.ocr_datablock.specs.Lent.{after_list_writes}
use Rattle.ocr_edt.specs.Phases.{least_of, without}
use Rattle.ocr_body_meaning.specs.Body.{Body, says}
use Rattle.ocr_body_meaning.specs.Holds.{Holds, private_in}
use Rattle.ocr_machine_history.specs.declared.entry.Entry.TheVariants.{Free}
use Rattle.ocr_machine_parts.specs.declared.part.Part.{Part}
use Rattle.ocr_machine_parts.specs.Taken.{is_within}
use Rattle.ocr_machine_parts.specs.Progress.{core_after}
use Rattle.ocr_worker_machine.specs.Clerks.{OcrView}
use Rattle.ocr_worker_machine.specs.Ocr.{wakes}
use Rattle.ocr_worker_machine.proofs.Places.{within_is}
use Rattle.ocr_worker_clerk.specs.Entry.{CanMake, OcrKnown}
use Rattle.ocr_worker_clerk.specs.Push.{ReadiesNone}
use Rattle.ocr_worker_clerk.specs.Work.{AtWork, EntersKept, HasAllAtHand, HasFewDuties, OcrTable, Took, in_hand}
use Rattle.ocr_worker_clerk.proofs.Push.{kept_readies, took_readies}
use Rattle.ocr_worker_access.specs.Access.{AreOthers, HasEntered, HasTaken, Runs, first_in, held_at, holds_at}
use Rattle.ocr_worker_access.specs.Served.{own_log}
use Rattle.ocr_worker_access.proofs.Asked.{took_is}
use Rattle.ocr_worker_access.proofs.Readied.{kept_duties}
use Rattle.ocr_worker_body.specs.Body.{HasReturned}
use Rattle.ocr_worker_body.specs.Start.{StepsCore}
use Rattle.ocr_worker_body.proofs.FreeEntries.{can_free, free_held, free_leaves, free_left, free_own, has_both, held_within, other_face}
use Rattle.ocr_worker_body.proofs.Returns.{held_listed, holds_same, private_left, returned_after, runs_listed}
use Rattle.ocr_worker_body.proofs.Stepped.{stepped_work}

module _ (table : OcrTable) (program : Checked) (edt d : ℕ) (b : Body) (c0 c1 : OcrKnown) (work0 : AtWork table program c0) (g : ℕ) (ret : HasReturned table.1 edt b g c0) (least0 : least_of (held_at c0) ≡ Some d) (steps : StepsCore (table.1.limit + edt) (core_after after_list_writes d) c0 c1) where
  pub work_then : AtWork table program c1
  work_then = stepped_work table program (table.1.limit + edt) (core_after after_list_writes d) c0 c1 ret.runs.core work0 ret.runs.hand steps

  runs1 : Runs table.1 edt b c1
  runs1 = runs_listed table.1 edt d b c0 c1 ret.runs steps

  least1 : least_of (held_at c1) ≡ Some d
  least1 = ap least_of (held_listed table.1 edt d b c0 c1 ret.runs steps) ∙ least0

  low1 : is_within table.1.limit d ≡ true
  low1 = held_within table program edt d b c1 work_then runs1 least1

  pub place_then : (n : ℕ) → n ≡ d → n ≤ table.1.limit + table.1.limit
  place_then n is = let r = within_is table.1.limit d low1 in let high = r.1 in omega (arith, is, high)

  pub room_then : length c1.parts < 40
  room_then = let l = ap (λ (ps : List (ℕ × Option Part)). length ps) (steps.core ret.runs.core ret.runs.hand) in omega (arith, l)

  module _ (c2 : OcrKnown) (work2 : AtWork table program c2) (took : Took c1 c2 (d ∷ [])) (w : List (ℕ × ℕ)) where
    taken : HasTaken table.1 edt c1 c2 (d ∷ [])
    taken = took_is table.1 edt b c1 c2 (d ∷ []) runs1 took

    pub duties_then : HasFewDuties c2.view
    duties_then = kept_duties table.1 edt b c1 c2 (d ∷ []) runs1 taken

    pub has_then : (places : List ℕ) → places ≡ (table.1.limit + edt) ∷ d ∷ [] → HasAllAtHand c2 places
    has_then places is = has_both table program edt d w b c1 c2 work2 runs1 taken low1 least1 places is

    pub can_then : w ≡ private_in (holds_at c0 d) → CanMake table.1 c2.view (Free edt d w) (record { members = []; parts = in_hand c2.parts }) (in_hand c2.parts)
    can_then is = can_free table program edt d w b c1 c2 work2 runs1 taken low1 least1 g ret.holds (ap (λ (v : OcrView). says b (own_log v.log edt)) steps.view ∙ ret.ends) (private_left table.1 edt d g b c0 w ret least0 is)

    pub others_then : AreOthers table.1 edt (d ∷ [])
    others_then = other_face table program edt d w b c1 c2 work2 runs1 taken low1 least1

    module _ (c3 : OcrKnown) (done : EntersKept table.1 c2 c3 (Free edt d w) (record { members = []; parts = in_hand c2.parts })) where
      pub entered_then : HasEntered table.1 edt b c3 (d ∷ []) [] (wakes table.1.limit (Free edt d w) c2.view.parts)
      entered_then = free_leaves table program edt d w b c1 c2 work2 runs1 taken low1 least1 c3 done

      pub readied_then : ReadiesNone c0 c3
      readied_then =
          kept_readies table.1 c2 c3 _ _ done ∙ (took_readies c1 c2 (d ∷ []) took ∙ ap (λ (v : OcrView). v.debts.readied) steps.view)

      module _ (c4 : OcrKnown) (runs4 : Runs table.1 edt b c4) (log4 : c4.view.log ≡ c3.view.log) (core4 : first_in c4.parts ≡ first_in c3.parts) where
        pub held_then : held_at c4 ≡ without d (held_at c0)
        held_then = free_held table program edt d w b c1 c2 work2 runs1 taken low1 least1 c3 done c4 core4 ∙ ap (without d) (held_listed table.1 edt d b c0 c1 ret.runs steps)

        pub returned_then : (n : ℕ) → HasReturned table.1 edt b n c0 → HasReturned table.1 edt b n c4
        returned_then n r = returned_after table.1 edt n b c0 c4 r runs4
            (free_own table program edt d w b c1 c2 work2 runs1 taken low1 least1 c3 done c4 log4 ∙ ap (λ (v : OcrView). own_log v.log edt) steps.view)
            (λ e some. (let l = free_left table program edt d w b c1 c2 work2 runs1 taken low1 least1 c3 done c4 e core4 some in (
              subst (λ (hs : List (ℕ × Mode)). is_some (mode_in e hs) ≡ true) (held_listed table.1 edt d b c0 c1 ret.runs steps) l.0,
              l.1 ∙ ap (λ (h : Holds). h e) (holds_same table.1 edt d b c0 c1 ret.runs steps),
            )))
