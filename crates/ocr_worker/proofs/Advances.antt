-- What stays over a worker's calls.
use Rattle.std.proofs.Common.{◌≡◌, ℕ, refl, sym, ◌∙◌, subst, arith}
use Rattle.ocr_worker.specs.Progress.{AdvanceTells, IsBetween, PushesBy}
use Rattle.ocr_worker.specs.declared.progress.Advanced.{Advanced}
use Rattle.ocr_worker.specs.declared.progress.Advanced.TheVariants as advanced
use Rattle.ocr_worker_clerk.specs.Entry.{OcrKnown}
use Rattle.ocr_worker_clerk.specs.Push.{IsPushed, PushesReady}
use Rattle.ocr_worker_clerk.specs.Work.{OcrTable, Stays}
use Rattle.ocr_body_code.specs.declared.checked.Checked.{Checked}
use Rattle.ocr_steal.specs.declared.hand.Hand.{Hand}
use Rattle.ocr_steal.specs.Hand.{IsSame}
use Rattle.ocr_worker_clerk.proofs.Goes.{stays_both, stays_self}

pub same_hand : (h : Hand) → IsSame h h
same_hand h = record { number = refl; pool = refl; room_kept = omega arith }

pub same_both : (a b c : Hand) → IsSame a b → IsSame b c → IsSame a c
same_both a b c p q = record {
  number = q.number ∙ p.number;
  pool = q.pool ∙ p.pool;
  room_kept = (let x = p.room_kept in let y = q.room_kept in omega (arith, x, y));
}

pub pushed_self : (h : Hand) → IsPushed h h
pushed_self h = record { same = same_hand h; knows_same = refl; misses = refl }

pub pushed_both : (a b c : Hand) → IsPushed a b → IsPushed b c → IsPushed a c
pushed_both a b c p q = record {
  same = same_both a b c p.same q.same;
  knows_same = q.knows_same ∙ p.knows_same;
  misses = q.misses ∙ p.misses;
}

-- the worker is between its calls, and its seat and its hand are the same
pub record GoesOn (table : OcrTable) (program : Checked) (old now : OcrKnown) (first hand : Hand) : Type 0 where
  pub between : IsBetween table program now
  pub stays : Stays old now
  pub same : IsSame first hand

pub goes_first : (table : OcrTable) (program : Checked) (c : OcrKnown) (h : Hand) → IsBetween table program c → GoesOn table program c c h h
goes_first table program c h between = record { between = between; stays = stays_self c; same = same_hand h }

pub goes_next : (table : OcrTable) (program : Checked) (old now new : OcrKnown) (first hand next : Hand) → GoesOn table program old now first hand → IsBetween table program new → Stays now new → IsSame hand next → GoesOn table program old new first next
goes_next table program old now new first hand next goes between stays same = record {
  between = between;
  stays = stays_both old now new goes.stays stays;
  same = same_both first hand next goes.same same;
}

-- What a call leaves is between the calls, where it was not told that the run has ended.
pub came_between : (table : OcrTable) (program : Checked) (worker edt : ℕ) (a : Advanced) (old new : OcrKnown) → ((word : ℕ) → a ≡ advanced.Closed word → ⊥) → IsBetween table program old → AdvanceTells table program worker a edt old new → IsBetween table program new
came_between table program worker edt (advanced.Lost word) old new open_run was told = subst (IsBetween table program) (sym told.0) was
came_between table program worker edt advanced.Parked old new open_run was told = told.1.0
came_between table program worker edt advanced.Ended old new open_run was told = told.1.0
came_between table program worker edt (advanced.Closed word) old new open_run was told = absurd (open_run word refl)

-- What a hand pushed meanwhile is what the clerk made ready, where it was not told so.
pub pushed_by : (a : Advanced) (old new : OcrKnown) (before after : Hand) → ((word : ℕ) → a ≡ advanced.Closed word → ⊥) → PushesBy a old new before after → PushesReady old new before after
pushed_by (advanced.Lost word) old new before after open_run by = by
pushed_by advanced.Parked old new before after open_run by = by
pushed_by advanced.Ended old new before after open_run by = by
pushed_by (advanced.Closed word) old new before after open_run by = absurd (open_run word refl)
