-- What was pushed in one call and the next, and where nothing was made ready.
use Rattle.std.proofs.Common.{ℕ, List, [], ◌++◌, Result, Ok, Err, OnOk, ap, sym, ◌∙◌}
use Rattle.std.proofs.lemmas.List.{append-nil, append_assoc}
use Rattle.ocr_steal.specs.declared.account.Account.{Account}
use Rattle.ocr_steal.specs.declared.hand.Hand.{Hand}
use Rattle.ocr_steal.specs.Hand.{own}
use Rattle.ocr_machine_history.specs.declared.entry.Entry.{Entry}
use Rattle.ocr_worker_machine.specs.Clerks.{OcrTerms, OcrView}
use Rattle.ocr_worker_clerk.specs.Entry as entering
use Rattle.ocr_worker_clerk.specs.Entry.{OcrKnown}
use Rattle.ocr_worker_clerk.specs.Push.{PushesReady, ReadiesNone}
use Rattle.ocr_worker_clerk.specs.Work.{EntersAs, EntersKept, Took}

pub pushes_none : (old new : OcrKnown) (h : Hand) → ReadiesNone old new → PushesReady old new h h
pushes_none old new h same = record {
  ready = [];
  readied = same ∙ sym (append-nil old.view.debts.readied);
  pushed = ap (λ (l : List ℕ). record (own h) { pushed = l }) (sym (append-nil (own h).pushed));
}

pub pushes_then : (old mid new : OcrKnown) (before between after : Hand) → PushesReady old mid before between → PushesReady mid new between after → PushesReady old new before after
pushes_then old mid new before between after one more = record {
  ready = one.ready ++ more.ready;
  readied = more.readied ∙ (ap (λ (l : List ℕ). l ++ more.ready) one.readied ∙ append_assoc old.view.debts.readied one.ready more.ready);
  pushed = more.pushed
      ∙ (ap (λ (a : Account). record a { pushed = a.pushed ++ more.ready }) one.pushed
      ∙ ap (λ (l : List ℕ). record (own before) { pushed = l }) (append_assoc (own before).pushed one.ready more.ready));
}

-- before a call that pushes, and after it, none was made ready
pub none_then : (old mid new : OcrKnown) (before after : Hand) → ReadiesNone old mid → PushesReady mid new before after → PushesReady old new before after
none_then old mid new before after none more = pushes_then old mid new before before after (pushes_none old mid before none) more

pub then_none : (old mid new : OcrKnown) (before after : Hand) → PushesReady old mid before after → ReadiesNone mid new → PushesReady old new before after
then_none old mid new before after one none = pushes_then old mid new before after after one (pushes_none mid new after none)

-- NONE is made ready by taking a part, nor by an entry
pub took_readies : (old new : OcrKnown) (places : List ℕ) → Took old new places → ReadiesNone old new
took_readies old new places took = ap (λ (v : OcrView). v.debts.readied) took.view

pub entered_readies : (t : OcrTerms) (old new : OcrKnown) (e : Entry) (h : entering.PlannedParts) → EntersAs t old new e h → ReadiesNone old new
entered_readies t old new e h enters = ap (λ (v : OcrView). v.debts.readied) enters.view ∙ append-nil old.view.debts.readied

pub kept_readies : (t : OcrTerms) (old new : OcrKnown) (e : Entry) (h : entering.PlannedParts) → EntersKept t old new e h → ReadiesNone old new
kept_readies t old new e h enters = ap (λ (v : OcrView). v.debts.readied) enters.view ∙ append-nil old.view.debts.readied

-- and by a call after such a step none, or those that are pushed
module _ {A B : Type 0} where
  pub readies_ok : (r : Result A B) (old mid new : OcrKnown) → ReadiesNone old mid → OnOk r (ReadiesNone mid new) → OnOk r (ReadiesNone old new)
  readies_ok (Ok x) old mid new none more = more ∙ none
  readies_ok (Err e) old mid new none more = more

  pub pushes_ok : (r : Result A B) (old mid new : OcrKnown) (before after : Hand) → ReadiesNone old mid → OnOk r (PushesReady mid new before after) → OnOk r (PushesReady old new before after)
  pushes_ok (Ok x) old mid new before after none more = none_then old mid new before after none more
  pushes_ok (Err e) old mid new before after none more = more
