-- How far an EDT came.
use Rattle.std.proofs.Common.{◌≡◌, ℕ, List, [], ◌∷◌, ◌++◌, ◌∙◌, ap}
use Rattle.std.proofs.lemmas.List.{append_assoc}
use Rattle.ocr_worker_clerk.specs.Entry.{OcrKnown}
use Rattle.ocr_worker_clerk.specs.Work.{Stays}
use Rattle.ocr_machine_history.specs.declared.entry.Entry.{Entry}
use Rattle.ocr_worker.specs.Progress.{HasEntered}

-- an entry that comes after others
pub entered_after : (a b c : OcrKnown) (number : ℕ) (e : Entry) (P : Entry → Type 0) (between : List (ℕ × Entry)) → Stays a b → c.view.log ≡ b.view.log ++ between ++ (number, e) ∷ [] → P e → HasEntered a c P
entered_after a b c number e P between stays log is = record {
  more = stays.log.0 ++ between;
  number = number;
  entry = e;
  log = log ∙ (ap (λ (l : List (ℕ × Entry)). l ++ between ++ (number, e) ∷ []) stays.log.1 ∙ ap (λ (l : List (ℕ × Entry)). l ++ (number, e) ∷ []) (append_assoc a.view.log stays.log.0 between));
  is = is;
}
