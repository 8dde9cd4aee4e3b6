-- One entry more among the uses of destroyed objects.
use Rattle.std.proofs.Common.{◌≡◌, ◌∙◌, ℕ, List, [], ◌∷◌, ◌++◌, Bool, if◌then◌else◌, refl, ap, codes}
use Rattle.ocr_machine_history.specs.declared.entry.Entry.{Entry}
use Rattle.ocr_machine_history.specs.declared.entry.Entry.TheVariants as an
use Rattle.ocr_machine_history.specs.History.{History}
use Rattle.ocr_journal.specs.Phrase.{Text, phrase}
use Rattle.ocr_report.specs.Destroyed.{is_destroyed, told_lines}
use Rattle.ocr_report.specs.Stale.{stale_line, first_stale, objects_of}
use Rattle.ocr_machine_history.specs.Stale.{is_stale}

first_same : (f g : ℕ → Bool) → ((n : ℕ) → f n ≡ g n) → (ns : List ℕ) → first_stale f ns ≡ first_stale g ns
first_same f g same [] = refl
first_same f g same (n ∷ ns) =
    ap (λ b. if b then n else first_stale f ns) (same n) ∙ ap (λ m. if g n then n else m) (first_same f g same ns)

pub line_same : (f g : ℕ → Bool) → ((n : ℕ) → f n ≡ g n) → (e : Entry) → stale_line f e ≡ stale_line g e
line_same f g same (an.Call t home c a w) =
    ap (λ n. if is_stale a.code then phrase (codes "call") (t ∷ n ∷ []) ++ 10 ∷ [] else []) (first_same f g same (objects_of c))
line_same f g same (an.Deliver m c) = refl
line_same f g same (an.Acquire t d) = refl
line_same f g same (an.Wait t d) = refl
line_same f g same (an.StaleAcquire t d) = refl
line_same f g same (an.Start t) = refl
line_same f g same (an.Free t d w) = refl
line_same f g same (an.End t g') = refl
line_same f g same (an.Stop why) = refl

pub lines_next : (past : History) (e : Entry) (f : ℕ → Bool) (old new : Text) → ((n : ℕ) → f n ≡ is_destroyed past n)
    → old ≡ told_lines past → new ≡ old ++ stale_line f e → new ≡ told_lines (e ∷ past)
lines_next past e f old new same is made =
    made ∙ ap (λ (x : Text). x ++ stale_line f e) is ∙ ap (λ (x : Text). told_lines past ++ x) (line_same f (is_destroyed past) same e)
