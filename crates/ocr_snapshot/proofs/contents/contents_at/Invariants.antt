use Rattle.std.proofs.Common.{◌≡◌, take, option_map}
use Rattle.ocr_machine_history.specs.History.{Setting, history_of}
use Rattle.ocr_snapshot.specs.Contents.{words_in}
use Rattle.ocr_snapshot.proofs.contents.contents_at.Given as goal

abbrev pub invariant-loop-entry : goal.invariant-loop-entry
invariant-loop-entry l =
    (s : Setting) → s.args ≡ l.args → option_map (λ words. words.items) l.words ≡ words_in s (history_of (take l.entry-index l.entered)) l.block
