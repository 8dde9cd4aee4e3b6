use Rattle.std.proofs.Common.{◌∙◌, ap, arith, List, ℕ, ◌++◌, ◌∷◌, []}
use Rattle.ocr_acquire.proofs.Writes.{length_written}
use Rattle.ocr_datablock.specs.Lent.{words_in}
use Rattle.ocr_replay_body.proofs.Held.{word_next, all_words}
use Rattle.ocr_replay_body.proofs.holds.words_of.Goals as goal

pub loop-word-preserved : goal.loop-word-preserved
loop-word-preserved c =
    let l = c.args.lent.now in
    record {
      so_far = c.in_ok-push.ensures.items ∙ ap (λ (xs : List ℕ). xs ++ c.load.result ∷ []) c.loop-word.invariant.so_far
          ∙ word_next (words_in l) c.loop-word.word c.load.result (omega (arith, length_written l.writes l.began, c.loop-word-test.true, c.loop-word.auto.word-end, c.words-word-end.ensures)) c.load.ensures.value;
      len = omega (arith, c.in_ok-push.ensures.len, c.loop-word.invariant.len);
    }

pub returns-clause-words : goal.returns-clause-words
returns-clause-words c =
    let l = c.args.lent.now in
    c.loop-word.invariant.so_far ∙ all_words (words_in l) c.loop-word.word (omega (arith, length_written l.writes l.began, c.loop-word-test.false, c.loop-word.auto.word-end, c.words-word-end.ensures))
