-- What a word tells of an EDT of which nothing is left to be counted.
use Rattle.std.proofs.Common.{◌≡◌, ℕ, List, reverse, sym, subst, arith}
use Rattle.ocr_turns_rule.specs.Counts.{slots_of, awaited, is_started}
use Rattle.ocr_turns_rule.specs.Meaning.{Meaning}
use Rattle.ocr_turns_rule.specs.Words.{SeesReady, SeesWord}
use Rattle.ocr_turns_rule.specs.declared.view.View.{View}
use Rattle.ocr_turns_rule.proofs.Accounts.{ready}
use Rattle.ocr_turns_rule.proofs.Slots.{none_is, true_is}
use Rattle.ocr_turns_rule.proofs.Claims.{set_all}
use Rattle.ocr_count.specs.Counts.{DownTells, LeavesSome, left_of}
use Rattle.ocr_count.specs.declared.answers.Down.{Down}
use Rattle.ocr_count.specs.declared.answers.Down.TheVariants as down

module _ {G E P N F : Type 0} (m : Meaning G E P N F) where
  ready_word : (w : View G E P N F) (n : ℕ) → SeesWord m w n 0 → SeesReady m w n
  ready_word w n sees t terms =
      let s = sees t terms in let past : List E = reverse s.0 in let f = s.2 in
      let r = ready (slots_of m t past n) f.account f.order f.word_is in let bare = r.0.bare in
      let unset = f.unset in let waits = f.waits in let started = f.started in let none = r.2 in
      (s.0, s.1, set_all m t past n r.1.0 r.1.1 (omega arith), true_is (is_started m t past n) (omega arith), none_is (awaited m t past n) (omega arith))

  pub tells : (d : Down) (w : View G E P N F) (n x : ℕ) → left_of d ≡ x → LeavesSome d → SeesWord m w n x → DownTells m d w n
  tells down.Last w n x is some_left sees = ready_word w n (subst (SeesWord m w n) (sym is) sees)
  tells (down.More left) w n x is some_left sees = (some_left, subst (SeesWord m w n) (sym is) sees)
