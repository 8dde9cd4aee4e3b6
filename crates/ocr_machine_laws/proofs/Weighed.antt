-- What is pending after an entry, each message weighed: what was pending, but for the one that the
-- entry delivers, and what it sends.
use Rattle.std.proofs.Common.{◌≡◌, ℕ, ◌+◌, ◌∷◌, ◌∙◌, ap, length}
use Rattle.ocr_guid.specs.declared.Code.{Code}
use Rattle.ocr_base.specs.Mail.{named, without}
use Rattle.ocr_machine_history.specs.declared.entry.Entry.{Entry}
use Rattle.ocr_machine_history.specs.declared.entry.Entry.TheVariants.{Deliver}
use Rattle.ocr_machine_history.specs.declared.entry.Message.{Message}
use Rattle.ocr_machine_history.specs.declared.entry.What.{What}
use Rattle.ocr_machine_history.specs.History.{History, Setting}
use Rattle.ocr_machine_parts.specs.Messages.{sends, delivered, pending}
use Rattle.ocr_machine_parts.specs.Parts.{parts_of}
use Rattle.ocr_machine_parts.specs.Legal.{IsLegal}
use Rattle.ocr_machine_laws.proofs.Named.{once_named, carried, weight, carried_append, carried_named, dropped, at_of}

module _ (f : What → ℕ) where
  abbrev pub waiting : Setting → History → ℕ
  waiting s past = carried f (pending s past)

  abbrev pub undelivered : Setting → History → Entry → ℕ
  undelivered s past e = carried f (without (delivered e) (pending s past))

  pub sent_more : (s : Setting) (past : History) (e : Entry) → waiting s (e ∷ past) ≡ undelivered s past e + weight f (sends e (parts_of s past))
  sent_more s past e =
      carried_append f (without (delivered e) (pending s past)) (named (length past) 0 (sends e (parts_of s past)))
      ∙ ap (λ (n : ℕ). undelivered s past e + n) (carried_named f (length past) 0 (sends e (parts_of s past)))

  -- what a delivery takes from those that are pending
  pub going : (s : Setting) (past : History) (m : Message) (c : Code) → IsLegal s past (Deliver m c) → undelivered s past (Deliver m c) + f m.what ≡ waiting s past
  going s past m c legal =
      let here = legal.said in
      let at = at_of (pending s past) here.0 (m.place, m.index, m.what) (m.place, m.index, m.what) here.1 here.2 in
      let unique = once_named (λ (q : History) (e : Entry). sends e (parts_of s q)) delivered past (m.place, m.index) in
      dropped f m.place m.index m.what (pending s past) here.0 at unique
