use Rattle.std.proofs.Common.{sym, ap, subst, ◌∙◌, arith, ◌<◌, ◌≡◌, ◌+◌, ◌-◌, ◌%◌, ℕ, Some, Option, eqb}
use prog.Atomic.{either}
use Rattle.atomic_table.specs.Table.{Me, State, Allows}
use Rattle.ocr_turns_rule.specs.Counts.{state_at, payload_at}
use Rattle.ocr_turns_rule.specs.Rule.{Holds}
use Rattle.ocr_turns_rule.specs.Words.{FitsSlots, MayStep, steps_word}
use Rattle.ocr_turns_rule.specs.declared.words.WordStep.{WordStep}
use Rattle.ocr_turns_rule.specs.declared.words.WordStep.TheVariants as word
use Rattle.ocr_turns_rule.proofs.Steps.{allows_put, allows_count, allows_made, allows_read, allows_claim, allows_park, allows_resume, allows_drop}
use Rattle.ocr_turns.proofs.turns.Turns.take_step.Goals as goal

-- the step that was chosen, on the word that was computed
as_chosen : {S V : Type 0} (holds : State S V → Type 0) (slots id : ℕ) (me : Me S V) (f : ℕ → ℕ) (then : Option (ℕ × WordStep) → ℕ → Me S V → Type 0) (n : ℕ) (a b : WordStep) (o : Option (ℕ × WordStep)) (i j : ℕ)
    → o ≡ Some (n, a) → a ≡ b → j ≡ i → Allows holds slots id me i f (then (Some (n, b))) → Allows holds slots id me j f (then o)
as_chosen holds slots id me f then n a b o i j is variant word allows =
    subst (λ z. Allows holds slots id me j f (then z)) (sym (is ∙ ap (λ z. Some (n, z)) variant)) (subst (λ z. Allows holds slots id me z f (then (Some (n, b)))) (sym word) allows)

pub store-requires : goal.store-requires
store-requires g c =
    let m = g.M.Machine.meaning in let t = c.self.inside.table.shared.key in let me = c.args.seat.now.me in let n = c.args.edt in
    let id = ap (λ x. x.0) c.self.view_is in let key = sym (ap (λ x. x.1) c.self.view_is) in
    let state = c.state_word-state.ensures.word ∙ ap (λ z. state_at z.slots n) (sym id) in
    let within = c.state_word-state.ensures.within in
    let may = subst (λ z. MayStep m z me.0 n (word.Put c.in-Put.slot c.in-Put.payload)) key (subst (MayStep m c.args.self.now.1 me.0 n) c.in-Put.is c.requires.may) in (
      c.requires.table ∙ sym id,
      (let w = ap (λ z. z.words) id in let small : c.in-Put.slot < 32 = subst FitsSlots c.in-Put.is c.requires.slot in omega arith),
      as_chosen (Holds m t) c.self.inside.table.shared.table_id.slots c.args.seat.now.id me (λ _. c.in-Put.payload) (λ z _ w. steps_word m z me c.in-Put.payload w)
          n c.args.step (word.Put c.in-Put.slot c.in-Put.payload) g.W.Chosen.step (payload_at c.self.inside.table.shared.table_id.slots n c.in-Put.slot) (c.state_word-state.result + 1 + c.in-Put.slot)
          c.requires.chosen c.in-Put.is (ap (λ z. z + 1 + c.in-Put.slot) state)
          (allows_put m t c.self.inside.table.shared.table_id.slots c.args.seat.now.id me c.requires.seat n c.in-Put.slot c.in-Put.payload may.0 may.1),
    )

pub fetch_sub-requires : goal.fetch_sub-requires
fetch_sub-requires g c =
    let m = g.M.Machine.meaning in let t = c.self.inside.table.shared.key in let me = c.args.seat.now.me in let n = c.args.edt in
    let id = ap (λ x. x.0) c.self.view_is in let key = sym (ap (λ x. x.1) c.self.view_is) in
    let state = c.state_word-state.ensures.word ∙ ap (λ z. state_at z.slots n) (sym id) in
    let within = c.state_word-state.ensures.within in
    let may = subst (λ z. MayStep m z me.0 n word.Count) key (subst (MayStep m c.args.self.now.1 me.0 n) c.in-Count.is c.requires.may) in (
      c.requires.table ∙ sym id,
      (let w = ap (λ z. z.words) id in omega arith),
      as_chosen (Holds m t) c.self.inside.table.shared.table_id.slots c.args.seat.now.id me (λ x. (x + 18446744073709551615) % 18446744073709551616) (λ z x w. steps_word m z me x w)
          n c.args.step word.Count g.W.Chosen.step (state_at c.self.inside.table.shared.table_id.slots n) c.state_word-state.result
          c.requires.chosen c.in-Count.is state
          (allows_count m t c.self.inside.table.shared.table_id.slots c.args.seat.now.id me c.requires.seat n may),
    )

pub fetch_sub-requires-in-CountMade : goal.fetch_sub-requires-in-CountMade
fetch_sub-requires-in-CountMade g c =
    let m = g.M.Machine.meaning in let t = c.self.inside.table.shared.key in let me = c.args.seat.now.me in let n = c.args.edt in
    let id = ap (λ x. x.0) c.self.view_is in let key = sym (ap (λ x. x.1) c.self.view_is) in
    let state = c.state_word-state.ensures.word ∙ ap (λ z. state_at z.slots n) (sym id) in
    let within = c.state_word-state.ensures.within in
    let may = subst (λ z. MayStep m z me.0 n (word.CountMade c.in-CountMade.slots)) key (subst (MayStep m c.args.self.now.1 me.0 n) c.in-CountMade.is c.requires.may) in (
      c.requires.table ∙ sym id,
      (let w = ap (λ z. z.words) id in omega arith),
      as_chosen (Holds m t) c.self.inside.table.shared.table_id.slots c.args.seat.now.id me (λ x. (x + (18446744073709551616 - (33 - c.in-CountMade.slots))) % 18446744073709551616) (λ z x w. steps_word m z me x w)
          n c.args.step (word.CountMade c.in-CountMade.slots) g.W.Chosen.step (state_at c.self.inside.table.shared.table_id.slots n) c.state_word-state.result
          c.requires.chosen c.in-CountMade.is state
          (allows_made m t c.self.inside.table.shared.table_id.slots c.args.seat.now.id me c.requires.seat n c.in-CountMade.slots may.0 may.1),
    )

pub load-requires : goal.load-requires
load-requires g c =
    let m = g.M.Machine.meaning in let t = c.self.inside.table.shared.key in let me = c.args.seat.now.me in let n = c.args.edt in
    let id = ap (λ x. x.0) c.self.view_is in let key = sym (ap (λ x. x.1) c.self.view_is) in
    let state = c.state_word-state.ensures.word ∙ ap (λ z. state_at z.slots n) (sym id) in
    let within = c.state_word-state.ensures.within in
    let may = subst (λ z. MayStep m z me.0 n (word.Read c.in-Read.slot)) key (subst (MayStep m c.args.self.now.1 me.0 n) c.in-Read.is c.requires.may) in (
      c.requires.table ∙ sym id,
      (let w = ap (λ z. z.words) id in omega arith),
      as_chosen (Holds m t) c.self.inside.table.shared.table_id.slots c.args.seat.now.id me (λ x. x) (λ z x w. steps_word m z me x w)
          n c.args.step (word.Read c.in-Read.slot) g.W.Chosen.step (payload_at c.self.inside.table.shared.table_id.slots n (c.in-Read.slot % 32)) (c.state_word-state.result + 1 + c.in-Read.slot % 32)
          c.requires.chosen c.in-Read.is (ap (λ z. z + 1 + c.in-Read.slot % 32) state)
          (allows_read m t c.self.inside.table.shared.table_id.slots c.args.seat.now.id me c.requires.seat n c.in-Read.slot may.0 may.1),
    )

pub compare_exchange-requires : goal.compare_exchange-requires
compare_exchange-requires g c =
    let m = g.M.Machine.meaning in let t = c.self.inside.table.shared.key in let me = c.args.seat.now.me in let n = c.args.edt in
    let id = ap (λ x. x.0) c.self.view_is in let key = sym (ap (λ x. x.1) c.self.view_is) in
    let state = c.state_word-state.ensures.word ∙ ap (λ z. state_at z.slots n) (sym id) in
    let within = c.state_word-state.ensures.within in let limit = ap (λ z. z.limit) key in let range = c.requires.edt in (
      c.requires.table ∙ sym id,
      (let w = ap (λ z. z.words) id in omega arith),
      as_chosen (Holds m t) c.self.inside.table.shared.table_id.slots c.args.seat.now.id me (λ x. either (eqb x 0) 64 x) (λ z x w. steps_word m z me x w)
          n c.args.step word.Claim g.W.Chosen.step (state_at c.self.inside.table.shared.table_id.slots n) c.state_word-state.result
          c.requires.chosen c.in-Claim.is state
          (allows_claim m t c.self.inside.table.shared.table_id.slots c.args.seat.now.id me c.requires.seat n range.0 (let r = range.1 in omega arith)),
    )

pub store-requires-in-Park : goal.store-requires-in-Park
store-requires-in-Park g c =
    let m = g.M.Machine.meaning in let t = c.self.inside.table.shared.key in let me = c.args.seat.now.me in let n = c.args.edt in
    let id = ap (λ x. x.0) c.self.view_is in let key = sym (ap (λ x. x.1) c.self.view_is) in
    let state = c.state_word-state.ensures.word ∙ ap (λ z. state_at z.slots n) (sym id) in
    let within = c.state_word-state.ensures.within in let limit = ap (λ z. z.limit) key in let range = c.requires.edt in
    let may = subst (λ z. MayStep m z me.0 n word.Park) key (subst (MayStep m c.args.self.now.1 me.0 n) c.in-Park.is c.requires.may) in (
      c.requires.table ∙ sym id,
      (let w = ap (λ z. z.words) id in omega arith),
      as_chosen (Holds m t) c.self.inside.table.shared.table_id.slots c.args.seat.now.id me (λ _. 65) (λ z _ w. steps_word m z me 65 w)
          n c.args.step word.Park g.W.Chosen.step (state_at c.self.inside.table.shared.table_id.slots n) c.state_word-state.result
          c.requires.chosen c.in-Park.is state
          (allows_park m t c.self.inside.table.shared.table_id.slots c.args.seat.now.id me c.requires.seat n range.0 (let r = range.1 in omega arith) may.0 may.1),
    )

pub store-requires-in-Resume : goal.store-requires-in-Resume
store-requires-in-Resume g c =
    let m = g.M.Machine.meaning in let t = c.self.inside.table.shared.key in let me = c.args.seat.now.me in let n = c.args.edt in
    let id = ap (λ x. x.0) c.self.view_is in let key = sym (ap (λ x. x.1) c.self.view_is) in
    let state = c.state_word-state.ensures.word ∙ ap (λ z. state_at z.slots n) (sym id) in
    let within = c.state_word-state.ensures.within in let limit = ap (λ z. z.limit) key in let range = c.requires.edt in
    let may = subst (λ z. MayStep m z me.0 n word.Resume) key (subst (MayStep m c.args.self.now.1 me.0 n) c.in-Resume.is c.requires.may) in (
      c.requires.table ∙ sym id,
      (let w = ap (λ z. z.words) id in omega arith),
      as_chosen (Holds m t) c.self.inside.table.shared.table_id.slots c.args.seat.now.id me (λ _. 0) (λ z _ w. steps_word m z me 0 w)
          n c.args.step word.Resume g.W.Chosen.step (state_at c.self.inside.table.shared.table_id.slots n) c.state_word-state.result
          c.requires.chosen c.in-Resume.is state
          (allows_resume m t c.self.inside.table.shared.table_id.slots c.args.seat.now.id me c.requires.seat n range.0 (let r = range.1 in omega arith) may),
    )

pub store-requires-in-Drop : goal.store-requires-in-Drop
store-requires-in-Drop g c =
    let m = g.M.Machine.meaning in let t = c.self.inside.table.shared.key in let me = c.args.seat.now.me in let n = c.args.edt in
    let id = ap (λ x. x.0) c.self.view_is in let key = sym (ap (λ x. x.1) c.self.view_is) in
    let state = c.state_word-state.ensures.word ∙ ap (λ z. state_at z.slots n) (sym id) in
    let within = c.state_word-state.ensures.within in let limit = ap (λ z. z.limit) key in let range = c.requires.edt in
    let may = subst (λ z. MayStep m z me.0 n word.Drop) key (subst (MayStep m c.args.self.now.1 me.0 n) c.in-Drop.is c.requires.may) in (
      c.requires.table ∙ sym id,
      (let w = ap (λ z. z.words) id in omega arith),
      as_chosen (Holds m t) c.self.inside.table.shared.table_id.slots c.args.seat.now.id me (λ _. 64) (λ z _ w. steps_word m z me 64 w)
          n c.args.step word.Drop g.W.Chosen.step (state_at c.self.inside.table.shared.table_id.slots n) c.state_word-state.result
          c.requires.chosen c.in-Drop.is state
          (allows_drop m t c.self.inside.table.shared.table_id.slots c.args.seat.now.id me c.requires.seat n range.0 (let r = range.1 in omega arith) may.0 may.1),
    )
