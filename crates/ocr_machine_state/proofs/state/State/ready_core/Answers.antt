use Rattle.std.proofs.Common.{◌≡◌, ◌<◌, ◌+◌, ℕ, length, true, sym, ◌∙◌}
use Rattle.ocr_machine_parts.specs.Progress.{with_phase, made_ready}
use Rattle.ocr_machine_parts.specs.Kinds.{on_core}
use Rattle.ocr_machine_parts.specs.Taken.{is_within}
use Rattle.ocr_machine_parts.specs.declared.part.Part.TheVariants as part
use Rattle.ocr_machine_codes.specs.Lookup.{part_at}
use Rattle.ocr_machine_state.specs.State.{state_in, plan_on}
use Rattle.ocr_machine_state.proofs.Tables.{twice_set, filling_within, filling_below, ready_before, ready_state, ready_placed}
use Rattle.ocr_machine_state.proofs.Wholes.{same_part}
use Rattle.ocr_machine_state.proofs.state.State.ready_core.Goals as goal

pub returns-then-not-is_filling-clause-parts : goal.returns-then-not-is_filling-clause-parts
returns-then-not-is_filling-clause-parts c = ready_before (state_in c.args.self.now) c.args.edt (plan_on c.args.self.now c.args.edt) (sym c.is_filling.ensures ∙ c.if-not-is_filling.true)

pub returns-clause-parts : goal.returns-clause-parts
returns-clause-parts c =
    let limit : ℕ = c.args.self.now.limit in
    let t : ℕ = c.args.edt in
    let ps = c.args.self.now.parts.items in
    let ms = plan_on c.args.self.now t in
    let within : is_within limit t ≡ true = filling_within limit ps t (sym c.is_filling.ensures ∙ c.if-not-is_filling.false) in
    let below : limit + t < length ps = filling_below limit ps t (sym c.is_filling.ensures ∙ c.if-not-is_filling.false) in
    let value : c.replace-part.result ≡ part_at ps (limit + t) = c.replace-part.ensures.value ∙ same_part ps (limit + t) c.index_mut.result.now below c.index_mut.ensures.value in
    ready_state limit ps c.set_at.new.parts.items t ms within
    (λ n. rw (c.set_at.ensures.parts, c.replace-part.ensures.after, c.ready_part.ensures, value, c.in_ok-members.ensures.plan)
    (twice_set ps (limit + t) n part.Vacant (on_core (part_at ps (limit + t)) (with_phase (made_ready ms))) below))

pub returns-clause-placed : goal.returns-clause-placed
returns-clause-placed c =
    let limit : ℕ = c.args.self.now.limit in
    let t : ℕ = c.args.edt in
    let ps = c.args.self.now.parts.items in
    let ms = plan_on c.args.self.now t in
    let below : limit + t < length ps = filling_below limit ps t (sym c.is_filling.ensures ∙ c.if-not-is_filling.false) in
    let value : c.replace-part.result ≡ part_at ps (limit + t) = c.replace-part.ensures.value ∙ same_part ps (limit + t) c.index_mut.result.now below c.index_mut.ensures.value in
    ready_placed limit ps c.set_at.new.parts.items t ms
    (λ n. rw (c.set_at.ensures.parts, c.replace-part.ensures.after, c.ready_part.ensures, value, c.in_ok-members.ensures.plan)
    (twice_set ps (limit + t) n part.Vacant (on_core (part_at ps (limit + t)) (with_phase (made_ready ms))) below))
