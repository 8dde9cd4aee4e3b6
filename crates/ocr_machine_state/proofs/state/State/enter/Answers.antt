use Rattle.std.proofs.Common.{◌∙◌, ◌≡◌, ◌<◌, ◌-◌, ◌^◌, sym, subst, arith}
use Rattle.ocr_machine_parts.specs.Kinds.{counted_on}
use Rattle.ocr_machine_parts.specs.declared.part.Part.{Part}
use Rattle.ocr_machine_state.specs.State.{state_in, face_on}
use Rattle.ocr_machine_state.proofs.Tables.{legal_ready, face_readied, entered, sends_readied, resumes_readied}
use Rattle.ocr_machine_state.proofs.state.State.enter.Goals as goal
use Rattle.std.proofs.Common.{ap}
use Rattle.ocr_machine_parts.specs.Parts.{Parts}
use Rattle.ocr_machine_parts.specs.Messages.{sends, resumes}

pub change-requires-clause-legal : goal.change-requires-clause-legal
change-requires-clause-legal c = legal_ready c.requires.before.0 c.requires.before.1 c.args.entry.now c.args.self.now c.make_ready.new.self c.requires.before.2 c.make_ready.ensures.limit c.in_ok-make_ready.ensures.parts

pub change-requires-clause-counts : goal.change-requires-clause-counts
change-requires-clause-counts c = λ g.
    let same : (state_in c.make_ready.new.self).face g ≡ face_on c.args.self.now g =
    ap (λ (f : Parts). f.face g) c.in_ok-make_ready.ensures.parts ∙ face_readied _ c.args.entry.now (state_in c.args.self.now) g in
    subst (λ (x : Part). counted_on x < 2 ^ 64 - 1) (sym same) (c.requires.counts g)

pub change-requires-clause-whole : goal.change-requires-clause-whole
change-requires-clause-whole c =
    omega (arith, c.make_ready.ensures.limit, c.make_ready.ensures.len, c.requires.before.2.of.whole)

pub returns-clause-table : goal.returns-clause-table
returns-clause-table c = λ s past before. entered c.machine_laws.ensures.after s past c.args.entry.now c.args.self.now c.make_ready.new.self c.change.new.self c.note.new.self before
    c.make_ready.ensures.limit c.make_ready.ensures.sets c.in_ok-make_ready.ensures.parts c.in_ok-make_ready.ensures.placed
    c.change.ensures.limit c.change.ensures.sets c.in_ok-entered.ensures.whole c.in_ok-entered.ensures.parts c.in_ok-entered.ensures.placed
    c.note.ensures.limit c.note.ensures.parts c.in_ok-note.ensures.sets

pub returns-clause-messages : goal.returns-clause-messages
returns-clause-messages c = c.in_ok-entered.ensures.messages ∙ ap (λ (f : Parts). sends c.args.entry.now f) c.in_ok-make_ready.ensures.parts ∙ sends_readied _ c.args.entry.now _

pub returns-clause-resumed : goal.returns-clause-resumed
returns-clause-resumed c = c.in_ok-entered.ensures.resumed ∙ ap (λ (f : Parts). resumes c.args.entry.now f) c.in_ok-make_ready.ensures.parts ∙ resumes_readied _ c.args.entry.now _
