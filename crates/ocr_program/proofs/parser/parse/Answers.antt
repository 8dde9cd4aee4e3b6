use Rattle.std.proofs.Common.{subst}
use Rattle.ocr_program_tree.specs.View.{tree_of}
use Rattle.ocr_program.specs.Answers.{Answers}
use Rattle.ocr_program.specs.declared.parser.Parsed.{Parsed}
use Rattle.ocr_program.proofs.One.{no_tree, same_place, same_tree}
use Rattle.ocr_program.proofs.parser.parse.Goals as goal

pub returns-in-Ok-Program-clause-whole_fault : goal.returns-in-Ok-Program-clause-whole_fault
returns-in-Ok-Program-clause-whole_fault c =
    λ place f. no_tree c.args.bytes.now c.args.tokens.now place (tree_of c.in-Ok-Program.program) f
    (subst (λ (p : Parsed). Answers p c.args.bytes.now c.args.tokens.now) c.in-Ok-Program.field-0-is c.in-Ok-Program.ensures)

pub returns-in-Ok-Fault-clause-whole_fault : goal.returns-in-Ok-Fault-clause-whole_fault
returns-in-Ok-Fault-clause-whole_fault c =
    λ place f. same_place c.args.bytes.now c.args.tokens.now c.in-Ok-Fault.place place
    (subst (λ (p : Parsed). Answers p c.args.bytes.now c.args.tokens.now) c.in-Ok-Fault.field-0-is c.in-Ok-Fault.ensures) f

pub returns-in-Ok-Program-clause-whole_tree : goal.returns-in-Ok-Program-clause-whole_tree
returns-in-Ok-Program-clause-whole_tree c =
    λ program t. same_tree c.args.bytes.now c.args.tokens.now (tree_of c.in-Ok-Program.program) program
    (subst (λ (p : Parsed). Answers p c.args.bytes.now c.args.tokens.now) c.in-Ok-Program.field-0-is c.in-Ok-Program.ensures) t

pub returns-in-Ok-Fault-clause-whole_tree : goal.returns-in-Ok-Fault-clause-whole_tree
returns-in-Ok-Fault-clause-whole_tree c =
    λ program t. no_tree c.args.bytes.now c.args.tokens.now c.in-Ok-Fault.place program
    (subst (λ (p : Parsed). Answers p c.args.bytes.now c.args.tokens.now) c.in-Ok-Fault.field-0-is c.in-Ok-Fault.ensures) t
