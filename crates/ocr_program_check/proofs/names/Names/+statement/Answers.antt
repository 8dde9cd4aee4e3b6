use Rattle.std.proofs.Common.{◌≡◌, ◌∙◌, ℕ, List, Bor, length, take, sym, ap}
use Rattle.ocr_program_check.specs.Checked.{Declarations, Outcome, Passed, leaving, statement_outcome, statements_outcome}
use Rattle.ocr_program_check.specs.Names.{texts, knows, known_in, declarations_in}
use Rattle.ocr_program_tree.specs.View.{statement_of, statements_of}
use Rattle.ocr_program_tree.specs.declared.tree.Stmt.{Stmt}
use Rattle.ocr_program_check.proofs.Texts.{length-texts, texts_take}
use Rattle.ocr_program_check.proofs.Outcomes.{front_stays, block_passes, if_second, while_body}
use Rattle.ocr_program_check.proofs.Stops.{stops_same}
use Rattle.ocr_program_check.proofs.names.Names.+statement.Goals as goal

pub block-returns-clause-ok : goal.block-returns-clause-ok
block-returns-clause-ok t c =
    let k : Declarations = declarations_in c.args.self.now in
    let m : Declarations = declarations_in c.statements.new.self in
    let inside : List (Bor (List ℕ)) = c.statements.new.self.declared.items in
    let count : c.len-before.result ≡ length k.declared = c.len-before.ensures ∙ length-texts c.args.self.now.declared in
    let front : texts c.truncate.new.self.items ≡ k.declared =
    ap texts c.truncate.ensures.items ∙ texts_take c.len-before.result inside ∙ ap (λ (n : ℕ). take n (texts inside)) count
    ∙ front_stays (known_in c.args.self.now) (statements_of c.args.stmts.now) k m c.in_ok-statements.ensures.ok in
    block_passes (known_in c.args.self.now) (statements_of c.args.stmts.now) k m (record { lets = m.lets; declared = texts c.truncate.new.self.items }) c.in_ok-statements.ensures.ok
    (λ i. record { lets = m.lets; declared = front i })

pub statement-returns-in_ok-block-in-If-clause-ok : goal.statement-returns-in_ok-block-in-If-clause-ok
statement-returns-in_ok-block-in-If-clause-ok t c =
    let k : Declarations = declarations_in c.args.self.now in
    let m : Declarations = declarations_in c.block.new.self in
    let first : leaving k (statements_outcome (known_in c.args.self.now) (statements_of c.in-If.yes.items) k) ≡ Passed m =
    ap (λ (xs : List Stmt). leaving k (statements_outcome (known_in c.args.self.now) (statements_of xs) k)) (sym c.deref.ensures.value) ∙ c.in_ok-block-in-If.ensures.ok in
    let whole : statement_outcome (known_in c.args.self.now) (statement_of c.args.stmt.now) k
    ≡ leaving m (statements_outcome (known_in c.block.new.self) (statements_of c.deref-in-If.result.now) m) =
    if_second (known_in c.args.self.now) k m c.args.stmt.now c.in-If.test c.in-If.yes c.in-If.no c.in-If.is c.in_ok-expression-in-If.ensures.ok first
    ∙ (λ i. leaving m (statements_outcome (λ x. knows (sym c.in_ok-block-in-If.ensures.same.0 i).now x) (statements_of (sym c.deref-in-If.ensures.value i)) m)) in
    rw whole c.block-in-If.ensures.ok

pub statement-returns-in_ok-block-in-If-clause-err : goal.statement-returns-in_ok-block-in-If-clause-err
statement-returns-in_ok-block-in-If-clause-err t c =
    let k : Declarations = declarations_in c.args.self.now in
    let m : Declarations = declarations_in c.block.new.self in
    let first : leaving k (statements_outcome (known_in c.args.self.now) (statements_of c.in-If.yes.items) k) ≡ Passed m =
    ap (λ (xs : List Stmt). leaving k (statements_outcome (known_in c.args.self.now) (statements_of xs) k)) (sym c.deref.ensures.value) ∙ c.in_ok-block-in-If.ensures.ok in
    let last : Outcome = leaving m (statements_outcome (known_in c.block.new.self) (statements_of c.deref-in-If.result.now) m) in
    let whole : statement_outcome (known_in c.args.self.now) (statement_of c.args.stmt.now) k ≡ last =
    if_second (known_in c.args.self.now) k m c.args.stmt.now c.in-If.test c.in-If.yes c.in-If.no c.in-If.is c.in_ok-expression-in-If.ensures.ok first
    ∙ (λ i. leaving m (statements_outcome (λ x. knows (sym c.in_ok-block-in-If.ensures.same.0 i).now x) (statements_of (sym c.deref-in-If.ensures.value i)) m)) in
    stops_same c.args.self.now c.block.new.self last (statement_outcome (known_in c.args.self.now) (statement_of c.args.stmt.now) k) c.block-in-If.result
    c.in_ok-block-in-If.ensures.same.1 whole c.block-in-If.ensures.err

pub statement-returns-in_ok-expression-in-While-clause-ok : goal.statement-returns-in_ok-expression-in-While-clause-ok
statement-returns-in_ok-expression-in-While-clause-ok t c =
    let k : Declarations = declarations_in c.args.self.now in
    let whole : statement_outcome (known_in c.args.self.now) (statement_of c.args.stmt.now) k ≡ leaving k (statements_outcome (known_in c.args.self.now) (statements_of c.deref-in-While.result.now) k) =
    while_body (known_in c.args.self.now) k c.args.stmt.now c.in-While.test c.in-While.body c.in-While.is c.in_ok-expression-in-While.ensures.ok
    ∙ ap (λ (xs : List Stmt). leaving k (statements_outcome (known_in c.args.self.now) (statements_of xs) k)) (sym c.deref-in-While.ensures.value) in
    rw whole c.block-in-While.ensures.ok

pub statement-returns-in_ok-expression-in-While-clause-err : goal.statement-returns-in_ok-expression-in-While-clause-err
statement-returns-in_ok-expression-in-While-clause-err t c =
    let k : Declarations = declarations_in c.args.self.now in
    let whole : statement_outcome (known_in c.args.self.now) (statement_of c.args.stmt.now) k ≡ leaving k (statements_outcome (known_in c.args.self.now) (statements_of c.deref-in-While.result.now) k) =
    while_body (known_in c.args.self.now) k c.args.stmt.now c.in-While.test c.in-While.body c.in-While.is c.in_ok-expression-in-While.ensures.ok
    ∙ ap (λ (xs : List Stmt). leaving k (statements_outcome (known_in c.args.self.now) (statements_of xs) k)) (sym c.deref-in-While.ensures.value) in
    rw whole c.block-in-While.ensures.err
