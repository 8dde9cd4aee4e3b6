use Rattle.std.proofs.Common.{◌≡◌, ◌≤◌, length, Err, ap, inl, inr, sym, ◌∙◌, codes, subst, refl, ℕ, List}
use Rattle.ocr_io.specs.declared.source.ReadStop.TheVariants as read
use Rattle.ocr_run_execution.specs.ProgramText.{IsNoProgram, most_bytes}
use Rattle.ocr_run.specs.Headline.{text_too_big, read_fault, want_of_memory}
use Rattle.ocr_run.specs.Wants.{IsTextFor}
use Rattle.ocr_run.proofs.Told.{weaker_line, line_at, checked_text, program_for, no_program_for, first_fault, loaded_none, too_big_none, read_as, weaker_caused, none_silent, none_at}
use Rattle.ocr_run.proofs.top.serve.Goals as goal

failed_memory : read.Failed ≡ read.NoMemory → ⊥
failed_memory is = cc is

big_memory : read.TooBig ≡ read.NoMemory → ⊥
big_memory is = cc is

pub returns-in-Ok-clause-loaded : goal.returns-in-Ok-clause-loaded
returns-in-Ok-clause-loaded g c = λ load.
    let Text = IsTextFor c.args.wanted (g.S.Source.left c.args.input.now) (g.S.Source.left c.text_for.new.input) in
    let text : Text c.deref.result.now = subst Text (sym c.deref.ensures.value) c.in-Ok.ensures.text in (
      (c.in-Ok.ensures.loaded load).0,
      λ three. let a = c.answer.ensures.no_program three in loaded_none c.args.wanted _ _ c.deref.result.now a.1.0 load c.requires text a.1.1,
      c.answer.ensures.accepted.1,
    )

pub returns-in-Err-Failed-clause-loaded : goal.returns-in-Err-Failed-clause-loaded
returns-in-Err-Failed-clause-loaded g c = λ load. absurd (failed_memory (sym c.in-Err-Failed.field-0-is ∙ (c.in-Err-Failed.ensures.loaded load).1))

pub returns-in-Err-TooBig-clause-loaded : goal.returns-in-Err-TooBig-clause-loaded
returns-in-Err-TooBig-clause-loaded g c = λ load. absurd (big_memory (sym c.in-Err-TooBig.field-0-is ∙ (c.in-Err-TooBig.ensures.loaded load).1))

pub returns-in-Ok-clause-no_program : goal.returns-in-Ok-clause-no_program
returns-in-Ok-clause-no_program g c = λ is.
    let Text = IsTextFor c.args.wanted (g.S.Source.left c.args.input.now) (g.S.Source.left c.text_for.new.input) in
    let text : Text c.deref.result.now = subst Text (sym c.deref.ensures.value) c.in-Ok.ensures.text in
    let size : length c.deref.result.now ≤ most_bytes = rw c.deref.ensures.value c.in-Ok.ensures.most in
    let a = c.answer.ensures.no_program is in
    (a.0, inr (a.1.0, first_fault c.args.wanted _ _ c.deref.result.now a.1.0 c.requires text size a.1.1))

pub returns-in-Ok-clause-told : goal.returns-in-Ok-clause-told
returns-in-Ok-clause-told g c =
    let Text = IsTextFor c.args.wanted (g.S.Source.left c.args.input.now) (g.S.Source.left c.text_for.new.input) in
    let text : Text c.deref.result.now = subst Text (sym c.deref.ensures.value) c.in-Ok.ensures.text in
    let size : length c.deref.result.now ≤ most_bytes = rw c.deref.ensures.value c.in-Ok.ensures.most in
    let t = c.answer.ensures.told in
    (t.0, (t.1.0, weaker_line ⊥ _ (IsNoProgram c.deref.result.now) _ c.answer.result.journal c.answer.result.status t.0 (λ a. absurd a) (λ found none. first_fault c.args.wanted _ _ c.deref.result.now found c.requires text size none) t.1.1))

pub returns-in-Ok-clause-ran : goal.returns-in-Ok-clause-ran
returns-in-Ok-clause-ran g c =
    let Text = IsTextFor c.args.wanted (g.S.Source.left c.args.input.now) (g.S.Source.left c.text_for.new.input) in
    let text : Text c.deref.result.now = subst Text (sym c.deref.ensures.value) c.in-Ok.ensures.text in
    read_as c.args.wanted c.deref.result.now _ _ _ _ _ c.answer.result.status c.answer.result.journal text c.answer.ensures.ran

pub returns-in-Ok-clause-copied : goal.returns-in-Ok-clause-copied
returns-in-Ok-clause-copied g c = λ check is.
    let Text = IsTextFor c.args.wanted (g.S.Source.left c.args.input.now) (g.S.Source.left c.text_for.new.input) in
    let text : Text c.deref.result.now = subst Text (sym c.deref.ensures.value) c.in-Ok.ensures.text in
    record { bytes = c.deref.result.now; read = checked_text c.args.wanted _ _ c.deref.result.now check text; copied = c.answer.ensures.copied check is }

pub returns-in-Ok-clause-complete : goal.returns-in-Ok-clause-complete
returns-in-Ok-clause-complete g c = λ has reads writes.
    let Text = IsTextFor c.args.wanted (g.S.Source.left c.args.input.now) (g.S.Source.left c.text_for.new.input) in
    let text : Text c.deref.result.now = subst Text (sym c.deref.ensures.value) c.in-Ok.ensures.text in
    let program = program_for c.args.wanted _ _ c.deref.result.now c.requires text has in
    c.answer.ensures.complete program.0 program.1 writes

pub returns-in-Err-TooBig-clause-complete : goal.returns-in-Err-TooBig-clause-complete
returns-in-Err-TooBig-clause-complete g c = λ has reads writes.
    absurd (too_big_none c.args.wanted _ _ _ _ (λ load. big_memory (sym c.in-Err-TooBig.field-0-is ∙ (c.in-Err-TooBig.ensures.loaded load).1)) has
    (c.in-Err-TooBig.ensures.too_big (ap Err c.in-Err-TooBig.field-0-is)))

pub returns-in-Ok-clause-refused : goal.returns-in-Ok-clause-refused
returns-in-Ok-clause-refused g c = λ has reads.
    let Text = IsTextFor c.args.wanted (g.S.Source.left c.args.input.now) (g.S.Source.left c.text_for.new.input) in
    let text : Text c.deref.result.now = subst Text (sym c.deref.ensures.value) c.in-Ok.ensures.text in
    let size : length c.deref.result.now ≤ most_bytes = rw c.deref.ensures.value c.in-Ok.ensures.most in
    let none = no_program_for c.args.wanted _ _ c.deref.result.now text size has in
    c.answer.ensures.refused none.0 none.1

pub returns-in-Err-Failed-clause-told : goal.returns-in-Err-Failed-clause-told
returns-in-Err-Failed-clause-told g c =
    (codes "read fault\n", (c.refuse.ensures.told, line_at _ _ c.refuse.result.journal 7 c.refuse.result.status _ c.refuse.ensures.status read_fault))

pub returns-in-Err-TooBig-clause-told : goal.returns-in-Err-TooBig-clause-told
returns-in-Err-TooBig-clause-told g c = (
  codes "text too big\n",
  (
    c.refuse-in-Err-TooBig.ensures.told,
    line_at _ _ c.refuse-in-Err-TooBig.result.journal 3 c.refuse-in-Err-TooBig.result.status _ c.refuse-in-Err-TooBig.ensures.status
        (text_too_big (c.in-Err-TooBig.ensures.too_big (ap Err c.in-Err-TooBig.field-0-is))),
  ),
)

pub returns-clause-told : goal.returns-clause-told
returns-clause-told g c =
    (codes "want of memory\n", (c.refuse-in-Err-NoMemory.ensures.told, line_at _ _ c.refuse-in-Err-NoMemory.result.journal 9 c.refuse-in-Err-NoMemory.result.status _ c.refuse-in-Err-NoMemory.ensures.status want_of_memory))

pub returns-in-Err-Failed-clause-caused : goal.returns-in-Err-Failed-clause-caused
returns-in-Err-Failed-clause-caused g c = weaker_caused _ c.refuse.result.journal c.refuse.result.status c.refuse.ensures.caused

pub returns-in-Err-TooBig-clause-caused : goal.returns-in-Err-TooBig-clause-caused
returns-in-Err-TooBig-clause-caused g c = weaker_caused _ c.refuse-in-Err-TooBig.result.journal c.refuse-in-Err-TooBig.result.status c.refuse-in-Err-TooBig.ensures.caused

pub returns-clause-caused : goal.returns-clause-caused
returns-clause-caused g c = weaker_caused _ c.refuse-in-Err-NoMemory.result.journal c.refuse-in-Err-NoMemory.result.status c.refuse-in-Err-NoMemory.ensures.caused

pub returns-in-Ok-clause-unrun : goal.returns-in-Ok-clause-unrun
returns-in-Ok-clause-unrun g c = λ run. none_silent c.answer.result.journal c.answer.result.status (c.answer.ensures.unrun run)

pub returns-in-Err-Failed-clause-unrun : goal.returns-in-Err-Failed-clause-unrun
returns-in-Err-Failed-clause-unrun g c = λ run. none_at c.refuse.result.journal 7 c.refuse.result.status c.refuse.ensures.status refl

pub returns-in-Err-TooBig-clause-unrun : goal.returns-in-Err-TooBig-clause-unrun
returns-in-Err-TooBig-clause-unrun g c = λ run. none_at c.refuse-in-Err-TooBig.result.journal 3 c.refuse-in-Err-TooBig.result.status c.refuse-in-Err-TooBig.ensures.status refl

pub returns-clause-unrun : goal.returns-clause-unrun
returns-clause-unrun g c = λ run. none_at c.refuse-in-Err-NoMemory.result.journal 9 c.refuse-in-Err-NoMemory.result.status c.refuse-in-Err-NoMemory.ensures.status refl
