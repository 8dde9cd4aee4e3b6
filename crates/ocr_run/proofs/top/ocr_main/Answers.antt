use Rattle.std.proofs.Common.{◌≡◌, ◌⊎◌, codes, subst, sym}
use Rattle.ocr_run_command.specs.Form.{texts_of}
use Rattle.ocr_run_command.specs.declared.wanted.Wanted.{Wanted}
use Rattle.ocr_run_command.specs.declared.wanted.Wanted.TheVariants as want
use Rattle.ocr_run.specs.Headline.{HasProgram, HasNoProgram, IsComplete, words_refused, want_of_memory}
use Rattle.ocr_run.specs.Wants.{IsLoad}
use Rattle.ocr_run.proofs.Told.{line_at, servable, headline_of, check_of, asked_of, caused_as, weaker_caused, given_of}
use Rattle.ocr_run.proofs.top.ocr_main.Goals as goal

pub serve-requires : goal.serve-requires
serve-requires g c = (c.type_bounds.sync-R, (c.type_bounds.sync-G, servable (texts_of c.args.words.now) c.in-Ok.wanted c.in-Ok.ensures.ok))

pub returns-in-Ok-clause-headline : goal.returns-in-Ok-clause-headline
returns-in-Ok-clause-headline g c =
    headline_of (texts_of c.args.words.now) c.in-Ok.wanted _ _ _ _ _ c.serve.result.status c.serve.result.journal c.in-Ok.ensures.ok c.serve.ensures.ran

pub returns-in-Ok-clause-check : goal.returns-in-Ok-clause-check
returns-in-Ok-clause-check g c = λ asked is. c.serve.ensures.copied (check_of (texts_of c.args.words.now) c.in-Ok.wanted c.in-Ok.ensures.only asked) is

pub returns-in-Ok-clause-caused : goal.returns-in-Ok-clause-caused
returns-in-Ok-clause-caused g c =
    caused_as _ _ c.serve.result.journal c.serve.result.status (asked_of (texts_of c.args.words.now) c.in-Ok.wanted c.in-Ok.ensures.ok) c.serve.ensures.caused

pub returns-in-Ok-clause-complete : goal.returns-in-Ok-clause-complete
returns-in-Ok-clause-complete g c = λ wanted asked has reads writes.
    let same : wanted ≡ c.in-Ok.wanted = c.in-Ok.ensures.only wanted asked in
    subst (λ (w : Wanted). (c.serve.result.status ≡ 9) ⊎ IsComplete w c.serve.result.journal c.serve.result.status) (sym same)
    (c.serve.ensures.complete (subst (λ (w : Wanted). HasProgram w (g.S.Source.left c.args.input.now)) same has) reads writes)

pub returns-in-Ok-clause-refused : goal.returns-in-Ok-clause-refused
returns-in-Ok-clause-refused g c = λ wanted asked has reads.
    c.serve.ensures.refused (subst (λ (w : Wanted). HasNoProgram w (g.S.Source.left c.args.input.now)) (c.in-Ok.ensures.only wanted asked) has) reads

pub returns-in-Ok-clause-loaded : goal.returns-in-Ok-clause-loaded
returns-in-Ok-clause-loaded g c = λ number options asked. c.serve.ensures.loaded (subst IsLoad (c.in-Ok.ensures.only (want.Load number options) asked) tt)

pub returns-in-Err-Refused-clause-told : goal.returns-in-Err-Refused-clause-told
returns-in-Err-Refused-clause-told g c =
    (codes "words refused\n", (c.refuse.ensures.told, line_at _ _ c.refuse.result.journal 2 c.refuse.result.status _ c.refuse.ensures.status words_refused))

pub returns-in-Err-NoMemory-clause-told : goal.returns-in-Err-NoMemory-clause-told
returns-in-Err-NoMemory-clause-told g c =
    (codes "want of memory\n", (c.refuse-in-Err-NoMemory.ensures.told, line_at _ _ c.refuse-in-Err-NoMemory.result.journal 9 c.refuse-in-Err-NoMemory.result.status _ c.refuse-in-Err-NoMemory.ensures.status want_of_memory))

pub returns-in-Err-Refused-clause-caused : goal.returns-in-Err-Refused-clause-caused
returns-in-Err-Refused-clause-caused g c = weaker_caused _ c.refuse.result.journal c.refuse.result.status c.refuse.ensures.caused

pub returns-in-Err-NoMemory-clause-caused : goal.returns-in-Err-NoMemory-clause-caused
returns-in-Err-NoMemory-clause-caused g c = weaker_caused _ c.refuse-in-Err-NoMemory.result.journal c.refuse-in-Err-NoMemory.result.status c.refuse-in-Err-NoMemory.ensures.caused

pub returns-in-Ok-clause-given : goal.returns-in-Ok-clause-given
returns-in-Ok-clause-given g c = λ is. given_of (texts_of c.args.words.now) c.in-Ok.wanted c.serve.result.journal c.serve.result.status c.in-Ok.ensures.ok c.serve.ensures.unrun is
