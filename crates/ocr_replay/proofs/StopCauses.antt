-- What is told of EDTs tells of Stops.
use Rattle.std.proofs.Common.{◌≡◌, ◌<◌, ◌≤◌, ℕ, ◌+◌, nat_lt, List, [], ◌∷◌, length, slice_index_or, Bool, true, false, ◌&&◌, if◌then◌else◌, nat_le, Option, Some, None, arith, refl, sym, ◌∙◌, ap, subst}
use Rattle.std.proofs.lemmas.Grind.{common_steps}
use Rattle.std.proofs.lemmas.Bool.{and_parts}
use Rattle.ocr_edt.specs.declared.Edt.{Edt}
use Rattle.ocr_edt.specs.declared.Edt.TheVariants as phase
use Rattle.ocr_edt.specs.Phases.{least_of}
use Rattle.ocr_acquire.specs.declared.Mode.{Mode}
use Rattle.ocr_guid.specs.declared.Code.TheVariants as code
use Rattle.ocr_body_meaning.specs.Call.{is_creation}
use Rattle.ocr_body_meaning.specs.Behaviour.{Behaviour, Ends, Stops, Asks, IsNext, IsNextWith}
use Rattle.ocr_body_meaning.specs.Holds.{Holds, is_done, private_in}
use Rattle.ocr_body_meaning.specs.declared.call.BodyStop.{BodyStop}
use Rattle.ocr_body_meaning.specs.declared.call.Call as body
use Rattle.ocr_body_meaning.specs.declared.call.Answer.{Answer}
use Rattle.ocr_machine_history.specs.declared.entry.Entry.{Entry}
use Rattle.ocr_machine_history.specs.declared.entry.Entry.TheVariants.{Call, Free, End}
use Rattle.ocr_machine_history.specs.Edts.{IsRunning}
use Rattle.ocr_machine_history.specs.History.{History, Setting}
use Rattle.ocr_machine_history.specs.Weight.{call_weight}
use Rattle.ocr_machine_parts.specs.declared.part.Part.{Part}
use Rattle.ocr_machine_parts.specs.declared.part.Part.TheVariants as part
use Rattle.ocr_machine_parts.specs.Bodies.{says_next}
use Rattle.ocr_machine_parts.specs.Codes.{code_of}
use Rattle.ocr_machine_parts.specs.Kinds.{is_running, work_of, holds_of}
use Rattle.ocr_machine_parts.specs.Legal.{IsRun, IsWeighed, carried}
use Rattle.ocr_machine_parts.specs.LegalOn.{IsCallOn}
use Rattle.ocr_machine_parts.specs.Parts.{Parts, parts_of}
use Rattle.ocr_machine_parts.specs.Taken.{is_within}
use Rattle.ocr_machine_effects.specs.All.{core_at}
use Rattle.ocr_machine_state.specs.State.{face_on, core_on, IsStateOf}
use Rattle.ocr_machine_state.specs.declared.state.State.{State}
use Rattle.ocr_machine_laws.specs.Marks.{mark, mark_in}
use Rattle.ocr_machine_laws.proofs.Stages.{told_law}
use Rattle.ocr_machine_laws.proofs.Works.{freeing_law}
use Rattle.ocr_replay_legality.specs.Tests.{Whether}
use Rattle.ocr_replay_legality.specs.Asked.{CanWeigh, weight_with}
use Rattle.ocr_replay_legality.proofs.Goes.{not_both, turned}
use Rattle.ocr_replay_body.specs.Holds.{count_in}
use Rattle.ocr_replay_body.specs.Judge.{IsToldAs}
use Rattle.ocr_replay_body.specs.declared.judge.Told.{Told}
use Rattle.ocr_replay_body.specs.declared.judge.Told.TheVariants as told
use Rattle.ocr_replay_body.specs.declared.judge.Verdict.{Verdict}
use Rattle.ocr_replay.specs.Stops.{IsFront, IsStopping, CreatesBy, Creates, count_of, WeighsBy, IsBodyOf, RunsWeighed}
use Rattle.ocr_replay_body.proofs.Steps.{next_same}
use Rattle.ocr_replay_legality.proofs.Asks.{sure}

pub two : (a b r : Bool) (A B P : Type 0) → r ≡ (a && b) → Whether a A → (A → Whether b B) → (A → B → P) → (P → A × B) → Whether r P
two a b r A B P is one other to back = turned r (a && b) P is (record {
  yes = λ on. (let both = and_parts a b on in let here = one.yes both.0 in to here ((other here).yes both.1));
  no = λ off p. (let parts = back p in not_both a b off (sure a A one parts.0) (sure b B (other parts.0) parts.1));
})

-- WHO RUNS
runs_stage : (x : Part) → is_running x ≡ true → (nat_lt 1 (mark x).0 ≡ true) × (nat_lt 2 (mark x).0 ≡ false)
runs_stage (part.Core c) is = by_edt c.edt is
  where
    by_edt : (e : Edt) → is_running (part.Core (record { function = c.function; params = c.params; edt = e; loans = c.loans })) ≡ true → (nat_lt 1 (mark_in e).0 ≡ true) × (nat_lt 2 (mark_in e).0 ≡ false)
    by_edt (phase.Running w) is = (refl, refl)
    by_edt other is = cc is
runs_stage other is = cc is

stage_is : (x : Part) → nat_lt 1 (mark x).0 ≡ true → nat_lt 2 (mark x).0 ≡ false → is_running x ≡ true
stage_is (part.Core c) on off = by_edt c.edt on off
  where
    by_edt : (e : Edt) → nat_lt 1 (mark_in e).0 ≡ true → nat_lt 2 (mark_in e).0 ≡ false → is_running (part.Core (record { function = c.function; params = c.params; edt = e; loans = c.loans })) ≡ true
    by_edt (phase.Running w) on off = refl
    by_edt (phase.Filling i) on off = cc on
    by_edt (phase.Acquiring p) on off = cc on
    by_edt (phase.Waiting p) on off = cc on
    by_edt (phase.Ended i) on off = cc off
stage_is other on off = cc on

pub running_on : (s : Setting) (past : History) (t : ℕ) → IsRun s past → is_running ((parts_of s past).core t) ≡ true → IsRunning past t
running_on s past t run is =
    let marked = told_law s past run t in
    let stage = runs_stage ((parts_of s past).core t) is in
    record { started = marked.has_started ∙ stage.0; not_ended = marked.has_ended ∙ stage.1 }

pub on_running : (s : Setting) (past : History) (t : ℕ) → IsRun s past → IsRunning past t → is_running ((parts_of s past).core t) ≡ true
on_running s past t run runs =
    let marked = told_law s past run t in
    stage_is ((parts_of s past).core t) (sym marked.has_started ∙ runs.started) (sym marked.has_ended ∙ runs.not_ended)

runs_tested : (s : Setting) (past : History) (table : State) (t : ℕ) (running : Bool) → IsStateOf s past table → IsRun s past → running ≡ is_running (core_on table t) → Whether running (IsRunning past t)
runs_tested s past table t running of run is =
    let here : running ≡ is_running ((parts_of s past).core t) = is ∙ ap (λ (f : Parts). is_running (f.core t)) of.parts in
    record { yes = λ on. running_on s past t run (sym here ∙ on); no = λ off runs. cc (here, off, on_running s past t run runs) }

-- a number of an EDT that runs
pub no_core : (limit t : ℕ) (ps : List Part) → is_within limit t ≡ false → core_at limit ps t ≡ part.Vacant
no_core limit t ps off = rw off refl

pub running_within : (s : Setting) (past : History) (rows : _) (table : State) (vs : List Verdict) (t : ℕ) → IsFront s past table rows vs → IsRunning past t → is_within table.limit t ≡ true
running_within s past rows table vs t front runs = elim (is_within table.limit t) as (λ b. is_within table.limit t ≡ b → b ≡ true) [
  | true ↦ λ _. refl
  | false ↦ λ off. (
      let core_is : core_on table t ≡ (parts_of s past).core t = ap (λ (f : Parts). f.core t) front.of.parts in
      let vacant : (parts_of s past).core t ≡ part.Vacant = sym core_is ∙ no_core table.limit t table.parts.items off in
      let on : is_running ((parts_of s past).core t) ≡ true = on_running s past t front.run runs in
      cc (ap is_running vacant, on))
] refl

outside : (limit length t : ℕ) → limit < length → length ≤ t → nat_le t limit ≡ true → ⊥
outside limit length t long past within = grind (arith, common_steps)

not_running : (s : Setting) (past : History) (rows : _) (table : State) (vs : List Verdict) (t : ℕ) → IsFront s past table rows vs → length vs ≤ t → IsRunning past t → ⊥
not_running s past rows table vs t front out runs =
    let within = running_within s past rows table vs t front runs in
    let small : nat_le t s.limit ≡ true = subst (λ (n : ℕ). nat_le t n ≡ true) front.of.limit (and_parts (nat_le 1 t) (nat_le t table.limit) within).1 in
    outside s.limit (length vs) t front.long out small

-- BODIES' STOPS
told_stop : (b : Behaviour) (said : Told) (why : BodyStop) → IsToldAs b said → said ≡ told.Stopped why → b ≡ Stops why
told_stop b said why is so = subst (IsToldAs b) so is

stop_told : (b : Behaviour) (said : Told) (why : BodyStop) → IsToldAs b said → b ≡ Stops why → said ≡ told.Stopped why
stop_told b (told.Ended counts) why is stops = cc (is.2, stops)
stop_told b (told.Asks c count) why is stops = absurd (subst (IsNextWith c is.0) stops is.1)
stop_told b (told.Stopped other) why is stops = (let same : Stops other ≡ Stops why = sym is ∙ stops in ap (λ (w : BodyStop). told.Stopped w) (ap why_of same))
  where
    why_of : Behaviour → BodyStop
    why_of (Stops w) = w
    why_of elsewhere = why

pub stop_by : (s : Setting) (past : History) (rows : _) (table : State) (vs : List Verdict) (v : Verdict) (t : ℕ) (why : BodyStop) (running so result : Bool) → IsFront s past table rows vs → v ≡ slice_index_or vs t v → running ≡ is_running (core_on table t)
    → Whether so (v.told ≡ told.Stopped why) → result ≡ (running && so) → Whether result (IsStopping s past t why)
stop_by s past rows table vs v t why running so result front at is_running tested is = two running so result (IsRunning past t) (v.told ≡ told.Stopped why) (IsStopping s past t why) is
    (runs_tested s past table t running front.of front.run is_running)
    (λ runs. tested)
    (λ runs said. record { running = runs; stops = told_stop (says_next s past t) v.told why (front.told t runs v at) said })
    (λ stopping. (stopping.running, stop_told (says_next s past t) v.told why (front.told t stopping.running v at) stopping.stops))

pub stop_none : (s : Setting) (past : History) (rows : _) (table : State) (vs : List Verdict) (t : ℕ) (why : BodyStop) → IsFront s past table rows vs → length vs ≤ t → Whether false (IsStopping s past t why)
stop_none s past rows table vs t why front out = record { yes = λ on. cc on; no = λ _ stopping. not_running s past rows table vs t front out stopping.running }

-- CREATIONS
next_with : (b : Behaviour) (c : body.Call) (private : List (ℕ × ℕ)) → IsNextWith c private b → IsNext c b
next_with (Asks made writes go) c private is = is.0
next_with other c private is = absurd is

same_next : (b : Behaviour) (c d : body.Call) → IsNext c b → IsNext d b → c ≡ d
same_next (Asks made writes go) c d one other = sym one ∙ other
same_next other c d one two = absurd one

create_yes : (s : Setting) (past : History) (t : ℕ) (said : Told) → IsRunning past t → IsToldAs (says_next s past t) said → CreatesBy (parts_of s past).face t said → Creates s past t
create_yes s past t (told.Asks c count) runs is can = (c, record { running = runs; next = next_with (says_next s past t) c is.0 is.1; creation = can.0; accepted = can.1 })
create_yes s past t other runs is can = absurd can

create_no : (s : Setting) (past : History) (t : ℕ) (said : Told) → IsToldAs (says_next s past t) said → Creates s past t → CreatesBy (parts_of s past).face t said
create_no s past t (told.Ended counts) is creates = absurd (subst (IsNext creates.0) is.2 creates.1.next)
create_no s past t (told.Stopped why) is creates = absurd (subst (IsNext creates.0) is creates.1.next)
create_no s past t (told.Asks c count) is creates =
    subst (λ (d : body.Call). (is_creation d ≡ true) × (code_of t (parts_of s past).face d ≡ code.Done)) (same_next (says_next s past t) creates.0 c creates.1.next (next_with (says_next s past t) c is.0 is.1)) (creates.1.creation, creates.1.accepted)

pub create_by : (s : Setting) (past : History) (rows : _) (table : State) (vs : List Verdict) (v : Verdict) (t : ℕ) (running so result : Bool) → IsFront s past table rows vs → v ≡ slice_index_or vs t v → running ≡ is_running (core_on table t)
    → Whether so (CreatesBy (face_on table) t v.told) → result ≡ (running && so) → Whether result (Creates s past t)
create_by s past rows table vs v t running so result front at is_running tested is = two running so result (IsRunning past t) (CreatesBy (parts_of s past).face t v.told) (Creates s past t) is
    (runs_tested s past table t running front.of front.run is_running)
    (λ runs. subst (λ (f : Parts). Whether so (CreatesBy f.face t v.told)) front.of.parts tested)
    (λ runs said. create_yes s past t v.told runs (front.told t runs v at) said)
    (λ creates. (creates.1.running, create_no s past t v.told (front.told t creates.1.running v at) creates))

pub create_none : (s : Setting) (past : History) (rows : _) (table : State) (vs : List Verdict) (t : ℕ) → IsFront s past table rows vs → length vs ≤ t → Whether false (Creates s past t)
create_none s past rows table vs t front out = record { yes = λ on. cc on; no = λ _ creates. not_running s past rows table vs t front out creates.1.running }

-- WHAT WEIGHS SO
pub ends_weigh : (s : Setting) (past : History) (table : State) (t weight : ℕ) (counts slice : List (ℕ × ℕ)) (result : Bool) → IsStateOf s past table → slice ≡ counts → Whether result (weight ≡ 1 + count_of (least_of (holds_of (work_of (core_on table t)))) slice)
    → Whether result (weight ≡ 1 + count_of (least_of (holds_of (work_of ((parts_of s past).core t)))) counts)
ends_weigh s past table t weight counts slice result of same tested =
    subst (λ (n : ℕ). Whether result (weight ≡ n)) (ap (λ (f : Parts). 1 + count_of (least_of (holds_of (work_of (f.core t)))) slice) of.parts ∙ ap (λ (xs : List (ℕ × ℕ)). 1 + count_of (least_of (holds_of (work_of ((parts_of s past).core t)))) xs) same) tested

weight_said : (c : body.Call) (a : Answer) (private : List (ℕ × ℕ)) (count : ℕ) → length private ≡ count → call_weight c a + length (carried (is_done a.code) private) ≡ weight_with c count a
weight_said c a private count is = elim (is_done a.code) as (λ b. call_weight c a + length (carried b private) ≡ call_weight c a + (if b then count else 0)) [
  | true ↦ ap (λ (n : ℕ). call_weight c a + n) is
  | false ↦ refl
]

with_writes : (limit : ℕ) (f : Parts) (t home : ℕ) (c : body.Call) (a : Answer) (v w : List (ℕ × ℕ)) → IsCallOn limit f t home c a v → IsCallOn limit f t home c a w
with_writes limit f t home c a v w on = record { running = on.running; code = on.code; value = on.value; scope = on.scope; output = on.output; at_home = on.at_home }

end_weighed : (s : Setting) (past : History) (t weight : ℕ) (counts : List (ℕ × ℕ)) (g : ℕ) (holds : Holds) (o : Option ℕ) → IsRun s past → IsRunning past t → says_next s past t ≡ Ends g holds → ((d : ℕ) → count_in counts d ≡ length (private_in (holds d)))
    → least_of (holds_of (work_of ((parts_of s past).core t))) ≡ o → weight ≡ 1 + count_of o counts → RunsWeighed s past t weight
end_weighed s past t weight counts g holds (Some d) run runs ends counted least weighs = (
  Free t d (private_in (holds d)),
  refl,
  record {
    weighs = ap (λ (n : ℕ). 1 + n) (sym (counted d)) ∙ sym weighs;
    no_stop = refl;
    on_parts = freeing_law s past t d run (on_running s past t run runs) least;
    on_facts = tt;
    said = (g, holds, ends, refl);
  },
)
end_weighed s past t weight counts g holds None run runs ends counted least weighs = (
  End t g,
  refl,
  record {
    weighs = sym weighs;
    no_stop = refl;
    on_parts = record { running = on_running s past t run runs; nothing_held = nothing (holds_of (work_of ((parts_of s past).core t))) least };
    on_facts = tt;
    said = (holds, ends);
  },
)
  where
    nothing : (hs : List (ℕ × Mode)) → least_of hs ≡ None → hs ≡ []
    nothing [] is = refl
    nothing (h ∷ rest) is = cc is

weigh_yes : (s : Setting) (past : History) (t weight : ℕ) (said : Told) → IsRun s past → IsRunning past t → IsToldAs (says_next s past t) said → WeighsBy s.limit (parts_of s past) t said weight → RunsWeighed s past t weight
weigh_yes s past t weight (told.Ended counts) run runs is weighs = end_weighed s past t weight counts.items is.0 is.1 (least_of (holds_of (work_of ((parts_of s past).core t)))) run runs is.2 is.3 refl weighs
weigh_yes s past t weight (told.Asks c count) run runs is can = (
  Call t can.0 c can.1 (carried (is_done can.1.code) is.0),
  refl,
  record {
    weighs = weight_said c can.1 is.0 count is.2 ∙ can.3;
    no_stop = refl;
    on_parts = with_writes s.limit (parts_of s past) t can.0 c can.1 [] (carried (is_done can.1.code) is.0) can.2;
    on_facts = tt;
    said = (is.0, is.1, refl);
  },
)
weigh_yes s past t weight (told.Stopped why) run runs is can = absurd can

holds_same : (g h : ℕ) (one other : Holds) → Ends g one ≡ Ends h other → one ≡ other
holds_same g h one other is = ap holds_in is
  where
    holds_in : Behaviour → Holds
    holds_in (Ends n holds) = holds
    holds_in elsewhere = one

call_told : (s : Setting) (past : History) (t home weight : ℕ) (c : body.Call) (a : Answer) (w : List (ℕ × ℕ)) (said : Told) → IsToldAs (says_next s past t) said → IsCallOn s.limit (parts_of s past) t home c a w
    → (private : List (ℕ × ℕ)) → IsNextWith c private (says_next s past t) → w ≡ carried (is_done a.code) private → call_weight c a + length w ≡ weight → WeighsBy s.limit (parts_of s past) t said weight
call_told s past t home weight c a w (told.Ended counts) is on private next carries weighs = absurd (subst (IsNextWith c private) is.2 next)
call_told s past t home weight c a w (told.Stopped why) is on private next carries weighs = absurd (subst (IsNextWith c private) is next)
call_told s past t home weight c a w (told.Asks d count) is on private next carries weighs =
    let same = next_same (says_next s past t) c d private is.0 next is.1 in
    let here : CanWeigh s.limit (parts_of s past) t c count weight = (
      home,
      a,
      with_writes s.limit (parts_of s past) t home c a w [] on,
      sym (weight_said c a private count (ap (λ (p : List (ℕ × ℕ)). length p) same.1 ∙ is.2)) ∙ ap (λ (v : List (ℕ × ℕ)). call_weight c a + length v) (sym carries) ∙ weighs,
    ) in
    subst (λ (e : body.Call). CanWeigh s.limit (parts_of s past) t e count weight) same.0 here

free_told : (s : Setting) (past : History) (t d weight : ℕ) (w : List (ℕ × ℕ)) (said : Told) → IsToldAs (says_next s past t) said → least_of (holds_of (work_of ((parts_of s past).core t))) ≡ Some d
    → (g : ℕ) (holds : Holds) → says_next s past t ≡ Ends g holds → w ≡ private_in (holds d) → 1 + length w ≡ weight → WeighsBy s.limit (parts_of s past) t said weight
free_told s past t d weight w (told.Ended counts) is least g holds ends gives weighs =
    let same : is.1 ≡ holds = holds_same is.0 g is.1 holds (sym is.2 ∙ ends) in
    let counted : count_in counts.items d ≡ length w = is.3 d ∙ ap (λ (h : Holds). length (private_in (h d))) same ∙ ap (λ (v : List (ℕ × ℕ)). length v) (sym gives) in
    sym weighs ∙ ap (λ (n : ℕ). 1 + n) (sym counted) ∙ ap (λ (o : Option ℕ). 1 + count_of o counts.items) (sym least)
free_told s past t d weight w (told.Asks c count) is least g holds ends gives weighs = absurd (subst (IsNextWith c is.0) ends is.1)
free_told s past t d weight w (told.Stopped why) is least g holds ends gives weighs = cc (is, ends)

end_told : (s : Setting) (past : History) (t weight : ℕ) (said : Told) → IsToldAs (says_next s past t) said → holds_of (work_of ((parts_of s past).core t)) ≡ []
    → (g : ℕ) (holds : Holds) → says_next s past t ≡ Ends g holds → 1 ≡ weight → WeighsBy s.limit (parts_of s past) t said weight
end_told s past t weight (told.Ended counts) is nothing g holds ends weighs = sym weighs ∙ ap (λ (hs : List (ℕ × Mode)). 1 + count_of (least_of hs) counts.items) (sym nothing)
end_told s past t weight (told.Asks c count) is nothing g holds ends weighs = absurd (subst (IsNextWith c is.0) ends is.1)
end_told s past t weight (told.Stopped why) is nothing g holds ends weighs = cc (is, ends)

weigh_back : (s : Setting) (past : History) (t weight : ℕ) (said : IsRunning past t → (x : Told) × IsToldAs (says_next s past t) x) → IsRun s past → (e : Entry) → IsBodyOf t e → IsWeighed s past e weight
    → (runs : IsRunning past t) × WeighsBy s.limit (parts_of s past) t (said runs).0 weight
weigh_back s past t weight said run (Call u home c a w) is weighed =
    let here : IsWeighed s past (Call t home c a w) weight = subst (λ (v : ℕ). IsWeighed s past (Call v home c a w) weight) is weighed in
    let runs = running_on s past t run here.on_parts.running in
    (runs, call_told s past t home weight c a w (said runs).0 (said runs).1 here.on_parts here.said.0 here.said.1 here.said.2 here.weighs)
weigh_back s past t weight said run (Free u d w) is weighed =
    let here : IsWeighed s past (Free t d w) weight = subst (λ (v : ℕ). IsWeighed s past (Free v d w) weight) is weighed in
    let runs = running_on s past t run here.on_parts.running in
    (runs, free_told s past t d weight w (said runs).0 (said runs).1 here.on_parts.least here.said.0 here.said.1 here.said.2 here.said.3 here.weighs)
weigh_back s past t weight said run (End u g) is weighed =
    let here : IsWeighed s past (End t g) weight = subst (λ (v : ℕ). IsWeighed s past (End v g) weight) is weighed in
    let runs = running_on s past t run here.on_parts.running in
    (runs, end_told s past t weight (said runs).0 (said runs).1 here.on_parts.nothing_held g here.said.0 here.said.1 here.weighs)
weigh_back s past t weight said run other is weighed = absurd is

pub weigh_by : (s : Setting) (past : History) (rows : _) (table : State) (vs : List Verdict) (v : Verdict) (t weight : ℕ) (running so result : Bool) → IsFront s past table rows vs → v ≡ slice_index_or vs t v → running ≡ is_running (core_on table t)
    → Whether so (WeighsBy s.limit (parts_of s past) t v.told weight) → result ≡ (running && so) → Whether result (RunsWeighed s past t weight)
weigh_by s past rows table vs v t weight running so result front at is_running tested is = two running so result (IsRunning past t) (WeighsBy s.limit (parts_of s past) t v.told weight) (RunsWeighed s past t weight) is
    (runs_tested s past table t running front.of front.run is_running)
    (λ runs. tested)
    (λ runs said. weigh_yes s past t weight v.told front.run runs (front.told t runs v at) said)
    (λ weighed. weigh_back s past t weight (λ runs. (v.told, front.told t runs v at)) front.run weighed.0 weighed.1 weighed.2)

pub weigh_none : (s : Setting) (past : History) (rows : _) (table : State) (vs : List Verdict) (t weight : ℕ) → IsFront s past table rows vs → length vs ≤ t → Whether false (RunsWeighed s past t weight)
weigh_none s past rows table vs t weight front out = record {
  yes = λ on. cc on;
  no = λ _ weighed. not_running s past rows table vs t front out (who s past t front.run weighed.0 weighed.1 weighed.2);
}
  where
    who : (s : Setting) (past : History) (t : ℕ) → IsRun s past → (e : Entry) → IsBodyOf t e → IsWeighed s past e weight → IsRunning past t
    who s past t run (Call u home c a w) is weighed = subst (λ (k : ℕ). IsRunning past k) is (running_on s past u run weighed.on_parts.running)
    who s past t run (Free u d w) is weighed = subst (λ (k : ℕ). IsRunning past k) is (running_on s past u run weighed.on_parts.running)
    who s past t run (End u g) is weighed = subst (λ (k : ℕ). IsRunning past k) is (running_on s past u run weighed.on_parts.running)
    who s past t run other is weighed = absurd is
