-- The words that the reader takes are in the form.
use Rattle.std.proofs.Common.{◌≡◌, ◌∙◌, ◌⊎◌, ℕ, Bool, true, false, zero, suc, refl, sym, ap, ap₂, subst, inl, inr, true≢false, List, [], ◌∷◌, ◌++◌, map, length, Option, Some, None, append-nil, append_assoc}
use Rattle.std.specs.Prelude.{fold, is_some, slice_get}
use Rattle.std.specs.Str.{bytes_eq, chars}
use Rattle.clap.specs.Lexer.{long_of, short_of}
use Rattle.clap.specs.Walk.{Held, Outcome, Rule, Row, Waiting, Walk, idle, positional, option as awaiting, value, plain, bundle_met, arg_by_id, arg_by_long, arg_by_short, plain_word, settled, used, walked}
use Rattle.clap.specs.Faults.{bundle_step_fault, flags_fault, settle_fault, turn_fault, use_fault, walk_fault}
use Rattle.clap.specs.Kinds.{Kinds, or_else}
use Rattle.ocr_run_command.specs.Form.{Text, Piece, number, option, joined, flag, Line, line_words, said, AreKnown, IsKnown, is_in, option_names, flag_names, numbers}
use Rattle.ocr_run_command.proofs.Rules.{Finds, shape, option_rule, flag_rule, number_rule}
use Rattle.ocr_run_command.proofs.Rows.{equal}
use Rattle.ocr_run_command.proofs.Lex.{Spells, spells, dashes}
use Rattle.ocr_run_command.proofs.Pieces.{IsOnce, Holds, rule_for, texts_for, or_nil, is_new, use_holds, given_once}
use Rattle.ocr_run_command.proofs.Turns.{Turn, on, free, turn, by_found, with_pending, dash_turn, long_turn, by_step, by_word, flag_turn, joined_turn, option_turn, value_turn, tail_turn, awaited_turn, turn_is}

abbrev is_cons : Kinds → Bool
is_cons [] = false
is_cons (k ∷ ks) = true

not_nil : (ks : Kinds) → is_cons ks ≡ true → ks ≡ [] → ⊥
not_nil ks e f = true≢false (sym e ∙ ap is_cons f)

module _ (c : List Rule) where
  -- the words go through
  pub record Passes (w : Walk) (words : List Text) : Type 0 where
    pub walks : walk_fault (shape c) [] w words ≡ []
    pub ends : settle_fault c false (fold (walked c []) w words).held ≡ []

  -- the rows at the end
  abbrev pub end_rows : Walk → List Text → List Row
  end_rows w words = (settled c (fold (walked c []) w words).held).rows

  pub first_word : (w : Walk) (word : Text) (rest : List Text) → Passes w (word ∷ rest) → ((turn c w word).fault ≡ []) × Passes (turn c w word).walk rest
  unfolding walk_fault
  first_word w word rest p =
      let parts = or_nil (turn_fault (shape c) [] w word) (walk_fault (shape c) [] (walked c [] w word) rest) p.walks in
      (parts.0, record { walks = parts.1; ends = p.ends })

  -- as the turn is known
  pub next_word : (w : Walk) (word : Text) (rest : List Text) (t : Turn) → turn c w word ≡ t → Passes w (word ∷ rest) → (t.fault ≡ []) × Passes t.walk rest
  next_word w word rest t e p = subst (λ (t : Turn). (t.fault ≡ []) × Passes t.walk rest) e (first_word w word rest p)

  pub next_rows : (w : Walk) (word : Text) (rest : List Text) (t : Turn) → turn c w word ≡ t → end_rows t.walk rest ≡ end_rows w (word ∷ rest)
  next_rows w word rest t e = ap (λ (t : Turn). end_rows t.walk rest) (sym e)

  -- what is held takes in the pieces
  pub record Carries (h : Held) (ends : List Row) (ps : List Piece) : Type 0 where
    pub settles : settle_fault c false h ≡ []
    pub holds : (before : List Piece) → Holds (settled c h).rows before → IsOnce before → Holds ends (before ++ ps) × IsOnce (before ++ ps)

  carry_none : (h : Held) → settle_fault c false h ≡ [] → Carries h (settled c h).rows []
  carry_none h e = record {
    settles = e;
    holds = λ before holds once. subst (λ (xs : List Piece). Holds (settled c h).rows xs × IsOnce xs) (sym (append-nil before)) (holds, once);
  }

  carry : (p : Piece) (ps : List Piece) (h after : Held) (ends : List Row) → settle_fault c false h ≡ [] → use_fault false (rule_for p) (texts_for p) (settled c h).rows ≡ []
      → (settled c after).rows ≡ used (rule_for p) (texts_for p) (settled c h).rows → Carries after ends ps → Carries h ends (p ∷ ps)
  carry p ps h after ends e f rows later = record {
    settles = e;
    holds = λ before holds once.
        let new = is_new p (settled c h).rows f in
        let held = subst (λ (rs : List Row). Holds rs (before ++ p ∷ [])) (sym rows) (use_holds p (settled c h).rows before holds new) in
        let all = later.holds (before ++ p ∷ []) held (given_once p (settled c h).rows before holds new once) in
        subst (λ (xs : List Piece). Holds ends xs × IsOnce xs) (append_assoc before (p ∷ []) ps) all;
  }

  -- the words are a line's
  pub record Told (h : Held) (words : List Text) (ends : List Row) : Type 0 where
    pub line : Line
    pub spelled : words ≡ line_words line
    pub known : AreKnown line.pieces
    pub carries : Carries h ends (said line)

  told_more : (p : Piece) (rest words : List Text) (h after : Held) (ends : List Row) → IsKnown p
      → ((l : Line) → rest ≡ line_words l → words ≡ line_words (record l { pieces = p ∷ l.pieces }))
      → settle_fault c false h ≡ [] → use_fault false (rule_for p) (texts_for p) (settled c h).rows ≡ []
      → (settled c after).rows ≡ used (rule_for p) (texts_for p) (settled c h).rows → Told after rest ends → Told h words ends
  told_more p rest words h after ends known spell e f rows t = record {
    line = record t.line { pieces = p ∷ t.line.pieces };
    spelled = spell t.line t.spelled;
    known = (known, t.known);
    carries = carry p (said t.line) h after ends e f rows t.carries;
  }

  module _ (found : Finds c) where
    -- after `--` every word is a number
    tail : (x : Waiting) (h : Held) (words : List Text) → Passes (on x h true) words → Carries h (end_rows (on x h true) words) (map (λ t. number t) words)
    tail x h [] p = carry_none h p.ends
    tail x h (word ∷ rest) p =
        let is = tail_turn c x h word ∙ value_turn c x h word true found.index in
        let more = next_word (on x h true) word rest _ is p in
        let after = with_pending c h numbers (word ∷ []) in
        let later = tail positional after rest more.1 in
        let uses : use_fault false number_rule (word ∷ []) (settled c h).rows ≡ [] = refl in
        subst (λ (rs : List Row). Carries h rs (map (λ t. number t) (word ∷ rest))) (next_rows (on x h true) word rest _ is)
        (carry (number word) _ h after _ more.0 uses (ap (λ o. (Rattle.clap.specs.Walk.used_by_id o (word ∷ []) (settled c h).rows)) found.number_id) later)

    -- a bundle of flags has none that there is
    bundle_plain : (k : ℕ) (flags : Text) (h : Held) → flags_fault c false k flags 0 h ≡ [] → bundle_met c k flags 0 plain h ≡ (h, plain)
    unfolding flags_fault bundle_met
    bundle_plain zero flags h e = refl
    bundle_plain (suc k) flags h e = go (slice_get (chars flags) 0) e
      where
        go : (o : Option ℕ) → bundle_step_fault c false o flags 0 h (flags_fault c false k) ≡ [] → Rattle.clap.specs.Walk.bundle_step c o flags 0 plain h (bundle_met c k) ≡ (h, plain)
        go None e = refl
        go (Some x) e = absurd (not_nil _ (ap (λ o. is_cons (Rattle.clap.specs.Faults.short_fault c false o (Rattle.std.specs.Prelude.drop (length (Rattle.std.specs.Prelude.encode_utf8 x)) flags) h (flags_fault c false k (Rattle.std.specs.Prelude.drop (length (Rattle.std.specs.Prelude.encode_utf8 x)) flags) 0))) (found.short x)) e)

    abbrev state : List Row → Option (Text × List Text) → Held
    state r p = record { rows = r; pending = p; skip = 0 }

    abbrev by_flags : Waiting → Held → Text → Kinds → Held × Outcome → Turn
    by_flags x h word fault met = by_step c (on x h false) word fault (Rattle.clap.specs.Walk.after_flag c x word met.0 met.1)

    -- a word that is no option, no flag and no `--`
    short_turn : (x : Waiting) (r : List Row) (p : Option (Text × List Text)) (word : Text) → bytes_eq word dashes ≡ false → long_of word ≡ None
        → (turn c (on x (state r p) false) word).fault ≡ [] → turn c (on x (state r p) false) word ≡ by_step c (on x (state r p) false) word [] (plain_word c x word (state r p))
    short_turn x r p word e l none =
        let cut = turn_is c x (state r p) word ∙ ap₂ (λ b o. by_word c x (state r p) word None b o) e l in
        cut ∙ go (short_of word) (sym (ap (λ (t : Turn). t.fault) cut) ∙ none)
      where
        by_short : Option Text → Turn
        by_short short = by_step c (on x (state r p) false) word
            (Rattle.std.specs.Option.option_map_or (λ flags. Rattle.clap.specs.Faults.bundle_fault c false flags (state r p)) short [])
            (Rattle.clap.specs.Walk.short_or_plain c x word short (state r p))

        go : (short : Option Text) → (by_short short).fault ≡ [] → by_short short ≡ by_step c (on x (state r p) false) word [] (plain_word c x word (state r p))
        go None f = refl
        go (Some flags) f =
            let passed = (or_nil (flags_fault c false (length flags) flags 0 (state r p)) _ f).0 in
            ap₂ (by_flags x (state r p) word) passed (bundle_plain (length flags) flags (state r p) passed)

    -- a word that names an option or a flag settles what waits
    long_settles : (x : Waiting) (h : Held) (word name : Text) (v : Option Text) (o : Option Rule) → arg_by_long c name ≡ o → (by_found c x h word v o).fault ≡ [] → settle_fault c false h ≡ []
    long_settles x h word name v None f e = absurd (not_nil _ refl e)
    long_settles x h word name v (Some a) f e = go v a (found.long_cases name a f) e
      where
        of_option : (v : Option Text) → (by_found c x h word v (Some (option_rule name))).fault ≡ [] → settle_fault c false h ≡ []
        of_option None e = (or_nil (settle_fault c false h) [] e).0
        of_option (Some t) e = (or_nil (settle_fault c false h) _ ((or_nil (or_else (settle_fault c false h) _) [] e).0)).0

        of_flag : (v : Option Text) → (by_found c x h word v (Some (flag_rule name))).fault ≡ [] → settle_fault c false h ≡ []
        of_flag None e = (or_nil (settle_fault c false h) _ ((or_nil (or_else (settle_fault c false h) _) [] e).0)).0
        of_flag (Some t) e = absurd (not_nil _ refl e)

        go : (v : Option Text) (a : Rule) → (is_in name option_names ≡ true) × (a ≡ option_rule name) ⊎ (is_in name flag_names ≡ true) × (a ≡ flag_rule name)
            → (by_found c x h word v (Some a)).fault ≡ [] → settle_fault c false h ≡ []
        go v a (inl k) e = of_option v (subst (λ (a : Rule). (by_found c x h word v (Some a)).fault ≡ []) k.1 e)
        go v a (inr k) e = of_flag v (subst (λ (a : Rule). (by_found c x h word v (Some a)).fault ≡ []) k.1 e)

    -- an option with no value does not settle
    unsettled : (h : Held) (name : Text) → is_in name option_names ≡ true → settle_fault c false (with_pending c h name []) ≡ [] → ⊥
    unsettled h name k e = not_nil _ (ap (λ (o : Option Rule). is_cons (Rattle.std.specs.Option.option_map_or (λ a. use_fault false a [] (settled c h).rows) o [])) (found.option_id name k)) e

    abbrev Later : List Text → Type 0
    Later rest = (b : Bool) (r : List Row) (p : Option (Text × List Text)) → Passes (on (free b) (state r p) false) rest
        → Told (state r p) rest (end_rows (on (free b) (state r p) false) rest)

    -- the word after an option is its value
    await : (r : List Row) (p : Option (Text × List Text)) (name word : Text) (rest : List Text) → is_in name option_names ≡ true → settle_fault c false (state r p) ≡ []
        → Later rest → Passes (on (awaiting name) (with_pending c (state r p) name []) false) (word ∷ rest)
        → Told (state r p) (Rattle.ocr_run_command.specs.Form.long name ∷ word ∷ rest) (end_rows (on (awaiting name) (with_pending c (state r p) name []) false) (word ∷ rest))
    await r p name word rest known settles later passes = by_dashes (bytes_eq word dashes) refl
      where
        mid : Held
        mid = with_pending c (state r p) name []

        abbrev_goal : Type 0
        abbrev_goal = Told (state r p) (Rattle.ocr_run_command.specs.Form.long name ∷ word ∷ rest) (end_rows (on (awaiting name) (with_pending c (state r p) name []) false) (word ∷ rest))

        by_plain : bytes_eq word dashes ≡ false → long_of word ≡ None → abbrev_goal
        by_plain e l =
            let h = state r p in
            let passed = (first_word (on (awaiting name) (with_pending c h name []) false) word rest passes).0 in
            let is = short_turn (awaiting name) (settled c h).rows (Some (name, [])) word e l passed ∙ awaited_turn c h word name (found.option_id name known) (equal name) in
            let more = next_word (on (awaiting name) (with_pending c h name []) false) word rest _ is passes in
            let told = later false (settled c h).rows (Some (name, word ∷ [])) more.1 in
            let by_id = found.option_id name known in
            let after = with_pending c h name (word ∷ []) in
            let uses : use_fault false (option_rule name) (word ∷ []) (settled c h).rows ≡ [] =
            sym (ap (λ (o : Option Rule). Rattle.std.specs.Option.option_map_or (λ a. use_fault false a (word ∷ []) (settled c h).rows) o []) by_id) ∙ told.carries.settles in
            let rows : (settled c after).rows ≡ used (option_rule name) (word ∷ []) (settled c h).rows = ap (λ o. Rattle.clap.specs.Walk.used_by_id o (word ∷ []) (settled c h).rows) by_id in
            subst (λ (rs : List Row). Told h (Rattle.ocr_run_command.specs.Form.long name ∷ word ∷ rest) rs) (next_rows (on (awaiting name) (with_pending c h name []) false) word rest _ is)
            (told_more (option name word) rest _ h after _ known (λ l e. ap (λ ws. Rattle.ocr_run_command.specs.Form.long name ∷ word ∷ ws) e) settles uses rows told)

        by_long : bytes_eq word dashes ≡ false → (o : Option (Text × Option Text)) → long_of word ≡ o → abbrev_goal
        by_long e None l = by_plain e l
        by_long e (Some n) l =
            let is = long_turn c (awaiting name) mid word n.0 n.1 (arg_by_long c n.0) e l refl in
            let more = next_word (on (awaiting name) mid false) word rest _ is passes in
            absurd (unsettled (state r p) name known (long_settles (awaiting name) mid word n.0 n.1 (arg_by_long c n.0) refl more.0))

        by_dashes : (b : Bool) → bytes_eq word dashes ≡ b → abbrev_goal
        by_dashes true e =
            let more = next_word (on (awaiting name) mid false) word rest _ (dash_turn c (awaiting name) mid word e) passes in
            absurd (unsettled (state r p) name known (tail (awaiting name) mid rest more.1).settles)
        by_dashes false e = by_long e (long_of word) refl

    -- one word, where no option waits
    step : (b : Bool) (r : List Row) (p : Option (Text × List Text)) (word : Text) (rest : List Text) → Passes (on (free b) (state r p) false) (word ∷ rest) → Later rest
        → ((name : Text) → is_in name option_names ≡ true → settle_fault c false (state r p) ≡ [] → Passes (on (awaiting name) (with_pending c (state r p) name []) false) rest
        → Told (state r p) (Rattle.ocr_run_command.specs.Form.long name ∷ rest) (end_rows (on (awaiting name) (with_pending c (state r p) name []) false) rest))
        → Told (state r p) (word ∷ rest) (end_rows (on (free b) (state r p) false) (word ∷ rest))
    step b r p word rest passes later waits = by_dashes (bytes_eq word dashes) refl
      where
        h : Held
        h = state r p

        w : Walk
        w = on (free b) (state r p) false

        the_goal : Type 0
        the_goal = Told (state r p) (word ∷ rest) (end_rows (on (free b) (state r p) false) (word ∷ rest))

        ends_as : (t : Turn) → turn c w word ≡ t → Told h (word ∷ rest) (end_rows t.walk rest) → the_goal
        ends_as t is told = subst (λ (rs : List Row). Told h (word ∷ rest) rs) (next_rows w word rest t is) told

        plain_word_is : (b : Bool) → plain_word c (free b) word (state r p) ≡ (state r p, value)
        plain_word_is true = refl
        plain_word_is false = refl

        by_plain : bytes_eq word dashes ≡ false → long_of word ≡ None → the_goal
        by_plain e l =
            let passed = (first_word w word rest passes).0 in
            let is = short_turn (free b) r p word e l passed ∙ ap (λ met. by_step c w word [] met) (plain_word_is b) ∙ value_turn c (free b) h word false found.index in
            let more = next_word w word rest _ is passes in
            let told = later true (settled c h).rows (Some (numbers, word ∷ [])) more.1 in
            let uses : use_fault false number_rule (word ∷ []) (settled c h).rows ≡ [] = refl in
            let rows = ap (λ o. Rattle.clap.specs.Walk.used_by_id o (word ∷ []) (settled c h).rows) found.number_id in
            ends_as _ is (told_more (number word) rest (word ∷ rest) h (with_pending c h numbers (word ∷ [])) _ tt (λ l e. ap (λ ws. word ∷ ws) e) more.0 uses rows told)

        of_option : (name : Text) (v : Option Text) → is_in name option_names ≡ true → Spells name v word → turn c w word ≡ by_found c (free b) h word v (Some (option_rule name)) → the_goal
        of_option name None known spelt is =
            let here = is ∙ option_turn c (free b) h word name in
            let more = next_word w word rest _ here passes in
            let settles = (or_nil (settle_fault c false h) [] more.0).0 in
            ends_as _ here (subst (λ (x : Text). Told h (x ∷ rest) (end_rows (on (awaiting name) (with_pending c h name []) false) rest)) (sym spelt) (waits name known settles more.1))
        of_option name (Some t) known spelt is =
            let here = is ∙ joined_turn c (free b) h word name t in
            let more = next_word w word rest _ here passes in
            let parts = or_nil (settle_fault c false h) _ (or_nil (or_else (settle_fault c false h) _) [] more.0).0 in
            let told = later false (used (option_rule name) (t ∷ []) (settled c h).rows) None more.1 in
            ends_as _ here (told_more (joined name t) rest (word ∷ rest) h (Rattle.clap.specs.Walk.reacted c (option_rule name) (t ∷ []) h) _ known
            (λ l e. ap₂ (λ x ws. x ∷ ws) spelt e) parts.0 parts.1 refl told)

        of_flag : (name : Text) (v : Option Text) → is_in name flag_names ≡ true → Spells name v word → turn c w word ≡ by_found c (free b) h word v (Some (flag_rule name)) → the_goal
        of_flag name None known spelt is =
            let here = is ∙ flag_turn c (free b) h word name in
            let more = next_word w word rest _ here passes in
            let parts = or_nil (settle_fault c false h) _ (or_nil (or_else (settle_fault c false h) _) [] more.0).0 in
            let told = later false (used (flag_rule name) [] (settled c h).rows) None more.1 in
            ends_as _ here (told_more (flag name) rest (word ∷ rest) h (Rattle.clap.specs.Walk.reacted c (flag_rule name) [] h) _ known
            (λ l e. ap₂ (λ x ws. x ∷ ws) spelt e) parts.0 parts.1 refl told)
        of_flag name (Some t) known spelt is = absurd (not_nil _ refl (next_word w word rest _ is passes).0)

        by_rule : (name : Text) (v : Option Text) → Spells name v word → (a : Rule) → turn c w word ≡ by_found c (free b) h word v (Some a)
            → (is_in name option_names ≡ true) × (a ≡ option_rule name) ⊎ (is_in name flag_names ≡ true) × (a ≡ flag_rule name) → the_goal
        by_rule name v spelt a is (inl k) = of_option name v k.0 spelt (is ∙ ap (λ (a : Rule). by_found c (free b) h word v (Some a)) k.1)
        by_rule name v spelt a is (inr k) = of_flag name v k.0 spelt (is ∙ ap (λ (a : Rule). by_found c (free b) h word v (Some a)) k.1)

        by_name : (name : Text) (v : Option Text) → Spells name v word → (o : Option Rule) → arg_by_long c name ≡ o → turn c w word ≡ by_found c (free b) h word v o → the_goal
        by_name name v spelt None f is = absurd (not_nil _ refl (next_word w word rest _ is passes).0)
        by_name name v spelt (Some a) f is = by_rule name v spelt a is (found.long_cases name a f)

        by_long : bytes_eq word dashes ≡ false → (o : Option (Text × Option Text)) → long_of word ≡ o → the_goal
        by_long e None l = by_plain e l
        by_long e (Some n) l = by_name n.0 n.1 (spells word n.0 n.1 l) (arg_by_long c n.0) refl (long_turn c (free b) h word n.0 n.1 (arg_by_long c n.0) e l refl)

        by_dashes : (b : Bool) → bytes_eq word dashes ≡ b → the_goal
        by_dashes true e =
            let is = dash_turn c (free b) h word e in
            let more = next_word w word rest _ is passes in
            ends_as _ is (record {
              line = record { pieces = []; tail = Some rest };
              spelled = ap (λ x. x ∷ rest) (Rattle.ocr_run_command.proofs.Rows.same word dashes e);
              known = tt;
              carries = tail (free b) h rest more.1;
            })
        by_dashes false e = by_long e (long_of word) refl

    -- the words that go through are a line's
    pub sound : (b : Bool) (r : List Row) (p : Option (Text × List Text)) (words : List Text) → Passes (on (free b) (state r p) false) words
        → Told (state r p) words (end_rows (on (free b) (state r p) false) words)
    sound b r p [] passes = record {
      line = record { pieces = []; tail = None };
      spelled = refl;
      known = tt;
      carries = carry_none (state r p) passes.ends;
    }
    sound b r p (word ∷ []) passes = step b r p word [] passes (λ b r p. sound b r p []) (λ name known settles passes. absurd (unsettled (state r p) name known passes.ends))
    sound b r p (word ∷ next ∷ rest) passes = step b r p word (next ∷ rest) passes (λ b r p. sound b r p (next ∷ rest))
        (λ name known settles passes. await r p name next rest known settles (λ b r p. sound b r p rest) passes)
