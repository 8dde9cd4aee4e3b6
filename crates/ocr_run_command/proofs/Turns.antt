-- What the walk makes of a word.
use Rattle.std.proofs.Common.{◌≡◌, ◌∙◌, ◌&&◌, ◌||◌, Bool, cond, true, false, refl, ap, ap₂, List, [], ◌∷◌, Option, Some, None}
use Rattle.std.specs.Prelude.{find, fold, is_some, option_map, slice_get}
use Rattle.std.specs.Str.{bytes_eq, chars}
use Rattle.clap.specs.Lexer.{long_of}
use Rattle.clap.specs.Walk.{Held, Names, Outcome, Rule, Row, Step, Waiting, Walk, idle, positional, option as awaiting, next as goes_on, trailing, value, waits, done, plain, refused}
use Rattle.clap.specs.Walk.{after_flag, after_step, arg_by_id, arg_by_index, arg_by_long, arg_by_short, bundle_met, is_pending, long_met, long_or_other, long_word, plain_word, positional_held, pushed, reacted, settled, subcommand_met, takes_several, used, walked, word_met, option_word}
use Rattle.clap.specs.Simple.{Shape}
use Rattle.clap.specs.Faults.{flag_word_fault, flags_fault, long_fault, option_fault, positional_fault, react_fault, settle_fault, step_fault, stray_fault, turn_fault, use_fault, walk_fault}
use Rattle.clap.specs.Kinds.{Kinds, or_else}
use Rattle.ocr_run_command.specs.Form.{Text, numbers}
use Rattle.ocr_run_command.proofs.Rules.{shape, option_rule, flag_rule, number_rule}
use Rattle.ocr_run_command.proofs.Lex.{IsPlain, dashes}

-- a walk that has not stopped, at the one positional
abbrev pub on : Waiting → Held → Bool → Walk
on x h t = record { held = h; waiting = x; position = 1; is_trailing = t; stopped = None }

abbrev pub free : Bool → Waiting
free false = idle
free true = positional

pub record Turn : Type 0 where
  pub fault : Kinds
  pub walk : Walk

module _ (c : List Rule) where
  abbrev s : Shape
  s = shape c

  abbrev pub turn : Walk → Text → Turn
  turn w word = record { fault = turn_fault s [] w word; walk = walked c [] w word }

  abbrev pub by_step : Walk → Text → Kinds → Held × Step → Turn
  by_step w word fault met = record { fault = or_else fault (step_fault s 1 met.0 met.1); walk = after_step c word w met.0 met.1 }

  abbrev pub by_word : Waiting → Held → Text → Option Text → Bool → Option (Text × Option Text) → Turn
  by_word x h word (Some name) is_dashes long = by_step (on x h false) word (Rattle.clap.specs.Faults.other_fault s (Some name) word h) (h, Rattle.clap.specs.Walk.subcommand name)
  by_word x h word None is_dashes long = by_step (on x h false) word
      (cond is_dashes [] (flag_word_fault c false long word h))
      (cond is_dashes (h, trailing 1) (long_or_other c x word long h))

  no_subcommand : (x : Waiting) (word : Text) → subcommand_met [] x word ≡ None
  no_subcommand idle word = refl
  no_subcommand (awaiting id) word = refl
  no_subcommand positional word = refl

  pub turn_is : (x : Waiting) (h : Held) (word : Text) → turn (on x h false) word ≡ by_word x h word None (bytes_eq word dashes) (long_of word)
  unfolding walked
  turn_is idle h word = refl
  turn_is (awaiting id) h word = refl
  turn_is positional h word = refl

  pub dash_turn : (x : Waiting) (h : Held) (word : Text) → bytes_eq word dashes ≡ true → turn (on x h false) word ≡ record { fault = []; walk = on x h true }
  dash_turn x h word e = turn_is x h word ∙ ap (λ b. by_word x h word None b (long_of word)) e

  -- a word `--name` or `--name=value`, by the argument that it names
  abbrev pub by_found : Waiting → Held → Text → Option Text → Option Rule → Turn
  by_found x h word v found = by_step (on x h false) word (long_fault c false found v h) (after_flag c x word (long_met c found v h).0 (long_met c found v h).1)

  pub long_turn : (x : Waiting) (h : Held) (word name : Text) (v : Option Text) (found : Option Rule)
      → bytes_eq word dashes ≡ false → long_of word ≡ Some (name, v) → arg_by_long c name ≡ found → turn (on x h false) word ≡ by_found x h word v found
  long_turn x h word name v found e l f =
      turn_is x h word ∙ ap₂ (λ b o. by_word x h word None b o) e l ∙ ap (by_found x h word v) f

  pub flag_turn : (x : Waiting) (h : Held) (word name : Text)
      → by_found x h word None (Some (flag_rule name)) ≡ record { fault = or_else (react_fault c false (flag_rule name) [] h) []; walk = on idle (reacted c (flag_rule name) [] h) false }
  flag_turn x h word name = refl

  pub joined_turn : (x : Waiting) (h : Held) (word name t : Text)
      → by_found x h word (Some t) (Some (option_rule name)) ≡ record { fault = or_else (react_fault c false (option_rule name) (t ∷ []) h) []; walk = on idle (reacted c (option_rule name) (t ∷ []) h) false }
  joined_turn x h word name t = refl

  -- what is held while an option waits for its value, and after it has it
  abbrev pub with_pending : Held → Text → List Text → Held
  with_pending h name ts = record (settled c h) { pending = Some (name, ts) }

  pub option_turn : (x : Waiting) (h : Held) (word name : Text)
      → by_found x h word None (Some (option_rule name)) ≡ record { fault = or_else (settle_fault c false h) []; walk = on (awaiting name) (with_pending h name []) false }
  option_turn x h word name = refl

  -- a word that is no more than a word
  pub plain_turn : (x : Waiting) (h : Held) (word : Text) → IsPlain word → turn (on x h false) word ≡ by_step (on x h false) word [] (plain_word c x word h)
  plain_turn x h word e =
      turn_is x h word ∙ ap₂ (λ b o. by_word x h word None b o) e.no_dashes e.no_long
      ∙ ap (by_short x h word) e.no_short
    where
      by_short : Waiting → Held → Text → Option Text → Turn
      by_short x h word short = by_step (on x h false) word
          (Rattle.std.specs.Option.option_map_or (λ flags. Rattle.clap.specs.Faults.bundle_fault c false flags h) short [])
          (Rattle.clap.specs.Walk.short_or_plain c x word short h)

  -- a value of the positional
  abbrev by_index : Walk → Held → Text → Option Rule → Turn
  by_index w h word o = record {
    fault = or_else [] (Rattle.std.specs.Option.option_map_or (λ a. positional_fault c false a h) o (stray_fault s));
    walk = Rattle.clap.specs.Walk.to_positional c o word w h;
  }

  pub value_turn : (x : Waiting) (h : Held) (word : Text) (t : Bool) → arg_by_index c 1 ≡ Some number_rule
      → by_step (on x h t) word [] (h, value) ≡ record { fault = settle_fault c false h; walk = on positional (with_pending h numbers (word ∷ [])) t }
  value_turn x h word t e = ap (by_index (on x h t) h word) e ∙ go (is_pending number_rule h.pending) t
    where
      after : Bool → Bool → Turn
      after b t = record {
        fault = cond (b && false) [] (settle_fault c false h);
        walk = on positional (pushed numbers word (cond (b && false) h (settled c h))) (t || false);
      }

      go : (b t : Bool) → after b t ≡ record { fault = settle_fault c false h; walk = on positional (with_pending h numbers (word ∷ [])) t }
      go true true = refl
      go true false = refl
      go false true = refl
      go false false = refl

  pub tail_turn : (x : Waiting) (h : Held) (word : Text) → turn (on x h true) word ≡ by_step (on x h true) word [] (h, value)
  unfolding walked
  tail_turn x h word = refl

  -- the value of the option that waits
  pub awaited_turn : (h : Held) (word name : Text) → arg_by_id c name ≡ Some (option_rule name) → bytes_eq name name ≡ true
      → by_step (on (awaiting name) (with_pending h name []) false) word [] (plain_word c (awaiting name) word (with_pending h name []))
      ≡ record { fault = []; walk = on idle (with_pending h name (word ∷ [])) false }
  awaited_turn h word name e same = ap by_id e ∙ ap by_count same
    where
      by_id : Option Rule → Turn
      by_id o = by_step (on (awaiting name) (with_pending h name []) false) word []
          ((option_word o name word (with_pending h name [])).0, goes_on (option_word o name word (with_pending h name [])).1)

      by_count : Bool → Turn
      by_count b = record { fault = []; walk = on (cond (Rattle.std.specs.Prelude.nat_lt (cond b 1 0) 1) (awaiting name) idle) (with_pending h name (word ∷ [])) false }
