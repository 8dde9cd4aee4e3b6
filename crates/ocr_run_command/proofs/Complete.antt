-- The reader takes the words that are in the form.
use Rattle.std.proofs.Common.{◌≡◌, ◌∙◌, Bool, true, false, refl, sym, ap, ap₂, subst, List, [], ◌∷◌, ◌++◌, map, Option, Some, None, append-nil, append_assoc}
use Rattle.std.specs.Option.{option_map_or}
use Rattle.std.specs.Str.{bytes_eq}
use Rattle.clap.specs.Lexer.{long_of}
use Rattle.clap.specs.Walk.{Held, Rule, Row, Waiting, Walk, arg_by_id, idle, positional, option as awaiting, value, plain_word, reacted, settled, used, used_by_id}
use Rattle.clap.specs.Faults.{settle_fault, use_fault, walk_fault}
use Rattle.ocr_run_command.specs.Form.{Text, Piece, number, option, joined, flag, long, spelling, tail_words, tail_pieces, AreKnown, IsKnown, is_in, option_names, flag_names, numbers}
use Rattle.ocr_run_command.proofs.Rules.{each, Finds, shape, option_rule, flag_rule, number_rule}
use Rattle.ocr_run_command.proofs.Rows.{equal}
use Rattle.ocr_run_command.proofs.Lex.{IsPlain, dashes}
use Rattle.ocr_run_command.proofs.Pieces.{IsOnce, Holds, rule_for, texts_for, nil_or, new_passes, once_new, use_holds}
use Rattle.ocr_run_command.proofs.Turns.{Turn, on, free, turn, by_step, with_pending, dash_turn, long_turn, flag_turn, joined_turn, option_turn, plain_turn, value_turn, tail_turn, awaited_turn}
use Rattle.ocr_run_command.proofs.Sound.{Passes, end_rows}

-- how the words of a name are cut
pub record IsName (n : Text) : Type 0 where
  pub alone : bytes_eq (long n) dashes ≡ false
  pub name : long_of (long n) ≡ Some (n, None)
  pub with_value : (t : Text) → bytes_eq (long n ++ 61 ∷ t) dashes ≡ false
  pub both : (t : Text) → long_of (long n ++ 61 ∷ t) ≡ Some (n, Some t)

abbrev easy : (n : Text) → bytes_eq (long n) dashes ≡ false → long_of (long n) ≡ Some (n, None) → ((t : Text) → bytes_eq (long n ++ 61 ∷ t) dashes ≡ false)
    → ((t : Text) → long_of (long n ++ 61 ∷ t) ≡ Some (n, Some t)) → IsName n
easy n a b c d = record { alone = a; name = b; with_value = c; both = d }

option_name : (n : Text) → is_in n option_names ≡ true → IsName n
option_name n e = each IsName option_names n
    (easy _ refl refl (λ t. refl) (λ t. refl), (easy _ refl refl (λ t. refl) (λ t. refl), (easy _ refl refl (λ t. refl) (λ t. refl), tt))) e

flag_name : (n : Text) → is_in n flag_names ≡ true → IsName n
flag_name n e = each IsName flag_names n (
  easy _ refl refl (λ t. refl) (λ t. refl),
  (
    easy _ refl refl (λ t. refl) (λ t. refl),
    (
      easy _ refl refl (λ t. refl) (λ t. refl),
      (
        easy _ refl refl (λ t. refl) (λ t. refl),
        (easy _ refl refl (λ t. refl) (λ t. refl), (easy _ refl refl (λ t. refl) (λ t. refl), (easy _ refl refl (λ t. refl) (λ t. refl), tt))),
      ),
    ),
  ),
) e

-- the texts of the pieces are no more than words
abbrev pub IsPlainPiece : Piece → Type 0
IsPlainPiece (number t) = IsPlain t
IsPlainPiece (option n t) = IsPlain t
IsPlainPiece (joined n t) = Unit {0}
IsPlainPiece (flag n) = Unit {0}

abbrev pub ArePlain : List Piece → Type 0
ArePlain [] = Unit {0}
ArePlain (p ∷ ps) = IsPlainPiece p × ArePlain ps

module _ (c : List Rule) where
  pub record Takes (w : Walk) (words : List Text) (ps : List Piece) : Type 0 where
    pub passes : Passes c w words
    pub holds : Holds (end_rows c w words) ps

  takes_next : (w : Walk) (word : Text) (rest : List Text) (t : Turn) (ps : List Piece) → turn c w word ≡ t → t.fault ≡ [] → Takes t.walk rest ps → Takes w (word ∷ rest) ps
  unfolding walk_fault
  takes_next w word rest t ps is none taken =
      let here : (turn c w word).fault ≡ [] = ap (λ (t : Turn). t.fault) is ∙ none in
      let later : Takes (turn c w word).walk rest ps = subst (λ (t : Turn). Takes t.walk rest ps) (sym is) taken in
      record { passes = record { walks = nil_or _ _ here later.passes.walks; ends = later.passes.ends }; holds = later.holds }

  module _ (found : Finds c) where
    tail_takes : (x : Waiting) (h : Held) (ts : List Text) (before : List Piece) → settle_fault c false h ≡ [] → Holds (settled c h).rows before
        → Takes (on x h true) ts (before ++ map (λ t. number t) ts)
    tail_takes x h [] before settles holds = record {
      passes = record { walks = walk_ends; ends = settles };
      holds = subst (λ (ps : List Piece). Holds (settled c h).rows ps) (sym (append-nil before)) holds;
    }
      where
        walk_ends : walk_fault (shape c) [] (on x h true) [] ≡ []
        walk_ends = unfold walk_fault in refl
    tail_takes x h (t ∷ ts) before settles holds =
        let after = with_pending c h numbers (t ∷ []) in
        let fine : settle_fault c false after ≡ [] = ap (λ (o : Option Rule). option_map_or (λ a. use_fault false a (t ∷ []) (settled c h).rows) o []) found.number_id in
        let rows : (settled c after).rows ≡ used number_rule (t ∷ []) (settled c h).rows = ap (λ o. used_by_id o (t ∷ []) (settled c h).rows) found.number_id in
        let held = subst (λ (rs : List Row). Holds rs (before ++ number t ∷ [])) (sym rows) (use_holds (number t) (settled c h).rows before holds tt) in
        let later = tail_takes positional after ts (before ++ number t ∷ []) fine held in
        takes_next (on x h true) t ts _ _ (tail_turn c x h t ∙ value_turn c x h t true found.index) settles
        (subst (λ (ps : List Piece). Takes (on positional after true) ts ps) (append_assoc before (number t ∷ []) (map (λ t. number t) ts)) later)

    -- what a step of the walk has to keep
    abbrev Ready : Held → List Piece → Type 0
    Ready h before = (settle_fault c false h ≡ []) × Holds (settled c h).rows before

    -- after a use that settles at once
    used_now : (p : Piece) (h : Held) (before qs : List Piece) → IsKnown p → Ready h before → IsOnce (before ++ p ∷ qs)
        → (use_fault false (rule_for p) (texts_for p) (settled c h).rows ≡ []) × Holds (used (rule_for p) (texts_for p) (settled c h).rows) (before ++ p ∷ [])
    used_now p h before qs known ready once =
        let new = once_new p (settled c h).rows before qs ready.1 known once in
        (new_passes p (settled c h).rows new, use_holds p (settled c h).rows before ready.1 new)

    -- after a use that waits
    used_later : (p : Piece) (n t : Text) (a : Rule) (h : Held) (before : List Piece) → arg_by_id c n ≡ Some a → rule_for p ≡ a → texts_for p ≡ t ∷ []
        → use_fault false (rule_for p) (texts_for p) (settled c h).rows ≡ [] → Holds (used (rule_for p) (texts_for p) (settled c h).rows) (before ++ p ∷ [])
        → Ready (with_pending c h n (t ∷ [])) (before ++ p ∷ [])
    used_later p n t a h before by_id rule texts none holds =
        let use_is : use_fault false (rule_for p) (texts_for p) (settled c h).rows ≡ use_fault false a (t ∷ []) (settled c h).rows = ap₂ (λ (a : Rule) ts. use_fault false a ts (settled c h).rows) rule texts in
        let rows_are : used (rule_for p) (texts_for p) (settled c h).rows ≡ used a (t ∷ []) (settled c h).rows = ap₂ (λ (a : Rule) ts. used a ts (settled c h).rows) rule texts in
        let fault = ap (λ (o : Option Rule). option_map_or (λ a. use_fault false a (t ∷ []) (settled c h).rows) o []) by_id in
        let rows = ap (λ o. used_by_id o (t ∷ []) (settled c h).rows) by_id in
        (fault ∙ sym use_is ∙ none, subst (λ (rs : List Row). Holds rs (before ++ p ∷ [])) (rows_are ∙ sym rows) holds)

    pub complete : (ps : List Piece) (tail : Option (List Text)) (before : List Piece) (b : Bool) (h : Held) → Ready h before → IsOnce (before ++ (ps ++ tail_pieces tail))
        → AreKnown ps → ArePlain ps → Takes (on (free b) h false) (spelling ps ++ tail_words tail) (before ++ (ps ++ tail_pieces tail))
    unfolding walk_fault
    complete [] None before b h ready once known plain = record {
      passes = record { walks = refl; ends = ready.0 };
      holds = subst (λ (ps : List Piece). Holds (settled c h).rows ps) (sym (append-nil before)) ready.1;
    }
    complete [] (Some ts) before b h ready once known plain =
        takes_next (on (free b) h false) dashes ts _ _ (dash_turn c (free b) h dashes refl) refl (tail_takes (free b) h ts before ready.0 ready.1)
    complete (number t ∷ ps) tail before b h ready once known plain =
        let rest = ps ++ tail_pieces tail in
        let done = used_now (number t) h before rest tt ready once in
        let next = used_later (number t) numbers t number_rule h before found.number_id refl refl done.0 done.1 in
        let after = with_pending c h numbers (t ∷ []) in
        let later = complete ps tail (before ++ number t ∷ []) true after next (subst IsOnce (sym (append_assoc before (number t ∷ []) rest)) once) known.1 plain.1 in
        let word : plain_word c (free b) t h ≡ (h, value) = elim b as (λ b. plain_word c (free b) t h ≡ (h, value)) [ true ↦ refl | false ↦ refl ] in
        let is = plain_turn c (free b) h t plain.0 ∙ ap (by_step c (on (free b) h false) t []) word ∙ value_turn c (free b) h t false found.index in
        takes_next (on (free b) h false) t (spelling ps ++ tail_words tail) _ _ is ready.0
        (subst (λ (qs : List Piece). Takes (on positional after false) (spelling ps ++ tail_words tail) qs) (append_assoc before (number t ∷ []) rest) later)
    complete (flag n ∷ ps) tail before b h ready once known plain =
        let rest = ps ++ tail_pieces tail in
        let done = used_now (flag n) h before rest known.0 ready once in
        let after = reacted c (flag_rule n) [] h in
        let later = complete ps tail (before ++ flag n ∷ []) false after (refl, done.1) (subst IsOnce (sym (append_assoc before (flag n ∷ []) rest)) once) known.1 plain.1 in
        let cut = flag_name n known.0 in
        let is = long_turn c (free b) h (long n) n None _ cut.alone cut.name (found.flag_long n known.0) ∙ flag_turn c (free b) h (long n) n in
        takes_next (on (free b) h false) (long n) (spelling ps ++ tail_words tail) _ _ is (nil_or _ _ (nil_or _ _ ready.0 done.0) refl)
        (subst (λ (qs : List Piece). Takes (on idle after false) (spelling ps ++ tail_words tail) qs) (append_assoc before (flag n ∷ []) rest) later)
    complete (joined n t ∷ ps) tail before b h ready once known plain =
        let rest = ps ++ tail_pieces tail in
        let done = used_now (joined n t) h before rest known.0 ready once in
        let after = reacted c (option_rule n) (t ∷ []) h in
        let later = complete ps tail (before ++ joined n t ∷ []) false after (refl, done.1) (subst IsOnce (sym (append_assoc before (joined n t ∷ []) rest)) once) known.1 plain.1 in
        let cut = option_name n known.0 in
        let is = long_turn c (free b) h (long n ++ 61 ∷ t) n (Some t) _ (cut.with_value t) (cut.both t) (found.option_long n known.0) ∙ joined_turn c (free b) h (long n ++ 61 ∷ t) n t in
        takes_next (on (free b) h false) (long n ++ 61 ∷ t) (spelling ps ++ tail_words tail) _ _ is (nil_or _ _ (nil_or _ _ ready.0 done.0) refl)
        (subst (λ (qs : List Piece). Takes (on idle after false) (spelling ps ++ tail_words tail) qs) (append_assoc before (joined n t ∷ []) rest) later)
    complete (option n t ∷ ps) tail before b h ready once known plain =
        let rest = ps ++ tail_pieces tail in
        let done = used_now (option n t) h before rest known.0 ready once in
        let by_id = found.option_id n known.0 in
        let next = used_later (option n t) n t (option_rule n) h before by_id refl refl done.0 done.1 in
        let after = with_pending c h n (t ∷ []) in
        let mid = with_pending c h n [] in
        let later = complete ps tail (before ++ option n t ∷ []) false after next (subst IsOnce (sym (append_assoc before (option n t ∷ []) rest)) once) known.1 plain.1 in
        let cut = option_name n known.0 in
        let is = long_turn c (free b) h (long n) n None _ cut.alone cut.name (found.option_long n known.0) ∙ option_turn c (free b) h (long n) n in
        let then = plain_turn c (awaiting n) mid t plain.0 ∙ awaited_turn c h t n by_id (equal n) in
        takes_next (on (free b) h false) (long n) (t ∷ (spelling ps ++ tail_words tail)) _ _ is (nil_or _ _ ready.0 refl)
        (takes_next (on (awaiting n) mid false) t (spelling ps ++ tail_words tail) _ _ then refl
        (subst (λ (qs : List Piece). Takes (on idle after false) (spelling ps ++ tail_words tail) qs) (append_assoc before (option n t ∷ []) rest) later))
