-- What an entered load gives in a run without a race.
use Rattle.std.proofs.Common.{◌≡◌, ◌≤◌, ◌<◌, ◌⊎◌, inl, inr, ℕ, zero, suc, ◌==◌, ◌||◌, ◌&&◌, List, [], ◌∷◌, ◌++◌, length, replicate, set, Bool, true, false, if◌then◌else◌, Option, Some, None, is_some, refl, sym, ap, ◌∙◌, subst, arith}
use Rattle.std.specs.Prelude.{slice_index}
use Rattle.std.proofs.lemmas.List.{get_or-set_other, get_or_past}
use Rattle.std.proofs.lemmas.Bool.{or_cases, cases_Bool, eqb-true, eqb-false}
use Rattle.ocr_base.proofs.Booleans.{same}
use Rattle.ocr_guid.specs.Target.{EventCall}
use Rattle.ocr_acquire.specs.Writes.{written}
use Rattle.ocr_acquire.specs.declared.Mode.{Mode}
use Rattle.ocr_acquire.specs.declared.Mode.TheVariants as mode
use Rattle.ocr_slots.specs.Slots as slot
use Rattle.ocr_datablock.specs.Block as block
use Rattle.ocr_datablock.proofs.Laws.{length-contents}
use Rattle.ocr_finish.specs.Scope.{ScopeCall}
use Rattle.ocr_body_meaning.specs.Holds.{is_done}
use Rattle.ocr_body_meaning.specs.declared.call.Call as body
use Rattle.ocr_body_meaning.specs.declared.call.Call.TheVariants as call
use Rattle.ocr_body_meaning.specs.declared.call.Answer.{Answer}
use Rattle.ocr_machine_history.specs.declared.entry.Entry.{Entry}
use Rattle.ocr_machine_history.specs.declared.entry.Entry.TheVariants.{Call, Acquire, Wait, Free}
use Rattle.ocr_machine_history.specs.History.{History, Setting}
use Rattle.ocr_machine_history.specs.Made.{Made, MadeBlock, made, is_new, size_in}
use Rattle.ocr_machine_parts.specs.declared.part.Part.{Part}
use Rattle.ocr_machine_parts.specs.declared.part.Part.TheVariants as part
use Rattle.ocr_machine_parts.specs.Calls.{is_number, block_calls, block_step, end_calls, doom_calls, return_calls, contents_of, next_mode, link_calls, event_calls, scope_calls}
use Rattle.ocr_machine_history.specs.Made.{creator_in}
use Rattle.ocr_machine_parts.specs.Kinds.{IsBlock, is_block, is_running}
use Rattle.ocr_machine_parts.specs.Legal.{IsRun, IsLegal}
use Rattle.ocr_machine_parts.specs.Parts.{parts_of, face}
use Rattle.ocr_machine_laws.proofs.Found.{granted_if, asked_same}
use Rattle.ocr_machine_laws.proofs.Permanence.{made_law, not_new}
use Rattle.ocr_machine_parts.proofs.Fresh.{made_old}
use Rattle.ocr_machine_laws.specs.Memory.{hold_of}
use Rattle.ocr_machine_laws.proofs.Written.{borrower_holds}
use Rattle.ocr_machine_parts.specs.LegalOn.{IsLoaded}
use Rattle.ocr_memory_model_order.specs.Places.{is_at, entry_at}
use Rattle.ocr_machine_rules.specs.Blocks as blocks
use Rattle.ocr_machine_rules.proofs.Edts.{held_is}
use Rattle.ocr_memory_model_order.specs.Pairs.{ended_mode}
use Rattle.ocr_memory_model_order.specs.Loads.{is_store, names_word, writes_in, is_exclusive_in, is_back, writes, through, word_after, first_word, LastWrite, NoWrite, IsRaceFree, LoadedLaw}
use Rattle.ocr_memory_model_order.proofs.Graphs.{graph_law}
use Rattle.ocr_memory_model_order.proofs.Writes.{block_made, held_made, exclusive_is, ended_by, load_at, split_entry, IsSplit, front_length, front_at, writes_before_law}
use Rattle.ocr_memory_model_order.proofs.Fronts.{new_at, old_at, at_below, off_new}

and_both : (a b : Bool) → (a && b) ≡ true → (a ≡ true) × (b ≡ true)
and_both true b is = (refl, is)
and_both false b is = cc is

neither_of : (a b : Bool) → (a || b) ≡ false → (a ≡ false) × (b ≡ false)
neither_of false b is = (refl, is)
neither_of true b is = cc is

and_none : (a : Bool) → (a && false) ≡ false
and_none true = refl
and_none false = refl

back_off : (x : Bool) (o : Option Mode) (names here : Bool) → here ≡ true → (x || (is_exclusive_in (if here then o else None) && names)) ≡ false → (is_exclusive_in o && names) ≡ false
back_off x o names true on off = (neither_of x (is_exclusive_in o && names) off).1
back_off x o names false on off = cc on

store_off : (x y z r : Bool) → x ≡ true → y ≡ true → ((x && (y && z)) || r) ≡ false → z ≡ false
store_off true true z r a b off = (neither_of z r off).0
store_off true false z r a b off = cc b
store_off false y z r a b off = cc a

-- WRITES that do not name a word leave it
written_other : (private : List (ℕ × ℕ)) (words : List ℕ) (w : ℕ) → names_word w private ≡ false → slice_index (written private words) w ≡ slice_index words w
written_other [] words w off = refl
written_other (one ∷ rest) words w off =
    let both = neither_of (one.0 == w) (names_word w rest) off in
    written_other rest (set words one.0 one.1) w both.1
    ∙ get_or-set_other words one.0 w one.1 0 (λ e. eqb-false one.0 w both.0 (sym e))

-- a part that is a block
is_block_of : (x : Part) (P : block.State → Type 0) → IsBlock x P → is_block x ≡ true
is_block_of (part.Block st) P is = refl
is_block_of other P is = absurd is

-- a loan that comes back
back_same : (s : Setting) (past : History) (by d w n : ℕ) (private : List (ℕ × ℕ)) → IsRun s past → is_running ((parts_of s past).core by) ≡ true → is_block ((parts_of s past).face d) ≡ true → (is_exclusive_in (blocks.held s past by d) && names_word w private) ≡ false
    → slice_index (block.contents n (return_calls by private (block_calls s past d))) w ≡ slice_index (block.contents n (block_calls s past d)) w
back_same s past by d w n private run running there off = elim (is_number by (block.borrower_of (block_calls s past d))) as (λ b. is_number by (block.borrower_of (block_calls s past d)) ≡ b → slice_index (block.contents n (if b then block.TakeBack by private ∷ block_calls s past d else block_calls s past d)) w ≡ slice_index (block.contents n (block_calls s past d)) w) [
  | true ↦ λ lent.
      let held : hold_of s past by d ≡ Some mode.Ew = borrower_holds s past by d run running there lent in
      written_other private (block.contents n (block_calls s past d)) w (sym (ap (λ o. is_exclusive_in o && names_word w private) (held_is s past by d run ∙ held)) ∙ off)
  | false ↦ λ _. refl
] refl

-- AN ENTRY that does not write a word of a block leaves it
call_same : (s : Setting) (past : History) (by home d w n : ℕ) (c : body.Call) (a : Answer) (private : List (ℕ × ℕ)) → IsRun s past → IsLegal s past (Call by home c a private) → writes s d w past (Call by home c a private) ≡ false
    → slice_index (block.contents n (block_step by c a private d (block_calls s past d))) w ≡ slice_index (block.contents n (block_calls s past d)) w
call_same s past by home d w n (call.DbRelease b) a private run legal off = elim (cases_Bool (is_done a.code && (b == d))) [
  | inl on ↦
      let both = and_both (is_done a.code) (b == d) on in
      let there : is_block ((parts_of s past).face d) ≡ true = subst (λ m. is_block ((parts_of s past).face m) ≡ true) (eqb-true b d both.1) (is_block_of ((parts_of s past).face b) _ (legal.on_parts.value.0 both.0)) in
      ap (λ x. slice_index (block.contents n (if x then end_calls by private (block_calls s past d) else block_calls s past d)) w) on
      ∙ back_same s past by d w n private run legal.on_parts.running there (back_off (is_done a.code && false) (blocks.held s past by d) (names_word w private) (is_done a.code && (b == d)) on off)
  | inr none ↦ ap (λ x. slice_index (block.contents n (if x then end_calls by private (block_calls s past d) else block_calls s past d)) w) none
]
call_same s past by home d w n (call.DbDestroy b) a private run legal off = elim (cases_Bool (is_done a.code && (b == d))) [
  | inl on ↦
      let both = and_both (is_done a.code) (b == d) on in
      let there : is_block ((parts_of s past).face d) ≡ true = subst (λ m. is_block ((parts_of s past).face m) ≡ true) (eqb-true b d both.1) (is_block_of ((parts_of s past).face b) _ (legal.on_parts.value.0 both.0)) in
      ap (λ x. slice_index (block.contents n (if x then doom_calls by private (block_calls s past d) else block_calls s past d)) w) on
      ∙ back_same s past by d w n private run legal.on_parts.running there (back_off (is_done a.code && false) (blocks.held s past by d) (names_word w private) (is_done a.code && (b == d)) on off)
  | inr none ↦ ap (λ x. slice_index (block.contents n (if x then doom_calls by private (block_calls s past d) else block_calls s past d)) w) none
]
call_same s past by home d w n (call.Store b k v) a private run legal off = elim (cases_Bool (is_done a.code && (b == d))) [
  | inl on ↦
      let both = and_both (is_done a.code) (b == d) on in
      let apart : (k == w) ≡ false = store_off (is_done a.code) (b == d) (k == w) _ both.0 both.1 off in
      ap (λ x. slice_index (block.contents n (if x then block.Store k v ∷ block_calls s past d else block_calls s past d)) w) on
      ∙ get_or-set_other (block.contents n (block_calls s past d)) k w v 0 (λ e. eqb-false k w apart (sym e))
  | inr none ↦ ap (λ x. slice_index (block.contents n (if x then block.Store k v ∷ block_calls s past d else block_calls s past d)) w) none
]
call_same s past by home d w n other a private run legal off = refl

pub word_same : (s : Setting) (past : History) (e : Entry) (d w : ℕ) → IsRun s past → IsLegal s past e → (made s past d ≡ None → ⊥) → writes s d w past e ≡ false → slice_index (contents_of s (e ∷ past) d) w ≡ slice_index (contents_of s past d) w
word_same s past (Call by home c a private) d w run legal there off =
    let old : is_new c a d ≡ false = not_new s past by home c a private d legal.on_parts there in
    let size : size_in (made s (Call by home c a private ∷ past) d) ≡ size_in (made s past d) = ap size_in (made_old s past by home c a private d old) in
    let calls : block_calls s (Call by home c a private ∷ past) d ≡ block_step by c a private d (block_calls s past d) = rw old refl in
    let now : contents_of s (Call by home c a private ∷ past) d ≡ block.contents (size_in (made s past d)) (block_step by c a private d (block_calls s past d)) = λ i. block.contents (size i) (calls i) in
    ap (λ l. slice_index l w) now ∙ call_same s past by home d w (size_in (made s past d)) c a private run legal off
word_same s past (Acquire u b) d w run legal there off = ap (λ l. slice_index l w) (granted_if (size_in (made s past d)) (creator_in (made s past d)) u (next_mode s past u) (block_calls s past d) (b == d))
word_same s past (Wait u b) d w run legal there off = ap (λ l. slice_index l w) (asked_same (size_in (made s past d)) u (next_mode s past u) (block_calls s past d) (b == d))
word_same s past (Free u b private) d w run legal there off = elim (cases_Bool (b == d)) [
  | inl on ↦
      let block_there : is_block ((parts_of s past).face d) ≡ true = subst (λ m. is_block ((parts_of s past).face m) ≡ true) (eqb-true b d on) (is_block_of ((parts_of s past).face b) _ legal.on_parts.held) in
      ap (λ x. slice_index (block.contents (size_in (made s past d)) (if x then end_calls u private (block_calls s past d) else block_calls s past d)) w) on
      ∙ back_same s past u d w (size_in (made s past d)) private run legal.on_parts.running block_there (ap (λ x. is_exclusive_in (if x then blocks.held s past u d else None) && names_word w private) (sym on) ∙ off)
  | inr none ↦ ap (λ x. slice_index (block.contents (size_in (made s past d)) (if x then end_calls u private (block_calls s past d) else block_calls s past d)) w) none
]
word_same s past other d w run legal there off = refl

-- A WRITE comes after the creation of the block
no_store : (b : Bool) → (b && false) ≡ true → ⊥
no_store true is = cc is
no_store false is = cc is

store_made : (s : Setting) (past : History) (e : Entry) (d w : ℕ) → IsLegal s past e → is_store d w e ≡ true → made s past d ≡ None → ⊥
store_made s past (Call u home (call.Store b k v) a private) d w legal is none =
    let both = and_both (is_done a.code) ((b == d) && (k == w)) is in
    let here : b ≡ d = eqb-true b d (and_both (b == d) (k == w) both.1).0 in
    block_made (made s past b) (link_calls past b) (block_calls s past b) (event_calls s past b) (scope_calls past b) _ legal.on_parts.value.0 (subst (λ n. made s past n ≡ None) (sym here) none)
store_made s past (Call u home c a private) d w legal is none = no_store (is_done a.code) is
store_made s past e d w legal is none = cc is

write_made : (s : Setting) (past : History) (e : Entry) (d w : ℕ) → IsRun s past → IsLegal s past e → writes s d w past e ≡ true → made s past d ≡ None → ⊥
write_made s past e d w run legal is none = elim (or_cases (is_store d w e) (is_back s d w past e) is) [
  | inl store ↦ store_made s past e d w legal store none
  | inr back ↦
      let ended : ended_mode s d past e ≡ Some mode.Ew = exclusive_is (ended_mode s d past e) (and_both (is_exclusive_in (ended_mode s d past e)) (names_word w (writes_in e)) back).0 in
      let by = ended_by s past e d mode.Ew run legal ended in
      held_made s past by.0 d mode.Ew run by.1.held none
]

made_none : (s : Setting) (past : History) (e : Entry) (d : ℕ) (o : Option Made) → made s past d ≡ o → IsLegal s past e → made s (e ∷ past) d ≡ None → made s past d ≡ None
made_none s past e d None is legal none = is
made_none s past e d (Some m) is legal none = absurd (let still : made s (e ∷ past) d ≡ Some m = made_law s past e d m legal is in cc (still, none))

write_at_made : (s : Setting) (J : History) (d w n : ℕ) → IsRun s J → is_at (writes s d w) J n ≡ true → made s J d ≡ None → ⊥
write_at_made s [] d w n run is none = cc is
write_at_made s (e ∷ past) d w n run is none =
    let before : made s past d ≡ None = made_none s past e d (made s past d) refl run.1 none in
    elim (n == length past) as (λ t. (if t then writes s d w past e else is_at (writes s d w) past n) ≡ true → ⊥) [
      | true ↦ λ k. write_made s past e d w run.0 run.1 k before
      | false ↦ λ k. write_at_made s past d w n run.0 k before
    ] is

-- A BLOCK that was not made begins with zeros
zero_word : (n w : ℕ) → slice_index (replicate n 0) w ≡ 0
zero_word zero w = refl
zero_word (suc n) zero = refl
zero_word (suc n) (suc w) = zero_word n w

no_size : (s : Setting) (past : History) (d w : ℕ) → made s past d ≡ None → slice_index (contents_of s past d) w ≡ 0
no_size s past d w none = get_or_past (contents_of s past d) w 0 (let l = length-contents (size_in (made s past d)) (block_calls s past d) in let z : size_in (made s past d) ≡ 0 = ap size_in none in omega (arith, l, z))

unmade_word : (s : Setting) (past : History) (e : Entry) (d w : ℕ) → made s past d ≡ None → slice_index (contents_of s (e ∷ past) d) w ≡ 0
unmade_word s past (Call by home c a private) d w none = elim (cases_Bool (is_new c a d)) [
  | inl on ↦
      let calls : block_calls s (Call by home c a private ∷ past) d ≡ [] = rw on refl in
      ap (λ l. slice_index (block.contents (size_in (made s (Call by home c a private ∷ past) d)) l) w) calls ∙ zero_word (size_in (made s (Call by home c a private ∷ past) d)) w
  | inr old ↦ no_size s (Call by home c a private ∷ past) d w (made_old s past by home c a private d old ∙ none)
]
unmade_word s past other d w none = no_size s (other ∷ past) d w none

-- THE WORD is that after the last write, or the first word
record IsTold (s : Setting) (J : History) (d w n : ℕ) : Type 0 where
  write : is_at (writes s d w) J n ≡ true
  last : (m : ℕ) → is_at (writes s d w) J m ≡ true → m ≤ n
  word : slice_index (contents_of s J d) w ≡ word_after s J d w n

through_new : (past : History) (e : Entry) → through (e ∷ past) (length past) ≡ e ∷ past
through_new past e = ap (λ t. if t then e ∷ past else through past (length past)) (same (length past))

through_old : (past : History) (e : Entry) (n : ℕ) → n < length past → through (e ∷ past) n ≡ through past n
through_old past e n h = ap (λ t. if t then e ∷ past else through past n) (off_new n (length past) h)

abbrev IsUntold : Setting → History → (d w : ℕ) → Type 0
IsUntold s J d w = ((m : ℕ) → is_at (writes s d w) J m ≡ true → ⊥) × (slice_index (contents_of s J d) w ≡ first_word s d w)

not_new_write : (s : Setting) (past : History) (e : Entry) (d w m : ℕ) → writes s d w past e ≡ false → is_at (writes s d w) (e ∷ past) m ≡ true → is_at (writes s d w) past m ≡ true
not_new_write s past e d w m off is = elim (m == length past) as (λ t. (if t then writes s d w past e else is_at (writes s d w) past m) ≡ true → is_at (writes s d w) past m ≡ true) [
  | true ↦ λ k. cc (k, off)
  | false ↦ λ k. k
] is

told_kept : (s : Setting) (past : History) (e : Entry) (d w : ℕ) → writes s d w past e ≡ false → slice_index (contents_of s (e ∷ past) d) w ≡ slice_index (contents_of s past d) w → ((n : ℕ) × IsTold s past d w n) ⊎ IsUntold s past d w → ((n : ℕ) × IsTold s (e ∷ past) d w n) ⊎ IsUntold s (e ∷ past) d w
told_kept s past e d w off stays (inl told) =
    let low : told.0 < length past = at_below (writes s d w) past told.0 told.1.write in
    inl (
      told.0,
      record {
        write = old_at (writes s d w) past e told.0 low ∙ told.1.write;
        last = λ m k. told.1.last m (not_new_write s past e d w m off k);
        word = stays ∙ told.1.word ∙ ap (λ h. slice_index (contents_of s h d) w) (sym (through_old past e told.0 low));
      },
    )
told_kept s past e d w off stays (inr none) = inr (λ m k. none.0 m (not_new_write s past e d w m off k), stays ∙ none.1)

told : (s : Setting) (J : History) (d w : ℕ) → IsRun s J → ((n : ℕ) × IsTold s J d w n) ⊎ IsUntold s J d w
told s [] d w run = inr (λ m k. cc k, refl)
told s (e ∷ past) d w run = elim (cases_Bool (writes s d w past e)) [
  | inl on ↦ inl (
    length past,
    record {
      write = new_at (writes s d w) past e ∙ on;
      last = λ m k. (let low : m < suc (length past) = at_below (writes s d w) (e ∷ past) m k in omega (arith, low));
      word = ap (λ h. slice_index (contents_of s h d) w) (sym (through_new past e));
    },
  )
  | inr off ↦ elim (made s past d) as (λ o. made s past d ≡ o → ((n : ℕ) × IsTold s (e ∷ past) d w n) ⊎ IsUntold s (e ∷ past) d w) [
    | Some m ↦ λ there. told_kept s past e d w off (word_same s past e d w run.0 run.1 (λ none. cc (none, there)) off) (told s past d w run.0)
    | None ↦ λ none. told_kept s past e d w off (unmade_word s past e d w none ∙ sym (no_size s past d w none)) (told s past d w run.0)
  ] refl
]

-- WHAT A LOAD GIVES is the word
loaded_word : (md : Option Made) (links : List slot.SlotCall) (blocks : List block.BlockCall) (events : List EventCall) (scopes : List ScopeCall) (t k value : ℕ) (m : Option Mode) → IsBlock (face md links blocks events scopes) (IsLoaded t k m value) → value ≡ slice_index (block.contents (size_in md) blocks) k
loaded_word (Some (MadeBlock n c)) links blocks events scopes t k value m is =
    is.word ∙ ap (λ (o : Option ℕ). slice_index (if is_some o then [] else block.contents n blocks) k) is.shared.not_lent
loaded_word other links blocks events scopes t k value m is = absurd is

through_front : (later past : History) (n : ℕ) → n < length past → through (later ++ past) n ≡ through past n
through_front [] past n h = refl
through_front (e ∷ later) past n h = through_old (later ++ past) e n (let l = front_length later past in omega (arith, h, l)) ∙ through_front later past n h

loaded_split : (s : Setting) (J L H : History) (b t home d w : ℕ) (a : Answer) (private : List (ℕ × ℕ)) → IsRun s J → IsRaceFree s J → entry_at J b ≡ Some (Call t home (call.Load d w) a private) → is_done a.code ≡ true → IsSplit J L (Call t home (call.Load d w) a private) H b
    → ((n : ℕ) × LastWrite s J d w n b × (a.value ≡ word_after s J d w n)) ⊎ (NoWrite s J d w b × (a.value ≡ first_word s d w))
loaded_split s J L H b t home d w a private run free entry done cut =
    let x : Entry = Call t home (call.Load d w) a private in
    let here = load_at s L x H (subst (IsRun s) cut.whole run) in
    let value : a.value ≡ slice_index (contents_of s H d) w = loaded_word (made s H d) (link_calls H d) (block_calls s H d) (event_calls s H d) (scope_calls H d) t w a.value _ here.1.on_parts.value in
    let inner : (m : ℕ) → m < b → is_at (writes s d w) J m ≡ is_at (writes s d w) H m = λ m h.
    let low : m < length H = (let p = cut.place in omega (arith, p, h)) in
    ap (λ j. is_at (writes s d w) j m) cut.whole ∙ front_at (writes s d w) L (x ∷ H) m (omega (arith, low)) ∙ old_at (writes s d w) H x m low in
    elim (told s H d w here.0) [
      | inl r ↦
          let top : r.0 < length H = at_below (writes s d w) H r.0 r.1.write in
          let low : r.0 < b = (let p = cut.place in omega (arith, p, top)) in
          let is : is_at (writes s d w) J r.0 ≡ true = inner r.0 low ∙ r.1.write in
          inl (
            r.0,
            record {
              write = is;
              earlier = writes_before_law s J r.0 b t home d w a private run free entry done low is;
              last = λ m k h. r.1.last m (sym (inner m ((graph_law s J m b run).0 h).0) ∙ k);
            },
            value ∙ r.1.word ∙ ap (λ h. slice_index (contents_of s h d) w) (sym (ap (λ j. through j r.0) cut.whole ∙ through_front L (x ∷ H) r.0 (omega (arith, top)) ∙ through_old H x r.0 top)),
          )
      | inr none ↦ inr (λ m k h. none.0 m (sym (inner m ((graph_law s J m b run).0 h).0) ∙ k), value ∙ none.1)
    ]

pub loaded_law : LoadedLaw
loaded_law s J b t home d w a private run free entry done =
    let cut = split_entry (Call t home (call.Load d w) a private) J b entry in
    loaded_split s J cut.0 cut.1 b t home d w a private run free entry done cut.2
