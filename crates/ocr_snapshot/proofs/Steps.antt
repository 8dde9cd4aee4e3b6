-- What an entry makes of the words of a block is what they are after it.
use Rattle.std.proofs.Common.{◌≡◌, ℕ, ◌/◌, List, [], ◌∷◌, Bool, true, false, ◌||◌, ◌&&◌, ◌==◌, Option, Some, None, option_map, if◌then◌else◌, replicate, refl, sym, ap, ◌∙◌}
use Rattle.ocr_acquire.specs.Writes.{written}
use Rattle.ocr_body_meaning.specs.Holds.{is_done}
use Rattle.ocr_body_meaning.specs.declared.call.Call.TheVariants as call
use Rattle.ocr_machine_history.specs.declared.entry.Entry.{Entry}
use Rattle.ocr_machine_history.specs.declared.entry.Entry.TheVariants.{Call, Free}
use Rattle.ocr_machine_history.specs.declared.objects.TheConstants.{OUTPUT_KIND, OUTPUT_FLAGS}
use Rattle.ocr_machine_history.specs.History.{History, Setting}
use Rattle.ocr_machine_history.specs.Made.{Made, MadeBlock, MadeTemplate, MadeEdt, MadeEvent, MadeScope, made, makes, edt_from, names_new, creator_of}
use Rattle.ocr_machine_rules.specs.Blocks.{contents_of, writes_by}
use Rattle.ocr_machine_rules.specs.Codes.{is_block}
use Rattle.ocr_snapshot.specs.Contents.{words_in, words_after}

abbrev told : Bool → List ℕ → Option (List ℕ)
told is words = if is then Some words else None

nothing_written : (x : Option (List ℕ)) (done : Bool) → option_map (written (if done then [] else [])) x ≡ x
nothing_written None done = refl
nothing_written (Some words) true = refl
nothing_written (Some words) false = refl

told_written : (is : Bool) (ws : List (ℕ × ℕ)) (words : List ℕ) → told is (written ws words) ≡ option_map (written ws) (told is words)
told_written true ws words = refl
told_written false ws words = refl

-- a block is made
block_made : (new done : Bool) (n creator : ℕ) (m : Option Made) (words : List ℕ)
    → told (is_block (if new then Some (MadeBlock n creator) else m)) (if new then replicate n 0 else words)
    ≡ (if new then Some (replicate n 0) else option_map (written (if done then [] else [])) (told (is_block m) words))
block_made true done n creator m words = refl
block_made false done n creator m words = sym (nothing_written _ done)

-- what is made is no block
other_made : (m after : Option Made) (new : Bool) (ws : List (ℕ × ℕ)) (words : List ℕ) → (new ≡ true → is_block after ≡ false) → (new ≡ false → after ≡ m)
    → told (is_block after) (written ws words) ≡ (if new then None else option_map (written ws) (told (is_block m) words))
other_made m after true ws words off same = ap (λ (b : Bool). told b (written ws words)) (off refl)
other_made m after false ws words off same = ap (λ (o : Option Made). told (is_block o) (written ws words)) (same refl) ∙ told_written (is_block m) ws words

one_made : (m thing : Option Made) (new : Bool) (ws : List (ℕ × ℕ)) (words : List ℕ) → is_block thing ≡ false
    → told (is_block (if new then thing else m)) (written ws words) ≡ (if new then None else option_map (written ws) (told (is_block m) words))
one_made m thing true ws words off = other_made m thing true ws words (λ _. off) (λ is. cc is)
one_made m thing false ws words off = other_made m m false ws words (λ is. cc is) (λ _. refl)

no_block : (from : Option Made) (params : List ℕ) (depc : ℕ) → is_block (edt_from from params depc) ≡ false
no_block None params depc = refl
no_block (Some (MadeBlock n c)) params depc = refl
no_block (Some (MadeTemplate f pc dc)) params depc = refl
no_block (Some (MadeEdt f ps dc)) params depc = refl
no_block (Some (MadeEvent k fl most)) params depc = refl
no_block (Some (MadeScope outer event)) params depc = refl

-- an EDT is made, and what is made beside it
edt_made : (new done scope output : Bool) (edt m : Option Made) (outer event : ℕ) (ws : List (ℕ × ℕ)) (words : List ℕ) → is_block edt ≡ false
    → told (is_block (if new then edt else if done && scope then Some (MadeScope outer event) else if done && output then Some (MadeEvent OUTPUT_KIND OUTPUT_FLAGS 0) else m)) (written ws words)
    ≡ (if (done && (scope || output)) || new then None else option_map (written ws) (told (is_block m) words))
edt_made true true true output edt m outer event ws words off = ap (λ (b : Bool). told b (written ws words)) off
edt_made true true false true edt m outer event ws words off = ap (λ (b : Bool). told b (written ws words)) off
edt_made true true false false edt m outer event ws words off = ap (λ (b : Bool). told b (written ws words)) off
edt_made true false scope output edt m outer event ws words off = ap (λ (b : Bool). told b (written ws words)) off
edt_made false true true output edt m outer event ws words off = refl
edt_made false true false true edt m outer event ws words off = refl
edt_made false true false false edt m outer event ws words off = told_written (is_block m) ws words
edt_made false false scope output edt m outer event ws words off = told_written (is_block m) ws words

pub words_step : (s : Setting) (past : History) (e : Entry) (d : ℕ) → words_in s (e ∷ past) d ≡ words_after e d (words_in s past d)
words_step s past (Call t home (call.DbCreate n fl) a w) d = block_made (makes a d) (is_done a.code) (n / 8) (creator_of t fl) (made s past d) (contents_of s past d)
words_step s past (Call t home (call.TemplateCreate f pc dc) a w) d = one_made (made s past d) (Some (MadeTemplate f pc dc)) (makes a d) (if is_done a.code then [] else []) (contents_of s past d) refl
words_step s past (Call t home (call.EventCreate k fl) a w) d = one_made (made s past d) (Some (MadeEvent k fl 0)) (makes a d) (if is_done a.code then [] else []) (contents_of s past d) refl
words_step s past (Call t home (call.EventCreateParams k fl most sats deps) a w) d = one_made (made s past d) (Some (MadeEvent k fl most)) (makes a d) (if is_done a.code then [] else []) (contents_of s past d) refl
words_step s past (Call t home (call.EdtCreate from pc ps dc ds fl o) a w) d =
    edt_made (makes a d) (is_done a.code) (names_new a.scope d) (names_new a.output d) (edt_from (made s past from) ps dc) (made s past d) home a.output
    (if is_done a.code then [] else []) (contents_of s past d) (no_block (made s past from) ps dc)
words_step s past (Call t home other a w) d = told_written (is_block (made s past d)) (if is_done a.code then writes_by other w d else []) (contents_of s past d)
words_step s past (Free t b w) d = told_written (is_block (made s past d)) (if b == d then w else []) (contents_of s past d)
words_step s past other d = refl
