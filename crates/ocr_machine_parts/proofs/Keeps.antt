-- What an entry leaves as it is.
use Rattle.std.proofs.Common.{◌≡◌, ℕ, List, Bool, true, false, ◌==◌, ◌||◌, if◌then◌else◌, refl, ◌∙◌, rules}
use Rattle.std.proofs.lemmas.Bool.{or_parts}
use Rattle.ocr_body_meaning.specs.declared.call.Call.TheVariants as call
use Rattle.ocr_body_meaning.specs.declared.call.Answer.{Answer}
use Rattle.ocr_body_meaning.specs.Holds.{is_done}
use Rattle.ocr_machine_history.specs.declared.entry.Entry.TheVariants.{Call}
use Rattle.ocr_machine_parts.specs.declared.part.Part.{Part}
use Rattle.ocr_machine_history.specs.Made.{names_new}
use Rattle.ocr_machine_parts.specs.Parts.{Parts}
use Rattle.ocr_machine_parts.specs.Codes.{wanted_sources}
use Rattle.ocr_machine_parts.specs.Effects.{joined, called}
use Rattle.ocr_machine_parts.specs.Footprint.{is_wanted, on_face}
use Rattle.ocr_machine_parts.specs.Laws.{FrameLaw}
use Rattle.ocr_machine_parts.proofs.After.{deps_face, deps_core, named_dep, unnamed_fold}
use Rattle.ocr_machine_parts.proofs.Local.{named_source}

unnamed : (g : ℕ) (ds : List ℕ) → is_wanted g (wanted_sources ds) ≡ false → named_dep g ds ≡ false
unnamed g ds off = elim (named_dep g ds) as (λ b. named_dep g ds ≡ b → b ≡ false) [
  | true ↦ λ on. let there = named_source g ds on in cc (there, off)
  | false ↦ λ _. refl
] refl

kept_if : (b c : Bool) (x y : Part) → c ≡ false → (if b then (if c then x else y) else y) ≡ y
kept_if true c x y off = rw off refl
kept_if false c x y off = refl

framed_deps : (done : Bool) (t home from pc dc fl : ℕ) (ps ds : List ℕ) (o : Bool) (a : Answer) (w : List (ℕ × ℕ)) (f : Parts) (g : ℕ) → on_face (Call t home (call.EdtCreate from pc ps dc ds fl o) a w) g ≡ false
    → (if done then joined (call.EdtCreate from pc ps dc ds fl o) home (called t (call.EdtCreate from pc ps dc ds fl o) a w f) else f).face g ≡ f.face g
framed_deps true t home from pc dc fl ps ds o a w f g off =
    let beside : (names_new home g || (names_new a.scope g || names_new a.output g)) ≡ false = (or_parts (names_new home g || (names_new a.scope g || names_new a.output g)) _ off).0 in
    let named : ((from == g) || is_wanted g (wanted_sources ds)) || (a.value == g) ≡ false = (or_parts (names_new home g || (names_new a.scope g || names_new a.output g)) _ off).1 in
    let apart : names_new home g ≡ false = (or_parts (names_new home g) _ beside).0 in
    let no_scope : names_new a.scope g ≡ false = (or_parts (names_new a.scope g) _ (or_parts (names_new home g) _ beside).1).0 in
    let no_output : names_new a.output g ≡ false = (or_parts (names_new a.scope g) _ (or_parts (names_new home g) _ beside).1).1 in
    let new : (a.value == g) ≡ false = (or_parts ((from == g) || is_wanted g (wanted_sources ds)) _ named).1 in
    let wants : is_wanted g (wanted_sources ds) ≡ false = (or_parts (from == g) _ (or_parts ((from == g) || is_wanted g (wanted_sources ds)) _ named).0).1 in
    rw apart (deps_face a.value 0 ds _ g ∙ rw (new, no_scope, no_output) (unnamed_fold a.value 0 g ds (f.face g) (unnamed g ds wants)))
framed_deps false t home from pc dc fl ps ds o a w f g off = refl

pub frame_law : FrameLaw
frame_law (Call t home (call.EdtCreate from pc ps dc ds fl o) a w) f = record {
  faces = λ g off. framed_deps (is_done a.code) t home from pc dc fl ps ds o a w f g off;
  cores = λ u off. elim (is_done a.code) as (λ b. (if b then joined (call.EdtCreate from pc ps dc ds fl o) home (called t (call.EdtCreate from pc ps dc ds fl o) a w f) else f).core u ≡ f.core u) [
    | true ↦ deps_core a.value 0 ds _ u ∙ rw (or_parts (t == u) _ off).1 refl
    | false ↦ refl
  ];
}
frame_law other f = search rules
