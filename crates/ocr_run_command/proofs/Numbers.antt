-- Texts that are read one after another.
use Rattle.std.proofs.Common.{arith, ◌≡◌, ◌∙◌, ◌<◌, ◌≤◌, ◌+◌, ℕ, List, [], ◌∷◌, ◌++◌, length, map, take, get_or, sym, ap, ap₂, subst}
use Rattle.std.specs.Borrow.{Bor}
use Rattle.std.specs.List.{All}
use Rattle.std.proofs.lemmas.List.{length-map, get_or-map, map-append, take_all, take_more}
use Rattle.std.proofs.lemmas.List.Elements.{All-push}
use Rattle.ocr_run_command.specs.Form.{Text}
use Rattle.ocr_run_command.specs.Wanted.{IsNumber, AreNumbers, value}

abbrev now : List (Bor Text) → List Text
now = map (λ t. t.now)

abbrev none : Bor Text
none = record { ref_ptr = (0, 0); now = [] }

next : (texts : List (Bor Text)) (i : ℕ) → i < length texts → now (take (i + 1) texts) ≡ now (take i texts) ++ (get_or texts i none).now ∷ []
next texts i lt = ap now (take_more texts i none lt) ∙ map-append (λ (t : Bor Text). t.now) (take i texts) (get_or texts i none ∷ [])

pub more_numbers : (texts : List (Bor Text)) (i : ℕ) → i < length texts → All IsNumber (now (take i texts)) → IsNumber (get_or texts i none).now → All IsNumber (now (take (i + 1) texts))
more_numbers texts i lt all h = subst (All IsNumber) (sym (next texts i lt)) (All-push IsNumber (now (take i texts)) (get_or texts i none).now all h)

pub more_values : (texts : List (Bor Text)) (i n : ℕ) (items : List ℕ) → i < length texts → items ≡ map value (now (take i texts)) → n ≡ value (get_or texts i none).now
    → items ++ n ∷ [] ≡ map value (now (take (i + 1) texts))
more_values texts i n items lt are is =
    ap₂ (λ xs x. xs ++ x ∷ []) are is ∙ sym (map-append value (now (take i texts)) ((get_or texts i none).now ∷ [])) ∙ sym (ap (map value) (next texts i lt))

pub one_fails : (texts : List (Bor Text)) (i : ℕ) → i < length texts → (IsNumber (get_or texts i none).now → ⊥) → AreNumbers (now texts) → ⊥
one_fails texts i lt fails all =
    let within : i < length (now texts) = omega (arith, length-map texts (λ (t : Bor Text). t.now)) in
    fails (subst IsNumber (get_or-map (λ (t : Bor Text). t.now) texts i none [] lt) (all i [] within))

-- once all are read
pub all_read : (texts : List (Bor Text)) (i : ℕ) → length texts ≤ i → AreNumbers (now (take i texts)) → AreNumbers (now texts)
all_read texts i le all = subst (λ (xs : List (Bor Text)). AreNumbers (now xs)) (take_all i texts le) all
