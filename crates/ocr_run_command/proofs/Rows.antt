-- What the rows of clap's matches hold.
use Rattle.std.proofs.Common.{◌≡◌, ◌∙◌, ◌||◌, Bool, cond, true, false, refl, sym, ap, ap₂, true≢false, List, [], ◌∷◌, ◌++◌, Option, Some, None}
use Rattle.std.specs.Prelude.{find, is_some, option_map}
use Rattle.std.specs.Str.{bytes_eq}
use Rattle.std.proofs.lemmas.Slice.Eq.{bytes_eq-Decides}
use Rattle.clap.specs.Walk.{Row, has_row, stronger, with_values, without}
use Rattle.clap.specs.declared.builder.value_parser.Reading.{Reading}
use Rattle.clap.specs.declared.builder.value_parser.Reading.TheVariants.{AsWritten}
use Rattle.clap.specs.declared.parser.matches.ValueSource.{ValueSource}
use Rattle.ocr_run_command.specs.Form.{Text}

abbrev pub Seen : Type 0
Seen = Option (List Text × Reading)

abbrev pub told : Row → List Text × Reading
told r = (r.values, r.reading)

-- the values of an id
abbrev pub seen : Text → List Row → Seen
seen id rows = option_map told (find (λ r. bytes_eq r.id id) rows)

abbrev pub more : List Text → Seen → Seen
more vs None = Some (vs, AsWritten)
more vs (Some p) = Some (p.0 ++ vs, p.1)

pub same : (a b : Text) → bytes_eq a b ≡ true → a ≡ b
same a b e = (bytes_eq-Decides a b).0 e

pub equal : (a : Text) → bytes_eq a a ≡ true
equal a = (bytes_eq-Decides a a).1 refl

seen_cons : (id : Text) (r : Row) (rs : List Row) (b : Bool) → bytes_eq r.id id ≡ b → seen id (r ∷ rs) ≡ cond b (Some (told r)) (seen id rs)
seen_cons id r rs true t = ap (λ b. option_map told (cond b (Some r) (find (λ r. bytes_eq r.id id) rs))) t
seen_cons id r rs false t = ap (λ b. option_map told (cond b (Some r) (find (λ r. bytes_eq r.id id) rs))) t

abbrev new_row : Text → ValueSource → List Text → Row
new_row k s vs = record { id = k; values = vs; count = None; source = Some s; reading = AsWritten }

abbrev grown : ValueSource → List Text → Row → Row
grown s vs r = record r { values = r.values ++ vs; source = Some (stronger r.source s) }

apart : (r k id : Text) → bytes_eq r k ≡ false → bytes_eq r id ≡ true → bytes_eq k id ≡ false
apart r k id t e = miss (bytes_eq k id) refl
  where
    miss : (b : Bool) → bytes_eq k id ≡ b → bytes_eq k id ≡ false
    miss false q = q
    miss true q = absurd (true≢false (sym ((bytes_eq-Decides r k).1 (same r id e ∙ sym (same k id q))) ∙ t))

abbrev Adds : Text → Text → ValueSource → List Text → List Row → Type 0
Adds k id s vs rows = seen id (with_values k AsWritten s vs rows) ≡ cond (bytes_eq k id) (more vs (seen k rows)) (seen id rows)

both : (d : Bool) (x y z : Seen) → cond d x z ≡ cond d x (cond d y z)
both true x y z = refl
both false x y z = refl

adds_here : (k id : Text) (s : ValueSource) (vs : List Text) (r : Row) (rs : List Row) (d : Bool) → bytes_eq r.id k ≡ true → bytes_eq r.id id ≡ d → Adds k id s vs (r ∷ rs)
adds_here k id s vs r rs d t e =
    let is : r.id ≡ k = same r.id k t in
    let hit : bytes_eq k id ≡ d = ap (λ (x : Text). bytes_eq x id) (sym is) ∙ e in
    let rest : List Row = with_values k AsWritten s vs rs in
    let left : seen id (cond (bytes_eq r.id k) (grown s vs r ∷ rs) (r ∷ rest)) ≡ cond d (Some (told (grown s vs r))) (seen id rs) =
    ap (λ b. seen id (cond b (grown s vs r ∷ rs) (r ∷ rest))) t ∙ seen_cons id (grown s vs r) rs d e in
    let own : seen k (r ∷ rs) ≡ Some (told r) = seen_cons k r rs true t in
    let right : cond (bytes_eq k id) (more vs (seen k (r ∷ rs))) (seen id (r ∷ rs)) ≡ cond d (Some (told (grown s vs r))) (cond d (Some (told r)) (seen id rs)) =
    (λ i. cond (hit i) (more vs (own i)) (seen_cons id r rs d e i)) in
    left ∙ both d _ _ _ ∙ sym right

adds_past : (k id : Text) (s : ValueSource) (vs : List Text) (r : Row) (rs : List Row) → bytes_eq r.id k ≡ false → bytes_eq r.id id ≡ true → Adds k id s vs (r ∷ rs)
adds_past k id s vs r rs t e =
    let rest : List Row = with_values k AsWritten s vs rs in
    let left : seen id (cond (bytes_eq r.id k) (grown s vs r ∷ rs) (r ∷ rest)) ≡ Some (told r) =
    ap (λ b. seen id (cond b (grown s vs r ∷ rs) (r ∷ rest))) t ∙ seen_cons id r rest true e in
    left ∙ sym (ap₂ (λ b o. cond b (more vs (seen k (r ∷ rs))) o) (apart r.id k id t e) (seen_cons id r rs true e))

adds_later : (k id : Text) (s : ValueSource) (vs : List Text) (r : Row) (rs : List Row) → bytes_eq r.id k ≡ false → bytes_eq r.id id ≡ false → Adds k id s vs rs
    → Adds k id s vs (r ∷ rs)
adds_later k id s vs r rs t e later =
    let rest : List Row = with_values k AsWritten s vs rs in
    let left : seen id (cond (bytes_eq r.id k) (grown s vs r ∷ rs) (r ∷ rest)) ≡ seen id rest =
    ap (λ b. seen id (cond b (grown s vs r ∷ rs) (r ∷ rest))) t ∙ seen_cons id r rest false e in
    left ∙ later ∙ sym (ap₂ (λ o p. cond (bytes_eq k id) (more vs o) p) (seen_cons k r rs false t) (seen_cons id r rs false e))

-- values join those of their own id
pub seen_with : (k id : Text) (s : ValueSource) (vs : List Text) (rows : List Row) → Adds k id s vs rows
seen_with k id s vs [] = go (bytes_eq k id) refl
  where
    go : (b : Bool) → bytes_eq k id ≡ b → seen id (new_row k s vs ∷ []) ≡ cond (bytes_eq k id) (Some (vs, AsWritten)) None
    go true t = seen_cons id (new_row k s vs) [] true t ∙ sym (ap (λ b. cond b (Some (vs, AsWritten)) None) t)
    go false t = seen_cons id (new_row k s vs) [] false t ∙ sym (ap (λ b. cond b (Some (vs, AsWritten)) None) t)
seen_with k id s vs (r ∷ rs) = go (seen_with k id s vs rs) (bytes_eq r.id k) refl (bytes_eq r.id id) refl
  where
    go : Adds k id s vs rs → (b : Bool) → bytes_eq r.id k ≡ b → (d : Bool) → bytes_eq r.id id ≡ d → Adds k id s vs (r ∷ rs)
    go later true t d e = adds_here k id s vs r rs d t e
    go later false t true e = adds_past k id s vs r rs t e
    go later false t false e = adds_later k id s vs r rs t e later

-- no row has an id of which nothing is seen
pub unseen : (id : Text) (rows : List Row) → has_row id rows ≡ is_some (seen id rows)
unseen id [] = refl
unseen id (r ∷ rs) = go (unseen id rs) (bytes_eq r.id id) refl
  where
    go : has_row id rs ≡ is_some (seen id rs) → (b : Bool) → bytes_eq r.id id ≡ b → has_row id (r ∷ rs) ≡ is_some (seen id (r ∷ rs))
    go later true t = ap (λ b. b || has_row id rs) t ∙ sym (ap (λ o. is_some o) (seen_cons id r rs true t))
    go later false t = ap (λ b. b || has_row id rs) t ∙ later ∙ sym (ap (λ o. is_some o) (seen_cons id r rs false t))

-- nothing goes where there is nothing
pub without_none : (id : Text) (rows : List Row) → has_row id rows ≡ false → without id rows ≡ rows
without_none id [] e = refl
without_none id (r ∷ rs) e = go (without_none id rs) (bytes_eq r.id id) refl
  where
    go : (has_row id rs ≡ false → without id rs ≡ rs) → (b : Bool) → bytes_eq r.id id ≡ b → without id (r ∷ rs) ≡ r ∷ rs
    go later true t = absurd (true≢false (sym (ap (λ b. b || has_row id rs) t) ∙ e))
    go later false t =
        ap (λ b. cond b ([] ++ rs) (r ∷ without id rs)) t
        ∙ ap (λ xs. r ∷ xs) (later (sym (ap (λ b. b || has_row id rs) t) ∙ e))
