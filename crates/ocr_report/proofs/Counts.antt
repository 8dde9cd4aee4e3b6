-- The counts with what an entry makes.
use Rattle.std.proofs.Common.{◌≡◌, ◌∙◌, ◌/◌, ℕ, List, ◌∷◌, Bool, true, false, ◌||◌, ◌&&◌, ◌==◌, if◌then◌else◌, refl, ap, sym}
use Rattle.std.specs.Prelude.{Option, Some, None, unwrap_or}
use Rattle.ocr_body_meaning.specs.Holds.{is_done}
use Rattle.ocr_body_meaning.specs.declared.call.Call.TheVariants as call
use Rattle.ocr_body_meaning.specs.declared.call.Answer.{Answer}
use Rattle.ocr_machine_history.specs.declared.entry.Entry.{Entry}
use Rattle.ocr_machine_history.specs.declared.entry.Entry.TheVariants as an
use Rattle.ocr_machine_history.specs.declared.objects.TheConstants.{OUTPUT_KIND, OUTPUT_FLAGS}
use Rattle.ocr_machine_history.specs.History.{Setting, History}
use Rattle.ocr_machine_history.specs.Made.{creator_of, Made, MadeBlock, MadeTemplate, MadeEdt, MadeEvent, MadeScope, edt_from, made, made_beside, names_new}
use Rattle.ocr_report.specs.declared.slots.Counted.{Counted}
use Rattle.ocr_report.specs.Made.{is_beside_in}
use Rattle.ocr_report.specs.Slots.{counted_in, counted_of, edt_counted}

-- an accepted creation of a number
abbrev made_if : Bool → ℕ → Option Counted → Option (ℕ × Option Counted)
made_if done v y = if done then Some (v, y) else None

at_new : (done : Bool) (v n g : ℕ) (x y before : Option Counted) (m old : Option Made) → y ≡ counted_in m → before ≡ counted_in old
    → made_if done v y ≡ Some (n, x)
    → (if n == g then x else before) ≡ counted_in (if done && (v == g) then m else old)
at_new true v n g x y before m old new kept is =
    let number : v ≡ n = ap (λ (o : Option (ℕ × Option Counted)). (unwrap_or o (n, x)).0) is in
    let count : y ≡ x = ap (λ (o : Option (ℕ × Option Counted)). (unwrap_or o (n, x)).1) is in
    ap (λ k. if k == g then x else before) (sym number)
    ∙ elim (v == g) as (λ b. (if b then x else before) ≡ counted_in (if b then m else old)) [
      | true ↦ sym count ∙ new
      | false ↦ kept
    ]
at_new false v n g x y before m old new kept is = cc is

-- another call makes nothing
abbrev none_made : Bool → Option (ℕ × Option Counted)
none_made done = if done then None else None

-- an EDT from a template
from_same : (m : Option Made) (ps : List ℕ) (dc : ℕ) → edt_counted (counted_in m) dc ≡ counted_in (edt_from m ps dc)
from_same None ps dc = refl
from_same (Some (MadeBlock n c)) ps dc = refl
from_same (Some (MadeTemplate f pc own)) ps dc = refl
from_same (Some (MadeEdt f params n)) ps dc = refl
from_same (Some (MadeEvent k fl most)) ps dc = refl
from_same (Some (MadeScope outer event)) ps dc = refl

-- what is made beside it has no count
beside_same : (a : Answer) (home g : ℕ) (x : Option Counted) (m : Option Made) → x ≡ counted_in m
    → (if is_done a.code && (names_new a.scope g || names_new a.output g) then None else x) ≡ counted_in (made_beside a home g m)
beside_same a home g x m same = cases (is_done a.code) (names_new a.scope g) (names_new a.output g)
  where
    cases : (done scope output : Bool) → (if done && (scope || output) then None else x)
        ≡ counted_in (if done && scope then Some (MadeScope home a.output) else if done && output then Some (MadeEvent OUTPUT_KIND OUTPUT_FLAGS 0) else m)
    cases false scope output = same
    cases true true output = refl
    cases true false true = refl
    cases true false false = same

pub count_next : (s : Setting) (past : History) (e : Entry) (f : ℕ → Option Counted) → ((g : ℕ) → f g ≡ counted_in (made s past g))
    → (n : ℕ) (x : Option Counted) → counted_of f e ≡ Some (n, x)
    → (g : ℕ) → (if n == g then x else if is_beside_in e g then None else f g) ≡ counted_in (made s (e ∷ past) g)
count_next s past (an.Call t home (call.DbCreate l fl) a w) f same n x is g =
    at_new (is_done a.code) a.value n g x None (f g) (Some (MadeBlock (l / 8) (creator_of t fl))) (made s past g) refl (same g) is
count_next s past (an.Call t home (call.TemplateCreate fn pc dc) a w) f same n x is g =
    at_new (is_done a.code) a.value n g x (counted_in (Some (MadeTemplate fn pc dc))) (f g) (Some (MadeTemplate fn pc dc)) (made s past g) refl (same g) is
count_next s past (an.Call t home (call.EventCreate k fl) a w) f same n x is g =
    at_new (is_done a.code) a.value n g x None (f g) (Some (MadeEvent k fl 0)) (made s past g) refl (same g) is
count_next s past (an.Call t home (call.EventCreateParams k fl most sats deps) a w) f same n x is g =
    at_new (is_done a.code) a.value n g x None (f g) (Some (MadeEvent k fl most)) (made s past g) refl (same g) is
count_next s past (an.Call t home (call.EdtCreate from pc ps dc ds fl o) a w) f same n x is g =
    at_new (is_done a.code) a.value n g x (edt_counted (f from) dc)
    (if is_beside_in (an.Call t home (call.EdtCreate from pc ps dc ds fl o) a w) g then None else f g)
    (edt_from (made s past from) ps dc) (made_beside a home g (made s past g))
    (ap (λ o. edt_counted o dc) (same from) ∙ from_same (made s past from) ps dc) (beside_same a home g (f g) (made s past g) (same g)) is
count_next s past (an.Call t home other a w) f same n x is g = nothing (is_done a.code) is
  where
    nothing : (done : Bool) → none_made done ≡ Some (n, x) → (if n == g then x else f g) ≡ counted_in (made s past g)
    nothing true none = cc none
    nothing false none = cc none
count_next s past other f same n x is g = cc is
