-- The tokens of a text are one list, or there is one fault.
use Rattle.std.proofs.Common.{◌≡◌, ◌≤◌, ◌<◌, ◌^◌, ◌+◌, ◌-◌, ◌⊎◌, inl, inr, ℕ, zero, suc, List, [], ◌∷◌, ◌++◌, true, refl, sym, ap, subst, ◌∙◌, Option, Some, None, arith, length, take, drop, length-drop}
use Rattle.std.proofs.lemmas.List.{take_all}
use Rattle.ocr_text.specs.declared.token.TokenKind.{TokenKind}
use Rattle.ocr_text.specs.declared.token.TokenKind.TheVariants as kind
use Rattle.ocr_text.specs.declared.token.Token.{Token}
use Rattle.ocr_text.specs.Forms.{is_form, value_of}
use Rattle.ocr_text.specs.Tokens.{IsLongest, IsNoToken, IsToken, Tile, AreTokens, IsTooLarge, IsFault}
use Rattle.ocr_text.specs.Laws.{TokensLaw}
use Rattle.ocr_text.specs.Scan.{kind_at, rest_of, found, found_as}
use Rattle.ocr_text.proofs.Bytes.{first_byte}
use Rattle.ocr_text.proofs.Fronts.{IsFront, front_of, no_form}

-- ---- the front of some bytes

pub pair_is : (a b : TokenKind × ℕ) → Some a ≡ Some b → a ≡ b
pair_is a b is = cc

pub none_some : {x : TokenKind × ℕ} → None ≡ Some x → ⊥
none_some is = cc

as_front : (o : Option TokenKind) (b : ℕ) (bs : List ℕ) (k : TokenKind) (n : ℕ) → kind_at b ≡ o → found_as o b bs ≡ Some (k, n) → IsFront (b ∷ bs) k n
as_front None b bs k n first is = absurd (none_some is)
as_front (Some t) b bs k n first is = subst (λ (x : TokenKind × ℕ). IsFront (b ∷ bs) x.0 x.1) (pair_is (t, rest_of t b bs + 1) (k, n) is) (front_of b bs t first)

found_front : (rest : List ℕ) (k : TokenKind) (n : ℕ) → found rest ≡ Some (k, n) → IsFront rest k n
found_front [] k n is = absurd (none_some is)
found_front (b ∷ bs) k n is = as_front (kind_at b) b bs k n refl is

front_found : (rest : List ℕ) (k : TokenKind) (n : ℕ) → IsFront rest k n → found rest ≡ Some (k, n)
front_found [] k n front = absurd (omega (arith, front.some, front.within))
front_found (b ∷ bs) k zero front = absurd (omega (arith, front.some))
front_found (b ∷ bs) k (suc m) front =
    let first : kind_at b ≡ Some k = first_byte k b (take m bs) front.form in
    let here : IsFront (b ∷ bs) k (rest_of k b bs + 1) = front_of b bs k first in
    let up : suc m ≤ rest_of k b bs + 1 = here.longest k (suc m) front.within front.form in
    let down : rest_of k b bs + 1 ≤ suc m = front.longest k (rest_of k b bs + 1) here.within here.form in
    let size : rest_of k b bs + 1 ≡ suc m = omega arith in
    ap (λ (o : Option TokenKind). found_as o b bs) first ∙ ap (λ (n : ℕ). Some (k, n)) size

take_none : (n : ℕ) → take {A = ℕ} n [] ≡ []
take_none zero = refl
take_none (suc n) = refl

no_front : (rest : List ℕ) → found rest ≡ None → (k : TokenKind) (m : ℕ) → is_form k (take m rest) ≡ true → ⊥
no_front [] is k m form = no_form k (sym (ap (is_form k) (take_none m)) ∙ form)
no_front (b ∷ bs) is k zero form = no_form k form
no_front (b ∷ bs) is k (suc m) form = none_some (sym is ∙ ap (λ (o : Option TokenKind). found_as o b bs) (first_byte k b (take m bs) form))

-- ---- the longest match at a place

pub found_longest : (bytes : List ℕ) (place : ℕ) (k : TokenKind) (n : ℕ) → found (drop place bytes) ≡ Some (k, n) → IsLongest bytes place k (place + n)
found_longest bytes place k n is =
    let front : IsFront (drop place bytes) k n = found_front _ k n is in
    let size : place + n - place ≡ n = omega arith in
    record {
      some = omega (arith, front.some);
      within = omega (arith, front.some, front.within, length-drop place bytes);
      form = ap (λ (m : ℕ). is_form k (take m (drop place bytes))) size ∙ front.form;
      longest = λ other later inside form.
          let most : later - place ≤ n = front.longest other (later - place) (omega (arith, length-drop place bytes)) form in
          omega arith;
    }

longest_front : (bytes : List ℕ) (place : ℕ) (k : TokenKind) (end : ℕ) → IsLongest bytes place k end → IsFront (drop place bytes) k (end - place)
longest_front bytes place k end longest = record {
  some = omega (arith, longest.some);
  within = omega (arith, longest.within, length-drop place bytes);
  form = longest.form;
  longest = λ other m inside form.
      let size : place + m - place ≡ m = omega arith in
      let later : place + m ≤ length bytes = omega (arith, inside, longest.some, longest.within, length-drop place bytes) in
      let most : place + m ≤ end = longest.longest other (place + m) later (ap (λ (n : ℕ). is_form other (take n (drop place bytes))) size ∙ form) in
      omega arith;
}

pub longest_found : (bytes : List ℕ) (place : ℕ) (k : TokenKind) (end : ℕ) → IsLongest bytes place k end → found (drop place bytes) ≡ Some (k, end - place)
longest_found bytes place k end longest = front_found _ k (end - place) (longest_front bytes place k end longest)

pub found_none : (bytes : List ℕ) (place : ℕ) → found (drop place bytes) ≡ None → IsNoToken bytes place
found_none bytes place is = λ k end form. no_front (drop place bytes) is k (end - place) form

-- ---- one list of tokens

pub longest_one : (bytes : List ℕ) (place : ℕ) (k j : TokenKind) (end other : ℕ) → IsLongest bytes place k end → IsLongest bytes place j other → (k ≡ j) × (end ≡ other)
longest_one bytes place k j end other a b =
    let same = pair_is (k, end - place) (j, other - place) (sym (longest_found bytes place k end a) ∙ longest_found bytes place j other b) in
    let size : end - place ≡ other - place = ap (λ (x : TokenKind × ℕ). x.1) same in
    (ap (λ (x : TokenKind × ℕ). x.0) same, omega (arith, size, a.some, b.some))

-- no token begins here
abbrev Stops : List ℕ → ℕ → Type 0
Stops bytes place = (token : Token) → token.start ≡ place → IsToken bytes token → ⊥

stops_at_end : (bytes : List ℕ) → Stops bytes (length bytes)
stops_at_end bytes token is found = omega (arith, is, found.longest.some, found.longest.within)

stops_stuck : (bytes : List ℕ) (place : ℕ) → IsNoToken bytes place ⊎ IsTooLarge bytes place → Stops bytes place
stops_stuck bytes place (inl none) token is found = none token.kind token.end (subst (λ (p : ℕ). is_form token.kind (take (token.end - p) (drop p bytes)) ≡ true) is found.longest.form)
stops_stuck bytes place (inr large) token is found =
    let here : IsLongest bytes place token.kind token.end = subst (λ (p : ℕ). IsLongest bytes p token.kind token.end) is found.longest in
    let same = longest_one bytes place token.kind kind.Number token.end large.end here large.digits in
    let fits : value_of (take (token.end - token.start) (drop token.start bytes)) < 2 ^ 64 = found.in_range same.0 in
    let as_place : value_of (take (token.end - place) (drop place bytes)) < 2 ^ 64 = subst (λ (p : ℕ). value_of (take (token.end - p) (drop p bytes)) < 2 ^ 64) is fits in
    let as_end : value_of (take (large.end - place) (drop place bytes)) < 2 ^ 64 = subst (λ (e : ℕ). value_of (take (e - place) (drop place bytes)) < 2 ^ 64) same.1 as_place in
    omega (arith, as_end, large.large)

token_is : (t u : Token) → t.kind ≡ u.kind → t.start ≡ u.start → t.end ≡ u.end → t ≡ u
token_is t u kinds starts ends =
    let make : TokenKind → ℕ → ℕ → Token = λ k s e. record { kind = k; start = s; end = e } in
    ap (λ (k : TokenKind). make k t.start t.end) kinds ∙ ap (λ (s : ℕ). make u.kind s t.end) starts ∙ ap (λ (e : ℕ). make u.kind u.start e) ends

tokens_one_at : (bytes : List ℕ) (first : ℕ) (t u : Token) → t.start ≡ first → u.start ≡ first → IsToken bytes t → IsToken bytes u → t ≡ u
tokens_one_at bytes first t u tis uis a b =
    let starts : t.start ≡ u.start = tis ∙ sym uis in
    let other : IsLongest bytes t.start u.kind u.end = subst (λ (p : ℕ). IsLongest bytes p u.kind u.end) (sym starts) b.longest in
    let same = longest_one bytes t.start t.kind u.kind t.end u.end a.longest other in
    token_is t u same.0 starts same.1

-- tokens that adjoin from one place to where none begins are one list
pub tile_one : (bytes : List ℕ) (ts us : List Token) (first last other : ℕ) → Tile bytes first ts last → Stops bytes last → Tile bytes first us other → Stops bytes other → (ts ≡ us) × (last ≡ other)
tile_one bytes [] [] first last other a stop b end = (refl, sym a ∙ b)
tile_one bytes [] (u ∷ us) first last other a stop b end = absurd (stop u (b.0 ∙ a) b.1)
tile_one bytes (t ∷ ts) [] first last other a stop b end = absurd (end t (a.0 ∙ b) a.1)
tile_one bytes (t ∷ ts) (u ∷ us) first last other a stop b end =
    let same : t ≡ u = tokens_one_at bytes first t u a.0 b.0 a.1 b.1 in
    let tail : Tile bytes t.end us other = subst (λ (x : Token). Tile bytes x.end us other) (sym same) b.2 in
    let rest = tile_one bytes ts us t.end last other a.2 stop tail end in
    (ap (λ (x : Token). x ∷ ts) same ∙ ap (λ (x : List Token). u ∷ x) rest.0, rest.1)

pub tokens_one : (bytes : List ℕ) (tokens others : List Token) → AreTokens bytes tokens → AreTokens bytes others → tokens ≡ others
tokens_one bytes tokens others a b = (tile_one bytes tokens others 0 (length bytes) (length bytes) a (stops_at_end bytes) b (stops_at_end bytes)).0

pub fault_one : (bytes : List ℕ) (place other : ℕ) → IsFault bytes place → IsFault bytes other → place ≡ other
fault_one bytes place other a b = (tile_one bytes a.before b.before 0 place other a.reached (stops_stuck bytes place a.stuck) b.reached (stops_stuck bytes other b.stuck)).1

pub tokens_no_fault : (bytes : List ℕ) (tokens : List Token) (place : ℕ) → AreTokens bytes tokens → IsFault bytes place → ⊥
tokens_no_fault bytes tokens place a b =
    let same : length bytes ≡ place = (tile_one bytes tokens b.before 0 (length bytes) place a (stops_at_end bytes) b.reached (stops_stuck bytes place b.stuck)).1 in
    omega (arith, same, b.inside)

-- one token more
pub tile_more : (bytes : List ℕ) (ts : List Token) (t : Token) (first : ℕ) → Tile bytes first ts t.start → IsToken bytes t → Tile bytes first (ts ++ t ∷ []) t.end
tile_more bytes [] t first a is = (sym a, is, refl)
tile_more bytes (u ∷ ts) t first a is = (a.0, a.1, tile_more bytes ts t u.end a.2 is)

-- the laws together
pub tokens_law : TokensLaw
tokens_law = record { one = tokens_one; one_fault = fault_one; apart = tokens_no_fault }

pub tail_is : (bytes : List ℕ) (place : ℕ) → take (length bytes - place) (drop place bytes) ≡ drop place bytes
tail_is bytes place = take_all _ _ (omega (arith, length-drop place bytes))

-- a token is found after those that lead up to its place
pub tile_on : (bytes : List ℕ) (ts all : List Token) (t : Token) (place : ℕ) → Tile bytes 0 ts place → t.start ≡ place → IsToken bytes t → all ≡ ts ++ t ∷ [] → Tile bytes 0 all t.end
tile_on bytes ts all t place tiled starts is more =
    subst (λ (l : List Token). Tile bytes 0 l t.end) (sym more) (tile_more bytes ts t 0 (subst (λ (p : ℕ). Tile bytes 0 ts p) (sym starts) tiled) is)
