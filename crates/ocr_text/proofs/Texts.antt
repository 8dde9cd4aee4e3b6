-- The kinds and texts of the tokens of a text, and back.
use Rattle.std.proofs.Common.{◌≡◌, ◌≤◌, ◌+◌, ◌-◌, ℕ, List, [], ◌∷◌, refl, sym, ap, subst, ◌∙◌, Some, arith, length, take, drop, length-drop, drop-drop}
use Rattle.std.proofs.lemmas.List.{length-take-le}
use Rattle.std.proofs.Math.ListN.{drop_of_length-le}
use Rattle.ocr_text.specs.declared.token.TokenKind.{TokenKind}
use Rattle.ocr_text.specs.declared.token.Token.{Token}
use Rattle.ocr_text.specs.Tokens.{IsLongest, Tile, AreTokens, text_of}
use Rattle.ocr_text.specs.Laws.{TextsLaw}
use Rattle.ocr_text.specs.Texts.{IsInRange, BeginWith, AreTexts, texts_of, Placed}
use Rattle.ocr_text.proofs.Laws.{found_longest, longest_found}

text_length : (bytes : List ℕ) (place end : ℕ) (k : TokenKind) → IsLongest bytes place k end → length (take (end - place) (drop place bytes)) ≡ end - place
text_length bytes place end k longest = length-take-le (end - place) (drop place bytes) (omega (arith, longest.within, length-drop place bytes))

texts_at : (bytes : List ℕ) (ts : List Token) (place : ℕ) → Tile bytes place ts (length bytes) → AreTexts (drop place bytes) (texts_of bytes ts)
texts_at bytes [] place tiled = drop_of_length-le bytes (omega (arith, tiled))
texts_at bytes (t ∷ ts) place tiled =
    let longest : IsLongest bytes place t.kind t.end = subst (λ (p : ℕ). IsLongest bytes p t.kind t.end) tiled.0 tiled.1.longest in
    let starts : text_of bytes t ≡ take (t.end - place) (drop place bytes) = ap (λ (p : ℕ). take (t.end - p) (drop p bytes)) tiled.0 in
    let size : length (text_of bytes t) ≡ t.end - place = ap length starts ∙ text_length bytes place t.end t.kind longest in
    let after : drop (length (text_of bytes t)) (drop place bytes) ≡ drop t.end bytes =
    ap (λ (n : ℕ). drop n (drop place bytes)) size ∙ drop-drop (t.end - place) place bytes ∙ ap (λ (n : ℕ). drop n bytes) (omega (arith, longest.some)) in (
      record {
        front = longest_found bytes place t.kind t.end longest ∙ ap (λ (n : ℕ). Some (t.kind, n)) (sym size);
        same = ap (λ (n : ℕ). take n (drop place bytes)) size ∙ sym starts;
        in_range = tiled.1.in_range;
      },
      subst (λ (rest : List ℕ). AreTexts rest (texts_of bytes ts)) (sym after) (texts_at bytes ts t.end tiled.2),
    )

-- the tokens of a text have its texts
pub texts_from_tokens : (bytes : List ℕ) (tokens : List Token) → AreTokens bytes tokens → AreTexts bytes (texts_of bytes tokens)
texts_from_tokens bytes tokens tiled = texts_at bytes tokens 0 tiled

place_one : (bytes : List ℕ) (place : ℕ) (k : TokenKind) (piece : List ℕ) (rest : List (TokenKind × List ℕ)) → BeginWith (drop place bytes) k piece → Placed bytes (place + length piece) rest → Placed bytes place ((k, piece) ∷ rest)
place_one bytes place k piece rest here more =
    let n = length piece in
    let longest : IsLongest bytes place k (place + n) = found_longest bytes place k n here.front in
    let size : place + n - place ≡ n = omega arith in
    let same : take (place + n - place) (drop place bytes) ≡ piece = ap (λ (m : ℕ). take m (drop place bytes)) size ∙ here.same in
    let token : Token = record { kind = k; start = place; end = place + n } in
    record {
      tokens = token ∷ more.tokens;
      tiled = (refl, record { longest = longest; in_range = subst (λ (text : List ℕ). IsInRange k text) (sym same) here.in_range }, more.tiled);
      texts = ap (λ (text : List ℕ). (k, text) ∷ texts_of bytes more.tokens) same ∙ ap (λ (l : List (TokenKind × List ℕ)). (k, piece) ∷ l) more.texts;
    }

empty_at : (bytes : List ℕ) (place : ℕ) → place ≤ length bytes → drop place bytes ≡ [] → place ≡ length bytes
empty_at bytes place within none = omega (arith, within, length-drop place bytes, ap length none)

placed_at : (bytes : List ℕ) (pieces : List (TokenKind × List ℕ)) (place : ℕ) → place ≤ length bytes → AreTexts (drop place bytes) pieces → Placed bytes place pieces
placed_at bytes [] place within none = record { tokens = []; tiled = empty_at bytes place within none; texts = refl }
placed_at bytes (piece ∷ rest) place within texts =
    let longest : IsLongest bytes place piece.0 (place + length piece.1) = found_longest bytes place piece.0 (length piece.1) texts.0.front in
    let after : drop (length piece.1) (drop place bytes) ≡ drop (place + length piece.1) bytes = drop-drop (length piece.1) place bytes in
    place_one bytes place piece.0 piece.1 rest texts.0 (placed_at bytes rest (place + length piece.1) longest.within (subst (λ (l : List ℕ). AreTexts l rest) after texts.1))

-- bytes with these texts have tokens with these texts
pub tokens_from_texts : (bytes : List ℕ) (pieces : List (TokenKind × List ℕ)) → AreTexts bytes pieces → Placed bytes 0 pieces
tokens_from_texts bytes pieces texts = placed_at bytes pieces 0 (omega arith) texts

-- the laws together
pub texts_law : TextsLaw
texts_law = record { told = texts_from_tokens; placed = tokens_from_texts }
