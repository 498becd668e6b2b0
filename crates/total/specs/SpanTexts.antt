-- How long the text of a span is. Lemmas alone: the words are those of Spans. Assumes nothing.
--     signed_below               the text of a year below 0
--     years_short, text_short    the text of a year in range has at most five bytes, and that of a span at most eleven
--     length_text, no_text       the length of a span's text, and that no years have no bytes
use Rattle.std.specs.Prelude.{◌≡◌, suc, ◌+◌, ◌≤◌, true, false, [], ◌∷◌, length, ℤ, pos, negsuc, ◌≤ℤ◌, ◌<ℤ◌, decimal, unsigned_abs, refl}
use Rattle.std.proofs.Common.{◌∙◌, ap, zero-le, arith, length-append}
use Rattle.std.specs.Fmt.{signed_decimal}
use Rattle.std.proofs.lemmas.Fmt.{length-decimal-le}
use Rattle.std.proofs.lemmas.Int.{ints}
use Rattle.std.proofs.lemmas.Bool.{cond_both, cond-true}
use Rattle.total.specs.declared.span.Span.{Span}
use Rattle.total.specs.Spans.{in_order, years_text, span_text}
use Rattle.total.specs.SpansLemmas.{in_order_parts, no_meaning}

-- a year below 0
pub signed_below : (z : ℤ) → z <ℤ pos 0 → signed_decimal z ≡ 45 ∷ decimal (unsigned_abs z)
signed_below (pos n) l = absurd (omega (arith, ints))
signed_below (negsuc n) l = refl

-- a year in range has at most five bytes
year_short : (z : ℤ) → negsuc 9998 ≤ℤ z → z ≤ℤ pos 9999 → length (signed_decimal z) ≤ 5
year_short (pos n) low high = omega (arith, length-decimal-le 4 n (omega arith) (omega (arith, ints)) (omega (arith, ints)))
year_short (negsuc n) low high = omega (arith, length-decimal-le 4 (suc n) (omega arith) (omega (arith, ints)) (omega (arith, ints)))

pub years_short : (s : Span) → in_order s.first s.last ≡ true → (length (signed_decimal s.first) ≤ 5) × (length (signed_decimal s.last) ≤ 5)
years_short s e =
    let p = in_order_parts s.first s.last e in
    (year_short s.first p.0 (omega (arith, ints)), year_short s.last (omega (arith, ints)) p.2)

pub text_short : (s : Span) → length (span_text s) ≤ 11
text_short s =
    cond_both (in_order s.first s.last) _ _ (λ x. length (years_text x) ≤ 11)
    (λ e. let p = years_short s e in simp length-append (omega arith))
    (λ e. zero-le)

pub length_text : (s : Span) → in_order s.first s.last ≡ true → length (span_text s) ≡ length (signed_decimal s.first) + 1 + length (signed_decimal s.last)
length_text s e =
    ap (λ x. length (years_text x)) (cond-true (in_order s.first s.last) _ _ e) ∙ simp length-append (omega arith)

pub no_text : (s : Span) → in_order s.first s.last ≡ false → span_text s ≡ []
no_text s e = ap years_text (no_meaning s e)
