-- Spans of years. Assumes nothing.
--     Years                      what a span means: no years, or the years from a first to a last one
--     in_order a b               years from -9999 to 9999, the first not after the last
--     span_meaning s             what a span means: no years where its fields are out of range or out of order
--     years_eq x y               whether they are the same years, or both none
--     hull x y                   the span of both: from the lesser of the first years to the greater of the last
--     Holds x y                  x holds all years of y
--     IsHull x y h               h is the shortest span that holds both: it holds both, and each span that does holds it
--     capped m x                 x sealed with mark m: no years where m is at least 1 and the last year less the first exceeds m, else x
--     years_text x, span_text s  a text as -5/1902: the first year, a slash, the last year; no bytes for no years
--     spanned a b                what making a span from two years answers, by its meaning
--     meant r                    an answer, with what its span means
--     span_number r              the number of the refusal
--     span_told r                what is told with it: nothing
use Rattle.std.specs.Prelude.{ℕ, Bool, true, false, cond, ◌&&◌, List, [], ◌∷◌, ◌++◌, ℤ, pos, negsuc, ◌-ℤ◌, ◌≤ℤ◌, Ok, Err, Result, int_le, int_lt, nat_lt}
use Rattle.std.specs.Int.{int_min, int_max}
use Rattle.std.specs.Fmt.{signed_decimal}
use Rattle.std.specs.Ordering.{int_eq}
use Rattle.total.specs.declared.span.Span.{Span}
use Rattle.total.specs.declared.span.SpanRefusal.{SpanRefusal}
use Rattle.total.specs.declared.span.SpanRefusal.TheVariants.{BadYears}

pub data Years : Type 0 where
  no_years : Years
  years : ℤ → ℤ → Years

abbrev pub in_order : ℤ → ℤ → Bool
in_order a b = int_le (negsuc 9998) a && (int_le a b && int_le b (pos 9999))

abbrev pub span_meaning : Span → Years
span_meaning s = cond (in_order s.first s.last) (years s.first s.last) no_years

abbrev pub years_eq : Years → Years → Bool
years_eq no_years no_years = true
years_eq no_years (years c d) = false
years_eq (years a b) no_years = false
years_eq (years a b) (years c d) = int_eq a c && int_eq b d

abbrev pub hull : Years → Years → Years
hull no_years y = y
hull (years a b) no_years = years a b
hull (years a b) (years c d) = years (int_min a c) (int_max b d)

abbrev pub Holds : Years → Years → Type 0
Holds x no_years = Unit {0}
Holds no_years (years c d) = ⊥
Holds (years a b) (years c d) = (a ≤ℤ c) × (d ≤ℤ b)

pub record IsHull (x y h : Years) : Type 0 where
  pub left : Holds h x
  pub right : Holds h y
  pub least : (z : Years) → Holds z x → Holds z y → Holds z h

abbrev pub capped : ℕ → Years → Years
capped m no_years = no_years
capped m (years a b) = cond (nat_lt 0 m && int_lt (pos m) (b -ℤ a)) no_years (years a b)

abbrev pub years_text : Years → List ℕ
years_text no_years = []
years_text (years a b) = signed_decimal a ++ (47 ∷ signed_decimal b)

abbrev pub span_text : Span → List ℕ
span_text s = years_text (span_meaning s)

abbrev pub spanned : ℤ → ℤ → Result Years SpanRefusal
spanned a b = cond (in_order a b) (Ok (years a b)) (Err BadYears)

abbrev pub meant : Result Span SpanRefusal → Result Years SpanRefusal
meant (Ok s) = Ok (span_meaning s)
meant (Err e) = Err e

abbrev pub span_number : SpanRefusal → ℕ
span_number BadYears = 19

abbrev pub span_told : SpanRefusal → List ℕ
span_told BadYears = []
