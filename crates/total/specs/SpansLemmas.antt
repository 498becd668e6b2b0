-- Why spans show the laws of a kind of total and of equality. Lemmas alone: the words are those of Spans. Assumes nothing.
--     hull_assoc, hull_comm, hull_none      the laws of the join
--     hull_is, hull_by                      the join is the shortest span that holds both
--     no_meaning, in_order_parts, hull_meaning      what the fields of a span say of its meaning
--     years_Decides, years_equiv            the test of two meanings answers whether they are the same
use Rattle.std.specs.Cmp.{IsEquivalence, decided, signed_Decides}
use Rattle.std.specs.Ordering.{int_eq}
use Rattle.std.specs.Prelude.{Decides, ◌≡◌, true, false, ℤ, pos, negsuc, ◌≤ℤ◌, int_le, refl}
use Rattle.std.proofs.Common.{sym, ◌∙◌, ap₂, subst, arith}
use Rattle.std.specs.Int.{int_min, int_max}
use Rattle.std.proofs.lemmas.Int.{ints, clamps}
use Rattle.std.proofs.lemmas.Bool.{and_parts, and_from, cond-true, cond-false}
use Rattle.total.specs.declared.span.Span.{Span}
use Rattle.total.specs.Spans.{Years, no_years, years, in_order, span_meaning, years_eq, hull, Holds, IsHull}

same_years : (a b c d : ℤ) → a ≡ b → c ≡ d → years a c ≡ years b d
same_years a b c d e f = ap₂ years e f

pub hull_assoc : (x y z : Years) → hull (hull x y) z ≡ hull x (hull y z)
hull_assoc no_years y z = refl
hull_assoc (years a b) no_years z = refl
hull_assoc (years a b) (years c d) no_years = refl
hull_assoc (years a b) (years c d) (years e f) =
    same_years (int_min (int_min a c) e) (int_min a (int_min c e)) (int_max (int_max b d) f) (int_max b (int_max d f)) (omega (arith, ints, clamps)) (omega (arith, ints, clamps))

pub hull_comm : (x y : Years) → hull x y ≡ hull y x
hull_comm no_years no_years = refl
hull_comm no_years (years a b) = refl
hull_comm (years a b) no_years = refl
hull_comm (years a b) (years c d) = same_years (int_min a c) (int_min c a) (int_max b d) (int_max d b) (omega (arith, ints, clamps)) (omega (arith, ints, clamps))

pub hull_none : (x : Years) → hull x no_years ≡ x
hull_none no_years = refl
hull_none (years a b) = refl

holds_self : (x : Years) → Holds x x
holds_self no_years = tt
holds_self (years a b) = (omega (arith, ints), omega (arith, ints))

-- the hull holds both, and what holds both holds the hull
hull_is : (x y : Years) → IsHull x y (hull x y)
hull_is no_years y = record { left = tt; right = holds_self y; least = λ z p q. q }
hull_is (years a b) no_years = record { left = holds_self (years a b); right = tt; least = λ z p q. p }
hull_is (years a b) (years c d) =
    record { left = (omega (arith, ints, clamps), omega (arith, ints, clamps)); right = (omega (arith, ints, clamps), omega (arith, ints, clamps)); least = least }
  where
    least : (z : Years) → Holds z (years a b) → Holds z (years c d) → Holds z (years (int_min a c) (int_max b d))
    least no_years p q = absurd p
    least (years e f) p q = (omega (arith, ints, clamps), omega (arith, ints, clamps))

pub hull_by : (x y h : Years) → h ≡ hull x y → IsHull x y h
hull_by x y h e = subst (IsHull x y) (sym e) (hull_is x y)

pub no_meaning : (s : Span) → in_order s.first s.last ≡ false → span_meaning s ≡ no_years
no_meaning s e = cond-false (in_order s.first s.last) _ _ e

pub in_order_parts : (a b : ℤ) → in_order a b ≡ true → (negsuc 9998 ≤ℤ a) × (a ≤ℤ b) × (b ≤ℤ pos 9999)
in_order_parts a b e =
    let p = and_parts (int_le (negsuc 9998) a) _ e in
    let q = and_parts (int_le a b) _ p.1 in
    (grind (arith, ints), grind (arith, ints), grind (arith, ints))

in_order_from : (a b : ℤ) → negsuc 9998 ≤ℤ a → a ≤ℤ b → b ≤ℤ pos 9999 → in_order a b ≡ true
in_order_from a b low order high = and_from (int_le (negsuc 9998) a) _ (grind (arith, ints)) (and_from (int_le a b) _ (grind (arith, ints)) (grind (arith, ints)))

pub hull_meaning : (s t r : Span) → in_order s.first s.last ≡ true → in_order t.first t.last ≡ true → r.first ≡ int_min s.first t.first → r.last ≡ int_max s.last t.last → span_meaning r ≡ hull (span_meaning s) (span_meaning t)
hull_meaning s t r p q e f =
    let a = in_order_parts s.first s.last p in
    let b = in_order_parts t.first t.last q in
    let both : in_order r.first r.last ≡ true = in_order_from r.first r.last (omega (arith, ints, clamps)) (omega (arith, ints, clamps)) (omega (arith, ints, clamps)) in
    cond-true (in_order r.first r.last) _ _ both
    ∙ ap₂ years e f
    ∙ sym (ap₂ hull (cond-true (in_order s.first s.last) _ _ p) (cond-true (in_order t.first t.last) _ _ q))

pub years_Decides : (x y : Years) → Decides (years_eq x y) (x ≡ y)
years_Decides no_years no_years = (λ e. refl, λ e. refl)
years_Decides no_years (years c d) = (λ e. cc, λ e. cc)
years_Decides (years a b) no_years = (λ e. cc, λ e. cc)
years_Decides (years a b) (years c d) = (
  λ e.
      let p = and_parts (int_eq a c) (int_eq b d) e in
      same_years a c b d ((signed_Decides a c).0 p.0) ((signed_Decides b d).0 p.1),
  λ e.
      let p : a ≡ c = cc in
      let q : b ≡ d = cc in
      and_from (int_eq a c) (int_eq b d) ((signed_Decides a c).1 p) ((signed_Decides b d).1 q),
)

pub years_equiv : IsEquivalence years_eq
years_equiv = decided years_eq years_Decides
