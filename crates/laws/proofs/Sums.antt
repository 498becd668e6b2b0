-- Sums over rows and over workers, of which one changes. Assumes nothing.
use Rattle.std.proofs.Common.{◌≡◌, ℕ, zero, suc, ◌+◌, ◌<◌, ◌≤◌, Bool, true, false, eqb, ◌≢◌, List, [], ◌∷◌, length, get_or, set, sum_by, sym, refl, ap, ◌∙◌, ap₂, ⊎_elim, arith}
use Rattle.std.proofs.lemmas.List.{set_past}
use Rattle.std.proofs.lemmas.List.Sums.{sum_by-cons, sum_by-set, get_or-le-sum_by}
use Rattle.std.proofs.lemmas.Bool.{cases_eq, cases_lt}
use Rattle.rules.specs.Sound.{one, times, sum_below}

pub sum_below_same : (f g : ℕ → ℕ) (n : ℕ) → ((a : ℕ) → a < n → f a ≡ g a) → sum_below f n ≡ sum_below g n
sum_below_same f g zero e = refl
sum_below_same f g (suc n) e = ap₂ ◌+◌ (sum_below_same f g n (λ a l. e a (omega arith))) (e n (omega arith))

-- two functions that agree but at i
pub sum_below_change : (f g : ℕ → ℕ) (n i : ℕ) → i < n → ((a : ℕ) → a ≢ i → f a ≡ g a) → sum_below g n + f i ≡ sum_below f n + g i
sum_below_change f g zero i l e = absurd (omega arith)
sum_below_change f g (suc n) i l e =
    ⊎_elim
    (λ same.
    let before = sum_below_same f g n (λ a m. e a (λ z. omega arith)) in
    let here : g n ≡ g i = ap g (sym same) in
    let there : f n ≡ f i = ap f (sym same) in
    omega arith)
    (λ other.
    let before = sum_below_change f g n i (omega arith) e in
    let here = e n (λ z. other (sym z)) in
    omega arith)
    (cases_eq i n)

pub one_of_sum : (f : ℕ → ℕ) (n i : ℕ) → i < n → f i ≤ sum_below f n
one_of_sum f zero i l = absurd (omega arith)
one_of_sum f (suc n) i l =
    ⊎_elim (λ same. let here : f i ≡ f n = ap f same in omega arith) (λ other. let before = one_of_sum f n i (omega arith) in omega arith) (cases_eq i n)

pub sum_below_le : (f : ℕ → ℕ) (n : ℕ) → ((a : ℕ) → f a ≤ 1) → sum_below f n ≤ n
sum_below_le f zero e = omega arith
sum_below_le f (suc n) e = let before = sum_below_le f n e in omega (arith, e n)

-- row 0 apart
pub sum_below-first : (f : ℕ → ℕ) (n : ℕ) → ((a : ℕ) → f a ≤ 1) → f 0 ≡ 0 → 1 ≤ n → sum_below f n < n
sum_below-first f zero e z some = absurd (omega arith)
sum_below-first f (suc n) e z some =
    ⊎_elim
    (λ first. let here : f n ≡ 0 = ap f (sym first) ∙ z in let before = sum_below_le f n e in omega arith)
    (λ later. let before = sum_below-first f n e z (omega arith) in omega (arith, e n))
    (cases_eq 0 n)

one_le : (t : Bool) → one t ≤ 1
one_le true = omega arith
one_le false = omega arith

pub one_at_most : (t : Bool) → one t ≤ 1
one_at_most = one_le

pub one_true : (t : Bool) → one t ≡ 1 → t ≡ true
one_true true e = refl
one_true false e = absurd (omega arith)

pub one_false : (t : Bool) → one t ≡ 0 → t ≡ false
one_false true e = absurd (omega arith)
one_false false e = refl

module _ {X : Type 0} (f : X → ℕ) where
  -- one entry more of the same weight
  pub sum-set_same : (xs : List X) (i : ℕ) (x d : X) → (i < length xs → f x ≡ f (get_or xs i d)) → sum_by f (set xs i x) ≡ sum_by f xs
  sum-set_same xs i x d e =
      ⊎_elim
      (λ l. let change = sum_by-set f xs i x d l in omega (arith, e l))
      (λ past. ap (sum_by f) (set_past xs i x past))
      (cases_lt i (length xs))

  -- two entries together weigh no more than all
  pub two_of_sum : (xs : List X) (i j : ℕ) (d : X) → i < length xs → j < length xs → i ≢ j → f (get_or xs i d) + f (get_or xs j d) ≤ sum_by f xs
  two_of_sum [] i j d l m ne = absurd (omega arith)
  two_of_sum (x ∷ xs) zero zero d l m ne = absurd (ne refl)
  two_of_sum (x ∷ xs) zero (suc j) d l m ne = omega (arith, sum_by-cons f x xs, get_or-le-sum_by f xs j d (omega arith))
  two_of_sum (x ∷ xs) (suc i) zero d l m ne = omega (arith, sum_by-cons f x xs, get_or-le-sum_by f xs i d (omega arith))
  two_of_sum (x ∷ xs) (suc i) (suc j) d l m ne =
      omega (arith, sum_by-cons f x xs, two_of_sum xs i j d (omega arith) (omega arith) (λ e. ne (ap suc e)))

pub times_cons : (a x : ℕ) (q : List ℕ) → times a (x ∷ q) ≡ one (eqb a x) + times a q
times_cons a x q = sum_by-cons (λ y. one (eqb a y)) x q
