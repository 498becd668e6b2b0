-- How often a row stands in a queue of which an end is taken. Assumes nothing.
use Rattle.std.proofs.Common.{◌≡◌, ℕ, ◌+◌, ◌≤◌, eqb, List, [], ◌∷◌, length, Some, None, refl, ap, arith}
use Rattle.std.proofs.lemmas.Bool.{eq-eqb}
use Rattle.deque.specs.Queues.{bottom, above_bottom, top, top_over, below_top, below_top_over}
use Rattle.rules.specs.Sound.{one, times}
use Rattle.laws.proofs.Sums.{times_cons}

pub bottom-taken : (q : List ℕ) (t : ℕ) → bottom q ≡ Some t → (a : ℕ) → times a q ≡ times a (above_bottom q) + one (eqb a t)
bottom-taken [] t e a = let z : ◌≡◌ {A = ℕ} 0 1 = cc in absurd (omega arith)
bottom-taken (x ∷ q) t e a =
    let same : x ≡ t = cc in
    let here : one (eqb a x) ≡ one (eqb a t) = ap (λ j. one (eqb a j)) same in
    omega (arith, times_cons a x q)

pub bottom-length : (q : List ℕ) (t : ℕ) → bottom q ≡ Some t → length q ≡ length (above_bottom q) + 1
bottom-length [] t e = let z : ◌≡◌ {A = ℕ} 0 1 = cc in absurd (omega arith)
bottom-length (x ∷ q) t e = omega arith

top_over-taken : (x : ℕ) (q : List ℕ) (a : ℕ) → times a (x ∷ q) ≡ times a (below_top_over x q) + one (eqb a (top_over x q))
top_over-taken x [] a = omega (arith, times_cons a x [])
top_over-taken x (y ∷ q) a = omega (arith, times_cons a x (y ∷ q), times_cons a x (below_top_over y q), top_over-taken y q a)

pub top_taken : (q : List ℕ) (t : ℕ) → top q ≡ Some t → (a : ℕ) → times a q ≡ times a (below_top q) + one (eqb a t)
top_taken [] t e a = let z : ◌≡◌ {A = ℕ} 0 1 = cc in absurd (omega arith)
top_taken (x ∷ q) t e a =
    let same : top_over x q ≡ t = cc in
    let here : one (eqb a (top_over x q)) ≡ one (eqb a t) = ap (λ j. one (eqb a j)) same in
    omega (arith, top_over-taken x q a)

length-top_over : (x : ℕ) (q : List ℕ) → length (below_top_over x q) ≡ length q
length-top_over x [] = refl
length-top_over x (y ∷ q) = omega (arith, length-top_over y q)

pub top-length : (q : List ℕ) (t : ℕ) → top q ≡ Some t → length q ≡ length (below_top q) + 1
top-length [] t e = let z : ◌≡◌ {A = ℕ} 0 1 = cc in absurd (omega arith)
top-length (x ∷ q) t e = omega (arith, length-top_over x q)

-- what is at an end of a queue stands in it
pub bottom_in : (q : List ℕ) (t : ℕ) → bottom q ≡ Some t → 1 ≤ times t q
bottom_in q t e = let own : one (eqb t t) ≡ 1 = ap one (eq-eqb t t refl) in omega (arith, bottom-taken q t e t)

pub top_in : (q : List ℕ) (t : ℕ) → top q ≡ Some t → 1 ≤ times t q
top_in q t e = let own : one (eqb t t) ≡ 1 = ap one (eq-eqb t t refl) in omega (arith, top_taken q t e t)

pub no_bottom : (q : List ℕ) → bottom q ≡ None → length q ≡ 0
no_bottom [] e = refl
no_bottom (x ∷ q) e = let z : ◌≡◌ {A = ℕ} 0 1 = cc in absurd (omega arith)
