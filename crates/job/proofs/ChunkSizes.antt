-- The sizes of a loop's chunks, and the row at each place. Assumes nothing.
use Rattle.std.proofs.Common.{◌≡◌, ℕ, zero, suc, ◌+◌, ◌-◌, ◌*◌, ◌/◌, ◌%◌, ◌<◌, ◌≤◌, min, cond, eqb, leb, List, [], ◌∷◌, ◌++◌, length, sum, sym, refl, ap, ◌∙◌, subst, ⊎_elim, mod-lt, suc-mul, lt_of_mul-lt-mul_right, div-add-mod', zero-mul, arith}
use Rattle.std.specs.List.{flat_map, AllByRecursion as All}
use Rattle.std.proofs.lemmas.List.Sums.{sum_by-cons}
use Rattle.std.proofs.lemmas.Bool.{cond-true, cond-false, le-leb, lt-leb, cases_lt, ne_eqb}
use Rattle.job.specs.declared.row.Row.{Row}
use Rattle.job.specs.Rows.{row}
use Rattle.job.specs.Loops.{sizes_by, work_row, async_row, chunk_rows}
use Rattle.job.proofs.Chunks.{Holds, length_with, row_first, row_later}

sizes_last : (more i c : ℕ) → i ≤ c → sizes_by (suc more) i c ≡ i ∷ []
sizes_last more i c l = cond-true (leb i c) _ _ (le-leb i c l)

sizes_more : (more i c : ℕ) → c < i → sizes_by (suc more) i c ≡ c ∷ sizes_by more (i - c) c
sizes_more more i c l = cond-false (leb i c) _ _ (lt-leb i c l)

-- what holds of the sizes, by recursion over the chunks
module _ (c : ℕ) (some : 1 ≤ c) (P : ℕ → List ℕ → Type 0) (last : (i : ℕ) → 1 ≤ i → i ≤ c → P i (i ∷ [])) (next : (i : ℕ) (ns : List ℕ) → c < i → P (i - c) ns → P i (c ∷ ns)) where
  pub by_sizes : (more i : ℕ) → 1 ≤ i → i ≤ more → P i (sizes_by more i c)
  by_sizes zero i l m = absurd (omega arith)
  by_sizes (suc more) i l m =
      let rest = by_sizes more (i - c) in
      ⊎_elim
      (λ u. subst (P i) (sym (sizes_more more i c u)) (next i (sizes_by more (i - c) c) u (rest (omega arith) (omega arith))))
      (λ u. subst (P i) (sym (sizes_last more i c u)) (last i l u))
      (cases_lt c i)

module _ (c : ℕ) (some : 1 ≤ c) where
  pub sizes_hold : (more i : ℕ) → 1 ≤ i → i ≤ more → All (Holds c) (sizes_by more i c)
  sizes_hold = by_sizes c some (λ i ns. All (Holds c) ns) (λ i l m. ((l, m), tt)) (λ i ns l h. ((some, omega arith), h))

  pub sum_sizes : (more i : ℕ) → 1 ≤ i → i ≤ more → sum (sizes_by more i c) ≡ i
  sum_sizes = by_sizes c some (λ i ns. sum ns ≡ i) (λ i l m. omega arith) (λ i ns l e. sum_by-cons (λ k. k) c ns ∙ omega arith)

  pub few_sizes : (more i : ℕ) → 1 ≤ i → i ≤ more → length (sizes_by more i c) ≤ i
  few_sizes = by_sizes c some (λ i ns. length ns ≤ i) (λ i l m. l) (λ i ns l e. omega arith)

  -- there are just enough chunks
  pub record Enough (i k : ℕ) : Type 0 where
    pub all : i ≤ k * c
    pub tight : k * c < i + c

  pub sizes_enough : (more i : ℕ) → 1 ≤ i → i ≤ more → Enough i (length (sizes_by more i c))
  sizes_enough =
      by_sizes c some (λ i ns. Enough i (length ns))
      (λ i l m. record { all = omega (arith, suc-mul 0 c, zero-mul c); tight = omega (arith, suc-mul 0 c, zero-mul c) })
      (λ i ns l e. record { all = omega (arith, e.all, suc-mul (length ns) c); tight = omega (arith, e.tight, suc-mul (length ns) c) })

-- the rows of chunks: one for each, and one for each iteration
pub length_chunks : (ns : List ℕ) → length (flat_map chunk_rows ns) ≡ length ns + sum ns
length_chunks [] = refl
length_chunks (n ∷ ns) = length_with n (flat_map chunk_rows ns) ∙ omega (arith, length_chunks ns, sum_by-cons (λ k. k) n ns)

-- so their number is the quotient, rounded up
pub rounded_up : (i c k : ℕ) → 1 ≤ c → i ≤ k * c → k * c < i + c → i / c + min 1 (i % c) ≡ k
rounded_up i c k some all tight =
    let split = div-add-mod' i c in
    let small = mod-lt i some in
    let below : k < suc (suc (i / c)) = lt_of_mul-lt-mul_right c (omega (arith, suc-mul (suc (i / c)) c, suc-mul (i / c) c)) in
    let above : i / c < suc k = lt_of_mul-lt-mul_right c (omega (arith, suc-mul k c)) in
    ⊎_elim
    (λ none. let less : k < suc (i / c) = lt_of_mul-lt-mul_right c (omega (arith, suc-mul (i / c) c)) in omega arith)
    (λ rest. let more : i / c < k = lt_of_mul-lt-mul_right c (omega arith) in omega arith)
    (cases_lt (i % c) 1)

-- row o of the first chunk, of n iterations out of i
first-row : (c i n o : ℕ) (more : List Row) → n ≡ min c i → o ≤ n → row (chunk_rows n ++ more) o ≡ cond (eqb o 0) (async_row (min c i)) work_row
first-row c i n zero more e l = ap async_row e
first-row c i n (suc o) more e l = row_first n more o l ∙ sym (cond-false (eqb (suc o) 0) _ _ (ne_eqb (suc o) 0 (λ z. omega arith)))

-- row o of chunk q
abbrev At : ℕ → ℕ → List ℕ → Type 0
At c i ns =
    (q o : ℕ) →
    o ≤ c →
    q * (c + 1) + o < length (flat_map chunk_rows ns) →
    row (flat_map chunk_rows ns) (q * (c + 1) + o) ≡ cond (eqb o 0) (async_row (min c (i - q * c))) work_row

at_last : (c i : ℕ) → 1 ≤ i → i ≤ c → At c i (i ∷ [])
at_last c i l m zero o u v =
    ap (row (chunk_rows i ++ [])) (omega arith)
    ∙ first-row c (i - 0 * c) i o [] (omega arith) (omega (arith, length_with i []))
at_last c i l m (suc q) o u v = absurd (omega (arith, length_with i [], suc-mul q (c + 1)))

at_next : (c i : ℕ) (ns : List ℕ) → c < i → At c (i - c) ns → At c i (c ∷ ns)
at_next c i ns l up zero o u v =
    ap (row (chunk_rows c ++ flat_map chunk_rows ns)) (omega arith)
    ∙ first-row c (i - 0 * c) c o (flat_map chunk_rows ns) (omega arith) (omega arith)
at_next c i ns l up (suc q) o u v =
    let times = suc-mul q (c + 1) in
    row_later c (flat_map chunk_rows ns) (suc q * (c + 1) + o) (omega arith)
    ∙ ap (row (flat_map chunk_rows ns)) (omega arith)
    ∙ up q o u (omega (arith, length_with c (flat_map chunk_rows ns)))
    ∙ ap (λ k. cond (eqb o 0) (async_row (min c k)) work_row) (omega (arith, suc-mul q c))

pub row_at_place : (c i p : ℕ) → 1 ≤ c → 1 ≤ i → p < length (flat_map chunk_rows (sizes_by i i c)) → row (flat_map chunk_rows (sizes_by i i c)) p ≡ cond (eqb (p % (c + 1)) 0) (async_row (min c (i - p / (c + 1) * c))) work_row
row_at_place c i p some l m =
    let split = div-add-mod' p (c + 1) in
    let small : p % (c + 1) < c + 1 = mod-lt p (omega arith) in
    ap (row (flat_map chunk_rows (sizes_by i i c))) (sym split)
    ∙ by_sizes c some (At c) (at_last c) (at_next c) i i l (omega arith) (p / (c + 1)) (p % (c + 1)) (omega arith) (omega arith)
