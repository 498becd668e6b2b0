-- The rows of a loop: how many there are, which stands at each place, and that they make a lawful job. Assumes nothing.
use Rattle.std.proofs.Common.{◌≡◌, ℕ, ◌+◌, ◌-◌, ◌*◌, ◌/◌, ◌%◌, ◌<◌, ◌≤◌, min, true, cond, ◌&&◌, eqb, leb, [], ◌∷◌, length, subst, le_refl, arith}
use Rattle.std.proofs.lemmas.Bool.{and_parts, leb-true, cond_both}
use Rattle.job.specs.Rows.{most_rows, row}
use Rattle.job.specs.Loops.{most_iterations, has_loop, chunk_sizes, work_row, async_row, finish_row, all_chunks, LoopJob, LoopLaw}
use Rattle.job.proofs.ChunkJobs.{chunks_job}
use Rattle.job.proofs.ChunkSizes.{sizes_hold, sum_sizes, few_sizes, sizes_enough, length_chunks, rounded_up, row_at_place}

in_limits : (i c : ℕ) → has_loop i c ≡ true → (1 ≤ i) × (i ≤ most_iterations) × (1 ≤ c) × (c ≤ most_iterations)
in_limits i c e =
    let both = and_parts (leb 1 i && leb i most_iterations) (leb 1 c && leb c most_iterations) e in
    let p = and_parts (leb 1 i) (leb i most_iterations) both.0 in
    let q = and_parts (leb 1 c) (leb c most_iterations) both.1 in
    (leb-true 1 i p.0, leb-true i most_iterations p.1, leb-true 1 c q.0, leb-true c most_iterations q.1)

module _ (i c : ℕ) (is : has_loop i c ≡ true) where
  pub length_all : i / c + min 1 (i % c) + i ≡ length (all_chunks i c)
  unfolding all_chunks
  length_all =
      let l = in_limits i c is in
      let e = sizes_enough c l.2 i i l.0 (le_refl i) in
      let k = rounded_up i c (length (chunk_sizes i c)) l.2 e.all e.tight in
      omega (arith, length_chunks (chunk_sizes i c), sum_sizes c l.2 i i l.0 (le_refl i))

  pub few_all : length (all_chunks i c) ≤ 2000
  unfolding all_chunks
  few_all =
      let l = in_limits i c is in
      omega (arith, length_chunks (chunk_sizes i c), sum_sizes c l.2 i i l.0 (le_refl i), few_sizes c l.2 i i l.0 (le_refl i))

  pub row_at : (p : ℕ) → p < length (all_chunks i c) → row (all_chunks i c) p ≡ cond (eqb (p % (c + 1)) 0) (async_row (min c (i - p / (c + 1) * c))) work_row
  unfolding all_chunks
  row_at p l = let m = in_limits i c is in row_at_place c i p m.2 m.0 l

  loop_job : length (finish_row (length (all_chunks i c)) ∷ all_chunks i c) ≤ most_rows → LoopJob (finish_row (length (all_chunks i c)) ∷ all_chunks i c) i c
  unfolding all_chunks
  loop_job few =
      let l = in_limits i c is in
      subst (λ n. LoopJob (finish_row (length (all_chunks i c)) ∷ all_chunks i c) n c) (sum_sizes c l.2 i i l.0 (le_refl i))
      (chunks_job c (chunk_sizes i c) (sizes_hold c l.2 i i l.0 (le_refl i)) few)

pub loop_law : (i c : ℕ) → LoopLaw i c
loop_law i c =
    cond_both (has_loop i c) (finish_row (length (all_chunks i c)) ∷ all_chunks i c) [] (λ rows. 1 ≤ length rows → length rows ≤ most_rows → LoopJob rows i c)
    (λ is some few. loop_job i c is few)
    (λ is some few. absurd (omega arith))
