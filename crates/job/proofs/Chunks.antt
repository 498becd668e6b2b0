-- Chunks of any sizes: in which of them a row lies, and what its rows are. Assumes nothing.
use Rattle.std.proofs.Common.{◌≡◌, ℕ, zero, suc, ◌+◌, ◌-◌, ◌<◌, ◌≤◌, List, [], ◌∷◌, ◌++◌, length, replicate, sym, refl, ap, ◌∙◌, subst, ⊎_elim, arith, length-append}
use lib.ListN.{length-replicate}
use Rattle.std.specs.List.{flat_map, AllByRecursion as All}
use Rattle.std.proofs.lemmas.List.{get_or-replicate, get_or_append_left, get_or-append_right}
use Rattle.std.proofs.lemmas.Bool.{cases_eq, cases_lt}
use Rattle.job.specs.declared.row.Row.{Row}
use Rattle.job.specs.Rows.{blank, row}
use Rattle.job.specs.Loops.{work_row, async_row, chunk_rows}

length_chunk : (n : ℕ) → length (chunk_rows n) ≡ suc n
length_chunk n = ap suc (length-replicate n work_row)

-- a chunk holds some iterations, and at most c
abbrev pub Holds : ℕ → ℕ → Type 0
Holds c n = (1 ≤ n) × (n ≤ c)

-- a chunk of n iterations begins at place s
pub record Chunk (body : List Row) (c s n : ℕ) : Type 0 where
  pub holds : Holds c n
  pub start : row body s ≡ async_row n
  pub inner : (q : ℕ) → s < q → q ≤ s + n → row body q ≡ work_row
  pub fits : s + n < length body

-- and place p lies in it
pub record Within (body : List Row) (c p : ℕ) : Type 0 where
  pub s : ℕ
  pub n : ℕ
  pub from : s ≤ p
  pub to : p ≤ s + n
  pub chunk : Chunk body c s n

module _ (n : ℕ) (more : List Row) where
  pub length_with : length (chunk_rows n ++ more) ≡ suc n + length more
  length_with = length-append (chunk_rows n) more ∙ ap (λ k. k + length more) (length_chunk n)

  -- the rows of a first chunk
  pub row_first : (o : ℕ) → o < n → row (chunk_rows n ++ more) (suc o) ≡ work_row
  row_first o l =
      get_or_append_left (replicate n work_row) more blank o (omega (arith, length-replicate n work_row))
      ∙ get_or-replicate n o work_row blank l

  -- and those after it
  pub row_later : (q : ℕ) → suc n ≤ q → row (chunk_rows n ++ more) q ≡ row more (q - suc n)
  row_later q l = get_or-append_right (chunk_rows n) more (suc n) q blank (length_chunk n) l

  first_chunk : (c : ℕ) → Holds c n → Chunk (chunk_rows n ++ more) c 0 n
  first_chunk c h = record { holds = h; start = refl; inner = inside; fits = omega (arith, length_with) }
    where
      inside : (q : ℕ) → 0 < q → q ≤ 0 + n → row (chunk_rows n ++ more) q ≡ work_row
      inside zero l m = absurd (omega arith)
      inside (suc o) l m = row_first o (omega arith)

  later_chunk : (c s k : ℕ) → Chunk more c s k → Chunk (chunk_rows n ++ more) c (suc n + s) k
  later_chunk c s k h = record {
    holds = h.holds;
    start = row_later (suc n + s) (omega arith) ∙ ap (row more) (omega arith) ∙ h.start;
    inner = λ q l m. row_later q (omega arith) ∙ h.inner (q - suc n) (omega arith) (omega arith);
    fits = omega (arith, length_with, h.fits);
  }

within : (c : ℕ) (ns : List ℕ) → All (Holds c) ns → (p : ℕ) → p < length (flat_map chunk_rows ns) → Within (flat_map chunk_rows ns) c p
within c [] h p l = absurd (omega arith)
within c (n ∷ ns) h p l =
    ⊎_elim
    (λ here. record { s = 0; n = n; from = omega arith; to = omega arith; chunk = first_chunk n (flat_map chunk_rows ns) c h.0 })
    (λ past.
    let w = within c ns h.1 (p - suc n) (omega (arith, length_with n (flat_map chunk_rows ns))) in
    record { s = suc n + w.s; n = w.n; from = omega (arith, w.from); to = omega (arith, w.to); chunk = later_chunk n (flat_map chunk_rows ns) c w.s w.n w.chunk })
    (cases_lt p (suc n))

-- what holds where each chunk begins, and at each row inside it, holds at every place
pub by_chunk : (c : ℕ) (ns : List ℕ) → All (Holds c) ns → (P : ℕ → Type 0) → ((s n : ℕ) → Chunk (flat_map chunk_rows ns) c s n → P s) → ((s n q : ℕ) → Chunk (flat_map chunk_rows ns) c s n → s < q → q ≤ s + n → P q) → (p : ℕ) → p < length (flat_map chunk_rows ns) → P p
by_chunk c ns h P start inner p l =
    let w = within c ns h p l in
    ⊎_elim
    (λ same. subst P (sym same) (start w.s w.n w.chunk))
    (λ other. inner w.s w.n p w.chunk (omega (arith, w.from)) w.to)
    (cases_eq p w.s)
