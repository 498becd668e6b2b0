-- The rows of a loop whose iterations are worked in chunks. Assumes nothing.
--     most_iterations            the most iterations of a loop, and the most for a chunk
--     has_loop i c               there is such a loop: i iterations in chunks of c, neither 0 nor above the most
--     chunk_sizes i c            how many iterations each chunk holds: c, but the last, which holds the rest
--     work_row                   a work row of mark 1
--     holding k n                a row of kind k and mark 0 that holds n rows
--     async_row n                an async row that holds n rows
--     finish_row n               a finish row that holds n rows
--     chunk_rows n               the rows of a chunk of n iterations: an async row, and then a work row for each
--     all_chunks i c             the rows of all chunks, in order
--     loop_rows i c              the rows of the loop: a finish row that holds all, and then all chunks; none where there is no such loop
--     source_rows s              the rows of a loop source
--     works_inside rows a        how many work rows row a encloses
--     LoopJob rows i c           a lawful job of i work rows, where each async row encloses work rows alone, from 1 to c of them
--     LoopLaw i c                the rows of a loop are such a job, if there are any and not too many
use Rattle.std.specs.Prelude.{◌≡◌, ℕ, zero, suc, ◌+◌, ◌-◌, ◌<◌, ◌≤◌, Bool, true, cond, ◌&&◌, List, [], ◌∷◌, length, replicate, count_by, nat_le}
use Rattle.std.specs.List.{range_with_len, flat_map}
use Rattle.job.specs.declared.row.Row.{Row}
use Rattle.job.specs.declared.loops.LoopSource.{LoopSource}
use Rattle.job.specs.declared.kind.Kind.{Kind}
use Rattle.job.specs.declared.kind.Kind.TheVariants.{Finish, Async}
use Rattle.job.specs.Kinds.{kind_number}
use Rattle.job.specs.Rows.{most_rows, row, is_work, is_async, encloses}
use Rattle.job.specs.Lawful.{Lawful}

abbrev pub most_iterations : ℕ
most_iterations = 1000

abbrev pub has_loop : ℕ → ℕ → Bool
has_loop i c = (nat_le 1 i && nat_le i most_iterations) && (nat_le 1 c && nat_le c most_iterations)

-- by the chunks that may still come: as many as there are iterations suffice
abbrev pub sizes_by : ℕ → ℕ → ℕ → List ℕ
sizes_by zero i c = []
sizes_by (suc more) i c = let rest = sizes_by more (i - c) c in cond (nat_le i c) (i ∷ []) (c ∷ rest)

abbrev pub chunk_sizes : ℕ → ℕ → List ℕ
chunk_sizes i c = sizes_by i i c

abbrev pub work_row : Row
work_row = record { size = 1; kind = 0; mark = 1 }

abbrev pub holding : Kind → ℕ → Row
holding k n = record { size = 1 + n; kind = kind_number k; mark = 0 }

abbrev pub async_row : ℕ → Row
async_row n = holding Async n

abbrev pub finish_row : ℕ → Row
finish_row n = holding Finish n

abbrev pub chunk_rows : ℕ → List Row
chunk_rows n = async_row n ∷ replicate n work_row

unfoldable pub all_chunks : ℕ → ℕ → List Row
all_chunks i c = flat_map chunk_rows (chunk_sizes i c)

abbrev pub loop_rows : ℕ → ℕ → List Row
loop_rows i c = cond (has_loop i c) (finish_row (length (all_chunks i c)) ∷ all_chunks i c) []

abbrev pub source_rows : LoopSource → List Row
source_rows s = loop_rows s.iterations s.chunk

abbrev pub works_inside : List Row → ℕ → ℕ
works_inside rows a = count_by (λ r. encloses rows a r && is_work (row rows r)) (range_with_len 0 (length rows))

pub record LoopJob (rows : List Row) (i c : ℕ) : Type 0 where
  pub lawful : Lawful rows
  pub works : count_by is_work rows ≡ i
  pub only_works : (a r : ℕ) → a < length rows → is_async (row rows a) ≡ true → encloses rows a r ≡ true → is_work (row rows r) ≡ true
  pub some : (a : ℕ) → a < length rows → is_async (row rows a) ≡ true → 1 ≤ works_inside rows a
  pub few : (a : ℕ) → a < length rows → is_async (row rows a) ≡ true → works_inside rows a ≤ c

abbrev pub LoopLaw : ℕ → ℕ → Type 0
LoopLaw i c = 1 ≤ length (loop_rows i c) → length (loop_rows i c) ≤ most_rows → LoopJob (loop_rows i c) i c
