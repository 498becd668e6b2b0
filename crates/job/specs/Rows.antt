-- What the rows of a job say of each other, on any list of rows. Assumes nothing.
--     most_rows                  the most rows that a job may have
--     blank, row rows r          a row of zeros;  row r, or the blank row past the last
--     is_work, is_finish, is_async x      the kind of a row
--     is_task rows r             row 0, or an async row
--     end rows r                 the number of the row plus its size
--     encloses rows p r          p encloses r: r comes after p and before the end of p
--     last_below t n             the last number below n that passes the test t
--     around rows sort r         the nearest row of a sort that encloses r
--     nearest rows r             the nearest row that encloses r
--     finish rows r              the finish of r: the nearest finish row that encloses it
--     task rows r                the task of r: the nearest task that encloses it
--     owner rows f               the owner of a finish row: its task, and row 0 for row 0
use Rattle.std.specs.Prelude.{ℕ, zero, suc, ◌+◌, Bool, true, cond, ◌&&◌, ◌||◌, List, Some, None, Option, ◌==◌, nat_lt, slice_index_or}
use Rattle.std.specs.Option.{unwrap_or}
use Rattle.job.specs.declared.row.Row.{Row}

abbrev pub most_rows : ℕ
most_rows = 1024

abbrev pub blank : Row
blank = record { size = 0; kind = 0; mark = 0 }

abbrev pub row : List Row → ℕ → Row
row rows r = slice_index_or rows r blank

abbrev pub is_work : Row → Bool
is_work x = x.kind == 0

abbrev pub is_finish : Row → Bool
is_finish x = x.kind == 1

abbrev pub is_async : Row → Bool
is_async x = x.kind == 2

abbrev pub is_task : List Row → ℕ → Bool
is_task rows r = r == 0 || is_async (row rows r)

unfoldable pub end : List Row → ℕ → ℕ
end rows r = r + (row rows r).size

abbrev pub encloses : List Row → ℕ → ℕ → Bool
encloses rows p r = nat_lt p r && nat_lt r (end rows p)

abbrev pub last_below : (ℕ → Bool) → ℕ → Option ℕ
last_below t zero = None
last_below t (suc n) = let before = last_below t n in cond (t n) (Some n) before

unfoldable pub around : List Row → (ℕ → Bool) → ℕ → Option ℕ
around rows sort r = last_below (λ p. sort p && encloses rows p r) r

abbrev pub nearest : List Row → ℕ → Option ℕ
nearest rows r = around rows (λ p. true) r

abbrev pub finish : List Row → ℕ → Option ℕ
finish rows r = around rows (λ p. is_finish (row rows p)) r

abbrev pub task : List Row → ℕ → Option ℕ
task rows r = around rows (is_task rows) r

abbrev pub owner : List Row → ℕ → ℕ
owner rows f = unwrap_or (task rows f) 0
