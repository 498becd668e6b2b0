-- How deep tasks lie in one another. Assumes nothing.
--     tasks_around rows r n      how many tasks below n are r or enclose it
--     depth rows r               how many tasks there are among r and the rows that enclose it
--     nesting rows               the largest depth of a row
use Rattle.std.specs.Prelude.{ℕ, zero, suc, ◌+◌, max, cond, ◌&&◌, ◌||◌, List, length, ◌==◌}
use Rattle.job.specs.declared.row.Row.{Row}
use Rattle.job.specs.Rows.{is_task, encloses}

abbrev pub tasks_around : List Row → ℕ → ℕ → ℕ
tasks_around rows r zero = 0
tasks_around rows r (suc n) = tasks_around rows r n + cond (is_task rows n && (n == r || encloses rows n r)) 1 0

abbrev pub depth : List Row → ℕ → ℕ
depth rows r = tasks_around rows r (suc r)

abbrev pub deepest_below : List Row → ℕ → ℕ
deepest_below rows zero = 0
deepest_below rows (suc n) = max (deepest_below rows n) (depth rows n)

abbrev pub nesting : List Row → ℕ
nesting rows = deepest_below rows (length rows)
