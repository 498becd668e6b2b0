-- Serial totals: what each finish row of a job comes to, worked in row order. Assumes nothing.
-- A kind of total is given here by its nothing, its join and its seal; a book by its line for each row.
--     line_of none book r        line r of a book, nothing past its last
--     is_at f o                  o is the row f
--     own rows f r               f is the finish of row r
--     with_line x sum l          a sum with the line l of row x: a work row's line is joined as it stands, a finish row's
--                                line sealed with its mark, and that of an async row not at all
--     gathered line f n          joined to nothing, in row order, what the rows below n whose finish is f bring
--     lines value total          a book with a value at each work row and a total at each finish row
--     serial value f             the serial total of the finish row f
--     SerialTotals value total   the rule: each finish row's total is what its own rows bring
--     OneSerialTotal value       nothing but the serial totals follows the rule
--     filled_line value r        line r of a book that is filled in: its serial total at a finish row, nothing at an async row
--     filled rows book           a book of meanings, filled in
use Rattle.std.specs.Prelude.{◌≡◌, ℕ, zero, suc, ◌<◌, Bool, true, false, cond, List, ◌++◌, map, length, drop, Some, None, Option, ◌==◌, slice_index_or}
use Rattle.std.specs.List.{range_with_len}
use Rattle.job.specs.declared.row.Row.{Row}
use Rattle.job.specs.Rows.{row, is_work, is_finish, is_async, finish}

abbrev pub line_of : {M : Type 0} → M → List M → ℕ → M
line_of none book r = slice_index_or book r none

abbrev pub is_at : ℕ → Option ℕ → Bool
is_at f None = false
is_at f (Some g) = f == g

abbrev pub own : List Row → ℕ → ℕ → Bool
own rows f r = is_at f (finish rows r)

module _ {M : Type 0} (nothing : M) (join : M → M → M) (seal : ℕ → M → M) where
  abbrev pub with_line : Row → M → M → M
  with_line x sum line = cond (is_work x) (join sum line) (cond (is_finish x) (join sum (seal x.mark line)) sum)

  module _ (rows : List Row) where
    abbrev pub gathered : (ℕ → M) → ℕ → ℕ → M
    gathered line f zero = nothing
    gathered line f (suc r) =
        let sum = gathered line f r in
        let more = with_line (row rows r) sum (line r) in
        cond (own rows f r) more sum

    abbrev pub lines : (ℕ → M) → (ℕ → M) → ℕ → M
    lines value total r = let t = total r in cond (is_finish (row rows r)) t (value r)

    -- by the depth of finish rows that may still lie inside: as many as there are rows suffice
    abbrev pub serial_by : ℕ → (ℕ → M) → ℕ → M
    serial_by zero value f = nothing
    serial_by (suc depth) value f = gathered (lines value (serial_by depth value)) f (length rows)

    unfoldable pub serial : (ℕ → M) → ℕ → M
    serial value f = serial_by (length rows) value f

    abbrev pub SerialTotals : (ℕ → M) → (ℕ → M) → Type 0
    SerialTotals value total =
        (f : ℕ) → f < length rows → is_finish (row rows f) ≡ true → total f ≡ gathered (lines value total) f (length rows)

    abbrev pub OneSerialTotal : (ℕ → M) → Type 0
    OneSerialTotal value =
        (total : ℕ → M) →
        SerialTotals value total →
        (f : ℕ) → f < length rows → is_finish (row rows f) ≡ true → total f ≡ serial value f

    abbrev pub filled_line : (ℕ → M) → ℕ → M
    filled_line value r = cond (is_finish (row rows r)) (serial value r) (cond (is_async (row rows r)) nothing (value r))

    abbrev pub filled : List M → List M
    filled book = map (filled_line (line_of nothing book)) (range_with_len 0 (length rows)) ++ drop (length rows) book
