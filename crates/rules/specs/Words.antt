-- What the dealing rules say of rows and positions. Assumes nothing.
--     inside rows r              the nearest row that encloses r
--     finish_of rows r           the finish of r
--     finish_at rows r           the nearest finish row that is r or encloses it
--     within rows f g            f is g, or lies inside it
--     begins t                   where work at task t begins: inside t, with the row after t next
--     onto n p                   position p with another row next
--     into r p                   inside row r, with the row after r next
--     meets rows p               what comes next at position p: the next row, or the end of the inner row
use Rattle.std.specs.Prelude.{ℕ, ◌+◌, Bool, cond, ◌||◌, List, ◌==◌}
use Rattle.std.specs.Option.{unwrap_or}
use Rattle.job.specs.declared.row.Row.{Row}
use Rattle.job.specs.Rows.{row, is_finish, is_async, end, encloses, nearest, finish}
use Rattle.rules.specs.declared.met.Met.{Met}
use Rattle.rules.specs.declared.met.Met.TheVariants.{Work, Finish, Async, FinishEnd, AsyncEnd}
use Rattle.rules.specs.declared.state.Position.{Position}

-- row 0, which nothing encloses, stands for its own encloser and its own finish: no rule asks for either
abbrev pub inside : List Row → ℕ → ℕ
inside rows r = unwrap_or (nearest rows r) 0

abbrev pub finish_of : List Row → ℕ → ℕ
finish_of rows r = unwrap_or (finish rows r) 0

abbrev pub finish_at : List Row → ℕ → ℕ
finish_at rows r = cond (is_finish (row rows r)) r (finish_of rows r)

abbrev pub within : List Row → ℕ → ℕ → Bool
within rows f g = f == g || encloses rows g f

abbrev pub begins : ℕ → Position
begins t = record { task = t; inner = t; next = t + 1 }

abbrev pub onto : ℕ → Position → Position
onto n p = record { task = p.task; inner = p.inner; next = n }

abbrev pub into : ℕ → Position → Position
into r p = record { task = p.task; inner = r; next = r + 1 }

abbrev pub meets_row : List Row → ℕ → Met
meets_row rows r =
    cond (is_finish (row rows r)) (Finish r) (cond (is_async (row rows r)) (Async r) (Work r))

abbrev pub meets_end : List Row → ℕ → Met
meets_end rows i = cond (is_finish (row rows i)) (FinishEnd i) (AsyncEnd i)

abbrev pub meets : List Row → Position → Met
meets rows p = cond (p.next == end rows p.inner) (meets_end rows p.inner) (meets_row rows p.next)
