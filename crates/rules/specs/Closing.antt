-- How a finish row is closed. Assumes nothing.
--     out_of rows p              where the owner of the finish row that is p's inner row goes on: at its end, inside the nearest row
--                                that encloses it
--     ends_run b w               worker w ends row 0, the run is finished, and the worker is idle
--     closes b w p               worker w, at the end p of its inner finish row, closes it
--     joined_to rows o           the line that closing a finish row changes, if one is closed: that of its own finish; row 0 has none
--     closed_book rows o book    the book after it: the sealed line is joined to the line of its own finish
use Rattle.std.specs.Prelude.{ℕ, true, cond, List, Some, None, Option, ◌==◌, slice_index_or, slice_set}
use Rattle.job.specs.declared.row.Row.{Row}
use Rattle.job.specs.Rows.{row, end, finish}
use Rattle.rules.specs.declared.state.Position.{Position}
use Rattle.rules.specs.declared.state.TaskState.TheVariants.{Ended}
use Rattle.rules.specs.Words.{inside}
use Rattle.rules.specs.Boards.{Board, stands, leaves}

abbrev pub out_of : List Row → Position → Position
out_of rows p = record { task = p.task; inner = inside rows p.inner; next = end rows p.inner }

abbrev pub ends_run : Board → ℕ → Board
ends_run b w =
    let off = leaves b w 0 Ended in
    record { rows = off.rows; workers = off.workers; tasks = off.tasks; lives = off.lives; figures = off.figures; finished = true }

abbrev pub closes : Board → ℕ → Position → Board
closes b w p = cond (p.inner == 0) (ends_run b w) (stands b w (out_of b.rows p))

abbrev pub joined_to : List Row → Option ℕ → Option ℕ
joined_to rows None = None
joined_to rows (Some f) = finish rows f

module _ {M : Type 0} (nothing : M) (join : M → M → M) (seal : ℕ → M → M) where
  abbrev pub joins_line : List Row → List M → ℕ → Option ℕ → List M
  joins_line rows book f None = book
  joins_line rows book f (Some g) = slice_set book g (join (slice_index_or book g nothing) (seal (row rows f).mark (slice_index_or book f nothing)))

  abbrev pub closed_book : List Row → Option ℕ → List M → List M
  closed_book rows None book = book
  closed_book rows (Some f) book = joins_line rows book f (finish rows f)
