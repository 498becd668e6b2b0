-- A job laid out row by row. Assumes nothing.
--     no_entry                   the entry of the blank row
--     entry entries r            entry r, or that of the blank row past the last
--     entry_rows entries         the rows of the entries
--     first_entry x              the entry of row 0
--     inner_entry e p x          the entry of a row x whose nearest enclosing row is p, which has the entry e
--     AroundRow rows r o         o is the nearest row, the finish and the task around row r, and nothing where it has none
--     EntryOf rows r e           e is all that there is to say of row r
--     LaidOut entries            the entries are right, and their rows, if any, are a lawful job
use Rattle.std.specs.Prelude.{◌≡◌, ℕ, ◌<◌, ◌≤◌, if◌then◌else◌, List, length, map, Some, None, Option, slice_index_or}
use Rattle.std.specs.Option.{option_map}
use Rattle.job.specs.declared.entry.Around.{Around}
use Rattle.job.specs.declared.entry.Entry.{Entry}
use Rattle.job.specs.declared.row.Row.{Row}
use Rattle.job.specs.Rows.{blank, row, is_finish, is_async, nearest, finish, task}
use Rattle.job.specs.Lawful.{Lawful}

abbrev pub no_entry : Entry
no_entry = record { row = blank; around = None }

abbrev pub entry : List Entry → ℕ → Entry
entry entries r = slice_index_or entries r no_entry

abbrev pub entry_rows : List Entry → List Row
entry_rows entries = map (λ (e : Entry). e.row) entries

abbrev pub first_entry : Row → Entry
first_entry x = record { row = x; around = None }

-- what is around a row whose nearest enclosing row is the row x of number p: p itself for what p is, else what is around p;
-- row 0, which nothing is around, is a finish row and a task
abbrev pub inner_around : Row → ℕ → Option Around → Around
inner_around x p None = record { nearest = p; finish = p; task = p }
inner_around x p (Some a) =
    record { nearest = p; finish = if is_finish x then p else a.finish; task = if is_async x then p else a.task }

abbrev pub inner_entry : Entry → ℕ → Row → Entry
inner_entry e p x = record { row = x; around = Some (inner_around e.row p e.around) }

pub record AroundRow (rows : List Row) (r : ℕ) (o : Option Around) : Type 0 where
  pub near : option_map (λ (a : Around). a.nearest) o ≡ nearest rows r
  pub fin : option_map (λ (a : Around). a.finish) o ≡ finish rows r
  pub own : option_map (λ (a : Around). a.task) o ≡ task rows r
  deriving IsProp as AroundRow-prop

pub record EntryOf (rows : List Row) (r : ℕ) (e : Entry) : Type 0 where
  pub here : e.row ≡ row rows r
  pub right : AroundRow rows r e.around

pub record LaidOut (entries : List Entry) : Type 0 where
  pub lawful : 1 ≤ length (entry_rows entries) → Lawful (entry_rows entries)
  pub each : (r : ℕ) → r < length (entry_rows entries) → AroundRow (entry_rows entries) r (entry entries r).around
  deriving IsProp as LaidOut-prop
