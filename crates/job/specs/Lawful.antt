-- When a job is lawful, and what a check of it answers. Assumes nothing.
--     whole_job rows             row 0 is a finish row whose size is the number of rows
--     known_kind x               the kind is work, finish or async, and the size is at least 1
--     own_shape x                a work row has size 1, and an async row has mark 0
--     ends_inside rows r         the row does not end past the end of the nearest row that encloses it
--     lawful_row rows r          the four rules at row r; the first is about row 0 alone
--     first_below t n            the lowest number below n that passes the test t
--     lowest_unlawful rows       the lowest unlawful row
--     Lawful rows                from 1 to 1,024 rows, all of them lawful
--     row_count n                a number of rows, refused where it is 0 or above 1,024
--     verdict lowest             what is answered of the lowest unlawful row, or of none
--     checked rows               what the check answers
--     Judged rows r              what each answer of the check says of the job
--     NearestRows rows table    a lawful job, and a table of the nearest row that encloses each
--     Nests rows                 rows that enclose the same row lie one in the other
use Rattle.std.specs.Prelude.{◌≡◌, ℕ, zero, suc, ◌<◌, ◌≤◌, Bool, true, false, cond, not, ◌&&◌, ◌||◌, ◌⊎◌, List, length, Some, None, Ok, Err, Option, Result, ◌==◌, nat_le, slice_index}
use Rattle.job.specs.declared.row.Row.{Row}
use Rattle.job.specs.declared.refusal.JobRefusal.{JobRefusal}
use Rattle.job.specs.declared.refusal.JobRefusal.TheVariants.{RowCount, Unlawful}
use Rattle.job.specs.Rows.{most_rows, row, is_work, is_finish, is_async, end, encloses, nearest}

abbrev pub whole_job : List Row → Bool
whole_job rows = is_finish (row rows 0) && (row rows 0).size == length rows

abbrev pub known_kind : Row → Bool
known_kind x = nat_le x.kind 2 && nat_le 1 x.size

abbrev pub own_shape : Row → Bool
own_shape x = (not (is_work x) || x.size == 1) && (not (is_async x) || x.mark == 0)

abbrev pub ends_by : List Row → ℕ → Option ℕ → Bool
ends_by rows r None = true
ends_by rows r (Some p) = nat_le (end rows r) (end rows p)

abbrev pub ends_inside : List Row → ℕ → Bool
ends_inside rows r = ends_by rows r (nearest rows r)

abbrev pub lawful_row : List Row → ℕ → Bool
lawful_row rows r =
    (not (r == 0) || whole_job rows) && (known_kind (row rows r) && (own_shape (row rows r) && ends_inside rows r))

abbrev pub or_else : Option ℕ → Option ℕ → Option ℕ
or_else (Some n) o = Some n
or_else None o = o

abbrev pub first_below : (ℕ → Bool) → ℕ → Option ℕ
first_below t zero = None
first_below t (suc n) = or_else (first_below t n) (cond (t n) (Some n) None)

unfoldable pub lowest_unlawful : List Row → Option ℕ
lowest_unlawful rows = first_below (λ r. not (lawful_row rows r)) (length rows)

pub record Lawful (rows : List Row) : Type 0 where
  pub some : 1 ≤ length rows
  pub few : length rows ≤ most_rows
  pub each : (r : ℕ) → r < length rows → lawful_row rows r ≡ true
  deriving IsProp as Lawful-prop

abbrev pub countable : ℕ → Bool
countable n = nat_le 1 n && nat_le n most_rows

abbrev pub row_count : ℕ → Result ℕ JobRefusal
row_count n = cond (countable n) (Ok n) (Err RowCount)

abbrev pub verdict : Option ℕ → Result (Unit {0}) JobRefusal
verdict None = Ok tt
verdict (Some r) = Err (Unlawful r)

abbrev pub checked : List Row → Result (Unit {0}) JobRefusal
checked rows = cond (countable (length rows)) (verdict (lowest_unlawful rows)) (Err RowCount)

-- row r is the lowest unlawful row
pub record LowestUnlawful (rows : List Row) (r : ℕ) : Type 0 where
  pub here : r < length rows
  pub broken : lawful_row rows r ≡ false
  pub before : (q : ℕ) → q < r → lawful_row rows q ≡ true

abbrev pub Judged : List Row → Result (Unit {0}) JobRefusal → Type 0
Judged rows (Ok u) = Lawful rows
Judged rows (Err RowCount) = (length rows < 1) ⊎ (most_rows < length rows)
Judged rows (Err (Unlawful r)) = LowestUnlawful rows r

-- the entry of row 0, which nothing encloses, says nothing
pub record NearestRows (rows : List Row) (table : List ℕ) : Type 0 where
  pub lawful : Lawful rows
  pub near : (q : ℕ) → 0 < q → q < length rows → nearest rows q ≡ Some (slice_index table q)

abbrev pub Nests : List Row → Type 0
Nests rows =
    (p q r : ℕ) →
    r < length rows →
    p < q →
    encloses rows p r ≡ true →
    encloses rows q r ≡ true →
    (encloses rows p q ≡ true) × (end rows q ≤ end rows p)
