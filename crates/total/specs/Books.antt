-- What filling in a book answers, and which lines it leaves. Assumes nothing.
--     book_number r, book_told r      the number of a book's refusal, and what is told with it
--     in_book r                  a job's refusal, as that of a book
--     filling rows n             what the filling of a book of n lines answers
--     keeps_line rows k          line k is a work row's, or lies past the job
--     keeps rows answer k        whether line k stays the very same value: each one where the call is refused, else those lines
--     changed fill answer book   the book after the call: as it was where it is refused, else filled in
use Rattle.std.specs.Prelude.{ℕ, Bool, true, cond, ◌||◌, List, [], length, Ok, Err, Result, nat_le}
use Rattle.job.specs.declared.row.Row.{Row}
use Rattle.job.specs.declared.refusal.JobRefusal.{JobRefusal}
use Rattle.job.specs.declared.refusal.JobRefusal.TheVariants.{RowCount}
use Rattle.job.specs.Lawful.{checked, countable}
use Rattle.job.specs.Refusals.{job_number, job_told}
use Rattle.job.specs.Rows.{row, is_work}
use Rattle.total.specs.declared.book.BookRefusal.{BookRefusal}
use Rattle.total.specs.declared.book.BookRefusal.TheVariants.{Job, Short}

abbrev pub book_number : BookRefusal → ℕ
book_number (Job r) = job_number r
book_number Short = 4

abbrev pub book_told : BookRefusal → List ℕ
book_told (Job r) = job_told r
book_told Short = []

abbrev pub in_book : Result (Unit {0}) JobRefusal → Result (Unit {0}) BookRefusal
in_book (Ok u) = Ok u
in_book (Err e) = Err (Job e)

abbrev pub filling : List Row → ℕ → Result (Unit {0}) BookRefusal
filling rows n =
    cond (countable (length rows)) (cond (nat_le (length rows) n) (in_book (checked rows)) (Err Short)) (Err (Job RowCount))

abbrev pub keeps_line : List Row → ℕ → Bool
keeps_line rows k = nat_le (length rows) k || is_work (row rows k)

abbrev pub keeps : {E : Type 0} → List Row → Result (Unit {0}) E → ℕ → Bool
keeps rows (Err e) k = true
keeps rows (Ok u) k = keeps_line rows k

abbrev pub changed : {E M : Type 0} → (List M → List M) → Result (Unit {0}) E → List M → List M
changed fill (Err e) book = book
changed fill (Ok u) book = fill book
