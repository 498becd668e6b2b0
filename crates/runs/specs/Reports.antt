-- What the program prints for a job table. Assumes nothing.
--     text_of x                  a count as it is printed
--     line_text book r           the text of line r of a book of counts
--     records_below rows text n      the total records of the finish rows below n, in row order, with a text for each row
--     mark_value rows r          the value of a work row: its mark, as a count
--     total_of rows f            the serial total of a finish row over these values
--     totals rows                the total records of a job
--     worked rows                the same of a job that is lawful, else the record of its refusal
--     reported r                 the same of the rows that were read, else the record of their refusal
--     printed text               the header, and what is reported of the text
use Rattle.std.specs.Prelude.{ℕ, zero, suc, cond, List, [], ◌++◌, length, Ok, Err, decimal, Result, slice_index_or}
use Rattle.job.specs.declared.row.Row.{Row}
use Rattle.job.specs.declared.refusal.JobRefusal.{JobRefusal}
use Rattle.job.specs.Lawful.{checked}
use Rattle.job.specs.Refusals.{place, job_number, job_told}
use Rattle.job.specs.Rows.{most_rows, row, is_finish}
use Rattle.total.specs.Counts.{Number, number, zero_number, sum, kept, count_text}
use Rattle.total.specs.declared.count.Count.{Count}
use Rattle.total.specs.Serial.{serial}
use Rattle.table.specs.declared.text.TextFault.{TextFault}
use Rattle.table.specs.Faults.{text_number, text_told}
use Rattle.table.specs.RunTables.{run_header, total_record, refused_record}
use Rattle.table.specs.Texts.{read}

abbrev pub text_of : Number → List ℕ
text_of x = decimal x.value

abbrev pub line_text : List Count → ℕ → List ℕ
line_text book r = count_text (slice_index_or book r (record { value = 0 }))

abbrev pub records_below : List Row → (ℕ → List ℕ) → ℕ → List ℕ
records_below rows text zero = []
records_below rows text (suc r) =
    let more = total_record r (text r) in
    records_below rows text r ++ cond (is_finish (row rows r)) more []

abbrev pub mark_value : List Row → ℕ → Number
mark_value rows r = number (row rows r).mark

abbrev pub total_of : List Row → ℕ → Number
total_of rows f = serial zero_number sum kept rows (mark_value rows) f

abbrev pub totals : List Row → List ℕ
totals rows = records_below rows (λ r. text_of (total_of rows r)) (length rows)

abbrev pub worked_by : List Row → Result (Unit {0}) JobRefusal → List ℕ
worked_by rows (Ok u) = totals rows
worked_by rows (Err e) = refused_record (job_number e) (place (job_told e))

abbrev pub worked : List Row → List ℕ
worked rows = worked_by rows (checked rows)

abbrev pub reported : Result (List Row) TextFault → List ℕ
reported (Ok rows) = worked rows
reported (Err e) = refused_record (text_number e) (place (text_told e))

abbrev pub printed : List ℕ → List ℕ
printed text = run_header ++ reported (read most_rows text)
