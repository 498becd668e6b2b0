-- Whole job tables. Assumes nothing.
--     read room bs          the rows of the job table bs, for which there are room places, or the first fault
--     read_from room line bs      the rows of the records bs, of which the first is on that line
--     at_line line r         a record's result as its text's: a fault gets the record's line
--     counted r, written r old      how many rows were read;  the row table after they were written to it
use Rattle.std.specs.Prelude.{ℕ, zero, suc, ◌+◌, cond, List, [], ◌∷◌, ◌++◌, length, drop, Ok, Err, Result, nat_lt}
use Rattle.job.specs.declared.row.Row.{Row}
use Rattle.table.specs.declared.record.RecordFault.{RecordFault}
use Rattle.table.specs.declared.record.RecordFault.TheVariants.{Shape}
use Rattle.table.specs.declared.record.RecordFault.TheVariants.{Field as BadField}
use Rattle.table.specs.declared.text.TextFault.{TextFault}
use Rattle.table.specs.declared.text.TextFault.TheVariants.{TooLong, Record, Field, Full}
use Rattle.table.specs.Records.{header, Front, front}

-- a record's fault, with its line
abbrev pub on_line : ℕ → RecordFault → TextFault
on_line line Shape = Record line
on_line line (BadField n) = Field line n

abbrev pub at_line : {X : Type 0} → ℕ → Result X RecordFault → Result X TextFault
at_line line (Ok x) = Ok x
at_line line (Err f) = Err (on_line line f)

abbrev pub full_at : ℕ → Result Front RecordFault → Result (List Row) TextFault
full_at line (Ok e) = Err (Full line)
full_at line (Err f) = Err (on_line line f)

abbrev pub prepend : Row → Result (List Row) TextFault → Result (List Row) TextFault
prepend row (Ok rows) = Ok (row ∷ rows)
prepend row (Err f) = Err f

abbrev pub go_on : ℕ → Result Front RecordFault → (List ℕ → Result (List Row) TextFault) → Result (List Row) TextFault
go_on line (Ok e) more = prepend e.row (more e.rest)
go_on line (Err f) more = Err (on_line line f)

abbrev pub read_from : ℕ → ℕ → List ℕ → Result (List Row) TextFault
read_from zero line [] = Ok []
read_from zero line (b ∷ bs) = full_at line (front (b ∷ bs))
read_from (suc room) line [] = Ok []
read_from (suc room) line (b ∷ bs) = go_on line (front (b ∷ bs)) (read_from room (line + 1))

abbrev pub after_header : ℕ → Result (List ℕ) RecordFault → Result (List Row) TextFault
after_header room (Ok rest) = read_from room 2 rest
after_header room (Err f) = Err (on_line 1 f)

abbrev pub read : ℕ → List ℕ → Result (List Row) TextFault
read room bs = cond (nat_lt 65536 (length bs)) (Err TooLong) (after_header room (header bs))

abbrev pub counted : {E : Type 0} → Result (List Row) E → Result ℕ E
counted (Ok rows) = Ok (length rows)
counted (Err f) = Err f

abbrev pub written : {E : Type 0} → Result (List Row) E → List Row → List Row
written (Ok rows) old = rows ++ drop (length rows) old
written (Err f) old = old
