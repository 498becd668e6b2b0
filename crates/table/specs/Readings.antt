-- What the reader's results mean: ends, fields and records with their bytes as written, and the text after them. Assumes nothing.
--     ok_map g r            the result r, with g of its value
--     as_end e, as_cut f      the end e, with the text after it;  the field f, with its value and that end
--     following stop bs     the field after one that stop ended, where the text goes on as bs, if its record has one
--     of_field f             a field's fault, as its record's
--     as_three r             the three fields of the record r, with their values, and the text after it
--     as_front e             the row e, and the text after its record
--     text_left r            the text that the records r have still to give
--     next_record bs         the row of the record at the front of bs, or its fault, or none where bs is over, and the text left then
--     GivesNext old item new      that item came from the records old, and new are left
use Rattle.std.specs.Prelude.{◌≡◌, ℕ, List, [], ◌∷◌, Some, None, Ok, Err, Option, Result}
use Rattle.std.specs.Option.{ok_or}
use Rattle.job.specs.declared.row.Row.{Row}
use Rattle.table.specs.declared.field.End.{End as EndRead}
use Rattle.table.specs.declared.field.Field.{Field}
use Rattle.table.specs.declared.field.FieldFault.{FieldFault}
use Rattle.table.specs.declared.field.FieldFault.TheVariants.{Quotes, Value}
use Rattle.table.specs.declared.field.Stop.{Stop}
use Rattle.table.specs.declared.field.Stop.TheVariants.{Comma, LineEnd, TextEnd}
use Rattle.table.specs.declared.record.Entry.{Entry}
use Rattle.table.specs.declared.record.Record.{Record}
use Rattle.table.specs.declared.record.RecordFault.{RecordFault}
use Rattle.table.specs.declared.record.RecordFault.TheVariants.{Shape}
use Rattle.table.specs.declared.record.RecordFault.TheVariants.{Field as BadField}
use Rattle.table.specs.declared.record.Records.{Records}
use Rattle.table.specs.Fields.{End, Cut, field, unescaped}
use Rattle.table.specs.Records.{Three, Front, front}

abbrev pub ok_map : {X Y E : Type 0} → (X → Y) → Result X E → Result Y E
ok_map g (Ok x) = Ok (g x)
ok_map g (Err e) = Err e

abbrev pub as_end : EndRead → End
as_end e = record { stop = e.stop; rest = e.rest.now }

abbrev pub as_cut : Field → Cut
as_cut f = record { value = unescaped f.raw.now; end = as_end f.end }

abbrev pub following : Stop → List ℕ → Result (Option Cut) FieldFault
following Comma bs = ok_map Some (ok_or (field bs) Quotes)
following LineEnd bs = Ok None
following TextEnd bs = Ok None

abbrev pub of_field : FieldFault → RecordFault
of_field Quotes = Shape
of_field (Value n) = BadField n

abbrev pub as_three : Record → Three
as_three r = record { kind = unescaped r.kind.now; size = unescaped r.size.now; mark = unescaped r.mark.now; rest = r.rest.now }

abbrev pub as_front : Entry → Front
as_front e = record { row = e.row; rest = e.rest.now }

abbrev pub text_left : Records → List ℕ
text_left r = r.rest.now

-- nothing is left after a fault
abbrev pub first_of : Result Front RecordFault → Option (Result Row RecordFault) × List ℕ
first_of (Ok e) = (Some (Ok e.row), e.rest)
first_of (Err f) = (Some (Err f), [])

abbrev pub next_record : List ℕ → Option (Result Row RecordFault) × List ℕ
next_record [] = (None, [])
next_record (b ∷ bs) = first_of (front (b ∷ bs))

abbrev pub GivesNext : Records → Option (Result Row RecordFault) → Records → Type 0
GivesNext old item new = (item, text_left new) ≡ next_record (text_left old)
