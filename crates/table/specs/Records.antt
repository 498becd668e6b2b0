-- The records of a job table. Assumes nothing.
--     Three, three bs       the values of a record's fields and the text after it;  the record at the front of bs,
--                           or none where it has not three fields or a field's quotes are against RFC 4180
--     header bs             the text after the header line kind,size,mark at the front of bs
--     row_of t               the row that the fields mean, or the number of the first that is not allowed
--     Front, front bs       a row and the text after it;  those of the record at the front of bs, or its fault
use Rattle.std.specs.Prelude.{ℕ, Bool, cond, ◌&&◌, List, Some, None, Ok, Err, codes, Option, Result}
use Rattle.job.specs.declared.row.Row.{Row}
use Rattle.table.specs.declared.field.Stop.{Stop}
use Rattle.table.specs.declared.field.Stop.TheVariants.{Comma, LineEnd, TextEnd}
use Rattle.table.specs.declared.record.RecordFault.{RecordFault}
use Rattle.table.specs.declared.record.RecordFault.TheVariants.{Shape, Field}
use Rattle.table.specs.Fields.{Cut, field}
use Rattle.table.specs.Values.{is_word, kind_of, size_of, mark_of}

pub record Three : Type 0 where
  pub kind : List ℕ
  pub size : List ℕ
  pub mark : List ℕ
  pub rest : List ℕ

-- goes on with the text after a field that a comma ended
abbrev pub after_comma : Stop → Option Three → Option Three
after_comma Comma more = more
after_comma LineEnd more = None
after_comma TextEnd more = None

abbrev pub after_last : Stop → Option Three → Option Three
after_last Comma all = None
after_last LineEnd all = all
after_last TextEnd all = all

abbrev pub with_mark : Cut → Cut → Option Cut → Option Three
with_mark k s None = None
with_mark k s (Some m) = after_last m.end.stop (Some (record { kind = k.value; size = s.value; mark = m.value; rest = m.end.rest }))

abbrev pub with_size : Cut → Option Cut → Option Three
with_size k None = None
with_size k (Some s) = after_comma s.end.stop (with_mark k s (field s.end.rest))

abbrev pub with_kind : Option Cut → Option Three
with_kind None = None
with_kind (Some k) = after_comma k.end.stop (with_size k (field k.end.rest))

abbrev pub three : List ℕ → Option Three
three bs = with_kind (field bs)

abbrev pub is_header : List ℕ → List ℕ → List ℕ → Bool
is_header k s m = is_word k (codes "kind") && (is_word s (codes "size") && is_word m (codes "mark"))

abbrev pub header_of : Option Three → Result (List ℕ) RecordFault
header_of None = Err Shape
header_of (Some t) = cond (is_header t.kind t.size t.mark) (Ok t.rest) (Err Shape)

abbrev pub header : List ℕ → Result (List ℕ) RecordFault
header bs = header_of (three bs)

abbrev pub combined : Option ℕ → Option ℕ → Option ℕ → Result Row RecordFault
combined None size mark = Err (Field 1)
combined (Some k) None mark = Err (Field 2)
combined (Some k) (Some s) None = Err (Field 3)
combined (Some k) (Some s) (Some m) = Ok (record { size = s; kind = k; mark = m })

abbrev pub row_of : Three → Result Row RecordFault
row_of t = combined (kind_of t.kind) (size_of t.size) (mark_of t.mark)

pub record Front : Type 0 where
  pub row : Row
  pub rest : List ℕ

abbrev pub beside : List ℕ → Result Row RecordFault → Result Front RecordFault
beside rest (Ok row) = Ok (record { row = row; rest = rest })
beside rest (Err f) = Err f

abbrev pub front_of : Option Three → Result Front RecordFault
front_of None = Err Shape
front_of (Some t) = beside t.rest (row_of t)

abbrev pub front : List ℕ → Result Front RecordFault
front bs = front_of (three bs)
