-- Job tables, as bytes. Assumes nothing.
--     kind_word k, row_text r, table_text rows      the word of a kind, a row's record and a whole table, in plain fields
--     bad_field r            the number of the first field of r that no table can hold
--     first_bad line rows    the line and the field of the first such value, where the first row is on that line
--     unless_bad o           the fault in o, if there is one
--     Allowed rows          there is none
--     write_end rows out, write_after rows out      what writing rows to out answers, and what out holds then
--     write_number f, write_told f      the number of a writing's fault, and what is told with it
use Rattle.std.specs.Prelude.{◌≡◌, ℕ, ◌+◌, cond, ◌||◌, List, [], ◌∷◌, ◌++◌, Some, None, Ok, Err, codes, decimal, Option, Result, ◌==◌, nat_lt}
use Rattle.std.specs.List.{flat_map}
use Rattle.job.specs.declared.row.Row.{Row}
use Rattle.total.specs.declared.output.OutputRefusal.{OutputRefusal}
use Rattle.total.specs.Outputs.{put, put_end}
use Rattle.table.specs.declared.write.WriteFault.{WriteFault}
use Rattle.table.specs.declared.write.WriteFault.TheVariants.{Field, Short}

abbrev pub kind_word : ℕ → List ℕ
kind_word k = cond (k == 0) (codes "work") (cond (k == 1) (codes "finish") (codes "async"))

abbrev pub row_text : Row → List ℕ
row_text r = kind_word r.kind ++ (codes "," ++ (decimal r.size ++ (codes "," ++ (decimal r.mark ++ codes "\r\n"))))

abbrev pub table_text : List Row → List ℕ
table_text rows = codes "kind,size,mark\r\n" ++ flat_map row_text rows

abbrev pub bad_field : Row → Option ℕ
bad_field r = cond (nat_lt 2 r.kind) (Some 1) (cond (nat_lt r.size 1 || nat_lt 1024 r.size) (Some 2) (cond (nat_lt 255 r.mark) (Some 3) None))

abbrev pub or_fault : ℕ → Option ℕ → Option WriteFault → Option WriteFault
or_fault line (Some field) more = Some (Field line field)
or_fault line None more = more

abbrev pub first_bad : ℕ → List Row → Option WriteFault
first_bad line [] = None
first_bad line (r ∷ rows) = or_fault line (bad_field r) (first_bad (line + 1) rows)

abbrev pub unless_bad : Option WriteFault → Result (Unit {0}) WriteFault
unless_bad (Some f) = Err f
unless_bad None = Ok tt

abbrev pub Allowed : List Row → Type 0
Allowed [] = Unit {0}
Allowed (r ∷ rows) = (bad_field r ≡ None) × Allowed rows

abbrev pub or_short : Result ℕ OutputRefusal → Result ℕ WriteFault
or_short (Ok end) = Ok end
or_short (Err e) = Err Short

abbrev pub end_or : Option WriteFault → Result ℕ WriteFault → Result ℕ WriteFault
end_or (Some f) end = Err f
end_or None end = end

abbrev pub keep_or : Option WriteFault → List ℕ → List ℕ → List ℕ
keep_or (Some f) out after = out
keep_or None out after = after

abbrev pub write_end : List Row → List ℕ → Result ℕ WriteFault
write_end rows out = end_or (first_bad 2 rows) (or_short (put_end out 0 (table_text rows)))

abbrev pub write_after : List Row → List ℕ → List ℕ
write_after rows out = keep_or (first_bad 2 rows) out (put out 0 (table_text rows))

abbrev pub write_number : WriteFault → ℕ
write_number (Field line field) = 16
write_number Short = 18

abbrev pub write_told : WriteFault → List ℕ
write_told (Field line field) = line ∷ field ∷ []
write_told Short = []
