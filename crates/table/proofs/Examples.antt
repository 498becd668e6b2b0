-- The definitions on small texts.
use Rattle.std.proofs.Common.{◌≡◌, ℕ, List, [], ◌∷◌, ◌++◌, Some, Ok, Err, codes, Result, refl}
use Rattle.job.specs.declared.row.Row.{Row}
use Rattle.table.specs.declared.field.Stop.TheVariants.{Comma, LineEnd, TextEnd}
use Rattle.table.specs.declared.text.TextFault.{TextFault}
use Rattle.table.specs.declared.text.TextFault.TheVariants.{Record, Field, Full}
use Rattle.table.specs.Fields.{field}
use Rattle.table.specs.JobTexts.{table_text}
use Rattle.table.specs.Texts.{read}

abbrev row : ℕ → ℕ → ℕ → Row
row k s m = record { size = s; kind = k; mark = m }

abbrev eol : List ℕ
eol = 13 ∷ 10 ∷ []

-- the lines of a table below its header
abbrev below : List ℕ → Result (List Row) TextFault
below bs = read 2 (codes "kind,size,mark" ++ (eol ++ bs))

plain : below (codes "work,1,0" ++ (eol ++ codes "async,1024,255")) ≡ Ok (row 0 1 0 ∷ row 2 1024 255 ∷ [])
plain = refl

ends_in_eol : below (codes "finish,2,3" ++ eol) ≡ Ok (row 1 2 3 ∷ [])
ends_in_eol = refl

no_rows : (below [] ≡ Ok []) × (read 0 (codes "kind,size,mark") ≡ Ok [])
no_rows = (refl, refl)

all_quoted : below (codes "\"work\",\"1\",\"0\"" ++ (eol ++ codes "async,\"10\",255")) ≡ Ok (row 0 1 0 ∷ row 2 10 255 ∷ [])
all_quoted = refl

quoted_header : read 1 (codes "\"kind\",size,\"mark\"" ++ (eol ++ codes "work,1,0")) ≡ Ok (row 0 1 0 ∷ [])
quoted_header = refl

other_headers : (read 1 [] ≡ Err (Record 1)) × (read 1 (codes "kind,size") ≡ Err (Record 1)) × (read 1 (codes "kind,size,Mark") ≡ Err (Record 1)) × (read 1 (codes "kind,size,mark,") ≡ Err (Record 1))
other_headers = (refl, refl, refl, refl)

-- shapes
fields_two : below (codes "work,1" ++ (eol ++ codes "work,1,0")) ≡ Err (Record 2)
fields_two = refl

fields_four : below (codes "work,1,0" ++ (eol ++ codes "work,1,0,")) ≡ Err (Record 3)
fields_four = refl

empty_record : below (eol ++ codes "work,1,0") ≡ Err (Record 2)
empty_record = refl

unclosed : below (codes "work,1,\"0") ≡ Err (Record 2)
unclosed = refl

inside : below (codes "wo\"rk,1,0") ≡ Err (Record 2)
inside = refl

past_quote : below (codes "\"work\" ,1,0") ≡ Err (Record 2)
past_quote = refl

-- values
leading_zero : below (codes "work,01,0") ≡ Err (Field 2 2)
leading_zero = refl

empty_fields : (below (codes ",1,0") ≡ Err (Field 2 1)) × (below (codes "work,,0") ≡ Err (Field 2 2)) × (below (codes "work,1,") ≡ Err (Field 2 3))
empty_fields = (refl, refl, refl)

ranges : (below (codes "work,0,0") ≡ Err (Field 2 2)) × (below (codes "work,1025,0") ≡ Err (Field 2 2)) × (below (codes "work,1,256") ≡ Err (Field 2 3))
ranges = (refl, refl, refl)

doubled_quote : below (codes "\"wo\"\"rk\",1,0") ≡ Err (Field 2 1)
doubled_quote = refl

-- shape before value before room
order : (below (codes "play,0") ≡ Err (Record 2)) × (read 0 (codes "kind,size,mark" ++ (eol ++ codes "work,0,0")) ≡ Err (Field 2 2)) × (read 0 (codes "kind,size,mark" ++ (eol ++ codes "work,1,0")) ≡ Err (Full 2))
order = (refl, refl, refl)

-- fields: a doubled quote, CR LF and a comma in quotes, a bare CR and a bare LF
in_quotes : field (codes "\"a\"\"b," ++ (eol ++ codes "c\",d")) ≡ Some (record { value = codes "a\"b," ++ (eol ++ codes "c"); end = record { stop = Comma; rest = codes "d" } })
in_quotes = refl

bare : field (97 ∷ 13 ∷ 98 ∷ 10 ∷ 13 ∷ 13 ∷ 10 ∷ []) ≡ Some (record { value = 97 ∷ 13 ∷ 98 ∷ 10 ∷ 13 ∷ []; end = record { stop = LineEnd; rest = [] } })
bare = refl

quoted_bare : field (34 ∷ 13 ∷ 34 ∷ 13 ∷ 10 ∷ 10 ∷ []) ≡ Some (record { value = 13 ∷ []; end = record { stop = LineEnd; rest = 10 ∷ [] } })
quoted_bare = refl

empty_quotes : field (codes "\"\"") ≡ Some (record { value = []; end = record { stop = TextEnd; rest = [] } })
empty_quotes = refl

no_rows-written : table_text [] ≡ codes "kind,size,mark" ++ eol
no_rows-written = refl
