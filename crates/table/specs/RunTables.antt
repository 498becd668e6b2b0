-- The records of a run table, as bytes. Assumes nothing.
--     run_header                 the line worker,action,row,closed,next,total
--     total_record row text      the total of a finish row, as its kind writes it
--     refused_record n place     refusal n, with the line or row that it tells, if any
--     digits_if o                the number in o, in decimal, or no bytes
use Rattle.std.specs.Prelude.{ℕ, List, [], ◌∷◌, ◌++◌, Some, None, codes, decimal, Option}

-- 13 and 10 are CR and LF
abbrev pub line_end : List ℕ
line_end = 13 ∷ 10 ∷ []

abbrev pub run_header : List ℕ
run_header = codes "worker,action,row,closed,next,total" ++ line_end

abbrev pub total_record : ℕ → List ℕ → List ℕ
total_record row text = codes ",total," ++ (decimal row ++ (codes ",,," ++ (text ++ line_end)))

abbrev pub digits_if : Option ℕ → List ℕ
digits_if None = []
digits_if (Some n) = decimal n

abbrev pub refused_record : ℕ → Option ℕ → List ℕ
refused_record number place = codes ",refused," ++ (decimal number ++ (codes ",," ++ (digits_if place ++ (codes "," ++ line_end))))
