-- Worked cases: what the definitions say of small examples. Assumes nothing.
--     AllHold cs                 each of the cases holds
--     how_many cs                how many they are
--     lone m                     a job of one finish row of mark m
--     nested                     rows of sizes 4, 3, 2, 1: a finish row, in it an async row, in it a finish row, in it an async row
--     seals, loops, lone_rows, enclosers      the cases by their subject
--     worked_cases               all of them
use Rattle.std.specs.Prelude.{◌≡◌, ℕ, suc, List, [], ◌∷◌, ◌++◌, length, pos, Some, Ok}
use Rattle.job.specs.declared.row.Row.{Row}
use Rattle.job.specs.Lawful.{checked}
use Rattle.job.specs.Loops.{loop_rows}
use Rattle.job.specs.Nesting.{nesting}
use Rattle.job.specs.Rows.{row, finish, owner}
use Rattle.total.specs.Counts.{Number, number, zero_number, sum, kept}
use Rattle.total.specs.Serial.{serial}
use Rattle.total.specs.Spans.{Years, no_years, years, hull, capped}

abbrev pub AllHold : List (Type 0) → Type 0
AllHold [] = Unit {0}
AllHold (c ∷ cs) = c × AllHold cs

abbrev pub how_many : List (Type 0) → ℕ
how_many [] = 0
how_many (c ∷ cs) = suc (how_many cs)

-- mark 5 seals a count of 4 to 0, and one of 5 to 5; the span 1840/1902 keeps under mark 62, and mark 61 empties it
abbrev pub seals : List (Type 0)
seals =
    (kept 5 (number 4) ≡ number 0)
    ∷ (kept 5 (number 5) ≡ number 5)
    ∷ (capped 62 (years (pos 1840) (pos 1902)) ≡ years (pos 1840) (pos 1902))
    ∷ (capped 61 (years (pos 1840) (pos 1902)) ≡ no_years)
    ∷ []

-- 5 iterations in chunks of 2 make 9 rows, of which rows 1, 4 and 7 have sizes 3, 3 and 2
abbrev pub loops : List (Type 0)
loops =
    (length (loop_rows 5 2) ≡ 9)
    ∷ ((row (loop_rows 5 2) 1).size ≡ 3)
    ∷ ((row (loop_rows 5 2) 4).size ≡ 3)
    ∷ ((row (loop_rows 5 2) 7).size ≡ 2)
    ∷ []

abbrev pub lone : ℕ → List Row
lone m = record { size = 1; kind = 1; mark = m } ∷ []

-- a lone finish row is lawful, and its serial total is nothing, whatever its mark and the values
abbrev pub lone_rows : List (Type 0)
lone_rows =
    ((m : ℕ) → checked (lone m) ≡ Ok tt)
    ∷ ((m : ℕ) (value : ℕ → Number) → serial zero_number sum kept (lone m) value 0 ≡ zero_number)
    ∷ ((m : ℕ) (value : ℕ → Years) → serial no_years hull capped (lone m) value 0 ≡ no_years)
    ∷ []

abbrev pub nested : List Row
nested =
    record { size = 4; kind = 1; mark = 0 }
    ∷ record { size = 3; kind = 2; mark = 0 }
    ∷ record { size = 2; kind = 1; mark = 0 }
    ∷ record { size = 1; kind = 2; mark = 0 }
    ∷ []

-- in these rows the finish of row 3 is row 2 and that of row 1 is row 0; row 2 is owned by row 1, and row 0 by itself;
-- tasks nest three deep
abbrev pub enclosers : List (Type 0)
enclosers =
    (checked nested ≡ Ok tt)
    ∷ (finish nested 3 ≡ Some 2)
    ∷ (finish nested 1 ≡ Some 0)
    ∷ (owner nested 2 ≡ 1)
    ∷ (owner nested 0 ≡ 0)
    ∷ (nesting nested ≡ 3)
    ∷ []

abbrev pub worked_cases : List (Type 0)
worked_cases = seals ++ (loops ++ (lone_rows ++ enclosers))
