-- The records of a job table's rows, one after the other.
use Rattle.std.proofs.Common.{◌≡◌, ℕ, ◌+◌, ◌<◌, List, [], ◌++◌, length, get_or, take, sym, ap, ◌∙◌}
use Rattle.std.proofs.lemmas.List.{flat_map_more, take_more}
use Rattle.std.specs.List.{flat_map}
use Rattle.job.specs.declared.row.Row.{Row}
use Rattle.table.specs.JobTexts.{row_text}

-- what is read past the last row
abbrev pub no_row : Row
no_row = record { size = 0; kind = 0; mark = 0 }

-- the rows before i, one row on
pub joined_next : (rows : List Row) (i : ℕ) → i < length rows → flat_map row_text (take i rows) ++ row_text (get_or rows i no_row) ≡ flat_map row_text (take (i + 1) rows)
joined_next rows i h = flat_map_more row_text [] (take i rows) (get_or rows i no_row) ∙ ap (flat_map row_text) (sym (take_more rows i no_row h))
