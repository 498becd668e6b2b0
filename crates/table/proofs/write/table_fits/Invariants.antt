use Rattle.std.proofs.Common.{◌≡◌, leb, length, drop}
use Rattle.std.specs.List.{flat_map}
use Rattle.table.specs.JobTexts.{row_text, table_text}
use Rattle.table.proofs.write.table_fits.Given as goal

abbrev pub invariant-loop-row : goal.invariant-loop-row
invariant-loop-row l = leb (length (table_text l.rows)) l.room ≡ leb (length (flat_map row_text (drop l.row-index l.rows))) l.left
