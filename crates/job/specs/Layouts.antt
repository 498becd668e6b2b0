-- What a job that is laid out holds. Assumes nothing.
--     laid l                     its rows
--     laid_after answer new old  the rows after a job was to be laid out: the new ones, or the old where it was refused
use Rattle.std.specs.Prelude.{List, take, Ok, Err, Result}
use Rattle.job.specs.declared.layout.entries.Layout.{Layout}
use Rattle.job.specs.declared.row.Row.{Row}
use Rattle.job.specs.Entries.{entry_rows}

abbrev pub laid : Layout → List Row
laid l = entry_rows (take l.count l.entries)

abbrev pub laid_after : {E : Type 0} → Result (Unit {0}) E → List Row → List Row → List Row
laid_after (Ok u) new old = new
laid_after (Err e) new old = old
