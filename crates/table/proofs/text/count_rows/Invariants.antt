use Rattle.std.proofs.Common.{◌+◌, ◌≤◌, List, length}
use Rattle.job.specs.declared.row.Row.{Row}
use Rattle.table.specs.Readings.{text_left}
use Rattle.table.proofs.Tables.{Sofar}
use Rattle.table.proofs.text.count_rows.Given as goal

-- a record takes at least a byte, so there are no more of them than bytes
abbrev pub invariant-loop-record : goal.invariant-loop-record
invariant-loop-record l =
    goal.iterator-loop-record.can_next l.record-iterator × goal.iterator-loop-record.is_finite l.record-iterator
    × (l.count + length (text_left l.record-iterator) ≤ length l.text)
    × ((xs : List Row) × Sofar l.room l.text (text_left l.record-iterator) l.count xs)
