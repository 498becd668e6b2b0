use Rattle.std.proofs.Common.{◌≡◌, length, take, drop}
use Rattle.std.specs.Iterator.Adapters.{enumerate_source, enumerate_count}
use Rattle.table.specs.Readings.{text_left}
use Rattle.table.proofs.Tables.{Sofar}
use Rattle.table.proofs.text.fill_rows.Given as goal

-- a record takes at least a byte, so there are no more of them than bytes
abbrev pub invariant-loop-i : goal.invariant-loop-i
invariant-loop-i l =
    goal.iterator-loop-i.can_next l.i-iterator × goal.iterator-loop-i.is_finite l.i-iterator
    × Sofar (length l.initial.rows) l.text (text_left (enumerate_source l.i-iterator)) (enumerate_count l.i-iterator) (take (enumerate_count l.i-iterator) l.rows)
    × (drop (enumerate_count l.i-iterator) l.rows ≡ drop (enumerate_count l.i-iterator) l.initial.rows)
