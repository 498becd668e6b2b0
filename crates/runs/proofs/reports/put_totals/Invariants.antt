use Rattle.std.proofs.Common.{◌≡◌, ◌≤◌, length, drop}
use Rattle.runs.proofs.Totals.{Sofar}
use Rattle.runs.proofs.reports.put_totals.Given as goal

abbrev pub invariant-loop-r : goal.invariant-loop-r
invariant-loop-r l =
    Sofar l.rows l.book l.initial.out l.at l.out l.place l.r-iterator.count
    × (l.r-iterator.count ≤ length l.rows)
    × (l.r-iterator.iter.a.rest.now ≡ drop l.r-iterator.count l.rows)
    × (l.r-iterator.iter.b.rest.now ≡ drop l.r-iterator.count l.book)
