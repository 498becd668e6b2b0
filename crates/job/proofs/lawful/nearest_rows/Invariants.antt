use Rattle.std.proofs.Common.{◌≡◌, ℕ, ◌<◌, true, length, get_or, Some}
use Rattle.job.specs.Rows.{nearest}
use Rattle.job.specs.Lawful.{lawful_row}
use Rattle.job.proofs.lawful.nearest_rows.Given as goal

abbrev pub invariant-loop-r : goal.invariant-loop-r
invariant-loop-r g l =
    (length l.nearest ≡ 1024)
    × ((q : ℕ) → q < l.r → lawful_row (g.S.JobSource.rows l.source) q ≡ true)
    × ((q : ℕ) → 0 < q → q < l.r → nearest (g.S.JobSource.rows l.source) q ≡ Some (get_or l.nearest q 0))
