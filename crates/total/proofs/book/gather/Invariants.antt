use Rattle.std.proofs.Common.{◌≡◌, ◌-◌, map}
use Rattle.job.specs.Rows.{end}
use Rattle.total.specs.Serial.{line_of, gathered}
use Rattle.total.proofs.Walking.{At}
use Rattle.total.proofs.book.gather.Given as goal

abbrev pub invariant-loop-r : goal.invariant-loop-r
invariant-loop-r g l =
    At (g.S.JobSource.rows l.source) l.f l.r
    × (l.end ≡ end (g.S.JobSource.rows l.source) l.f)
    × (g.K.Total.meaning l.sum
    ≡ gathered g.K.Total.none g.K.Total.joined g.K.Total.sealed (g.S.JobSource.rows l.source) (line_of g.K.Total.none (map g.K.Total.meaning l.book)) l.f l.r)

abbrev pub decreases-loop-r : goal.decreases-loop-r
decreases-loop-r g l = l.end - l.r
