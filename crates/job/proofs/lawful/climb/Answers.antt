use Rattle.std.proofs.Common.{◌<◌, ◌≤◌, arith}
use Rattle.job.specs.Rows.{end}
use Rattle.job.proofs.Climbing.{not_first, lower, passed_more, passed_all}
use Rattle.job.proofs.lawful.climb.Goals as goal

pub loop-p-smaller : goal.loop-p-smaller
loop-p-smaller g c =
    let rows = g.S.JobSource.rows c.args.source.now in
    let whole : c.args.r < end rows 0 = omega arith in
    let done : end rows c.loop-p.p ≤ c.args.r = omega arith in
    lower rows c.loop-p.p _ (c.requires.tabled c.loop-p.p (not_first rows c.args.r whole c.loop-p.p done) c.loop-p.invariant.0)

pub loop-p-preserved : goal.loop-p-preserved
loop-p-preserved g c =
    let rows = g.S.JobSource.rows c.args.source.now in
    let r = c.args.r in
    let p = c.loop-p.p in
    let whole : r < end rows 0 = omega arith in
    let done : end rows p ≤ r = omega arith in
    let up = c.requires.tabled p (not_first rows r whole p done) c.loop-p.invariant.0 in
    (omega (arith, lower rows p _ up), passed_more rows r whole p _ c.loop-p.invariant.0 c.loop-p.invariant.1 done up)

pub returns : goal.returns
returns g c =
    let rows = g.S.JobSource.rows c.args.source.now in
    let r = c.args.r in
    let whole : r < end rows 0 = omega arith in
    passed_all rows r whole c.loop-p.p c.loop-p.invariant.0 c.loop-p.invariant.1 (omega arith)
