use Rattle.std.proofs.Common.{sym, refl, subst, ◌∙◌, arith, length-set}
use Rattle.job.specs.Entries.{EntryOf}
use Rattle.job.proofs.Climbing.{lower}
use Rattle.job.proofs.InnerEntries.{first-right, inner_right, entries_more, rows-entered, laid_out}
use Rattle.job.proofs.layout.fill.fill_entries.Goals as goal

pub loop-r-init : goal.loop-r-init
loop-r-init g c =
    let rows = g.S.JobSource.rows c.args.source.now in
    let first = subst (EntryOf rows 0) (sym c.first.ensures) (first-right rows c.row_at.result c.row_at.ensures) in (
      length-set c.args.entries.now 0 c.first.result ∙ (omega arith),
      entries_more rows c.args.entries.now 0 c.first.result (omega arith) (λ q l. absurd (omega arith)) first,
    )

pub bounds-entries-p : goal.bounds-entries-p
bounds-entries-p g c =
    let rows = g.S.JobSource.rows c.args.source.now in
    let less = lower rows c.loop-r.r _ (c.requires.near c.loop-r.r (omega arith) (omega arith)) in
    omega arith

pub loop-r-preserved : goal.loop-r-preserved
loop-r-preserved g c =
    let rows = g.S.JobSource.rows c.args.source.now in
    let r = c.loop-r.r in
    let near = c.requires.near r (omega arith) (omega arith) in
    let outer = c.loop-r.invariant.1 _ (lower rows r _ near) in
    let inner = inner_right rows c.requires.lawful r _ (omega arith) near _ c.row_at-in-loop-r.result outer c.row_at-in-loop-r.ensures in (
      length-set c.loop-r.entries r c.inner.result ∙ c.loop-r.invariant.0,
      entries_more rows c.loop-r.entries r c.inner.result (omega arith) c.loop-r.invariant.1 (subst (EntryOf rows r) (sym c.inner.ensures) inner),
    )

pub returns-clause-rows : goal.returns-clause-rows
returns-clause-rows g c =
    let rows = g.S.JobSource.rows c.args.source.now in
    rows-entered rows c.loop-r.entries _ refl (omega arith) (λ q l. c.loop-r.invariant.1 q (omega arith))

pub returns-clause-laid : goal.returns-clause-laid
returns-clause-laid g c =
    let rows = g.S.JobSource.rows c.args.source.now in
    laid_out rows c.loop-r.entries _ refl (omega arith) (λ q l. c.loop-r.invariant.1 q (omega arith)) c.requires.lawful
