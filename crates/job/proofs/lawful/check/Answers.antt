use Rattle.std.proofs.Common.{sym, ◌∙◌}
use Rattle.job.proofs.Nests.{granted, lawful_nests}
use Rattle.job.proofs.lawful.check.Goals as goal

pub returns-clause-nests : goal.returns-clause-nests
returns-clause-nests g c =
    let rows = g.S.JobSource.rows c.args.source.now in
    λ y. lawful_nests rows (granted rows (sym y ∙ c.nearest_rows.ensures.result))
