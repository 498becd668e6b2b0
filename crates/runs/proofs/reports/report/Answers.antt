use Rattle.std.proofs.Common.{take, ap, ◌∙◌}
use Rattle.std.proofs.lemmas.List.{with_items_is}
use Rattle.runs.proofs.reports.report.Goals as goal

-- written out, so that a report of another length is refused for what it is
pub returns : goal.returns
returns c = c.truncate.ensures.items ∙ ap (take c.put_report-size.result) (with_items_is c.in_ok-out.out c.put_report-size.new.out (c.put_report-size.auto.out ∙ c.deref_mut.ensures.len)) ∙ c.put_report-size.ensures
