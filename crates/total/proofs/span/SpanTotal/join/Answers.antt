use Rattle.std.proofs.Common.{sym}
use Rattle.total.specs.SpansLemmas.{hull_meaning, hull_by}
use Rattle.total.proofs.span.SpanTotal.join.Goals as goal

pub returns : goal.returns
returns c =
    let is = hull_meaning c.args.self.now c.args.other.now c.widened.result (sym c.if-not-has_years.ensures) (sym c.if-not-has_years-2.ensures) c.widened.ensures.first c.widened.ensures.last in
    record { meaning = is; least = hull_by _ _ _ is }
