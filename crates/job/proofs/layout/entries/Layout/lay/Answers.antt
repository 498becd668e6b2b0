use Rattle.std.proofs.Common.{take, sym, subst, arith}
use Rattle.job.specs.Entries.{LaidOut}
use Rattle.job.proofs.layout.entries.Layout.lay.Goals as goal

pub invariant_of-self : goal.invariant_of-self
invariant_of-self g c =
    let few = c.in_ok-nearest_rows.ensures.near.lawful.few in
    let laid = subst (λ n. LaidOut (take n c.fill_entries.new.entries)) (sym c.len-self.ensures) c.fill_entries.ensures.laid in
    record { sized = c.fill_entries.ensures.whole; few = omega arith; right = laid }
