use Rattle.std.proofs.Common.{refl}
use Rattle.cases.proofs.Hold.{all_hold}
use Rattle.cases.proofs.worked_cases.Goals as goal

pub returns : goal.returns
returns c = record { hold = all_hold; count = refl }
