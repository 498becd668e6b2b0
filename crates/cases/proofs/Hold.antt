-- The worked cases hold: the definitions compute them. Assumes nothing.
use Rattle.std.proofs.Common.{List, [], ◌∷◌, ◌++◌, refl}
use Rattle.job.specs.Lawful.{lowest_unlawful}
use Rattle.job.specs.Loops.{all_chunks}
use Rattle.job.specs.Rows.{end, around}
use Rattle.total.specs.Serial.{serial}
use Rattle.cases.specs.Worked.{AllHold, seals, loops, lone_rows, enclosers, worked_cases}

all_seals : AllHold seals
all_seals = (refl, (refl, (refl, (refl, tt))))

all_loops : AllHold loops
unfolding all_chunks
all_loops = (refl, (refl, (refl, (refl, tt))))

all_lone_rows : AllHold lone_rows
unfolding end around lowest_unlawful serial
all_lone_rows = (λ m. refl, (λ m v. refl, (λ m v. refl, tt)))

all_enclosers : AllHold enclosers
unfolding end around lowest_unlawful
all_enclosers = (refl, (refl, (refl, (refl, (refl, (refl, tt))))))

both_hold : (cs ds : List (Type 0)) → AllHold cs → AllHold ds → AllHold (cs ++ ds)
both_hold [] ds a b = b
both_hold (c ∷ cs) ds a b = (a.0, both_hold cs ds a.1 b)

pub all_hold : AllHold worked_cases
all_hold =
    both_hold seals (loops ++ (lone_rows ++ enclosers)) all_seals
    (both_hold loops (lone_rows ++ enclosers) all_loops (both_hold lone_rows enclosers all_lone_rows all_enclosers))
