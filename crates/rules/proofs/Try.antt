use Rattle.std.proofs.Common.{◌≡◌, ℕ, List, [], ◌∷◌, map, Some, None, Ok, Option, refl}
use Rattle.job.specs.declared.row.Row.{Row}
use Rattle.job.specs.Rows.{end, around}
use Rattle.rules.specs.declared.answer.Action.{Action}
use Rattle.rules.specs.declared.answer.Action.TheVariants.{Open, First, Fresh, Close, Wait, End, Steal}
use Rattle.rules.specs.declared.state.Figures.{Figures}
use Rattle.rules.specs.Loads.{loaded}
use Rattle.rules.specs.Slips.{Slip}
use Rattle.rules.specs.Runs.{Call, steps, takes, hands_in, Said, stepped, took, handed_in, history}
use Rattle.total.specs.Counts.{Number, number, zero_number, sum, kept}

abbrev nested : List Row
nested =
    record { size = 4; kind = 1; mark = 0 }
    ∷ record { size = 3; kind = 2; mark = 0 }
    ∷ record { size = 2; kind = 1; mark = 0 }
    ∷ record { size = 1; kind = 2; mark = 0 }
    ∷ []

abbrev answers : List Row → ℕ → Figures → List Number → List (Call Number) → List Said
answers rows n x lines calls = map (λ m. m.said) (history zero_number sum kept (loaded rows n x) lines calls)

abbrev said : Action → ℕ → Option ℕ → Option ℕ → Said
said a r c t = stepped (Ok (record { action = a; row = r; outcome = (c, t) }))

abbrev blank-book : List Number
blank-book = zero_number ∷ zero_number ∷ zero_number ∷ zero_number ∷ zero_number ∷ zero_number ∷ []

try_nested :
    answers nested 1 (record { stack = 1; fresh = 0; interval = 8 }) blank-book (steps 0 0 ∷ steps 0 0 ∷ steps 0 0 ∷ steps 0 0 ∷ steps 0 0 ∷ steps 0 0 ∷ steps 0 0 ∷ [])
    ≡ said First 1 None (Some 1)
    ∷ said Open 2 None (Some 1)
    ∷ said Fresh 3 None (Some 1)
    ∷ said Wait 2 None (Some 3)
    ∷ said End 3 (Some 2) (Some 1)
    ∷ said End 1 None (Some 0)
    ∷ said Close 0 (Some 0) None
    ∷ []
unfolding end around
try_nested = refl

abbrev six : List Row
six =
    record { size = 6; kind = 1; mark = 0 }
    ∷ record { size = 2; kind = 2; mark = 0 }
    ∷ record { size = 1; kind = 0; mark = 3 }
    ∷ record { size = 2; kind = 2; mark = 0 }
    ∷ record { size = 1; kind = 0; mark = 4 }
    ∷ record { size = 1; kind = 0; mark = 5 }
    ∷ []

abbrev slip : ℕ → ℕ → Slip
slip w r = record { worker = w; row = r }

try_six :
    answers six 2 (record { stack = 4; fresh = 2; interval = 2 }) blank-book
    (steps 0 1 ∷ steps 1 0 ∷ steps 0 1 ∷ takes 1 ∷ hands_in (slip 1 2) (number 3) ∷ takes 0 ∷ hands_in (slip 0 5) (number 5) ∷ steps 1 0 ∷ steps 0 1 ∷ takes 0 ∷ hands_in (slip 0 4) (number 4) ∷ steps 0 1 ∷ [])
    ≡ said Fresh 1 None (Some 0)
    ∷ said Steal 1 None (Some 1)
    ∷ said Fresh 3 None (Some 0)
    ∷ took (Ok (slip 1 2))
    ∷ handed_in (Ok tt)
    ∷ took (Ok (slip 0 5))
    ∷ handed_in (Ok tt)
    ∷ said End 1 None None
    ∷ said Wait 0 None (Some 3)
    ∷ took (Ok (slip 0 4))
    ∷ handed_in (Ok tt)
    ∷ said End 3 (Some 0) None
    ∷ []
unfolding end around
try_six = refl
