-- Queues as lists, from the bottom to the top. Assumes nothing.
--     bottom q                   the row at the bottom, if any
--     above_bottom q             the queue without it
--     top q                      the row at the top, if any
--     below_top q                the queue without it
use Rattle.std.specs.Prelude.{ℕ, List, [], ◌∷◌, Some, None, Option}

abbrev pub bottom : List ℕ → Option ℕ
bottom [] = None
bottom (x ∷ q) = Some x

abbrev pub above_bottom : List ℕ → List ℕ
above_bottom [] = []
above_bottom (x ∷ q) = q

-- the top of a queue with x below the others
abbrev pub top_over : ℕ → List ℕ → ℕ
top_over x [] = x
top_over x (y ∷ q) = top_over y q

abbrev pub top : List ℕ → Option ℕ
top [] = None
top (x ∷ q) = Some (top_over x q)

-- the same queue without its top
abbrev pub below_top_over : ℕ → List ℕ → List ℕ
below_top_over x [] = []
below_top_over x (y ∷ q) = x ∷ below_top_over y q

abbrev pub below_top : List ℕ → List ℕ
below_top [] = []
below_top (x ∷ q) = below_top_over x q
