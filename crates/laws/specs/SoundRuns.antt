-- What every run keeps. Assumes nothing.
--     Throughout P ms            P holds of the board of each moment
--     SoundRuns                  the board of a granted load is sound, and so is the board after each call that follows
use Rattle.std.specs.Prelude.{ℕ, List, [], ◌∷◌}
use Rattle.rules.specs.Boards.{Board}
use Rattle.rules.specs.Loads.{load}
use Rattle.rules.specs.Runs.{Moment, Run, moments}
use Rattle.rules.specs.Sound.{Sound}

abbrev pub Throughout : {M : Type 0} → (Board → Type 0) → List (Moment M) → Type 0
Throughout P [] = Unit {0}
Throughout P (m ∷ ms) = P m.board × Throughout P ms

module _ {M : Type 0} (nothing : M) (join : M → M → M) (seal : ℕ → M → M) where
  abbrev pub SoundRuns : Type 0
  SoundRuns =
      (run : Run nothing join seal) →
      Sound (load nothing run.before run.rows run.lines run.workers run.figures).board
      × Throughout Sound (moments nothing join seal run)
