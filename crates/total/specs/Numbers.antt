-- Why counts show the laws of a kind of total. A lemma alone: the words are those of Counts. Assumes nothing.
--     same_number                numbers below 2^64 of the same value are the same
use Rattle.std.specs.Prelude.{◌≡◌, ◌^◌, ◌<◌}
use mathlib.Core.HLevel.{is_prop→PathP}
use Rattle.std.proofs.Math.Bridge.{le_prop}
use Rattle.total.specs.Counts.{Number}

-- there is one proof at most that a value is below
pub same_number : (x y : Number) → x.value ≡ y.value → x ≡ y
same_number x y e = λ i. record { value = e i; within = is_prop→PathP (λ j. e j < 2 ^ 64) (λ j. le_prop) x.within y.within i }
