-- The count. Assumes nothing.
--     Number                a number below 2^64
--     number n              the number that n means: its remainder by 2^64
--     zero_number           nothing
--     sum x y               the sum modulo 2^64
--     kept m x              x sealed with mark m: x where it is at least m, else nothing
--     count_text c          the text of a count: the decimal digits of the number that it means
use Rattle.std.specs.Prelude.{ℕ, ◌+◌, ◌%◌, ◌^◌, ◌<◌, cond, List, decimal, nat_le}
use Rattle.std.proofs.Common.{mod-lt, lit<}
use Rattle.total.specs.declared.count.Count.{Count}

pub record Number : Type 0 where
  pub value : ℕ
  pub within : value < 2 ^ 64

abbrev pub number : ℕ → Number
number n = record { value = n % 2 ^ 64; within = mod-lt n (lit< tt) }

abbrev pub zero_number : Number
zero_number = number 0

abbrev pub sum : Number → Number → Number
sum x y = number (x.value + y.value)

abbrev pub kept : ℕ → Number → Number
kept m x = cond (nat_le m x.value) x zero_number

abbrev pub count_text : Count → List ℕ
count_text c = decimal (number c.value).value
