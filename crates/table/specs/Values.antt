-- The values of the fields of a row. Assumes nothing.
--     is_word v w            v is the word w: as long, with the bytes of w at their places
--     kind_of v              the kind that the word v names
--     number_of v            the number that v writes: decimal digits, at least one, and none leads as a zero
--     size_of v, mark_of v    the same within the range of a size, 1 to 1024, and of a mark, 0 to 255
use Rattle.std.specs.Prelude.{ℕ, suc, ◌+◌, ◌-◌, ◌*◌, Bool, true, cond, ◌&&◌, ◌||◌, List, [], ◌∷◌, length, Some, None, codes, Option, ◌==◌, nat_le, nat_lt, slice_index}

-- the bytes of w stand in v from place i on
abbrev pub reads_from : List ℕ → ℕ → List ℕ → Bool
reads_from v i [] = true
reads_from v i (b ∷ w) = slice_index v i == b && reads_from v (suc i) w

abbrev pub is_word : List ℕ → List ℕ → Bool
is_word v w = length v == length w && reads_from v 0 w

abbrev pub kind_of : List ℕ → Option ℕ
kind_of v = cond (is_word v (codes "work")) (Some 0) (cond (is_word v (codes "finish")) (Some 1) (cond (is_word v (codes "async")) (Some 2) None))

-- 48 and 57 are the digits 0 and 9
abbrev pub digit : ℕ → Bool
digit b = nat_le 48 b && nat_le b 57

-- n is the number that the digits before v write
abbrev pub number_from : ℕ → List ℕ → Option ℕ
number_from n [] = Some n
number_from n (b ∷ v) = cond (digit b) (number_from (n * 10 + (b - 48)) v) None

abbrev pub number_of : List ℕ → Option ℕ
number_of v = cond (length v == 0 || (slice_index v 0 == 48 && nat_lt 1 (length v))) None (number_from 0 v)

abbrev pub within : ℕ → ℕ → Option ℕ → Option ℕ
within low high None = None
within low high (Some n) = cond (nat_le low n && nat_le n high) (Some n) None

abbrev pub size_of : List ℕ → Option ℕ
size_of v = within 1 1024 (number_of v)

abbrev pub mark_of : List ℕ → Option ℕ
mark_of v = within 0 255 (number_of v)
