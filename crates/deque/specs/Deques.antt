-- What a deque holds. Assumes nothing.
--     room                       the most rows in a deque
--     slot n                     the slot that a number falls on, round the ring of slots
--     ring slots at n            the rows in n slots, from that of `at` on
--     rows_in d                  the rows in a deque, from its bottom to its top: as many as its length says, but no more than there is room for
--     push_answer q              what a push to the deque q answers
--     pushed q x                 the deque q after row x was pushed to its bottom: as it was where it was full
use Rattle.std.specs.Prelude.{ℕ, zero, suc, ◌+◌, ◌%◌, min, if◌then◌else◌, List, [], ◌∷◌, length, Ok, Err, Result, nat_lt, slice_index}
use Rattle.deque.specs.declared.Deque.{Deque}
use Rattle.deque.specs.declared.PushError.{PushError}
use Rattle.deque.specs.declared.PushError.TheVariants.{Full}

abbrev pub room : ℕ
room = 1024

abbrev pub slot : ℕ → ℕ
slot n = n % 1024

abbrev pub ring : List ℕ → ℕ → ℕ → List ℕ
ring slots at zero = []
ring slots at (suc n) = slice_index slots (slot at) ∷ ring slots (at + 1) n

unfoldable pub rows_in : Deque → List ℕ
rows_in d = ring d.slots d.bottom (min d.len room)

abbrev pub push_answer : List ℕ → Result (Unit {0}) PushError
push_answer q = if nat_lt (length q) room then Ok tt else Err Full

abbrev pub pushed : List ℕ → ℕ → List ℕ
pushed q x = if nat_lt (length q) room then x ∷ q else q
