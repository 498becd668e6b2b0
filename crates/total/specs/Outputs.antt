-- Bytes put into a lent output. Assumes nothing.
--     fits out at bytes     the bytes have room in the output from a place on
--     put out at bytes      the output with the bytes from that place on, or as it was where they do not fit
--     put_end out at bytes  the place after those bytes, or the refusal where they do not fit
--     pieced pieces         the bytes of the pieces, one after the other
--     output_number r       the number of that refusal
--     output_told r         what is told with it: nothing
use Rattle.std.specs.Prelude.{ℕ, ◌+◌, Bool, cond, List, [], ◌++◌, length, take, drop, Ok, Err, Result, nat_le}
use Rattle.std.specs.List.{flat_map}
use Rattle.std.proofs.Common.{Bor}
use Rattle.total.specs.declared.output.OutputRefusal.{OutputRefusal}
use Rattle.total.specs.declared.output.OutputRefusal.TheVariants.{TooShort}

abbrev pub fits : List ℕ → ℕ → List ℕ → Bool
fits out at bytes = nat_le (at + length bytes) (length out)

abbrev pub put : List ℕ → ℕ → List ℕ → List ℕ
put out at bytes = cond (fits out at bytes) (take at out ++ (bytes ++ drop (at + length bytes) out)) out

abbrev pub put_end : List ℕ → ℕ → List ℕ → Result ℕ OutputRefusal
put_end out at bytes = cond (fits out at bytes) (Ok (at + length bytes)) (Err TooShort)

abbrev pub pieced : List (Bor (List ℕ)) → List ℕ
pieced pieces = flat_map (λ (p : Bor (List ℕ)). p.now) pieces

abbrev pub output_number : OutputRefusal → ℕ
output_number TooShort = 18

abbrev pub output_told : OutputRefusal → List ℕ
output_told TooShort = []
