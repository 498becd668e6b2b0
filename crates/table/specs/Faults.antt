-- What a refused text tells. Assumes nothing.
--     text_number f, text_told f      the number of a text's fault, and what is told with it
use Rattle.std.specs.Prelude.{ℕ, List, [], ◌∷◌}
use Rattle.table.specs.declared.text.TextFault.{TextFault}
use Rattle.table.specs.declared.text.TextFault.TheVariants.{TooLong, Record, Field, Full}

abbrev pub text_number : TextFault → ℕ
text_number TooLong = 14
text_number (Record line) = 15
text_number (Field line field) = 16
text_number (Full line) = 17

abbrev pub text_told : TextFault → List ℕ
text_told TooLong = []
text_told (Record line) = line ∷ []
text_told (Field line field) = line ∷ field ∷ []
text_told (Full line) = line ∷ []
