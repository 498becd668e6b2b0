-- The fields of a text after RFC 4180. Assumes nothing.
--     breaks bs             CR LF stands at the front of bs
--     End, ends bs          what ends a field, and the text after that;  the one at the front of bs, if any
--     Cut                   a field cut off the front of a text: its value, and its end
--     field bs              the field at the front of bs, or none where its quotes are against RFC 4180
--     onward m bs           the rest of a field: plain, in quotes, or just past a quote that may close it
--     unescaped raw         the value that is written as raw: two quotes in a row are one
use Rattle.std.specs.Prelude.{ℕ, Bool, cond, ◌&&◌, List, [], ◌∷◌, drop, Some, None, Option, ◌==◌, slice_index}
use Rattle.table.specs.declared.field.Stop.{Stop}
use Rattle.table.specs.declared.field.Stop.TheVariants.{Comma, LineEnd, TextEnd}

pub record End : Type 0 where
  pub stop : Stop
  pub rest : List ℕ

pub record Cut : Type 0 where
  pub value : List ℕ
  pub end : End

pub data Mode : Type 0 where
  Plain : Mode
  Quoted : Mode
  Past : Mode

-- 13 and 10 are CR and LF
abbrev pub breaks : List ℕ → Bool
breaks bs = slice_index bs 0 == 13 && slice_index bs 1 == 10

abbrev pub ends : List ℕ → Option End
ends [] = Some (record { stop = TextEnd; rest = [] })
ends (b ∷ bs) =
    cond (b == 44) (Some (record { stop = Comma; rest = bs }))
    (cond (breaks (b ∷ bs)) (Some (record { stop = LineEnd; rest = drop 1 bs })) None)

-- nothing is left of the field where it ends here
abbrev pub ended : Option End → Option Cut → Option Cut
ended (Some e) other = Some (record { value = []; end = e })
ended None other = other

abbrev pub longer : ℕ → Option Cut → Option Cut
longer b None = None
longer b (Some c) = Some (record { value = b ∷ c.value; end = c.end })

-- 34 is a quote
abbrev pub onward : Mode → List ℕ → Option Cut
onward Plain [] = ended (ends []) None
onward Plain (b ∷ bs) = ended (ends (b ∷ bs)) (cond (b == 34) None (longer b (onward Plain bs)))
onward Quoted [] = None
onward Quoted (b ∷ bs) = cond (b == 34) (onward Past bs) (longer b (onward Quoted bs))
onward Past [] = ended (ends []) None
onward Past (b ∷ bs) = ended (ends (b ∷ bs)) (cond (b == 34) (longer 34 (onward Quoted bs)) None)

abbrev pub field : List ℕ → Option Cut
field [] = onward Plain []
field (b ∷ bs) = cond (b == 34) (onward Quoted bs) (onward Plain (b ∷ bs))

abbrev pub unescaped : List ℕ → List ℕ
unescaped [] = []
unescaped (b ∷ []) = b ∷ []
unescaped (b ∷ c ∷ bs) = cond (b == 34 && c == 34) (b ∷ unescaped bs) (b ∷ unescaped (c ∷ bs))
