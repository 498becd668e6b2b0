-- What reading and writing have to do with each other. Assumes nothing.
--     plainly v             v can stand without quotes: it has no quote, no comma and no CR LF
--     doubled v             v with each quote twice
--     FieldWriting v w     w is v as it is, where it can stand so, or v in quotes, with its quotes doubled
--     RecordWriting r w    w is three such fields, with commas between, of the row r
--     Lines rows bs         bs is such records of the rows, each ended by CR LF, the last one by that or by the end of the text
--     TableWriting rows bs      bs is the header line, its fields written in any of these ways, and then those records
--     ReadsWritings        each such text is read as the rows that it writes
--     ReadsBack            the text that is written for rows is read as those rows
use Rattle.std.specs.Prelude.{◌≡◌, ℕ, ◌≤◌, Bool, true, cond, not, ◌&&◌, ◌⊎◌, List, [], ◌∷◌, ◌++◌, length, Ok, codes, decimal, ◌==◌}
use Rattle.job.specs.declared.row.Row.{Row}
use Rattle.table.specs.Fields.{breaks}
use Rattle.table.specs.JobTexts.{kind_word, table_text, Allowed}
use Rattle.table.specs.Texts.{read}

-- 34 is a quote, 44 a comma
abbrev pub plainly : List ℕ → Bool
plainly [] = true
plainly (b ∷ v) = not (b == 34) && (not (b == 44) && (not (breaks (b ∷ v)) && plainly v))

abbrev pub doubled : List ℕ → List ℕ
doubled [] = []
doubled (b ∷ v) = cond (b == 34) (34 ∷ 34 ∷ doubled v) (b ∷ doubled v)

abbrev pub FieldWriting : List ℕ → List ℕ → Type 0
FieldWriting v w = ((plainly v ≡ true) × (w ≡ v)) ⊎ (w ≡ codes "\"" ++ (doubled v ++ codes "\""))

-- three fields a, b and c, written as w
pub record FieldsWriting (a b c w : List ℕ) : Type 0 where
  pub first : List ℕ
  pub second : List ℕ
  pub third : List ℕ
  pub first_is : FieldWriting a first
  pub second_is : FieldWriting b second
  pub third_is : FieldWriting c third
  pub whole : w ≡ first ++ (codes "," ++ (second ++ (codes "," ++ third)))

abbrev pub RecordWriting : Row → List ℕ → Type 0
RecordWriting r w = FieldsWriting (kind_word r.kind) (decimal r.size) (decimal r.mark) w

-- the record w, its end and the text after it make up bs
abbrev pub Ended : List ℕ → List ℕ → List ℕ → Type 0
Ended w rest bs = (bs ≡ w ++ (codes "\r\n" ++ rest)) ⊎ ((bs ≡ w) × (rest ≡ []))

abbrev pub Lines : List Row → List ℕ → Type 0
Lines [] bs = bs ≡ []
Lines (r ∷ rows) bs = (w : List ℕ) × (rest : List ℕ) × RecordWriting r w × Ended w rest bs × Lines rows rest

abbrev pub TableWriting : List Row → List ℕ → Type 0
TableWriting rows bs = (w : List ℕ) × (rest : List ℕ) × FieldsWriting (codes "kind") (codes "size") (codes "mark") w × Ended w rest bs × Lines rows rest

abbrev pub ReadsWritings : Type 0
ReadsWritings = (rows : List Row) (bs : List ℕ) (room : ℕ) → Allowed rows → TableWriting rows bs → length bs ≤ 65536 → length rows ≤ room → read room bs ≡ Ok rows

abbrev pub ReadsBack : Type 0
ReadsBack = (rows : List Row) (room : ℕ) → Allowed rows → length (table_text rows) ≤ 65536 → length rows ≤ room → read room (table_text rows) ≡ Ok rows
