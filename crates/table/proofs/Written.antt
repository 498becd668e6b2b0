-- What a whole written table is.
use Rattle.std.proofs.Common.{◌≡◌, ℕ, ◌+◌, ◌≤◌, List, [], ◌∷◌, length, take, drop, Some, None, Ok, Option, refl, ap, ◌∙◌, arith}
use Rattle.std.proofs.lemmas.List.{take_at}
use Rattle.job.specs.declared.row.Row.{Row}
use Rattle.total.specs.Outputs.{put}
use Rattle.total.proofs.Outputs.{put-fits}
use Rattle.table.specs.declared.write.WriteFault.{WriteFault}
use Rattle.table.specs.Texts.{read}
use Rattle.table.specs.JobTexts.{table_text, bad_field, or_fault, first_bad, unless_bad, Allowed}
use Rattle.table.proofs.RoundTrip.{reads_back}

none_bad : (o : Option WriteFault) → Ok tt ≡ unless_bad o → o ≡ None
none_bad None h = refl
none_bad (Some f) h = let z : ◌≡◌ {A = ℕ} 0 1 = cc in absurd (omega arith)

not_bad : (line : ℕ) (o : Option ℕ) (more : Option WriteFault) → or_fault line o more ≡ None → (o ≡ None) × (more ≡ None)
not_bad line None more h = (refl, h)
not_bad line (Some n) more h = let z : ◌≡◌ {A = ℕ} 0 1 = cc in absurd (omega arith)

all_allowed : (line : ℕ) (rows : List Row) → first_bad line rows ≡ None → Allowed rows
all_allowed line [] h = tt
all_allowed line (r ∷ rows) h = let p = not_bad line (bad_field r) (first_bad (line + 1) rows) h in (p.0, all_allowed (line + 1) rows p.1)

pub written_back : (rows : List Row) (out : List ℕ) (n : ℕ) (after : List ℕ) → Ok tt ≡ unless_bad (first_bad 2 rows) → 0 + length (table_text rows) ≤ length out → n ≡ 0 + length (table_text rows) → after ≡ put out 0 (table_text rows) → n ≤ 65536 → (size : ℕ) → length rows ≤ size → read size (take n after) ≡ Ok rows
written_back rows out n after good fits place is short size h =
    let front : take n after ≡ table_text rows = ap (take n) (is ∙ put-fits out 0 (table_text rows) fits) ∙ take_at (table_text rows) (drop (0 + length (table_text rows)) out) n (omega arith) in
    ap (read size) front ∙ reads_back rows size (all_allowed 2 rows (none_bad (first_bad 2 rows) good)) (omega arith) h
