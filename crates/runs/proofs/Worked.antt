-- The totals that a filled book prints are the serial totals over the marks. Assumes nothing.
use Rattle.std.proofs.Common.{◌≡◌, ℕ, zero, suc, ◌<◌, ◌≤◌, true, cond, List, [], ◌++◌, map, length, get_or, Ok, sym, refl, ap, ◌∙◌, ⊎_elim, arith}
use Rattle.std.proofs.lemmas.List.{get_or-map}
use Rattle.std.proofs.lemmas.Bool.{cases_Bool, cond-false}
use Rattle.job.specs.declared.row.Row.{Row}
use Rattle.job.specs.Lawful.{checked}
use Rattle.job.specs.Rows.{row, is_finish}
use Rattle.total.specs.declared.count.Count.{Count}
use Rattle.total.specs.Counts.{Number, number, zero_number, sum, kept}
use Rattle.total.specs.Serial.{line_of, filled}
use Rattle.total.proofs.Filled.{filled-finish}
use Rattle.total.proofs.SerialLaws.{serial_same}
use Rattle.table.specs.RunTables.{total_record}
use Rattle.runs.specs.Reports.{text_of, line_text, records_below, mark_value, total_of, totals, worked_by, worked}

records_same : (rows : List Row) (t₁ t₂ : ℕ → List ℕ) (n : ℕ) → ((r : ℕ) → r < n → is_finish (row rows r) ≡ true → t₁ r ≡ t₂ r) → records_below rows t₁ n ≡ records_below rows t₂ n
records_same rows t₁ t₂ zero h = refl
records_same rows t₁ t₂ (suc r) h =
    ap (λ l. l ++ cond (is_finish (row rows r)) (total_record r (t₁ r)) []) (records_same rows t₁ t₂ r (λ q l y. h q (omega arith) y))
    ∙ ap (λ l. records_below rows t₂ r ++ l) last
  where
    last : cond (is_finish (row rows r)) (total_record r (t₁ r)) [] ≡ cond (is_finish (row rows r)) (total_record r (t₂ r)) []
    last =
        ⊎_elim
        (λ y. ap (λ t. cond (is_finish (row rows r)) (total_record r t) []) (h r (omega arith) y))
        (λ n. cond-false (is_finish (row rows r)) _ _ n ∙ sym (cond-false (is_finish (row rows r)) _ _ n))
        (cases_Bool (is_finish (row rows r)))

abbrev meant : Count → Number
meant c = number c.value

module _ (rows : List Row) (valued book : List Count) where
  pub totals_are : length rows ≤ length valued → length rows ≤ length book → ((k : ℕ) → k < length rows → (get_or valued k (record { value = 0 })).value ≡ (row rows k).mark) → map meant book ≡ filled zero_number sum kept rows (map meant valued) → records_below rows (line_text book) (length rows) ≡ totals rows
  totals_are room wide marks after =
      records_same rows (line_text book) (λ r. text_of (total_of rows r)) (length rows) (λ k l y.
      ap text_of
      (sym (get_or-map meant book k (record { value = 0 }) zero_number (omega arith))
      ∙ ap (λ b. line_of zero_number b k) after
      ∙ filled-finish zero_number sum kept rows (map meant valued) k l y
      ∙ serial_same zero_number sum kept rows (line_of zero_number (map meant valued)) (mark_value rows) (λ r m w.
      get_or-map meant valued r (record { value = 0 }) zero_number (omega arith) ∙ ap number (marks r m)) k))

  pub worked_is : checked rows ≡ Ok tt → totals rows ≡ worked rows
  worked_is e = ap (worked_by rows) (sym e)
