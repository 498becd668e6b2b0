-- The lines of a book that is filled in. Assumes nothing.
use Rattle.std.proofs.Common.{◌≡◌, ℕ, ◌-◌, ◌<◌, ◌≤◌, true, List, map, length, drop, ap, ◌∙◌, arith}
use Rattle.std.specs.List.{range_with_len}
use Rattle.std.proofs.lemmas.List.FromFn.{length-map-range_with_len, get_or-map-range_with_len}
use Rattle.std.proofs.lemmas.List.{length-append, length-drop, get_or_append_left, get_or-append_right, get_or-drop}
use Rattle.std.proofs.lemmas.Bool.{cond-true}
use Rattle.job.specs.declared.row.Row.{Row}
use Rattle.job.specs.Rows.{row, is_finish}
use Rattle.total.specs.Serial.{line_of, serial, filled_line, filled}

module _ {M : Type 0} (nothing : M) (join : M → M → M) (seal : ℕ → M → M) (rows : List Row) (book : List M) where
  first : List M
  first = map (filled_line nothing join seal rows (line_of nothing book)) (range_with_len 0 (length rows))

  pub length-filled : length rows ≤ length book → length (filled nothing join seal rows book) ≡ length book
  unfolding first
  length-filled room =
      length-append first (drop (length rows) book)
      ∙ (omega (arith, length-drop (length rows) book, length-map-range_with_len (filled_line nothing join seal rows (line_of nothing book)) 0 (length rows)))

  pub filled_at : (k : ℕ) → k < length rows → line_of nothing (filled nothing join seal rows book) k ≡ filled_line nothing join seal rows (line_of nothing book) k
  unfolding first
  filled_at k m =
      get_or_append_left first (drop (length rows) book) nothing k (simp length-map-range_with_len m)
      ∙ get_or-map-range_with_len (filled_line nothing join seal rows (line_of nothing book)) 0 (length rows) k k nothing m (omega arith)

  pub filled-finish : (k : ℕ) → k < length rows → is_finish (row rows k) ≡ true → line_of nothing (filled nothing join seal rows book) k ≡ serial nothing join seal rows (line_of nothing book) k
  filled-finish k m fin = filled_at k m ∙ cond-true (is_finish (row rows k)) _ _ fin

  pub filled_past : (k : ℕ) → length rows ≤ k → line_of nothing (filled nothing join seal rows book) k ≡ line_of nothing book k
  unfolding first
  filled_past k m =
      get_or-append_right first (drop (length rows) book) (length rows) k nothing (length-map-range_with_len _ 0 (length rows)) m
      ∙ get_or-drop (length rows) book (k - length rows) nothing
      ∙ ap (line_of nothing book) (omega arith)
