-- The row of a record and the header, from their fields as written.
use Rattle.std.proofs.Common.{◌≡◌, ℕ, true, false, ◌&&◌, List, Ok, Err, codes, Result, sym, refl, ap, ◌∙◌}
use Rattle.std.proofs.lemmas.Bool.{cond-true, cond-false}
use Rattle.std.specs.Option.{ok_or}
use Rattle.job.specs.declared.row.Row.{Row}
use Rattle.table.specs.declared.record.Record.{Record}
use Rattle.table.specs.declared.record.RecordFault.{RecordFault}
use Rattle.table.specs.declared.record.RecordFault.TheVariants.{Shape}
use Rattle.table.specs.Fields.{unescaped}
use Rattle.table.specs.Values.{kind_of, size_of, mark_of}
use Rattle.table.specs.Records.{three, is_header, header_of, header, combined, row_of, beside, front_of, front}
use Rattle.table.specs.Readings.{as_three}
use Rattle.table.proofs.Quotes.{kind_as_written, size_as_written, mark_as_written, word_as_written}
use Rattle.table.proofs.Results.{ok_or-ok, ok_or-err}

module _ (bs : List ℕ) where
  -- a fault of the shape is one of the row and of the header
  pub front_fault : (f : RecordFault) → Err f ≡ ok_or (three bs) Shape → front bs ≡ Err f
  front_fault f h = let p = ok_or-err Shape (three bs) h in ap front_of p.0 ∙ ap Err (sym p.1)

  pub header_fault : (f : RecordFault) → Err f ≡ ok_or (three bs) Shape → header bs ≡ Err f
  header_fault f h = let p = ok_or-err Shape (three bs) h in ap header_of p.0 ∙ ap Err (sym p.1)

  -- the fields are compared as they are written
  module _ (c : Record) (known : Ok (as_three c) ≡ ok_or (three bs) Shape) where
    as_written : row_of (as_three c) ≡ combined (kind_of c.kind.now) (size_of c.size.now) (mark_of c.mark.now)
    as_written = λ i. combined (kind_as_written c.kind.now i) (size_as_written c.size.now i) (mark_as_written c.mark.now i)

    pub front_known : (r : Result Row RecordFault) → r ≡ combined (kind_of c.kind.now) (size_of c.size.now) (mark_of c.mark.now) → front bs ≡ beside c.rest.now r
    front_known r h = ap front_of (ok_or-ok Shape (three bs) known) ∙ ap (beside c.rest.now) (as_written ∙ sym h)

    header-written : is_header (unescaped c.kind.now) (unescaped c.size.now) (unescaped c.mark.now) ≡ is_header c.kind.now c.size.now c.mark.now
    header-written = λ i. word_as_written (codes "kind") c.kind.now refl i && (word_as_written (codes "size") c.size.now refl i && word_as_written (codes "mark") c.mark.now refl i)

    pub header_known : is_header c.kind.now c.size.now c.mark.now ≡ true → header bs ≡ Ok c.rest.now
    header_known h = ap header_of (ok_or-ok Shape (three bs) known) ∙ cond-true _ _ _ (header-written ∙ h)

    pub header_other : is_header c.kind.now c.size.now c.mark.now ≡ false → header bs ≡ Err Shape
    header_other h = ap header_of (ok_or-ok Shape (three bs) known) ∙ cond-false _ _ _ (header-written ∙ h)
