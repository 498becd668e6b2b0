-- What is written is read back.
use Rattle.std.proofs.Common.{◌≡◌, ℕ, zero, suc, ◌+◌, ◌<◌, ◌≤◌, ◌⊎◌, List, [], ◌∷◌, ◌++◌, length, Some, None, Ok, codes, decimal, sym, refl, ap, ◌∙◌, inl, inr, append_assoc, append-nil, arith, length-append}
use Rattle.std.proofs.lemmas.Bool.{cond-false, le-ltb}
use Rattle.std.specs.List.{flat_map}
use Rattle.job.specs.declared.row.Row.{Row}
use Rattle.table.specs.declared.field.Stop.TheVariants.{Comma, LineEnd, TextEnd}
use Rattle.table.specs.Fields.{End, Cut, ends, field}
use Rattle.table.specs.Records.{three, with_kind, with_size, with_mark, combined, row_of, beside, front_of, front, header_of}
use Rattle.table.specs.Texts.{prepend, read_from, after_header}
use Rattle.table.specs.JobTexts.{kind_word, row_text, table_text, bad_field, Allowed}
use Rattle.table.specs.Laws.{FieldsWriting, RecordWriting, Ended, Lines, TableWriting, ReadsWritings, ReadsBack}
use Rattle.table.proofs.Shapes.{ended}
use Rattle.table.proofs.Spelling.{kind-read, size-read, mark-read, kind_plain, decimal_plain, ranges}
use Rattle.table.proofs.Tables.{from_none, from_row}
use Rattle.table.proofs.Writings.{field-read}

-- three fields that are written and then ended are read as their values
module _ (a b c w more : List ℕ) (e : End) (is : FieldsWriting a b c w) (h : ends more ≡ Some e) (last : (e.stop ≡ LineEnd) ⊎ (e.stop ≡ TextEnd)) where
  flat : w ++ more ≡ is.first ++ (44 ∷ (is.second ++ (44 ∷ (is.third ++ more))))
  flat = ap (λ l. l ++ more) is.whole ∙ append_assoc is.first _ more ∙ ap (λ l. is.first ++ (44 ∷ l)) (append_assoc is.second _ more)

  kind_cut : field (is.first ++ (44 ∷ (is.second ++ (44 ∷ (is.third ++ more))))) ≡ Some (record { value = a; end = record { stop = Comma; rest = is.second ++ (44 ∷ (is.third ++ more)) } })
  kind_cut = field-read a is.first (44 ∷ (is.second ++ (44 ∷ (is.third ++ more)))) _ is.first_is refl

  size_cut : field (is.second ++ (44 ∷ (is.third ++ more))) ≡ Some (record { value = b; end = record { stop = Comma; rest = is.third ++ more } })
  size_cut = field-read b is.second (44 ∷ (is.third ++ more)) _ is.second_is refl

  pub three-read : three (w ++ more) ≡ Some (record { kind = a; size = b; mark = c; rest = e.rest })
  three-read =
      let k : Cut = record { value = a; end = record { stop = Comma; rest = is.second ++ (44 ∷ (is.third ++ more)) } } in
      let s : Cut = record { value = b; end = record { stop = Comma; rest = is.third ++ more } } in
      ap three flat ∙ ap with_kind kind_cut ∙ ap (with_size k) size_cut ∙ ap (with_mark k s) (field-read c is.third more e is.third_is h) ∙ ended e.stop _ last

-- a record and what ends it
record Tail (w rest bs : List ℕ) : Type 0 where
  more : List ℕ
  end : End
  split : bs ≡ w ++ more
  ends_it : ends more ≡ Some end
  last : (end.stop ≡ LineEnd) ⊎ (end.stop ≡ TextEnd)
  rest_is : end.rest ≡ rest

tail : (w rest bs : List ℕ) → Ended w rest bs → Tail w rest bs
tail w rest bs (inl e) = record { more = codes "\r\n" ++ rest; end = record { stop = LineEnd; rest = rest }; split = e; ends_it = refl; last = inl refl; rest_is = refl }
tail w rest bs (inr p) = record { more = []; end = record { stop = TextEnd; rest = [] }; split = p.0 ∙ sym (append-nil w); ends_it = refl; last = inr refl; rest_is = sym p.1 }

fields_written : (a b c w rest bs : List ℕ) → FieldsWriting a b c w → Ended w rest bs → three bs ≡ Some (record { kind = a; size = b; mark = c; rest = rest })
fields_written a b c w rest bs is e =
    let t = tail w rest bs e in
    ap three t.split ∙ three-read a b c w t.more t.end is t.ends_it t.last ∙ ap (λ l. Some (record { kind = a; size = b; mark = c; rest = l })) t.rest_is

front-written : (r : Row) (w rest bs : List ℕ) → bad_field r ≡ None → RecordWriting r w → Ended w rest bs → front bs ≡ Ok (record { row = r; rest = rest })
front-written r w rest bs good is e =
    let in-range = ranges r good in
    let row : row_of (record { kind = kind_word r.kind; size = decimal r.size; mark = decimal r.mark; rest = rest }) ≡ Ok r = λ i. combined (kind-read r.kind in-range.kind i) (size-read r.size in-range.least in-range.most i) (mark-read r.mark in-range.mark i) in
    ap front_of (fields_written _ _ _ w rest bs is e) ∙ ap (beside rest) row

-- a record is no empty text
some_bytes : (a b c w rest bs : List ℕ) → FieldsWriting a b c w → Ended w rest bs → 0 < length bs
some_bytes a b c w rest bs is e =
    let t = tail w rest bs e in
    let all = ap length t.split ∙ length-append w t.more in
    let one = ap length is.whole ∙ length-append is.first _ in
    omega (arith, all, one)

lines-read : (rows : List Row) (bs : List ℕ) (room line : ℕ) → Allowed rows → Lines rows bs → length rows ≤ room → read_from room line bs ≡ Ok rows
lines-read [] bs room line good is h = from_none room line bs (ap length is)
lines-read (r ∷ rows) bs zero line good is h = absurd (omega arith)
lines-read (r ∷ rows) bs (suc room) line good is h =
    from_row room line bs (record { row = r; rest = is.1 }) (some_bytes _ _ _ is.0 is.1 bs is.2 is.3) (front-written r is.0 is.1 bs good.0 is.2 is.3)
    ∙ ap (prepend r) (lines-read rows is.1 room (line + 1) good.1 is.4 (omega arith))

pub reads_writings : ReadsWritings
reads_writings rows bs room good is short h =
    let fields = fields_written (codes "kind") (codes "size") (codes "mark") is.0 is.1 bs is.2 is.3 in
    cond-false _ _ _ (le-ltb 65536 (length bs) short) ∙ ap (λ o. after_header room (header_of o)) fields ∙ lines-read rows is.1 room 2 good is.4 h

-- what is written is such a text
plain_record : (r : Row) → bad_field r ≡ None → RecordWriting r (kind_word r.kind ++ (codes "," ++ (decimal r.size ++ (codes "," ++ decimal r.mark))))
plain_record r good =
    let in-range = ranges r good in
    record {
      first = kind_word r.kind;
      second = decimal r.size;
      third = decimal r.mark;
      first_is = inl (kind_plain r.kind, refl);
      second_is = inl (decimal_plain r.size (omega (arith, in-range.most)), refl);
      third_is = inl (decimal_plain r.mark (omega (arith, in-range.mark)), refl);
      whole = refl;
    }

lines-written : (rows : List Row) → Allowed rows → Lines rows (flat_map row_text rows)
lines-written [] good = refl
lines-written (r ∷ rows) good = (
  kind_word r.kind ++ (codes "," ++ (decimal r.size ++ (codes "," ++ decimal r.mark))),
  flat_map row_text rows,
  plain_record r good.0,
  inl (simp append_assoc),
  lines-written rows good.1,
)

pub table_written : (rows : List Row) → Allowed rows → TableWriting rows (table_text rows)
table_written rows good = (
  codes "kind,size,mark",
  flat_map row_text rows,
  record { first = codes "kind"; second = codes "size"; third = codes "mark"; first_is = inl (refl, refl); second_is = inl (refl, refl); third_is = inl (refl, refl); whole = refl },
  inl refl,
  lines-written rows good,
)

pub reads_back : ReadsBack
reads_back rows room good short h = reads_writings rows (table_text rows) room good (table_written rows good) short h
