-- The text after a field, and after a record, is shorter than the text.
use Rattle.std.proofs.Common.{◌≡◌, ℕ, ◌+◌, ◌-◌, ◌<◌, ◌≤◌, Bool, true, false, cond, eqb, List, [], ◌∷◌, length, drop, Some, None, Ok, Err, IfSome, Option, Result, ap, arith, length-drop}
use Rattle.job.specs.declared.row.Row.{Row}
use Rattle.table.specs.declared.field.Stop.{Stop}
use Rattle.table.specs.declared.field.Stop.TheVariants.{Comma, LineEnd, TextEnd}
use Rattle.table.specs.declared.record.RecordFault.{RecordFault}
use Rattle.table.specs.declared.record.RecordFault.TheVariants.{Shape}
use Rattle.table.specs.Fields.{End, Cut, Mode, breaks, ends, ended, longer, onward, field}
use Rattle.table.specs.Fields.Mode.{Plain, Quoted, Past}
use Rattle.table.specs.Records.{Three, Front, after_comma, after_last, with_mark, with_size, with_kind, three, row_of, beside, front_of, front, is_header, header_of, header}

-- the field leaves at most n bytes
abbrev Leaves : ℕ → Option Cut → Type 0
Leaves n o = IfSome o (λ c. length c.end.rest ≤ n)

module _ (n : ℕ) where
  ended_leaves : (o : Option End) (other : Option Cut) → IfSome o (λ e. length e.rest ≤ n) → Leaves n other → Leaves n (ended o other)
  ended_leaves None other h k = k
  ended_leaves (Some e) other h k = h

  longer_leaves : (b : ℕ) (o : Option Cut) → Leaves n o → Leaves n (longer b o)
  longer_leaves b None h = tt
  longer_leaves b (Some c) h = h

  either_leaves : (t : Bool) (o p : Option Cut) → Leaves n o → Leaves n p → Leaves n (cond t o p)
  either_leaves true o p h k = h
  either_leaves false o p h k = k

  ends_leaves : (b : ℕ) (bs : List ℕ) → length bs ≤ n → IfSome (ends (b ∷ bs)) (λ e. length e.rest ≤ n)
  ends_leaves b bs l = by_tests (eqb b 44) (breaks (b ∷ bs))
    where
      by_tests : (s t : Bool) → IfSome {T = End} (cond s (Some (record { stop = Comma; rest = bs })) (cond t (Some (record { stop = LineEnd; rest = drop 1 bs })) None)) (λ e. length e.rest ≤ n)
      by_tests true t = l
      by_tests false true = omega (arith, length-drop 1 bs)
      by_tests false false = tt

  -- a field takes at least one byte
  onward_leaves : (m : Mode) (bs : List ℕ) → length bs ≤ n + 1 → Leaves n (onward m bs)
  onward_leaves Plain [] l = omega arith
  onward_leaves Quoted [] l = tt
  onward_leaves Past [] l = omega arith
  onward_leaves Plain (b ∷ bs) l = ended_leaves (ends (b ∷ bs)) _ (ends_leaves b bs (omega arith)) (either_leaves (eqb b 34) None _ tt (longer_leaves b _ (onward_leaves Plain bs (omega arith))))
  onward_leaves Quoted (b ∷ bs) l = either_leaves (eqb b 34) _ _ (onward_leaves Past bs (omega arith)) (longer_leaves b _ (onward_leaves Quoted bs (omega arith)))
  onward_leaves Past (b ∷ bs) l = ended_leaves (ends (b ∷ bs)) _ (ends_leaves b bs (omega arith)) (either_leaves (eqb b 34) _ None (longer_leaves 34 _ (onward_leaves Quoted bs (omega arith))) tt)

  field_leaves : (bs : List ℕ) → length bs ≤ n + 1 → Leaves n (field bs)
  field_leaves [] l = omega arith
  field_leaves (b ∷ bs) l = either_leaves (eqb b 34) _ _ (onward_leaves Quoted bs (omega arith)) (onward_leaves Plain (b ∷ bs) l)

  -- the record leaves at most n bytes
  abbrev LeavesRecord : Option Three → Type 0
  LeavesRecord o = IfSome o (λ t. length t.rest ≤ n)

  -- what goes on from a field, K, leaves no more than the field does
  abbrev KeepsLeaving : (Option Cut → Option Three) → Type 0
  KeepsLeaving K = (o : Option Cut) → Leaves n o → LeavesRecord (K o)

  next_leaves : (K : Option Cut → Option Three) → KeepsLeaving K → (e : End) → length e.rest ≤ n → LeavesRecord (after_comma e.stop (K (field e.rest)))
  next_leaves K keeps e h = by_stop e.stop
    where
      by_stop : (s : Stop) → LeavesRecord (after_comma s (K (field e.rest)))
      by_stop Comma = keeps (field e.rest) (field_leaves e.rest (omega arith))
      by_stop LineEnd = tt
      by_stop TextEnd = tt

  mark_leaves : (k s : Cut) → KeepsLeaving (with_mark k s)
  mark_leaves k s None h = tt
  mark_leaves k s (Some m) h = by_stop m.end.stop
    where
      by_stop : (stop : Stop) → LeavesRecord (after_last stop (Some (record { kind = k.value; size = s.value; mark = m.value; rest = m.end.rest })))
      by_stop Comma = tt
      by_stop LineEnd = h
      by_stop TextEnd = h

  size_leaves : (k : Cut) → KeepsLeaving (with_size k)
  size_leaves k None h = tt
  size_leaves k (Some s) h = next_leaves (with_mark k s) (mark_leaves k s) s.end h

  kind_leaves : KeepsLeaving with_kind
  kind_leaves None h = tt
  kind_leaves (Some k) h = next_leaves (with_size k) (size_leaves k) k.end h

  front_leaves : (o : Option Three) (e : Front) → LeavesRecord o → front_of o ≡ Ok e → length e.rest ≤ n
  front_leaves None e h is = cc
  front_leaves (Some t) e h is = by_row (row_of t) is
    where
      by_row : (r : Result Row RecordFault) → beside t.rest r ≡ Ok e → length e.rest ≤ n
      by_row (Ok row) is = let same : t.rest ≡ e.rest = cc in omega (arith, ap length same)
      by_row (Err f) is = cc

  header_leaves : (o : Option Three) (left : List ℕ) → LeavesRecord o → Ok left ≡ header_of o → length left ≤ n
  header_leaves None left h is = cc
  header_leaves (Some t) left h is = by_test (is_header t.kind t.size t.mark) is
    where
      by_test : (b : Bool) → Ok left ≡ cond b (Ok t.rest) (Err Shape) → length left ≤ n
      by_test true is = let same : t.rest ≡ left = cc in omega (arith, ap length same)
      by_test false is = cc

pub front_shorter : (bs : List ℕ) (e : Front) → 0 < length bs → front bs ≡ Ok e → length e.rest < length bs
front_shorter bs e some is =
    let n = length bs - 1 in
    let left = front_leaves n (three bs) e (kind_leaves n (field bs) (field_leaves n bs (omega arith))) is in
    omega arith

pub header_shorter : (bs left : List ℕ) → Ok left ≡ header bs → length left ≤ length bs
header_shorter bs left is = header_leaves (length bs) (three bs) left (kind_leaves (length bs) (field bs) (field_leaves (length bs) bs (omega arith))) is
