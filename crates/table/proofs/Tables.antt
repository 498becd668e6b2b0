-- The rows of a text, record by record.
use Rattle.std.proofs.Common.{◌≡◌, ℕ, zero, suc, ◌+◌, ◌-◌, ◌<◌, ◌≤◌, true, List, [], ◌∷◌, ◌++◌, length, take, drop, set, is_ok, Some, None, Ok, Err, Result, sym, refl, ap, ◌∙◌, ⊎_elim, arith}
use Rattle.std.proofs.lemmas.List.{length_push, take_more_set, drop-set-lt, drop-drop, take-append-drop}
use Rattle.std.proofs.lemmas.Bool.{cond-false, cond-true, lt-ltb, le-ltb, true≢false, cases_lt}
use Rattle.job.specs.declared.row.Row.{Row}
use Rattle.table.specs.declared.record.RecordFault.{RecordFault}
use Rattle.table.specs.declared.text.TextFault.{TextFault}
use Rattle.table.specs.declared.text.TextFault.TheVariants.{TooLong, Full}
use Rattle.table.specs.Records.{Front, front, header}
use Rattle.table.specs.Readings.{first_of, next_record}
use Rattle.table.specs.Texts.{on_line, at_line, full_at, prepend, go_on, read_from, after_header, read, counted, written}
use Rattle.table.proofs.Progress.{front_shorter}

-- what `next` gives tells the record at the front
none_left : (bs next : List ℕ) → (None, next) ≡ next_record bs → length bs ≡ 0
none_left [] next h = refl
none_left (b ∷ bs) next h = by_front (front (b ∷ bs)) (ap (λ p. p.0) h)
  where
    by_front : (r : Result Front RecordFault) → None ≡ (first_of r).0 → length (b ∷ bs) ≡ 0
    by_front (Ok e) h = cc
    by_front (Err f) h = cc

row_left : (bs next : List ℕ) (row : Row) → (Some (Ok row), next) ≡ next_record bs → (0 < length bs) × (front bs ≡ Ok (record { row = row; rest = next }))
row_left [] next row h = let e = ap (λ p. p.0) h in cc
row_left (b ∷ bs) next row h = (omega arith, by_front (front (b ∷ bs)) (ap (λ p. p.0) h) (ap (λ p. p.1) h))
  where
    by_front : (r : Result Front RecordFault) → Some (Ok row) ≡ (first_of r).0 → next ≡ (first_of r).1 → r ≡ Ok (record { row = row; rest = next })
    by_front (Ok e) h k = let same : e.row ≡ row = cc in λ i. Ok (record { row = same i; rest = sym k i })
    by_front (Err f) h k = cc

fault_left : (bs next : List ℕ) (f : RecordFault) → (Some (Err f), next) ≡ next_record bs → (0 < length bs) × (front bs ≡ Err f)
fault_left [] next f h = let e = ap (λ p. p.0) h in cc
fault_left (b ∷ bs) next f h = (omega arith, by_front (front (b ∷ bs)) (ap (λ p. p.0) h))
  where
    by_front : (r : Result Front RecordFault) → Some (Err f) ≡ (first_of r).0 → r ≡ Err f
    by_front (Ok e) h = cc
    by_front (Err g) h = cc

pub from_none : (room line : ℕ) (bs : List ℕ) → length bs ≡ 0 → read_from room line bs ≡ Ok []
from_none zero line [] h = refl
from_none (suc room) line [] h = refl
from_none zero line (b ∷ bs) h = absurd (omega arith)
from_none (suc room) line (b ∷ bs) h = absurd (omega arith)

from_bad : (room line : ℕ) (bs : List ℕ) (f : RecordFault) → 0 < length bs → front bs ≡ Err f → read_from room line bs ≡ Err (on_line line f)
from_bad zero line [] f h e = absurd (omega arith)
from_bad (suc room) line [] f h e = absurd (omega arith)
from_bad zero line (b ∷ bs) f h e = ap (full_at line) e
from_bad (suc room) line (b ∷ bs) f h e = ap (λ r. go_on line r (read_from room (line + 1))) e

from_full : (room line : ℕ) (bs : List ℕ) (e : Front) → room ≡ 0 → 0 < length bs → front bs ≡ Ok e → read_from room line bs ≡ Err (Full line)
from_full zero line [] e z h p = absurd (omega arith)
from_full (suc room) line bs e z h p = absurd (omega arith)
from_full zero line (b ∷ bs) e z h p = ap (full_at line) p

pub from_row : (room line : ℕ) (bs : List ℕ) (e : Front) → 0 < length bs → front bs ≡ Ok e → read_from (suc room) line bs ≡ prepend e.row (read_from room (line + 1) e.rest)
from_row room line [] e h p = absurd (omega arith)
from_row room line (b ∷ bs) e h p = ap (λ r. go_on line r (read_from room (line + 1))) p

too_long : (room : ℕ) (t : List ℕ) → 65536 < length t → read room t ≡ Err TooLong
too_long room t h = cond-true _ _ _ (lt-ltb 65536 (length t) h)

past_header : (room : ℕ) (t : List ℕ) → length t ≤ 65536 → read room t ≡ after_header room (header t)
past_header room t short = cond-false _ _ _ (le-ltb 65536 (length t) short)

-- rows before others
abbrev prepend_all : List Row → Result (List Row) TextFault → Result (List Row) TextFault
prepend_all [] r = r
prepend_all (x ∷ xs) r = prepend x (prepend_all xs r)

prepend_push : (xs : List Row) (x : Row) (r : Result (List Row) TextFault) → prepend_all (xs ++ x ∷ []) r ≡ prepend_all xs (prepend x r)
prepend_push [] x r = refl
prepend_push (y ∷ xs) x r = ap (prepend y) (prepend_push xs x r)

prepend_fault : (xs : List Row) (f : TextFault) → prepend_all xs (Err f) ≡ Err f
prepend_fault [] f = refl
prepend_fault (x ∷ xs) f = ap (prepend x) (prepend_fault xs f)

prepend_none : (xs : List Row) → prepend_all xs (Ok []) ≡ Ok xs
prepend_none [] = refl
prepend_none (x ∷ xs) = ap (prepend x) (prepend_none xs)

-- the n rows xs are read, and the text goes on as left
pub record Sofar (room : ℕ) (t left : List ℕ) (n : ℕ) (xs : List Row) : Type 0 where
  pub len : length xs ≡ n
  pub all : read room t ≡ prepend_all xs (read_from (room - n) (n + 2) left)

pub sofar_start : (room : ℕ) (t left : List ℕ) → length t ≤ 65536 → Ok left ≡ header t → Sofar room t left 0 []
sofar_start room t left short h = record {
  len = refl;
  all = let same : room ≡ room - 0 = omega arith in past_header room t short ∙ ap (after_header room) (sym h) ∙ ap (λ r. read_from r 2 left) same;
}

module _ {room : ℕ} {t left : List ℕ} {n : ℕ} {xs : List Row} (so : Sofar room t left n xs) where
  pub sofar_end : {next : List ℕ} → (None, next) ≡ next_record left → read room t ≡ Ok xs
  sofar_end {next} none = so.all ∙ ap (prepend_all xs) (from_none (room - n) (n + 2) left (none_left left next none)) ∙ prepend_none xs

  -- one more record gives r, and the text goes on as next
  module _ {next : List ℕ} {r : Result Row RecordFault} (given : (Some r, next) ≡ next_record left) where
    pub sofar_bad : (f : RecordFault) → r ≡ Err f → read room t ≡ Err (on_line (n + 2) f)
    sofar_bad f bad = let p = fault_left left next f (ap (λ r. (Some r, next)) (sym bad) ∙ given) in so.all ∙ ap (prepend_all xs) (from_bad (room - n) (n + 2) left f p.0 p.1) ∙ prepend_fault xs _

    module _ {row : Row} (ok : r ≡ Ok row) where
      front_is : (0 < length left) × (front left ≡ Ok (record { row = row; rest = next }))
      front_is = row_left left next row (ap (λ r. (Some r, next)) (sym ok) ∙ given)

      pub less_left : length next < length left
      less_left = front_shorter left _ front_is.0 front_is.1

      pub sofar_full : room ≤ n → read room t ≡ Err (Full (n + 2))
      sofar_full over = so.all ∙ ap (prepend_all xs) (from_full (room - n) (n + 2) left _ (omega arith) front_is.0 front_is.1) ∙ prepend_fault xs _

      pub sofar_more : n < room → Sofar room t next (n + 1) (xs ++ row ∷ [])
      sofar_more more = record {
        len = length_push xs row ∙ ap (λ k. k + 1) so.len;
        all =
            let one : room - n ≡ suc (room - (n + 1)) = omega arith in
            let line : n + 2 + 1 ≡ n + 1 + 2 = omega arith in
            so.all ∙ ap (λ r. prepend_all xs (read_from r (n + 2) left)) one
            ∙ ap (prepend_all xs) (from_row (room - (n + 1)) (n + 2) left _ front_is.0 front_is.1 ∙ ap (λ k. prepend row (read_from (room - (n + 1)) k next)) line)
            ∙ sym (prepend_push xs row _);
      }

-- what a result on a line was before
pub was_ok : {X : Type 0} (line : ℕ) (r : Result X RecordFault) (x : X) → Ok x ≡ at_line line r → r ≡ Ok x
was_ok line (Ok y) x h = cc
was_ok line (Err f) x h = cc

pub was_err : {X : Type 0} (line : ℕ) (r : Result X RecordFault) (g : TextFault) → Err g ≡ at_line line r → (f : RecordFault) × (r ≡ Err f) × (g ≡ on_line line f)
was_err line (Ok y) g h = cc
was_err line (Err f) g h = (f, refl, cc)

-- where the whole text is read, none of this is met
module _ (room : ℕ) (t : List ℕ) (ok : is_ok (read room t) ≡ true) where
  pub no_fault : (f : TextFault) → read room t ≡ Err f → ⊥
  no_fault f h = true≢false (sym ok ∙ ap is_ok h)

  pub read_short : length t ≤ 65536
  read_short = ⊎_elim (λ h. absurd (no_fault TooLong (too_long room t h))) (λ h. h) (cases_lt 65536 (length t))

  pub room-left : {left next : List ℕ} {n : ℕ} {xs : List Row} {r : Result Row RecordFault} {row : Row} → Sofar room t left n xs → (Some r, next) ≡ next_record left → r ≡ Ok row → n < room
  room-left {n = n} so given ok = ⊎_elim (λ l. l) (λ over. absurd (no_fault _ (sofar_full so given ok over))) (cases_lt n room)

-- the row table, with the rows of the text so far
pub filled_more : (rows old : List Row) (n i m : ℕ) (row : Row) → i ≡ n → m ≡ n + 1 → n < length rows → drop n rows ≡ drop n old → (take m (set rows i row) ≡ take n rows ++ row ∷ []) × (drop m (set rows i row) ≡ drop m old)
filled_more rows old n i m row at next h e = (
  (λ j. take (next j) (set rows (at j) row)) ∙ take_more_set rows n row h,
  (λ j. drop (next j) (set rows (at j) row)) ∙ drop-set-lt (n + 1) rows n row (omega arith) ∙ sym (drop-drop 1 n rows) ∙ ap (drop 1) e ∙ drop-drop 1 n old ∙ ap (λ k. drop k old) (sym next),
)

pub filled_all : (rows old xs : List Row) (n : ℕ) (r : Result (List Row) TextFault) → xs ≡ take n rows → length xs ≡ n → drop n rows ≡ drop n old → r ≡ Ok xs → rows ≡ written r old
filled_all rows old xs n r front len back e =
    sym (take-append-drop n rows) ∙ (λ i. sym front i ++ back i) ∙ ap (λ k. xs ++ drop k old) (sym len) ∙ sym (ap (λ r. written r old) e)

-- a count tells whether the rows were read
pub counted_ok : (r : Result (List Row) TextFault) (n : ℕ) → Ok n ≡ counted r → is_ok r ≡ true
counted_ok (Ok xs) n h = refl
counted_ok (Err f) n h = cc

pub counted_err : (r : Result (List Row) TextFault) (f : TextFault) (old : List Row) → Err f ≡ counted r → old ≡ written r old
counted_err (Ok xs) f old h = cc
counted_err (Err g) f old h = refl
