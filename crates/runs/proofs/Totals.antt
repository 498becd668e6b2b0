-- Total records that are put one after the other. Assumes nothing.
use Rattle.std.proofs.Common.{◌≡◌, ℕ, zero, suc, ◌∷◌, [], drop, ◌+◌, ◌*◌, ◌<◌, ◌≤◌, true, false, List, ◌++◌, length, get_or, decimal, sym, ap, ◌∙◌, append-nil, add-one, subst, Ok, arith, length-append}
use Rattle.std.proofs.lemmas.Bool.{cond-true, cond-false}
use Rattle.std.proofs.lemmas.Fmt.{length-decimal-le}
use Rattle.job.specs.declared.row.Row.{Row}
use Rattle.job.specs.Rows.{row, is_finish}
use Rattle.total.specs.Counts.{number, count_text}
use Rattle.total.specs.Outputs.{put, put_end}
use Rattle.total.specs.declared.count.Count.{Count}
use Rattle.total.proofs.Outputs.{Laid, laid_none, laid_more}
use Rattle.table.specs.RunTables.{total_record}
use Rattle.runs.specs.Reports.{records_below, line_text}

length_total : (row : ℕ) (text : List ℕ) → length (total_record row text) ≡ (12 + length (decimal row)) + length text
length_total row text = simp length-append (omega arith)

-- a number of the machine has at most 20 digits
digits_few : (n : ℕ) → n < 18446744073709551616 → length (decimal n) ≤ 20
digits_few n l = length-decimal-le 20 n (omega arith) (omega arith) l

-- the record of a count has at most 52 bytes
pub record_few : (r : ℕ) (c : Count) → r < 18446744073709551616 → length (total_record r (count_text c)) ≤ 52
record_few r c l =
    omega (arith, length_total r (count_text c), digits_few r l, digits_few (number c.value).value (number c.value).within)

-- the records of the rows below k are put
pub record Sofar (rows : List Row) (book : List Count) (out : List ℕ) (at : ℕ) (after : List ℕ) (end k : ℕ) : Type 0 where
  pub laid : Laid out at (records_below rows (line_text book) k) after end
  pub few : length (records_below rows (line_text book) k) ≤ 52 * k

module _ (rows : List Row) (book : List Count) (out : List ℕ) (at : ℕ) (room : at + 52 * length rows ≤ length out) where
  abbrev recs : ℕ → List ℕ
  recs k = records_below rows (line_text book) k

  pub sofar_none : Sofar rows book out at out at 0
  sofar_none = record { laid = laid_none out at; few = omega arith }

  module _ (mid : List ℕ) (m k : ℕ) (sofar : Sofar rows book out at mid m k) where
    pub sofar_finish : (after : List ℕ) (end : ℕ) → k < length rows → k < 18446744073709551616 → is_finish (row rows k) ≡ true → Ok end ≡ put_end mid m (total_record k (line_text book k)) → after ≡ put mid m (total_record k (line_text book k)) → Sofar rows book out at after end (k + 1)
    sofar_finish after end l fits y e a =
        let line = total_record k (line_text book k) in
        let more : recs (k + 1) ≡ recs k ++ line = ap recs (add-one k) ∙ ap (λ x. recs k ++ x) (cond-true (is_finish (row rows k)) _ _ y) in
        let long = length-append (recs k) line in
        let few = record_few k (get_or book k (record { value = 0 })) fits in
        record {
          laid = subst (λ xs. Laid out at xs after end) (sym more) (laid_more sofar.laid line (omega (arith, sofar.few)) after end e a);
          few = omega (arith, sofar.few, ap length more);
        }

    pub sofar_other : is_finish (row rows k) ≡ false → Sofar rows book out at mid m (k + 1)
    sofar_other n =
        let same : recs (k + 1) ≡ recs k = ap recs (add-one k) ∙ ap (λ x. recs k ++ x) (cond-false (is_finish (row rows k)) _ _ n) ∙ append-nil (recs k) in
        record { laid = subst (λ xs. Laid out at xs mid m) (sym same) sofar.laid; few = omega (arith, sofar.few, ap length same) }

-- what is left of a list begins with its next element
front_of : {X : Type 0} (xs : List X) (k : ℕ) (x : X) (ys : List X) (d : X) → drop k xs ≡ x ∷ ys → (k < length xs) × (x ≡ get_or xs k d) × (ys ≡ drop (suc k) xs)
front_of [] zero x ys d e = cc
front_of [] (suc k) x ys d e = cc
front_of (z ∷ xs) zero x ys d e = (omega arith, cc, cc)
front_of (z ∷ xs) (suc k) x ys d e = let r = front_of xs k x ys d e in (omega (arith, r.0), r.1, r.2)

-- an element is taken off what is left of a list
pub taken : {X : Type 0} (xs rest : List X) (k next : ℕ) (x : X) (ys : List X) (d : X) → rest ≡ drop k xs → rest ≡ x ∷ ys → next ≡ k + 1 → (k < length xs) × (x ≡ get_or xs k d) × (ys ≡ drop next xs)
taken xs rest k next x ys d l e n =
    let r = front_of xs k x ys d (sym l ∙ e) in
    (r.0, r.1, r.2 ∙ ap (λ j. drop j xs) (sym (n ∙ add-one k)))
