-- A book that is filled in from the last row to the first. Assumes nothing.
use Rattle.std.proofs.Common.{◌≡◌, ℕ, zero, suc, ◌+◌, ◌-◌, ◌<◌, ◌≤◌, true, false, eqb, leb, ◌≢◌, ◌⊎◌, List, [], ◌∷◌, map, length, get_or, set, sym, refl, ap, ◌∙◌, subst, inl, inr, ⊎_elim, arith}
use Rattle.std.proofs.lemmas.List.{get_or-set_same, get_or-set_other, length-set, length-map, ext_get_or, map-set}
use Rattle.std.proofs.lemmas.Bool.{cond-true, cond-false, cases_Bool, cases_lt, cases_eq, or_left, or_right, or_cases, leb-true, le-leb, ne_eqb, both_ways}
use Rattle.job.specs.declared.row.Row.{Row}
use Rattle.job.specs.Rows.{row, is_work, is_finish, is_async}
use Rattle.job.specs.Lawful.{Lawful}
use Rattle.job.proofs.LawfulRows.{work_from}
use Rattle.total.specs.Books.{keeps_line}
use Rattle.total.specs.Serial.{line_of, gathered, serial, filled_line, filled}
use Rattle.total.proofs.Filled.{length-filled, filled_at, filled_past}
use Rattle.total.proofs.Gathering.{own-near, gathered_same}
use Rattle.total.proofs.SerialLaws.{serial_rule}

same_line : {K M : Type 0} (meaning : K → M) (nothing : M) (xs ys : List K) (k : ℕ) → length xs ≡ length ys → ((d : K) → get_or xs k d ≡ get_or ys k d) → get_or (map meaning xs) k nothing ≡ get_or (map meaning ys) k nothing
same_line meaning nothing [] [] k long e = refl
same_line meaning nothing [] (y ∷ ys) k long e = absurd (omega arith)
same_line meaning nothing (x ∷ xs) [] k long e = absurd (omega arith)
same_line meaning nothing (x ∷ xs) (y ∷ ys) zero long e = ap meaning (e x)
same_line meaning nothing (x ∷ xs) (y ∷ ys) (suc k) long e = same_line meaning nothing xs ys k (omega arith) e

module _ {K M : Type 0} (meaning : K → M) (nothing : M) (join : M → M → M) (seal : ℕ → M → M) (rows : List Row) (old : List K) where
  abbrev line : List K → ℕ → M
  line book = line_of nothing (map meaning book)

  -- rows from i on are filled in, and the lines before them, of work rows and past the job are the old ones
  pub record Sofar (book : List K) (i : ℕ) : Type 0 where
    pub long : length book ≡ length old
    pub totals : (k : ℕ) → i ≤ k → k < length rows → is_finish (row rows k) ≡ true → line book k ≡ serial nothing join seal rows (line old) k
    pub nothings : (k : ℕ) → i ≤ k → k < length rows → is_async (row rows k) ≡ true → line book k ≡ nothing
    pub others : (k : ℕ) (d : K) → (k < i) ⊎ (keeps_line rows k ≡ true) → get_or book k d ≡ get_or old k d

  pub sofar_none : Sofar old (length rows)
  sofar_none =
      record {
        long = refl;
        totals = λ k l m y. absurd (omega arith);
        nothings = λ k l m y. absurd (omega arith);
        others = λ k d w. refl;
      }

  line_kept : (book : List K) (k : ℕ) → length book ≡ length old → ((d : K) → get_or book k d ≡ get_or old k d) → line book k ≡ line old k
  line_kept book k long e = same_line meaning nothing book old k long e

  -- a finish row's total is gathered from the lines after it, all of which stand already
  pub gathered_is : (book : List K) (f : ℕ) → Sofar book (f + 1) → f < length rows → is_finish (row rows f) ≡ true → gathered nothing join seal rows (line book) f (length rows) ≡ serial nothing join seal rows (line old) f
  gathered_is book f so l y =
      gathered_same nothing join seal rows _ _ f (length rows) (λ r m own-r brings.
      let near = own-near rows f r own-r in
      ⊎_elim
      (λ fin. so.totals r (omega (arith, near.before)) m fin ∙ sym (cond-true (is_finish (row rows r)) _ _ fin))
      (λ nf.
      line_kept book r so.long (λ d. so.others r d (inr (or_right (leb (length rows) r) (is_work (row rows r)) (⊎_elim (λ w. w) (λ fin. absurd (both_ways (is_finish (row rows r)) nf fin)) brings))))
      ∙ sym (cond-false (is_finish (row rows r)) _ _ nf))
      (cases_Bool (is_finish (row rows r))))
      ∙ sym (serial_rule nothing join seal rows (line old) f l y)

  -- after a turn at row r that writes the line v, or none
  module _ (book : List K) (r : ℕ) (so : Sofar book (r + 1)) (inside : r < length rows) (room : length rows ≤ length old) where
    line_set : (v : K) → line (set book r v) r ≡ meaning v
    line_set v =
        ap (λ xs. get_or xs r nothing) (map-set meaning book r v)
        ∙ get_or-set_same (map meaning book) r (meaning v) nothing (simp length-map (omega (arith, so.long)))

    line_unset : (v : K) (k : ℕ) → k ≢ r → line (set book r v) k ≡ line book k
    line_unset v k ne =
        ap (λ xs. get_or xs k nothing) (map-set meaning book r v) ∙ get_or-set_other (map meaning book) r k (meaning v) nothing ne

    pub sofar_write : (v : K) → (is_finish (row rows r) ≡ true → meaning v ≡ serial nothing join seal rows (line old) r) → (is_async (row rows r) ≡ true → meaning v ≡ nothing) → is_work (row rows r) ≡ false → Sofar (set book r v) r
    sofar_write v fin asy not-work =
        record {
          long = length-set book r v ∙ so.long;
          totals = λ k l m y. ⊎_elim
              (λ same. subst (λ j. line (set book r v) j ≡ serial nothing join seal rows (line old) j) (sym same) (line_set v ∙ fin (subst (λ j. is_finish (row rows j) ≡ true) same y)))
              (λ other. line_unset v k other ∙ so.totals k (omega arith) m y)
              (cases_eq k r);
          nothings = λ k l m y. ⊎_elim
              (λ same. subst (λ j. line (set book r v) j ≡ nothing) (sym same) (line_set v ∙ asy (subst (λ j. is_async (row rows j) ≡ true) same y)))
              (λ other. line_unset v k other ∙ so.nothings k (omega arith) m y)
              (cases_eq k r);
          others = λ k d w. let ne : k ≢ r = apart k w in get_or-set_other book r k v d ne ∙ so.others k d (⊎_elim (λ l. inl (omega arith)) inr w);
        }
      where
        apart : (k : ℕ) → (k < r) ⊎ (keeps_line rows k ≡ true) → k ≢ r
        apart k w same =
            ⊎_elim
            (λ l. omega arith)
            (λ keep. ⊎_elim
            (λ far. omega (arith, leb-true (length rows) k far))
            (λ work. both_ways (is_work (row rows r)) not-work (subst (λ j. is_work (row rows j) ≡ true) same work))
            (or_cases (leb (length rows) k) (is_work (row rows k)) keep))
            w

  -- the turns of the loop, at row i - 1, by the kind of the row that was read
  module _ (book : List K) (i : ℕ) (so : Sofar book i) (some : 0 < i) (low : i ≤ length rows) (room : length rows ≤ length old) (x : Row) (is : x ≡ row rows (i - 1)) where
    here : Sofar book (i - 1 + 1)
    here = let back : i ≡ i - 1 + 1 = omega arith in subst (Sofar book) back so

    kind_not : (n : ℕ) → (x.kind ≡ n → ⊥) → eqb (row rows (i - 1)).kind n ≡ false
    kind_not n ne = ne_eqb (row rows (i - 1)).kind n (λ e. ne (ap (λ (y : Row). y.kind) is ∙ e))

    pub turn_finish : x.kind ≡ 1 → (v : K) → meaning v ≡ gathered nothing join seal rows (line book) (i - 1) (length rows) → Sofar (set book (i - 1) v) (i - 1)
    turn_finish e v m =
        sofar_write book (i - 1) here (omega arith) room v
        (λ y. m ∙ gathered_is book (i - 1) here (omega arith) y)
        (λ y. absurd (both_ways (eqb (row rows (i - 1)).kind 2) (kind_not 2 (λ e'. omega arith)) y))
        (kind_not 0 (λ e'. omega arith))

    pub turn_async : x.kind ≡ 2 → (v : K) → meaning v ≡ nothing → Sofar (set book (i - 1) v) (i - 1)
    turn_async e v m =
        sofar_write book (i - 1) here (omega arith) room v
        (λ y. absurd (both_ways (eqb (row rows (i - 1)).kind 1) (kind_not 1 (λ e'. omega arith)) y))
        (λ y. m)
        (kind_not 0 (λ e'. omega arith))

  pub sofar_same : (book : List K) → Sofar book 0 → (k : ℕ) (d : K) → keeps_line rows k ≡ true → get_or book k d ≡ get_or old k d
  sofar_same book so k d keep = so.others k d (inr keep)

  pub sofar_all : (book : List K) → Lawful rows → length rows ≤ length old → Sofar book 0 → map meaning book ≡ filled nothing join seal rows (map meaning old)
  sofar_all book law room so =
      ext_get_or nothing (map meaning book) (filled nothing join seal rows (map meaning old))
      (length-map book meaning ∙ so.long ∙ sym (length-map old meaning) ∙ sym (length-filled nothing join seal rows (map meaning old) (simp length-map room)))
      (λ k l. ⊎_elim (λ m. in_job k m ∙ sym (filled_at nothing join seal rows (map meaning old) k m)) (λ m. past_job k m ∙ sym (filled_past nothing join seal rows (map meaning old) k m)) (cases_lt k (length rows)))
    where
      past_job : (k : ℕ) → length rows ≤ k → line book k ≡ line old k
      past_job k m = line_kept book k so.long (λ d. so.others k d (inr (or_left (leb (length rows) k) (is_work (row rows k)) (le-leb (length rows) k m))))

      in_job : (k : ℕ) → k < length rows → line book k ≡ filled_line nothing join seal rows (line old) k
      in_job k m =
          ⊎_elim
          (λ fin. so.totals k (omega arith) m fin ∙ sym (cond-true (is_finish (row rows k)) _ _ fin))
          (λ nf. ⊎_elim
          (λ asy. so.nothings k (omega arith) m asy ∙ sym (cond-true (is_async (row rows k)) _ _ asy) ∙ sym (cond-false (is_finish (row rows k)) _ _ nf))
          (λ na.
          line_kept book k so.long (λ d. so.others k d (inr (or_right (leb (length rows) k) (is_work (row rows k)) (work_from rows k (law.each k m) nf na))))
          ∙ sym (cond-false (is_async (row rows k)) _ _ na)
          ∙ sym (cond-false (is_finish (row rows k)) _ _ nf))
          (cases_Bool (is_async (row rows k))))
          (cases_Bool (is_finish (row rows k)))
