-- Why a finish row before chunks makes a lawful job. Assumes nothing.
use Rattle.std.proofs.Common.{◌≡◌, ℕ, zero, suc, ◌+◌, ◌-◌, ◌<◌, ◌≤◌, min, Bool, true, false, cond, ◌&&◌, ltb, List, [], ◌∷◌, length, replicate, Some, sum, count_by, sym, refl, ap, ◌∙◌, ⊎_elim, add-one, arith}
use Rattle.std.specs.List.{range_with_len, flat_map, AllByRecursion as All}
use Rattle.std.proofs.lemmas.List.{map-id}
use Rattle.std.proofs.lemmas.List.FromFn.{sum_by-map-range_with_len_more}
use Rattle.std.proofs.lemmas.List.Sums.{sum_by-append, sum_by-cons}
use Rattle.std.proofs.lemmas.Bool.{true≢false, both_ways, and_from, and_left, and_right, eq-eqb, le-leb, le-ltb, cases_lt, cond-true, cond-false}
use Rattle.job.specs.declared.row.Row.{Row}
use Rattle.job.specs.Rows.{most_rows, row, is_work, is_async, end, encloses, nearest}
use Rattle.job.specs.Lawful.{known_kind, own_shape, whole_job, lawful_row}
use Rattle.job.specs.Loops.{work_row, finish_row, chunk_rows, works_inside, LoopJob}
use Rattle.job.proofs.Chunks.{Holds, Chunk, by_chunk}
use Rattle.job.proofs.Enclosing.{around-some, encloses_from, encloses_is}
use Rattle.job.proofs.LawfulRows.{first-lawful, later_lawful}

-- a later row is lawful by its kind, its shape and its end
lawful_by : (rows : List Row) (r p : ℕ) → 0 < r → known_kind (row rows r) ≡ true → own_shape (row rows r) ≡ true → nearest rows r ≡ Some p → end rows r ≤ end rows p → lawful_row rows r ≡ true
lawful_by rows r p later known shape near ends =
    sym (later_lawful rows r p later near)
    ∙ and_from (known_kind (row rows r)) _ known (and_from (own_shape (row rows r)) _ shape (le-leb (end rows r) (end rows p) ends))

count_more : (t : ℕ → Bool) (n : ℕ) → count_by t (range_with_len 0 (suc n)) ≡ count_by t (range_with_len 0 n) + cond (t n) 1 0
count_more t n =
    ap (λ k. count_by t (range_with_len 0 k)) (sym (add-one n))
    ∙ ap (count_by t) (sym (map-id (range_with_len 0 (n + 1))))
    ∙ sum_by-map-range_with_len_more (λ k. cond (t k) 1 0) (λ k. k) 0 n n (omega arith)
    ∙ ap (λ l. count_by t l + cond (t n) 1 0) (map-id (range_with_len 0 n))

-- how many numbers below n pass a test that all from lo up to hi pass, and no others
count_between : (t : ℕ → Bool) (lo hi n : ℕ) → ((k : ℕ) → lo ≤ k → k < hi → t k ≡ true) → ((k : ℕ) → k < lo → t k ≡ false) → ((k : ℕ) → hi ≤ k → t k ≡ false) → count_by t (range_with_len 0 n) ≡ min n hi - lo
count_between t lo hi zero inside before after = omega arith
count_between t lo hi (suc n) inside before after =
    let sofar = count_between t lo hi n inside before after in
    let one = count_more t n in
    ⊎_elim
    (λ l. omega (arith, cond-false {A = ℕ} (t n) 1 0 (before n l)))
    (λ l. ⊎_elim (λ m. omega (arith, cond-true {A = ℕ} (t n) 1 0 (inside n l m))) (λ m. omega (arith, cond-false {A = ℕ} (t n) 1 0 (after n m))) (cases_lt n hi))
    (cases_lt n lo)

works_chunk : (n : ℕ) → count_by is_work (replicate n work_row) ≡ n
works_chunk zero = refl
works_chunk (suc n) = sum_by-cons (λ x. cond (is_work x) 1 0) work_row (replicate n work_row) ∙ omega (arith, works_chunk n)

works_all : (ns : List ℕ) → count_by is_work (flat_map chunk_rows ns) ≡ sum ns
works_all [] = refl
works_all (n ∷ ns) =
    sum_by-append (λ x. cond (is_work x) 1 0) (chunk_rows n) (flat_map chunk_rows ns)
    ∙ sym (sum_by-cons (λ k. k) n ns ∙ omega (arith, works_chunk n, works_all ns))

module _ (c : ℕ) (ns : List ℕ) (held : All (Holds c) ns) where
  abbrev body : List Row
  body = flat_map chunk_rows ns

  abbrev rows : List Row
  rows = finish_row (length body) ∷ body

  end-first : end rows 0 ≡ length rows
  unfolding end
  end-first = omega arith

  end_start : (s n : ℕ) → Chunk body c s n → end rows (suc s) ≡ suc (suc s) + n
  unfolding end
  end_start s n h = ap (λ (x : Row). suc s + x.size) h.start ∙ omega arith

  end_inner : (s n q : ℕ) → Chunk body c s n → s < q → q ≤ s + n → end rows (suc q) ≡ suc (suc q)
  unfolding end
  end_inner s n q h l m = ap (λ (x : Row). suc q + x.size) (h.inner q l m) ∙ omega arith

  -- what comes before a chunk has ended where it begins
  ends-before : (s n : ℕ) → Chunk body c s n → (q : ℕ) → q < s → end rows (suc q) ≤ suc s
  ends-before s n h q l =
      by_chunk c ns held (λ p. p < s → end rows (suc p) ≤ suc s)
      (λ u m k l. omega (arith, end_start u m k, apart u m k l))
      (λ u m p k a b l. omega (arith, end_inner u m p k a b))
      q (omega (arith, h.fits)) l
    where
      apart : (u m : ℕ) → Chunk body c u m → u < s → u + m < s
      apart u m k l =
          ⊎_elim
          (λ less. less)
          (λ more. let wrong = ap (λ (x : Row). x.kind) (sym (k.inner s l more) ∙ h.start) in absurd (omega arith))
          (cases_lt (u + m) s)

  nearest_start : (s n : ℕ) → Chunk body c s n → nearest rows (suc s) ≡ Some 0
  nearest_start s n h =
      around-some rows (λ k. true) (suc s) 0 (record {
        before = omega arith;
        reaches = omega (arith, end-first, h.fits);
        sorted = refl;
        between = between;
      })
    where
      between : (k : ℕ) → 0 < k → k < suc s → true ≡ true → end rows k ≤ suc s
      between zero l m y = absurd (omega arith)
      between (suc q) l m y = ends-before s n h q (omega arith)

  nearest_inner : (s n q : ℕ) → Chunk body c s n → s < q → q ≤ s + n → nearest rows (suc q) ≡ Some (suc s)
  nearest_inner s n q h l m =
      around-some rows (λ k. true) (suc q) (suc s) (record {
        before = omega arith;
        reaches = omega (arith, end_start s n h);
        sorted = refl;
        between = between;
      })
    where
      between : (k : ℕ) → suc s < k → k < suc q → true ≡ true → end rows k ≤ suc q
      between zero l m y = absurd (omega arith)
      between (suc j) u v y = omega (arith, end_inner s n j h (omega arith) (omega arith))

  lawful_start : (s n : ℕ) → Chunk body c s n → lawful_row rows (suc s) ≡ true
  lawful_start s n h =
      lawful_by rows (suc s) 0 (omega arith)
      (ap known_kind h.start ∙ le-leb 1 (1 + n) (omega arith))
      (ap own_shape h.start)
      (nearest_start s n h)
      (omega (arith, end-first, end_start s n h, h.fits))

  lawful_inner : (s n q : ℕ) → Chunk body c s n → s < q → q ≤ s + n → lawful_row rows (suc q) ≡ true
  lawful_inner s n q h l m =
      lawful_by rows (suc q) (suc s) (omega arith)
      (ap known_kind (h.inner q l m))
      (ap own_shape (h.inner q l m))
      (nearest_inner s n q h l m)
      (omega (arith, end_start s n h, end_inner s n q h l m))

  each : (r : ℕ) → r < length rows → lawful_row rows r ≡ true
  each zero l =
      sym (first-lawful rows)
      ∙ and_from (whole_job rows) _ (eq-eqb (1 + length body) (length rows) (omega arith)) (and_from (known_kind (row rows 0)) (own_shape (row rows 0)) (le-leb 1 (1 + length body) (omega arith)) refl)
  each (suc p) l = by_chunk c ns held (λ q. lawful_row rows (suc q) ≡ true) lawful_start lawful_inner p (omega arith)

  -- the async row of a chunk encloses its work rows
  module _ (s n : ℕ) (h : Chunk body c s n) where
    only_works_start : (r : ℕ) → encloses rows (suc s) r ≡ true → is_work (row rows r) ≡ true
    only_works_start zero e = absurd (omega (arith, encloses_is rows (suc s) 0 e))
    only_works_start (suc q) e =
        let in-s = encloses_is rows (suc s) (suc q) e in
        ap is_work (h.inner q (omega arith) (omega (arith, end_start s n h)))

    works_start : works_inside rows (suc s) ≡ n
    works_start =
        count_between (λ r. encloses rows (suc s) r && is_work (row rows r)) (suc (suc s)) (suc (suc s) + n) (length rows) inside before after
        ∙ omega (arith, h.fits)
      where
        inside : (k : ℕ) → suc (suc s) ≤ k → k < suc (suc s) + n → (encloses rows (suc s) k && is_work (row rows k)) ≡ true
        inside k l m =
            let e = encloses_from rows (suc s) k l (omega (arith, end_start s n h)) in
            and_from (encloses rows (suc s) k) (is_work (row rows k)) e (only_works_start k e)

        before : (k : ℕ) → k < suc (suc s) → (encloses rows (suc s) k && is_work (row rows k)) ≡ false
        before k l = and_left (encloses rows (suc s) k) (is_work (row rows k)) (and_left (ltb (suc s) k) (ltb k (end rows (suc s))) (le-ltb (suc s) k (omega arith)))

        after : (k : ℕ) → suc (suc s) + n ≤ k → (encloses rows (suc s) k && is_work (row rows k)) ≡ false
        after k l = and_left (encloses rows (suc s) k) (is_work (row rows k)) (and_right (ltb (suc s) k) (ltb k (end rows (suc s))) (le-ltb k (end rows (suc s)) (omega (arith, end_start s n h))))

  -- an async row begins a chunk
  by_async : (P : ℕ → Type 0) → ((s n : ℕ) → Chunk body c s n → P (suc s)) → (a : ℕ) → a < length rows → is_async (row rows a) ≡ true → P a
  by_async P start zero l e = absurd (true≢false (sym e))
  by_async P start (suc p) l e =
      by_chunk c ns held (λ q. is_async (row body q) ≡ true → P (suc q))
      (λ s n h y. start s n h)
      (λ s n q h u v y. absurd (both_ways (is_async (row body q)) (ap is_async (h.inner q u v)) y))
      p (omega arith) e

  pub chunks_job : length rows ≤ most_rows → LoopJob rows (sum ns) c
  chunks_job few = record {
    lawful = record { some = omega arith; few = few; each = each };
    works = works_all ns;
    only_works = λ a r l e. by_async (λ k. encloses rows k r ≡ true → is_work (row rows r) ≡ true) (λ s n h. only_works_start s n h r) a l e;
    some = by_async (λ a. 1 ≤ works_inside rows a) (λ s n h. omega (arith, works_start s n h, h.holds));
    few = by_async (λ a. works_inside rows a ≤ c) (λ s n h. omega (arith, works_start s n h, h.holds));
  }
