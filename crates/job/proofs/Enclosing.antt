-- Enclosing rows as facts about numbers. Assumes nothing.
use Rattle.std.proofs.Common.{◌≡◌, ℕ, ◌<◌, ◌≤◌, Bool, true, false, ◌&&◌, ltb, List, Some, None, ⊎_elim}
use Rattle.std.proofs.lemmas.Bool.{lt-ltb, le-ltb, ltb-true, and_from, and_parts, and_left, and_right, and_cases, cases_lt, cases_Bool, both_ways}
use Rattle.job.specs.declared.row.Row.{Row}
use Rattle.job.specs.Rows.{end, encloses, around}
use Rattle.job.proofs.Below.{last_some, last_none, last_is, last_is_none}

module _ (rows : List Row) where
  pub encloses_from : (p r : ℕ) → p < r → r < end rows p → encloses rows p r ≡ true
  encloses_from p r l m = and_from (ltb p r) (ltb r (end rows p)) (lt-ltb p r l) (lt-ltb r (end rows p) m)

  pub encloses_is : (p r : ℕ) → encloses rows p r ≡ true → (p < r) × (r < end rows p)
  encloses_is p r e =
      let both = and_parts (ltb p r) (ltb r (end rows p)) e in
      (ltb-true p r both.0, ltb-true r (end rows p) both.1)

  -- of rows of a sort, p is around r and none after p is
  pub record Nearest (sort : ℕ → Bool) (r p : ℕ) : Type 0 where
    pub before : p < r
    pub reaches : r < end rows p
    pub sorted : sort p ≡ true
    pub between : (q : ℕ) → p < q → q < r → sort q ≡ true → end rows q ≤ r

  module _ (sort : ℕ → Bool) where
    pub around-some : (r p : ℕ) → Nearest sort r p → around rows sort r ≡ Some p
    unfolding around
    around-some r p h =
        last_some (λ q. sort q && encloses rows q r) r p (record {
          below = h.before;
          passes = and_from (sort p) (encloses rows p r) h.sorted (encloses_from p r h.before h.reaches);
          after = λ q l m. ⊎_elim
              (λ y. and_right (sort q) (encloses rows q r) (and_right (ltb q r) (ltb r (end rows q)) (le-ltb r (end rows q) (h.between q l m y))))
              (λ n. and_left (sort q) (encloses rows q r) n)
              (cases_Bool (sort q));
        })

    pub around_is : (r p : ℕ) → around rows sort r ≡ Some p → Nearest sort r p
    unfolding around
    around_is r p e =
        let l = last_is (λ q. sort q && encloses rows q r) r p e in
        let both = and_parts (sort p) (encloses rows p r) l.passes in
        let in_p = encloses_is p r both.1 in
        record {
          before = in_p.0;
          reaches = in_p.1;
          sorted = both.0;
          between = λ q u v y. outside q v (⊎_elim (λ n. absurd (both_ways (sort q) n y)) (λ n. n) (and_cases (sort q) (encloses rows q r) (l.after q u v)));
        }
      where
        outside : (q : ℕ) → q < r → encloses rows q r ≡ false → end rows q ≤ r
        outside q v n = ⊎_elim (λ m. absurd (both_ways (encloses rows q r) n (encloses_from q r v m))) (λ m. m) (cases_lt r (end rows q))

    pub around_none : (r : ℕ) → around rows sort r ≡ None → (q : ℕ) → q < r → sort q ≡ true → end rows q ≤ r
    unfolding around
    around_none r e q v y =
        let none = last_is_none (λ k. sort k && encloses rows k r) r e q v in
        ⊎_elim
        (λ m. absurd (both_ways (sort q && encloses rows q r) none (and_from (sort q) (encloses rows q r) y (encloses_from q r v m))))
        (λ m. m)
        (cases_lt r (end rows q))

    pub around_is_none : (r : ℕ) → ((q : ℕ) → q < r → sort q ≡ true → end rows q ≤ r) → around rows sort r ≡ None
    unfolding around
    around_is_none r ended =
        last_none (λ k. sort k && encloses rows k r) r (λ q l. ⊎_elim
        (λ y. and_right (sort q) (encloses rows q r) (and_right (ltb q r) (ltb r (end rows q)) (le-ltb r (end rows q) (ended q l y))))
        (λ n. and_left (sort q) (encloses rows q r) n)
        (cases_Bool (sort q)))
