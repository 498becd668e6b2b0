-- The serial totals follow the rule, and nothing else does. Assumes nothing.
use Rattle.std.proofs.Common.{◌≡◌, ℕ, zero, suc, ◌+◌, ◌<◌, ◌≤◌, true, List, length, sym, refl, ap, ◌∙◌, ⊎_elim, arith}
use Rattle.std.proofs.lemmas.Bool.{cond-true, cond-false, cases_Bool, both_ways}
use Rattle.job.specs.declared.row.Row.{Row}
use Rattle.job.specs.Rows.{row, is_work, is_finish}
use Rattle.total.specs.Serial.{gathered, lines, serial_by, serial, SerialTotals, OneSerialTotal}
use Rattle.total.proofs.Gathering.{Brings, own-near, gathered_same}

module _ {M : Type 0} (nothing : M) (join : M → M → M) (seal : ℕ → M → M) (rows : List Row) (value : ℕ → M) where
  -- two books agree where their totals agree at finish rows
  lines_same : (t₁ t₂ : ℕ → M) (r : ℕ) → (is_finish (row rows r) ≡ true → t₁ r ≡ t₂ r) → lines nothing join seal rows value t₁ r ≡ lines nothing join seal rows value t₂ r
  lines_same t₁ t₂ r e =
      ⊎_elim
      (λ y. cond-true (is_finish (row rows r)) _ _ y ∙ e y ∙ sym (cond-true (is_finish (row rows r)) _ _ y))
      (λ n. cond-false (is_finish (row rows r)) _ _ n ∙ sym (cond-false (is_finish (row rows r)) _ _ n))
      (cases_Bool (is_finish (row rows r)))

  -- more depth than there are rows after f changes nothing
  deep_enough : (k j f : ℕ) → length rows ≤ f + k → length rows ≤ f + j → f < length rows → serial_by nothing join seal rows k value f ≡ serial_by nothing join seal rows j value f
  deep_enough zero j f h g l = absurd (omega arith)
  deep_enough (suc k) zero f h g l = absurd (omega arith)
  deep_enough (suc k) (suc j) f h g l =
      gathered_same nothing join seal rows _ _ f (length rows) (λ r m y b.
      let near = own-near rows f r y in
      lines_same (serial_by nothing join seal rows k value) (serial_by nothing join seal rows j value) r (λ fin.
      deep_enough k j r (omega (arith, near.before)) (omega (arith, near.before)) m))

  pub serial_rule : SerialTotals nothing join seal rows value (serial nothing join seal rows value)
  unfolding serial
  serial_rule f l y = go (length rows) (λ x. x) refl
    where
      go : (n : ℕ) → (n < length rows → n < length rows) → length rows ≡ n → serial_by nothing join seal rows (length rows) value f ≡ gathered nothing join seal rows (lines nothing join seal rows value (serial nothing join seal rows value)) f (length rows)
      go zero h e = absurd (omega arith)
      go (suc n) h e =
          ap (λ k. serial_by nothing join seal rows k value f) e
          ∙ gathered_same nothing join seal rows _ _ f (length rows) (λ r m own-r b.
          let near = own-near rows f r own-r in
          lines_same (serial_by nothing join seal rows n value) (serial nothing join seal rows value) r (λ fin.
          deep_enough n (length rows) r (omega (arith, near.before)) (omega arith) m))

  -- what follows the rule is the serial total: from the last row to the first
  only_from : (total : ℕ → M) → SerialTotals nothing join seal rows value total → (k f : ℕ) → length rows ≤ f + k → f < length rows → is_finish (row rows f) ≡ true → total f ≡ serial nothing join seal rows value f
  only_from total rule zero f h l y = absurd (omega arith)
  only_from total rule (suc k) f h l y =
      rule f l y
      ∙ gathered_same nothing join seal rows _ _ f (length rows) (λ r m own-r b.
      let near = own-near rows f r own-r in
      lines_same total (serial nothing join seal rows value) r (λ fin. only_from total rule k r (omega (arith, near.before)) m fin))
      ∙ sym (serial_rule f l y)

  pub only_serial : OneSerialTotal nothing join seal rows value
  only_serial total rule f l y = only_from total rule (length rows) f (omega arith) l y

-- equal values at the work rows give equal serial totals
module _ {M : Type 0} (nothing : M) (join : M → M → M) (seal : ℕ → M → M) (rows : List Row) (v₁ v₂ : ℕ → M) (equal : (r : ℕ) → r < length rows → is_work (row rows r) ≡ true → v₁ r ≡ v₂ r) where
  same_by : (k f : ℕ) → serial_by nothing join seal rows k v₁ f ≡ serial_by nothing join seal rows k v₂ f
  same_by zero f = refl
  same_by (suc k) f = gathered_same nothing join seal rows _ _ f (length rows) (λ r l own-r brings. at r l brings (same_by k r))
    where
      at : (r : ℕ) → r < length rows → Brings (row rows r) → serial_by nothing join seal rows k v₁ r ≡ serial_by nothing join seal rows k v₂ r → lines nothing join seal rows v₁ (serial_by nothing join seal rows k v₁) r ≡ lines nothing join seal rows v₂ (serial_by nothing join seal rows k v₂) r
      at r l brings inner =
          ⊎_elim
          (λ y. cond-true (is_finish (row rows r)) _ _ y ∙ inner ∙ sym (cond-true (is_finish (row rows r)) _ _ y))
          (λ n.
          cond-false (is_finish (row rows r)) _ _ n
          ∙ equal r l (⊎_elim (λ w. w) (λ y. absurd (both_ways (is_finish (row rows r)) n y)) brings)
          ∙ sym (cond-false (is_finish (row rows r)) _ _ n))
          (cases_Bool (is_finish (row rows r)))

  pub serial_same : (f : ℕ) → serial nothing join seal rows v₁ f ≡ serial nothing join seal rows v₂ f
  unfolding serial
  serial_same f = same_by (length rows) f
