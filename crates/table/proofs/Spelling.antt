-- The kinds and numbers that are written are read as themselves, and need no quotes.
use Rattle.std.proofs.Common.{◌≡◌, ℕ, ◌+◌, ◌-◌, ◌*◌, ◌/◌, ◌%◌, ◌^◌, ◌<◌, ◌≤◌, Bool, true, false, cond, not, ◌&&◌, ◌||◌, eqb, ltb, leb, List, [], ◌∷◌, ◌++◌, length, get_or, Some, None, codes, decimal, Option, refl, ap, ◌∙◌, subst, ⊎_elim, arith}
use Rattle.std.proofs.lemmas.Fmt.{decimal_by_steps, decimal_digit, decimal_nonempty, first_decimal}
use Rattle.std.proofs.lemmas.Bool.{cond-true, cond-false, and_from, and_left, and_right, and_parts, or_from, or_parts, le-leb, le-ltb, leb-true, ltb-false, ne_eqb, cases_lt}
use Rattle.job.specs.declared.row.Row.{Row}
use Rattle.table.specs.Values.{kind_of, digit, number_from, number_of, within, size_of, mark_of}
use Rattle.table.specs.JobTexts.{kind_word, bad_field}
use Rattle.table.specs.Laws.{plainly}

-- a number that is read goes on from digits alone
step_parts : (n b v : ℕ) (ds : List ℕ) → number_from n (b ∷ ds) ≡ Some v → (digit b ≡ true) × (number_from (n * 10 + (b - 48)) ds ≡ Some v)
step_parts n b v ds h = by_digit (digit b) refl h
  where
    by_digit : (t : Bool) → digit b ≡ t → cond t (number_from (n * 10 + (b - 48)) ds) None ≡ Some v → (digit b ≡ true) × (number_from (n * 10 + (b - 48)) ds ≡ Some v)
    by_digit true e k = (e, k)
    by_digit false e k = let z : ◌≡◌ {A = ℕ} 0 1 = cc in absurd (omega arith)

number_push : (n : ℕ) (ds : List ℕ) (c v : ℕ) → number_from n ds ≡ Some v → digit c ≡ true → number_from n (ds ++ c ∷ []) ≡ Some (v * 10 + (c - 48))
number_push n [] c v h d = let e : n ≡ v = cc in cond-true _ _ _ d ∙ ap (λ k. Some (k * 10 + (c - 48))) e
number_push n (b ∷ ds) c v h d =
    let p = step_parts n b v ds h in
    cond-true _ _ _ p.0 ∙ number_push (n * 10 + (b - 48)) ds c v p.1 d

digit_is : (c : ℕ) → c < 10 → digit (48 + c) ≡ true
digit_is c h = and_from _ _ (le-leb 48 (48 + c) (omega arith)) (le-leb (48 + c) 57 (omega arith))

number-decimal : (n : ℕ) → n < 2 ^ 64 → number_from 0 (decimal n) ≡ Some n
number-decimal = decimal_by_steps (λ n ds. number_from 0 ds ≡ Some n)
    (λ n h. let e : 0 * 10 + (48 + n - 48) ≡ n = omega arith in cond-true _ _ _ (digit_is n h) ∙ ap Some e)
    (λ n ds h front. let e : n / 10 * 10 + (48 + n % 10 - 48) ≡ n = omega arith in number_push 0 ds (48 + n % 10) (n / 10) front (digit_is (n % 10) (omega arith)) ∙ ap Some e)

number_read : (n : ℕ) → n < 2 ^ 64 → number_of (decimal n) ≡ Some n
number_read n h = cond-false _ _ _ (or_from _ _ (ne_eqb (length (decimal n)) 0 (λ e. omega (arith, decimal_nonempty n h))) no_leading) ∙ number-decimal n h
  where
    no_leading : (eqb (get_or (decimal n) 0 0) 48 && ltb 1 (length (decimal n))) ≡ false
    no_leading =
        ⊎_elim
        (λ some. and_left _ _ (ne_eqb (get_or (decimal n) 0 0) 48 (λ e. omega (arith, first_decimal n some h))))
        (λ none. let one = ap length (decimal_digit n (omega arith)) in and_right _ _ (le-ltb 1 (length (decimal n)) (omega (arith, one))))
        (cases_lt 0 n)

within-read : (low high n : ℕ) (o : Option ℕ) → o ≡ Some n → low ≤ n → n ≤ high → within low high o ≡ Some n
within-read low high n o e l h = ap (within low high) e ∙ cond-true _ _ _ (and_from _ _ (le-leb low n l) (le-leb n high h))

pub size-read : (n : ℕ) → 1 ≤ n → n ≤ 1024 → size_of (decimal n) ≡ Some n
size-read n l h = within-read 1 1024 n _ (number_read n (omega arith)) l h

pub mark-read : (n : ℕ) → n ≤ 255 → mark_of (decimal n) ≡ Some n
mark-read n h = within-read 0 255 n _ (number_read n (omega arith)) (omega arith) h

pub kind-read : (k : ℕ) → k ≤ 2 → kind_of (kind_word k) ≡ Some k
kind-read k h =
    ⊎_elim
    (λ zero. subst (λ k. kind_of (kind_word k) ≡ Some k) (let e : 0 ≡ k = omega arith in e) refl)
    (λ some. ⊎_elim
    (λ one. subst (λ k. kind_of (kind_word k) ≡ Some k) (let e : 1 ≡ k = omega arith in e) refl)
    (λ two. subst (λ k. kind_of (kind_word k) ≡ Some k) (let e : 2 ≡ k = omega arith in e) refl)
    (cases_lt k 2))
    (cases_lt k 1)

digits_plain : (n v : ℕ) (ds : List ℕ) → number_from n ds ≡ Some v → plainly ds ≡ true
digits_plain n v [] h = refl
digits_plain n v (b ∷ ds) h =
    let p = step_parts n b v ds h in
    let low : 48 ≤ b = leb-true 48 b (and_parts (leb 48 b) (leb b 57) p.0).0 in
    and_from _ _ (ap not (ne_eqb b 34 (λ e. omega arith))) (and_from _ _ (ap not (ne_eqb b 44 (λ e. omega arith))) (and_from _ _ (ap not (and_left _ _ (ne_eqb b 13 (λ e. omega arith)))) (digits_plain (n * 10 + (b - 48)) v ds p.1)))

pub decimal_plain : (n : ℕ) → n < 2 ^ 64 → plainly (decimal n) ≡ true
decimal_plain n h = digits_plain 0 n (decimal n) (number-decimal n h)

pub kind_plain : (k : ℕ) → plainly (kind_word k) ≡ true
kind_plain k = by_kind (eqb k 0) (eqb k 1)
  where
    by_kind : (s t : Bool) → plainly (cond s (codes "work") (cond t (codes "finish") (codes "async"))) ≡ true
    by_kind true t = refl
    by_kind false true = refl
    by_kind false false = refl

-- the values of an allowed row are in their ranges
pub record Ranges (r : Row) : Type 0 where
  pub kind : r.kind ≤ 2
  pub least : 1 ≤ r.size
  pub most : r.size ≤ 1024
  pub mark : r.mark ≤ 255

passed : (t : Bool) (n : ℕ) (more : Option ℕ) → cond t (Some n) more ≡ None → (t ≡ false) × (more ≡ None)
passed true n more h = let z : ◌≡◌ {A = ℕ} 0 1 = cc in absurd (omega arith)
passed false n more h = (refl, h)

pub ranges : (r : Row) → bad_field r ≡ None → Ranges r
ranges r h =
    let kind = passed (ltb 2 r.kind) 1 _ h in
    let size = passed (ltb r.size 1 || ltb 1024 r.size) 2 _ kind.1 in
    let mark = passed (ltb 255 r.mark) 3 None size.1 in
    let both = or_parts (ltb r.size 1) (ltb 1024 r.size) size.0 in
    record { kind = ltb-false 2 r.kind kind.0; least = ltb-false r.size 1 both.0; most = ltb-false 1024 r.size both.1; mark = ltb-false 255 r.mark mark.0 }
