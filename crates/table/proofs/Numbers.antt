-- The number that digits write, one digit at a time.
use Rattle.std.proofs.Common.{◌≡◌, ℕ, ◌+◌, ◌-◌, ◌*◌, ◌<◌, Bool, true, false, cond, leb, List, [], ◌∷◌, length, get_or, drop, None, Option, sym, refl, ap, ◌∙◌, arith}
use Rattle.std.proofs.lemmas.List.{at_drop_more}
use Rattle.std.proofs.lemmas.Bool.{cond-true, cond-false, and_right, lt-leb}
use Rattle.table.specs.Values.{digit, number_from, within}

-- a number that is too high stays so
number_over : (high n : ℕ) (v : List ℕ) → high < n → within 0 high (number_from n v) ≡ None
number_over high n [] h = cond-false _ _ _ (and_right (leb 0 n) _ (lt-leb n high h))
number_over high n (b ∷ v) h = step (digit b) (number_over high (n * 10 + (b - 48)) v (omega arith))
  where
    step : (t : Bool) → within 0 high (number_from (n * 10 + (b - 48)) v) ≡ None → within 0 high (cond t (number_from (n * 10 + (b - 48)) v) None) ≡ None
    step true e = e
    step false e = refl

-- n is what the digits of v before i write, and the next digit takes it past the highest
pub number_passed : (v : List ℕ) (i n : ℕ) (o : Option ℕ) (high : ℕ) → o ≡ number_from n (drop i v) → i < length v → digit (get_or v i 0) ≡ true → high < n * 10 + (get_or v i 0 - 48) → None ≡ within 0 high o
number_passed v i n o high so h t over = sym (ap (within 0 high) (so ∙ at_drop_more (number_from n) v i 0 h ∙ cond-true _ _ _ t) ∙ number_over high _ (drop (i + 1) v) over)
