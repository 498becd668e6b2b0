-- A field as far as it is read.
use Rattle.std.proofs.Common.{◌≡◌, ℕ, ◌-◌, ◌≤◌, cond, eqb, List, [], ◌∷◌, ◌++◌, length, get_or, take, drop, Some, None, Option, sym, refl, ap, ◌∙◌, append_assoc, append-nil, arith}
use Rattle.std.proofs.lemmas.List.{take_rest}
use Rattle.std.proofs.lemmas.Bool.{cond-false, and_left, ne_eqb}
use Rattle.table.specs.Fields.{End, Cut, Mode, ends, ended, longer, onward, unescaped}
use Rattle.table.specs.Fields.Mode.{Plain, Quoted}

-- a field that begins with the bytes v as written
abbrev led : List ℕ → Option Cut → Option Cut
led v None = None
led v (Some c) = Some (record { value = unescaped v ++ c.value; end = c.end })

-- the bytes v of the text bs are read in mode m, no doubled quote among them is cut in two, and left is left
pub record Partway (m : Mode) (bs v left : List ℕ) : Type 0 where
  pub split : bs ≡ v ++ left
  pub whole : (w : List ℕ) → unescaped (v ++ w) ≡ unescaped v ++ unescaped w
  pub same : onward m bs ≡ led v (onward m left)

led_none : (o : Option Cut) → o ≡ led [] o
led_none None = refl
led_none (Some c) = refl

pub partway_start : (m : Mode) (bs : List ℕ) → Partway m bs [] bs
partway_start m bs = record { split = refl; whole = λ w. refl; same = led_none (onward m bs) }

module _ {m : Mode} {bs v left : List ℕ} (so : Partway m bs v left) where
  -- one turn reads the bytes p, which stand for the byte x
  module _ (p : List ℕ) (x : ℕ) (rest : List ℕ) (is : left ≡ p ++ rest) (one : (w : List ℕ) → unescaped (p ++ w) ≡ x ∷ unescaped w) where
    read_one : unescaped (v ++ p) ≡ unescaped v ++ x ∷ []
    read_one = so.whole p ∙ ap (λ l. unescaped v ++ l) (sym (ap unescaped (append-nil p)) ∙ one [])

    led_longer : (o : Option Cut) → led v (longer x o) ≡ led (v ++ p) o
    led_longer None = refl
    led_longer (Some c) = ap (λ l. Some (record { value = l; end = c.end })) (sym (append_assoc (unescaped v) (x ∷ []) c.value) ∙ ap (λ l. l ++ c.value) (sym read_one))

    pub partway_more : onward m (p ++ rest) ≡ longer x (onward m rest) → Partway m bs (v ++ p) rest
    partway_more step = record {
      split = so.split ∙ ap (λ l. v ++ l) is ∙ sym (append_assoc v p rest);
      whole = λ w. ap unescaped (append_assoc v p w) ∙ so.whole (p ++ w) ∙ ap (λ l. unescaped v ++ l) (one w) ∙ sym (append_assoc (unescaped v) (x ∷ []) (unescaped w)) ∙ ap (λ l. l ++ unescaped w) (sym read_one);
      same = so.same ∙ ap (λ l. led v (onward m l)) is ∙ ap (led v) step ∙ led_longer (onward m rest);
    }

  pub partway_end : (e : End) → onward m left ≡ Some (record { value = []; end = e }) → onward m bs ≡ Some (record { value = unescaped v; end = e })
  partway_end e h = so.same ∙ ap (led v) h ∙ ap (λ l. Some (record { value = l; end = e })) (append-nil (unescaped v))

-- a byte that is no quote stands for itself
plain_one : (b : ℕ) → (b ≡ 34 → ⊥) → (w : List ℕ) → unescaped (b ∷ w) ≡ b ∷ unescaped w
plain_one b n [] = refl
plain_one b n (c ∷ w) = cond-false _ _ _ (and_left _ _ (ne_eqb b 34 n))

-- what the pattern `[_, rest @ ..]` leaves of a slice
abbrev pub past_first : List ℕ → List ℕ
past_first bs = take (length bs - 1) (drop 1 bs)

pub first_more : (bs : List ℕ) → 1 ≤ length bs → bs ≡ get_or bs 0 0 ∷ past_first bs
first_more [] l = absurd (omega arith)
first_more (b ∷ bs) l = ap (λ r. b ∷ r) (sym (take_rest (b ∷ bs) 1))

module _ {left : List ℕ} (b : ℕ) (rest : List ℕ) (is : left ≡ b ∷ rest) where
  plain_step : ends left ≡ None → (b ≡ 34 → ⊥) → onward Plain (b ∷ rest) ≡ longer b (onward Plain rest)
  plain_step h n = ap (λ o. ended o (cond (eqb b 34) None (longer b (onward Plain rest)))) (ap ends (sym is) ∙ h) ∙ cond-false _ _ _ (ne_eqb b 34 n)

  module _ {bs v : List ℕ} where
    pub plain_more : Partway Plain bs v left → ends left ≡ None → (b ≡ 34 → ⊥) → Partway Plain bs (v ++ b ∷ []) rest
    plain_more so h n = partway_more so (b ∷ []) b rest is (plain_one b n) (plain_step h n)

    pub quoted_more : Partway Quoted bs v left → (b ≡ 34 → ⊥) → Partway Quoted bs (v ++ b ∷ []) rest
    quoted_more so n = partway_more so (b ∷ []) b rest is (plain_one b n) (cond-false _ _ _ (ne_eqb b 34 n))

    pub quoted_twice : Partway Quoted bs v left → b ≡ 34 → (more : List ℕ) → rest ≡ 34 ∷ more → Partway Quoted bs (v ++ 34 ∷ 34 ∷ []) more
    quoted_twice so quote more next = partway_more so (34 ∷ 34 ∷ []) 34 more (is ∙ λ i. quote i ∷ next i) (λ w. refl) refl

-- the field ends where the plain bytes do
pub plain_end : {bs v left : List ℕ} → Partway Plain bs v left → (e : End) → ends left ≡ Some e → onward Plain bs ≡ Some (record { value = unescaped v; end = e })
plain_end {left = left} so e h = partway_end so e (ended_here left h)
  where
    ended_here : (left : List ℕ) → ends left ≡ Some e → onward Plain left ≡ Some (record { value = []; end = e })
    ended_here [] h = ap (λ o. ended o None) h
    ended_here (b ∷ rest) h = ap (λ o. ended o (cond (eqb b 34) None (longer b (onward Plain rest)))) h
