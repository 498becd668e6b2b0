-- A field that is written in either way is read as its value.
use Rattle.std.proofs.Common.{◌≡◌, ℕ, Bool, true, false, cond, not, eqb, List, [], ◌∷◌, ◌++◌, get_or, Some, None, Option, sym, refl, ap, ◌∙◌, inl, inr, append_assoc, arith}
use Rattle.std.proofs.lemmas.Bool.{cond-false, and_parts, and_right, not-true, ne_eqb, eqb-true}
use Rattle.table.specs.Fields.{End, Cut, Mode.Plain, Mode.Quoted, Mode.Past, breaks, ends, ended, longer, onward, field}
use Rattle.table.specs.Laws.{plainly, doubled, FieldWriting}

-- a field cut off with the value v
abbrev cut : List ℕ → End → Option Cut
cut v e = Some (record { value = v; end = e })

-- the first byte of an end of a field is none that ends no field
not_first : (c : ℕ) → ((bs : List ℕ) → ends (c ∷ bs) ≡ None) → eqb 0 c ≡ false → (more : List ℕ) (e : End) → ends more ≡ Some e → eqb (get_or more 0 0) c ≡ false
not_first c none zero [] e h = zero
not_first c none zero (b ∷ bs) e h = ne_eqb b c (λ q. let z : ◌≡◌ {A = Option End} None (Some e) = sym (none bs) ∙ sym (ap (λ x. ends (x ∷ bs)) q) ∙ h in let n : ◌≡◌ {A = ℕ} 0 1 = cc in omega arith)

no_quote : (more : List ℕ) (e : End) → ends more ≡ Some e → eqb (get_or more 0 0) 34 ≡ false
no_quote = not_first 34 (λ bs. refl) refl

no_feed : (more : List ℕ) (e : End) → ends more ≡ Some e → eqb (get_or more 0 0) 10 ≡ false
no_feed = not_first 10 (λ bs. refl) refl

field_plain_first : (bs : List ℕ) → eqb (get_or bs 0 0) 34 ≡ false → field bs ≡ onward Plain bs
field_plain_first [] h = refl
field_plain_first (b ∷ bs) h = cond-false _ _ _ h

plain_end : (more : List ℕ) (e : End) → ends more ≡ Some e → onward Plain more ≡ cut [] e
plain_end [] e h = ap (λ o. ended o None) h
plain_end (b ∷ bs) e h = ap (λ o. ended o (cond (eqb b 34) None (longer b (onward Plain bs)))) h

past_end : (more : List ℕ) (e : End) → ends more ≡ Some e → onward Past more ≡ cut [] e
past_end [] e h = ap (λ o. ended o None) h
past_end (b ∷ bs) e h = ap (λ o. ended o (cond (eqb b 34) (longer 34 (onward Quoted bs)) None)) h

-- a plain value, byte by byte
plain_parts : (b : ℕ) (v : List ℕ) → plainly (b ∷ v) ≡ true → (eqb b 34 ≡ false) × (eqb b 44 ≡ false) × (breaks (b ∷ v) ≡ false) × (plainly v ≡ true)
plain_parts b v h =
    let p = and_parts (not (eqb b 34)) _ h in
    let q = and_parts (not (eqb b 44)) _ p.1 in
    let r = and_parts (not (breaks (b ∷ v))) _ q.1 in
    (not-true _ p.0, not-true _ q.0, not-true _ r.0, r.1)

-- what follows the value makes no CR LF of its last byte
no_break : (b : ℕ) (v more : List ℕ) (e : End) → ends more ≡ Some e → breaks (b ∷ v) ≡ false → breaks (b ∷ (v ++ more)) ≡ false
no_break b [] more e h n = and_right _ _ (no_feed more e h)
no_break b (c ∷ v) more e h n = n

plain_read : (v more : List ℕ) (e : End) → plainly v ≡ true → ends more ≡ Some e → onward Plain (v ++ more) ≡ cut v e
plain_read [] more e p h = plain_end more e h
plain_read (b ∷ v) more e p h =
    let parts = plain_parts b v p in
    let goes_on : ends (b ∷ (v ++ more)) ≡ None = cond-false _ _ _ parts.1 ∙ cond-false _ _ _ (no_break b v more e h parts.2) in
    ap (λ o. ended o (cond (eqb b 34) None (longer b (onward Plain (v ++ more))))) goes_on ∙ cond-false _ _ _ parts.0 ∙ ap (longer b) (plain_read v more e parts.3 h)

plain_start : (v more : List ℕ) (e : End) → plainly v ≡ true → ends more ≡ Some e → eqb (get_or (v ++ more) 0 0) 34 ≡ false
plain_start [] more e p h = no_quote more e h
plain_start (b ∷ v) more e p h = (plain_parts b v p).0

quoted_read : (v more : List ℕ) (e : End) → ends more ≡ Some e → onward Quoted (doubled v ++ (34 ∷ more)) ≡ cut v e
quoted_read [] more e h = past_end more e h
quoted_read (b ∷ v) more e h = by_byte (quoted_read v more e h) (eqb b 34) refl
  where
    by_byte : onward Quoted (doubled v ++ (34 ∷ more)) ≡ cut v e → (t : Bool) → eqb b 34 ≡ t → onward Quoted (cond t (34 ∷ 34 ∷ doubled v) (b ∷ doubled v) ++ (34 ∷ more)) ≡ cut (b ∷ v) e
    by_byte ih true q = ap (longer 34) ih ∙ ap (λ c. cut (c ∷ v) e) (sym (eqb-true b 34 q))
    by_byte ih false q = cond-false _ _ _ q ∙ ap (longer b) ih

-- either writing of a field is read as its value
pub field-read : (v w more : List ℕ) (e : End) → FieldWriting v w → ends more ≡ Some e → field (w ++ more) ≡ cut v e
field-read v w more e (inl p) h =
    ap (λ l. field (l ++ more)) p.1 ∙ field_plain_first (v ++ more) (plain_start v more e p.0 h) ∙ plain_read v more e p.0 h
field-read v w more e (inr p) h =
    ap (λ l. field (l ++ more)) p ∙ ap (onward Quoted) (append_assoc (doubled v) (34 ∷ []) more) ∙ quoted_read v more e h
