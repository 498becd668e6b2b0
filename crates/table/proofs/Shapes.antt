-- The three fields of a record, by what each next field is.
use Rattle.std.proofs.Common.{◌≡◌, ◌⊎◌, List, ℕ, Some, None, Ok, Err, Option, Result, sym, refl, ap, ◌∙◌, inl, inr}
use Rattle.std.specs.Option.{option_map, ok_or}
use Rattle.table.specs.declared.field.Field.{Field}
use Rattle.table.specs.declared.field.FieldFault.{FieldFault}
use Rattle.table.specs.declared.field.FieldFault.TheVariants.{Quotes}
use Rattle.table.specs.declared.field.Stop.{Stop}
use Rattle.table.specs.declared.field.Stop.TheVariants.{Comma, LineEnd, TextEnd}
use Rattle.table.specs.declared.record.Record.{Record}
use Rattle.table.specs.declared.record.RecordFault.{RecordFault}
use Rattle.table.specs.declared.record.RecordFault.TheVariants.{Shape}
use Rattle.table.specs.Fields.{Cut, field}
use Rattle.table.specs.Records.{Three, three, after_comma, after_last, with_kind, with_size, with_mark}
use Rattle.table.specs.Readings.{ok_map, as_cut, following, of_field, as_three}
use Rattle.table.proofs.Results.{ok_or-ok, ok_or-err}

-- what goes on from a field, K, at each answer of `next_field`
module _ (K : Option Cut → Option Three) where
  at_comma : (c : Cut) (o : Option Cut) → Ok (Some c) ≡ ok_map Some (ok_or o Quotes) → K o ≡ K (Some c)
  at_comma c None h = cc
  at_comma c (Some d) h = cc

  at_next : (s : Stop) (bs : List ℕ) (c : Cut) → Ok (Some c) ≡ following s bs → after_comma s (K (field bs)) ≡ K (Some c)
  at_next Comma bs c h = at_comma c (field bs) h
  at_next LineEnd bs c h = cc
  at_next TextEnd bs c h = cc

  module _ (nothing : K None ≡ None) (e : FieldFault) where
    fault_comma : (o : Option Cut) → Err e ≡ ok_map Some (ok_or o Quotes) → (K o ≡ None) × (e ≡ Quotes)
    fault_comma None h = (nothing, cc)
    fault_comma (Some d) h = cc

    fault_next : (s : Stop) (bs : List ℕ) → Err e ≡ following s bs → (after_comma s (K (field bs)) ≡ None) × (e ≡ Quotes)
    fault_next Comma bs h = fault_comma (field bs) h
    fault_next LineEnd bs h = cc
    fault_next TextEnd bs h = cc

none_next : (s : Stop) (bs : List ℕ) (more : Option Three) → Ok None ≡ following s bs → after_comma s more ≡ None
none_next Comma bs more h = at_none (field bs) h
  where
    at_none : (o : Option Cut) → Ok None ≡ ok_map Some (ok_or o Quotes) → more ≡ None
    at_none None h = cc
    at_none (Some c) h = cc
none_next LineEnd bs more h = refl
none_next TextEnd bs more h = refl

-- a fault of a field's quotes is one of the record's shape
pub refused : {r : Result Record RecordFault} {e : FieldFault} {o : Option Three} → r ≡ Err (of_field e) → (o ≡ None) × (e ≡ Quotes) → ok_map as_three r ≡ ok_or o Shape
refused is h = ap (ok_map as_three) (is ∙ ap (λ e. Err (of_field e)) h.1) ∙ ap (λ o. ok_or o Shape) (sym h.0)

no_record : (o : Option Three) → o ≡ None → Err Shape ≡ ok_or o Shape
no_record o e = ap (λ o. ok_or o Shape) (sym e)

pub ended : (s : Stop) (all : Option Three) → (s ≡ LineEnd) ⊎ (s ≡ TextEnd) → after_last s all ≡ all
ended s all (inl e) = ap (λ s. after_last s all) e
ended s all (inr e) = ap (λ s. after_last s all) e

unended : (s : Stop) (all : Option Three) → s ≡ Comma → after_last s all ≡ None
unended s all e = ap (λ s. after_last s all) e

-- the record at the front of bs, as far as its fields are known
module _ (bs : List ℕ) where
  pub fault-kind : {e : FieldFault} → Err e ≡ ok_or (field bs) Quotes → (three bs ≡ None) × (e ≡ Quotes)
  fault-kind h = let p = ok_or-err Quotes (field bs) h in (ap with_kind p.0, p.1)

  module _ (k : Field) (first : Ok (as_cut k) ≡ ok_or (field bs) Quotes) where
    with_first : three bs ≡ with_kind (Some (as_cut k))
    with_first = ap with_kind (ok_or-ok Quotes (field bs) first)

    pub fault-size : {e : FieldFault} → Err e ≡ following k.end.stop k.end.rest.now → (three bs ≡ None) × (e ≡ Quotes)
    fault-size {e} h = let p = fault_next (with_size (as_cut k)) refl e k.end.stop k.end.rest.now h in (with_first ∙ p.0, p.1)

    module _ {o : Option Field} (second : Ok (option_map as_cut o) ≡ following k.end.stop k.end.rest.now) where
      pub no_size : o ≡ None → Err Shape ≡ ok_or (three bs) Shape
      no_size is = no_record (three bs) (with_first ∙ none_next k.end.stop k.end.rest.now _ (ap (λ o. Ok (option_map as_cut o)) (sym is) ∙ second))

      module _ {s : Field} (some : o ≡ Some s) where
        with_second : three bs ≡ with_size (as_cut k) (Some (as_cut s))
        with_second = with_first ∙ at_next (with_size (as_cut k)) k.end.stop k.end.rest.now (as_cut s) (ap (λ o. Ok (option_map as_cut o)) (sym some) ∙ second)

        pub fault-mark : {e : FieldFault} → Err e ≡ following s.end.stop s.end.rest.now → (three bs ≡ None) × (e ≡ Quotes)
        fault-mark {e} h = let p = fault_next (with_mark (as_cut k) (as_cut s)) refl e s.end.stop s.end.rest.now h in (with_second ∙ p.0, p.1)

        module _ {p : Option Field} (third : Ok (option_map as_cut p) ≡ following s.end.stop s.end.rest.now) where
          pub no_mark : p ≡ None → Err Shape ≡ ok_or (three bs) Shape
          no_mark is = no_record (three bs) (with_second ∙ none_next s.end.stop s.end.rest.now _ (ap (λ o. Ok (option_map as_cut o)) (sym is) ∙ third))

          module _ {m : Field} (last : p ≡ Some m) where
            with_third : three bs ≡ with_mark (as_cut k) (as_cut s) (Some (as_cut m))
            with_third = with_second ∙ at_next (with_mark (as_cut k) (as_cut s)) s.end.stop s.end.rest.now (as_cut m) (ap (λ o. Ok (option_map as_cut o)) (sym last) ∙ third)

            pub no_end : m.end.stop ≡ Comma → Err Shape ≡ ok_or (three bs) Shape
            no_end is = no_record (three bs) (with_third ∙ unended m.end.stop _ is)

            pub whole_record : (m.end.stop ≡ LineEnd) ⊎ (m.end.stop ≡ TextEnd) → Ok (as_three (record { kind = k.raw; size = s.raw; mark = m.raw; rest = m.end.rest })) ≡ ok_or (three bs) Shape
            whole_record is = sym (ap (λ o. ok_or o Shape) (with_third ∙ ended m.end.stop _ is))
