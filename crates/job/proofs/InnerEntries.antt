-- The entries of a job, each from that of its nearest enclosing row. Assumes nothing.
use Rattle.std.proofs.Common.{◌≡◌, ℕ, ◌+◌, ◌<◌, ◌≤◌, Bool, true, false, ◌||◌, if◌then◌else◌, List, length, set, take, Some, None, Option, sym, refl, ap, ◌∙◌, subst, ⊎_elim, arith, length-take-le}
use Rattle.std.proofs.lemmas.List.{get_or-map, get_or-take, get_or-set_same, get_or-set_other, length-map, ext_get_or}
use Rattle.std.proofs.lemmas.Bool.{cases_eq, ne_eqb}
use Rattle.job.specs.declared.entry.Around.{Around}
use Rattle.job.specs.declared.entry.Entry.{Entry}
use Rattle.job.specs.declared.row.Row.{Row}
use Rattle.job.specs.Rows.{blank, row, is_finish, is_async, is_task, around, nearest}
use Rattle.job.specs.Lawful.{Lawful}
use Rattle.job.specs.Entries.{no_entry, entry, entry_rows, first_entry, inner_around, inner_entry, AroundRow, EntryOf, LaidOut}
use Rattle.job.proofs.ByNearest.{some-around, around-nearest, around_beyond}
use Rattle.job.proofs.Climbing.{lower}
use Rattle.job.proofs.LawfulRows.{lawful-first}

-- nothing is around row 0
pub first-right : (rows : List Row) (x : Row) → x ≡ row rows 0 → EntryOf rows 0 (first_entry x)
unfolding around
first-right rows x e = record { here = e; right = record { near = refl; fin = refl; own = refl } }

nearest-first : (rows : List Row) → nearest rows 0 ≡ None
unfolding around
nearest-first rows = refl

module _ (rows : List Row) (law : Lawful rows) (r p : ℕ) (l : r < length rows) (near : nearest rows r ≡ Some p) where
  -- for a sort that p is of, or that p lies in
  by_sort : (sort : ℕ → Bool) (x : ℕ) → Some x ≡ around rows sort p → Some (if sort p then p else x) ≡ around rows sort r
  by_sort sort x e = go (sort p) refl
    where
      go : (b : Bool) → sort p ≡ b → Some (if b then p else x) ≡ around rows sort r
      go true y = sym (around-nearest rows law sort r p l near y)
      go false n = e ∙ sym (around_beyond rows law sort r p l near n)

  -- nothing is around row 0 alone
  is_first : None ≡ nearest rows p → p ≡ 0
  is_first e =
      ⊎_elim
      (λ y. y)
      (λ n. let up = some-around rows law (λ q. true) refl p (omega arith) (omega (arith, lower rows r p near)) in cc)
      (cases_eq p 0)

  is_later : (x : ℕ) → Some x ≡ nearest rows p → is_task rows p ≡ is_async (row rows p)
  is_later x e =
      ⊎_elim
      (λ y. let none = ap (nearest rows) y ∙ nearest-first rows in cc)
      (λ n. ap (λ b. b || is_async (row rows p)) (ne_eqb p 0 n))
      (cases_eq p 0)

  around_inner : (o : Option Around) → AroundRow rows p o → AroundRow rows r (Some (inner_around (row rows p) p o))
  around_inner None of =
      let first = is_first of.near in
      record {
        near = sym near;
        fin = sym (around-nearest rows law (λ q. is_finish (row rows q)) r p l near (ap (λ k. is_finish (row rows k)) first ∙ lawful-first rows law));
        own = sym (around-nearest rows law (is_task rows) r p l near (ap (is_task rows) first));
      }
  around_inner (Some a) of =
      record {
        near = sym near;
        fin = by_sort (λ q. is_finish (row rows q)) a.finish of.fin;
        own = ap (λ b. Some (if b then p else a.task)) (sym (is_later a.nearest of.near)) ∙ by_sort (is_task rows) a.task of.own;
      }

  pub inner_right : (e : Entry) (x : Row) → EntryOf rows p e → x ≡ row rows r → EntryOf rows r (inner_entry e p x)
  inner_right e x of is =
      record { here = is; right = subst (λ y. AroundRow rows r (Some (inner_around y p e.around))) (sym of.here) (around_inner e.around of.right) }

-- one entry more
pub entries_more : (rows : List Row) (entries : List Entry) (r : ℕ) (e : Entry) → r < length entries → ((q : ℕ) → q < r → EntryOf rows q (entry entries q)) → EntryOf rows r e → (q : ℕ) → q < r + 1 → EntryOf rows q (entry (set entries r e) q)
entries_more rows entries r e room before of q l =
    ⊎_elim
    (λ same. subst (λ k. EntryOf rows k (entry (set entries r e) k)) (sym same) (subst (EntryOf rows r) (sym (get_or-set_same entries r e no_entry room)) of))
    (λ other. subst (EntryOf rows q) (sym (get_or-set_other entries r q e no_entry other)) (before q (omega arith)))
    (cases_eq q r)

-- all entries of a job
module _ (rows : List Row) (entries : List Entry) (n : ℕ) (count : n ≡ length rows) (room : n ≤ length entries) (all : (q : ℕ) → q < n → EntryOf rows q (entry entries q)) where
  taken : (q : ℕ) → q < n → EntryOf rows q (entry (take n entries) q)
  taken q l = subst (EntryOf rows q) (sym (get_or-take n entries q no_entry l)) (all q l)

  counted : length (entry_rows (take n entries)) ≡ n
  counted = length-map (take n entries) (λ (e : Entry). e.row) ∙ length-take-le n entries room

  pub rows-entered : entry_rows (take n entries) ≡ rows
  rows-entered =
      ext_get_or blank (entry_rows (take n entries)) rows (counted ∙ count)
      (λ k l. get_or-map (λ (e : Entry). e.row) (take n entries) k no_entry blank (omega (arith, length-take-le n entries room, counted)) ∙ (taken k (omega (arith, counted))).here)

  pub laid_out : Lawful rows → LaidOut (take n entries)
  laid_out law =
      record {
        lawful = λ some. subst Lawful (sym rows-entered) law;
        each = λ q l. subst (λ x. AroundRow x q (entry (take n entries) q).around) (sym rows-entered) (taken q (omega (arith, counted))).right;
      }
