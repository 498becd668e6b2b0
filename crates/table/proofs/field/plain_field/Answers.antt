use Rattle.std.proofs.Common.{◌≡◌, ◌+◌, ◌∷◌, get_or, drop, Ok, sym, ap, subst, ◌∙◌, add-one, drop-cons}
use Rattle.std.proofs.lemmas.List.{take_more}
use Rattle.std.specs.Option.{ok_or}
use Rattle.table.specs.declared.field.FieldFault.TheVariants.{Quotes}
use Rattle.table.specs.Fields.{ends, unescaped}
use Rattle.table.specs.Fields.Mode.{Plain}
use Rattle.table.specs.Readings.{as_end}
use Rattle.table.proofs.Scans.{Partway, plain_more, plain_end}
use Rattle.table.proofs.field.plain_field.Goals as goal

pub returns-in-Some : goal.returns-in-Some
returns-in-Some c =
    let e = as_end c.in-Some.end in
    let found = plain_end c.loop-len.invariant e (ap ends (sym c.split_at.ensures.back) ∙ sym c.in-Some.ensures) in
    ap (λ raw. Ok (record { value = unescaped raw; end = e })) c.split_at.ensures.front ∙ sym (ap (λ o. ok_or o Quotes) found)

pub loop-len-preserved : goal.loop-len-preserved
loop-len-preserved c =
    let t = c.args.text.now in
    let n = c.loop-len.len in
    let b = get_or t n 0 in
    let inside = c.loop-len-test.true in
    let here : drop n t ≡ b ∷ drop (n + 1) t = rw (add-one, drop-cons t n 0) in
    let none = ap ends (sym c.split_at.ensures.back) ∙ sym c.in_default.ensures in
    subst (λ v. Partway Plain t v (drop (n + 1) t)) (sym (take_more t n 0 inside)) (plain_more b (drop (n + 1) t) here c.loop-len.invariant none c.if-b-eq34.false)
