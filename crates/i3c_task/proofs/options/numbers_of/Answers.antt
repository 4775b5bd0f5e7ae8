use Rattle.std.proofs.Common.{[], ◌≡◌, ◌++◌, ◌∷◌, rules, subst, sym}
use Rattle.std.proofs.lemmas.List.{append_assoc}
use Rattle.i3c_orders.specs.Numbers.{NamesNumbers}
use Rattle.i3c_task.proofs.options.numbers_of.Goals as goal

pub loop-first-preserved : goal.loop-first-preserved
loop-first-preserved c =
    let before = c.loop-first.numbers.items in
    let place = c.in_ok-place_of.field-0 in
    let parted : c.loop-first.rest.now ≡ c.in-Some.first.now ++ 46 ∷ c.in-Some.others.now = c.in-Some.ensures in (
      search rules,
      λ next numbers named.
          subst (λ items. NamesNumbers c.args.text.now (items ++ next ∷ numbers)) (sym c.in_ok-keep.ensures)
          (subst (NamesNumbers c.args.text.now) (sym (append_assoc before (place ∷ []) (next ∷ numbers)))
          (c.loop-first.invariant.1 place (next ∷ numbers) (c.in-Some.first.now, c.in-Some.others.now, parted, c.in_ok-place_of.ensures, named))),
    )
