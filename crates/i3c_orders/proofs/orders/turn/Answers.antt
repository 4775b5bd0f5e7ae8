use Rattle.std.proofs.Common.{[], ◌∷◌, ◌++◌, ◌≡◌, ◌∙◌, ap, subst, sym}
use Rattle.std.proofs.lemmas.List.{append_assoc}
use Rattle.i3c_orders.specs.Paths.{Retreats}
use Rattle.i3c_orders.proofs.Turning.{retreats}
use Rattle.i3c_orders.proofs.orders.turn.Goals as goal

pub returns-in-Some-other : goal.returns-in-Some-other
returns-in-Some-other g c =
    let (over, is, none) = c.loop-choice.invariant in
    let before = c.pop.new.self.items in
    let choice = c.in-Some.choice in
    let other = c.in-Some-other.choice in
    let whole : c.args.path.now.items ≡ before ++ choice ∷ over = is ∙ ap (λ path. path ++ over) c.in-Some.ensures.items ∙ append_assoc before (choice ∷ []) over in
    subst (λ new. Retreats c.args.path.now.items new) (sym c.push_reserved.ensures.items)
    (subst (λ old. Retreats old (before ++ other ∷ [])) (sym whole)
    (retreats before choice over other none c.in-Some-other.ensures.0 c.in-Some-other.ensures.1))
