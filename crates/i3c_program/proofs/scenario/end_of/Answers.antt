-- The last end is one of the ends.
use Rattle.std.proofs.Common.{◌∷◌, [], Contains, arith, refl, subst, sym}
use Rattle.std.proofs.lemmas.List.Elements.{Contains-append_right}
use Rattle.i3c_program.proofs.scenario.end_of.Goals as goal

pub returns-in-Some : goal.returns-in-Some
returns-in-Some c =
    let end = c.in-Some.end in
    let (course, whole, part, order, leads) = c.in-Ok.ensures.reached end (subst (λ ends. Contains ends end) (sym c.in-Some.ensures.items) (Contains-append_right c.pop.new.self.items (end ∷ []) end (0, omega arith, refl))) in
    (course, whole, order, leads)
