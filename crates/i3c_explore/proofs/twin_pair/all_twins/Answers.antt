use Rattle.std.proofs.Common.{◌++◌, ◌∷◌, [], subst, sym}
use Rattle.i3c_explore.specs.Twins.{AreFound}
use Rattle.i3c_explore.proofs.Merging.{found_more}
use Rattle.i3c_explore.proofs.twin_pair.all_twins.Goals as goal

pub loop-made-preserved : goal.loop-made-preserved
loop-made-preserved c =
    let found = c.loop-made.yielded in let twins = c.in-Ok.twins in let new = c.append.new.self.items in
    subst (λ made. AreFound (found ++ made ∷ []) new) (sym c.in-Ok.is) (found_more found twins c.loop-made.all.items new c.loop-made.invariant c.in_ok-append.ensures.items)
