use Rattle.std.proofs.Common.{subst}
use Rattle.std.specs.List.{Contains}
use Rattle.i3c_explore.specs.Twins.{AreTwins}
use Rattle.i3c_explore.proofs.merged.without_twins.Goals as goal

pub merged-requires : goal.merged-requires
merged-requires g c twin at =
    subst (λ l. AreTwins l twin.before twin.later) c.deref.ensures.value (c.in_ok-twins.ensures twin (subst (λ l. Contains l twin) c.deref-4.ensures.value at))
