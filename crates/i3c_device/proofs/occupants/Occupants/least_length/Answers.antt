-- One slot more, until none is left.
use Rattle.std.proofs.Common.{subst, sym}
use Rattle.i3c_device.specs.Lengths.{IsLeastLength}
use Rattle.i3c_device.proofs.LengthLaws.{LeastSoFar, least_all, least_none}
use Rattle.i3c_device.proofs.occupants.Occupants.least_length.Goals as goal

pub loop-index-init : goal.loop-index-init
loop-index-init c = subst (LeastSoFar c.args.among c.args.among c.args.way c.self.inside.places) (sym c.most-least.ensures) (least_none c.args.among c.args.way c.self.inside.places)

pub returns : goal.returns
returns c =
    subst (λ places. IsLeastLength c.args.among c.args.way places c.loop-index.least) c.self.view_is
    (least_all c.args.among c.loop-index.left c.args.way c.self.inside.places c.loop-index.least c.loop-index.invariant c.in_default.ensures.taken)
