-- The list has an entry for each row and each legacy target.
use Rattle.std.proofs.Common.{◌≡◌, ◌∙◌, ap, arith, count_by, is_some}
use Rattle.i3c_base.specs.declared.device.LegacyTarget.{LegacyTarget}
use Rattle.i3c_base.specs.Frames.{list_bits}
use Rattle.i3c_base.specs.State.{State}
use Rattle.i3c_bus.proofs.Listing.{count_mapped}
use Rattle.i3c_bus.proofs.bus_snapshot.BusSnapshot.list_bits.Goals as goal

pub returns-clause-bits : goal.returns-clause-bits
returns-clause-bits c =
    let legacy : count_by is_some c.self.inside.table.legacy ≡ count_by is_some c.self.inside.legacy =
    ap (count_by is_some) c.self.invariant.covered.1 ∙ count_mapped (λ (x : LegacyTarget). x.lvr) c.self.inside.legacy in
    let bits = ap (λ (st : State). list_bits st) c.self.view_is in
    omega (arith, c.list_len.ensures.long, legacy, bits, c.list_len.ensures.few)
