use Rattle.std.proofs.Common.{ap, sym}
use Rattle.i3c_table.proofs.Open.{open_bits}
use Rattle.i3c_table.proofs.StoredLaws.{small_whole}
use Rattle.i3c_table.proofs.table.Table.open_addresses.Goals as goal

pub returns : goal.returns
returns c =
    let inside = c.self.inside in
    rw (ap (λ t. t.given) (sym c.self.view_is), ap (λ t. t.legacy) (sym c.self.view_is), ap (λ t. t.declared) (sym c.self.view_is)) (open_bits inside.held.0 inside.kept.0 inside.registers inside.numbers inside.legacies c.usable.result.0 c.addresses-taken.result.0 c.without_all.result.0 c.without_all-2.result.0
    (small_whole _ _ _ c.self.invariant.0) c.usable.ensures c.addresses-taken.ensures.all c.without_all.ensures c.without_all-2.ensures)
