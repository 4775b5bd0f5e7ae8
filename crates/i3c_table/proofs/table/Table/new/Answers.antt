use Rattle.std.proofs.Common.{ap, arith, false}
use Rattle.i3c_table.proofs.Ordering.{order_none}
use Rattle.i3c_table.proofs.StoredLaws.{none_stored, whole_none}
use Rattle.i3c_table.proofs.table.Table.new.Goals as goal

pub invariant_of-result : goal.invariant_of-result
invariant_of-result c = (whole_none c.new-none.result.0 c.args.legacies c.new-none.ensures, order_none c.new-none.result.0 _ _ (omega arith) c.new-none.ensures c.new.ensures)

pub returns : goal.returns
returns c = ap (λ g. record { given = g; legacy = c.args.legacies.legacy; declared = c.args.legacies.declared; listed = false }) (none_stored c.new-none.result.0 _ _ c.new-none.ensures)
