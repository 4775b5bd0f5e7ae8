use Rattle.std.proofs.Common.{◌∙◌, ap, arith, false}
use Rattle.i3c_table.proofs.Ordering.{order_none}
use Rattle.i3c_table.specs.Putting.{cleared}
use Rattle.i3c_table.proofs.StoredLaws.{only_stored, small_whole, whole_only}
use Rattle.i3c_table.proofs.table.Table.clear.Goals as goal

pub invariant_of-self : goal.invariant_of-self
invariant_of-self c =
    let inside = c.self.inside in
    let only = c.only-self-inside in
    let none = c.new-self-inside in (
      whole_only inside.held.0 inside.kept.0 only.result.0 none.result.0 c.args.own inside.legacies c.self.invariant.0 only.ensures.same only.ensures.others none.ensures,
      order_none none.result.0 inside.numbers c.clear.new.self (omega arith) none.ensures c.clear.ensures,
    )

pub returns : goal.returns
returns c =
    let inside = c.self.inside in
    let only = c.only-self-inside in
    let none = c.new-self-inside in
    (ap (λ g. record { given = g; legacy = inside.legacies.legacy; declared = inside.legacies.declared; listed = false })
    (only_stored inside.held.0 inside.kept.0 only.result.0 none.result.0 c.args.own inside.registers inside.numbers (small_whole _ _ _ c.self.invariant.0) only.ensures.same only.ensures.others none.ensures) ∙ ap (cleared c.args.own) c.self.view_is)
