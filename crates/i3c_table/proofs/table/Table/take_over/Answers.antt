use Rattle.std.proofs.Common.{◌∙◌, ap, arith, false, refl}
use Rattle.i3c_base.specs.Covered.{Table}
use Rattle.i3c_base.specs.State.{taken_over}
use Rattle.i3c_table.proofs.Ordering.{order_none}
use Rattle.i3c_table.proofs.StoredLaws.{small_whole}
use Rattle.i3c_table.proofs.TakenOver.{all_again, nothing_again, taken_stored, whole_again}
use Rattle.i3c_table.proofs.Unkept.{whole_unkept}
use Rattle.i3c_table.proofs.table.Table.take_over.Goals as goal

pub keep_homes-self-inside-requires : goal.keep_homes-self-inside-requires
keep_homes-self-inside-requires c = c.clear.ensures

pub invariant_of-self : goal.invariant_of-self
invariant_of-self c =
    let inside = c.self.inside in
    let none = c.new-self-inside in (
      whole_unkept inside.held.0 inside.kept.0 none.result.0 inside.legacies c.self.invariant.0 none.ensures,
      order_none none.result.0 inside.numbers c.clear.new.self (omega arith) none.ensures c.clear.ensures,
    )

pub returns-then-not-has_declared : goal.returns-then-not-has_declared
returns-then-not-has_declared c =
    let inside = c.self.inside in
    let fits = small_whole _ _ _ c.self.invariant.0 in
    let own = c.args.own in
    ap (λ g. record { given = g; legacy = inside.legacies.legacy; declared = inside.legacies.declared; listed = false })
    (taken_stored inside.legacies.declared inside.held.0 inside.kept.0 own inside.registers inside.numbers fits c.new-self-inside.result.0 inside.numbers
    (nothing_again inside.legacies.declared inside.held.0 inside.kept.0 own inside.registers inside.numbers fits c.new-self-inside.result.0 inside.numbers c.new-self-inside.ensures (c.if-not-has_declared.ensures.0 refl)))
    ∙ ap (λ (t : Table). record t { given = taken_over t.declared own t.given; listed = false }) c.self.view_is

pub invariant_of-self-2 : goal.invariant_of-self-2
invariant_of-self-2 c =
    let inside = c.self.inside in
    let homes = c.keep_homes-self-inside in (
      whole_again inside.legacies.declared inside.held.0 inside.kept.0 c.args.own inside.registers inside.numbers (small_whole _ _ _ c.self.invariant.0) c.without.result.0 c.without.ensures.not_in_it c.without.ensures.others inside.legacies
          homes.result.0 homes.new.numbers c.self.invariant.0 homes.ensures.again,
      homes.ensures.ordered,
    )

pub returns : goal.returns
returns c =
    let inside = c.self.inside in
    let fits = small_whole _ _ _ c.self.invariant.0 in
    let own = c.args.own in
    let homes = c.keep_homes-self-inside in
    ap (λ g. record { given = g; legacy = inside.legacies.legacy; declared = inside.legacies.declared; listed = false })
    (taken_stored inside.legacies.declared inside.held.0 inside.kept.0 own inside.registers inside.numbers fits homes.result.0 homes.new.numbers
    (all_again inside.legacies.declared inside.held.0 inside.kept.0 own inside.registers inside.numbers fits c.without.result.0 c.without.ensures.not_in_it c.without.ensures.others homes.result.0 homes.new.numbers homes.ensures.again))
    ∙ ap (λ (t : Table). record t { given = taken_over t.declared own t.given; listed = false }) c.self.view_is
