use Rattle.std.proofs.Common.{ap, sym}
use Rattle.i3c_table.proofs.Known.{found_known, usable_small, known_is, known_small, known_usable}
use Rattle.i3c_table.specs.Stored.{stored}
use Rattle.i3c_table.proofs.StoredLaws.{small_whole}
use Rattle.i3c_table.proofs.table.Table.address_known.Goals as goal

pub first_of-requires-clause-ordered : goal.first_of-requires-clause-ordered
first_of-requires-clause-ordered c = c.self.invariant.1.ranked

pub first_of-requires-clause-small : goal.first_of-requires-clause-small
first_of-requires-clause-small c = known_small c.self.inside.held.0 c.self.inside.kept.0 c.self.inside.numbers c.self.inside.order c.self.inside.legacies c.self.invariant.0 c.self.invariant.1

pub returns-clause-kept : goal.returns-clause-kept
returns-clause-kept c =
    let inside = c.self.inside in
    rw (ap (λ t. t.given) (sym c.self.view_is)) (known_is inside.held.0 inside.kept.0 inside.registers inside.numbers inside.order c.args.identity.now c.first_of.result (small_whole _ _ _ c.self.invariant.0) c.self.invariant.0.among
    c.number.ensures.in_range c.self.invariant.1 (rw c.number.ensures.same at c.first_of.ensures))

pub returns-clause-usable : goal.returns-clause-usable
returns-clause-usable c =
    let inside = c.self.inside in
    known_usable inside.held.0 inside.kept.0 inside.numbers inside.order inside.legacies c.self.invariant.0 c.self.invariant.1 c.number.result c.first_of.result c.first_of.ensures

pub returns-clause-known : goal.returns-clause-known
returns-clause-known c =
    let inside = c.self.inside in
    let kept = known_is inside.held.0 inside.kept.0 inside.registers inside.numbers inside.order c.args.identity.now c.first_of.result (small_whole _ _ _ c.self.invariant.0) c.self.invariant.0.among c.number.ensures.in_range c.self.invariant.1
    (rw c.number.ensures.same at c.first_of.ensures) in
    let usable = known_usable inside.held.0 inside.kept.0 inside.numbers inside.order inside.legacies c.self.invariant.0 c.self.invariant.1 c.number.result c.first_of.result c.first_of.ensures in
    rw (ap (λ t. t.given) (sym c.self.view_is)) (found_known (stored inside.held.0 inside.kept.0 inside.registers inside.numbers) c.args.identity.now c.first_of.result kept (usable_small c.first_of.result usable))
