use Rattle.i3c_lines.specs.declared.names.Place.{Place}
use Rattle.i3c_lines.proofs.NameLaws.{known_after}
use Rattle.i3c_lines.proofs.names.Names.leave_slot.Goals as goal

pub returns-in_ok-insert-in-Some-place_of-clause-known : goal.returns-in_ok-insert-in-Some-place_of-clause-known
returns-in_ok-insert-in-Some-place_of-clause-known c = λ other known. known_after _ Place.Gone _ _ (c.in_ok-insert-in-Some-place_of.ensures.updates.0 other) known
