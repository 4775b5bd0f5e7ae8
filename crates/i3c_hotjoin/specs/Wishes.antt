-- Wishes to join.
use Rattle.std.specs.Prelude.{Option}
use Rattle.i3c_base.specs.declared.refusals.JoinRefusal.{JoinRefusal}
use Rattle.i3c_base.specs.Refusing.{first_of, join_tests}
use Rattle.i3c_base.specs.State.{Device}

-- why whatever is in a slot may not
abbrev pub refusal_of : Option Device → Option JoinRefusal
refusal_of place = first_of (join_tests place)
