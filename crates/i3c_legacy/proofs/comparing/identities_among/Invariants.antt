use Rattle.std.proofs.Common.{take}
use Rattle.std.specs.List.{All, Contains}
use Rattle.i3c_legacy.proofs.comparing.identities_among.Given as goal

-- the identities so far are among the others
abbrev pub invariant-loop-declared : goal.invariant-loop-declared
invariant-loop-declared l = All (Contains l.others) (take l.declared-index l.identities)
