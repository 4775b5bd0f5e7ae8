use Rattle.std.proofs.Common.{arith, inr, rules}
use Rattle.std.proofs.lemmas.Grind.{common_steps}
use Rattle.i3c_every.proofs.tracks.reached_from.Goals as goal

pub returns : goal.returns
returns g c = inr (c.in_ok-start.start, c.in_ok-start.ensures, first_of (search rules, grind (arith, common_steps)), c.reach.ensures)
