use Rattle.std.proofs.Common.{rules}
use Rattle.i3c_shared.proofs.Replies.{drop_replies}
use Rattle.i3c_shared.proofs.kept.Kept.drop_off.Goals as goal

pub returns-in_default-clause-drops : goal.returns-in_default-clause-drops
returns-in_default-clause-drops g c = search rules

pub returns-in_default-clause-prefix : goal.returns-in_default-clause-prefix
returns-in_default-clause-prefix g c = search rules

pub returns-in-Ok-dropped-clause-drops : goal.returns-in-Ok-dropped-clause-drops
returns-in-Ok-dropped-clause-drops g c = search rules

pub returns-in-Ok-dropped-clause-prefix : goal.returns-in-Ok-dropped-clause-prefix
returns-in-Ok-dropped-clause-prefix g c = search rules

pub returns-in-Ok-dropped-clause-all : goal.returns-in-Ok-dropped-clause-all
returns-in-Ok-dropped-clause-all g c = search rules

pub returns-in-Err-clause-drops : goal.returns-in-Err-clause-drops
returns-in-Err-clause-drops g c = search rules

pub returns-in-Err-clause-prefix : goal.returns-in-Err-clause-prefix
returns-in-Err-clause-prefix g c = search rules

pub returns-in-Err-clause-stays : goal.returns-in-Err-clause-stays
returns-in-Err-clause-stays g c = search rules

pub dropped-requires : goal.dropped-requires
dropped-requires g c = drop_replies _ c.slot-slot.result _ _ c.in-Ok.ensures.grows.1.makes.step
