use Rattle.i3c_shared.proofs.Replies.{ask_join_replies}
use Rattle.i3c_shared.proofs.kept.Kept.ask_join.Goals as goal

pub asked-requires : goal.asked-requires
asked-requires g c = ask_join_replies _ c.slot.result _ _ c.in-Ok.ensures.grows.1.makes.step
