use Rattle.std.proofs.Common.{◌≡◌, Bool, List, Some, drop, map}
use Rattle.std.specs.Global.{Vec}
use Rattle.i3c_tracks.specs.declared.question.Question.{Question}
use Rattle.i3c_tracks.specs.Groups.{group_of, keys_of}
use Rattle.i3c_tracks.proofs.GroupLaws.{total}
use Rattle.i3c_tracks.proofs.KeyLaws.{plus}
use Rattle.i3c_tracks.proofs.groups.orders_of.Given as goal

abbrev pub invariant-loop-index : goal.invariant-loop-index
invariant-loop-index l =
    (questions : List Question) → map (λ (key : Vec Bool). key.items) l.keys ≡ keys_of questions l.ends → plus (Some l.orders) (total (group_of questions l.key (drop l.index l.ends))) ≡ total (group_of questions l.key l.ends)
