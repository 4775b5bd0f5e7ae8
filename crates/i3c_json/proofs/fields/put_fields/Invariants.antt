use Rattle.std.proofs.Common.{◌≡◌, ◌≤◌, length, take}
use Rattle.serde_json.specs.View.{members_view}
use Rattle.i3c_json.specs.Fields.{put_fields}
use Rattle.i3c_json.proofs.fields.put_fields.Given as goal

-- the fields of the pieces that are left, put over those so far
abbrev pub invariant-loop-left : goal.invariant-loop-left
invariant-loop-left l = (put_fields (take l.left l.fn.pieces) (members_view l.fields.entries) ≡ put_fields l.fn.pieces (members_view l.fn.fields.entries)) × (l.left ≤ length l.fn.pieces)

abbrev pub decreases-loop-left : goal.decreases-loop-left
decreases-loop-left l = l.left
