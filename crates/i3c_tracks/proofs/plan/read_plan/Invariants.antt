use Rattle.std.proofs.Common.{Option}
use Rattle.i3c_tracks.specs.Drafting.{IsBegunBy}
use Rattle.i3c_tracks.specs.Planning.{Outline}
use Rattle.i3c_tracks.proofs.Reading.{IsReadTo}
use Rattle.i3c_tracks.proofs.plan.read_plan.Given as goal

-- whatever the lines say that are left, the file has the outline to which they come
abbrev pub invariant-loop-index : goal.invariant-loop-index
invariant-loop-index l = (first : Option Outline) × IsBegunBy l.draft.body first × IsReadTo l.lines l.index l.draft first
