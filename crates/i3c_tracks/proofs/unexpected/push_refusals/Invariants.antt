use Rattle.std.proofs.Common.{◌≡◌, ◌++◌, drop}
use Rattle.i3c_tracks.specs.Unexpected.{refusals_text}
use Rattle.i3c_tracks.proofs.unexpected.push_refusals.Given as goal

abbrev pub invariant-loop-index : goal.invariant-loop-index
invariant-loop-index l = l.text ++ refusals_text l.lines (drop l.index l.numbers) ≡ l.initial.text ++ refusals_text l.lines l.numbers
