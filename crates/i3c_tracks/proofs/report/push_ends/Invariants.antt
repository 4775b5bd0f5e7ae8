use Rattle.std.proofs.Common.{◌≡◌, ◌++◌, ℕ, List, not}
use Rattle.i3c_tracks.specs.Ends.{AreEndTexts}
use Rattle.i3c_tracks.proofs.report.push_ends.Given as goal

abbrev pub invariant-loop-index : goal.invariant-loop-index
invariant-loop-index l =
    (said : List ℕ) × AreEndTexts l.lines l.plan.blocks.items l.plan.opened.items (not l.plan.risky) l.ends l.index said × (l.text ≡ l.initial.text ++ said)
