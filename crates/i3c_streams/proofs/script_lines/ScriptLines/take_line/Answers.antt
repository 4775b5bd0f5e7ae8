use Rattle.std.proofs.Common.{◌≡◌, ◌+◌, ◌-◌, ℕ, List, [], ◌∷◌, ◌++◌, drop, subst, take}
use Rattle.i3c_streams.specs.Outcomes.{HasNoFeed}
use Rattle.i3c_streams.proofs.LinesRead.{gives}
use Rattle.i3c_streams.proofs.script_lines.ScriptLines.take_line.Goals as goal

-- the line that ends `end` bytes behind a place
abbrev Gives : ℕ → ℕ → List ℕ → Type 0
Gives next end bytes = HasNoFeed (take (next + end - next) (drop next bytes)) × (take (next + end + 1) bytes ≡ take next bytes ++ (take (next + end - next) (drop next bytes) ++ 10 ∷ []))

pub returns-clause-line : goal.returns-clause-line
returns-clause-line c =
    let found = c.in-Some.ensures in
    let next = c.args.self.now.next in
    let end = c.in-Some.length in
    λ _. subst (Gives next end) c.deref.ensures.value (gives next end c.deref.result.now found.1 found.2)
