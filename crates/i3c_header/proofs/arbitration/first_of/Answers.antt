-- The first winner's place holds the request whose key was read.
use Rattle.std.proofs.Common.{◌≡◌, ◌<◌, ◌==◌, false, ap, arith, length, sym, ◌∙◌}
use Rattle.i3c_base.specs.Cutting.{no_cuts}
use Rattle.i3c_base.proofs.CutLaws.{none_uncut}
use Rattle.i3c_wires.proofs.Uncut.{uncut_holders, uncut_least}
use Rattle.i3c_header.proofs.KeyLaws.{Stands, length-keyed, least_is_first, someone_wins, winner_stands}
use Rattle.i3c_header.proofs.arbitration.first_of.Given.{Over}
use Rattle.i3c_header.proofs.arbitration.first_of.Goals as goal
use Rattle.i3c_header.proofs.arbitration.first_of.Goals.{After-deref-2, After-index}

-- there is a winner
some_winner : (g : Over) (c : After-deref-2 g) → 0 < length c.deref-2.result.now
some_winner g c =
    let contenders = c.deref.ensures.0 ∙ c.contend.ensures.keys in
    let some_request : (length c.args.requests.now == 0) ≡ false = sym c.is_empty.ensures ∙ c.if-is_empty.false in
    someone_wins no_cuts c.deref.result.now 8 c.contest_uncut-outcome.result.winners.items c.deref-2.result.now
    none_uncut (ap (λ n. n == 0) (ap length contenders ∙ length-keyed 0 c.args.requests.now) ∙ some_request) c.contest_uncut-outcome.ensures.none c.deref-2.ensures.0

-- its place holds a request whose key was read
first_winner : (g : Over) (c : After-index g) → 0 < length c.deref-2.result.now → Stands c.args.requests.now 0 c.contest_uncut-outcome.result.bits c.index.result
first_winner g c some =
    winner_stands c.args.requests.now c.contest_uncut-outcome.result.bits c.deref.result.now c.contest_uncut-outcome.result.winners.items c.deref-2.result.now c.index-deref-0.result c.index.result
    (c.deref.ensures.0 ∙ c.contend.ensures.keys) (c.contest_uncut-outcome.ensures.winners ∙ uncut_holders no_cuts c.deref.result.now 8 c.contest_uncut-outcome.result.bits none_uncut) c.deref-2.ensures.0 some c.index-deref-0.is c.index.ensures.same

pub bounds-deref-0 : goal.bounds-deref-0
bounds-deref-0 g c = some_winner g c

pub bounds-requests-index : goal.bounds-requests-index
bounds-requests-index g c = let s = first_winner g c (some_winner g (goal.at.bounds-requests-index g c).After-deref-2) in omega (arith, s.low)

pub returns : goal.returns
returns g c =
    let at = goal.at.returns g c in
    least_is_first c.args.requests.now c.deref.result.now c.contest_uncut-outcome.result.bits c.index.result c.index-requests-index.result
    (c.deref.ensures.0 ∙ c.contend.ensures.keys) c.requires.lawful (uncut_least no_cuts c.deref.result.now 8 c.contest_uncut-outcome.result.bits none_uncut c.contest_uncut-outcome.ensures.least)
    (first_winner g at.After-index (some_winner g at.After-deref-2)) c.index-requests-index.is
