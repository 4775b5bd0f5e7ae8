-- Room, the first request, and how the frame goes on.
use Rattle.std.proofs.Common.{◌≡◌, ◌+◌, ◌++◌, ℕ, refl, subst, sym}
use Rattle.i3c_base.specs.declared.requests.Served.{Served}
use Rattle.i3c_base.specs.Serve.{given_for, header_bits}
use Rattle.i3c_base.specs.State.{State}
use Rattle.i3c_frame.specs.Taps.{Tells}
use Rattle.i3c_ibi.specs.Policies.{Decides}
use Rattle.i3c_frame.proofs.TapLaws.{NotesAll-append}
use Rattle.i3c_bus.specs.Beginning.{Begins, IsWay}
use Rattle.i3c_bus.specs.Wire.{IsBegun}
use Rattle.i3c_bus.proofs.Heard.{on_before}
use Rattle.i3c_bus.proofs.bus.Bus.begin_frame.Goals as goal

pub returns-clause-begins : goal.returns-clause-begins
returns-clause-begins g c =
    let old : State = c.args.self.now.state in
    let served : Served = c.begin-start.result.served in
    let word : ℕ = c.begin-start.result.bits in
    let mid : State = c.begin-start.new.self.state in
    let begins : Begins old c.args.cuts.now served word mid = subst (λ (st : State). Begins st c.args.cuts.now served word mid) c.in_ok-make_room.ensures.state c.begin-start.ensures.begins in
    let told : Tells g.T.Tap.note_gives c.args.tap.now c.begin-start.new.tap (IsBegun old c.args.cuts.now served mid) =
    subst (λ (st : State). Tells g.T.Tap.note_gives c.args.tap.now c.begin-start.new.tap (IsBegun st c.args.cuts.now served mid)) c.in_ok-make_room.ensures.state c.begin-start.ensures.told in
    let on = c.go_on.ensures.told in
    let way : Tells g.T.Tap.note_gives c.args.tap.now c.go_on.new.tap (IsWay old c.args.cuts.now served word mid) = (
      told.0 ++ on.0,
      NotesAll-append g.T.Tap.note_gives c.args.tap.now told.0 c.begin-start.new.tap on.0 c.go_on.new.tap told.1 on.1,
      (told.0, on.0, told.2, on_before old (given_for served) _ served mid c.args.cuts.now word on.0 (begins.serves 0) on.2, refl),
    ) in
    subst (λ (s : Served). (x : ℕ) × Begins old c.args.cuts.now s x mid × (c.go_on.result.bits ≡ x + header_bits s) × Tells g.T.Tap.note_gives c.args.tap.now c.go_on.new.tap (IsWay old c.args.cuts.now s x mid))
    (sym c.go_on.ensures.served) (word, begins, c.go_on.ensures.bits, way)

pub returns-clause-asks : goal.returns-clause-asks
returns-clause-asks g c =
    subst (λ (s : Served). Decides g.P.Policy.verdict_gives c.args.policy.now c.begin-start.new.policy c.args.self.now.state (given_for s)) (sym c.go_on.ensures.served)
    (subst (λ (st : State). Decides g.P.Policy.verdict_gives c.args.policy.now c.begin-start.new.policy st (given_for c.begin-start.result.served)) c.in_ok-make_room.ensures.state c.begin-start.ensures.asks)
