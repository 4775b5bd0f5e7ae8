-- A whole session, or a session that is open already.
use Rattle.i3c_script.proofs.Assigned.{assigned, stays_open}
use Rattle.i3c_script.proofs.assigning.assign.Goals as goal

pub returns-in-Session-clause-assigns : goal.returns-in-Session-clause-assigns
returns-in-Session-clause-assigns g c settings =
    stays_open g.P.Past.kept g.L.Listener.heard c.args.hand c.in-Session.session c.args.bus.now.state settings c.args.cuts.now c.args.past.now c.args.listener.now c.in-Session.is c.requires.fits

pub returns-clause-assigns : goal.returns-clause-assigns
returns-clause-assigns g c settings =
    let all = c.assign_into-role.new.all in
    assigned g.P.Past.kept g.P.Tap.note_gives g.met.P.Past.noted g.L.Listener.heard c.args.bus.now.state c.assign_into-role.new.self.state settings c.args.cuts.now c.args.past.now c.assign_into-role.new.tap all.served all.given.items all.complete c.assign_into-role.result.1
    c.args.listener.now c.answer_session-outcome.new.listener c.answer_session-outcome.result c.assign_into-role.ensures.assigned (λ carried. carried.step) (λ carried. carried.told) c.assign_into-role.ensures.refused c.answer_session-outcome.ensures
