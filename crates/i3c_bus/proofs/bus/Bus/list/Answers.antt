-- A list is a frame to all.
use Rattle.std.proofs.Common.{◌≡◌, ◌+◌, ◌∙◌, ℕ, ap, refl, sym}
use Rattle.i3c_base.specs.Cutting.{lost_by}
use Rattle.i3c_base.specs.Frames.{list, list_bits}
use Rattle.i3c_base.specs.Serve.{emptied, given_for}
use Rattle.i3c_base.specs.State.{State}
use Rattle.i3c_step.specs.declared.events.Event.{Event}
use Rattle.i3c_step.proofs.Steps.{not_cut}
use Rattle.i3c_bus.specs.Wire.{IsListPart}
use Rattle.i3c_bus.proofs.Listing.{KeepsTable, bits_before, list_before, serves_keep}
use Rattle.i3c_bus.proofs.ToAll.{announced, begun_uncut}
use Rattle.i3c_bus.proofs.bus.Bus.list.Goals as goal

pub drop_lost-requires : goal.drop_lost-requires
drop_lost-requires g c =
    let last : ℕ = c.in-Ok.start.bits + c.send_list-bits.result in
    ap (λ (st : State). lost_by c.args.cuts.now last st.active) c.send_list-bits.ensures.state
    ∙ not_cut c.begin_frame.new.self.state c.args.cuts.now last
    (begun_uncut c.args.self.now.state c.begin_frame.new.self.state c.args.cuts.now c.in-Ok.start.served c.in-Ok.ensures.begins.0 c.in-Ok.ensures.begins.1 (sym c.cuts_active.ensures ∙ c.if-cuts_active.false))

pub returns-clause-carried : goal.returns-clause-carried
returns-clause-carried g c =
    let old : State = c.args.self.now.state in
    let mid : State = c.begin_frame.new.self.state in
    let keeps : KeepsTable old mid = serves_keep old (given_for c.in-Ok.start.served) _ c.in-Ok.start.served mid (c.in-Ok.ensures.begins.1.serves 0) in
    let bits : c.send_list-bits.result ≡ list_bits old = c.send_list-bits.ensures.bits ∙ bits_before old mid keeps in
    let told = c.send_list-bits.ensures.told in
    announced g.T.Tap.note_gives c.args.tap.now c.begin_frame.new.tap c.send_list-bits.new.tap c.args.self.now c.begin_frame.new.self c.send_list-bits.new.self c.drop_lost.new.self
    (Event.SendList (given_for c.in-Ok.start.served) c.args.cuts.now) c.args.cuts.now c.in-Ok.start.served c.in-Ok.ensures.begins.0 c.in-Ok.start.bits (list_bits old) c.args.role.now list (IsListPart old)
    (record { tests = refl; acts = λ a. a; wire = λ symbols w. w; records = λ st. refl; stands = λ st. (refl, refl) })
    c.requires.fits (sym c.cuts_active.ensures ∙ c.if-cuts_active.false) c.in-Ok.ensures.begins.1 c.in-Ok.ensures.begins.2 c.in-Ok.ensures.begins.3
    (told.0, told.1, (told.2.0, list_before old mid told.2.0 keeps told.2.1, told.2.2))
    c.send_list-bits.ensures.state (c.drop_lost.ensures.state ∙ ap (λ n. emptied (lost_by c.args.cuts.now (c.in-Ok.start.bits + n)) c.send_list-bits.new.self.state) bits) c.in-Ok.ensures.room c.send_list-bits.ensures.room c.drop_lost.ensures.room
