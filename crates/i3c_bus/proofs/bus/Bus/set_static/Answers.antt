-- SETDASA is a frame with its own part.
use Rattle.std.proofs.Common.{◌≡◌, ◌∙◌, IfSome, List, Option, Some, refl, subst, sym, ap}
use Rattle.i3c_base.specs.declared.answers.Answer.{Answer}
use Rattle.i3c_base.specs.declared.identity.Identity.{Identity}
use Rattle.i3c_base.specs.declared.requests.Served.{Served}
use Rattle.i3c_base.specs.Frames.{SetsStatic, kinds_bits}
use Rattle.i3c_base.specs.Serve.{given_for}
use Rattle.i3c_base.specs.State.{Board, Held, State, declared_at, declared_in}
use Rattle.i3c_frame.specs.Taps.{Tells}
use Rattle.i3c_step.specs.declared.events.Event.{Event}
use Rattle.i3c_step.proofs.Addresses.{IsSettled, settled_served}
use Rattle.i3c_bus.specs.Statics.{IsFixedAt}
use Rattle.i3c_bus.specs.Wire.{IsStaticPart}
use Rattle.i3c_bus.proofs.Settings.{given_same, static_before, static_free, statics_leave}
use Rattle.i3c_bus.proofs.ToAll.{begun_uncut}
use Rattle.i3c_bus.proofs.Transfers.{transferred}
use Rattle.i3c_bus.proofs.bus.Bus.set_static.Goals as goal

pub static_part-answer-requires-clause-left : goal.static_part-answer-requires-clause-left
static_part-answer-requires-clause-left g c =
    begun_uncut c.args.self.now.state c.begin_frame.new.self.state c.args.cuts.now c.in-Ok.start.served c.in-Ok.ensures.begins.0 c.in-Ok.ensures.begins.1 (sym c.cuts_active.ensures ∙ c.if-cuts_active.false)

pub static_part-answer-requires-clause-declared : goal.static_part-answer-requires-clause-declared
static_part-answer-requires-clause-declared g c =
    let settled : IsSettled c.args.self.now.state c.begin_frame.new.self.state =
    settled_served c.args.self.now.state (given_for c.in-Ok.start.served) _ c.in-Ok.start.served c.begin_frame.new.self.state (c.in-Ok.ensures.begins.1.serves 0) in
    ap (λ ds. declared_in ds c.args.fixed) settled.declared
    ∙ (ap (λ (h : Held). declared_at h.state c.args.fixed) (sym c.self.view_is)
    ∙ (ap (λ (b : Board). declared_in b.declared c.args.fixed) (sym c.legacies.ensures) ∙ (sym c.declared_at.ensures.same ∙ c.in-Some.is)))

pub static_part-answer-requires-clause-fixed : goal.static_part-answer-requires-clause-fixed
static_part-answer-requires-clause-fixed g c =
    let settled : IsSettled c.args.self.now.state c.begin_frame.new.self.state =
    settled_served c.args.self.now.state (given_for c.in-Ok.start.served) _ c.in-Ok.start.served c.begin_frame.new.self.state (c.in-Ok.ensures.begins.1.serves 0) in
    subst (λ (ds : List (Option Identity)). IsFixedAt ds c.in-Some.identity c.args.fixed) (sym settled.declared)
    (subst (λ (h : Held). IsFixedAt h.state.declared c.in-Some.identity c.args.fixed) c.self.view_is
    (subst (λ (b : Board). IsFixedAt b.declared c.in-Some.identity c.args.fixed) c.legacies.ensures
    (subst (λ (o : Option Identity). IfSome o (λ i. IsFixedAt c.legacies.result.now.declared i c.args.fixed)) c.in-Some.is c.declared_at.ensures.fixed)))

pub static_part-answer-requires-clause-given : goal.static_part-answer-requires-clause-given
static_part-answer-requires-clause-given g c =
    let settled : IsSettled c.args.self.now.state c.begin_frame.new.self.state =
    settled_served c.args.self.now.state (given_for c.in-Ok.start.served) _ c.in-Ok.start.served c.begin_frame.new.self.state (c.in-Ok.ensures.begins.1.serves 0) in
    given_same c.args.self.now.state c.begin_frame.new.self.state c.in-Some.identity c.args.new settled (sym c.may_give.ensures.same ∙ c.if-not-may_give.false)

pub returns-clause-carried : goal.returns-clause-carried
returns-clause-carried g c =
    let old : State = c.args.self.now.state in
    let mid : State = c.begin_frame.new.self.state in
    let served : Served = c.in-Ok.start.served in
    let answer : Answer = c.static_part-answer.result in
    let begins = c.in-Ok.ensures.begins in
    let part = c.static_part-answer.ensures.told in
    let declared : declared_at old c.args.fixed ≡ Some c.in-Some.identity =
    ap (λ (h : Held). declared_at h.state c.args.fixed) (sym c.self.view_is)
    ∙ (ap (λ (b : Board). declared_in b.declared c.args.fixed) (sym c.legacies.ensures) ∙ (sym c.declared_at.ensures.same ∙ c.in-Some.is)) in
    let told : Tells g.T.Tap.note_gives c.begin_frame.new.tap c.static_part-answer.new.tap (IsStaticPart old c.args.cuts.now c.args.fixed c.args.new answer c.in-Ok.start.bits) =
    (part.0, part.1, static_before old (given_for served) _ served mid c.args.cuts.now c.args.fixed c.args.new answer c.in-Ok.start.bits part.0 (begins.1.serves 0) part.2) in
    transferred g.T.Tap.note_gives c.args.tap.now c.begin_frame.new.tap c.static_part-answer.new.tap c.args.self.now c.begin_frame.new.self c.static_part-answer.new.self
    (Event.SetStatic c.args.fixed c.args.new (given_for served) c.args.cuts.now) c.args.cuts.now served answer begins.0 c.in-Ok.start.bits (kinds_bits (Some c.args.fixed) answer) c.args.role.now
    (SetsStatic c.args.fixed c.args.new answer) (IsStaticPart old c.args.cuts.now c.args.fixed c.args.new answer)
    (static_free old c.args.cuts.now c.args.fixed c.args.new c.in-Some.identity c.requires.fits.1 (sym c.cuts_active.ensures ∙ c.if-cuts_active.false) declared
    (sym c.may_give.ensures.same ∙ c.if-not-may_give.false))
    (λ frame. (record { served = served; answer = answer }, refl, frame)) (λ symbols w. w) (λ lost done h. statics_leave c.args.fixed c.args.new answer lost mid done h)
    c.requires.fits begins.1 begins.2 begins.3 told c.static_part-answer.ensures.sets c.in-Ok.ensures.room c.static_part-answer.ensures.room
