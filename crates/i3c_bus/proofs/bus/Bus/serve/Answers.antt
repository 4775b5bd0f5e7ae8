-- A frame that serves the first request, and stops.
use Rattle.std.proofs.Common.{rules, ◌∙◌, ℕ, ap, refl, subst, sym, arith}
use Rattle.i3c_base.specs.declared.requests.Served.{Served}
use Rattle.i3c_base.specs.State.{State}
use Rattle.i3c_base.specs.Serve.{given_for}
use Rattle.i3c_step.specs.declared.events.Event.{Event}
use Rattle.i3c_step.specs.declared.replies.Reply.{Reply}
use Rattle.i3c_bus.specs.declared.hand.Hand.{Hand}
use Rattle.i3c_bus.specs.Beginning.{Begins, LeavesBy}
use Rattle.i3c_step.specs.Step.{Nothing}
use Rattle.i3c_frame.specs.Taps.{Tells}
use Rattle.i3c_bus.specs.Wire.{IsBegun}
use Rattle.i3c_step.proofs.Acting.{acting}
use Rattle.i3c_bus.proofs.Framing.{fits_left, frame_by, frame_free, stands_still, tells_serve}
use Rattle.i3c_step.proofs.Steps.{not_cut}
use Rattle.i3c_bus.proofs.ToAll.{begun_uncut}
use Rattle.i3c_bus.proofs.bus.Bus.serve.Goals as goal

pub returns-clause-carried : goal.returns-clause-carried
returns-clause-carried g c =
    let old : State = c.args.self.now.state in
    let served : Served = c.begin-start.result.served in
    let word : ℕ = c.begin-start.result.bits in
    let mid : State = c.begin-start.new.self.state in
    let begins : Begins old c.args.cuts.now served word mid = subst (λ (st : State). Begins st c.args.cuts.now served word mid) c.make_room.ensures.state c.begin-start.ensures.begins in
    let told : Tells g.T.Tap.note_gives c.args.tap.now c.begin-start.new.tap (IsBegun old c.args.cuts.now served mid) =
    subst (λ (st : State). Tells g.T.Tap.note_gives c.args.tap.now c.begin-start.new.tap (IsBegun st c.args.cuts.now served mid)) c.make_room.ensures.state c.begin-start.ensures.told in
    let leaves : LeavesBy c.args.cuts.now word Nothing mid c.drop_lost.new.self.state = (mid, refl, c.drop_lost.ensures.state) in record {
      step = acting old (Event.Serve (given_for served) c.args.cuts.now) (Reply.Served served) c.drop_lost.new.self.state
          (frame_free old c.args.cuts.now c.requires.fits.1 (sym c.cuts_active.ensures ∙ c.if-cuts_active.false))
          (served, refl, frame_by old c.args.cuts.now served word 0 word Nothing mid c.drop_lost.new.self.state begins (omega arith) leaves);
      told = tells_serve g.T.Tap.note_gives c.args.tap.now c.begin-start.new.tap c.note.new.self old mid c.drop_lost.new.self.state c.args.cuts.now served
          (ap (λ (st : State). st.records) c.drop_lost.ensures.state) told c.note.ensures;
      fits = fits_left (Hand.Role c.args.role.now) old c.args.cuts.now served word word Nothing mid c.drop_lost.new.self.state begins (stands_still mid) leaves c.requires.fits;
      room = record {
        enough = λ room short. cc;
        lasts = λ room none. c.drop_lost.ensures.room ∙ c.begin-start.ensures.room none;
      };
    }

pub drop_lost-requires : goal.drop_lost-requires
drop_lost-requires g c =
    let begins : Begins c.args.self.now.state c.args.cuts.now c.begin-start.result.served c.begin-start.result.bits c.begin-start.new.self.state =
    subst (λ (st : State). Begins st c.args.cuts.now c.begin-start.result.served c.begin-start.result.bits c.begin-start.new.self.state) c.make_room.ensures.state c.begin-start.ensures.begins in
    not_cut c.begin-start.new.self.state c.args.cuts.now c.begin-start.result.bits
    (begun_uncut c.args.self.now.state c.begin-start.new.self.state c.args.cuts.now c.begin-start.result.served c.begin-start.result.bits begins (sym c.cuts_active.ensures ∙ c.if-cuts_active.false))

pub returns-then-is_err-clause-carried : goal.returns-then-is_err-clause-carried
returns-then-is_err-clause-carried g c = search rules
