-- Nobody asks, or the first request is turned down.
use Rattle.std.proofs.Common.{◌≡◌, ◌∙◌, ◌↔◌, ℕ, true, false, [], ◌∷◌, ap, refl, subst, sym}
use Rattle.i3c_base.specs.Cutting.{lost_by}
use Rattle.i3c_base.specs.Serve.{Serves, refuse_all}
use Rattle.i3c_base.specs.State.{HasDevices, Held, with_active}
use Rattle.i3c_base.specs.declared.requests.Served.{Served}
use Rattle.i3c_base.specs.Frames.{AnyLeftIn}
use Rattle.i3c_frame.specs.Taps.{NotesAll}
use Rattle.i3c_frame.specs.declared.symbols.Symbol.TheVariants.{Header, Start}
use Rattle.i3c_ibi.specs.Wire.{request_header}
use Rattle.i3c_bus.specs.Wire.{IsAck, IsBegun}
use Rattle.i3c_base.proofs.Verdicts.{refuses}
use Rattle.i3c_bus.proofs.Seen.{has_devices}
use Rattle.i3c_bus.proofs.bus.Bus.begin_refusing.Goals as goal
use Rattle.i3c_bus.proofs.bus.Bus.begin_refusing.Goals.{in-None, in-Some}

pub returns-clause-serves : goal.returns-clause-serves
returns-clause-serves g c lost =
    let same : HasDevices c.args.self.now.state c.self.inside.devices c.active-active.result = has_devices _ _ _ c.self.view_is c.active-active.ensures in
    elim c.match-first_request.branch [
      | in-None w ↦ subst (λ (s : Served). Serves c.args.self.now.state refuse_all lost s c.args.self.now.state) (sym w.served-is) (w.in-None.ensures c.args.self.now.state same, refl)
      | in-Some w ↦ subst (λ (s : Served). Serves c.args.self.now.state refuse_all lost s c.args.self.now.state) (sym w.served-is)
          ((w.in-Some.request, w.in-Some.ensures c.args.self.now.state same, refuses c.args.self.now.state w.in-Some.request), refl)
    ]

pub returns-clause-told : goal.returns-clause-told
returns-clause-told g c =
    let active : c.self.inside.active ≡ c.active-active.result = ap (λ (h : Held). h.state.active) c.self.view_is ∙ sym c.active-active.ensures in
    let same : HasDevices c.args.self.now.state c.self.inside.devices c.active-active.result = has_devices _ _ _ c.self.view_is c.active-active.ensures in
    elim c.match-first_request.branch [
      | in-None w ↦
          let heard : (w.is_heard-ack.result ≡ true) ↔ AnyLeftIn (with_active c.self.inside.devices c.self.inside.active) (lost_by c.args.cuts.now 0) =
          subst (λ (a : ℕ). (w.is_heard-ack.result ≡ true) ↔ AnyLeftIn (with_active c.self.inside.devices a) (lost_by c.args.cuts.now 0)) (sym active) w.is_heard-ack.ensures in
          let acked : IsAck c.args.self.now.state c.args.cuts.now 0 w.is_heard-ack.result =
          subst (λ (h : Held). IsAck h.state c.args.cuts.now 0 w.is_heard-ack.result) c.self.view_is heard in (
            Start ∷ Header 0x7E false w.is_heard-ack.result ∷ [],
            subst (λ tap. NotesAll g.T.Tap.note_gives c.args.tap.now (Start ∷ Header 0x7E false w.is_heard-ack.result ∷ []) tap) (sym w.tap-is) w.tell_broadcast.ensures,
            subst (λ (s : Served). IsBegun c.args.self.now.state c.args.cuts.now s c.args.self.now.state (Start ∷ Header 0x7E false w.is_heard-ack.result ∷ [])) (sym w.served-is) (w.is_heard-ack.result, acked, refl),
          )
      | in-Some w ↦ (
        Start ∷ request_header w.in-Some.request false ∷ [],
        subst (λ tap. NotesAll g.T.Tap.note_gives c.args.tap.now (Start ∷ request_header w.in-Some.request false ∷ []) tap) (sym w.tap-is) w.tell_request.ensures,
        subst (λ (s : Served). IsBegun c.args.self.now.state c.args.cuts.now s c.args.self.now.state (Start ∷ request_header w.in-Some.request false ∷ [])) (sym w.served-is)
            (w.in-Some.request, w.in-Some.ensures c.args.self.now.state same, refl),
      )
    ]
