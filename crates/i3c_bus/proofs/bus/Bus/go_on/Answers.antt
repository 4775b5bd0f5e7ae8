-- After a request a repeated START and the broadcast header are sent.
use Rattle.std.proofs.Common.{◌≡◌, ◌∙◌, ◌↔◌, ◌+◌, ℕ, true, false, [], ◌∷◌, ap, refl, subst, sym}
use Rattle.i3c_base.specs.Cutting.{lost_by}
use Rattle.i3c_base.specs.State.{Held, with_active}
use Rattle.i3c_base.specs.Frames.{AnyLeftIn}
use Rattle.i3c_frame.specs.declared.symbols.Symbol.TheVariants.{Header, Repeated}
use Rattle.i3c_bus.specs.Wire.{IsOn}
use Rattle.i3c_bus.proofs.Heard.{on_is, after_header}
use Rattle.i3c_bus.proofs.Seen.{seen}
use Rattle.i3c_bus.proofs.bus.Bus.go_on.Goals as goal

pub returns-in_default : goal.returns-in_default
returns-in_default g c =
    let active : c.self.inside.active ≡ c.active.result = ap (λ (h : Held). h.state.active) c.self.view_is ∙ sym c.active.ensures in
    let heard : (c.is_heard-ack.result ≡ true) ↔ AnyLeftIn (with_active c.self.inside.devices c.self.inside.active) (lost_by c.args.cuts.now (c.args.start.bits + 9)) =
    subst (λ (a : ℕ). (c.is_heard-ack.result ≡ true) ↔ AnyLeftIn (with_active c.self.inside.devices a) (lost_by c.args.cuts.now (c.args.start.bits + 9))) (sym active) c.is_heard-ack.ensures in record {
      served = refl;
      bits = ap (λ (n : ℕ). c.args.start.bits + n) (sym (after_header c.args.start.served c.in_default.not-Quiet));
      told = (
        _,
        c.tell_repeated.ensures,
        subst (λ (h : Held). IsOn h.state c.args.cuts.now c.args.start.served c.args.start.bits (Repeated ∷ Header 0x7E false c.is_heard-ack.result ∷ [])) c.self.view_is
            (on_is (seen c.self.inside) c.args.cuts.now c.args.start.served c.args.start.bits c.is_heard-ack.result c.in_default.not-Quiet
            heard),
      );
    }
