-- The bus starts with its main controller in slot 0.
use Rattle.std.proofs.Common.{◌≡◌, ◌∙◌, None, ap, subst, sym}
use Rattle.i3c_base.specs.State.{IsStart, device_at}
use Rattle.i3c_bus.specs.Readings.{address_of}
use Rattle.i3c_script.specs.declared.piece.Piece.{Piece}
use Rattle.i3c_lines.specs.Keeping.{NamesSlot}
use Rattle.i3c_script.specs.Obeying.{Starts, main_refusal, script}
use Rattle.i3c_script.proofs.Starting.{began}
use Rattle.i3c_script.proofs.stage.Stage.begin.Goals as goal

pub returns : goal.returns
returns g c =
    let names = c.args.names.now in
    let named = c.give_slot.new.self in
    let name = c.args.name.now in
    let setup = c.args.setup in
    let begun = c.new-running.result in
    let unrefused : main_refusal names name setup.identity.bcr ≡ None = sym c.main_refusal.ensures ∙ c.in-None.is in
    let given : NamesSlot names named name c.default.result = record { given = c.in_ok-give_slot.ensures.given; slots = c.in_ok-give_slot.ensures.told; legacies = c.give_slot.ensures.legacies } in
    let start : IsStart setup c.in-Before.legacies begun.state = subst (λ board. IsStart setup board begun.state) c.replace-declared.ensures.value c.new-running.ensures.start in
    let starts : Starts c.in-Before.legacies names name setup begun (script c.replace.new.dest named) = record {
      stage = c.replace.ensures.after;
      start = start;
      settings = c.new-running.ensures.settings;
      cuts = c.new-running.ensures.cuts;
      past = c.new-running.ensures.past ∙ c.in_ok-journal.ensures;
      named = subst (λ slot. NamesSlot names named name slot) (sym c.default.ensures.1 ∙ c.default.ensures.2) given;
    } in
    let at : c.address-address.result ≡ address_of (device_at begun.state 0) = c.address-address.ensures ∙ (λ i. address_of (device_at (c.bus.ensures i) ((sym c.default-2.ensures.1 ∙ c.default-2.ensures.2) i))) in
    began g.L.Listener.heard c.args.self.now c.in-Before.legacies names named name setup c.replace.new.dest begun c.args.listener.now c.hear.new.self c.in-Before.is unrefused starts
    (c.in_ok-hear.ensures ∙ ap (λ a. g.L.Listener.heard c.args.listener.now (Piece.Main name a)) at)
