-- What is heard of the bus, part by part.
use Rattle.std.proofs.Common.{◌≡◌, ◌∙◌, ◌++◌, ap, subst}
use Rattle.std.specs.Prelude.{OnOk}
use Rattle.i3c_base.specs.declared.range.TheConstants.{ADDRESSES, SLOTS}
use Rattle.i3c_base.specs.State.{device_at}
use Rattle.i3c_bus.specs.Readings.{address_of}
use Rattle.i3c_script.specs.declared.piece.Piece.{Piece}
use Rattle.i3c_script.specs.Hearing.{all_heard}
use Rattle.i3c_script.specs.Pieces.{devices_pieces, records_pieces, targets_pieces}
use Rattle.i3c_script.proofs.Hearing.{heard_behind}
use Rattle.i3c_script.proofs.show.hear_bus_behind.Goals as goal

pub returns : goal.returns
returns g c =
    let heard = g.L.Listener.heard in
    let st = c.args.bus.now.state in
    let names = c.args.names.now in
    let r = c.hear_records.result in
    let new = c.hear_records.new.listener in
    let devices = devices_pieces g.N.Naming.kept st names SLOTS in
    let targets = targets_pieces g.N.Naming.kept names ADDRESSES in
    let records = records_pieces c.args.count c.args.forgotten st.records in
    let told : OnOk r (new ≡ all_heard heard c.hear_targets.new.listener records) =
    subst (λ kept. OnOk r (new ≡ all_heard heard c.hear_targets.new.listener (records_pieces c.args.count c.args.forgotten kept))) c.records.ensures c.hear_records.ensures in
    let behind = heard_behind heard r c.hear_devices.new.listener c.hear_targets.new.listener new targets records c.in_ok-hear_targets.ensures told in
    let below = heard_behind heard r c.hear.new.self c.hear_devices.new.listener new devices (targets ++ records) c.in_ok-hear_devices.ensures behind in
    let active : c.address.result ≡ address_of (device_at st st.active) = c.address.ensures ∙ ap (λ slot. address_of (device_at st slot)) c.active.ensures in
    subst (λ s. OnOk r (new ≡ all_heard heard s (devices ++ (targets ++ records)))) (c.in_ok-hear.ensures ∙ ap (λ a. heard c.args.listener.now (Piece.Active a)) active) below
