use Rattle.std.proofs.Common.{◌∙◌, ◌++◌, ◌∷◌, [], ◌<◌, List, append-nil, length-append, ap, arith, length, sym}
use Rattle.std.specs.Option.{option_to_list}
use Rattle.std.proofs.Common.{option_map}
use Rattle.i3c_table.specs.Rows.{entry_of_row}
use Rattle.i3c_deftgts.specs.declared.entries.Entry.{Entry}
use Rattle.i3c_deftgts.specs.Entries.{device_at, given_in, upwards}
use Rattle.i3c_deftgts.proofs.TableLaws.{none_left, pushed_here, room_for}
use Rattle.i3c_deftgts.proofs.listing.push_devices.Goals as goal

pub push-requires : goal.push-requires
push-requires c =
    let given = c.args.table.now.given in
    let before : List Entry = c.loop-address.entries.items in
    let room : length before < 128 = room_for given c.loop-address.left.0 c.without-left.result.0 c.in-Some.address 128 (entry_of_row c.in-Some-row_of.row) before _ c.in-Some.ensures c.without-left.ensures.not_in_it c.without-left.ensures.others
    c.in-Some-row_of.ensures.found.1 c.loop-address.invariant (omega (arith, c.requires, length-append c.args.entries.now.items (upwards device_at 0 (given_in c.args.addresses.0 given)))) in
    (omega arith, room)

pub loop-address-preserved-in-Some-row_of : goal.loop-address-preserved-in-Some-row_of
loop-address-preserved-in-Some-row_of c =
    pushed_here c.args.table.now.given c.loop-address.left.0 c.without-left.result.0 c.in-Some.address c.loop-address.entries.items c.push.new.self.items _ c.in-Some.ensures c.without-left.ensures.not_in_it c.without-left.ensures.others
    (c.push.ensures.items ∙ ap (λ e. c.loop-address.entries.items ++ e) (ap (λ e. e ∷ []) c.device_entry.ensures
    ∙ (ap (λ a. device_at a (entry_of_row c.in-Some-row_of.row) ∷ []) c.in-Some-row_of.ensures.found.0 ∙ sym (ap (λ o. option_to_list (option_map (device_at c.in-Some.address) o)) c.in-Some-row_of.ensures.found.1))))
    c.loop-address.invariant

pub loop-address-preserved : goal.loop-address-preserved
loop-address-preserved c =
    pushed_here c.args.table.now.given c.loop-address.left.0 c.without-left.result.0 c.in-Some.address c.loop-address.entries.items c.loop-address.entries.items _ c.in-Some.ensures c.without-left.ensures.not_in_it c.without-left.ensures.others
    (sym (append-nil c.loop-address.entries.items) ∙ sym (ap (λ o. c.loop-address.entries.items ++ option_to_list (option_map (device_at c.in-Some.address) o)) c.in_default-row_of.ensures.found)) c.loop-address.invariant

pub returns : goal.returns
returns c = sym (append-nil c.loop-address.entries.items) ∙ (ap (λ e. c.loop-address.entries.items ++ e) (sym (none_left c.args.table.now.given c.loop-address.left.0 c.in_default.ensures)) ∙ c.loop-address.invariant)
