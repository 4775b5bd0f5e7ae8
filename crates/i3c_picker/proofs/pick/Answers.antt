use Rattle.i3c_picker.proofs.Picking.{picked}
use Rattle.i3c_picker.proofs.pick.Goals as goal

pub returns : goal.returns
returns c = picked c.args.table.now.given c.args.table.now.legacy c.args.table.now.declared c.open_addresses.result.0 c.lowest.result c.open_addresses.ensures c.lowest.ensures
