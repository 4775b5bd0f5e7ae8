use Rattle.std.proofs.Common.{◌==◌}
use Rattle.i3c_device.specs.Enabling.{kinds_in, kinds_of}
use Rattle.i3c_device.proofs.EnabledLaws.{kinds_anew}
use Rattle.i3c_device.proofs.enabled.Enabled.renewed.Goals as goal

pub returns : goal.returns
returns c s low = kinds_anew (s == c.args.index) (kinds_in c.args.self s) (kinds_of c.args.kinds) _ (c.with.ensures s low) (c.with-2.ensures s low) (c.with-3.ensures s low)
