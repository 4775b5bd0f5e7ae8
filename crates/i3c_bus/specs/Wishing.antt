-- What a slot's device wishes for.
use Rattle.std.specs.Prelude.{Option, Some, None}
use Rattle.i3c_base.specs.declared.requests.Request.{Request}
use Rattle.i3c_base.specs.State.{Device}
use Rattle.i3c_device.specs.Wishing.{choice_of}

-- the request that the device of a slot, if there is one, would drive if each kind of its events was enabled
abbrev pub wish_of : Option Device → Option Request
wish_of None = None
wish_of (Some d) = choice_of d.address d
