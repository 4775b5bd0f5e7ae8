-- The tokens of the data that a controller asks for, and of the lengths that it sets.
use Rattle.std.specs.Prelude.{ℕ, List, ◌++◌, codes}
use Rattle.i3c_base.specs.declared.datum.Datum.{Datum}
use Rattle.i3c_base.specs.declared.datum.Direction.{Direction}

-- the first token of the line that tells a datum
abbrev pub datum_name : Datum → List ℕ
datum_name Datum.Pid = codes "pid"
datum_name Datum.Bcr = codes "bcr"
datum_name Datum.Dcr = codes "dcr"
datum_name Datum.Status = codes "status"
datum_name Datum.WriteLength = codes "mwl"
datum_name Datum.ReadLength = codes "mrl"
datum_name Datum.Speed = codes "mxds"
datum_name Datum.Capabilities = codes "caps"

-- the first token of the line that asks for it
abbrev pub datum_token : Datum → List ℕ
datum_token what = codes "get" ++ datum_name what

-- the first token of the line that sets the maximum length of writes or of reads
abbrev pub length_token : Direction → List ℕ
length_token Direction.Write = codes "setmwl"
length_token Direction.Read = codes "setmrl"
