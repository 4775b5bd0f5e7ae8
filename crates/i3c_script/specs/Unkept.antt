-- A past of which nothing is kept.
use Rattle.std.specs.Prelude.{⊤, false, []}
use Rattle.i3c_script.specs.declared.past.Unkept.{Unkept}
use Rattle.i3c_script.specs.Situations.{PastKept}

-- whatever was sent, and whoever was active, it is the same
abbrev pub no_past : PastKept Unkept
no_past = record { keeps_wire = false; notes = λ old symbol new. ⊤; ends = λ past slot records. past; symbols = λ past. []; ended = λ past. [] }
