-- What is shown of a script's lines.
use Rattle.std.specs.Prelude.{Bool, not, ◌||◌}
use Rattle.i3c_streams.specs.declared.watching.Watching.{Watching}

-- nothing more is shown than of any script
abbrev pub is_plain : Watching → Bool
is_plain watching = not (watching.numbers || (watching.echo || (watching.explain || (watching.strict || watching.test))))

-- a witness is told something: why lines are refused, or why lines have no form
abbrev pub is_telling : Watching → Bool
is_telling watching = watching.explain || watching.test
