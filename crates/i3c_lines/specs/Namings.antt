-- The names that commands give, and those by which they mean a device.
use Rattle.std.specs.Prelude.{List, [], ◌∷◌, Option, Some, None}
use Rattle.i3c_lines.specs.declared.command.Command.{Command}
use Rattle.i3c_lines.specs.declared.names.Name.{Name}

-- the name that a command gives to a device or a legacy target
abbrev pub name_given : Command → Option Name
name_given (Command.Legacy name address lvr) = Some name
name_given (Command.Main name setup) = Some name
name_given (Command.Attach name setup) = Some name
name_given _ = None

-- the names by which a command means devices
abbrev pub names_meant : Command → List Name
names_meant (Command.DropOff name) = name ∷ []
names_meant (Command.Raise name byte) = name ∷ []
names_meant (Command.AskJoin name) = name ∷ []
names_meant (Command.AskRole name) = name ∷ []
names_meant (Command.Cut name bit) = name ∷ []
names_meant (Command.As name sent) = name ∷ []
names_meant (Command.PolicyBut kinds but) = but.items
names_meant _ = []
