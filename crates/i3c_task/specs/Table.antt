-- The table of the help, as the parser reads it.
use Rattle.std.specs.Prelude.{true, map, Some}
use Rattle.clap.specs.Words.{Rule, Shape, Text, new_rule}
use Rattle.clap.specs.Simple.{new_shape}
use Rattle.i3c_task.specs.Commands.{flag, text, texts}
use Rattle.i3c_task.specs.declared.argument.Argument.{Argument}
use Rattle.i3c_task.specs.declared.argument.Takes.{Takes}
use Rattle.i3c_task.specs.declared.verb.Usage.{Usage}

-- an argument of this name, by what follows the name
abbrev pub rule_taking : Text → Takes → Rule
rule_taking name Takes.File = record (new_rule name) { required = true }
rule_taking name Takes.Nothing = flag name
rule_taking name (Takes.Text value) = text name
rule_taking name (Takes.Texts value) = texts name
rule_taking name (Takes.Number value read) = record (text name) { parser = Some read }
rule_taking name (Takes.Needed value read) = record (text name) { parser = Some read; required = true }

-- an argument of the table
abbrev pub rule_of_argument : Argument → Rule
rule_of_argument argument = rule_taking argument.name.now argument.takes

-- a command of the table
abbrev pub shape_of_usage : Usage → Shape
shape_of_usage usage = record (new_shape usage.name.now) { rules = map rule_of_argument usage.arguments.now }
