-- The commands of the program, with the arguments of each.
use Rattle.std.specs.Prelude.{pos, true, false, List, [], ◌∷◌, codes, map, Some}
use Rattle.clap.specs.Words.{App, Rule, Shape, Text, new_rule}
use Rattle.clap.specs.Simple.{new_shape}
use Rattle.clap.specs.declared.builder.action.ArgAction.TheVariants.{Append, SetTrue}
use Rattle.clap.specs.declared.builder.value_parser.ValueParser.TheVariants.{Signed, Unsigned}
use Rattle.i3c_task.specs.Options.{NumberOption, devices, jobs, most_lines, most_marks, most_orders, posts, random, seed}
use Rattle.i3c_task.specs.declared.verb.Verb.{Verb}

-- the file, which has to be given
abbrev pub file : Rule
file = record (new_rule (codes "FILE")) { required = true }

-- the flag --name
abbrev pub flag : Text → Rule
flag name = record (new_rule name) { long = Some name; action = Some SetTrue }

-- the option --name with a text behind it
abbrev pub text : Text → Rule
text name = record (new_rule name) { long = Some name; value_names = 1 }

-- the same, each time that it is given
abbrev pub texts : Text → Rule
texts name = record (text name) { action = Some Append }

-- an option with a number behind it, within its bounds
abbrev pub number : NumberOption → Rule
number option = record (text option.name) { parser = Some (Unsigned option.least option.most) }

-- the same, which has to be given
abbrev pub needed : NumberOption → Rule
needed option = record (text option.name) { parser = Some (Signed (pos option.least) (pos option.most)); required = true }

-- the name of a command
abbrev pub name_of : Verb → Text
name_of Verb.Run = codes "run"
name_of Verb.Drive = codes "drive"
name_of Verb.Check = codes "check"
name_of Verb.Draw = codes "draw"
name_of Verb.Explore = codes "explore"
name_of Verb.Trace = codes "trace"
name_of Verb.Wave = codes "wave"
name_of Verb.Stress = codes "stress"

-- the arguments of a command
abbrev pub arguments_of : Verb → List Rule
arguments_of Verb.Run = file ∷ flag (codes "strict") ∷ flag (codes "numbers") ∷ flag (codes "echo") ∷ flag (codes "explain") ∷ flag (codes "test") ∷ []
arguments_of Verb.Drive = flag (codes "json") ∷ text (codes "every") ∷ number most_orders ∷ text (codes "part") ∷ text (codes "order") ∷ number random ∷ number seed ∷ number most_marks ∷ []
arguments_of Verb.Check = file ∷ []
arguments_of Verb.Draw = file ∷ []
arguments_of Verb.Explore = number most_lines ∷ text (codes "part") ∷ number jobs ∷ texts (codes "by") ∷ flag (codes "quiet") ∷ file ∷ []
arguments_of Verb.Trace =
    flag (codes "all") ∷ flag (codes "lint") ∷ flag (codes "explain") ∷ texts (codes "legacy") ∷ flag (codes "vcd") ∷ text (codes "scl")
    ∷ text (codes "sda") ∷ flag (codes "numbers") ∷ file ∷ []
arguments_of Verb.Wave = flag (codes "trace") ∷ flag (codes "plain") ∷ texts (codes "legacy") ∷ file ∷ []
arguments_of Verb.Stress = needed devices ∷ needed posts ∷ flag (codes "totals") ∷ []

-- all commands
abbrev pub verbs : List Verb
verbs = Verb.Run ∷ Verb.Drive ∷ Verb.Check ∷ Verb.Draw ∷ Verb.Explore ∷ Verb.Trace ∷ Verb.Wave ∷ Verb.Stress ∷ []

-- a command with its arguments
abbrev pub command_of : Verb → Shape
command_of verb = record (new_shape (name_of verb)) { rules = arguments_of verb }

-- the program without its commands: its own name is none of the words, and a command has to be
abbrev pub bare : Shape
bare = record (new_shape (codes "i3cbus")) { no_binary_name = true; subcommand_required = true }

-- the program with its commands
abbrev pub program : App
program = record { top = record bare { is_leaf = false }; subs = map command_of verbs }
