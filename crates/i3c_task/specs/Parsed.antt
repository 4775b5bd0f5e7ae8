-- What the parser found of the words.
use Rattle.std.specs.Prelude.{◌≡◌, List, [], Some}
use Rattle.clap.specs.Words.{Text, fault_of, found_of, rows_of, subcommand_name_of, subcommand_of, subcommand_rows_of}
use Rattle.clap.specs.declared.parser.matches.ArgMatches.{ArgMatches}
use Rattle.i3c_task.specs.Commands.{name_of, program}
use Rattle.i3c_task.specs.declared.verb.Verb.{Verb}

-- these matches are clap's of the words, in which it finds no fault
abbrev pub IsReadFrom : List Text → ArgMatches → Type 0
IsReadFrom words matches = (fault_of program words ≡ []) × (subcommand_rows_of matches ≡ subcommand_of program words)

-- the verb stands in the matches, with these arguments
abbrev pub IsGiven : ArgMatches → Verb → ArgMatches → Type 0
IsGiven matches verb given = subcommand_rows_of matches ≡ Some (name_of verb, rows_of (found_of given))

-- no verb stands in the matches
abbrev pub NamesNone : ArgMatches → Type 0
NamesNone matches = (verb : Verb) → subcommand_name_of matches ≡ Some (name_of verb) → ⊥
