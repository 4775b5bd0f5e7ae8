use Rattle.std.proofs.Common.{◌∙◌, ap, sym, map}
use Rattle.std.specs.String.{string_bytes}
use Rattle.clap.specs.Words.{fault_of, is_simple, is_simple_and_free, subcommand_of}
use Rattle.i3c_task.proofs.Verbs.{free, simple}
use Rattle.i3c_task.proofs.task.accepted.Goals as goal

-- clap's own contract, of the parser that is the program
pub returns : goal.returns
returns c left =
    let words = map string_bytes c.args.words.now in
    let app = c.in_ok-parser.ensures left in
    let read = c.in_ok-try_get_matches_from.ensures in (
      ap (λ a. fault_of a words) (sym app) ∙ read.kinds (ap is_simple_and_free app ∙ free),
      (read.matches (ap is_simple app ∙ simple)).1 ∙ ap (λ a. subcommand_of a words) app,
    )
