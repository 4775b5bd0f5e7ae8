-- What each command before the bus does.
use Rattle.std.proofs.Common.{sym, subst}
use Rattle.std.specs.Prelude.{IfOk, MatchOption}
use Rattle.i3c_lines.specs.declared.command.Command.{Command}
use Rattle.i3c_tracks.specs.Drafting.{Begins, Declares}
use Rattle.i3c_tracks.proofs.front.Front.obey.Goals as goal

pub returns-in_ok-add_legacy-in-Legacy : goal.returns-in_ok-add_legacy-in-Legacy
returns-in_ok-add_legacy-in-Legacy c = subst (λ (command : Command). Declares c.args.self.now c.args.number command c.add_legacy.new.self) (sym c.in-Legacy.is) c.in_ok-add_legacy-in-Legacy.ensures

pub returns-in_ok-declare-in-Declare : goal.returns-in_ok-declare-in-Declare
returns-in_ok-declare-in-Declare c = subst (λ (command : Command). Declares c.args.self.now c.args.number command c.declare.new.self) (sym c.in-Declare.is) c.in_ok-declare-in-Declare.ensures

pub returns-in-Main : goal.returns-in-Main
returns-in-Main c =
    subst (λ (command : Command). IfOk c.begin.result (λ made. MatchOption made (Declares c.args.self.now c.args.number command c.begin.new.self) (Begins c.args.self.now c.args.number command c.begin.new.self))) (sym c.in-Main.is) c.begin.ensures
