use Rattle.std.proofs.Common.{◌≡◌, ◌++◌, ℕ, List, OnOk, Result, subst, sym}
use Rattle.i3c_lines.specs.declared.command.Command.{Command}
use Rattle.i3c_lines.specs.Printing.{command_text}
use Rattle.i3c_lines.proofs.command.Command.push.Goals as goal

-- the text of a command goes out, where it is this one
pushed : {E : Type 0} (old new : List ℕ) (result : Result (Unit {0}) E) (command is : Command) → command ≡ is → OnOk result (new ≡ old ++ command_text is) → OnOk result (new ≡ old ++ command_text command)
pushed old new result command is same out = subst (λ c. OnOk result (new ≡ old ++ command_text c)) (sym same) out

pub returns-in-Legacy : goal.returns-in-Legacy
returns-in-Legacy c = pushed _ _ _ _ _ c.in-Legacy.is c.push_legacy.ensures

pub returns-in-Declare : goal.returns-in-Declare
returns-in-Declare c = pushed _ _ _ _ _ c.in-Declare.is c.push_declare.ensures

pub returns-in-Main : goal.returns-in-Main
returns-in-Main c = pushed _ _ _ _ _ c.in-Main.is c.push_device.ensures

pub returns-in-Attach : goal.returns-in-Attach
returns-in-Attach c = pushed _ _ _ _ _ c.in-Attach.is c.push_device-in-Attach.ensures

pub returns-in-DropOff : goal.returns-in-DropOff
returns-in-DropOff c = pushed _ _ _ _ _ c.in-DropOff.is c.push_named.ensures

pub returns-in-Raise : goal.returns-in-Raise
returns-in-Raise c = pushed _ _ _ _ _ c.in-Raise.is c.push_raise.ensures

pub returns-in-AskJoin : goal.returns-in-AskJoin
returns-in-AskJoin c = pushed _ _ _ _ _ c.in-AskJoin.is c.push_named-in-AskJoin.ensures

pub returns-in-AskRole : goal.returns-in-AskRole
returns-in-AskRole c = pushed _ _ _ _ _ c.in-AskRole.is c.push_named-in-AskRole.ensures

pub returns-in-Frame : goal.returns-in-Frame
returns-in-Frame c = pushed _ _ _ _ _ c.in-Frame.is c.push_frame.ensures

pub returns-in-HandOver : goal.returns-in-HandOver
returns-in-HandOver c = pushed _ _ _ _ _ c.in-HandOver.is c.push_addressed.ensures

pub returns-in-Open : goal.returns-in-Open
returns-in-Open c = pushed _ _ _ _ _ c.in-Open.is c.push.ensures.appended

pub returns-in-Round : goal.returns-in-Round
returns-in-Round c = pushed _ _ _ _ _ c.in-Round.is c.push-in-Round.ensures.appended

pub returns-in-End : goal.returns-in-End
returns-in-End c = pushed _ _ _ _ _ c.in-End.is c.push-in-End.ensures.appended

pub returns-in-Daa : goal.returns-in-Daa
returns-in-Daa c = pushed _ _ _ _ _ c.in-Daa.is c.push-in-Daa.ensures.appended

pub returns-in-Policy : goal.returns-in-Policy
returns-in-Policy c = pushed _ _ _ _ _ c.in-Policy.is c.push_policy.ensures

pub returns-in-Cut : goal.returns-in-Cut
returns-in-Cut c = pushed _ _ _ _ _ c.in-Cut.is c.push_cut.ensures

pub returns-in-Show : goal.returns-in-Show
returns-in-Show c = pushed _ _ _ _ _ c.in-Show.is c.push-in-Show.ensures.appended

pub returns-in-ShowAll : goal.returns-in-ShowAll
returns-in-ShowAll c = pushed _ _ _ _ _ c.in-ShowAll.is c.push-in-ShowAll.ensures.appended

pub returns-in-ShowFrom : goal.returns-in-ShowFrom
returns-in-ShowFrom c = pushed _ _ _ _ _ c.in-ShowFrom.is c.push_counted.ensures

pub returns-in-Forget : goal.returns-in-Forget
returns-in-Forget c = pushed _ _ _ _ _ c.in-Forget.is c.push_counted-in-Forget.ensures

pub returns-in-Symbols : goal.returns-in-Symbols
returns-in-Symbols c = pushed _ _ _ _ _ c.in-Symbols.is c.push-in-Symbols.ensures.appended

pub returns-in-PolicyBut : goal.returns-in-PolicyBut
returns-in-PolicyBut c = pushed _ _ _ _ _ c.in-PolicyBut.is (rw c.as_slice.ensures.value at c.push_policy_but.ensures)

pub returns-in-Frames : goal.returns-in-Frames
returns-in-Frames c = pushed _ _ _ _ _ c.in-Frames.is (rw c.from.ensures at c.push_counted-in-Frames.ensures)
