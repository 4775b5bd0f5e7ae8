use Rattle.std.proofs.Common.{◌≡◌, ◌++◌, ◌-◌, OnOk, Option, codes, subst}
use Rattle.i3c_frame.specs.declared.symbols.Symbol.{Symbol}
use Rattle.std.specs.List.{slice_get}
use Rattle.i3c_monitor.specs.Lines.{number_text}
use Rattle.i3c_monitor.specs.LintLines.{symbol_text}
use Rattle.i3c_monitor.proofs.PieceLaws.{three}
use Rattle.i3c_monitor.proofs.lint_printing.push_place.Goals as goal

pub returns : goal.returns
returns c =
    let quoted : Option Symbol → Type 0 = λ symbol. OnOk c.push_quoted.result (c.push_quoted.new.text ≡ c.push_number-2.new.text ++ (codes " '" ++ (symbol_text symbol ++ codes "': "))) in
    three c.push_quoted.result c.args.text.now (number_text (codes "frame ") c.args.frame) (number_text (codes ": symbol ") c.args.symbol)
    (codes " '" ++ (symbol_text (slice_get c.args.trace.now (c.args.symbol - 1)) ++ codes "': "))
    c.push_number.new.text c.push_number-2.new.text c.push_quoted.new.text c.in_ok-push_number.ensures c.in_ok-push_number-2.ensures (subst quoted c.symbol_at.ensures c.push_quoted.ensures)
