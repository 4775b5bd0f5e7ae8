use Rattle.std.proofs.Common.{◌≡◌, Decides, rules}
use Rattle.std.proofs.lemmas.Slice.Eq.{slice_eq-Decides}
use Rattle.i3c_frame.specs.declared.symbols.Symbol.{Symbol}
use Rattle.i3c_frame.specs.contracts.symbols.SymbolPartialEq.TheImpl.{eq-value}
use Rattle.i3c_runner.proofs.viewed.are_same.Goals as goal

same_symbol : (a b : Symbol) → Decides (eq-value.it a b) (a ≡ b)
same_symbol a b = search rules

pub returns : goal.returns
returns c = slice_eq-Decides same_symbol c.args.symbols.now c.args.others.now c.eq.result c.eq.ensures
