use Rattle.std.proofs.Common.{◌++◌, ◌∷◌, ℕ, List, length}
use denote.Shadow.{shadow}
use denote.Text.{Utf8}
use Rattle.i3c_orders.specs.Numbers.{NamesNumbers, NamesSome}
use Rattle.i3c_task.proofs.options.numbers_of.Given as goal

-- whatever the rest is, the text is that behind the numbers so far
abbrev pub invariant-loop-first : goal.invariant-loop-first
invariant-loop-first l =
    shadow (Utf8 l.rest) × ((number : ℕ) (numbers : List ℕ) → NamesSome l.rest number numbers → NamesNumbers l.fn.text (l.numbers.items ++ number ∷ numbers))

abbrev pub decreases-loop-first : goal.decreases-loop-first
decreases-loop-first l = length l.rest
