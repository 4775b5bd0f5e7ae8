use Rattle.std.proofs.Common.{◌≡◌, ◌++◌, drop}
use Rattle.i3c_facts.specs.Printing.{more_text}
use Rattle.i3c_facts.proofs.printing.push_more.Given as goal

abbrev pub invariant-loop-index : goal.invariant-loop-index
invariant-loop-index l = l.text ++ more_text (drop l.index l.claims) ≡ l.initial.text ++ more_text l.claims
