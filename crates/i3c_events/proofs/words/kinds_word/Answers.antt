use Rattle.std.proofs.Common.{◌∙◌, ap}
use lib.Bits.{bit_and}
use Rattle.i3c_base.specs.Numbers.{kind_set}
use Rattle.i3c_events.proofs.WordLaws.{masked, named_back}
use Rattle.i3c_events.proofs.words.kinds_word.Goals as goal

pub returns-clause-byte : goal.returns-clause-byte
returns-clause-byte c = c.write_word.ensures.byte ∙ (ap (λ b. bit_and b 11) (c.bits.ensures tt) ∙ masked c.args.kinds.0)

pub returns-clause-named : goal.returns-clause-named
returns-clause-named c = ap (λ b. kind_set (record { 0 = b })) (returns-clause-byte c) ∙ named_back (kind_set c.args.kinds)
