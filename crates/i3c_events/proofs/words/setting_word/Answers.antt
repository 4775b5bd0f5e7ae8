use Rattle.std.proofs.Common.{rules}
use Rattle.i3c_events.proofs.words.setting_word.Goals as goal

pub returns-in-New-clause-byte : goal.returns-in-New-clause-byte
returns-in-New-clause-byte c = search rules
