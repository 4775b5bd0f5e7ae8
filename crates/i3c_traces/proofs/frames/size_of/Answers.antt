use Rattle.std.proofs.Common.{◌∙◌, ap, sym}
use Rattle.i3c_frame.proofs.TextLaws.{length-text_of, size_of}
use Rattle.i3c_traces.proofs.frames.size_of.Goals as goal

pub returns-in-LegacyWord-clause-text : goal.returns-in-LegacyWord-clause-text
returns-in-LegacyWord-clause-text c = sym (length-text_of c.args.symbol.now ∙ ap size_of c.in-LegacyWord.is)

pub returns-in-Header-clause-text : goal.returns-in-Header-clause-text
returns-in-Header-clause-text c = sym (length-text_of c.args.symbol.now ∙ ap size_of c.in-Header.is)

pub returns-in-Identity-clause-text : goal.returns-in-Identity-clause-text
returns-in-Identity-clause-text c = sym (length-text_of c.args.symbol.now ∙ ap size_of c.in-Identity.is)

pub returns-in-Word-clause-text : goal.returns-in-Word-clause-text
returns-in-Word-clause-text c = sym (length-text_of c.args.symbol.now ∙ ap size_of c.in-Word.is)

pub returns-in-AddressByte-clause-text : goal.returns-in-AddressByte-clause-text
returns-in-AddressByte-clause-text c = sym (length-text_of c.args.symbol.now ∙ ap size_of c.in-AddressByte.is)
