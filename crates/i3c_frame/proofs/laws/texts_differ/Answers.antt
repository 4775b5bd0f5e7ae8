use Rattle.i3c_frame.proofs.TextLaws.{text_of_same}
use Rattle.i3c_frame.proofs.laws.texts_differ.Goals as goal

pub returns : goal.returns
returns c a b fits range same = text_of_same a b fits range same
