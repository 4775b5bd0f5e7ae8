use Rattle.i3c_draw.proofs.EscapeLaws.{plain_text}
use Rattle.i3c_draw.proofs.laws.escaped_is_plain.Goals as goal

pub returns : goal.returns
returns c = plain_text
