use Rattle.i3c_json.proofs.Found.{pieces_told}
use Rattle.i3c_json.proofs.laws.objects_tell_pieces.Goals as goal

pub returns : goal.returns
returns c = pieces_told
