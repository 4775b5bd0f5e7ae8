use Rattle.i3c_json.proofs.Found.{told_pieces_told}
use Rattle.i3c_json.proofs.laws.told_objects_tell_pieces.Goals as goal

pub returns : goal.returns
returns c = told_pieces_told
