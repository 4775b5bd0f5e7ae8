use Rattle.i3c_drive.proofs.Runs.{answered_lead}
use Rattle.i3c_drive.proofs.laws.answered_lines_lead.Goals as goal

pub returns : goal.returns
returns c = answered_lead
