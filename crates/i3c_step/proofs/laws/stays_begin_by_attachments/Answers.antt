-- A device comes into a slot by an attachment alone.
use Rattle.i3c_step.proofs.StayLaws.{stays_begin}
use Rattle.i3c_step.proofs.laws.stays_begin_by_attachments.Goals as goal

pub returns : goal.returns
returns c start h legal s d p = stays_begin start h legal s d p
