-- Lists are put together in any order, and nothing counts as none.
use Rattle.i3c_log_laws.proofs.Behind.{behind_both, reply_from_none}
use Rattle.i3c_log_laws.proofs.laws.gone_records_add_up.Goals as goal

pub returns : goal.returns
returns c = (reply_from_none, behind_both)
