use Rattle.std.proofs.Common.{rules}
use Rattle.i3c_ibi.proofs.first.first_request.Goals as goal

pub returns-in_err-request : goal.returns-in_err-request
returns-in_err-request c = search rules

pub returns : goal.returns
returns c = search rules
