-- The answer to ENEC and DISEC.
use Rattle.std.specs.Prelude.{Result, Ok, Err}
use Rattle.i3c_base.specs.declared.answers.Answer.{Answer}
use Rattle.i3c_events.specs.declared.hearing.NoAnswer.{NoAnswer}

-- the answer that a result is
abbrev pub answer_of : Result (Unit {0}) NoAnswer → Answer
answer_of (Ok done) = Answer.Done
answer_of (Err none) = Answer.NoAnswer none.0
