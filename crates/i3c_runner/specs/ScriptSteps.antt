-- How a script is run, piece by piece of its bytes.
use Rattle.std.specs.Prelude.{◌≡◌, ⊤, ℕ, ◌+◌, List, [], ◌∷◌, ◌++◌, length, min, take, Option, IfSome, Result, Ok, Err, MatchResult}
use Rattle.std.specs.Io.KnownBytes.{Consumes}
use Rattle.i3c_lines.specs.declared.refusals.Refusal.{Refusal}
use Rattle.i3c_streams.specs.declared.faults.ScriptFault.{ScriptFault}
use Rattle.i3c_text.specs.declared.line_error.LineError.{LineError}
use Rattle.i3c_runner.specs.declared.script.Script.{Script}
use Rattle.i3c_script.specs.Obeying.{script}
use Rattle.i3c_script.specs.Telling.{Prints}
use Rattle.i3c_facts.specs.declared.before.LineResult.{LineResult}
use Rattle.i3c_runner.specs.Expecting.{LastsAt, Standing}
use Rattle.i3c_streams.specs.Outcomes.{HasNoFeed, Output, Puts, PutsSome, written}
use Rattle.i3c_runner.specs.Scripts.{CountedRuns, LineRun, LineRuns, LinesLead, OutBefore, lines_bytes, lines_out, lines_refused, refusals_of, refused_text}

-- where a running script is, and how many of its lines were refused so far
pub record Progress : Type 0 where
  pub state : Standing
  pub refused : ℕ

abbrev pub state : Script → Standing
state running = record { script = script running.stage running.names; lines = running.lines; before = record { result = running.ended; heard = running.said.heard }; unmet = running.unmet; lasting = running.lasting.items; formless = running.formless }

abbrev pub progress : Script → Progress
progress running = record { state = state running; refused = running.refused }

-- the result of a line, with the output before and after it; nothing is said of a line that memory is short for
abbrev pub Reads : Standing → List ℕ → List ℕ → List ℕ → Result (Unit {0}) (LineError Refusal) → Standing → Type 0
Reads old line before after result new = Prints (λ said refused. LineRuns old line said refused new) before after result

-- the line before was refused for this reason
abbrev pub refused_so : Standing → Refusal → Standing
refused_so now why = record now { before = record now.before { result = LineResult.Refused why } }

-- a refusal is noted for the facts behind it
abbrev pub noted : Standing → Result (Unit {0}) (LineError Refusal) → Standing
noted now (Ok done) = now
noted now (Err (LineError.Refused why)) = refused_so now why
noted now (Err LineError.Memory) = now

-- the result of a line that was counted
abbrev pub ReadsCounted : Standing → List ℕ → List ℕ → List ℕ → Result (Unit {0}) (LineError Refusal) → Standing → Type 0
ReadsCounted now line before after result new = Prints (λ said refused. CountedRuns now line said refused new) before after result

-- the expectations that last were tested, and told behind a text
abbrev pub HaveLasted : Standing → List ℕ → List ℕ → Standing → Type 0
HaveLasted now before after new = (told : List ℕ) × (after ≡ before ++ told) × LastsAt now now.script.stage told new

-- expectations that last, tested after a command with this outcome: the line has the same outcome. Nothing is said where memory is short
abbrev pub Outlasts : Standing → List ℕ → List ℕ → Result (Unit {0}) (LineError Refusal) → Result (Unit {0}) (LineError Refusal) → Standing → Type 0
Outlasts now before after (Ok done) (Ok same) new = HaveLasted now before after new
Outlasts now before after (Ok done) (Err (LineError.Refused why)) new = ⊥
Outlasts now before after (Ok done) (Err LineError.Memory) new = ⊤
Outlasts now before after (Err (LineError.Refused why)) (Ok done) new = ⊥
Outlasts now before after (Err (LineError.Refused why)) (Err (LineError.Refused same)) new = (same ≡ why) × HaveLasted (refused_so now why) before after new
Outlasts now before after (Err (LineError.Refused why)) (Err LineError.Memory) new = ⊤
Outlasts now before after (Err LineError.Memory) (Ok done) new = ⊥
Outlasts now before after (Err LineError.Memory) (Err (LineError.Refused why)) new = ⊥
Outlasts now before after (Err LineError.Memory) (Err LineError.Memory) new = ⊤

-- a line was run, and its output was put behind and counted
pub record LineDone (line : List ℕ) (old new : Output) (from to : Progress) : Type 0 where
  pub said : List ℕ
  pub refused : Option Refusal
  pub does : LineRuns from.state line said refused to.state
  pub out : Puts old new (said ++ refused_text refused)
  pub count : to.refused ≡ min (from.refused + refusals_of refused) 18446744073709551615

-- a line was run, and a prefix of the buffer and its output was written
pub record LineLost (line : List ℕ) (old new : Output) (from : Progress) : Type 0 where
  pub said : List ℕ
  pub refused : Option Refusal
  pub to : Standing
  pub does : LineRuns from.state line said refused to
  pub out : PutsSome old new (said ++ refused_text refused)

-- a fault ends the run at a line: for want of memory nothing of it is put behind
abbrev pub LineStops : ScriptFault → List ℕ → Output → Output → Progress → Type 0
LineStops ScriptFault.Memory line old new from = Puts old new []
LineStops ScriptFault.Write line old new from = LineLost line old new from
LineStops ScriptFault.Read line old new from = ⊥
LineStops ScriptFault.TooLarge line old new from = ⊥

-- the result of a line
abbrev pub LineEnds : List ℕ → Output → Output → Progress → Progress → Result (Unit {0}) ScriptFault → Type 0
LineEnds line old new from to result = MatchResult result (λ _. LineDone line old new from to) (λ fault. LineStops fault line old new from)

-- the lines that these bytes end were run, and the rest of the bytes begins the next one
pub record RunsTo (bytes rest : List ℕ) (old new : Output) (from to : Progress) : Type 0 where
  pub lines : List LineRun
  pub run : LinesLead from.state lines to.state
  pub same : bytes ≡ lines_bytes lines ++ rest
  pub one : HasNoFeed rest
  pub out : Puts old new (lines_out lines)
  pub count : min to.refused 18446744073709551615 ≡ min (from.refused + lines_refused lines) 18446744073709551615

-- what went out of these lines before a fault at one of them
abbrev pub OutOf : ScriptFault → List LineRun → Output → Output → Type 0
OutOf ScriptFault.Memory lines old new = Puts old new (lines_out lines)
OutOf ScriptFault.Write lines old new = PutsSome old new (lines_out lines)
OutOf ScriptFault.Read lines old new = ⊥
OutOf ScriptFault.TooLarge lines old new = ⊥

-- a fault ended the run at one of the lines that these bytes end
pub record RunStops (bytes : List ℕ) (old new : Output) (from : Progress) (fault : ScriptFault) : Type 0 where
  pub lines : List LineRun
  pub rest : List ℕ
  pub to : Standing
  pub run : LinesLead from.state lines to
  pub same : bytes ≡ lines_bytes lines ++ rest
  pub out : OutOf fault lines old new

-- the result of these bytes, behind which part of a line is held
abbrev pub Takes : List ℕ → List ℕ → Output → Output → Progress → Progress → Result (Unit {0}) ScriptFault → Type 0
Takes bytes held old new from to result = MatchResult result (λ _. (rest : List ℕ) × RunsTo bytes rest old new from to × (held ≡ take 257 rest)) (RunStops bytes old new from)

-- the result of these bytes
abbrev pub Runs : List ℕ → List ℕ → Output → Output → Progress → Progress → Result (Unit {0}) ScriptFault → Type 0
Runs bytes rest old new from to result = MatchResult result (λ _. RunsTo bytes rest old new from to) (RunStops bytes old new from)

-- the bytes that were read of a script so far, their effect, the partial line, and how many bytes may follow
pub record ReadSoFar (known now old new : Option (List ℕ)) (held : List ℕ) (from to : Progress) (left : ℕ) : Type 0 where
  pub read : List ℕ
  pub rest : List ℕ
  pub consumed : Consumes known now read
  pub few : length read + left ≡ 1048576
  pub runs : RunsTo read rest (written old) (written new) from to
  pub begun : held ≡ take 257 rest

-- a script was read to its end, and each of its lines was run
pub record ReadWhole (known left old new : Option (List ℕ)) (from to : Progress) : Type 0 where
  pub read : List ℕ
  pub consumed : Consumes known left read
  pub runs : RunsTo (read ++ 10 ∷ []) [] (written old) (written new) from to

-- a fault ended the reading of a script, part of whose lines were run
pub record ReadPart (known left old new : Option (List ℕ)) (from : Progress) (fault : ScriptFault) : Type 0 where
  pub lines : List LineRun
  pub rest : List ℕ
  pub to : Standing
  pub run : LinesLead from.state lines to
  pub first : IfSome known (λ script. lines_bytes lines ++ rest ≡ script ++ 10 ∷ [])
  pub out : OutBefore fault known left old new lines

-- the result of reading a script
abbrev pub ReadsAll : Option (List ℕ) → Option (List ℕ) → Option (List ℕ) → Option (List ℕ) → Progress → Progress → Result (Unit {0}) ScriptFault → Type 0
ReadsAll known left old new from to result = MatchResult result (λ _. ReadWhole known left old new from to) (ReadPart known left old new from)
