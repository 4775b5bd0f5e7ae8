-- The blocks of the lines that were read, with those that are left.
use Rattle.std.specs.Prelude.{◌≡◌, ◌||◌, ℕ, Bool, true, false, List, [], ◌∷◌, ◌++◌, Option, Some, None, Ok, Err, Result, is_some, map, option_map}
use Rattle.i3c_lines.specs.declared.command.Command.{Command}
use Rattle.i3c_scene.specs.declared.line.Expectation.{Expectation}
use Rattle.i3c_scene.specs.declared.risk.Risk.{Risk}
use Rattle.i3c_scene.specs.Scenes.{Seen}
use Rattle.i3c_tracks.specs.declared.body.Body.{Body}
use Rattle.i3c_tracks.specs.declared.draft.Draft.{Draft}
use Rattle.i3c_tracks.specs.declared.front.Front.{Front}
use Rattle.i3c_tracks.specs.declared.open_block.OpenBlock.{OpenBlock}
use Rattle.i3c_tracks.specs.declared.file_line.FileLine.{FileLine}
use Rattle.i3c_tracks.specs.declared.plan.PlanFault.{PlanFault}
use Rattle.i3c_tracks.specs.declared.refusal.Reason.{Reason}
use Rattle.i3c_tracks.specs.declared.refusal.Refusal.{Refusal}
use Rattle.i3c_tracks.specs.Planning.{BlockRules, IsStartOf, Outline, Step, alone, always_in, any_at_risk, before_more, blocks_in, blocks_of, expected, made, opened_in, outline, place, risk_in, rules_in, rules_of, step_of, steps_in, steps_of, tracks_in, tracks_of, unopened}
use Rattle.i3c_tracks.specs.Refusing.{Here, Inside, at_end, behind, first_refusal, one_line, outside, refuses_before, refuses_here, risk_of}

-- a block that isn't closed yet: the devices at risk, what has to hold always, the tracks before the last, and the last if one has begun
pub record Open : Type 0 where
  pub risk : Risk
  pub always : List Expectation
  pub tracks : List (List Step)
  pub last : Option (List Step)

abbrev pub open_of : OpenBlock → Open
open_of block = record { risk = block.risk; always = block.always.items; tracks = tracks_of block.tracks.items; last = option_map steps_of block.last }

-- a line of which one thing more is expected
abbrev pub awaited : Step → List Expectation → Step
awaited step more = record step { expected = step.expected ++ more }

-- the line that is held is a block of its own; where none is, what is expected has a place
abbrev pub held_alone : Option Step → List (ℕ × FileLine) → List (List (List Step))
held_alone None rest = place (expected rest)
held_alone (Some step) rest = alone (awaited step (expected rest)) ∷ []

-- the line that is held is one of a track
abbrev pub held_in : Option Step → List Expectation → List (ℕ × FileLine) → List Step
held_in None always rest = []
held_in (Some step) always rest = awaited step (expected rest ++ always) ∷ []

-- these devices at risk, then more: the first two count
abbrev pub risk_with : Risk → Risk → Risk
risk_with Risk.Nobody more = more
risk_with (Risk.One name) more = before_more name more
risk_with (Risk.Two one other) more = Risk.Two one other

-- the open block's tracks, where a last one has begun or not
abbrev pub tracks_left : Open → Option (List Step) → Option Step → List (ℕ × FileLine) → List (List Step)
tracks_left block None held rest = block.tracks ++ tracks_in (risk_with block.risk (risk_in rest)) (block.always ++ always_in rest) rest
tracks_left block (Some last) held rest = block.tracks ++ (last ++ (held_in held block.always rest ++ steps_in block.risk block.always rest)) ∷ tracks_in block.risk block.always rest

-- the line that is held comes before the open block, until a track has begun
abbrev pub held_before : Option (List Step) → Option Step → List (ℕ × FileLine) → List (List (List Step))
held_before None held rest = held_alone held rest
held_before (Some last) held rest = []

-- the blocks behind those that were added
abbrev pub left : Option Open → Option Step → List (ℕ × FileLine) → List (List (List Step))
left None held rest = held_alone held rest ++ blocks_in false rest
left (Some block) held rest = held_before block.last held rest ++ tracks_left block block.last held rest ∷ blocks_in true rest

-- the blocks of lines behind the bus
abbrev pub comes_to : Body → List (ℕ × FileLine) → List (List (List Step))
comes_to body rest = blocks_of body.blocks.items ++ left (option_map open_of body.block) (option_map step_of body.held) rest

-- whether a line opened each of these blocks
abbrev pub opened_left : Option Open → Option Step → List (ℕ × FileLine) → List Bool
opened_left None held rest = unopened (held_alone held rest) ++ opened_in false rest
opened_left (Some block) held rest = unopened (held_before block.last held rest) ++ true ∷ opened_in true rest

-- the same of all blocks behind the bus
abbrev pub opens : Body → List (ℕ × FileLine) → List Bool
opens body rest = body.opened.items ++ opened_left (option_map open_of body.block) (option_map step_of body.held) rest

-- what holds in the open block, where a last track has begun or not
abbrev pub rules_here : Open → Option (List Step) → List (ℕ × FileLine) → BlockRules
rules_here block None rest = record { risk = risk_with block.risk (risk_in rest); always = block.always ++ always_in rest }
rules_here block (Some last) rest = record { risk = block.risk; always = block.always }

-- what holds in the blocks behind those that were added
abbrev pub rules_left : Option Open → List (ℕ × FileLine) → List BlockRules
rules_left None rest = rules_in false rest
rules_left (Some block) rest = rules_here block block.last rest ∷ rules_in true rest

-- what holds in all blocks behind the bus that a line opens
abbrev pub all_rules : Body → List (ℕ × FileLine) → List BlockRules
all_rules body rest = map rules_of body.rules.items ++ rules_left (option_map open_of body.block) rest

-- whether a device may lose power in one of them
abbrev pub risks : Body → List (ℕ × FileLine) → Bool
risks body rest = body.risky || any_at_risk rest

-- an open block by what counts for later lines
abbrev pub inside_of : OpenBlock → Inside
inside_of block = record { risk = block.risk; begun = is_some block.last; tracks = block.tracks_left; lines = block.lines_left }

abbrev pub has_command_of : Step → Bool
has_command_of step = is_some step.command

-- where the next line stands
abbrev pub here_of : Body → Here
here_of body = record { block = option_map inside_of body.block; before = option_map has_command_of (option_map step_of body.held) }

-- why the lines that are left are refused
abbrev pub refusal_left : Body → List (ℕ × FileLine) → Option Refusal
refusal_left body rest = first_refusal (here_of body) rest

-- no line behind the bus was read
pub record IsUnread (body : Body) : Type 0 where
  pub blocks : (rest : List (ℕ × FileLine)) → comes_to body rest ≡ place (expected rest) ++ blocks_in false rest
  pub opened : (rest : List (ℕ × FileLine)) → opens body rest ≡ unopened (place (expected rest)) ++ opened_in false rest
  pub rules : (rest : List (ℕ × FileLine)) → all_rules body rest ≡ rules_in false rest
  pub risky : (rest : List (ℕ × FileLine)) → risks body rest ≡ any_at_risk rest
  pub here : here_of body ≡ outside

-- the outline that a bus was begun by, if one was
abbrev pub IsBegunBy : Option Body → Option Outline → Type 0
IsBegunBy None first = Unit {0}
IsBegunBy (Some body) first = (outline : Outline) × (first ≡ Some outline) × IsStartOf outline body.start

-- an outline's bus, with these lines before it, of which some are refused, and these blocks behind it, unless the file is refused
abbrev pub asked : Option Refusal → Option Outline → List ℕ → List ℕ → List (List (List Step)) → List Bool → List BlockRules → Bool → Result Outline Refusal
asked (Some refusal) first before refused blocks opened rules risky = Err refusal
asked None None before refused blocks opened rules risky = Err (at_end Reason.NoBus)
asked None (Some out) before refused blocks opened rules risky = Ok (record out { before = before; refused = refused; blocks = blocks; opened = opened; rules = rules; risky = risky })

-- the outline of a file, with the lines that are left: before the bus, or behind the one that was begun
abbrev pub comes_on : Option Body → Front → List ℕ → Option Outline → List (ℕ × FileLine) → Result Outline Refusal
comes_on None front before first rest = outline front.legacies front.names.items before front.refused.items rest
comes_on (Some body) front before first rest = asked (refusal_left body rest) first before front.refused.items (comes_to body rest) (opens body rest) (all_rules body rest) (risks body rest)

abbrev pub comes : Draft → Option Outline → List (ℕ × FileLine) → Result Outline Refusal
comes draft first rest = comes_on draft.body draft.front draft.before.items first rest

-- a line was read: with those that are left, the file has the outline that it had before
abbrev pub Reads : Draft → ℕ × FileLine → Draft → Type 0
Reads old line new = (first : Option Outline) → IsBegunBy old.body first → (later : Option Outline) × IsBegunBy new.body later × ((rest : List (ℕ × FileLine)) → comes new later rest ≡ comes old first (line ∷ rest))

-- a line before the bus was read, which makes no bus
abbrev pub Declares : Front → ℕ → Command → Front → Type 0
Declares old number command new =
    (before : List ℕ) (rest : List (ℕ × FileLine)) → outline old.legacies old.names.items before old.refused.items ((number, FileLine.Does command) ∷ rest) ≡ outline new.legacies new.names.items (before ++ number ∷ []) new.refused.items rest

-- a line before the bus was read, which makes this bus
abbrev pub Begins : Front → ℕ → Command → Front → Seen → Type 0
Begins old number command new start = (first : Outline) × IsStartOf first start
    × ((before : List ℕ) (rest : List (ℕ × FileLine)) → outline old.legacies old.names.items before old.refused.items ((number, FileLine.Does command) ∷ rest) ≡ made first.main first.board first.names (before ++ number ∷ []) new.refused.items rest)

-- the same of a line behind the bus
pub record ReadsOn (old : Body) (line : ℕ × FileLine) (new : Body) : Type 0 where
  pub start : new.start ≡ old.start
  pub blocks : (rest : List (ℕ × FileLine)) → comes_to new rest ≡ comes_to old (line ∷ rest)
  pub opened : (rest : List (ℕ × FileLine)) → opens new rest ≡ opens old (line ∷ rest)
  pub rules : (rest : List (ℕ × FileLine)) → all_rules new rest ≡ all_rules old (line ∷ rest)
  pub risky : (rest : List (ℕ × FileLine)) → risks new rest ≡ risks old (line ∷ rest)
  pub here : here_of new ≡ behind (here_of old) line.1

-- the line that was held has its place, before lines that expect nothing of it
pub record Settles (old new : Body) : Type 0 where
  pub start : new.start ≡ old.start
  pub none : new.held ≡ None
  pub inside : option_map inside_of new.block ≡ option_map inside_of old.block
  pub same : (rest : List (ℕ × FileLine)) → expected rest ≡ [] → comes_to new rest ≡ comes_to old rest
  pub opened : (rest : List (ℕ × FileLine)) → expected rest ≡ [] → opens new rest ≡ opens old rest
  pub rules : (rest : List (ℕ × FileLine)) → all_rules new rest ≡ all_rules old rest
  pub risky : new.risky ≡ old.risky

-- the tracks of an open block, with the last
abbrev pub all_tracks : List (List Step) → Option (List Step) → List (List Step)
all_tracks tracks None = tracks
all_tracks tracks (Some last) = tracks ++ last ∷ []

-- a line of which one thing more is expected; without a held line, a place
abbrev pub with_expected : Expectation → Option Step → Step
with_expected expectation None = record { number = expectation.number; command = None; risk = Risk.Nobody; expected = expectation ∷ [] }
with_expected expectation (Some step) = awaited step (expectation ∷ [])

-- one more line in the last track, with what has to hold after each line
abbrev pub with_line : Step → Open → Open
with_line step block = record block { last = option_map (λ (track : List Step). track ++ awaited step block.always ∷ []) block.last }

-- the body with one more block, of these tracks, which a line opened or not
pub record Adds (old : Body) (tracks : List (List Step)) (by_line : Bool) (new : Body) : Type 0 where
  pub start : new.start ≡ old.start
  pub blocks : blocks_of new.blocks.items ≡ blocks_of old.blocks.items ++ tracks ∷ []
  pub opened : new.opened.items ≡ old.opened.items ++ by_line ∷ []
  pub rules : new.rules ≡ old.rules
  pub risky : new.risky ≡ old.risky
  pub block : new.block ≡ old.block
  pub held : new.held ≡ old.held

-- the body with one more block that a line opened, with its rules
pub record AddsClosed (old : Body) (closed : Open) (new : Body) : Type 0 where
  pub start : new.start ≡ old.start
  pub blocks : blocks_of new.blocks.items ≡ blocks_of old.blocks.items ++ all_tracks closed.tracks closed.last ∷ []
  pub opened : new.opened.items ≡ old.opened.items ++ true ∷ []
  pub ruled : map rules_of new.rules.items ≡ map rules_of old.rules.items ++ record { risk = closed.risk; always = closed.always } ∷ []
  pub risky : new.risky ≡ old.risky
  pub block : new.block ≡ old.block
  pub held : new.held ≡ old.held

-- the body holds a line until its place is known
pub record Holds (old : Body) (step : Step) (new : Body) : Type 0 where
  pub start : new.start ≡ old.start
  pub opened : new.opened ≡ old.opened
  pub rules : new.rules ≡ old.rules
  pub risky : new.risky ≡ old.risky
  pub blocks : new.blocks ≡ old.blocks
  pub block : new.block ≡ old.block
  pub held : option_map step_of new.held ≡ Some step

-- a line is put into the last track
pub record Puts (old : Body) (step : Step) (new : Body) : Type 0 where
  pub start : new.start ≡ old.start
  pub opened : new.opened ≡ old.opened
  pub rules : new.rules ≡ old.rules
  pub risky : new.risky ≡ old.risky
  pub blocks : new.blocks ≡ old.blocks
  pub block : option_map open_of new.block ≡ option_map (with_line step) (option_map open_of old.block)
  pub inside : option_map inside_of new.block ≡ option_map inside_of old.block
  pub held : new.held ≡ old.held

-- the devices at risk in a command's frame
abbrev pub risk_here : Option OpenBlock → Command → Risk
risk_here None command = Risk.Nobody
risk_here (Some block) command = risk_of block.risk command

-- a command has its place in the open block, if there is one
pub record TakesPlace (old : Body) (command : Command) (risked : Risk) (new : Body) : Type 0 where
  pub start : new.start ≡ old.start
  pub opened : new.opened ≡ old.opened
  pub rules : new.rules ≡ old.rules
  pub risky : new.risky ≡ old.risky
  pub blocks : new.blocks ≡ old.blocks
  pub block : option_map open_of new.block ≡ option_map open_of old.block
  pub inside : option_map inside_of new.block ≡ option_map one_line (option_map inside_of old.block)
  pub held : new.held ≡ old.held
  pub risk : risked ≡ risk_here old.block command

-- why a line is refused behind those that were read, if it is
abbrev pub refuses_on : Option Body → FileLine → Option Reason
refuses_on None said = refuses_before said
refuses_on (Some body) said = refuses_here (here_of body) said

abbrev pub refuses : Draft → FileLine → Option Reason
refuses draft said = refuses_on draft.body said

-- why a file is refused behind its last line
abbrev pub IsEndFault : Draft → PlanFault → Type 0
IsEndFault draft PlanFault.Memory = Unit {0}
IsEndFault draft (PlanFault.Refused refusal) = (refusal.line ≡ None) × ((first : Option Outline) → comes draft first [] ≡ Err refusal)
