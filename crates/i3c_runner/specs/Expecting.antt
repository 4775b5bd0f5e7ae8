-- Where a script is between two lines, and what marks do.
use Rattle.std.specs.Prelude.{◌≡◌, ℕ, ◌+◌, Bool, true, false, List, [], ◌∷◌, ◌++◌, codes, min, Option, Some, None, slice_index_or}
use Rattle.std.specs.Fmt.{decimal}
use Rattle.i3c_base.specs.State.{State}
use Rattle.i3c_facts.specs.declared.facts.Claim.{Claim}
use Rattle.i3c_facts.specs.declared.before.Before.{Before}
use Rattle.i3c_facts.specs.declared.marks.Mark.{Mark}
use Rattle.i3c_facts.specs.Forms.{IsMark}
use Rattle.i3c_facts.specs.Hearing.{came_to, no_line}
use Rattle.i3c_facts.specs.Holding.{claims_hold}
use Rattle.i3c_facts.specs.Printing.{unmet_text}
use Rattle.i3c_lines.specs.declared.names.Name.{Name}
use Rattle.i3c_lines.specs.declared.names.Names.{Names}
use Rattle.i3c_lines.specs.declared.refusals.Refusal.{Refusal}
use Rattle.i3c_lines.specs.Forms.{HasNoForm}
use Rattle.i3c_lines.specs.Naming.{place_named, slot_names}
use Rattle.i3c_runner.specs.declared.lasting.Lasting.{Lasting}
use Rattle.i3c_script.specs.declared.piece.Piece.{Piece}
use Rattle.i3c_script.specs.declared.stage.Stage.{Stage}
use Rattle.i3c_script.specs.Obeying.{IsBegun, ScriptState}

-- the state of a script between two lines: its bus and names, the number of the previous line, what the last command came
-- to, the number of expectations not met, the lasting ones, and the number of lines without a form
pub record Standing : Type 0 where
  pub script : ScriptState
  pub lines : ℕ
  pub before : Before
  pub unmet : ℕ
  pub lasting : List Lasting
  pub formless : ℕ

-- the start of a script: no line was run
pub record HasBegun (start : Standing) : Type 0 where
  pub script : IsBegun start.script
  pub lines : start.lines ≡ 0
  pub before : start.before ≡ no_line
  pub unmet : start.unmet ≡ 0
  pub lasting : start.lasting ≡ []
  pub formless : start.formless ≡ 0

-- one more, as far as 64 bits count
abbrev pub one_more : ℕ → ℕ
one_more count = min (count + 1) 18446744073709551615

-- a line is counted, before it does anything
abbrev pub counted : Standing → Standing
counted old = record old { lines = one_more old.lines }

-- a command led to this state, and came to these pieces and this refusal
abbrev pub went : Standing → ScriptState → List Piece → Option Refusal → Standing
went now script pieces refused = record now { script = script; before = came_to pieces refused }

-- a line without a form was refused
abbrev pub misread : Standing → Standing
misread now = record (went now now.script [] (Some Refusal.BadLine)) { formless = one_more now.formless }

-- one more expectation that isn't met, unless it is
abbrev pub unmet_if : Bool → ℕ → ℕ
unmet_if true unmet = unmet
unmet_if false unmet = one_more unmet

-- an expectation was tested
abbrev pub tested : Standing → Bool → Standing
tested now met = record now { unmet = unmet_if met now.unmet }

-- whether one of these claims holds of a bus, with these names and what is known of the previous line
abbrev pub is_met : State → Names → Before → List Claim → Bool
is_met st names before facts = claims_hold st (place_named names) before facts

-- the name that was last given to a slot
abbrev pub name_in_slot : Names → ℕ → Option Name
name_in_slot names slot = slice_index_or (slot_names names) slot None

-- the line of an expectation that isn't met: the number of its own line, and the first fact as it would hold
abbrev pub unmet_line : State → Names → Before → ℕ → List Claim → List ℕ
unmet_line st names before number facts = codes "unmet " ++ (decimal number ++ (codes " " ++ (unmet_text st (place_named names) (name_in_slot names) before facts ++ 10 ∷ [])))

-- what an expectation prints: that it is met, or that it isn't
abbrev pub test_text : Standing → State → List Claim → Bool → List ℕ
test_text now st facts true = codes "met" ++ 10 ∷ []
test_text now st facts false = unmet_line st now.script.names now.before now.lines facts

-- an expectation changes nothing but the count of those that weren't met. Before the bus it is refused
abbrev pub TestsAt : Standing → Stage → List Claim → List ℕ → Option Refusal → Standing → Type 0
TestsAt now (Stage.Before board) facts said refused new = (said ≡ []) × (refused ≡ Some Refusal.NoBus) × (new ≡ went now now.script [] (Some Refusal.NoBus))
TestsAt now (Stage.Running ran) facts said refused new =
    (said ≡ test_text now ran.state facts (is_met ran.state now.script.names now.before facts)) × (refused ≡ None) × (new ≡ tested now (is_met ran.state now.script.names now.before facts))

-- what is told of an expectation that lasts: nothing where it holds
abbrev pub lasting_line : State → Names → Before → Lasting → Bool → List ℕ
lasting_line st names before one true = []
lasting_line st names before one false = unmet_line st names before one.number one.facts

-- what is told of some of them, in their order
abbrev pub lasting_text : State → Names → Before → List Lasting → List ℕ
lasting_text st names before [] = []
lasting_text st names before (one ∷ rest) = lasting_line st names before one (is_met st names before one.facts) ++ lasting_text st names before rest

-- the lasting expectations with one more, if it holds
abbrev pub lasts_if : Bool → Lasting → List Lasting → List Lasting
lasts_if true one rest = one ∷ rest
lasts_if false one rest = rest

-- the lasting expectations that hold
abbrev pub still_lasting : State → Names → Before → List Lasting → List Lasting
still_lasting st names before [] = []
still_lasting st names before (one ∷ rest) = lasts_if (is_met st names before one.facts) one (still_lasting st names before rest)

-- the number of expectations that weren't met, and of these that don't hold
abbrev pub unmet_with : State → Names → Before → List Lasting → ℕ → ℕ
unmet_with st names before [] unmet = unmet
unmet_with st names before (one ∷ rest) unmet = unmet_with st names before rest (unmet_if (is_met st names before one.facts) unmet)

-- behind a command those that last are tested: each is told where it first doesn't hold
abbrev pub LastsAt : Standing → Stage → List ℕ → Standing → Type 0
LastsAt now (Stage.Before board) told new = (told ≡ []) × (new ≡ now)
LastsAt now (Stage.Running ran) told new = (told ≡ lasting_text ran.state now.script.names now.before now.lasting)
    × (new ≡ record now { lasting = still_lasting ran.state now.script.names now.before now.lasting; unmet = unmet_with ran.state now.script.names now.before now.lasting now.unmet })

-- an expectation begins to last, unless it doesn't hold at once
abbrev pub lasting_from : Standing → Lasting → Bool → Standing
lasting_from now one true = record now { lasting = now.lasting ++ one ∷ [] }
lasting_from now one false = record now { unmet = one_more now.unmet }

-- an expectation that is to last is tested at once. Before the bus it is refused
abbrev pub AlwaysAt : Standing → Stage → List Claim → List ℕ → Option Refusal → Standing → Type 0
AlwaysAt now (Stage.Before board) facts said refused new = (said ≡ []) × (refused ≡ Some Refusal.NoBus) × (new ≡ went now now.script [] (Some Refusal.NoBus))
AlwaysAt now (Stage.Running ran) facts said refused new =
    let one : Lasting = record { number = now.lines; facts = facts } in
    let holds = is_met ran.state now.script.names now.before facts in
    (said ≡ lasting_line ran.state now.script.names now.before one holds) × (refused ≡ None) × (new ≡ lasting_from now one holds)

-- the effect of a mark: expectations are tested, the end of a block ends the lasting ones, and a mark of overlapping lines
-- does nothing
abbrev pub MarkDoes : Standing → Mark → List ℕ → Option Refusal → Standing → Type 0
MarkDoes now (Mark.Expect facts) said refused new = TestsAt now now.script.stage facts said refused new
MarkDoes now (Mark.Always facts) said refused new = AlwaysAt now now.script.stage facts said refused new
MarkDoes now Mark.Close said refused new = (said ≡ []) × (refused ≡ None) × (new ≡ record now { lasting = [] })
MarkDoes now _ said refused new = (said ≡ []) × (refused ≡ None) × (new ≡ now)

-- a line is a mark
abbrev pub IsMarked : List ℕ → Type 0
IsMarked line = (mark : Mark) × IsMark line mark

-- a line is none that a script may have: it has no form, and isn't a mark
abbrev pub IsBad : List ℕ → Type 0
IsBad line = HasNoForm line × (IsMarked line → ⊥)
