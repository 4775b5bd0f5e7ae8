-- What a line finds on a bus, and leaves there.
use Rattle.std.specs.Prelude.{◌≡◌, ℕ, ◌+◌, Bool, true, IsTrue, List, [], ◌∷◌, ◌++◌, length}
use Rattle.circular_buffer.specs.Buffer.{keep_last}
use Rattle.i3c_base.specs.Cutting.{CutList}
use Rattle.i3c_base.specs.State.{State}
use Rattle.i3c_frame.specs.declared.symbols.Symbol.{Symbol}
use Rattle.i3c_frame.specs.Taps.{Tells}
use Rattle.i3c_script.specs.declared.settings.Settings.{Settings}
use Rattle.i3c_script.specs.declared.tenures.Tenure.{Tenure}

-- the bus, what lines have set, the cuts that wait for the next frame, and what is kept of the past
pub record Situation (P : Type 0) : Type 0 where
  pub state : State
  pub settings : Settings
  pub cuts : CutList
  pub past : P

abbrev pub situation : {P : Type 0} → State → Settings → CutList → P → Situation P
situation state settings cuts past = record { state = state; settings = settings; cuts = cuts; past = past }

-- how the past is kept: whether symbols are kept, what it becomes behind one that is noted, and behind a tenure of a slot that
-- ended at so many records; and which symbols and tenures it tells
pub record PastKept (P : Type 0) : Type 1 where
  pub keeps_wire : Bool
  pub notes : P → Symbol → P → Type 0
  pub ends : P → ℕ → ℕ → P
  pub symbols : P → List Symbol
  pub ended : P → List Tenure

-- symbols of a wire with this property were sent: where symbols are kept, they were noted in order
abbrev pub Sends : {P : Type 0} → PastKept P → P → (List Symbol → Type 0) → P → Type 0
Sends kept old Is new = IsTrue kept.keeps_wire → Tells kept.notes old new Is

-- how many interrupts were recorded: those that left the log, and those in it
abbrev pub recorded_in : {P : Type 0} → Situation P → ℕ
recorded_in now = now.settings.forgotten + length now.state.records

-- what a script keeps of the past: symbols of the wire, and the tenures that ended
pub record Told : Type 0 where
  pub wire : List Symbol
  pub ended : List Tenure

-- the last symbols, of which it keeps no more
abbrev pub last_symbols : Told → List Symbol
last_symbols told = keep_last 256 told.wire

-- the past behind one more symbol
abbrev pub notes : Told → Symbol → Told → Type 0
notes old symbol new = new ≡ record old { wire = keep_last 256 (old.wire ++ symbol ∷ []) }

-- one more tenure ended
abbrev pub with_tenure : Told → ℕ → ℕ → Told
with_tenure told slot records = record told { ended = told.ended ++ record { slot = slot; records = records } ∷ [] }

-- how a script keeps the past: it notes each symbol that is sent
abbrev pub told_past : PastKept Told
told_past = record { keeps_wire = true; notes = notes; ends = with_tenure; symbols = last_symbols; ended = λ told. told.ended }

-- these symbols are the last ones of a wire, which keeps no more than its last symbols
abbrev pub IsEnd : List Symbol → List Symbol → Type 0
IsEnd wire symbols = (before : List Symbol) × (wire ≡ keep_last 256 (before ++ symbols))
