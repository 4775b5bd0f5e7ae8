-- The lines of another program, each of which is answered before the next is read.
use Rattle.std.specs.Prelude.{◌≡◌, ◌≢◌, ◌⊎◌, ℕ, suc, List, [], ◌∷◌, ◌++◌, take, Option, IfSome, Result, Ok, Err, MatchResult}
use Rattle.std.specs.Io.KnownBytes.{Appends}
use Rattle.i3c_streams.specs.declared.faults.ScriptFault.{ScriptFault}
use Rattle.i3c_streams.specs.Outcomes.{AppendsSome, HasNoFeed}

-- the bytes of lines, each with its line feed
abbrev pub bytes_of_lines : List (List ℕ) → List ℕ
bytes_of_lines [] = []
bytes_of_lines (line ∷ rest) = line ++ 10 ∷ bytes_of_lines rest

-- an input whose last line lacks its line feed
abbrev pub LacksFeed : List ℕ → Type 0
LacksFeed input = (front : List ℕ) × (last : ℕ) × (input ≡ front ++ last ∷ []) × (last ≢ 10)

-- these are the lines of an input: each ends in a line feed, except the last one, which may lack it
abbrev pub AreLinesOf : List ℕ → List (List ℕ) → Type 0
AreLinesOf input lines = (bytes_of_lines lines ≡ input) ⊎ (LacksFeed input × (bytes_of_lines lines ≡ input ++ 10 ∷ []))

-- lines, counted from this number on, were answered one after another, each by its first 257 bytes
abbrev pub AreServed : {A : Type 0} → (A → ℕ → List ℕ → List ℕ → A → Type 0) → ℕ → A → List (List ℕ) → A → List ℕ → Type 0
AreServed answers number old [] new text = (new ≡ old) × (text ≡ [])
AreServed {A} answers number old (line ∷ rest) new text =
    HasNoFeed line × ((mid : A) × (answer : List ℕ) × (later : List ℕ) × answers old number (take 257 line) answer mid × (text ≡ answer ++ later) × AreServed answers (suc number) mid rest new later)

-- what went out of answers before a fault: of a writer that fails they may be cut, for any other fault they are whole
abbrev pub WentBefore : ScriptFault → Option (List ℕ) → Option (List ℕ) → List ℕ → Type 0
WentBefore ScriptFault.Write old new answers = AppendsSome old new answers
WentBefore ScriptFault.Memory old new answers = Appends old new answers
WentBefore ScriptFault.Read old new answers = Appends old new answers
WentBefore ScriptFault.TooLarge old new answers = Appends old new answers

-- each line of the input was answered, and all answers went out
pub record ServesWhole {A : Type 0} (answers : A → ℕ → List ℕ → List ℕ → A → Type 0) (known before after : Option (List ℕ)) (old new : A) : Type 0 where
  pub lines : List (List ℕ)
  pub text : List ℕ
  pub served : AreServed answers 1 old lines new text
  pub all : IfSome known (λ input. AreLinesOf input lines)
  pub out : Appends before after text

-- the first lines of the input were answered, and then a fault ended the run
pub record ServesPart {A : Type 0} (answers : A → ℕ → List ℕ → List ℕ → A → Type 0) (known before after : Option (List ℕ)) (old : A) (fault : ScriptFault) : Type 0 where
  pub lines : List (List ℕ)
  pub end : A
  pub text : List ℕ
  pub rest : List ℕ
  pub served : AreServed answers 1 old lines end text
  pub first : IfSome known (λ input. bytes_of_lines lines ++ rest ≡ input ++ 10 ∷ [])
  pub out : WentBefore fault before after text

-- what goes out to another program that sends these lines
abbrev pub Serves : {A : Type 0} → (A → ℕ → List ℕ → List ℕ → A → Type 0) → Option (List ℕ) → Option (List ℕ) → Option (List ℕ) → A → A → Result (Unit {0}) ScriptFault → Type 0
Serves answers known before after old new result = MatchResult result (λ _. ServesWhole answers known before after old new) (ServesPart answers known before after old)

-- a line was answered, and this holds of its answer
abbrev pub IsTold : {A : Type 0} → (A → ℕ → List ℕ → List ℕ → A → Type 0) → ℕ → List ℕ → A → A → (List ℕ → Type 0) → Type 0
IsTold answers number line old new Goes = (answer : List ℕ) × answers old number line answer new × Goes answer

-- the result of one line: its answer goes out. For want of memory nothing of it goes out, and a writer that fails may cut it
abbrev pub ServesLine : {A : Type 0} → (A → ℕ → List ℕ → List ℕ → A → Type 0) → ℕ → List ℕ → Option (List ℕ) → Option (List ℕ) → A → A → Result (Unit {0}) ScriptFault → Type 0
ServesLine answers number line before after old new (Ok done) = IsTold answers number line old new (Appends before after)
ServesLine answers number line before after old new (Err ScriptFault.Memory) = after ≡ before
ServesLine answers number line before after old new (Err ScriptFault.Write) = IsTold answers number line old new (AppendsSome before after)
ServesLine answers number line before after old new (Err ScriptFault.Read) = ⊥
ServesLine answers number line before after old new (Err ScriptFault.TooLarge) = ⊥
