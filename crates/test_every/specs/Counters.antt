-- A counter, what lines of tracks do to it, and what a program's lines are answered.
use Rattle.std.specs.Prelude.{◌≡◌, ◌<◌, ◌≤◌, ◌+◌, ◌*◌, ℕ, IsTrue}
use Rattle.test_every.specs.declared.counter.Ask.{Ask}
use Rattle.test_every.specs.declared.counter.Counter.{Counter}
use Rattle.test_every.specs.declared.counter.Line.{Line}
use Rattle.test_every.specs.declared.counter.Reply.{Reply}
use Rattle.test_every.specs.declared.counter.Rules.{Rules}

-- what it counts after a line of a track
abbrev pub counted : ℕ → Line → ℕ
counted n (Line.Add k) = n + k
counted n Line.Double = n * 2

-- a line of a track leads on while the counter is below 1000
abbrev pub Counts : Counter → Line → ℕ → Counter → Type 0
Counts old line way new = (new.count ≡ counted old.count line) × (new.count < 1000)

-- it breaks an expectation if the counter comes to 1000
abbrev pub Overflows : Counter → Line → ℕ → Type 0
Overflows old line way = 1000 ≤ counted old.count line

-- it goes quietly if the counter stays below 1000
abbrev pub GoesQuietly : Counter → Line → ℕ → Type 0
GoesQuietly old line way = counted old.count line < 1000

-- a line of the program is lost in each way but 0, where lines may be lost
abbrev pub IsLost : Rules → ℕ → Type 0
IsLost rules way = IsTrue rules.risky × (0 < way)

-- what a line of the program is answered where it isn't lost
abbrev pub Says : Counter → Ask → Reply → Counter → Type 0
Says old Ask.Read reply new = (reply ≡ Reply.Count old.count) × (new.count ≡ old.count)
Says old Ask.Clear reply new = (reply ≡ Reply.Count 0) × (new.count ≡ 0)

-- what it is answered in a way, and where that leads
abbrev pub Replies : Rules → Counter → Ask → ℕ → Reply → Counter → Type 0
Replies rules old ask way reply new = (IsLost rules way → (reply ≡ Reply.Lost) × (new.count ≡ old.count)) × ((IsLost rules way → ⊥) → Says old ask reply new)

-- a program that waits sees the count
abbrev pub Shows : Counter → Reply → Type 0
Shows counter reply = reply ≡ Reply.Count counter.count
