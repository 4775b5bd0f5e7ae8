-- A counter, and what lines do to it.
use Rattle.std.specs.Prelude.{◌≡◌, ◌<◌, ◌≤◌, ◌+◌, ◌*◌, ℕ, min, nat_lt, if◌then◌else◌}
use Rattle.test_explore.specs.declared.counter.Counter.{Counter}
use Rattle.test_explore.specs.declared.counter.Line.{Line}
use Rattle.test_explore.specs.declared.counter.Line.TheVariants.{Add, Clear, Double, Flag, Risk, Spread}

-- what it counts after a line, in a way
abbrev pub counted : ℕ → Line → ℕ → ℕ
counted n (Add k) way = n + k
counted n Double way = n * 2
counted n Clear way = 0
counted n (Risk k) way = if nat_lt 0 way then 0 else n + k
counted n (Spread k) way = n + min way k
counted n (Flag k) way = n

-- the last way to try of a line: each later one does what this one does
abbrev pub last_of : Counter → Line → ℕ
last_of counter (Add k) = 0
last_of counter Double = 0
last_of counter Clear = 0
last_of counter (Risk k) = 1
last_of counter (Spread k) = k
last_of counter (Flag k) = 0

-- a line leads on while the counter is below 1000
abbrev pub Counts : Counter → Line → ℕ → Counter → Type 0
Counts old line way new = (new.count ≡ counted old.count line way) × (new.count < 1000)

-- a line breaks an expectation if the counter comes to 1000
abbrev pub Overflows : Counter → Line → ℕ → Type 0
Overflows old line way = 1000 ≤ counted old.count line way

-- a line is noted in a way
abbrev pub IsNotable : ℕ → Line → ℕ → Type 0
IsNotable n (Add k) way = ⊥
IsNotable n Double way = ⊥
IsNotable n Clear way = ⊥
IsNotable n (Risk k) way = 0 < way
IsNotable n (Spread k) way = ⊥
IsNotable n (Flag k) way = n ≡ k

-- a line goes quietly in a way: it isn't noted, and the counter stays below 1000
abbrev pub GoesQuietly : Counter → Line → ℕ → Type 0
GoesQuietly old line way = (IsNotable old.count line way → ⊥) × (counted old.count line way < 1000)
