-- How long each level of a symbol lasts.
use Rattle.std.specs.Prelude.{ℕ, if◌then◌else◌}
use Rattle.i3c_base.specs.Sets.{is_in}
use Rattle.i3c_frame.specs.declared.symbols.Symbol.{Symbol}
use Rattle.i3c_frame.specs.declared.symbols.Symbol.TheVariants.{Header, Word, Identity, AddressByte}
use Rattle.i3c_wave.specs.declared.levels.Level.{Level}
use Rattle.i3c_wave.specs.declared.timing.Timing.{Timing}
use Rattle.i3c_wave.specs.declared.timing.Timing.TheVariants.{PushPull, OpenDrain, Legacy}

-- the timing of a symbol, with these addresses of legacy targets: START, repeated START and STOP are for legacy targets too
abbrev pub timing_of : ℕ → Symbol → Timing
timing_of legacies (Header address read ack) = if is_in legacies address then Legacy else OpenDrain
timing_of legacies (Word word) = PushPull
timing_of legacies (Identity number) = OpenDrain
timing_of legacies (AddressByte byte ack) = OpenDrain
timing_of legacies symbol = Legacy

-- how long SCL is low, in ns
abbrev pub low_ns : Timing → ℕ
low_ns PushPull = 40
low_ns OpenDrain = 200
low_ns Legacy = 500

-- how long SCL is high, in ns
abbrev pub high_ns : Timing → ℕ
high_ns PushPull = 40
high_ns OpenDrain = 40
high_ns Legacy = 500

-- how long a level lasts, in ns
abbrev pub lasting : Timing → Level → ℕ
lasting timing level = if level.scl then high_ns timing else low_ns timing
