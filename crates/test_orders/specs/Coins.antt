-- What a coin answers.
use Rattle.std.specs.Prelude.{◌≡◌, Bool}
use Rattle.test_orders.specs.declared.coin.Coin.{Coin}
use Rattle.test_orders.specs.declared.coin.Line.{Line}

-- a toss has either answer, a look that of the coin; the coin lies as it was answered
abbrev pub Falls : Coin → Line → Bool → Coin → Type 0
Falls old Line.Toss answer new = new.head ≡ answer
Falls old Line.Look answer new = (new.head ≡ answer) × (answer ≡ old.head)
