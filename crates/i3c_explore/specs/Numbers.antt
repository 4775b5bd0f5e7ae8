-- Numbers of orders, which can be beyond 64 bits.
use Rattle.std.specs.Prelude.{◌≡◌, ◌≤◌, ◌+◌, ◌^◌, ℕ, Option, None, Some}

-- a number as it is told: none for what is over 64 bits
abbrev pub IsNumber : Option ℕ → ℕ → Type 0
IsNumber (Some told) n = told ≡ n
IsNumber None n = 2 ^ 64 ≤ n

-- the sum of two numbers as they are told
abbrev pub IsSum : Option ℕ → Option ℕ → Option ℕ → Type 0
IsSum one other total = (m n : ℕ) → IsNumber one m → IsNumber other n → IsNumber total (m + n)
