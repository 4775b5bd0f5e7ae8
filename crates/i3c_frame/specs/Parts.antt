-- The parts of a text.
use Rattle.std.specs.Prelude.{ℕ, ◌==◌, nat_lt, Bool, ◌||◌, List, length, filter}
use Rattle.std.specs.List.{slice_split}

-- a space or a line feed
abbrev pub is_separator : ℕ → Bool
is_separator byte = byte == 32 || byte == 10

-- the texts between separators, without the empty ones
unfoldable pub parts : List ℕ → List (List ℕ)
parts text = filter (λ part. nat_lt 0 (length part)) (slice_split is_separator text)
