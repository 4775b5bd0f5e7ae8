-- Lines whose hexadecimal letters may be small.
use Rattle.std.specs.Prelude.{ℕ, Bool, true, false, ◌||◌, List, [], ◌∷◌, bytes_eq, codes, if◌then◌else◌, map}
use Rattle.std.specs.Char.{is_ascii_hexdigit, to_ascii_uppercase}
use Rattle.std.specs.List.{list_all}
use Rattle.i3c_lines.specs.Forms.{tokens_of}
use Rattle.i3c_lines.specs.Printing.{spaced}

-- a token of hexadecimal digits with its letters as capitals, and any other token as it is
abbrev pub capital_token : List ℕ → List ℕ
capital_token token = if list_all is_ascii_hexdigit token then map to_ascii_uppercase token else token

-- whether a name follows this first token
abbrev pub has_name : List ℕ → Bool
has_name token =
    bytes_eq token (codes "legacy") || (bytes_eq token (codes "main") || (bytes_eq token (codes "attach") || (bytes_eq token (codes "drop")
    || (bytes_eq token (codes "raise") || (bytes_eq token (codes "ask-join") || (bytes_eq token (codes "ask-role") || (bytes_eq token (codes "cut") || bytes_eq token (codes "as"))))))))

-- the tokens behind a first one in capitals, except for a name
abbrev pub capital_args : Bool → List (List ℕ) → List (List ℕ)
capital_args false tokens = map capital_token tokens
capital_args true [] = []
capital_args true (name ∷ tokens) = name ∷ map capital_token tokens

-- the tokens of a line in capitals, except for the first one and a name
abbrev pub capital_tokens : List (List ℕ) → List (List ℕ)
capital_tokens [] = []
capital_tokens (first ∷ tokens) = first ∷ capital_args (has_name first) tokens

-- a line whose hexadecimal digits are in capitals
abbrev pub in_capitals : List ℕ → List ℕ
in_capitals line = spaced (capital_tokens (tokens_of line))
