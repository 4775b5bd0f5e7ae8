-- The options of the command line: what the parser found of them.
use Rattle.std.specs.Prelude.{◌≡◌, ℕ, ◌+◌, ◌≤◌, ◌++◌, ◌⊎◌, Bool, true, false, List, [], ◌∷◌, All, codes, length, option_map, unwrap_or, Option, Some, None}
use Rattle.std.specs.Str.Parse.{IsNumeral, digits_value}
use Rattle.clap.specs.Words.{first_value, matched_of, one_text, raw_values}
use Rattle.clap.specs.declared.parser.matches.Found.{Found}
use Rattle.i3c_base.specs.Sets.{is_in}
use Rattle.i3c_explore.specs.Parts.{Part, whole}
use Rattle.i3c_orders.specs.declared.which.Which.{Which}
use Rattle.i3c_orders.specs.Numbers.{NamesNumber, NamesNumbers}
use Rattle.i3c_orders.specs.Portions.{Portion}
use Rattle.i3c_text.specs.Digits.{IsHexDigit}

-- a flag, which takes nothing, is set or isn't
abbrev pub IsFlag : Found → List ℕ → Bool → Type 0
IsFlag found name set =
    (one_text found name ≡ None → set ≡ false) × (one_text found name ≡ Some (codes "true") → set ≡ true)
    × (one_text found name ≡ Some (codes "false") → set ≡ false)

-- the text of an option, or what stands for it where it isn't given
abbrev pub text_or : Found → List ℕ → List ℕ → List ℕ
text_or found name without = unwrap_or (first_value found name) without

-- an option that takes a number: its least, its most, and the number without it
pub record NumberOption : Type 0 where
  pub name : List ℕ
  pub least : ℕ
  pub most : ℕ
  pub without : ℕ

abbrev pub most_lines : NumberOption
most_lines = record { name = codes "most"; least = 0; most = 18446744073709551615; without = 10000000 }

-- how many marks of a program are kept
abbrev pub most_marks : NumberOption
most_marks = record { name = codes "states"; least = 1; most = 18446744073709551615; without = 18446744073709551615 }

abbrev pub most_orders : NumberOption
most_orders = record { name = codes "most"; least = 1; most = 18446744073709551615; without = 18446744073709551615 }

abbrev pub random : NumberOption
random = record { name = codes "random"; least = 1; most = 18446744073709551615; without = 1 }

abbrev pub seed : NumberOption
seed = record { name = codes "seed"; least = 0; most = 18446744073709551615; without = 0 }

abbrev pub jobs : NumberOption
jobs = record { name = codes "jobs"; least = 1; most = 4294967295; without = 1 }

abbrev pub devices : NumberOption
devices = record { name = codes "devices"; least = 1; most = 63; without = 1 }

abbrev pub posts : NumberOption
posts = record { name = codes "posts"; least = 1; most = 100000; without = 1 }

-- the number of an option, from its least to its most: decimal digits alone, or none
abbrev pub IsNumberIn : ℕ → ℕ → ℕ → Option (List ℕ) → ℕ → Type 0
IsNumberIn least most without None n = n ≡ without
IsNumberIn least most without (Some text) n = IsNumeral 10 text × (n ≡ digits_value 10 text) × (least ≤ n) × (n ≤ most)

-- the number that was given for an option, or the one without it
abbrev pub IsNumberOf : NumberOption → Found → ℕ → Type 0
IsNumberOf option found n = IsNumberIn option.least option.most option.without (first_value found option.name) n

-- the two numbers of a text K/N
pub record NamesTwo (text : List ℕ) (number of : ℕ) : Type 0 where
  pub first : List ℕ
  pub second : List ℕ
  pub same : text ≡ first ++ 47 ∷ second
  pub is_first : NamesNumber first number
  pub is_second : NamesNumber second of

-- the part K of N that a text K/N names
abbrev pub NamesPart : List ℕ → Part → Type 0
NamesPart text part = NamesTwo text (part.index + 1) part.of

-- the same of the orders of a program
abbrev pub NamesPortion : List ℕ → Portion → Type 0
NamesPortion text portion = NamesTwo text (portion.index + 1) portion.of

-- the part that `--part` names, or all orders without it
abbrev pub IsPartOf : Option (List ℕ) → Part → Type 0
IsPartOf None part = part ≡ whole
IsPartOf (Some text) part = NamesPart text part

-- so many orders are drawn as `--random` says, from the seed of `--seed` on
abbrev pub IsDrawn : Found → Which → Type 0
IsDrawn found (Which.Drawn count from) = IsNumberOf random found count × IsNumberOf seed found from
IsDrawn found which = ⊥

-- which orders a program meets: the one that `--order` names, or the part that `--part` does, or as many as `--random` says, or all
abbrev pub IsWhich : Found → Which → Type 0
IsWhich found (Which.One numbers) = (text : List ℕ) × (first_value found (codes "order") ≡ Some text) × NamesNumbers text numbers.items
IsWhich found (Which.Part portion) =
    (first_value found (codes "order") ≡ None) × ((text : List ℕ) × (first_value found (codes "part") ≡ Some text) × NamesPortion text portion)
IsWhich found (Which.Drawn count from) =
    (first_value found (codes "order") ≡ None) × (first_value found (codes "part") ≡ None) × ((text : List ℕ) × (first_value found (codes "random") ≡ Some text))
    × IsDrawn found (Which.Drawn count from)
IsWhich found Which.All = (first_value found (codes "order") ≡ None) × (first_value found (codes "part") ≡ None) × (first_value found (codes "random") ≡ None)

-- a text names the address of a legacy target, 08 to 77, by two hex digits in capitals
abbrev pub NamesLegacy : List ℕ → ℕ → Type 0
NamesLegacy text a = (length text ≡ 2) × All IsHexDigit text × (a ≡ digits_value 16 text) × (0x08 ≤ a) × (a ≤ 0x77)

-- the texts of all uses of an option
abbrev pub texts_of : Found → List ℕ → List (List ℕ)
texts_of found name = unwrap_or (option_map raw_values (matched_of found name)) []

-- the texts of all uses of `--legacy`
abbrev pub legacy_texts : Found → List (List ℕ)
legacy_texts found = texts_of found (codes "legacy")

-- each text names a legacy target's address
abbrev pub AllName : List (List ℕ) → Type 0
AllName [] = Unit {0}
AllName (text ∷ rest) = ((a : ℕ) × NamesLegacy text a) × AllName rest

-- one of these texts names this address
abbrev pub IsNamed : List (List ℕ) → ℕ → Type 0
IsNamed [] a = ⊥
IsNamed (text ∷ rest) a = NamesLegacy text a ⊎ IsNamed rest a

-- each text names a legacy target's address, and the set has these alone
pub record AreLegacies (texts : List (List ℕ)) (set : ℕ) : Type 0 where
  pub named : AllName texts
  pub has : (a : ℕ) → IsNamed texts a → is_in set a ≡ true
  pub no_more : (a : ℕ) → is_in set a ≡ true → IsNamed texts a
