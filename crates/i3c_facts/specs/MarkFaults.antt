-- Why a line that begins as a mark isn't one.
use Rattle.std.specs.Prelude.{⊤, ◌≡◌, ◌⊎◌, List, ◌∷◌, ℕ, codes}
use Rattle.i3c_lines.specs.declared.form_faults.FormFault.{FormFault}
use Rattle.i3c_lines.specs.Faults.{IsFactsWord, IsTokenFault}
use Rattle.i3c_lines.specs.Forms.{tokens_of}

-- the first token of a mark without facts
abbrev pub IsPlainWord : List ℕ → Type 0
IsPlainWord token = (token ≡ codes "anywhere") ⊎ (token ≡ codes "any") ⊎ (token ≡ codes "track") ⊎ (token ≡ codes "close")

-- the first token of a mark
abbrev pub IsMarkWord : List ℕ → Type 0
IsMarkWord token = IsFactsWord token ⊎ IsPlainWord token

-- a line begins as a mark
abbrev pub BeginsMark : List ℕ → Type 0
BeginsMark line = (first : List ℕ) × (rest : List (List ℕ)) × (tokens_of line ≡ first ∷ rest) × IsMarkWord first

-- a fault of a mark with facts: one of them isn't whole, a token is no word of a fact, or there are two spaces
abbrev pub IsOfFacts : FormFault → Type 0
IsOfFacts FormFault.MissingFact = ⊤
IsOfFacts (FormFault.NoFact token) = ⊤
IsOfFacts FormFault.TwoSpaces = ⊤
IsOfFacts _ = ⊥

-- what a fault says of a mark's tokens is so, and it is one of facts where the mark has facts
abbrev pub IsWordFault : List ℕ → List (List ℕ) → FormFault → Type 0
IsWordFault first rest fault = IsTokenFault first rest fault × (IsFactsWord first → IsOfFacts fault)

-- the same of a line
abbrev pub IsMarkFault : List ℕ → FormFault → Type 0
IsMarkFault line fault = (first : List ℕ) × (rest : List (List ℕ)) × (tokens_of line ≡ first ∷ rest) × IsWordFault first rest fault
