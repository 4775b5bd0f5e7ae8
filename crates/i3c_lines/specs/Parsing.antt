-- What functions promise that read the tokens of a line.
use Rattle.std.specs.Prelude.{⊤, ◌≡◌, ℕ, Bool, List, [], ◌∷◌, ◌++◌, ◌≤◌, Option, Some, None, MatchOption, codes, length}
use Rattle.std.specs.Option.{option_copied}
use Rattle.arrayvec.specs.ArrayVec.{ArrayVec}
use Rattle.i3c_base.specs.declared.identity.Identity.{Identity}
use Rattle.i3c_base.specs.declared.requests.Fixed.{Fixed}
use Rattle.i3c_lines.specs.declared.command.Command.{Command}
use Rattle.i3c_lines.specs.declared.names.Name.{Name}
use Rattle.i3c_lines.specs.declared.sent.Sent.{Sent}
use Rattle.i3c_lines.specs.declared.tokens.Tokens.{Tokens}
use Rattle.i3c_lines.specs.Forms.{AreWritten, IsForm, IsNamed, IsSentForm, NameEach, WritesIdentity, tokens_of, willing_tokens}
use Rattle.i3c_lines.specs.Policies.{AcceptEach, AcceptsSome, IsPolicy}

-- the tokens of some bytes, or no tokens
abbrev pub tokens_in : Option (List ℕ) → List (List ℕ)
tokens_in None = []
tokens_in (Some bytes) = tokens_of bytes

-- a token, and behind a space the rest of its line, if there is one
abbrev pub joined : List ℕ → Option (List ℕ) → List ℕ
joined token None = token
joined token (Some rest) = token ++ 32 ∷ rest

-- the tokens that were not read yet
abbrev pub left_tokens : Tokens → List (List ℕ)
left_tokens tokens = tokens_in (option_copied tokens.rest)

-- a value is read from tokens exactly if they have a value's form
abbrev pub Reads : {A : Type 0} → (List (List ℕ) → A → Type 0) → List (List ℕ) → Option A → Type 0
Reads {A} Form tokens result = MatchOption result ((value : A) → Form tokens value → ⊥) (λ value. Form tokens value)

-- a value is read from the next token, if this has a value's form
abbrev pub TakesToken : {A : Type 0} → (List ℕ → A → Type 0) → List (List ℕ) → List (List ℕ) → Option A → Type 0
TakesToken {A} Form before after result = MatchOption result ((value : A) (token : List ℕ) (rest : List (List ℕ)) → before ≡ token ∷ rest → Form token value → ⊥)
    (λ value. (token : List ℕ) × (before ≡ token ∷ after) × Form token value)

-- an identity is read from the next three tokens, if they have its form
abbrev pub TakesIdentity : List (List ℕ) → List (List ℕ) → Option Identity → Type 0
TakesIdentity before after result =
    MatchOption result
    ((identity : Identity) (pid bcr dcr : List ℕ) (rest : List (List ℕ)) → before ≡ pid ∷ bcr ∷ dcr ∷ rest → WritesIdentity pid bcr dcr identity → ⊥)
    (λ identity. (pid bcr dcr : List ℕ) × (before ≡ pid ∷ bcr ∷ dcr ∷ after) × WritesIdentity pid bcr dcr identity)

-- one token, which is a name
abbrev pub AreNamed : List (List ℕ) → Name → Type 0
AreNamed tokens name = (token : List ℕ) × (tokens ≡ token ∷ []) × IsNamed token name

-- the tokens behind a device's identity
abbrev pub AreWilling : List (List ℕ) → Bool → Type 0
AreWilling tokens willing = tokens ≡ willing_tokens willing

-- the bytes of a write, as they are kept
abbrev pub AreKept : List (List ℕ) → ArrayVec ℕ → Type 0
AreKept tokens bytes = AreWritten tokens bytes.items

-- a policy is read from the tokens in front of the first `but`, if it accepts some kind
abbrev pub TakesPolicy : List (List ℕ) → List (List ℕ) → Option Fixed → Type 0
TakesPolicy before after result =
    MatchOption result ((kinds : Fixed) (front rest : List (List ℕ)) → before ≡ front ++ codes "but" ∷ rest → IsPolicy front kinds → AcceptsSome kinds → ⊥)
    (λ kinds. (front : List (List ℕ)) × (before ≡ front ++ codes "but" ∷ after) × IsPolicy front kinds × AcceptsSome kinds)

-- a policy accepts the kinds of the tokens in front of the first `but` as well
abbrev pub AcceptsUntilBut : Fixed → List (List ℕ) → List (List ℕ) → Option Fixed → Type 0
AcceptsUntilBut old before after result =
    MatchOption result ((new : Fixed) (front rest : List (List ℕ)) → before ≡ front ++ codes "but" ∷ rest → AcceptEach front old new → ⊥)
    (λ new. (front : List (List ℕ)) × (before ≡ front ++ codes "but" ∷ after) × AcceptEach front old new)

-- names go on by those of more tokens, if there are 8 at most and none comes twice
abbrev pub GoOn : List (List ℕ) → List Name → List Name → Option (Unit {0}) → Type 0
GoOn tokens old new result = MatchOption result ((all : List Name) → NameEach tokens old all → length all ≤ 8 → ⊥) (λ _. NameEach tokens old new)

-- a command becomes that of some tokens if they have a command's form, and stays what it was otherwise
abbrev pub Becomes : List (List ℕ) → Option (Unit {0}) → Command → Command → Type 0
Becomes tokens result old new = MatchOption result (((command : Command) → IsForm tokens command → ⊥) × (new ≡ old)) (λ _. IsForm tokens new)

-- a command becomes that of some tokens if they are a line that a controller sends
abbrev pub BecomesSent : List (List ℕ) → Option (Unit {0}) → Command → Type 0
BecomesSent tokens result new = MatchOption result ((sent : Sent) → IsSentForm tokens sent → ⊥) (λ _. IsForm tokens new)

-- a command whose line is read token by token
abbrev pub IsOther : Command → Type 0
IsOther (Command.Legacy name address lvr) = ⊤
IsOther (Command.Declare address identity) = ⊤
IsOther (Command.Main name setup) = ⊤
IsOther (Command.Attach name setup) = ⊤
IsOther (Command.DropOff name) = ⊤
IsOther (Command.Raise name byte) = ⊥
IsOther (Command.AskJoin name) = ⊤
IsOther (Command.AskRole name) = ⊤
IsOther (Command.Frame frame) = ⊥
IsOther (Command.HandOver to) = ⊤
IsOther Command.Open = ⊥
IsOther Command.Round = ⊥
IsOther Command.End = ⊥
IsOther Command.Daa = ⊥
IsOther (Command.As name sent) = ⊥
IsOther (Command.Policy policy) = ⊤
IsOther (Command.PolicyBut kinds but) = ⊤
IsOther (Command.Cut name bit) = ⊤
IsOther Command.Show = ⊥
IsOther Command.ShowAll = ⊥
IsOther (Command.ShowFrom first) = ⊥
IsOther (Command.Forget last) = ⊤
IsOther Command.Symbols = ⊥
IsOther (Command.Frames count) = ⊤

-- these tokens are the line of a command that is read token by token
abbrev pub IsOtherForm : List (List ℕ) → Command → Type 0
IsOtherForm tokens command = IsForm tokens command × IsOther command

-- a command becomes one that is read token by token, or stays what it was
abbrev pub BecomesOther : List (List ℕ) → Option (Unit {0}) → Command → Command → Type 0
BecomesOther tokens result old new = MatchOption result (((command : Command) → IsOtherForm tokens command → ⊥) × (new ≡ old)) (λ _. IsOtherForm tokens new)
