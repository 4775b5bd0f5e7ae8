-- The bytes of marks, and the facts that marks say.
use Rattle.std.specs.Prelude.{◌≡◌, ◌≢◌, ⊤, ℕ, ◌<◌, ◌≤◌, Bool, true, false, List, [], ◌∷◌, Option, Some, None, codes, length, map, nat_eq}
use denote.Ref.{Bor}
use Rattle.std.specs.Cmp.Lexicographic.{pointwise}
use Rattle.std.specs.List.{slice_split}
use Rattle.i3c_step.specs.declared.replies.Refusal.{Refusal as BusRefusal}
use Rattle.i3c_legacy.specs.declared.faults.DeclareFault.{DeclareFault}
use Rattle.i3c_facts.specs.declared.facts.Claim.{Claim}
use Rattle.i3c_facts.specs.declared.fact.Fact.{Fact}
use Rattle.i3c_facts.specs.declared.fact.ServedAs.{ServedAs}
use Rattle.i3c_facts.specs.declared.marks.Mark.{Mark}
use Rattle.i3c_lines.specs.declared.refusals.Refusal.{Refusal}
use Rattle.i3c_lines.specs.Forms.{IsNamed, Writes, WritesAddress, WritesBit, tokens_of}
use Rattle.i3c_lines.specs.Refusing.{refusal_token}
use Rattle.i3c_lines.specs.Tokens.{AreBytes, pair_values}

-- the bytes of each token
abbrev pub texts : List (Bor (List ℕ)) → List (List ℕ)
texts tokens = map (λ token. token.now) tokens

-- a token that parts claims
abbrev pub is_or : List ℕ → Bool
is_or token = pointwise nat_eq token (codes "or")

-- the tokens between each two `or`
abbrev pub parts : List (List ℕ) → List (List (List ℕ))
parts tokens = slice_split is_or tokens

-- those behind an `or`, if there is one
abbrev pub parts_left : Option (List (Bor (List ℕ))) → List (List (List ℕ))
parts_left None = []
parts_left (Some tokens) = parts (texts tokens)

-- a refusal as it is printed. One of an identity's declaration that is printed as one of a legacy target is read as the latter
abbrev pub IsReason : List (List ℕ) → Refusal → Type 0
IsReason tokens (Refusal.Bus (BusRefusal.NoAnswer address)) = (token : List ℕ) × (tokens ≡ codes "NoAnswer" ∷ token ∷ []) × WritesAddress token address
IsReason tokens (Refusal.Bus (BusRefusal.BadAddress address)) = (token : List ℕ) × (tokens ≡ codes "BadAddress" ∷ token ∷ []) × WritesAddress token address
IsReason tokens (Refusal.Declare DeclareFault.LegacyAddress) = ⊥
IsReason tokens (Refusal.Declare DeclareFault.LegacyTwice) = ⊥
IsReason tokens why = tokens ≡ refusal_token why ∷ []

-- a mandatory byte, or `--` for none
abbrev pub IsByteOrNone : List ℕ → Option ℕ → Type 0
IsByteOrNone token None = token ≡ codes "--"
IsByteOrNone token (Some byte) = Writes 2 token byte

-- the tokens of what a request came to, as a script prints them
abbrev pub served_tokens : ServedAs → List (List ℕ)
served_tokens ServedAs.Quiet = codes "quiet" ∷ []
served_tokens ServedAs.Recorded = codes "recorded" ∷ []
served_tokens ServedAs.TurnedDown = codes "turned" ∷ codes "down" ∷ []
served_tokens ServedAs.Torn = codes "torn" ∷ []
served_tokens ServedAs.Joining = codes "joining" ∷ []
served_tokens ServedAs.WantsRole = codes "wants" ∷ codes "role" ∷ []

-- the same tokens with a space between each two
abbrev pub served_text : ServedAs → List ℕ
served_text ServedAs.Quiet = codes "quiet"
served_text ServedAs.Recorded = codes "recorded"
served_text ServedAs.TurnedDown = codes "turned down"
served_text ServedAs.Torn = codes "torn"
served_text ServedAs.Joining = codes "joining"
served_text ServedAs.WantsRole = codes "wants role"

-- a token that is these bytes: one to sixteen, as many as a line can read
abbrev pub WritesBytes : List ℕ → List ℕ → Type 0
WritesBytes token bytes = (0 < length token) × AreBytes token × (length bytes ≤ 16) × (bytes ≡ pair_values token)

-- these tokens are this fact. `active gone` is about a device that is called gone, and `not waiting 3` about all devices
abbrev pub IsFact : List (List ℕ) → Fact → Type 0
IsFact tokens (Fact.Active name) = (token : List ℕ) × (tokens ≡ codes "active" ∷ token ∷ []) × IsNamed token name
IsFact tokens (Fact.At name address) = (token at : List ℕ) × (tokens ≡ token ∷ codes "at" ∷ at ∷ []) × IsNamed token name × WritesAddress at address
IsFact tokens (Fact.AtAny name) = (token : List ℕ) × (tokens ≡ token ∷ codes "at" ∷ codes "any" ∷ []) × IsNamed token name
IsFact tokens (Fact.AtNone name) = (token : List ℕ) × (tokens ≡ token ∷ codes "at" ∷ codes "none" ∷ []) × IsNamed token name
IsFact tokens (Fact.Gone name) = (token : List ℕ) × (tokens ≡ token ∷ codes "gone" ∷ []) × IsNamed token name × (token ≢ codes "active")
IsFact tokens (Fact.Waiting name count) = (token digits : List ℕ) × (tokens ≡ token ∷ codes "waiting" ∷ digits ∷ []) × IsNamed token name × (token ≢ codes "not") × WritesBit digits count
IsFact tokens (Fact.AllWaiting count) = (digits : List ℕ) × (tokens ≡ codes "waiting" ∷ digits ∷ []) × WritesBit digits count
IsFact tokens (Fact.Records count) = (digits : List ℕ) × (tokens ≡ codes "records" ∷ digits ∷ []) × WritesBit digits count
IsFact tokens (Fact.Recorded name byte count) =
    (token code digits : List ℕ) × (tokens ≡ codes "record" ∷ token ∷ code ∷ digits ∷ []) × IsNamed token name × IsByteOrNone code byte × WritesBit digits count
IsFact tokens Fact.Assigned = tokens ≡ codes "assigned" ∷ []
IsFact tokens Fact.Listed = tokens ≡ codes "listed" ∷ []
IsFact tokens Fact.Open = tokens ≡ codes "open" ∷ []
IsFact tokens Fact.Done = tokens ≡ codes "done" ∷ []
IsFact tokens (Fact.Refused why) = (rest : List (List ℕ)) × (tokens ≡ codes "refused" ∷ rest) × IsReason rest why
IsFact tokens Fact.AnyRefused = tokens ≡ codes "refused" ∷ []
IsFact tokens (Fact.Served way) = tokens ≡ codes "served" ∷ served_tokens way
IsFact tokens (Fact.Bytes bytes) = (token : List ℕ) × (tokens ≡ codes "bytes" ∷ token ∷ []) × WritesBytes token bytes
IsFact tokens (Fact.Asking name) = (token : List ℕ) × (tokens ≡ codes "asking" ∷ token ∷ []) × IsNamed token name × (token ≢ codes "gone")

-- these tokens claim that a fact holds, or, negated, that it doesn't
abbrev pub IsClaimOf : List (List ℕ) → Fact → Bool → Type 0
IsClaimOf tokens fact false = IsFact tokens fact
IsClaimOf tokens fact true = (rest : List (List ℕ)) × (tokens ≡ codes "not" ∷ rest) × IsFact rest fact

-- `FACT` or `not FACT`
abbrev pub IsClaim : List (List ℕ) → Claim → Type 0
IsClaim tokens claim = IsClaimOf tokens claim.fact claim.negated

-- each of these parts is one claim
abbrev pub AreClaims : List (List (List ℕ)) → List Claim → Type 0
AreClaims [] [] = ⊤
AreClaims [] (claim ∷ claims) = ⊥
AreClaims (part ∷ more) [] = ⊥
AreClaims (part ∷ more) (claim ∷ claims) = IsClaim part claim × AreClaims more claims

-- claims, with an `or` between each two. No token of a claim is `or`
abbrev pub AreFacts : List (List ℕ) → List Claim → Type 0
AreFacts tokens claims = AreClaims (parts tokens) claims

-- these tokens are a mark without facts
abbrev pub IsPlainForm : List (List ℕ) → Mark → Type 0
IsPlainForm tokens Mark.Any = tokens ≡ codes "any" ∷ []
IsPlainForm tokens (Mark.Anywhere name) = (token : List ℕ) × (tokens ≡ codes "anywhere" ∷ token ∷ []) × IsNamed token name
IsPlainForm tokens (Mark.Always facts) = ⊥
IsPlainForm tokens Mark.Track = tokens ≡ codes "track" ∷ []
IsPlainForm tokens Mark.Close = tokens ≡ codes "close" ∷ []
IsPlainForm tokens (Mark.Expect facts) = ⊥

-- these tokens are this mark
abbrev pub IsMarkForm : List (List ℕ) → Mark → Type 0
IsMarkForm tokens Mark.Any = tokens ≡ codes "any" ∷ []
IsMarkForm tokens (Mark.Anywhere name) = (token : List ℕ) × (tokens ≡ codes "anywhere" ∷ token ∷ []) × IsNamed token name
IsMarkForm tokens (Mark.Always facts) = (rest : List (List ℕ)) × (tokens ≡ codes "always" ∷ rest) × AreFacts rest facts
IsMarkForm tokens Mark.Track = tokens ≡ codes "track" ∷ []
IsMarkForm tokens Mark.Close = tokens ≡ codes "close" ∷ []
IsMarkForm tokens (Mark.Expect facts) = (rest : List (List ℕ)) × (tokens ≡ codes "expect" ∷ rest) × AreFacts rest facts

-- a line that is this mark
abbrev pub IsMark : List ℕ → Mark → Type 0
IsMark line mark = (length line ≤ 256) × IsMarkForm (tokens_of line) mark
