-- Marks that are printed, and read again.
use Rattle.std.proofs.Common.{◌≡◌, ◌∙◌, ℕ, ◌<◌, Bool, true, false, All, inl, inr, List, [], ◌∷◌, ◌++◌, Option, Some, None, ap, append_assoc, arith, codes, refl, subst, sym}
use Rattle.std.proofs.lemmas.List.{append-nil}
use Rattle.std.proofs.lemmas.List.Elements.{All-cons, All-nil}
use Rattle.std.proofs.lemmas.List.Splits.{slice_split_at, slice_split_none}
use Rattle.std.specs.Fmt.{decimal}
use Rattle.i3c_legacy.specs.declared.faults.DeclareFault.{DeclareFault}
use Rattle.i3c_legacy.specs.declared.faults.LegacyFault.{LegacyFault}
use Rattle.i3c_step.specs.declared.replies.Refusal.{Refusal as BusRefusal}
use Rattle.i3c_lines.specs.declared.names.Name.{Name}
use Rattle.i3c_lines.specs.declared.refusals.Refusal.{Refusal}
use Rattle.i3c_lines.specs.Forms.{tokens_of}
use Rattle.i3c_lines.specs.Naming.{letters}
use Rattle.i3c_lines.specs.Printing.{IsWithin, behind}
use Rattle.i3c_lines.specs.Refusing.{refusal_token}
use Rattle.i3c_lines.specs.Tokens.{AreBytes, IsDecimal, IsHex}
use Rattle.i3c_lines.proofs.PrintedLines.{Apart, byte_writes, decimal_writes, pairs_are, pairs_length, plain, tokens_spaced}
use Rattle.i3c_lines.proofs.SplitLaws.{HasNoSpace, hex_no_space, name_no_space, pairs_no_space}
use Rattle.i3c_text.specs.Hex.{byte_text, bytes_text}
use Rattle.i3c_facts.specs.declared.facts.Claim.{Claim}
use Rattle.i3c_facts.specs.declared.fact.Fact.{Fact}
use Rattle.i3c_facts.specs.declared.fact.ServedAs.{ServedAs}
use Rattle.i3c_facts.specs.declared.marks.Mark.{Mark}
use Rattle.i3c_facts.specs.Forms.{AreClaims, IsByteOrNone, IsClaimOf, IsFact, is_or, parts, served_tokens}
use Rattle.i3c_facts.specs.Laws.{PrintedMarksAreRead}
use Rattle.i3c_facts.specs.Printing.{AreSayable, FactHasLine, HaveLines, IsSayable, ReasonHasLine, byte_or_none, claim_text, claims_text, fact_text, more_text, negation_text}
use Rattle.i3c_facts.proofs.ClaimLaws.{not_or}

-- none of these tokens is `or`
abbrev HasNoOr : List (List ℕ) → Type 0
HasNoOr [] = Unit {0}
HasNoOr (token ∷ tokens) = (is_or token ≡ false) × HasNoOr tokens

no_decimal_or : IsDecimal (codes "or") → ⊥
no_decimal_or is = let digit = is.1 0 0 (omega arith) in omega (arith, digit)

no_hex_or : IsHex 2 (codes "or") → ⊥
no_hex_or is = elim (is.1 0 0 (omega arith)) [ inl digit ↦ omega (arith, digit) | inr letter ↦ omega (arith, letter) ]

no_pairs_or : AreBytes (codes "or") → ⊥
no_pairs_or are = elim are.0 [ inl digit ↦ omega (arith, digit) | inr letter ↦ omega (arith, letter) ]

number_apart : (count : ℕ) → count < 65536 → HasNoSpace (decimal count)
number_apart count h = (decimal_writes count h).1

number_no_or : (count : ℕ) → count < 65536 → is_or (decimal count) ≡ false
number_no_or count h = not_or (decimal count) (λ e. no_decimal_or (subst IsDecimal e (decimal_writes count h).0.0))

byte_apart : (byte : ℕ) → byte < 256 → HasNoSpace (byte_text byte)
byte_apart byte h = hex_no_space (byte_text byte) (byte_writes byte h).0.1

byte_no_or : (byte : ℕ) → byte < 256 → is_or (byte_text byte) ≡ false
byte_no_or byte h = not_or (byte_text byte) (λ e. no_hex_or (subst (λ w. IsHex 2 w) e (byte_writes byte h).0))

-- a printed fact's first token
abbrev first_token : Fact → List ℕ
first_token (Fact.Active name) = codes "active"
first_token (Fact.At name address) = letters name
first_token (Fact.AtAny name) = letters name
first_token (Fact.AtNone name) = letters name
first_token (Fact.Gone name) = letters name
first_token (Fact.Waiting name count) = letters name
first_token (Fact.AllWaiting count) = codes "waiting"
first_token (Fact.Records count) = codes "records"
first_token (Fact.Recorded name byte count) = codes "record"
first_token Fact.Assigned = codes "assigned"
first_token Fact.Listed = codes "listed"
first_token Fact.Open = codes "open"
first_token Fact.Done = codes "done"
first_token (Fact.Refused why) = codes "refused"
first_token Fact.AnyRefused = codes "refused"
first_token (Fact.Served way) = codes "served"
first_token (Fact.Bytes bytes) = codes "bytes"
first_token (Fact.Asking name) = codes "asking"

abbrev address_tokens : Refusal → List (List ℕ)
address_tokens (Refusal.Bus (BusRefusal.NoAnswer address)) = byte_text address ∷ []
address_tokens (Refusal.Bus (BusRefusal.BadAddress address)) = byte_text address ∷ []
address_tokens _ = []

-- the other tokens of a printed fact
abbrev other_tokens : Fact → List (List ℕ)
other_tokens (Fact.Active name) = letters name ∷ []
other_tokens (Fact.At name address) = codes "at" ∷ byte_text address ∷ []
other_tokens (Fact.AtAny name) = codes "at" ∷ codes "any" ∷ []
other_tokens (Fact.AtNone name) = codes "at" ∷ codes "none" ∷ []
other_tokens (Fact.Gone name) = codes "gone" ∷ []
other_tokens (Fact.Waiting name count) = codes "waiting" ∷ decimal count ∷ []
other_tokens (Fact.AllWaiting count) = decimal count ∷ []
other_tokens (Fact.Records count) = decimal count ∷ []
other_tokens (Fact.Recorded name byte count) = letters name ∷ byte_or_none byte ∷ decimal count ∷ []
other_tokens Fact.Assigned = []
other_tokens Fact.Listed = []
other_tokens Fact.Open = []
other_tokens Fact.Done = []
other_tokens (Fact.Refused why) = refusal_token why ∷ address_tokens why
other_tokens Fact.AnyRefused = []
other_tokens (Fact.Served way) = served_tokens way
other_tokens (Fact.Bytes bytes) = bytes_text bytes ∷ []
other_tokens (Fact.Asking name) = letters name ∷ []

-- tokens that are a text, a fact's form, without spaces and without `or`
abbrev Fits : List ℕ → Type 0 → List ℕ → List (List ℕ) → Type 0
Fits text Form first tokens = (text ≡ first ++ behind tokens) × Form × Apart (first ∷ tokens) × HasNoOr (first ∷ tokens)

abbrev FactFits : Fact → Type 0
FactFits fact = Fits (fact_text fact) (IsFact (first_token fact ∷ other_tokens fact) fact) (first_token fact) (other_tokens fact)

name_apart : (name : Name) → IsSayable name → HasNoSpace (letters name)
name_apart name is = name_no_space (letters name) is.0

name_no_or : (name : Name) → IsSayable name → is_or (letters name) ≡ false
name_no_or name is = not_or (letters name) is.1

reason_fits : (why : Refusal) → ReasonHasLine why → FactFits (Fact.Refused why)
reason_fits Refusal.BadLine h = (refl, (refusal_token Refusal.BadLine ∷ [], refl, refl), (plain (codes "refused") tt, (plain (refusal_token Refusal.BadLine) tt, tt)), (refl, (refl, tt)))
reason_fits Refusal.NoBus h = (refl, (refusal_token Refusal.NoBus ∷ [], refl, refl), (plain (codes "refused") tt, (plain (refusal_token Refusal.NoBus) tt, tt)), (refl, (refl, tt)))
reason_fits Refusal.BusMade h = (refl, (refusal_token Refusal.BusMade ∷ [], refl, refl), (plain (codes "refused") tt, (plain (refusal_token Refusal.BusMade) tt, tt)), (refl, (refl, tt)))
reason_fits Refusal.NameTaken h = (refl, (refusal_token Refusal.NameTaken ∷ [], refl, refl), (plain (codes "refused") tt, (plain (refusal_token Refusal.NameTaken) tt, tt)), (refl, (refl, tt)))
reason_fits Refusal.NoName h = (refl, (refusal_token Refusal.NoName ∷ [], refl, refl), (plain (codes "refused") tt, (plain (refusal_token Refusal.NoName) tt, tt)), (refl, (refl, tt)))
reason_fits Refusal.NoEnd h = (refl, (refusal_token Refusal.NoEnd ∷ [], refl, refl), (plain (codes "refused") tt, (plain (refusal_token Refusal.NoEnd) tt, tt)), (refl, (refl, tt)))
reason_fits Refusal.NotActive h = (refl, (refusal_token Refusal.NotActive ∷ [], refl, refl), (plain (codes "refused") tt, (plain (refusal_token Refusal.NotActive) tt, tt)), (refl, (refl, tt)))
reason_fits (Refusal.Legacy LegacyFault.LegacyAddress) h = (refl, (refusal_token (Refusal.Legacy LegacyFault.LegacyAddress) ∷ [], refl, refl), (plain (codes "refused") tt, (plain (refusal_token (Refusal.Legacy LegacyFault.LegacyAddress)) tt, tt)), (refl, (refl, tt)))
reason_fits (Refusal.Legacy LegacyFault.LegacyTwice) h = (refl, (refusal_token (Refusal.Legacy LegacyFault.LegacyTwice) ∷ [], refl, refl), (plain (codes "refused") tt, (plain (refusal_token (Refusal.Legacy LegacyFault.LegacyTwice)) tt, tt)), (refl, (refl, tt)))
reason_fits (Refusal.Legacy LegacyFault.TooManyLegacy) h = (refl, (refusal_token (Refusal.Legacy LegacyFault.TooManyLegacy) ∷ [], refl, refl), (plain (codes "refused") tt, (plain (refusal_token (Refusal.Legacy LegacyFault.TooManyLegacy)) tt, tt)), (refl, (refl, tt)))
reason_fits (Refusal.Declare DeclareFault.IdentityTwice) h = (refl, (refusal_token (Refusal.Declare DeclareFault.IdentityTwice) ∷ [], refl, refl), (plain (codes "refused") tt, (plain (refusal_token (Refusal.Declare DeclareFault.IdentityTwice)) tt, tt)), (refl, (refl, tt)))
reason_fits (Refusal.Declare DeclareFault.TooManyDeclared) h = (refl, (refusal_token (Refusal.Declare DeclareFault.TooManyDeclared) ∷ [], refl, refl), (plain (codes "refused") tt, (plain (refusal_token (Refusal.Declare DeclareFault.TooManyDeclared)) tt, tt)), (refl, (refl, tt)))
reason_fits (Refusal.Bus BusRefusal.SessionOpen) h = (refl, (refusal_token (Refusal.Bus BusRefusal.SessionOpen) ∷ [], refl, refl), (plain (codes "refused") tt, (plain (refusal_token (Refusal.Bus BusRefusal.SessionOpen)) tt, tt)), (refl, (refl, tt)))
reason_fits (Refusal.Bus BusRefusal.NoSession) h = (refl, (refusal_token (Refusal.Bus BusRefusal.NoSession) ∷ [], refl, refl), (plain (codes "refused") tt, (plain (refusal_token (Refusal.Bus BusRefusal.NoSession)) tt, tt)), (refl, (refl, tt)))
reason_fits (Refusal.Bus BusRefusal.ActiveStays) h = (refl, (refusal_token (Refusal.Bus BusRefusal.ActiveStays) ∷ [], refl, refl), (plain (codes "refused") tt, (plain (refusal_token (Refusal.Bus BusRefusal.ActiveStays)) tt, tt)), (refl, (refl, tt)))
reason_fits (Refusal.Bus BusRefusal.SlotTaken) h = (refl, (refusal_token (Refusal.Bus BusRefusal.SlotTaken) ∷ [], refl, refl), (plain (codes "refused") tt, (plain (refusal_token (Refusal.Bus BusRefusal.SlotTaken)) tt, tt)), (refl, (refl, tt)))
reason_fits (Refusal.Bus BusRefusal.NoDevice) h = (refl, (refusal_token (Refusal.Bus BusRefusal.NoDevice) ∷ [], refl, refl), (plain (codes "refused") tt, (plain (refusal_token (Refusal.Bus BusRefusal.NoDevice)) tt, tt)), (refl, (refl, tt)))
reason_fits (Refusal.Bus BusRefusal.IsActive) h = (refl, (refusal_token (Refusal.Bus BusRefusal.IsActive) ∷ [], refl, refl), (plain (codes "refused") tt, (plain (refusal_token (Refusal.Bus BusRefusal.IsActive)) tt, tt)), (refl, (refl, tt)))
reason_fits (Refusal.Bus BusRefusal.NoAddress) h = (refl, (refusal_token (Refusal.Bus BusRefusal.NoAddress) ∷ [], refl, refl), (plain (codes "refused") tt, (plain (refusal_token (Refusal.Bus BusRefusal.NoAddress)) tt, tt)), (refl, (refl, tt)))
reason_fits (Refusal.Bus BusRefusal.HasAddress) h = (refl, (refusal_token (Refusal.Bus BusRefusal.HasAddress) ∷ [], refl, refl), (plain (codes "refused") tt, (plain (refusal_token (Refusal.Bus BusRefusal.HasAddress)) tt, tt)), (refl, (refl, tt)))
reason_fits (Refusal.Bus BusRefusal.NotCapable) h = (refl, (refusal_token (Refusal.Bus BusRefusal.NotCapable) ∷ [], refl, refl), (plain (codes "refused") tt, (plain (refusal_token (Refusal.Bus BusRefusal.NotCapable)) tt, tt)), (refl, (refl, tt)))
reason_fits (Refusal.Bus BusRefusal.ByteMismatch) h = (refl, (refusal_token (Refusal.Bus BusRefusal.ByteMismatch) ∷ [], refl, refl), (plain (codes "refused") tt, (plain (refusal_token (Refusal.Bus BusRefusal.ByteMismatch)) tt, tt)), (refl, (refl, tt)))
reason_fits (Refusal.Bus BusRefusal.Masked) h = (refl, (refusal_token (Refusal.Bus BusRefusal.Masked) ∷ [], refl, refl), (plain (codes "refused") tt, (plain (refusal_token (Refusal.Bus BusRefusal.Masked)) tt, tt)), (refl, (refl, tt)))
reason_fits (Refusal.Bus BusRefusal.Full) h = (refl, (refusal_token (Refusal.Bus BusRefusal.Full) ∷ [], refl, refl), (plain (codes "refused") tt, (plain (refusal_token (Refusal.Bus BusRefusal.Full)) tt, tt)), (refl, (refl, tt)))
reason_fits (Refusal.Bus BusRefusal.ListStale) h = (refl, (refusal_token (Refusal.Bus BusRefusal.ListStale) ∷ [], refl, refl), (plain (codes "refused") tt, (plain (refusal_token (Refusal.Bus BusRefusal.ListStale)) tt, tt)), (refl, (refl, tt)))
reason_fits (Refusal.Bus BusRefusal.TooLong) h = (refl, (refusal_token (Refusal.Bus BusRefusal.TooLong) ∷ [], refl, refl), (plain (codes "refused") tt, (plain (refusal_token (Refusal.Bus BusRefusal.TooLong)) tt, tt)), (refl, (refl, tt)))
reason_fits (Refusal.Bus (BusRefusal.NoAnswer address)) h =
    let small : address < 256 = omega (arith, h) in (
      refl,
      (codes "NoAnswer" ∷ byte_text address ∷ [], refl, (byte_text address, refl, (byte_writes address small, h))),
      (plain (codes "refused") tt, (plain (codes "NoAnswer") tt, (byte_apart address small, tt))),
      (refl, (refl, (byte_no_or address small, tt))),
    )
reason_fits (Refusal.Bus (BusRefusal.BadAddress address)) h =
    let small : address < 256 = omega (arith, h) in (
      refl,
      (codes "BadAddress" ∷ byte_text address ∷ [], refl, (byte_text address, refl, (byte_writes address small, h))),
      (plain (codes "refused") tt, (plain (codes "BadAddress") tt, (byte_apart address small, tt))),
      (refl, (refl, (byte_no_or address small, tt))),
    )
reason_fits (Refusal.Declare DeclareFault.LegacyAddress) h = absurd h
reason_fits (Refusal.Declare DeclareFault.LegacyTwice) h = absurd h

byte_or_none_fits : (byte : Option ℕ) → IsWithin 256 byte → IsByteOrNone (byte_or_none byte) byte × HasNoSpace (byte_or_none byte) × (is_or (byte_or_none byte) ≡ false)
byte_or_none_fits None h = (refl, plain (codes "--") tt, refl)
byte_or_none_fits (Some byte) h = (byte_writes byte h, byte_apart byte h, byte_no_or byte h)

fact_fits : (fact : Fact) → FactHasLine fact → FactFits fact
fact_fits (Fact.Active name) is = (
  ap (λ l. codes "active " ++ l) (sym (append-nil (letters name))),
  (letters name, refl, (is.0, refl)),
  (plain (codes "active") tt, (name_apart name is, tt)),
  (refl, (name_no_or name is, tt)),
)
fact_fits (Fact.At name address) (is, h) =
    let small : address < 256 = omega (arith, h) in (
      refl,
      (letters name, byte_text address, refl, (is.0, refl), (byte_writes address small, h)),
      (name_apart name is, (plain (codes "at") tt, (byte_apart address small, tt))),
      (name_no_or name is, (refl, (byte_no_or address small, tt))),
    )
fact_fits (Fact.AtAny name) is =
    (refl, (letters name, refl, (is.0, refl)), (name_apart name is, (plain (codes "at") tt, (plain (codes "any") tt, tt))), (name_no_or name is, (refl, (refl, tt))))
fact_fits (Fact.AtNone name) is =
    (refl, (letters name, refl, (is.0, refl)), (name_apart name is, (plain (codes "at") tt, (plain (codes "none") tt, tt))), (name_no_or name is, (refl, (refl, tt))))
fact_fits (Fact.Gone name) (is, unlike) = (refl, (letters name, refl, (is.0, refl), unlike), (name_apart name is, (plain (codes "gone") tt, tt)), (name_no_or name is, (refl, tt)))
fact_fits (Fact.Waiting name count) (is, unlike, h) = (
  ap (λ l. letters name ++ (codes " waiting " ++ l)) (sym (append-nil (decimal count))),
  (letters name, decimal count, refl, (is.0, refl), unlike, (decimal_writes count h).0),
  (name_apart name is, (plain (codes "waiting") tt, (number_apart count h, tt))),
  (name_no_or name is, (refl, (number_no_or count h, tt))),
)
fact_fits (Fact.AllWaiting count) h = (
  ap (λ l. codes "waiting " ++ l) (sym (append-nil (decimal count))),
  (decimal count, refl, (decimal_writes count h).0),
  (plain (codes "waiting") tt, (number_apart count h, tt)),
  (refl, (number_no_or count h, tt)),
)
fact_fits (Fact.Records count) h = (
  ap (λ l. codes "records " ++ l) (sym (append-nil (decimal count))),
  (decimal count, refl, (decimal_writes count h).0),
  (plain (codes "records") tt, (number_apart count h, tt)),
  (refl, (number_no_or count h, tt)),
)
fact_fits (Fact.Recorded name byte count) (is, within, h) =
    let kept = byte_or_none_fits byte within in (
      ap (λ l. codes "record " ++ (letters name ++ (codes " " ++ (byte_or_none byte ++ (codes " " ++ l))))) (sym (append-nil (decimal count))),
      (letters name, byte_or_none byte, decimal count, refl, (is.0, refl), kept.0, (decimal_writes count h).0),
      (plain (codes "record") tt, (name_apart name is, (kept.1, (number_apart count h, tt)))),
      (refl, (name_no_or name is, (kept.2, (number_no_or count h, tt)))),
    )
fact_fits Fact.Assigned h = (refl, refl, (plain (codes "assigned") tt, tt), (refl, tt))
fact_fits Fact.Listed h = (refl, refl, (plain (codes "listed") tt, tt), (refl, tt))
fact_fits Fact.Open h = (refl, refl, (plain (codes "open") tt, tt), (refl, tt))
fact_fits Fact.Done h = (refl, refl, (plain (codes "done") tt, tt), (refl, tt))
fact_fits (Fact.Refused why) h = reason_fits why h
fact_fits Fact.AnyRefused h = (refl, refl, (plain (codes "refused") tt, tt), (refl, tt))
fact_fits (Fact.Served ServedAs.Quiet) h = (refl, refl, (plain (codes "served") tt, (plain (codes "quiet") tt, tt)), (refl, (refl, tt)))
fact_fits (Fact.Served ServedAs.Recorded) h = (refl, refl, (plain (codes "served") tt, (plain (codes "recorded") tt, tt)), (refl, (refl, tt)))
fact_fits (Fact.Served ServedAs.TurnedDown) h =
    (refl, refl, (plain (codes "served") tt, (plain (codes "turned") tt, (plain (codes "down") tt, tt))), (refl, (refl, (refl, tt))))
fact_fits (Fact.Served ServedAs.Torn) h = (refl, refl, (plain (codes "served") tt, (plain (codes "torn") tt, tt)), (refl, (refl, tt)))
fact_fits (Fact.Served ServedAs.Joining) h = (refl, refl, (plain (codes "served") tt, (plain (codes "joining") tt, tt)), (refl, (refl, tt)))
fact_fits (Fact.Served ServedAs.WantsRole) h =
    (refl, refl, (plain (codes "served") tt, (plain (codes "wants") tt, (plain (codes "role") tt, tt))), (refl, (refl, (refl, tt))))
fact_fits (Fact.Bytes bytes) (some, few, all) =
    let pairs = pairs_are bytes all in (
      ap (λ l. codes "bytes " ++ l) (sym (append-nil (bytes_text bytes))),
      (bytes_text bytes, refl, (omega (arith, pairs_length bytes, some), pairs.0, few, sym pairs.1)),
      (plain (codes "bytes") tt, (pairs_no_space (bytes_text bytes) pairs.0, tt)),
      (refl, (not_or (bytes_text bytes) (λ e. no_pairs_or (subst AreBytes e pairs.0)), tt)),
    )
fact_fits (Fact.Asking name) (is, unlike) = (
  ap (λ l. codes "asking " ++ l) (sym (append-nil (letters name))),
  (letters name, refl, (is.0, refl), unlike),
  (plain (codes "asking") tt, (name_apart name is, tt)),
  (refl, (name_no_or name is, tt)),
)

-- a printed claim's first token, and those behind it
abbrev first_said : Fact → Bool → List ℕ
first_said fact false = first_token fact
first_said fact true = codes "not"

abbrev others_said : Fact → Bool → List (List ℕ)
others_said fact false = other_tokens fact
others_said fact true = first_token fact ∷ other_tokens fact

said_fits : (fact : Fact) (negated : Bool) → FactHasLine fact
    → Fits (negation_text negated ++ fact_text fact) (IsClaimOf (first_said fact negated ∷ others_said fact negated) fact negated) (first_said fact negated) (others_said fact negated)
said_fits fact false h = fact_fits fact h
said_fits fact true h =
    let fits = fact_fits fact h in
    (ap (λ l. codes "not " ++ l) fits.0, (first_token fact ∷ other_tokens fact, refl, fits.1), (plain (codes "not") tt, fits.2), (refl, fits.3))

abbrev first_of_claim : Claim → List ℕ
first_of_claim claim = first_said claim.fact claim.negated

abbrev others_of_claim : Claim → List (List ℕ)
others_of_claim claim = others_said claim.fact claim.negated

abbrev tokens_of_claim : Claim → List (List ℕ)
tokens_of_claim claim = first_of_claim claim ∷ others_of_claim claim

-- the tokens of further claims, each behind an `or`
abbrev more_tokens : List Claim → List (List ℕ)
more_tokens [] = []
more_tokens (claim ∷ claims) = codes "or" ∷ (tokens_of_claim claim ++ more_tokens claims)

behind_both : (tokens more : List (List ℕ)) → behind tokens ++ behind more ≡ behind (tokens ++ more)
behind_both [] more = refl
behind_both (token ∷ tokens) more = ap (λ t. 32 ∷ t) (append_assoc token (behind tokens) (behind more) ∙ ap (λ t. token ++ t) (behind_both tokens more))

apart_both : (tokens more : List (List ℕ)) → Apart tokens → Apart more → Apart (tokens ++ more)
apart_both [] more one other = other
apart_both (token ∷ tokens) more one other = (one.0, apart_both tokens more one.1 other)

-- a claim's tokens, and those of further ones
one_text : (claim : Claim) (claims : List Claim) → FactHasLine claim.fact → more_text claims ≡ behind (more_tokens claims)
    → claim_text claim ++ more_text claims ≡ first_of_claim claim ++ behind (others_of_claim claim ++ more_tokens claims)
one_text claim claims h more =
    let fits = said_fits claim.fact claim.negated h in
    ap (λ l. l ++ more_text claims) fits.0 ∙ ap (λ l. (first_of_claim claim ++ behind (others_of_claim claim)) ++ l) more
    ∙ append_assoc (first_of_claim claim) (behind (others_of_claim claim)) (behind (more_tokens claims)) ∙ ap (λ l. first_of_claim claim ++ l) (behind_both (others_of_claim claim) (more_tokens claims))

more_is : (claims : List Claim) → HaveLines claims → more_text claims ≡ behind (more_tokens claims)
more_is [] have = refl
more_is (claim ∷ claims) (h, have) = ap (λ l. codes " or " ++ l) (one_text claim claims h (more_is claims have))

more_apart : (claims : List Claim) → HaveLines claims → Apart (more_tokens claims)
more_apart [] have = tt
more_apart (claim ∷ claims) (h, have) = (plain (codes "or") tt, apart_both (tokens_of_claim claim) (more_tokens claims) (said_fits claim.fact claim.negated h).2 (more_apart claims have))

none_or : (tokens : List (List ℕ)) → HasNoOr tokens → All (λ token. is_or token ≡ false) tokens
none_or [] none = All-nil (λ token. is_or token ≡ false)
none_or (token ∷ tokens) none = All-cons (λ w. is_or w ≡ false) token tokens none.0 (none_or tokens none.1)

-- the parts between each two `or` are the claims
parts_are : (claim : Claim) (claims : List Claim) → FactHasLine claim.fact → HaveLines claims → AreClaims (parts (tokens_of_claim claim ++ more_tokens claims)) (claim ∷ claims)
parts_are claim [] h have =
    let fits = said_fits claim.fact claim.negated h in
    let tokens = tokens_of_claim claim in
    subst (λ ps. AreClaims ps (claim ∷ [])) (sym (ap parts (append-nil tokens) ∙ slice_split_none is_or tokens (none_or tokens fits.3))) (fits.1, tt)
parts_are claim (next ∷ claims) h (more, have) =
    let fits = said_fits claim.fact claim.negated h in
    let tokens = tokens_of_claim claim in
    subst (λ ps. AreClaims ps (claim ∷ next ∷ claims)) (sym (slice_split_at is_or tokens (codes "or") (tokens_of_claim next ++ more_tokens claims) (none_or tokens fits.3) refl)) (fits.1, parts_are next claims more have)

-- claims behind a first token
claims_said : (first : List ℕ) (claims : List Claim) → HasNoSpace first → AreSayable claims → (rest : List (List ℕ)) × (tokens_of (first ++ 32 ∷ claims_text claims) ≡ first ∷ rest) × AreClaims (parts rest) claims
claims_said first [] apart have = absurd have
claims_said first (claim ∷ claims) apart (h, have) =
    let tokens = tokens_of_claim claim ++ more_tokens claims in
    let all : Apart tokens = apart_both (tokens_of_claim claim) (more_tokens claims) (said_fits claim.fact claim.negated h).2 (more_apart claims have) in (
      tokens,
      ap (λ l. tokens_of (first ++ 32 ∷ l)) (one_text claim claims h (more_is claims have)) ∙ tokens_spaced first tokens apart all,
      parts_are claim claims h have,
    )

pub read_again : PrintedMarksAreRead
read_again Mark.Any h short = (short, refl)
read_again (Mark.Anywhere name) h short = (
  short,
  (letters name, ap (λ l. tokens_of (codes "anywhere " ++ l)) (sym (append-nil (letters name))) ∙ tokens_spaced (codes "anywhere") (letters name ∷ []) (plain (codes "anywhere") tt) (name_no_space (letters name) h, tt), (h, refl)),
)
read_again (Mark.Always facts) h short = (short, claims_said (codes "always") facts (plain (codes "always") tt) h)
read_again Mark.Track h short = (short, refl)
read_again Mark.Close h short = (short, refl)
read_again (Mark.Expect facts) h short = (short, claims_said (codes "expect") facts (plain (codes "expect") tt) h)
