-- What is left of a fact's tokens behind the first.
use denote.Ref.{Bor}
use Rattle.std.proofs.Common.{◌<◌, ◌≡◌, ◌≤◌, ℕ, List, [], ◌∷◌, length, codes, ap, arith, subst, sym}
use Rattle.std.proofs.lemmas.List.{length-map}
use Rattle.i3c_legacy.specs.declared.faults.DeclareFault.{DeclareFault}
use Rattle.i3c_legacy.specs.declared.faults.LegacyFault.{LegacyFault}
use Rattle.i3c_step.specs.declared.replies.Refusal.{Refusal as BusRefusal}
use Rattle.i3c_lines.specs.declared.refusals.Refusal.{Refusal}
use Rattle.i3c_lines.specs.Forms.{WritesBit}
use Rattle.i3c_facts.specs.declared.fact.Fact.{Fact}
use Rattle.i3c_facts.specs.declared.fact.ServedAs.{ServedAs}
use Rattle.i3c_facts.specs.Forms.{IsFact, IsReason, served_tokens, texts}

abbrev pub letter_of : List ℕ → ℕ
letter_of [] = 0
letter_of (byte ∷ token) = byte

-- the first letter of the first token
abbrev pub first_letter : List (List ℕ) → ℕ
first_letter [] = 0
first_letter (token ∷ tokens) = letter_of token

abbrev pub rest_of : List (List ℕ) → List (List ℕ)
rest_of [] = []
rest_of (token ∷ tokens) = tokens

abbrev pub first_of : List (List ℕ) → List ℕ
first_of [] = []
first_of (token ∷ tokens) = token

-- the second token
abbrev pub second_of : List (List ℕ) → List ℕ
second_of tokens = first_of (rest_of tokens)

-- `waiting` and another token
pub waiting_args : (token : List ℕ) (fact : Fact) → (token ≡ codes "gone" → ⊥) → IsFact (codes "waiting" ∷ token ∷ []) fact → (count : ℕ) × WritesBit token count
waiting_args token (Fact.Active name) other (w, e, is) = absurd (omega (arith, ap first_letter e))
waiting_args token (Fact.At name address) other (w, at, e, is, writes) = absurd (omega (arith, ap length e))
waiting_args token (Fact.AtAny name) other (w, e, is) = absurd (omega (arith, ap length e))
waiting_args token (Fact.AtNone name) other (w, e, is) = absurd (omega (arith, ap length e))
waiting_args token (Fact.Gone name) other (w, e, is, unlike) = absurd (other (ap second_of e))
waiting_args token (Fact.Waiting name count) other (w, digits, e, is, unlike, writes) = absurd (omega (arith, ap length e))
waiting_args token (Fact.AllWaiting count) other (digits, e, is) = (count, subst (λ w. WritesBit w count) (sym (ap second_of e)) is)
waiting_args token (Fact.Records count) other (digits, e, is) = absurd (omega (arith, ap first_letter e))
waiting_args token (Fact.Recorded name byte count) other (w, code, digits, e, is, has, writes) = absurd (omega (arith, ap length e))
waiting_args token Fact.Assigned other e = absurd (omega (arith, ap length e))
waiting_args token Fact.Listed other e = absurd (omega (arith, ap length e))
waiting_args token Fact.Open other e = absurd (omega (arith, ap length e))
waiting_args token Fact.Done other e = absurd (omega (arith, ap length e))
waiting_args token (Fact.Refused why) other (rest, e, is) = absurd (omega (arith, ap first_letter e))
waiting_args token Fact.AnyRefused other e = absurd (omega (arith, ap length e))
waiting_args token (Fact.Served way) other e = absurd (omega (arith, ap first_letter e))
waiting_args token (Fact.Bytes bytes) other (w, e, writes) = absurd (omega (arith, ap first_letter e))
waiting_args token (Fact.Asking name) other (w, e, is, unlike) = absurd (omega (arith, ap first_letter e))

abbrev pub tail_of : List ℕ → List ℕ
tail_of [] = []
tail_of (byte ∷ token) = token

-- the third letter of the first token, by which `records`, `record` and `refused` differ
abbrev third_letter : List (List ℕ) → ℕ
third_letter tokens = letter_of (tail_of (tail_of (first_of tokens)))

-- `records` and another token
pub records_args : (token : List ℕ) (fact : Fact) → (token ≡ codes "gone" → ⊥) → IsFact (codes "records" ∷ token ∷ []) fact → (count : ℕ) × WritesBit token count
records_args token (Fact.Active name) other (w, e, is) = absurd (omega (arith, ap first_letter e))
records_args token (Fact.At name address) other (w, at, e, is, writes) = absurd (omega (arith, ap length e))
records_args token (Fact.AtAny name) other (w, e, is) = absurd (omega (arith, ap length e))
records_args token (Fact.AtNone name) other (w, e, is) = absurd (omega (arith, ap length e))
records_args token (Fact.Gone name) other (w, e, is, unlike) = absurd (other (ap second_of e))
records_args token (Fact.Waiting name count) other (w, digits, e, is, unlike, writes) = absurd (omega (arith, ap length e))
records_args token (Fact.AllWaiting count) other (digits, e, is) = absurd (omega (arith, ap first_letter e))
records_args token (Fact.Records count) other (digits, e, is) = (count, subst (λ w. WritesBit w count) (sym (ap second_of e)) is)
records_args token (Fact.Recorded name byte count) other (w, code, digits, e, is, has, writes) = absurd (omega (arith, ap length e))
records_args token Fact.Assigned other e = absurd (omega (arith, ap length e))
records_args token Fact.Listed other e = absurd (omega (arith, ap length e))
records_args token Fact.Open other e = absurd (omega (arith, ap length e))
records_args token Fact.Done other e = absurd (omega (arith, ap length e))
records_args token (Fact.Refused why) other (rest, e, is) = absurd (omega (arith, ap third_letter e))
records_args token Fact.AnyRefused other e = absurd (omega (arith, ap length e))
records_args token (Fact.Served way) other e = absurd (omega (arith, ap first_letter e))
records_args token (Fact.Bytes bytes) other (w, e, writes) = absurd (omega (arith, ap first_letter e))
records_args token (Fact.Asking name) other (w, e, is, unlike) = absurd (omega (arith, ap first_letter e))

-- `refused` and another token
pub refused_args : (token : List ℕ) (fact : Fact) → (token ≡ codes "gone" → ⊥) → IsFact (codes "refused" ∷ token ∷ []) fact → (why : Refusal) × IsReason (token ∷ []) why
refused_args token (Fact.Active name) other (w, e, is) = absurd (omega (arith, ap first_letter e))
refused_args token (Fact.At name address) other (w, at, e, is, writes) = absurd (omega (arith, ap length e))
refused_args token (Fact.AtAny name) other (w, e, is) = absurd (omega (arith, ap length e))
refused_args token (Fact.AtNone name) other (w, e, is) = absurd (omega (arith, ap length e))
refused_args token (Fact.Gone name) other (w, e, is, unlike) = absurd (other (ap second_of e))
refused_args token (Fact.Waiting name count) other (w, digits, e, is, unlike, writes) = absurd (omega (arith, ap length e))
refused_args token (Fact.AllWaiting count) other (digits, e, is) = absurd (omega (arith, ap first_letter e))
refused_args token (Fact.Records count) other (digits, e, is) = absurd (omega (arith, ap third_letter e))
refused_args token (Fact.Recorded name byte count) other (w, code, digits, e, is, has, writes) = absurd (omega (arith, ap length e))
refused_args token Fact.Assigned other e = absurd (omega (arith, ap length e))
refused_args token Fact.Listed other e = absurd (omega (arith, ap length e))
refused_args token Fact.Open other e = absurd (omega (arith, ap length e))
refused_args token Fact.Done other e = absurd (omega (arith, ap length e))
refused_args token (Fact.Refused why) other (rest, e, is) = (why, subst (λ ws. IsReason ws why) (sym (ap rest_of e)) is)
refused_args token Fact.AnyRefused other e = absurd (omega (arith, ap length e))
refused_args token (Fact.Served way) other e = absurd (omega (arith, ap first_letter e))
refused_args token (Fact.Bytes bytes) other (w, e, writes) = absurd (omega (arith, ap first_letter e))
refused_args token (Fact.Asking name) other (w, e, is, unlike) = absurd (omega (arith, ap first_letter e))

-- `refused` and two tokens
pub refused_at_args : (token address : List ℕ) (fact : Fact) → (token ≡ codes "at" → ⊥) → (token ≡ codes "waiting" → ⊥) → IsFact (codes "refused" ∷ token ∷ address ∷ []) fact → (why : Refusal) × IsReason (token ∷ address ∷ []) why
refused_at_args token address (Fact.Active name) at waiting (w, e, is) = absurd (omega (arith, ap length e))
refused_at_args token address (Fact.At name a) at waiting (w, x, e, is, writes) = absurd (at (ap second_of e))
refused_at_args token address (Fact.AtAny name) at waiting (w, e, is) = absurd (at (ap second_of e))
refused_at_args token address (Fact.AtNone name) at waiting (w, e, is) = absurd (at (ap second_of e))
refused_at_args token address (Fact.Gone name) at waiting (w, e, is, unlike) = absurd (omega (arith, ap length e))
refused_at_args token address (Fact.Waiting name count) at waiting (w, digits, e, is, unlike, writes) = absurd (waiting (ap second_of e))
refused_at_args token address (Fact.AllWaiting count) at waiting (digits, e, is) = absurd (omega (arith, ap length e))
refused_at_args token address (Fact.Records count) at waiting (digits, e, is) = absurd (omega (arith, ap length e))
refused_at_args token address (Fact.Recorded name byte count) at waiting (w, code, digits, e, is, has, writes) = absurd (omega (arith, ap length e))
refused_at_args token address Fact.Assigned at waiting e = absurd (omega (arith, ap length e))
refused_at_args token address Fact.Listed at waiting e = absurd (omega (arith, ap length e))
refused_at_args token address Fact.Open at waiting e = absurd (omega (arith, ap length e))
refused_at_args token address Fact.Done at waiting e = absurd (omega (arith, ap length e))
refused_at_args token address (Fact.Refused why) at waiting (rest, e, is) = (why, subst (λ ws. IsReason ws why) (sym (ap rest_of e)) is)
refused_at_args token address Fact.AnyRefused at waiting e = absurd (omega (arith, ap length e))
refused_at_args token address (Fact.Served way) at waiting e = absurd (omega (arith, ap first_letter e))
refused_at_args token address (Fact.Bytes bytes) at waiting (w, e, writes) = absurd (omega (arith, ap first_letter e))
refused_at_args token address (Fact.Asking name) at waiting (w, e, is, unlike) = absurd (omega (arith, ap first_letter e))

-- what a request came to has one token or two
served_few : (way : ServedAs) → length (served_tokens way) ≤ 2
served_few ServedAs.Quiet = omega arith
served_few ServedAs.Recorded = omega arith
served_few ServedAs.TurnedDown = omega arith
served_few ServedAs.Torn = omega arith
served_few ServedAs.Joining = omega arith
served_few ServedAs.WantsRole = omega arith

-- a reason has one token or two
reason_few : (rest : List (List ℕ)) (why : Refusal) → IsReason rest why → length rest ≤ 2
reason_few rest Refusal.BadLine e = omega (arith, ap length e)
reason_few rest Refusal.NoBus e = omega (arith, ap length e)
reason_few rest Refusal.BusMade e = omega (arith, ap length e)
reason_few rest Refusal.NameTaken e = omega (arith, ap length e)
reason_few rest Refusal.NoName e = omega (arith, ap length e)
reason_few rest Refusal.NoEnd e = omega (arith, ap length e)
reason_few rest Refusal.NotActive e = omega (arith, ap length e)
reason_few rest (Refusal.Legacy LegacyFault.LegacyAddress) e = omega (arith, ap length e)
reason_few rest (Refusal.Legacy LegacyFault.LegacyTwice) e = omega (arith, ap length e)
reason_few rest (Refusal.Legacy LegacyFault.TooManyLegacy) e = omega (arith, ap length e)
reason_few rest (Refusal.Declare DeclareFault.IdentityTwice) e = omega (arith, ap length e)
reason_few rest (Refusal.Declare DeclareFault.TooManyDeclared) e = omega (arith, ap length e)
reason_few rest (Refusal.Bus BusRefusal.SessionOpen) e = omega (arith, ap length e)
reason_few rest (Refusal.Bus BusRefusal.NoSession) e = omega (arith, ap length e)
reason_few rest (Refusal.Bus BusRefusal.ActiveStays) e = omega (arith, ap length e)
reason_few rest (Refusal.Bus BusRefusal.SlotTaken) e = omega (arith, ap length e)
reason_few rest (Refusal.Bus BusRefusal.NoDevice) e = omega (arith, ap length e)
reason_few rest (Refusal.Bus BusRefusal.IsActive) e = omega (arith, ap length e)
reason_few rest (Refusal.Bus BusRefusal.NoAddress) e = omega (arith, ap length e)
reason_few rest (Refusal.Bus BusRefusal.HasAddress) e = omega (arith, ap length e)
reason_few rest (Refusal.Bus BusRefusal.NotCapable) e = omega (arith, ap length e)
reason_few rest (Refusal.Bus BusRefusal.ByteMismatch) e = omega (arith, ap length e)
reason_few rest (Refusal.Bus BusRefusal.Masked) e = omega (arith, ap length e)
reason_few rest (Refusal.Bus BusRefusal.Full) e = omega (arith, ap length e)
reason_few rest (Refusal.Bus BusRefusal.ListStale) e = omega (arith, ap length e)
reason_few rest (Refusal.Bus BusRefusal.TooLong) e = omega (arith, ap length e)
reason_few rest (Refusal.Bus (BusRefusal.NoAnswer address)) (w, e, is) = omega (arith, ap length e)
reason_few rest (Refusal.Bus (BusRefusal.BadAddress address)) (w, e, is) = omega (arith, ap length e)
reason_few rest (Refusal.Declare DeclareFault.LegacyAddress) is = absurd is
reason_few rest (Refusal.Declare DeclareFault.LegacyTwice) is = absurd is

-- a fact has one token to four
fact_few : (tokens : List (List ℕ)) (fact : Fact) → IsFact tokens fact → (0 < length tokens) × (length tokens ≤ 4)
fact_few tokens (Fact.Active name) (w, e, is) = (omega (arith, ap length e), omega (arith, ap length e))
fact_few tokens (Fact.At name address) (w, at, e, is, writes) = (omega (arith, ap length e), omega (arith, ap length e))
fact_few tokens (Fact.AtAny name) (w, e, is) = (omega (arith, ap length e), omega (arith, ap length e))
fact_few tokens (Fact.AtNone name) (w, e, is) = (omega (arith, ap length e), omega (arith, ap length e))
fact_few tokens (Fact.Gone name) (w, e, is, unlike) = (omega (arith, ap length e), omega (arith, ap length e))
fact_few tokens (Fact.Waiting name count) (w, digits, e, is, unlike, writes) = (omega (arith, ap length e), omega (arith, ap length e))
fact_few tokens (Fact.AllWaiting count) (digits, e, is) = (omega (arith, ap length e), omega (arith, ap length e))
fact_few tokens (Fact.Records count) (digits, e, is) = (omega (arith, ap length e), omega (arith, ap length e))
fact_few tokens (Fact.Recorded name byte count) (w, code, digits, e, is, has, writes) = (omega (arith, ap length e), omega (arith, ap length e))
fact_few tokens Fact.Assigned e = (omega (arith, ap length e), omega (arith, ap length e))
fact_few tokens Fact.Listed e = (omega (arith, ap length e), omega (arith, ap length e))
fact_few tokens Fact.Open e = (omega (arith, ap length e), omega (arith, ap length e))
fact_few tokens Fact.Done e = (omega (arith, ap length e), omega (arith, ap length e))
fact_few tokens Fact.AnyRefused e = (omega (arith, ap length e), omega (arith, ap length e))
fact_few tokens (Fact.Bytes bytes) (w, e, writes) = (omega (arith, ap length e), omega (arith, ap length e))
fact_few tokens (Fact.Asking name) (w, e, is, unlike) = (omega (arith, ap length e), omega (arith, ap length e))
fact_few tokens (Fact.Refused why) (rest, e, is) = (omega (arith, ap length e), omega (arith, ap length e, reason_few rest why is))
fact_few tokens (Fact.Served way) e = (omega (arith, ap length e), omega (arith, ap length e, served_few way))

pub no_fact : (tokens : List (Bor (List ℕ))) (fact : Fact) → length tokens < 1 → IsFact (texts tokens) fact → ⊥
no_fact tokens fact none is = omega (arith, none, length-map tokens (λ (token : Bor (List ℕ)). token.now), (fact_few (texts tokens) fact is).0)

pub long_fact : (tokens : List (Bor (List ℕ))) (fact : Fact) → 5 ≤ length tokens → IsFact (texts tokens) fact → ⊥
long_fact tokens fact many is = omega (arith, many, length-map tokens (λ (token : Bor (List ℕ)). token.now), (fact_few (texts tokens) fact is).1)
