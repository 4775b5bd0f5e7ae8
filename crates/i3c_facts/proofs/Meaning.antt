-- The fact, the claims and the mark that tokens can be at most.
use Rattle.std.proofs.Common.{◌≡◌, ◌∙◌, ℕ, ◌-◌, Bool, true, false, cond, inl, inr, List, [], ◌∷◌, Option, Some, None, ap, arith, codes, length, refl, replicate, subst, sym, take}
use Rattle.std.proofs.lemmas.List.{take_all}
use Rattle.std.proofs.Math.Seq.{take-append_seam}
use Rattle.std.specs.Cmp.Lexicographic.{same_text}
use Rattle.std.specs.Str.Parse.{digits_value}
use Rattle.i3c_legacy.specs.declared.faults.DeclareFault.{DeclareFault}
use Rattle.i3c_legacy.specs.declared.faults.LegacyFault.{LegacyFault}
use Rattle.i3c_step.specs.declared.replies.Refusal.{Refusal as BusRefusal}
use Rattle.i3c_lines.specs.declared.names.Name.{Name}
use Rattle.i3c_lines.specs.declared.refusals.Refusal.{Refusal}
use Rattle.i3c_lines.specs.Forms.{IsNamed, tokens_of}
use Rattle.i3c_lines.specs.Refusing.{refusal_token}
use Rattle.i3c_lines.specs.Tokens.{AreBytes, IsDecimal, IsHex, pair_values}
use Rattle.i3c_lines.proofs.Meanings.{are_same, hex, named, same_name}
use Rattle.i3c_facts.specs.declared.facts.Claim.{Claim}
use Rattle.i3c_facts.specs.declared.fact.Fact.{Fact}
use Rattle.i3c_facts.specs.declared.fact.ServedAs.{ServedAs}
use Rattle.i3c_facts.specs.declared.marks.Mark.{Mark}
use Rattle.i3c_facts.specs.Forms.{AreClaims, IsByteOrNone, IsClaimOf, IsFact, IsReason, parts}
use Rattle.i3c_facts.specs.Laws.{LinesAreOfOneMark}
use Rattle.i3c_facts.specs.Reading.{plain_reasons}
use Rattle.i3c_facts.proofs.FactArgs.{first_letter, first_of, letter_of, rest_of, second_of, tail_of}

named_is : (token : List ℕ) (name : Name) → IsNamed token name → named token ≡ name
named_is token name is =
    same_name (named token) name (take-append_seam (take 16 token) (replicate (16 - length (take 16 token)) 0) ∙ take_all 16 token (omega (arith, is.0.1)) ∙ sym is.1)

-- other letters
differ : (one other : List ℕ) → (one ≡ other → ⊥) → are_same one other ≡ false
differ one other unlike = elim (are_same one other) as (λ b. are_same one other ≡ b → b ≡ false) [ true ↦ λ is. absurd (unlike (same_text one other (sym is))) | false ↦ λ _. refl ] refl

-- digits aren't letters
no_digit : IsDecimal (codes "gone") → ⊥
no_digit is = let digit = is.1 0 0 (omega arith) in omega (arith, digit)

no_gone : (token : List ℕ) → IsDecimal token → are_same token (codes "gone") ≡ false
no_gone token is = differ token (codes "gone") (λ e. no_digit (subst IsDecimal e is))

-- what stands for no byte
abbrev dashes : List ℕ
dashes = codes "--"

no_digits : IsHex 2 dashes → ⊥
no_digits is = elim (is.1 0 0 (omega arith)) [ inl digit ↦ omega (arith, digit) | inr letter ↦ omega (arith, letter) ]

no_dashes : (token : List ℕ) → IsHex 2 token → are_same token dashes ≡ false
no_dashes token is = differ token dashes (λ e. no_digits (subst (λ w. IsHex 2 w) e is))

-- letters that aren't hex digits are no bytes
no_pairs : AreBytes (codes "gone") → ⊥
no_pairs are = elim are.0 [ inl digit ↦ omega (arith, digit) | inr letter ↦ omega (arith, letter) ]

-- the refusal of a list that is printed as this token
abbrev reason_in : List ℕ → List Refusal → Refusal
reason_in token [] = Refusal.BadLine
reason_in token (why ∷ reasons) = cond (are_same token (refusal_token why)) why (reason_in token reasons)

abbrev byte_of : List ℕ → Option ℕ
byte_of token = cond (are_same token dashes) None (Some (hex token))

abbrev of_one : List ℕ → Fact
of_one a = cond (are_same a (codes "assigned")) Fact.Assigned (cond (are_same a (codes "listed")) Fact.Listed (cond (are_same a (codes "open")) Fact.Open (cond (are_same a (codes "done")) Fact.Done Fact.AnyRefused)))

-- what a request came to, by one token, and by two
abbrev served_in : List ℕ → ServedAs
served_in b = cond (are_same b (codes "quiet")) ServedAs.Quiet (cond (are_same b (codes "recorded")) ServedAs.Recorded (cond (are_same b (codes "torn")) ServedAs.Torn ServedAs.Joining))

abbrev served_at : List ℕ → ServedAs
served_at b = cond (are_same b (codes "turned")) ServedAs.TurnedDown ServedAs.WantsRole

abbrev of_line : List ℕ → List ℕ → Fact
of_line a b =
    cond (are_same a (codes "served")) (Fact.Served (served_in b))
    (cond (are_same a (codes "bytes")) (Fact.Bytes (pair_values b)) (cond (are_same a (codes "asking")) (Fact.Asking (named b)) (Fact.Refused (reason_in b plain_reasons))))

abbrev of_two : List ℕ → List ℕ → Fact
of_two a b =
    cond (are_same a (codes "active")) (Fact.Active (named b))
    (cond (are_same b (codes "gone")) (Fact.Gone (named a))
    (cond (are_same a (codes "waiting")) (Fact.AllWaiting (digits_value 10 b)) (cond (are_same a (codes "records")) (Fact.Records (digits_value 10 b)) (of_line a b))))

abbrev place_of : Name → List ℕ → Fact
place_of name c = cond (are_same c (codes "any")) (Fact.AtAny name) (cond (are_same c (codes "none")) (Fact.AtNone name) (Fact.At name (hex c)))

abbrev reason_at : List ℕ → List ℕ → Refusal
reason_at b c = cond (are_same b (codes "NoAnswer")) (Refusal.Bus (BusRefusal.NoAnswer (hex c))) (Refusal.Bus (BusRefusal.BadAddress (hex c)))

abbrev of_three : List ℕ → List ℕ → List ℕ → Fact
of_three a b c =
    cond (are_same b (codes "at")) (place_of (named a) c)
    (cond (are_same b (codes "waiting")) (Fact.Waiting (named a) (digits_value 10 c)) (cond (are_same a (codes "served")) (Fact.Served (served_at b)) (Fact.Refused (reason_at b c))))

-- the fact that tokens can be at most
abbrev fact_of : List (List ℕ) → Fact
fact_of [] = Fact.Done
fact_of (a ∷ []) = of_one a
fact_of (a ∷ b ∷ []) = of_two a b
fact_of (a ∷ b ∷ c ∷ []) = of_three a b c
fact_of (a ∷ b ∷ c ∷ d ∷ more) = Fact.Recorded (named b) (byte_of c) (digits_value 10 d)

byte_is : (token : List ℕ) (byte : Option ℕ) → IsByteOrNone token byte → byte_of token ≡ byte
byte_is token None e = ap byte_of e
byte_is token (Some byte) writes = ap (λ b. cond b None (Some (hex token))) (no_dashes token writes.0) ∙ ap Some (sym writes.1)

abbrev refused : List (List ℕ) → Fact
refused rest = fact_of (codes "refused" ∷ rest)

refused_is : (rest : List (List ℕ)) (why : Refusal) → IsReason rest why → refused rest ≡ Fact.Refused why
refused_is rest Refusal.BadLine e = ap refused e
refused_is rest Refusal.NoBus e = ap refused e
refused_is rest Refusal.BusMade e = ap refused e
refused_is rest Refusal.NameTaken e = ap refused e
refused_is rest Refusal.NoName e = ap refused e
refused_is rest Refusal.NoEnd e = ap refused e
refused_is rest Refusal.NotActive e = ap refused e
refused_is rest (Refusal.Legacy LegacyFault.LegacyAddress) e = ap refused e
refused_is rest (Refusal.Legacy LegacyFault.LegacyTwice) e = ap refused e
refused_is rest (Refusal.Legacy LegacyFault.TooManyLegacy) e = ap refused e
refused_is rest (Refusal.Declare DeclareFault.IdentityTwice) e = ap refused e
refused_is rest (Refusal.Declare DeclareFault.TooManyDeclared) e = ap refused e
refused_is rest (Refusal.Bus BusRefusal.SessionOpen) e = ap refused e
refused_is rest (Refusal.Bus BusRefusal.NoSession) e = ap refused e
refused_is rest (Refusal.Bus BusRefusal.ActiveStays) e = ap refused e
refused_is rest (Refusal.Bus BusRefusal.SlotTaken) e = ap refused e
refused_is rest (Refusal.Bus BusRefusal.NoDevice) e = ap refused e
refused_is rest (Refusal.Bus BusRefusal.IsActive) e = ap refused e
refused_is rest (Refusal.Bus BusRefusal.NoAddress) e = ap refused e
refused_is rest (Refusal.Bus BusRefusal.HasAddress) e = ap refused e
refused_is rest (Refusal.Bus BusRefusal.NotCapable) e = ap refused e
refused_is rest (Refusal.Bus BusRefusal.ByteMismatch) e = ap refused e
refused_is rest (Refusal.Bus BusRefusal.Masked) e = ap refused e
refused_is rest (Refusal.Bus BusRefusal.Full) e = ap refused e
refused_is rest (Refusal.Bus BusRefusal.ListStale) e = ap refused e
refused_is rest (Refusal.Bus BusRefusal.TooLong) e = ap refused e
refused_is rest (Refusal.Bus (BusRefusal.NoAnswer address)) (w, e, is) = ap refused e ∙ ap (λ a. Fact.Refused (Refusal.Bus (BusRefusal.NoAnswer a))) (sym is.0.1)
refused_is rest (Refusal.Bus (BusRefusal.BadAddress address)) (w, e, is) = ap refused e ∙ ap (λ a. Fact.Refused (Refusal.Bus (BusRefusal.BadAddress a))) (sym is.0.1)
refused_is rest (Refusal.Declare DeclareFault.LegacyAddress) is = absurd is
refused_is rest (Refusal.Declare DeclareFault.LegacyTwice) is = absurd is

fact_is : (tokens : List (List ℕ)) (fact : Fact) → IsFact tokens fact → fact_of tokens ≡ fact
fact_is tokens (Fact.Active name) (w, e, is) = ap fact_of e ∙ ap Fact.Active (named_is w name is)
fact_is tokens (Fact.At name address) (w, place, e, is, writes) =
    ap fact_of e
    ∙ ap (λ b. cond b (Fact.AtAny (named w)) (cond (are_same place (codes "none")) (Fact.AtNone (named w)) (Fact.At (named w) (hex place)))) (differ place (codes "any") (λ same. omega (arith, writes.0.0.0, ap length same)))
    ∙ ap (λ b. cond b (Fact.AtNone (named w)) (Fact.At (named w) (hex place))) (differ place (codes "none") (λ same. omega (arith, writes.0.0.0, ap length same)))
    ∙ (λ i. Fact.At (named_is w name is i) (sym writes.0.1 i))
fact_is tokens (Fact.AtAny name) (w, e, is) = ap fact_of e ∙ ap Fact.AtAny (named_is w name is)
fact_is tokens (Fact.AtNone name) (w, e, is) = ap fact_of e ∙ ap Fact.AtNone (named_is w name is)
fact_is tokens (Fact.Gone name) (w, e, is, unlike) =
    ap fact_of e ∙ ap (λ b. cond b (Fact.Active (named (codes "gone"))) (Fact.Gone (named w))) (differ w (codes "active") unlike) ∙ ap Fact.Gone (named_is w name is)
fact_is tokens (Fact.Waiting name count) (w, digits, e, is, unlike, writes) = ap fact_of e ∙ (λ i. Fact.Waiting (named_is w name is i) (sym writes.1 i))
fact_is tokens (Fact.AllWaiting count) (digits, e, writes) =
    ap fact_of e ∙ ap (λ b. cond b (Fact.Gone (named (codes "waiting"))) (Fact.AllWaiting (digits_value 10 digits))) (no_gone digits writes.0) ∙ ap Fact.AllWaiting (sym writes.1)
fact_is tokens (Fact.Records count) (digits, e, writes) =
    ap fact_of e ∙ ap (λ b. cond b (Fact.Gone (named (codes "records"))) (Fact.Records (digits_value 10 digits))) (no_gone digits writes.0) ∙ ap Fact.Records (sym writes.1)
fact_is tokens (Fact.Recorded name byte count) (w, code, digits, e, is, has, writes) = ap fact_of e ∙ (λ i. Fact.Recorded (named_is w name is i) (byte_is code byte has i) (sym writes.1 i))
fact_is tokens Fact.Assigned e = ap fact_of e
fact_is tokens Fact.Listed e = ap fact_of e
fact_is tokens Fact.Open e = ap fact_of e
fact_is tokens Fact.Done e = ap fact_of e
fact_is tokens (Fact.Refused why) (rest, e, is) = ap fact_of e ∙ refused_is rest why is
fact_is tokens Fact.AnyRefused e = ap fact_of e
fact_is tokens (Fact.Served ServedAs.Quiet) e = ap fact_of e
fact_is tokens (Fact.Served ServedAs.Recorded) e = ap fact_of e
fact_is tokens (Fact.Served ServedAs.TurnedDown) e = ap fact_of e
fact_is tokens (Fact.Served ServedAs.Torn) e = ap fact_of e
fact_is tokens (Fact.Served ServedAs.Joining) e = ap fact_of e
fact_is tokens (Fact.Served ServedAs.WantsRole) e = ap fact_of e
fact_is tokens (Fact.Bytes bytes) (w, e, writes) =
    ap fact_of e ∙ ap (λ b. cond b (Fact.Gone (named (codes "bytes"))) (Fact.Bytes (pair_values w))) (differ w (codes "gone") (λ same. no_pairs (subst AreBytes same writes.1))) ∙ ap Fact.Bytes (sym writes.3)
fact_is tokens (Fact.Asking name) (w, e, is, unlike) =
    ap fact_of e ∙ ap (λ b. cond b (Fact.Gone (named (codes "asking"))) (Fact.Asking (named w))) (differ w (codes "gone") unlike) ∙ ap Fact.Asking (named_is w name is)

-- the second letter of the first token
abbrev second_letter : List (List ℕ) → ℕ
second_letter tokens = letter_of (tail_of (first_of tokens))

-- tokens that are a fact with `not` before them are never a fact by themselves
at_two : (spot : List ℕ) → (spot ≡ codes "gone" → ⊥) → (fact : Fact) → IsFact (codes "at" ∷ spot ∷ []) fact → ⊥
at_two spot other (Fact.Active name) (w, e, is) = omega (arith, ap second_letter e)
at_two spot other (Fact.At name address) (w, place, e, is, writes) = omega (arith, ap length e)
at_two spot other (Fact.AtAny name) (w, e, is) = omega (arith, ap length e)
at_two spot other (Fact.AtNone name) (w, e, is) = omega (arith, ap length e)
at_two spot other (Fact.Gone name) (w, e, is, unlike) = other (ap second_of e)
at_two spot other (Fact.Waiting name count) (w, digits, e, is, unlike, writes) = omega (arith, ap length e)
at_two spot other (Fact.AllWaiting count) (digits, e, writes) = omega (arith, ap first_letter e)
at_two spot other (Fact.Records count) (digits, e, writes) = omega (arith, ap first_letter e)
at_two spot other (Fact.Recorded name byte count) (w, code, digits, e, is, has, writes) = omega (arith, ap length e)
at_two spot other Fact.Assigned e = omega (arith, ap length e)
at_two spot other Fact.Listed e = omega (arith, ap length e)
at_two spot other Fact.Open e = omega (arith, ap length e)
at_two spot other Fact.Done e = omega (arith, ap length e)
at_two spot other (Fact.Refused why) (rest, e, is) = omega (arith, ap first_letter e)
at_two spot other Fact.AnyRefused e = omega (arith, ap length e)
at_two spot other (Fact.Served way) e = omega (arith, ap first_letter e)
at_two spot other (Fact.Bytes bytes) (w, e, writes) = omega (arith, ap first_letter e)
at_two spot other (Fact.Asking name) (w, e, is, unlike) = omega (arith, ap second_letter e)

gone_alone : (fact : Fact) → IsFact (codes "gone" ∷ []) fact → ⊥
gone_alone (Fact.Active name) (w, e, is) = omega (arith, ap length e)
gone_alone (Fact.At name address) (w, place, e, is, writes) = omega (arith, ap length e)
gone_alone (Fact.AtAny name) (w, e, is) = omega (arith, ap length e)
gone_alone (Fact.AtNone name) (w, e, is) = omega (arith, ap length e)
gone_alone (Fact.Gone name) (w, e, is, unlike) = omega (arith, ap length e)
gone_alone (Fact.Waiting name count) (w, digits, e, is, unlike, writes) = omega (arith, ap length e)
gone_alone (Fact.AllWaiting count) (digits, e, writes) = omega (arith, ap length e)
gone_alone (Fact.Records count) (digits, e, writes) = omega (arith, ap length e)
gone_alone (Fact.Recorded name byte count) (w, code, digits, e, is, has, writes) = omega (arith, ap length e)
gone_alone Fact.Assigned e = omega (arith, ap first_letter e)
gone_alone Fact.Listed e = omega (arith, ap first_letter e)
gone_alone Fact.Open e = omega (arith, ap first_letter e)
gone_alone Fact.Done e = omega (arith, ap first_letter e)
gone_alone (Fact.Refused why) (rest, e, is) = omega (arith, ap first_letter e)
gone_alone Fact.AnyRefused e = omega (arith, ap first_letter e)
gone_alone (Fact.Served way) e = omega (arith, ap first_letter e)
gone_alone (Fact.Bytes bytes) (w, e, writes) = omega (arith, ap first_letter e)
gone_alone (Fact.Asking name) (w, e, is, unlike) = omega (arith, ap first_letter e)

not_both : (rest : List (List ℕ)) (fact other : Fact) → IsFact (codes "not" ∷ rest) fact → IsFact rest other → ⊥
not_both rest (Fact.Active name) other (w, e, is) form = omega (arith, ap first_letter e)
not_both rest (Fact.At name address) other (w, place, e, is, writes) form = at_two place (λ same. omega (arith, writes.0.0.0, ap length same)) other (subst (λ ws. IsFact ws other) (ap rest_of e) form)
not_both rest (Fact.AtAny name) other (w, e, is) form = at_two (codes "any") (λ same. omega (arith, ap length same)) other (subst (λ ws. IsFact ws other) (ap rest_of e) form)
not_both rest (Fact.AtNone name) other (w, e, is) form = at_two (codes "none") (λ same. omega (arith, ap letter_of same)) other (subst (λ ws. IsFact ws other) (ap rest_of e) form)
not_both rest (Fact.Gone name) other (w, e, is, unlike) form = gone_alone other (subst (λ ws. IsFact ws other) (ap rest_of e) form)
not_both rest (Fact.Waiting name count) other (w, digits, e, is, unlike, writes) form = unlike (sym (ap first_of e))
not_both rest (Fact.AllWaiting count) other (digits, e, writes) form = omega (arith, ap first_letter e)
not_both rest (Fact.Records count) other (digits, e, writes) form = omega (arith, ap first_letter e)
not_both rest (Fact.Recorded name byte count) other (w, code, digits, e, is, has, writes) form = omega (arith, ap first_letter e)
not_both rest Fact.Assigned other e form = omega (arith, ap first_letter e)
not_both rest Fact.Listed other e form = omega (arith, ap first_letter e)
not_both rest Fact.Open other e form = omega (arith, ap first_letter e)
not_both rest Fact.Done other e form = omega (arith, ap first_letter e)
not_both rest (Fact.Refused why) other (more, e, is) form = omega (arith, ap first_letter e)
not_both rest Fact.AnyRefused other e form = omega (arith, ap first_letter e)
not_both rest (Fact.Served way) other e form = omega (arith, ap first_letter e)
not_both rest (Fact.Bytes bytes) other (w, e, writes) form = omega (arith, ap first_letter e)
not_both rest (Fact.Asking name) other (w, e, is, unlike) form = omega (arith, ap first_letter e)

claim_is : (tokens : List (List ℕ)) (fact other : Fact) (one two : Bool) → IsClaimOf tokens fact one → IsClaimOf tokens other two → (fact ≡ other) × (one ≡ two)
claim_is tokens fact other false false form same = (sym (fact_is tokens fact form) ∙ fact_is tokens other same, refl)
claim_is tokens fact other false true form (rest, e, same) = absurd (not_both rest fact other (subst (λ ws. IsFact ws fact) e form) same)
claim_is tokens fact other true false (rest, e, form) same = absurd (not_both rest other fact (subst (λ ws. IsFact ws other) e same) form)
claim_is tokens fact other true true (rest, e, form) (more, e', same) =
    (sym (fact_is rest fact form) ∙ ap fact_of (ap rest_of (sym e ∙ e')) ∙ fact_is more other same, refl)

claims_are : (parts : List (List (List ℕ))) (one other : List Claim) → AreClaims parts one → AreClaims parts other → one ≡ other
claims_are [] [] [] are same = refl
claims_are [] [] (claim ∷ claims) are same = absurd same
claims_are [] (claim ∷ claims) other are same = absurd are
claims_are (part ∷ more) [] other are same = absurd are
claims_are (part ∷ more) (claim ∷ claims) [] are same = absurd same
claims_are (part ∷ more) (claim ∷ claims) (next ∷ others) are same =
    let is = claim_is part claim.fact next.fact claim.negated next.negated are.0 same.0 in
    λ i. record { fact = is.0 i; negated = is.1 i } ∷ claims_are more claims others are.1 same.1 i

-- the same claims behind the same first token
facts_are : (first : List ℕ) (tokens rest more : List (List ℕ)) (one other : List Claim) → tokens ≡ first ∷ rest → tokens ≡ first ∷ more → AreClaims (parts rest) one → AreClaims (parts more) other
    → one ≡ other
facts_are first tokens rest more one other e e' are same =
    claims_are (parts more) one other (subst (λ ws. AreClaims (parts ws) one) (ap rest_of (sym e ∙ e')) are) same

-- two first tokens
abbrev first_length : List (List ℕ) → ℕ
first_length tokens = length (first_of tokens)

pub one_mark : LinesAreOfOneMark
one_mark line Mark.Any Mark.Any (short, e1) (fits, e2) = refl
one_mark line Mark.Any (Mark.Anywhere name2) (short, e1) (fits, (w2, e2, is2)) = absurd (omega (arith, ap first_length (sym e1 ∙ e2)))
one_mark line Mark.Any (Mark.Always facts2) (short, e1) (fits, (w2, e2, is2)) = absurd (omega (arith, ap first_length (sym e1 ∙ e2)))
one_mark line Mark.Any Mark.Track (short, e1) (fits, e2) = absurd (omega (arith, ap first_length (sym e1 ∙ e2)))
one_mark line Mark.Any Mark.Close (short, e1) (fits, e2) = absurd (omega (arith, ap first_length (sym e1 ∙ e2)))
one_mark line Mark.Any (Mark.Expect facts2) (short, e1) (fits, (w2, e2, is2)) = absurd (omega (arith, ap first_length (sym e1 ∙ e2)))
one_mark line (Mark.Anywhere name1) Mark.Any (short, (w1, e1, is1)) (fits, e2) = absurd (omega (arith, ap first_length (sym e1 ∙ e2)))
one_mark line (Mark.Anywhere name1) (Mark.Anywhere name2) (short, (w1, e1, is1)) (fits, (w2, e2, is2)) = ap Mark.Anywhere (sym (named_is w1 name1 is1) ∙ ap (λ ws. named (second_of ws)) (sym e1 ∙ e2) ∙ named_is w2 name2 is2)
one_mark line (Mark.Anywhere name1) (Mark.Always facts2) (short, (w1, e1, is1)) (fits, (w2, e2, is2)) = absurd (omega (arith, ap first_length (sym e1 ∙ e2)))
one_mark line (Mark.Anywhere name1) Mark.Track (short, (w1, e1, is1)) (fits, e2) = absurd (omega (arith, ap first_length (sym e1 ∙ e2)))
one_mark line (Mark.Anywhere name1) Mark.Close (short, (w1, e1, is1)) (fits, e2) = absurd (omega (arith, ap first_length (sym e1 ∙ e2)))
one_mark line (Mark.Anywhere name1) (Mark.Expect facts2) (short, (w1, e1, is1)) (fits, (w2, e2, is2)) = absurd (omega (arith, ap first_length (sym e1 ∙ e2)))
one_mark line (Mark.Always facts1) Mark.Any (short, (w1, e1, is1)) (fits, e2) = absurd (omega (arith, ap first_length (sym e1 ∙ e2)))
one_mark line (Mark.Always facts1) (Mark.Anywhere name2) (short, (w1, e1, is1)) (fits, (w2, e2, is2)) = absurd (omega (arith, ap first_length (sym e1 ∙ e2)))
one_mark line (Mark.Always facts1) (Mark.Always facts2) (short, (w1, e1, is1)) (fits, (w2, e2, is2)) = ap Mark.Always (facts_are (codes "always") (tokens_of line) w1 w2 facts1 facts2 e1 e2 is1 is2)
one_mark line (Mark.Always facts1) Mark.Track (short, (w1, e1, is1)) (fits, e2) = absurd (omega (arith, ap first_length (sym e1 ∙ e2)))
one_mark line (Mark.Always facts1) Mark.Close (short, (w1, e1, is1)) (fits, e2) = absurd (omega (arith, ap first_length (sym e1 ∙ e2)))
one_mark line (Mark.Always facts1) (Mark.Expect facts2) (short, (w1, e1, is1)) (fits, (w2, e2, is2)) = absurd (omega (arith, ap first_letter (sym e1 ∙ e2)))
one_mark line Mark.Track Mark.Any (short, e1) (fits, e2) = absurd (omega (arith, ap first_length (sym e1 ∙ e2)))
one_mark line Mark.Track (Mark.Anywhere name2) (short, e1) (fits, (w2, e2, is2)) = absurd (omega (arith, ap first_length (sym e1 ∙ e2)))
one_mark line Mark.Track (Mark.Always facts2) (short, e1) (fits, (w2, e2, is2)) = absurd (omega (arith, ap first_length (sym e1 ∙ e2)))
one_mark line Mark.Track Mark.Track (short, e1) (fits, e2) = refl
one_mark line Mark.Track Mark.Close (short, e1) (fits, e2) = absurd (omega (arith, ap first_letter (sym e1 ∙ e2)))
one_mark line Mark.Track (Mark.Expect facts2) (short, e1) (fits, (w2, e2, is2)) = absurd (omega (arith, ap first_length (sym e1 ∙ e2)))
one_mark line Mark.Close Mark.Any (short, e1) (fits, e2) = absurd (omega (arith, ap first_length (sym e1 ∙ e2)))
one_mark line Mark.Close (Mark.Anywhere name2) (short, e1) (fits, (w2, e2, is2)) = absurd (omega (arith, ap first_length (sym e1 ∙ e2)))
one_mark line Mark.Close (Mark.Always facts2) (short, e1) (fits, (w2, e2, is2)) = absurd (omega (arith, ap first_length (sym e1 ∙ e2)))
one_mark line Mark.Close Mark.Track (short, e1) (fits, e2) = absurd (omega (arith, ap first_letter (sym e1 ∙ e2)))
one_mark line Mark.Close Mark.Close (short, e1) (fits, e2) = refl
one_mark line Mark.Close (Mark.Expect facts2) (short, e1) (fits, (w2, e2, is2)) = absurd (omega (arith, ap first_length (sym e1 ∙ e2)))
one_mark line (Mark.Expect facts1) Mark.Any (short, (w1, e1, is1)) (fits, e2) = absurd (omega (arith, ap first_length (sym e1 ∙ e2)))
one_mark line (Mark.Expect facts1) (Mark.Anywhere name2) (short, (w1, e1, is1)) (fits, (w2, e2, is2)) = absurd (omega (arith, ap first_length (sym e1 ∙ e2)))
one_mark line (Mark.Expect facts1) (Mark.Always facts2) (short, (w1, e1, is1)) (fits, (w2, e2, is2)) = absurd (omega (arith, ap first_letter (sym e1 ∙ e2)))
one_mark line (Mark.Expect facts1) Mark.Track (short, (w1, e1, is1)) (fits, e2) = absurd (omega (arith, ap first_length (sym e1 ∙ e2)))
one_mark line (Mark.Expect facts1) Mark.Close (short, (w1, e1, is1)) (fits, e2) = absurd (omega (arith, ap first_length (sym e1 ∙ e2)))
one_mark line (Mark.Expect facts1) (Mark.Expect facts2) (short, (w1, e1, is1)) (fits, (w2, e2, is2)) = ap Mark.Expect (facts_are (codes "expect") (tokens_of line) w1 w2 facts1 facts2 e1 e2 is1 is2)
