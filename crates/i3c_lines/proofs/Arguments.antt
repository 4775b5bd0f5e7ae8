-- The tokens behind a command's first.
use Rattle.std.proofs.Common.{◌≡◌, ◌∙◌, ◌⊎◌, ℕ, ◌<◌, true, false, inl, inr, List, [], ◌∷◌, Option, Some, None, length, map, take, codes, ap, refl, sym, subst}
use Rattle.std.proofs.lemmas.Bool.{false≢true}
use Rattle.std.specs.Option.{IfSome, IsSome}
use Rattle.std.specs.Str.Parse.{digits_value}
use Rattle.arrayvec.specs.ArrayVec.{ArrayVec}
use Rattle.i3c_base.specs.declared.datum.Direction.{Direction}
use Rattle.i3c_base.specs.declared.device.Setup.{Setup}
use Rattle.i3c_base.specs.declared.identity.Identity.{Identity}
use Rattle.i3c_base.specs.declared.kinds.Kinds.{Kinds}
use Rattle.i3c_base.specs.declared.requests.Fixed.{Fixed}
use Rattle.i3c_lines.specs.declared.command.Command.{Command}
use Rattle.i3c_lines.specs.declared.names.Name.{Name}
use Rattle.i3c_lines.specs.declared.sent.Sent.{Sent}
use Rattle.i3c_lines.specs.Data.{length_token}
use Rattle.i3c_lines.specs.Forms.{AreAddress, AreAddresses, AreByte, AreCount, AreDeclared, AreDevice, AreKinds, AreLength, ArePlace, AreWritten, IsForm, IsNamed, IsPolicyBut, IsSentForm, WritesAddress, tokens_of}
use Rattle.i3c_lines.specs.Policies.{IsPolicy}
use Rattle.i3c_lines.specs.Parsing.{AreKept, AreNamed, Reads, joined}
use Rattle.i3c_lines.specs.Tokens.{AreBytes, IsHex, pair_values}
use Rattle.i3c_lines.proofs.LineLaws.{line_is, one_token, token_left}
use Rattle.i3c_lines.proofs.Meanings.{as_meant, before_but, behind_but, either, first_of, has_but, hex, identity_of, kinds_of, lengths_meant, named, number_of, own, policy_of, rest_of, sent_in, sent_is, setup_of, written_of}
use Rattle.i3c_lines.proofs.SplitLaws.{pairs_no_space, take_joined}

pub drop_args : (rest : List (List ℕ)) (command : Command) → IsForm (codes "drop" ∷ rest) command → (name : Name) × AreNamed rest name
drop_args rest command form = let f = as_meant (codes "drop" ∷ rest) command form in (named (first_of rest), (f.0, ap rest_of f.1, f.2))

pub join_args : (rest : List (List ℕ)) (command : Command) → IsForm (codes "ask-join" ∷ rest) command → (name : Name) × AreNamed rest name
join_args rest command form = let f = as_meant (codes "ask-join" ∷ rest) command form in (named (first_of rest), (f.0, ap rest_of f.1, f.2))

pub role_args : (rest : List (List ℕ)) (command : Command) → IsForm (codes "ask-role" ∷ rest) command → (name : Name) × AreNamed rest name
role_args rest command form = let f = as_meant (codes "ask-role" ∷ rest) command form in (named (first_of rest), (f.0, ap rest_of f.1, f.2))

-- the two lines that `policy` begins
pub policy_args : (rest : List (List ℕ)) (command : Command) → IsForm (codes "policy" ∷ rest) command → ((policy : Fixed) × IsPolicy rest policy) ⊎ ((kinds : Fixed) × (but : ArrayVec Name) × IsPolicyBut rest kinds but.items)
policy_args rest command form =
    elim (either (has_but rest) (Command.PolicyBut (policy_of (before_but rest)) (record { items = map named (behind_but rest) })) (Command.Policy (policy_of rest)) _ (as_meant (codes "policy" ∷ rest) command form)) [
      | inl f ↦ inr (policy_of (before_but rest), record { items = map named (behind_but rest) }, subst (λ ws. IsPolicyBut ws (policy_of (before_but rest)) (map named (behind_but rest))) (sym (ap rest_of f.1)) f.2)
      | inr f ↦ inl (policy_of rest, subst (λ ws. IsPolicy ws (policy_of rest)) (sym (ap rest_of f.1)) f.2)
    ]

pub main_args : (rest : List (List ℕ)) (command : Command) → IsForm (codes "main" ∷ rest) command → (name : Name) × (setup : Setup) × AreDevice rest name setup
main_args rest command form =
    let f = as_meant (codes "main" ∷ rest) command form in
    (named (first_of rest), setup_of (rest_of rest), subst (λ ws. AreDevice ws (named (first_of rest)) (setup_of (rest_of rest))) (sym (ap rest_of f.1)) f.2)

pub attach_args : (rest : List (List ℕ)) (command : Command) → IsForm (codes "attach" ∷ rest) command → (name : Name) × (setup : Setup) × AreDevice rest name setup
attach_args rest command form =
    let f = as_meant (codes "attach" ∷ rest) command form in
    (named (first_of rest), setup_of (rest_of rest), subst (λ ws. AreDevice ws (named (first_of rest)) (setup_of (rest_of rest))) (sym (ap rest_of f.1)) f.2)

pub declare_args : (rest : List (List ℕ)) (command : Command) → IsForm (codes "declare" ∷ rest) command → (address : ℕ) × (identity : Identity) × AreDeclared rest address identity
declare_args rest command form =
    let f = as_meant (codes "declare" ∷ rest) command form in
    (hex (first_of rest), identity_of (rest_of rest), subst (λ ws. AreDeclared ws (hex (first_of rest)) (identity_of (rest_of rest))) (sym (ap rest_of f.1)) f.2)

pub setdasa_args : (rest : List (List ℕ)) (command : Command) → IsForm (codes "setdasa" ∷ rest) command → (at to : ℕ) × AreAddresses rest at to
setdasa_args rest command form =
    let f = as_meant (codes "setdasa" ∷ rest) command form in
    (hex (first_of rest), hex (first_of (rest_of rest)), subst (λ ws. AreAddresses ws (hex (first_of rest)) (hex (first_of (rest_of rest)))) (sym (ap rest_of f.1)) f.2)

pub setnewda_args : (rest : List (List ℕ)) (command : Command) → IsForm (codes "setnewda" ∷ rest) command → (at to : ℕ) × AreAddresses rest at to
setnewda_args rest command form =
    let f = as_meant (codes "setnewda" ∷ rest) command form in
    (hex (first_of rest), hex (first_of (rest_of rest)), subst (λ ws. AreAddresses ws (hex (first_of rest)) (hex (first_of (rest_of rest)))) (sym (ap rest_of f.1)) f.2)

pub enec_args : (rest : List (List ℕ)) (command : Command) → IsForm (codes "enec" ∷ rest) command → (to : Option ℕ) × (kinds : Kinds) × AreKinds rest to kinds
enec_args rest command form =
    let f = as_meant (codes "enec" ∷ rest) command form in
    (number_of (rest_of rest), kinds_of (first_of rest), subst (λ ws. AreKinds ws (number_of (rest_of rest)) (kinds_of (first_of rest))) (sym (ap rest_of f.1)) f.2)

pub disec_args : (rest : List (List ℕ)) (command : Command) → IsForm (codes "disec" ∷ rest) command → (to : Option ℕ) × (kinds : Kinds) × AreKinds rest to kinds
disec_args rest command form =
    let f = as_meant (codes "disec" ∷ rest) command form in
    (number_of (rest_of rest), kinds_of (first_of rest), subst (λ ws. AreKinds ws (number_of (rest_of rest)) (kinds_of (first_of rest))) (sym (ap rest_of f.1)) f.2)

pub length_args : (way : Direction) (rest : List (List ℕ)) (command : Command) → IsForm (length_token way ∷ rest) command → (most : ℕ) × (to : Option ℕ) × AreLength rest most to
length_args way rest command form =
    let f = subst (λ c. IsForm (length_token way ∷ rest) c) (lengths_meant way rest) (as_meant (length_token way ∷ rest) command form) in
    (digits_value 10 (first_of rest), number_of (rest_of rest), subst (λ ws. AreLength ws (digits_value 10 (first_of rest)) (number_of (rest_of rest))) (sym (ap rest_of f.1)) f.2)

pub frames_args : (rest : List (List ℕ)) (command : Command) → IsForm (codes "frames" ∷ rest) command → (count : ℕ) × AreCount rest count
frames_args rest command form =
    let f = as_meant (codes "frames" ∷ rest) command form in (digits_value 10 (first_of rest), subst (λ ws. AreCount ws (digits_value 10 (first_of rest))) (sym (ap rest_of f.1)) f.2)

pub forget_args : (rest : List (List ℕ)) (command : Command) → IsForm (codes "forget" ∷ rest) command → (last : ℕ) × ArePlace rest last
forget_args rest command form =
    let f = as_meant (codes "forget" ∷ rest) command form in (digits_value 10 (first_of rest), subst (λ ws. ArePlace ws (digits_value 10 (first_of rest))) (sym (ap rest_of f.1)) f.2)

pub raise_args : (rest : List (List ℕ)) (command : Command) → IsForm (codes "raise" ∷ rest) command
    → (name : Name) × (byte : Option ℕ) × (token : List ℕ) × (more : List (List ℕ)) × (rest ≡ token ∷ more) × IsNamed token name × AreByte more byte
raise_args rest command form = let f = as_meant (codes "raise" ∷ rest) command form in (named (first_of rest), number_of (rest_of rest), f.0, f.1, ap rest_of f.2, f.3, f.4)

pub as_args : (rest : List (List ℕ)) (command : Command) → IsForm (codes "as" ∷ rest) command
    → (name : Name) × (sent : Sent) × (token : List ℕ) × (more : List (List ℕ)) × (rest ≡ token ∷ more) × IsNamed token name × IsSentForm more sent
as_args rest command form = let f = as_meant (codes "as" ∷ rest) command form in (named (first_of rest), sent_in (own (rest_of rest)), f.0, f.1, ap rest_of f.2, f.3, f.4)

-- no tokens are no line of a controller
pub no_sent : (sent : Sent) → IsSentForm [] sent → ⊥
no_sent (Sent.Frame frame) form = let e : Command.Show ≡ Command.Frame frame = sent_is [] (Sent.Frame frame) form in absurd cc
no_sent (Sent.HandOver to) form = let e : Command.Show ≡ Command.HandOver to = sent_is [] (Sent.HandOver to) form in absurd cc
no_sent Sent.Open form = let e : Command.Show ≡ Command.Open = sent_is [] Sent.Open form in absurd cc
no_sent Sent.Round form = let e : Command.Show ≡ Command.Round = sent_is [] Sent.Round form in absurd cc
no_sent Sent.End form = let e : Command.Show ≡ Command.End = sent_is [] Sent.End form in absurd cc
no_sent Sent.Daa form = let e : Command.Show ≡ Command.Daa = sent_is [] Sent.Daa form in absurd cc

pub read_args : (rest : List (List ℕ)) (command : Command) → IsForm (codes "read" ∷ rest) command → (at : ℕ) × (token : List ℕ) × (rest ≡ token ∷ []) × WritesAddress token at
read_args rest command form = let f = as_meant (codes "read" ∷ rest) command form in (hex (first_of rest), f.0, ap rest_of f.1, f.2)

pub write_args : (rest : List (List ℕ)) (command : Command) → IsForm (codes "write" ∷ rest) command
    → (at : ℕ) × (bytes : List ℕ) × (token : List ℕ) × (more : List (List ℕ)) × (rest ≡ token ∷ more) × WritesAddress token at × AreWritten more bytes
write_args rest command form = let f = as_meant (codes "write" ∷ rest) command form in (hex (first_of rest), written_of (rest_of rest), f.0, f.1, ap rest_of f.2, f.3, f.4)

-- an address that is read, and one that isn't
pub address_written : (token : List ℕ) (at : ℕ) → IsHex 2 token × (hex token < 128) → at ≡ hex token → WritesAddress token at
address_written token at is e = ((is.0, e), subst (λ n. n < 128) (sym e) is.1)

pub no_address : (token : List ℕ) → (IsHex 2 token × (hex token < 128) → false ≡ true) → (at : ℕ) → WritesAddress token at → ⊥
no_address token none at is = false≢true (none (is.0.0, subst (λ n. n < 128) is.0.1 is.1))

-- the line of one token
pub only_token : (line token : List ℕ) → tokens_of line ≡ token ∷ [] → line ≡ token
only_token line token e = line_is line (token ∷ []) e

-- what isn't one token with a form
pub no_address_line : (token : List ℕ) → (IsHex 2 token × (hex token < 128) → false ≡ true) → (to : Option ℕ) → AreAddress (tokens_of token) to → ⊥
no_address_line token none None e = token_left token e
no_address_line token none (Some at) (one, e, is) = no_address token none at (subst (λ w. WritesAddress w at) (sym (only_token token one e)) is)

pub no_byte_line : (token : List ℕ) → (IsHex 2 token → false ≡ true) → (byte : Option ℕ) → AreByte (tokens_of token) byte → ⊥
no_byte_line token none None e = token_left token e
no_byte_line token none (Some byte) (one, e, is) = false≢true (none (subst (λ w. IsHex 2 w) (sym (only_token token one e)) is.0))

pub no_written_line : (digits : List ℕ) → (0 < length digits → AreBytes digits → false ≡ true) → (bytes : List ℕ) → AreWritten (tokens_of digits) bytes → ⊥
no_written_line digits none bytes (inl is) = token_left digits is.0
no_written_line digits none bytes (inr (token, e, some, are, kept)) =
    let same = sym (only_token digits token e) in
    false≢true (none (subst (λ w. 0 < length w) same some) (subst (λ w. AreBytes w) same are))

pub written_line : (digits : List ℕ) (result : Option (ArrayVec ℕ)) → 0 < length digits → (IsSome result → AreBytes digits) → (AreBytes digits → IsSome result)
    → IfSome result (λ bytes. bytes.items ≡ take 17 (pair_values digits)) → Reads AreKept (tokens_of digits) result
written_line digits None some are none value = λ bytes is. no_written_line digits (λ _. none) bytes.items is
written_line digits (Some bytes) some are none value = let pairs = are refl in inr (digits, one_token digits (pairs_no_space digits pairs), some, pairs, value)

-- a line that begins with as many bytes as another begins with them
pub same_first : (one other : List ℕ) (rest more : Option (List ℕ)) → length one ≡ length other → joined one rest ≡ joined other more → one ≡ other
same_first one other rest more long e = sym (take_joined one rest) ∙ (λ i. take (long i) (e i)) ∙ take_joined other more
