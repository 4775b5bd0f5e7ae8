-- The command that a line can be at most.
use Rattle.std.proofs.Common.{◌≡◌, ◌∙◌, ◌⊎◌, ℕ, ◌-◌, ◌<◌, ◌≤◌, Bool, true, false, cond, nat_eq, eqb, inl, inr, List, [], ◌∷◌, ◌++◌, Option, Some, None, drop, length, map, replicate, take, bit_and, codes, ap, append_assoc, arith, refl, sym, subst}
use Rattle.std.proofs.lemmas.List.{append-nil, length-append, length-replicate, length-take, length-take-le, take_all, take-append-drop}
use Rattle.arrayvec.specs.ArrayVec.{ArrayVec}
use Rattle.std.proofs.lemmas.Bool.{ne_eqb, true≢false}
use Rattle.std.proofs.Math.Seq.{drop-append_seam, take-append_seam}
use Rattle.std.specs.Cmp.Lexicographic.{pointwise}
use Rattle.std.specs.Str.Parse.{digits_value}
use std.HLevel.{prop→path_p}
use mathlib.Core.List.{is_set}
use native.Mathlib.Bridge.{le_prop}
use native.Mathlib.Nat.{ℕ_set}
use Rattle.i3c_base.specs.declared.datum.Datum.{Datum}
use Rattle.i3c_base.specs.declared.datum.Direction.{Direction}
use Rattle.i3c_base.specs.declared.device.Setup.{Setup}
use Rattle.i3c_base.specs.declared.identity.Identity.{Identity}
use Rattle.i3c_base.specs.declared.kinds.Kinds.{Kinds}
use Rattle.i3c_base.specs.declared.requests.Fixed.{Fixed}
use Rattle.i3c_base.specs.declared.requests.Verdict.TheVariants.{Accept, Refuse}
use Rattle.i3c_step.specs.declared.events.Command.{Command as Frame}
use Rattle.i3c_lines.specs.declared.command.Command.{Command}
use Rattle.i3c_lines.specs.declared.names.Name.{Name}
use Rattle.i3c_lines.specs.declared.sent.Sent.{Sent}
use Rattle.i3c_lines.specs.Forms.{AreAddress, AreByte, AreWritten, IsForm, IsFrameForm, IsNamed, IsPolicyBut, IsSentForm, NameEach, WritesIdentity, WritesKinds, willing_tokens}
use Rattle.i3c_lines.specs.Data.{length_token, datum_name}
use Rattle.i3c_lines.specs.Naming.{letters}
use Rattle.i3c_lines.specs.Policies.{AcceptEach, Accepts, IsPolicy, each_kind}
use Rattle.i3c_lines.specs.Sending.{bare}
use Rattle.i3c_lines.specs.Tokens.{IsDecimal, IsDecimalDigit, pair_values}

-- a name is known by its letters
pub same_name : (one other : Name) → letters one ≡ letters other → one ≡ other
same_name one other e =
    let first : length (letters one) ≡ one.length = length-take-le one.length one.bytes (omega arith) in
    let second : length (letters other) ≡ other.length = length-take-le other.length other.bytes (omega arith) in
    let l : one.length ≡ other.length = sym first ∙ ap length e ∙ second in
    let b : one.bytes ≡ other.bytes =
    sym (take-append-drop one.length one.bytes) ∙ (λ i. e i ++ (one.padded ∙ ap (λ n. replicate (16 - n) 0) l ∙ sym other.padded) i) ∙ take-append-drop other.length other.bytes in
    let s = prop→path_p (λ i. l i ≤ 16) (hlevel le_prop) one.short other.short in
    let p = prop→path_p (λ i. drop (l i) (b i) ≡ replicate (16 - l i) 0) (is_set ℕ_set _ _) one.padded other.padded in
    let w = prop→path_p (λ i. length (b i) ≡ 16) (ℕ_set _ _) one.whole other.whole in
    λ i. record { bytes = b i; length = l i; short = s i; padded = p i; whole = w i }

pub few : (token : List ℕ) → length (take 16 token) ≤ 16
few token = omega (arith, length-take 16 token)

-- the name that has the first sixteen bytes of a token
abbrev pub named : List ℕ → Name
named token =
    let first : List ℕ = take 16 token in
    record {
      bytes = first ++ replicate (16 - length first) 0;
      length = length first;
      short = few token;
      padded = drop-append_seam first (replicate (16 - length first) 0);
      whole = length-append first (replicate (16 - length first) 0) ∙ omega (arith, length-replicate {A = ℕ} (16 - length first) 0, few token);
    }

named_is : (token : List ℕ) (name : Name) → IsNamed token name → named token ≡ name
named_is token name is =
    same_name (named token) name (take-append_seam (take 16 token) (replicate (16 - length (take 16 token)) 0) ∙ take_all 16 token (omega (arith, is.0.1)) ∙ sym is.1)

abbrev pub hex : List ℕ → ℕ
hex token = digits_value 16 token

abbrev pub first_of : List (List ℕ) → List ℕ
first_of [] = []
first_of (token ∷ tokens) = token

abbrev pub rest_of : List (List ℕ) → List (List ℕ)
rest_of [] = []
rest_of (token ∷ tokens) = tokens

-- the number of the first token, if there is a token
abbrev pub number_of : List (List ℕ) → Option ℕ
number_of [] = None
number_of (token ∷ tokens) = Some (hex token)

abbrev pub written_of : List (List ℕ) → List ℕ
written_of [] = []
written_of (token ∷ tokens) = take 17 (pair_values token)

abbrev pub willing_of : List (List ℕ) → Bool
willing_of [] = true
willing_of (token ∷ tokens) = false

abbrev pub letter_of : List ℕ → ℕ
letter_of [] = 0
letter_of (byte ∷ token) = byte

-- `show` alone, or with a token behind it: one that begins with an `a`, or a number
abbrev pub shown_by : List (List ℕ) → Command
shown_by [] = Command.Show
shown_by (token ∷ tokens) = cond (eqb (letter_of token) 97) Command.ShowAll (Command.ShowFrom (digits_value 10 token))

abbrev pub kinds_of : List ℕ → Kinds
kinds_of token = record { 0 = bit_and (hex token) 11 }

abbrev pub identity_of : List (List ℕ) → Identity
identity_of tokens = record { pid = hex (first_of tokens); bcr = record { 0 = hex (first_of (rest_of tokens)) }; dcr = record { 0 = hex (first_of (rest_of (rest_of tokens))) } }

abbrev pub setup_of : List (List ℕ) → Setup
setup_of tokens = record { identity = identity_of tokens; willing = willing_of (rest_of (rest_of (rest_of tokens))) }

abbrev pub are_same : List ℕ → List ℕ → Bool
are_same one other = pointwise nat_eq one other

-- a policy that accepts a kind more
abbrev pub accepting : List ℕ → Fixed → Fixed
accepting token policy = cond (are_same token (codes "joins")) (record policy { join = Accept }) (cond (are_same token (codes "roles")) (record policy { role = Accept }) (record policy { interrupt = Accept }))

abbrev pub accepting_each : List (List ℕ) → Fixed → Fixed
accepting_each [] policy = policy
accepting_each (token ∷ tokens) policy = accepting_each tokens (accepting token policy)

abbrev pub policy_of : List (List ℕ) → Fixed
policy_of tokens = cond (are_same (first_of tokens) (codes "all")) (each_kind Accept) (cond (are_same (first_of tokens) (codes "none")) (each_kind Refuse) (accepting_each tokens (each_kind Refuse)))

-- the tokens in front of the first `but`, those behind it, and whether there is one
abbrev pub before_but : List (List ℕ) → List (List ℕ)
before_but [] = []
before_but (token ∷ tokens) = cond (are_same token (codes "but")) [] (token ∷ before_but tokens)

abbrev pub behind_but : List (List ℕ) → List (List ℕ)
behind_but [] = []
behind_but (token ∷ tokens) = cond (are_same token (codes "but")) tokens (behind_but tokens)

abbrev pub has_but : List (List ℕ) → Bool
has_but [] = false
has_but (token ∷ tokens) = cond (are_same token (codes "but")) true (has_but tokens)

abbrev pub policy_by : List (List ℕ) → Command
policy_by args = cond (has_but args) (Command.PolicyBut (policy_of (before_but args)) (record { items = map named (behind_but args) })) (Command.Policy (policy_of args))

-- the datum that has this token, if one has
abbrev pub datum_of : List ℕ → Datum
datum_of token = cond (are_same token (codes "pid")) Datum.Pid
    (cond (are_same token (codes "bcr")) Datum.Bcr
    (cond (are_same token (codes "dcr")) Datum.Dcr
    (cond (are_same token (codes "status")) Datum.Status
    (cond (are_same token (codes "mwl")) Datum.WriteLength
    (cond (are_same token (codes "mrl")) Datum.ReadLength
    (cond (are_same token (codes "mxds")) Datum.Speed Datum.Capabilities))))))

-- the command that sets a maximum length
abbrev pub length_of : Direction → List (List ℕ) → Command
length_of way args = Command.Frame (Frame.SetLength way (digits_value 10 (first_of args)) (number_of (rest_of args)))

-- the command that begins with this token, if it begins with one's that isn't `as`
abbrev pub own_by : List ℕ → List (List ℕ) → Command
own_by token args =
    cond (are_same token (codes "raise")) (Command.Raise (named (first_of args)) (number_of (rest_of args)))
    (cond (are_same token (codes "read")) (Command.Frame (Frame.ReadFrom (hex (first_of args))))
    (cond (are_same token (codes "reset")) (Command.Frame Frame.Reset)
    (cond (are_same token (codes "round")) Command.Round
    (cond (are_same token (codes "serve")) (Command.Frame Frame.Serve)
    (cond (are_same token (codes "symbols")) Command.Symbols
    (cond (are_same token (codes "show")) (shown_by args)
    (cond (are_same token (codes "setdasa")) (Command.Frame (Frame.SetStatic (hex (first_of args)) (hex (first_of (rest_of args)))))
    (cond (are_same token (codes "setnewda")) (Command.Frame (Frame.SetNew (hex (first_of args)) (hex (first_of (rest_of args)))))
    (cond (are_same token (codes "enec")) (Command.Frame (Frame.Enec (number_of (rest_of args)) (kinds_of (first_of args))))
    (cond (are_same token (codes "end")) Command.End
    (cond (are_same token (codes "disec")) (Command.Frame (Frame.Disec (number_of (rest_of args)) (kinds_of (first_of args))))
    (cond (are_same token (codes "daa")) Command.Daa
    (cond (are_same token (codes "drop")) (Command.DropOff (named (first_of args)))
    (cond (are_same token (codes "declare")) (Command.Declare (hex (first_of args)) (identity_of (rest_of args)))
    (cond (are_same token (codes "list")) (Command.Frame Frame.SendList)
    (cond (are_same token (codes "legacy")) (Command.Legacy (named (first_of args)) (hex (first_of (rest_of args))) (record { 0 = hex (first_of (rest_of (rest_of args))) }))
    (cond (are_same token (codes "open")) Command.Open
    (cond (are_same token (codes "write")) (Command.Frame (Frame.WriteTo (hex (first_of args)) (record { items = written_of (rest_of args) })))
    (cond (are_same token (codes "main")) (Command.Main (named (first_of args)) (setup_of (rest_of args)))
    (cond (are_same token (codes "attach")) (Command.Attach (named (first_of args)) (setup_of (rest_of args)))
    (cond (are_same token (codes "ask-join")) (Command.AskJoin (named (first_of args)))
    (cond (are_same token (codes "ask-role")) (Command.AskRole (named (first_of args)))
    (cond (are_same token (codes "handover")) (Command.HandOver (hex (first_of args)))
    (cond (are_same token (codes "policy")) (policy_by args)
    (cond (are_same token (codes "cut")) (Command.Cut (named (first_of args)) (digits_value 10 (first_of (rest_of args))))
    (cond (are_same token (codes "frames")) (Command.Frames (digits_value 10 (first_of args)))
    (cond (are_same token (codes "forget")) (Command.Forget (digits_value 10 (first_of args)))
    (cond (are_same (take 3 token) (codes "get")) (Command.Frame (Frame.Get (datum_of (drop 3 token)) (hex (first_of args))))
    (cond (are_same token (codes "setmwl")) (length_of Direction.Write args)
    (cond (are_same token (codes "setmrl")) (length_of Direction.Read args) Command.Show))))))))))))))))))))))))))))))

-- the same of these tokens
abbrev pub own : List (List ℕ) → Command
own tokens = own_by (first_of tokens) (rest_of tokens)

-- the line that a controller sends with a command, if it is such a line's
abbrev pub sent_in : Command → Sent
sent_in (Command.Frame frame) = Sent.Frame frame
sent_in (Command.HandOver to) = Sent.HandOver to
sent_in Command.Open = Sent.Open
sent_in Command.Round = Sent.Round
sent_in Command.Daa = Sent.Daa
sent_in _ = Sent.End

-- the line of a controller, by its name and its own tokens
abbrev pub as_by : List (List ℕ) → Command
as_by args = Command.As (named (first_of args)) (sent_in (own (rest_of args)))

-- the command that begins with this token, if it begins with one's
abbrev pub meant_by : List ℕ → List (List ℕ) → Command
meant_by token args = cond (are_same token (codes "as")) (as_by args) (own_by token args)

-- the command that these tokens can be at most
abbrev pub meant : List (List ℕ) → Command
meant tokens = meant_by (first_of tokens) (rest_of tokens)

address_is : (tokens : List (List ℕ)) (to : Option ℕ) → AreAddress tokens to → number_of tokens ≡ to
address_is tokens None e = ap number_of e
address_is tokens (Some address) (token, e, at) = ap number_of e ∙ ap Some (sym at.0.1)

byte_is : (tokens : List (List ℕ)) (byte : Option ℕ) → AreByte tokens byte → number_of tokens ≡ byte
byte_is tokens None e = ap number_of e
byte_is tokens (Some byte) (token, e, writes) = ap number_of e ∙ ap Some (sym writes.1)

written_is : (tokens : List (List ℕ)) (bytes : List ℕ) → AreWritten tokens bytes → written_of tokens ≡ bytes
written_is tokens bytes (inl none) = ap written_of none.0 ∙ sym none.1
written_is tokens bytes (inr (token, e, some, are, kept)) = ap written_of e ∙ sym kept

willing_is : (willing : Bool) → willing_of (willing_tokens willing) ≡ willing
willing_is true = refl
willing_is false = refl

pub accepting_is : (token : List ℕ) (old new : Fixed) → Accepts token old new → accepting token old ≡ new
accepting_is token old new (inl is) = ap (λ w. accepting w old) is.0 ∙ sym is.2
accepting_is token old new (inr (inl is)) = ap (λ w. accepting w old) is.0 ∙ sym is.2
accepting_is token old new (inr (inr is)) = ap (λ w. accepting w old) is.0 ∙ sym is.2

accepting_each_is : (tokens : List (List ℕ)) (old new : Fixed) → AcceptEach tokens old new → accepting_each tokens old ≡ new
accepting_each_is [] old new same = sym same
accepting_each_is (token ∷ tokens) old new (next, is, are) = ap (λ policy. accepting_each tokens policy) (accepting_is token old next is) ∙ accepting_each_is tokens next new are

-- a token that names a kind doesn't make a policy alone
pub kind_first : (token : List ℕ) (tokens : List (List ℕ)) (old new : Fixed) → Accepts token old new → policy_of (token ∷ tokens) ≡ accepting_each (token ∷ tokens) (each_kind Refuse)
kind_first token tokens old new (inl is) = ap (λ w. policy_of (w ∷ tokens)) is.0 ∙ sym (ap (λ w. accepting_each (w ∷ tokens) (each_kind Refuse)) is.0)
kind_first token tokens old new (inr (inl is)) = ap (λ w. policy_of (w ∷ tokens)) is.0 ∙ sym (ap (λ w. accepting_each (w ∷ tokens) (each_kind Refuse)) is.0)
kind_first token tokens old new (inr (inr is)) = ap (λ w. policy_of (w ∷ tokens)) is.0 ∙ sym (ap (λ w. accepting_each (w ∷ tokens) (each_kind Refuse)) is.0)

kinds_are : (tokens : List (List ℕ)) (policy : Fixed) → 0 < length tokens → AcceptEach tokens (each_kind Refuse) policy → policy_of tokens ≡ policy
kinds_are [] policy some are = absurd (omega (arith, some))
kinds_are (token ∷ tokens) policy some are = kind_first token tokens (each_kind Refuse) are.0 are.1 ∙ accepting_each_is (token ∷ tokens) (each_kind Refuse) policy are

policy_is : (tokens : List (List ℕ)) (policy : Fixed) → IsPolicy tokens policy → policy_of tokens ≡ policy
policy_is tokens policy (inl (token, e, inl is)) = ap policy_of (e ∙ ap (λ w. w ∷ []) is.0) ∙ sym is.1
policy_is tokens policy (inl (token, e, inr is)) = ap policy_of (e ∙ ap (λ w. w ∷ []) is.0) ∙ sym is.1
policy_is tokens policy (inr are) = kinds_are tokens policy are.0 are.1

-- no token of a policy is `but`
no_kind : (token : List ℕ) (old new : Fixed) → Accepts token old new → are_same token (codes "but") ≡ false
no_kind token old new (inl is) = ap (λ w. are_same w (codes "but")) is.0
no_kind token old new (inr (inl is)) = ap (λ w. are_same w (codes "but")) is.0
no_kind token old new (inr (inr is)) = ap (λ w. are_same w (codes "but")) is.0

none_of_kinds : (tokens : List (List ℕ)) (old new : Fixed) → AcceptEach tokens old new → has_but tokens ≡ false
none_of_kinds [] old new are = refl
none_of_kinds (token ∷ tokens) old new (next, is, are) = ap (λ b. cond b true (has_but tokens)) (no_kind token old next is) ∙ none_of_kinds tokens next new are

pub no_but : (tokens : List (List ℕ)) (policy : Fixed) → IsPolicy tokens policy → has_but tokens ≡ false
no_but tokens policy (inl (token, e, inl is)) = ap has_but (e ∙ ap (λ w. w ∷ []) is.0)
no_but tokens policy (inl (token, e, inr is)) = ap has_but (e ∙ ap (λ w. w ∷ []) is.0)
no_but tokens policy (inr are) = none_of_kinds tokens (each_kind Refuse) policy are.1

-- so the first `but` is where it was put
abbrev IsFirst : List (List ℕ) → List (List ℕ) → Type 0
IsFirst front tokens = let all = front ++ codes "but" ∷ tokens in (has_but all ≡ true) × (before_but all ≡ front) × (behind_but all ≡ tokens)

first_but : (front tokens : List (List ℕ)) → has_but front ≡ false → IsFirst front tokens
first_but [] tokens none = (refl, refl, refl)
first_but (token ∷ front) tokens none =
    let (same, rest) = no_first (are_same token (codes "but")) (has_but front) none in
    let later = first_but front tokens rest in (
      ap (λ b. cond b true (has_but (front ++ codes "but" ∷ tokens))) same ∙ later.0,
      ap (λ b. cond b [] (token ∷ before_but (front ++ codes "but" ∷ tokens))) same ∙ ap (λ ws. token ∷ ws) later.1,
      ap (λ b. cond b (front ++ codes "but" ∷ tokens) (behind_but (front ++ codes "but" ∷ tokens))) same ∙ later.2,
    )
  where
    no_first : (here later : Bool) → cond here true later ≡ false → (here ≡ false) × (later ≡ false)
    no_first true later e = absurd (true≢false e)
    no_first false later e = (refl, e)

pub put_but : (front tokens all : List (List ℕ)) (policy : Fixed) → all ≡ front ++ codes "but" ∷ tokens → IsPolicy front policy → (has_but all ≡ true) × (before_but all ≡ front) × (behind_but all ≡ tokens)
put_but front tokens all policy e is = let first = first_but front tokens (no_but front policy is) in (ap has_but e ∙ first.0, ap before_but e ∙ first.1, ap behind_but e ∙ first.2)

-- names that tokens add to others
pub names_are : (tokens : List (List ℕ)) (old new : List Name) → NameEach tokens old new → new ≡ old ++ map named tokens
names_are [] old new are = are ∙ sym (append-nil old)
names_are (token ∷ tokens) old new (name, is, once, are) =
    names_are tokens (old ++ name ∷ []) new are ∙ append_assoc old (name ∷ []) (map named tokens) ∙ ap (λ n. old ++ n ∷ map named tokens) (sym (named_is token name is))

policy_is_by : (args : List (List ℕ)) (policy : Fixed) → IsPolicy args policy → policy_by args ≡ Command.Policy policy
policy_is_by args policy is = ap (λ b. cond b (Command.PolicyBut (policy_of (before_but args)) (record { items = map named (behind_but args) })) (Command.Policy (policy_of args))) (no_but args policy is)
    ∙ ap Command.Policy (policy_is args policy is)

policy_but_is : (args : List (List ℕ)) (kinds : Fixed) (but : ArrayVec Name) → IsPolicyBut args kinds but.items → policy_by args ≡ Command.PolicyBut kinds but
policy_but_is args kinds but (front, tokens, e, is, some, are) =
    let (has, front_is, tokens_are) = put_but front tokens args kinds e is in
    ap (λ b. cond b (Command.PolicyBut (policy_of (before_but args)) (record { items = map named (behind_but args) })) (Command.Policy (policy_of args))) has
    ∙ (λ i. Command.PolicyBut ((ap policy_of front_is ∙ policy_is front kinds is) i) (record { items = (ap (map named) tokens_are ∙ sym (names_are tokens [] but.items are.0)) i }))

datum_is : (what : Datum) → datum_of (datum_name what) ≡ what
datum_is Datum.Pid = refl
datum_is Datum.Bcr = refl
datum_is Datum.Dcr = refl
datum_is Datum.Status = refl
datum_is Datum.WriteLength = refl
datum_is Datum.ReadLength = refl
datum_is Datum.Speed = refl
datum_is Datum.Capabilities = refl

identity_is : (pid bcr dcr : List ℕ) (identity : Identity) → WritesIdentity pid bcr dcr identity → identity_of (pid ∷ bcr ∷ dcr ∷ []) ≡ identity
identity_is pid bcr dcr identity is = λ i. record { pid = sym is.0.1 i; bcr = record { 0 = sym is.1.1 i }; dcr = record { 0 = sym is.2.1 i } }

setup_is : (token pid bcr dcr : List ℕ) (tokens : List (List ℕ)) (name : Name) (setup : Setup) → tokens ≡ token ∷ pid ∷ bcr ∷ dcr ∷ willing_tokens setup.willing → WritesIdentity pid bcr dcr setup.identity → setup_of (rest_of tokens) ≡ setup
setup_is token pid bcr dcr tokens name setup e is =
    ap (λ ws. setup_of (rest_of ws)) e
    ∙ (λ i. record { identity = identity_is pid bcr dcr setup.identity is i; willing = willing_is setup.willing i })

kinds_is : (token : List ℕ) (kinds : Kinds) → WritesKinds token kinds → kinds_of token ≡ kinds
kinds_is token kinds is = λ i. record { 0 = sym is.1 i }

-- the tokens behind a first one that sets a maximum length
pub lengths_meant : (way : Direction) (rest : List (List ℕ)) → meant (length_token way ∷ rest) ≡ length_of way rest
lengths_meant Direction.Write rest = refl
lengths_meant Direction.Read rest = refl

frame_is : (tokens : List (List ℕ)) (frame : Frame) → IsFrameForm tokens frame → meant tokens ≡ Command.Frame frame
frame_is tokens Frame.Serve e = ap meant e
frame_is tokens (Frame.Enec to kinds) (rest, e, (token, more, e', kept, at)) =
    ap meant (e ∙ ap (λ ws. codes "enec" ∷ ws) e') ∙ (λ i. Command.Frame (Frame.Enec (address_is more to at i) (kinds_is token kinds kept i)))
frame_is tokens (Frame.Disec to kinds) (rest, e, (token, more, e', kept, at)) =
    ap meant (e ∙ ap (λ ws. codes "disec" ∷ ws) e') ∙ (λ i. Command.Frame (Frame.Disec (address_is more to at i) (kinds_is token kinds kept i)))
frame_is tokens Frame.Reset e = ap meant e
frame_is tokens Frame.SendList e = ap meant e
frame_is tokens (Frame.ReadFrom at) (token, e, is) = ap meant e ∙ ap (λ n. Command.Frame (Frame.ReadFrom n)) (sym is.0.1)
frame_is tokens (Frame.WriteTo at bytes) (token, rest, e, is, are) =
    ap meant e ∙ (λ i. Command.Frame (Frame.WriteTo (sym is.0.1 i) (record { items = written_is rest bytes.items are i })))
frame_is tokens (Frame.SetStatic at to) (rest, e, (one, other, e', first, second)) =
    ap meant (e ∙ ap (λ ws. codes "setdasa" ∷ ws) e') ∙ (λ i. Command.Frame (Frame.SetStatic (sym first.0.1 i) (sym second.0.1 i)))
frame_is tokens (Frame.SetNew at to) (rest, e, (one, other, e', first, second)) =
    ap meant (e ∙ ap (λ ws. codes "setnewda" ∷ ws) e') ∙ (λ i. Command.Frame (Frame.SetNew (sym first.0.1 i) (sym second.0.1 i)))
frame_is tokens (Frame.Get what at) (token, e, is) = ap meant e ∙ (λ i. Command.Frame (Frame.Get (datum_is what i) (sym is.0.1 i)))
frame_is tokens (Frame.SetLength way most to) (rest, e, (token, more, e', is, at)) =
    ap meant (e ∙ ap (λ ws. length_token way ∷ ws) e') ∙ lengths_meant way (token ∷ more) ∙ (λ i. Command.Frame (Frame.SetLength way (sym is.0.0.1 i) (address_is more to at i)))

-- a number doesn't begin with an `a`
is_number : (token : List ℕ) → IsDecimal token → eqb (letter_of token) 97 ≡ false
is_number [] is = absurd (omega (arith, is.0))
is_number (byte ∷ token) is = let digit : IsDecimalDigit byte = is.1 0 0 (omega arith) in ne_eqb byte 97 (λ a. omega (arith, digit.1, a))

-- tokens of a line that a controller sends mean no other one
pub sent_is : (tokens : List (List ℕ)) (sent : Sent) → IsSentForm tokens sent → meant tokens ≡ bare sent
sent_is tokens (Sent.Frame frame) form = frame_is tokens frame form
sent_is tokens (Sent.HandOver to) (token, e, is) = ap meant e ∙ ap Command.HandOver (sym is.0.1)
sent_is tokens Sent.Open e = ap meant e
sent_is tokens Sent.Round e = ap meant e
sent_is tokens Sent.End e = ap meant e
sent_is tokens Sent.Daa e = ap meant e

not_as : (b : Bool) (name : Name) (one sent : Sent) (plain : Command) → cond b (Command.As name one) plain ≡ bare sent → plain ≡ bare sent
not_as false name one sent plain e = e
not_as true name one (Sent.Frame frame) plain e = absurd cc
not_as true name one (Sent.HandOver to) plain e = absurd cc
not_as true name one Sent.Open plain e = absurd cc
not_as true name one Sent.Round plain e = absurd cc
not_as true name one Sent.End plain e = absurd cc
not_as true name one Sent.Daa plain e = absurd cc

sent_back : (sent : Sent) → sent_in (bare sent) ≡ sent
sent_back (Sent.Frame frame) = refl
sent_back (Sent.HandOver to) = refl
sent_back Sent.Open = refl
sent_back Sent.Round = refl
sent_back Sent.End = refl
sent_back Sent.Daa = refl

-- so the tokens behind `as NAME` mean it
sent_by : (tokens : List (List ℕ)) (sent : Sent) → IsSentForm tokens sent → sent_in (own tokens) ≡ sent
sent_by tokens sent form =
    let args : List (List ℕ) = rest_of tokens in
    let plain = not_as (are_same (first_of tokens) (codes "as")) (named (first_of args)) (sent_in (own (rest_of args))) sent (own tokens) (sent_is tokens sent form) in
    ap sent_in plain ∙ sent_back sent

-- tokens are no other command's than the one that they mean
pub meant_is : (tokens : List (List ℕ)) (command : Command) → IsForm tokens command → meant tokens ≡ command
meant_is tokens (Command.Legacy name address lvr) (token, at, byte, e, is, a, b) = ap meant e ∙ (λ i. Command.Legacy (named_is token name is i) (sym a.0.1 i) (record { 0 = sym b.1 i }))
meant_is tokens (Command.Declare address identity) (rest, e, (at, pid, bcr, dcr, e', a, is)) =
    ap meant (e ∙ ap (λ ws. codes "declare" ∷ ws) e') ∙ (λ i. Command.Declare (sym a.0.1 i) (identity_is pid bcr dcr identity is i))
meant_is tokens (Command.Main name setup) (rest, e, (token, pid, bcr, dcr, e', is, identity)) =
    ap meant e ∙ (λ i. Command.Main ((ap (λ ws. named (first_of ws)) e' ∙ named_is token name is) i) (setup_is token pid bcr dcr rest name setup e' identity i))
meant_is tokens (Command.Attach name setup) (rest, e, (token, pid, bcr, dcr, e', is, identity)) =
    ap meant e ∙ (λ i. Command.Attach ((ap (λ ws. named (first_of ws)) e' ∙ named_is token name is) i) (setup_is token pid bcr dcr rest name setup e' identity i))
meant_is tokens (Command.DropOff name) (token, e, is) = ap meant e ∙ ap Command.DropOff (named_is token name is)
meant_is tokens (Command.Raise name byte) (token, rest, e, is, are) = ap meant e ∙ (λ i. Command.Raise (named_is token name is i) (byte_is rest byte are i))
meant_is tokens (Command.AskJoin name) (token, e, is) = ap meant e ∙ ap Command.AskJoin (named_is token name is)
meant_is tokens (Command.AskRole name) (token, e, is) = ap meant e ∙ ap Command.AskRole (named_is token name is)
meant_is tokens (Command.Frame frame) form = sent_is tokens (Sent.Frame frame) form
meant_is tokens (Command.HandOver to) form = sent_is tokens (Sent.HandOver to) form
meant_is tokens Command.Open form = sent_is tokens Sent.Open form
meant_is tokens Command.Round form = sent_is tokens Sent.Round form
meant_is tokens Command.End form = sent_is tokens Sent.End form
meant_is tokens Command.Daa form = sent_is tokens Sent.Daa form
meant_is tokens (Command.As name sent) (token, rest, e, is, form) = ap meant e ∙ (λ i. Command.As (named_is token name is i) (sent_by rest sent form i))
meant_is tokens (Command.Policy policy) (rest, e, is) = ap meant e ∙ policy_is_by rest policy is
meant_is tokens (Command.PolicyBut kinds but) (rest, e, is) = ap meant e ∙ policy_but_is rest kinds but is
meant_is tokens (Command.Cut name bit) (token, digits, e, is, b) = ap meant e ∙ (λ i. Command.Cut (named_is token name is i) (sym b.1 i))
meant_is tokens Command.Show e = ap meant e
meant_is tokens Command.ShowAll e = ap meant e
meant_is tokens (Command.ShowFrom first) (rest, e, (token, e', is)) =
    ap meant (e ∙ ap (λ ws. codes "show" ∷ ws) e') ∙ ap (λ b. cond b Command.ShowAll (Command.ShowFrom (digits_value 10 token))) (is_number token is.0) ∙ ap Command.ShowFrom (sym is.1)
meant_is tokens (Command.Forget last) (rest, e, (token, e', is)) = ap meant (e ∙ ap (λ ws. codes "forget" ∷ ws) e') ∙ ap Command.Forget (sym is.1)
meant_is tokens Command.Symbols e = ap meant e
meant_is tokens (Command.Frames count) (rest, e, (token, e', is)) = ap meant (e ∙ ap (λ ws. codes "frames" ∷ ws) e') ∙ ap Command.Frames (sym is.0.1)

-- so they have its form, if they have any
pub as_meant : (tokens : List (List ℕ)) (command : Command) → IsForm tokens command → IsForm tokens (meant tokens)
as_meant tokens command form = subst (λ c. IsForm tokens c) (sym (meant_is tokens command form)) form

-- a token's form is one of two commands'
pub either : (b : Bool) (one other : Command) (tokens : List (List ℕ)) → IsForm tokens (cond b one other) → IsForm tokens one ⊎ IsForm tokens other
either true one other tokens form = inl form
either false one other tokens form = inr form
