-- Policies: a verdict for each kind of request.
use Rattle.std.specs.Prelude.{◌≡◌, ◌⊎◌, Bool, true, false, List, Option, is_some}
use Rattle.i3c_base.specs.declared.requests.Fixed.{Fixed}
use Rattle.i3c_base.specs.declared.requests.Request.{Request}
use Rattle.i3c_base.specs.declared.requests.Request.TheVariants.{Join, Role, Interrupt}
use Rattle.i3c_base.specs.declared.requests.Verdict.{Verdict}
use Rattle.i3c_base.specs.State.{Entry, State, entry_in}
use Rattle.i3c_base.specs.Serve.{IsFirst, NoneAsks}

-- the verdict that a fixed policy has for a request
abbrev pub verdict_in : Fixed → Request → Verdict
verdict_in policy Join = policy.join
verdict_in policy (Role a) = policy.role
verdict_in policy (Interrupt a) = policy.interrupt

-- the request's address has an entry in the table; a join has no address
abbrev pub is_known : List (Option Entry) → Request → Bool
is_known given Join = true
is_known given (Role a) = is_some (entry_in given a)
is_known given (Interrupt a) = is_some (entry_in given a)

-- A frame asks its policy once, for the first request, unless nobody asks or its address has no entry.
-- `gives old r v new` is what the policy may do on a request, and `fixed` has the verdict that it gave.
abbrev pub Decides : {P : Type 0} → (P → Request → Verdict → P → Type 0) → P → P → State → Fixed → Type 0
Decides gives old new st fixed =
    (NoneAsks st × (new ≡ old))
    ⊎ ((r : Request) × IsFirst st r × (is_known st.given r ≡ true) × gives old r (verdict_in fixed r) new)
    ⊎ ((r : Request) × IsFirst st r × (is_known st.given r ≡ false) × (new ≡ old))
