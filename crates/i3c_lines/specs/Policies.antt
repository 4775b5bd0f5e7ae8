-- The tokens of policies, and what each accepts.
use Rattle.std.specs.Prelude.{◌≡◌, ◌<◌, ◌⊎◌, ℕ, List, [], ◌∷◌, codes, length}
use Rattle.i3c_base.specs.declared.requests.Fixed.{Fixed}
use Rattle.i3c_base.specs.declared.requests.Verdict.{Verdict}
use Rattle.i3c_base.specs.declared.requests.Verdict.TheVariants.{Accept, Refuse}

-- one verdict for all kinds of requests
abbrev pub each_kind : Verdict → Fixed
each_kind verdict = record { join = verdict; role = verdict; interrupt = verdict }

-- a token that names a kind of request, which is turned down by one policy and accepted by the next
abbrev pub Accepts : List ℕ → Fixed → Fixed → Type 0
Accepts token old new = ((token ≡ codes "joins") × (old.join ≡ Refuse) × (new ≡ record old { join = Accept }))
    ⊎ ((token ≡ codes "roles") × (old.role ≡ Refuse) × (new ≡ record old { role = Accept }))
    ⊎ ((token ≡ codes "interrupts") × (old.interrupt ≡ Refuse) × (new ≡ record old { interrupt = Accept }))

-- each of these tokens names a kind that was turned down before it: so no kind is named twice
abbrev pub AcceptEach : List (List ℕ) → Fixed → Fixed → Type 0
AcceptEach [] old new = new ≡ old
AcceptEach (token ∷ tokens) old new = (next : Fixed) × Accepts token old next × AcceptEach tokens next new

-- a token that makes a policy alone, and that policy
abbrev pub IsAlone : List ℕ → Fixed → Type 0
IsAlone token policy = ((token ≡ codes "all") × (policy ≡ each_kind Accept)) ⊎ ((token ≡ codes "none") × (policy ≡ each_kind Refuse))

-- a policy that accepts some kind
abbrev pub AcceptsSome : Fixed → Type 0
AcceptsSome policy = (policy.join ≡ Accept) ⊎ (policy.role ≡ Accept) ⊎ (policy.interrupt ≡ Accept)

-- the tokens of a policy: `all` or `none`, or the kinds that it accepts, each once
abbrev pub IsPolicy : List (List ℕ) → Fixed → Type 0
IsPolicy tokens policy = ((token : List ℕ) × (tokens ≡ token ∷ []) × IsAlone token policy) ⊎ ((0 < length tokens) × AcceptEach tokens (each_kind Refuse) policy)
