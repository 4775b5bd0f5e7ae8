-- The cases of a step.
use Rattle.std.proofs.lemmas.Bool.{both_ways}
use Rattle.std.proofs.lemmas.Option.{none-some}
use Rattle.std.proofs.Common.{◌≡◌, Bool, false, [], ◌∷◌, Option, Some, None, is_some, MatchOption, ◌⊎◌, inl, inr, sym, refl, ℕ, zero, suc, true}
use Rattle.i3c_step.specs.declared.events.Event.{Event}
use Rattle.i3c_step.specs.declared.replies.Reply.{Reply}
use Rattle.i3c_step.specs.declared.replies.Refusal.{Refusal}
use Rattle.i3c_base.specs.State.{State}
use Rattle.i3c_base.specs.Cutting.{CutList, cut_of, is_by, lost_by}
use Rattle.i3c_step.specs.Step.{Acts, Checks, IsShort, Step, checks, cuts_active, first_refusal}

-- the reply of an event that changed nothing: refused, or short of memory
pub data IsIdle (reply : Reply) : Type 0 where
  refused : (why : Refusal) → reply ≡ Reply.Refused why → IsIdle reply
  short : reply ≡ Reply.OutOfMemory → IsIdle reply

-- a step changes nothing, or is no refusal and acts
pub step_cases : {P : Type 0} (old : State) (event : Event) (reply : Reply) (new : State) → Step old event reply new
    → (IsIdle reply → new ≡ old → P) → (first_refusal (checks old event) ≡ None → Acts old event reply new → P) → P
step_cases {P} old event reply new h same acts = go (first_refusal (checks old event)) refl h
  where
    go : (o : Option Refusal) → first_refusal (checks old event) ≡ o
        → MatchOption o (IsShort old event reply new ⊎ Acts old event reply new) (λ why. (reply ≡ Reply.Refused why) × (new ≡ old)) → P
    go None e k = elim k [ inl m ↦ same (short m.1) m.2 | inr a ↦ acts e a ]
    go (Some why) e k = same (refused why k.0) k.1

-- where there is no refusal, the first test fails, and there is none among the rest
pub refusal-none : (t : Bool) (why : Refusal) (rest : Checks) → first_refusal ((t, why) ∷ rest) ≡ None → (t ≡ false) × (first_refusal rest ≡ None)
refusal-none true why rest h = absurd (none-some why (sym h))
refusal-none false why rest h = (refl, h)

-- where the active controller isn't cut, no frame loses it
pub not_cut : (st : State) (cuts : CutList) (last : ℕ) → cuts_active st cuts ≡ false → lost_by cuts last st.active ≡ false
not_cut st cuts last h = go (cut_of cuts st.active) h
  where
    go : (o : Option ℕ) → is_some o ≡ false → is_by last o ≡ false
    go None e = refl
    go (Some bit) e = absurd (both_ways _ e refl)

-- a frame that isn't refused doesn't lose it
pub active_left : (st : State) (cuts : CutList) (t : Bool) (first second : Refusal) (rest : Checks) (last : ℕ)
    → first_refusal ((t, first) ∷ (cuts_active st cuts, second) ∷ rest) ≡ None → lost_by cuts last st.active ≡ false
active_left st cuts t first second rest last h = not_cut st cuts last (refusal-none (cuts_active st cuts) second rest (refusal-none t first ((cuts_active st cuts, second) ∷ rest) h).1).0

-- the nth test
abbrev pub test_at : ℕ → Checks → Bool
test_at n [] = false
test_at zero (check ∷ rest) = check.0
test_at (suc n) (check ∷ rest) = test_at n rest

-- where there is no refusal, each test fails
pub no_test : (n : ℕ) (cs : Checks) → first_refusal cs ≡ None → test_at n cs ≡ false
no_test n [] h = refl
no_test zero (check ∷ rest) h = (refusal-none check.0 check.1 rest h).0
no_test (suc n) (check ∷ rest) h = no_test n rest (refusal-none check.0 check.1 rest h).1
