-- A token that no refusal prints.
use Rattle.std.proofs.Common.{◌≡◌, ◌∙◌, ℕ, zero, suc, ◌<◌, List, [], ◌∷◌, Option, Some, ap, arith, get_or, length, refl, subst, sym}
use Rattle.std.specs.List.{slice_get}
use Rattle.i3c_legacy.specs.declared.faults.DeclareFault.{DeclareFault}
use Rattle.i3c_legacy.specs.declared.faults.LegacyFault.{LegacyFault}
use Rattle.i3c_step.specs.declared.replies.Refusal.{Refusal as BusRefusal}
use Rattle.i3c_lines.specs.declared.refusals.Refusal.{Refusal}
use Rattle.i3c_lines.specs.Refusing.{refusal_token}
use Rattle.i3c_facts.specs.Forms.{IsReason}
use Rattle.i3c_facts.specs.Reading.{plain_reasons}

abbrev first_of : List (List ℕ) → List ℕ
first_of [] = []
first_of (token ∷ tokens) = token

-- it isn't printed for this refusal, if there is one
abbrev pub IsNot : List ℕ → Option Refusal → Type 0
IsNot token reason = (why : Refusal) → reason ≡ Some why → token ≡ refusal_token why → ⊥

-- it is none of those in the list below an index
abbrev pub IsNoneBelow : ℕ → List ℕ → Type 0
IsNoneBelow index token = (k : ℕ) → k < index → IsNot token (slice_get plain_reasons k)

-- an element by its index
at_get : (reasons : List Refusal) (k : ℕ) (why : Refusal) → k < length reasons → why ≡ get_or reasons k why → slice_get reasons k ≡ Some why
at_get [] k why within e = absurd (omega (arith, within))
at_get (first ∷ reasons) zero why within e = ap Some (sym e)
at_get (first ∷ reasons) (suc k) why within e = at_get reasons k why (omega (arith, within)) e

-- nor is it this one
pub none_here : (token : List ℕ) (reasons : List Refusal) (k : ℕ) (here : Refusal) → reasons ≡ plain_reasons → k < length reasons → here ≡ get_or reasons k here → (token ≡ refusal_token here → ⊥) → IsNot token (slice_get plain_reasons k)
none_here token reasons k here same within is unlike why at e =
    let found : slice_get plain_reasons k ≡ Some here = ap (λ rs. slice_get rs k) (sym same) ∙ at_get reasons k here within is in
    let one : here ≡ why = cc in
    unlike (e ∙ ap refusal_token (sym one))

-- a refusal's own token, alone, is a reason for it
abbrev IsOwn : Refusal → Type 0
IsOwn why = IsReason (refusal_token why ∷ []) why

abbrev AllOwn : List Refusal → Type 0
AllOwn [] = Unit {0}
AllOwn (first ∷ reasons) = IsOwn first × AllOwn reasons

own_at : (reasons : List Refusal) (k : ℕ) (why : Refusal) → AllOwn reasons → slice_get reasons k ≡ Some why → IsOwn why
own_at [] k why all e = absurd cc
own_at (first ∷ reasons) zero why (own, all) e = let one : first ≡ why = cc in subst IsOwn one own
own_at (first ∷ reasons) (suc k) why (own, all) e = own_at reasons k why all e

all_own : AllOwn plain_reasons
all_own = (refl, (refl, (refl, (refl, (refl, (refl, (refl, (refl, (refl, (refl, (refl, (refl, (refl, (refl, (refl, (refl, (refl, (refl, (refl, (refl, (refl, (refl, (refl, (refl, (refl, (refl, tt))))))))))))))))))))))))))

-- the token of one of those in the list is a reason for it
pub one_reason : (token : List ℕ) (reasons : List Refusal) (k : ℕ) (here : Refusal) → reasons ≡ plain_reasons → k < length reasons → here ≡ get_or reasons k here → token ≡ refusal_token here → IsReason (token ∷ []) here
one_reason token reasons k here same within is like =
    let found : slice_get plain_reasons k ≡ Some here = ap (λ rs. slice_get rs k) (sym same) ∙ at_get reasons k here within is in
    subst (λ t. IsReason (t ∷ []) here) (sym like) (own_at plain_reasons k here all_own found)

pub no_reason : (token : List ℕ) → IsNoneBelow 26 token → (why : Refusal) → IsReason (token ∷ []) why → ⊥
no_reason token none Refusal.BadLine e = none 0 (omega arith) Refusal.BadLine refl (ap first_of e)
no_reason token none Refusal.NoBus e = none 1 (omega arith) Refusal.NoBus refl (ap first_of e)
no_reason token none Refusal.BusMade e = none 2 (omega arith) Refusal.BusMade refl (ap first_of e)
no_reason token none Refusal.NameTaken e = none 3 (omega arith) Refusal.NameTaken refl (ap first_of e)
no_reason token none Refusal.NoName e = none 4 (omega arith) Refusal.NoName refl (ap first_of e)
no_reason token none Refusal.NoEnd e = none 5 (omega arith) Refusal.NoEnd refl (ap first_of e)
no_reason token none Refusal.NotActive e = none 25 (omega arith) Refusal.NotActive refl (ap first_of e)
no_reason token none (Refusal.Legacy LegacyFault.LegacyAddress) e = none 6 (omega arith) (Refusal.Legacy LegacyFault.LegacyAddress) refl (ap first_of e)
no_reason token none (Refusal.Legacy LegacyFault.LegacyTwice) e = none 7 (omega arith) (Refusal.Legacy LegacyFault.LegacyTwice) refl (ap first_of e)
no_reason token none (Refusal.Legacy LegacyFault.TooManyLegacy) e = none 8 (omega arith) (Refusal.Legacy LegacyFault.TooManyLegacy) refl (ap first_of e)
no_reason token none (Refusal.Declare DeclareFault.IdentityTwice) e = none 9 (omega arith) (Refusal.Declare DeclareFault.IdentityTwice) refl (ap first_of e)
no_reason token none (Refusal.Declare DeclareFault.TooManyDeclared) e = none 10 (omega arith) (Refusal.Declare DeclareFault.TooManyDeclared) refl (ap first_of e)
no_reason token none (Refusal.Bus BusRefusal.SessionOpen) e = none 11 (omega arith) (Refusal.Bus BusRefusal.SessionOpen) refl (ap first_of e)
no_reason token none (Refusal.Bus BusRefusal.NoSession) e = none 12 (omega arith) (Refusal.Bus BusRefusal.NoSession) refl (ap first_of e)
no_reason token none (Refusal.Bus BusRefusal.ActiveStays) e = none 13 (omega arith) (Refusal.Bus BusRefusal.ActiveStays) refl (ap first_of e)
no_reason token none (Refusal.Bus BusRefusal.SlotTaken) e = none 14 (omega arith) (Refusal.Bus BusRefusal.SlotTaken) refl (ap first_of e)
no_reason token none (Refusal.Bus BusRefusal.NoDevice) e = none 15 (omega arith) (Refusal.Bus BusRefusal.NoDevice) refl (ap first_of e)
no_reason token none (Refusal.Bus BusRefusal.IsActive) e = none 16 (omega arith) (Refusal.Bus BusRefusal.IsActive) refl (ap first_of e)
no_reason token none (Refusal.Bus BusRefusal.NoAddress) e = none 17 (omega arith) (Refusal.Bus BusRefusal.NoAddress) refl (ap first_of e)
no_reason token none (Refusal.Bus BusRefusal.HasAddress) e = none 18 (omega arith) (Refusal.Bus BusRefusal.HasAddress) refl (ap first_of e)
no_reason token none (Refusal.Bus BusRefusal.NotCapable) e = none 19 (omega arith) (Refusal.Bus BusRefusal.NotCapable) refl (ap first_of e)
no_reason token none (Refusal.Bus BusRefusal.ByteMismatch) e = none 20 (omega arith) (Refusal.Bus BusRefusal.ByteMismatch) refl (ap first_of e)
no_reason token none (Refusal.Bus BusRefusal.Masked) e = none 21 (omega arith) (Refusal.Bus BusRefusal.Masked) refl (ap first_of e)
no_reason token none (Refusal.Bus BusRefusal.Full) e = none 22 (omega arith) (Refusal.Bus BusRefusal.Full) refl (ap first_of e)
no_reason token none (Refusal.Bus BusRefusal.ListStale) e = none 23 (omega arith) (Refusal.Bus BusRefusal.ListStale) refl (ap first_of e)
no_reason token none (Refusal.Bus BusRefusal.TooLong) e = none 24 (omega arith) (Refusal.Bus BusRefusal.TooLong) refl (ap first_of e)
no_reason token none (Refusal.Bus (BusRefusal.NoAnswer address)) (w, e, is) = absurd (omega (arith, ap length e))
no_reason token none (Refusal.Bus (BusRefusal.BadAddress address)) (w, e, is) = absurd (omega (arith, ap length e))
no_reason token none (Refusal.Declare DeclareFault.LegacyAddress) is = is
no_reason token none (Refusal.Declare DeclareFault.LegacyTwice) is = is
