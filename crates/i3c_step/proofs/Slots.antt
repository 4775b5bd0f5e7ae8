-- What frames leave as it was: the active controller's slot, and whether a session is open.
use Rattle.std.proofs.Common.{◌≡◌, ℕ, Option, Some, None, inl, inr, ap, ◌∙◌}
use Rattle.i3c_base.specs.declared.answers.Answer.{Answer}
use Rattle.i3c_base.specs.declared.requests.Fixed.{Fixed}
use Rattle.i3c_base.specs.declared.requests.Served.{Served}
use Rattle.i3c_base.specs.declared.requests.Served.TheVariants.{Quiet, Recorded, Refused, Torn, Joining, WantsRole}
use Rattle.i3c_base.specs.Cutting.{Lost}
use Rattle.i3c_base.specs.Frames.{Rekinds}
use Rattle.i3c_base.specs.Numbers.{KindSet}
use Rattle.i3c_base.specs.Serve.{Serves}
use Rattle.i3c_base.specs.State.{State}

-- the one state has the other's active controller and session
abbrev pub Stands : State → State → Type 0
Stands old new = (new.active ≡ old.active) × (new.in_session ≡ old.in_session)

-- the same holds of an equal state
pub Stands-same : (old new same : State) → new ≡ same → Stands old same → Stands old new
Stands-same old new same e h = (ap (λ (st : State). st.active) e ∙ h.0, ap (λ (st : State). st.in_session) e ∙ h.1)

pub Stands-then : (old mid new : State) → Stands old mid → Stands mid new → Stands old new
Stands-then old mid new h k = (k.0 ∙ h.0, k.1 ∙ h.1)

pub Stands-serves : (st : State) (policy : Fixed) (lost : Lost) (served : Served) (new : State) → Serves st policy lost served new → Stands st new
Stands-serves st policy lost Quiet new h = (ap (λ (s : State). s.active) h.1, ap (λ (s : State). s.in_session) h.1)
Stands-serves st policy lost Refused new h = (ap (λ (s : State). s.active) h.1, ap (λ (s : State). s.in_session) h.1)
Stands-serves st policy lost Joining new h = (ap (λ (s : State). s.active) h.2, ap (λ (s : State). s.in_session) h.2)
Stands-serves st policy lost (WantsRole a) new h = (ap (λ (s : State). s.active) h.2, ap (λ (s : State). s.in_session) h.2)
Stands-serves st policy lost (Recorded place) new h = (ap (λ (s : State). s.active) h.left, ap (λ (s : State). s.in_session) h.left)
Stands-serves st policy lost Torn new h = (ap (λ (s : State). s.active) h.left, ap (λ (s : State). s.in_session) h.left)

pub Stands-rekinds : (to : Option ℕ) (f : KindSet → KindSet) (answer : Answer) (lost : Lost) (mid done : State) → Rekinds to f answer lost mid done → Stands mid done
Stands-rekinds None f answer lost mid done h = (ap (λ (s : State). s.active) h.1, ap (λ (s : State). s.in_session) h.1)
Stands-rekinds (Some a) f answer lost mid done h = elim h [
  | inl k ↦ (ap (λ (s : State). s.active) k.2, ap (λ (s : State). s.in_session) k.2)
  | inr k ↦ (ap (λ (s : State). s.active) k.2, ap (λ (s : State). s.in_session) k.2)
]

-- enabling and disabling leave the records
pub records_rekinds : (to : Option ℕ) (f : KindSet → KindSet) (answer : Answer) (lost : Lost) (mid done : State) → Rekinds to f answer lost mid done → done.records ≡ mid.records
records_rekinds None f answer lost mid done h = ap (λ (st : State). st.records) h.1
records_rekinds (Some a) f answer lost mid done h = elim h [
  | inl k ↦ ap (λ (st : State). st.records) k.2
  | inr k ↦ ap (λ (st : State). st.records) k.2
]
