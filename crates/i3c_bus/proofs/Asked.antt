-- GETPID and its like as frames: the answer is known before serving, and the bytes after it.
use Rattle.std.proofs.Common.{◌≡◌, ℕ, ◌+◌, ◌++◌, false, List, [], ◌∷◌, None, Some, Option, arith, ap, refl, subst, ◌∙◌}
use Rattle.i3c_base.specs.declared.answers.Answer.{Answer}
use Rattle.i3c_base.specs.declared.datum.Datum.{Datum}
use Rattle.i3c_base.specs.declared.requests.Served.{Served}
use Rattle.i3c_base.specs.Cutting.{CutList, Lost, lost_by}
use Rattle.i3c_base.specs.Frames.{Gets, get_bits, told_length}
use Rattle.i3c_base.specs.Serve.{Serves, emptied, given_for, header_bits}
use Rattle.i3c_base.specs.State.{Entry, State, entry_at, entry_in}
use Rattle.i3c_frame.specs.declared.symbols.Symbol.{Symbol}
use Rattle.i3c_step.specs.declared.replies.Refusal.{Refusal}
use Rattle.i3c_step.specs.Step.{cuts_active, first_refusal, frame_checks, is_no_target, target_checks}
use Rattle.i3c_step.proofs.Addresses.{settled_served}
use Rattle.i3c_step.proofs.Transfers.{gets_keep}
use Rattle.i3c_xfer.specs.Getting.{IsToldAs}
use Rattle.i3c_bus.specs.Beginning.{Begins, LeavesBy}
use Rattle.i3c_bus.specs.Wire.{IsGetPart, IsToldPart}
use Rattle.i3c_bus.proofs.Heard.{left_at_serves}
use Rattle.i3c_bus.proofs.Transfers.{Leaves}

-- a frame that isn't refused
pub get_free : (st : State) (cuts : CutList) (a : ℕ) → st.in_session ≡ false → cuts_active st cuts ≡ false → is_no_target st a ≡ false → first_refusal (frame_checks st cuts ++ target_checks st (Some a)) ≡ None
get_free st cuts a closed left there =
    ap (λ b. first_refusal ((b, Refusal.SessionOpen) ∷ (cuts_active st cuts, Refusal.ActiveStays) ∷ (is_no_target st a, Refusal.NoAnswer a) ∷ [])) closed
    ∙ (ap (λ b. first_refusal ((b, Refusal.ActiveStays) ∷ (is_no_target st a, Refusal.NoAnswer a) ∷ [])) left
    ∙ ap (λ b. first_refusal ((b, Refusal.NoAnswer a) ∷ [])) there)

-- records, active controller and session stay
pub gets_leave : (what : Datum) (a : ℕ) (answer : Answer) (lost : Lost) (mid done : State) → Gets what a answer lost mid done → Leaves mid done
gets_leave what a answer lost mid done h = gets_keep Leaves (λ st. (refl, (refl, refl))) what a answer lost mid done h

-- the table stays while the first request is served
pub same_entry : (old mid : State) (cuts : CutList) (served : Served) (word a : ℕ) → Begins old cuts served word mid → entry_at mid a ≡ entry_at old a
same_entry old mid cuts served word a begins =
    let settled = settled_served old (given_for served) (lost_by cuts (word + 0)) served mid (begins.serves 0) in ap (λ (given : List (Option Entry)). entry_in given a) settled.given

-- a datum that is told leaves the bus as it found it, except for the devices lost
found : (what : Datum) (a bit : ℕ) (answer : Answer) (cuts : CutList) (mid new : State) → LeavesBy cuts bit (Gets what a answer) mid new → new ≡ emptied (lost_by cuts bit) mid
found what a bit answer cuts mid new h =
    h.2 ∙ ap (emptied (lost_by cuts bit)) (gets_keep (λ st done. done ≡ st) (λ st. refl) what a answer (lost_by cuts bit) mid h.0 h.1)

-- what is told after serving is the frame's own part
pub get_before : (old mid new : State) (cuts : CutList) (what : Datum) (a : ℕ) (answer : Answer) (served : Served) (word begun : ℕ) (wire : List Symbol) → Begins old cuts served word mid → begun ≡ word + header_bits served
    → LeavesBy cuts (begun + get_bits what (entry_at old a) answer) (Gets what a answer) mid new → IsToldPart mid cuts what a answer begun wire → IsGetPart old cuts what a answer new begun wire
get_before old mid new cuts what a answer served word begun wire begins count leaves h =
    let last = begun + get_bits what (entry_at old a) answer in
    let rest = header_bits served + get_bits what (entry_at old a) answer in
    let whole : word + rest ≡ last = omega (arith, count) in
    let same = left_at_serves old (given_for served) (lost_by cuts (word + rest)) (lost_by cuts (begun + 18)) a served mid (begins.serves rest) in (
      mid,
      h.0,
      (served, subst (λ bit. Serves old (given_for served) (lost_by cuts bit) served mid) whole (begins.serves rest), found what a last answer cuts mid new leaves),
      h.1,
      (λ e. same.0 (h.2.0 e), λ l. h.2.1 (same.1 l)),
      subst (λ (entry : Option Entry). IsToldAs mid what (told_length what entry) a cuts (begun + 19) h.0) (same_entry old mid cuts served word a begins) h.3,
      h.4,
    )
