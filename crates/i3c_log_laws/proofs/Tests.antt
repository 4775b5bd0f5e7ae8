-- No refusal depends on the log.
use Rattle.std.proofs.Common.{◌≡◌, ℕ, Bool, ◌||◌, not, List, [], ◌∷◌, ◌++◌, Option, Some, None, is_none, ap, refl}
use Rattle.i3c_base.specs.declared.identity.Identity.{Identity}
use Rattle.i3c_base.specs.declared.requests.Record.{Record}
use Rattle.i3c_base.specs.Cutting.{CutList}
use Rattle.i3c_base.specs.State.{State, declared_at}
use Rattle.i3c_step.specs.declared.events.Event.{Event}
use Rattle.i3c_step.specs.declared.events.Event.TheVariants.{Attach, DropOff, Raise, AskJoin, AskRole, Serve, Enec, Disec, Reset, SendList, ReadFrom, WriteTo, SetStatic, SetNew, Get, SetLength, OpenDaa, Round, EndDaa, HandOver}
use Rattle.i3c_step.specs.declared.replies.Refusal.{Refusal}
use Rattle.i3c_step.specs.Step.{Checks, checks, frame_checks, is_kept_for, is_pickable, static_checks, target_checks}
use Rattle.i3c_log_laws.specs.Behind.{behind}

-- the refusals of a command to one address
target_behind : (gone : List Record) (st : State) (to : Option ℕ) → target_checks (behind gone st) to ≡ target_checks st to
target_behind gone st None = refl
target_behind gone st (Some a) = refl

-- the tests of SETDASA
kept_behind : (gone : List Record) (st : State) (who : Option Identity) (a : ℕ) → is_kept_for (behind gone st) who a ≡ is_kept_for st who a
kept_behind gone st None a = refl
kept_behind gone st (Some i) a = refl

static_checks_behind : (gone : List Record) (st : State) (f new : ℕ) → static_checks (behind gone st) f new ≡ static_checks st f new
static_checks_behind gone st f new =
    ap (λ (kept : Bool). (is_none (declared_at st f), Refusal.NoAnswer f) ∷ (not (is_pickable st new || kept), Refusal.BadAddress new) ∷ [])
    (kept_behind gone st (declared_at st f) new)

-- after those of each frame
more_behind : (st : State) (cuts : CutList) (more other : Checks) → more ≡ other → frame_checks st cuts ++ more ≡ frame_checks st cuts ++ other
more_behind st cuts more other same = ap (λ (cs : Checks). frame_checks st cuts ++ cs) same

-- the tests of each event
pub checks_behind : (gone : List Record) (st : State) (event : Event) → checks (behind gone st) event ≡ checks st event
checks_behind gone st (Serve policy cuts) = refl
checks_behind gone st (Enec to kinds policy cuts) = more_behind st cuts (target_checks (behind gone st) to) (target_checks st to) (target_behind gone st to)
checks_behind gone st (Disec to kinds policy cuts) = more_behind st cuts (target_checks (behind gone st) to) (target_checks st to) (target_behind gone st to)
checks_behind gone st (Reset policy cuts) = refl
checks_behind gone st (SendList policy cuts) = refl
checks_behind gone st (ReadFrom a policy cuts) = refl
checks_behind gone st (WriteTo a bytes policy cuts) = refl
checks_behind gone st (SetStatic f new policy cuts) = more_behind st cuts (static_checks (behind gone st) f new) (static_checks st f new) (static_checks_behind gone st f new)
checks_behind gone st (SetNew a new policy cuts) = refl
checks_behind gone st (Get what a policy cuts) = refl
checks_behind gone st (SetLength way most to policy cuts) = more_behind st cuts (target_checks (behind gone st) to) (target_checks st to) (target_behind gone st to)
checks_behind gone st (OpenDaa cuts) = refl
checks_behind gone st (HandOver to cuts) = refl
checks_behind gone st (Round cuts) = refl
checks_behind gone st (Attach s setup) = refl
checks_behind gone st (DropOff s) = refl
checks_behind gone st (Raise s byte) = refl
checks_behind gone st (AskJoin s) = refl
checks_behind gone st (AskRole s) = refl
checks_behind gone st EndDaa = refl
