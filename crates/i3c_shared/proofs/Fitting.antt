-- What was received from a ring stays the raises of its port.
use Rattle.std.proofs.Common.{◌≡◌, ℕ, zero, suc, ◌<◌, ◌≤◌, ◌==◌, Bool, true, false, List, [], ◌∷◌, ◌++◌, length, refl, sym, ap, ◌∙◌, subst, append_assoc, append-nil, arith, ◌&&◌, if◌then◌else◌, get_or-set_same, get_or-set_other}
use Rattle.std.specs.Prelude.{Option, Some, None, slice_set}
use Rattle.std.proofs.lemmas.Bool.Decides.{nat_tests}
use Rattle.std.proofs.lemmas.Option.{none-some}
use Rattle.rtrb.specs.Ring.{received, known_items, consumer_capacity}
use Rattle.i3c_base.specs.declared.device.Setup.{Setup}
use Rattle.i3c_step.specs.declared.events.Event.{Event}
use Rattle.i3c_step.specs.declared.events.Event.TheVariants.{Attach, DropOff, Raise, AskJoin, AskRole, Serve, Enec, Disec, Reset, SendList, ReadFrom, WriteTo, SetStatic, SetNew, Get, SetLength, HandOver, OpenDaa, Round, EndDaa}
use Rattle.i3c_step.specs.declared.replies.Reply.{Reply}
use Rattle.i3c_step.specs.Stays.{is_attached}
use Rattle.i3c_recorder.specs.declared.entry.Entry.{Entry}
use Rattle.i3c_shared.specs.declared.port.TheConstants.{POSTS}
use Rattle.i3c_recorder.specs.KeptRuns.{events_of}
use Rattle.i3c_shared.specs.Raises.{next_raises, raised_at, raises_from, raises_of}
use Rattle.i3c_shared.specs.Rings.{AllDrained, Fits, HasDrained, known_of, put_out, raises_at, raises_below, raises_in, ring_at, taken_in}
use Rattle.i3c_shared.specs.Taking.{IsOther}
use Rattle.i3c_shared.specs.Values.{Reading, Rings}

pub raises_append : (s : ℕ) (bs : List (Option ℕ)) (es fs : List Entry) → raises_from s bs (es ++ fs) ≡ raises_from s (raises_from s bs es) fs
raises_append s bs [] fs = refl
raises_append s bs (e ∷ es) fs = raises_append s (next_raises s bs e) es fs

-- the bytes that a list of raises adds at a slot
abbrev pub bytes_for : ℕ → List Event → List (Option ℕ)
bytes_for s [] = []
bytes_for s (e ∷ es) = raised_at s e ++ bytes_for s es

abbrev IsRaise : Event → Type 0
IsRaise e = (t : ℕ) × (b : Option ℕ) × (e ≡ Raise t b)

abbrev pub AllRaises : List Event → Type 0
AllRaises [] = Unit {0}
AllRaises (e ∷ es) = IsRaise e × AllRaises es

pub all_raises_append : (es fs : List Event) → AllRaises es → AllRaises fs → AllRaises (es ++ fs)
all_raises_append [] fs p q = q
all_raises_append (e ∷ es) fs p q = (p.0, all_raises_append es fs p.1 q)

pub all_raises_at : (t : ℕ) (bs : List (Option ℕ)) → AllRaises (raises_at t bs)
all_raises_at t [] = tt
all_raises_at t (b ∷ bs) = ((t, b, refl), all_raises_at t bs)

pub all_raises_below : (n : ℕ) (cs : Rings) → AllRaises (raises_below n cs)
all_raises_below zero cs = tt
all_raises_below (suc n) cs = all_raises_append (raises_below n cs) _ (all_raises_below n cs) (all_raises_at n (known_of (ring_at cs n)))

and_false : (b : Bool) → (b && false) ≡ false
and_false true = refl
and_false false = refl

-- a raise adds its byte at its slot, whatever its reply
raise_adds : (s t : ℕ) (b : Option ℕ) (bs : List (Option ℕ)) (r : Reply) → next_raises s bs (record { event = Raise t b; reply = r }) ≡ bs ++ raised_at s (Raise t b)
raise_adds s t b bs r = rw (and_false (is_attached r)) refl

-- a run of raises adds its bytes
pub raises_add : (s : ℕ) (bs : List (Option ℕ)) (added : List Entry) (es : List Event) → events_of added ≡ es → AllRaises es → raises_from s bs added ≡ bs ++ bytes_for s es
raises_add s bs [] es same all = subst (λ q. bs ≡ bs ++ bytes_for s q) same (sym (append-nil bs))
raises_add s bs (a ∷ added) [] same all = cc
raises_add s bs (a ∷ added) (e ∷ es) same all =
    let is : a.event ≡ Raise all.0.0 all.0.1 = cc (all.0.2) in
    let rest : events_of added ≡ es = cc in
    let here : raised_at s (Raise all.0.0 all.0.1) ≡ raised_at s e = ap (raised_at s) (sym all.0.2) in
    let first : next_raises s bs a ≡ bs ++ raised_at s e = ap (λ (v : Event). next_raises s bs (record { event = v; reply = a.reply })) is ∙ raise_adds s all.0.0 all.0.1 bs a.reply ∙ ap (λ x. bs ++ x) here in
    raises_add s (next_raises s bs a) added es rest all.1 ∙ ap (λ x. x ++ bytes_for s es) first ∙ append_assoc bs (raised_at s e) (bytes_for s es)

pub bytes_append : (s : ℕ) (es fs : List Event) → bytes_for s (es ++ fs) ≡ bytes_for s es ++ bytes_for s fs
bytes_append s [] fs = refl
bytes_append s (e ∷ es) fs = ap (λ q. raised_at s e ++ q) (bytes_append s es fs) ∙ sym (append_assoc (raised_at s e) (bytes_for s es) (bytes_for s fs))

pub bytes_same : (s t : ℕ) (bs : List (Option ℕ)) → (t == s) ≡ true → bytes_for s (raises_at t bs) ≡ bs
bytes_same s t [] is = refl
bytes_same s t (b ∷ bs) is = rw is (ap (λ q. b ∷ q) (bytes_same s t bs is))

pub bytes_other : (s t : ℕ) (bs : List (Option ℕ)) → (t == s) ≡ false → bytes_for s (raises_at t bs) ≡ []
bytes_other s t [] is = refl
bytes_other s t (b ∷ bs) is = rw is (bytes_other s t bs is)

pub bytes_above : (s n : ℕ) (cs : Rings) → n ≤ s → bytes_for s (raises_below n cs) ≡ []
bytes_above s zero cs h = refl
bytes_above s (suc n) cs h =
    bytes_append s (raises_below n cs) _ ∙ ap (λ q. q ++ bytes_for s (raises_at n (known_of (ring_at cs n)))) (bytes_above s n cs (omega arith)) ∙ bytes_other s n _ (grind (arith, nat_tests))

below_step : (s n : ℕ) (cs : Rings) (t : Bool) → (n == s) ≡ t → (s < n → bytes_for s (raises_below n cs) ≡ known_of (ring_at cs s)) → s < suc n
    → bytes_for s (raises_below n cs) ++ bytes_for s (raises_at n (known_of (ring_at cs n))) ≡ known_of (ring_at cs s)
below_step s n cs true is rec h =
    let same : s ≡ n = grind (arith, nat_tests) in
    ap (λ q. q ++ bytes_for s (raises_at n (known_of (ring_at cs n)))) (bytes_above s n cs (omega arith)) ∙ bytes_same s n _ is ∙ ap (λ m. known_of (ring_at cs m)) (sym same)
below_step s n cs false is rec h =
    let less : s < n = grind (arith, nat_tests) in
    ap (λ q. q ++ bytes_for s (raises_at n (known_of (ring_at cs n)))) (rec less) ∙ ap (λ q. known_of (ring_at cs s) ++ q) (bytes_other s n _ is) ∙ append-nil _

pub bytes_below : (s n : ℕ) (cs : Rings) → s < n → bytes_for s (raises_below n cs) ≡ known_of (ring_at cs s)
bytes_below s zero cs h = absurd (omega arith)
bytes_below s (suc n) cs h = bytes_append s (raises_below n cs) _ ∙ below_step s n cs (n == s) refl (bytes_below s n cs) h

drained_some : (o : Option Reading) (d : Reading) → HasDrained o (Some d) → (c : Reading) × (o ≡ Some c) × HasDrained (Some c) (Some d)
drained_some None d h = cc
drained_some (Some c) d h = (c, refl, h)

within : (cs : Rings) (s : ℕ) (c : Reading) → ring_at cs s ≡ Some c → s < length cs
within [] s c is = cc
within (o ∷ cs) zero c is = omega arith
within (o ∷ cs) (suc s) c is = let p = within cs s c is in omega arith

pub fits_drained : (looked drained : Rings) (old mid added : List Entry) → Fits looked old → AllDrained looked drained → mid ≡ old ++ added → events_of added ≡ raises_in looked → Fits drained mid
fits_drained looked drained old mid added fits drain run same s d is =
    let p = drained_some (ring_at looked s) d (subst (λ q. HasDrained (ring_at looked s) q) is (drain.1 s)) in
    let f = fits s p.0 p.1 in
    let all : raises_of s mid ≡ raises_of s old ++ bytes_for s (raises_in looked) = ap (raises_of s) run ∙ raises_append s [] old added ∙ raises_add s (raises_of s old) added _ same (all_raises_below (length looked) looked) in
    let own : bytes_for s (raises_in looked) ≡ known_items p.0 = bytes_below s (length looked) looked (within looked s p.0 p.1) ∙ ap known_of p.1 in (
      p.2.1 ∙ ap (λ b. b ++ known_items p.0) f.0 ∙ ap (λ b. raises_of s old ++ b) (sym own) ∙ sym all,
      p.2.0.1 ∙ f.1,
    )

-- no event but a raise and an accepted attachment changes a port's raises
event_keeps : (s : ℕ) (bs : List (Option ℕ)) (e : Event) (r : Reply) → IsOther e → next_raises s bs (record { event = e; reply = r }) ≡ bs
event_keeps s bs (Raise t b) r n = absurd n
event_keeps s bs (Attach t setup) r n = absurd n
event_keeps s bs (DropOff t) r n = rw (and_false (is_attached r), append-nil bs) refl
event_keeps s bs (AskJoin t) r n = rw (and_false (is_attached r), append-nil bs) refl
event_keeps s bs (AskRole t) r n = rw (and_false (is_attached r), append-nil bs) refl
event_keeps s bs (Serve policy cuts) r n = rw (and_false (is_attached r), append-nil bs) refl
event_keeps s bs (Enec to kinds policy cuts) r n = rw (and_false (is_attached r), append-nil bs) refl
event_keeps s bs (Disec to kinds policy cuts) r n = rw (and_false (is_attached r), append-nil bs) refl
event_keeps s bs (Reset policy cuts) r n = rw (and_false (is_attached r), append-nil bs) refl
event_keeps s bs (SendList policy cuts) r n = rw (and_false (is_attached r), append-nil bs) refl
event_keeps s bs (ReadFrom a policy cuts) r n = rw (and_false (is_attached r), append-nil bs) refl
event_keeps s bs (WriteTo a bytes policy cuts) r n = rw (and_false (is_attached r), append-nil bs) refl
event_keeps s bs (SetStatic f to policy cuts) r n = rw (and_false (is_attached r), append-nil bs) refl
event_keeps s bs (SetNew a to policy cuts) r n = rw (and_false (is_attached r), append-nil bs) refl
event_keeps s bs (Get what a policy cuts) r n = rw (and_false (is_attached r), append-nil bs) refl
event_keeps s bs (SetLength way most to policy cuts) r n = rw (and_false (is_attached r), append-nil bs) refl
event_keeps s bs (HandOver to cuts) r n = rw (and_false (is_attached r), append-nil bs) refl
event_keeps s bs (OpenDaa cuts) r n = rw (and_false (is_attached r), append-nil bs) refl
event_keeps s bs (Round cuts) r n = rw (and_false (is_attached r), append-nil bs) refl
event_keeps s bs EndDaa r n = rw (and_false (is_attached r), append-nil bs) refl

pub raises_kept : (s : ℕ) (mid : List Entry) (e : Event) (r : Reply) → IsOther e → raises_of s (mid ++ record { event = e; reply = r } ∷ []) ≡ raises_of s mid
raises_kept s mid e r other = raises_append s [] mid (record { event = e; reply = r } ∷ []) ∙ event_keeps s (raises_of s mid) e r other

pub fits_event : (cs : Rings) (mid new : List Entry) (e : Event) (r : Reply) → new ≡ mid ++ record { event = e; reply = r } ∷ [] → IsOther e → Fits cs mid → Fits cs new
fits_event cs mid new e r is other fits s d at =
    ((fits s d at).0 ∙ sym (raises_kept s mid e r other) ∙ sym (ap (raises_of s) is), (fits s d at).1)

attach_keeps : (s : ℕ) (bs : List (Option ℕ)) (t : ℕ) (setup : Setup) (r : Reply) → is_attached r ≡ false → next_raises s bs (record { event = Attach t setup; reply = r }) ≡ bs
attach_keeps s bs t setup r not_done = rw (not_done, append-nil bs) refl

-- a refused attachment changes no port's raises
pub fits_refused : (cs : Rings) (mid new : List Entry) (t : ℕ) (setup : Setup) (r : Reply) → new ≡ mid ++ record { event = Attach t setup; reply = r } ∷ [] → is_attached r ≡ false → Fits cs mid → Fits cs new
fits_refused cs mid new t setup r is not_done fits s d at =
    ((fits s d at).0 ∙ sym (attach_keeps s (raises_of s mid) t setup r not_done) ∙ sym (raises_append s [] mid (record { event = Attach t setup; reply = r } ∷ [])) ∙ ap (raises_of s) (sym is), (fits s d at).1)

granted_at : (cs : Rings) (mid new : List Entry) (y : ℕ) (c : Reading) (s : ℕ) (d : Reading) (t : Bool) → (y == s) ≡ t → raises_of s new ≡ (if t then [] else raises_of s mid ++ []) → ring_at (put_out y c cs) s ≡ Some d → y < length cs
    → received c ≡ [] → consumer_capacity c ≡ POSTS → Fits cs mid → (received d ≡ raises_of s new) × (consumer_capacity d ≡ POSTS)
granted_at cs mid new y c s d true is run at room empty capacity fits =
    let same : s ≡ y = grind (arith, nat_tests) in
    let here : ring_at (put_out y c cs) s ≡ Some c = rw same (get_or-set_same cs y (Some c) None room) in
    let one : c ≡ d = cc in
    (ap received (sym one) ∙ empty ∙ sym run, ap consumer_capacity (sym one) ∙ capacity)
granted_at cs mid new y c s d false is run at room empty capacity fits =
    let other : s ≡ y → ⊥ = grind (arith, nat_tests) in
    let here : ring_at (put_out y c cs) s ≡ ring_at cs s = get_or-set_other cs y s (Some c) None other in
    let f = fits s d (sym here ∙ at) in
    (f.0 ∙ sym (append-nil _) ∙ sym run, f.1)

-- an accepted attachment begins with a new ring
pub fits_granted : (cs : Rings) (mid new : List Entry) (y : ℕ) (setup : Setup) (r : Reply) (c : Reading) → new ≡ mid ++ record { event = Attach y setup; reply = r } ∷ [] → is_attached r ≡ true → y < length cs → received c ≡ [] → consumer_capacity c ≡ POSTS → Fits cs mid
    → Fits (put_out y c cs) new
fits_granted cs mid new y setup r c is done room empty capacity fits s d at =
    let run : raises_of s new ≡ (if (is_attached r && (y == s)) then [] else raises_of s mid ++ []) = ap (raises_of s) is ∙ raises_append s [] mid (record { event = Attach y setup; reply = r } ∷ []) in
    let run : raises_of s new ≡ (if (y == s) then [] else raises_of s mid ++ []) = run ∙ ap (λ (b : Bool). if (b && (y == s)) then [] else raises_of s mid ++ []) done in
    granted_at cs mid new y c s d (y == s) refl run at room empty capacity fits

pub put_count : (cs : Rings) (y : ℕ) (o : Option Reading) → length (slice_set cs y o) ≡ length cs
put_count [] y o = refl
put_count (x ∷ cs) zero o = refl
put_count (x ∷ cs) (suc y) o = ap suc (put_count cs y o)
