-- Raises are refused or accepted.
use Rattle.std.proofs.Common.{◌≡◌, ℕ, ◌+◌, ◌==◌, ◌&&◌, Bool, true, false, List, [], ◌∷◌, ◌++◌, length, refl, sym, ap, ◌∙◌, subst, arith, if◌then◌else◌, length-append}
use Rattle.std.proofs.lemmas.List.{map-append}
use Rattle.std.specs.Prelude.{Option, Some, None, is_some}
use Rattle.i3c_base.specs.State.{State}
use Rattle.i3c_base.specs.declared.device.Waiting.{Waiting}
use Rattle.i3c_step.specs.declared.events.Event.{Event}
use Rattle.i3c_step.specs.declared.events.Event.TheVariants.{Attach, DropOff, Raise, AskJoin, AskRole, Serve, Enec, Disec, Reset, SendList, ReadFrom, WriteTo, SetStatic, SetNew, Get, SetLength, HandOver, OpenDaa, Round, EndDaa}
use Rattle.i3c_step.specs.declared.replies.Reply.{Reply}
use Rattle.i3c_step.specs.History.{History, Moment}
use Rattle.i3c_step.specs.History as history
use Rattle.i3c_step.specs.Stays.{accepted_at, accepted_in_stay, accepted_since_attachment, is_attached, is_into, number_raised, raised_as, recorded_in_stay}
use Rattle.i3c_recorder.specs.declared.entry.Entry.{Entry}
use Rattle.i3c_shared.specs.Balance.{next_refused, refused_at, refused_from, refused_of}
use Rattle.i3c_recorder.specs.KeptRuns.{events_of, replies_of}
use Rattle.i3c_shared.specs.Raises.{raised_at, raises_of}
use Rattle.i3c_shared.proofs.Fitting.{raises_append}

abbrev entry_of : Moment → Entry
entry_of m = record { event = m.event; reply = m.reply }

-- a history as a run, the oldest entry first
abbrev run_of : History → List Entry
run_of [] = []
run_of (m ∷ earlier) = run_of earlier ++ entry_of m ∷ []

run_events : (h : History) → events_of (run_of h) ≡ history.events_of h
run_events [] = refl
run_events (m ∷ earlier) = map-append (λ (e : Entry). e.event) (run_of earlier) (entry_of m ∷ []) ∙ ap (λ es. es ++ m.event ∷ []) (run_events earlier)

run_replies : (h : History) → replies_of (run_of h) ≡ history.replies_of h
run_replies [] = refl
run_replies (m ∷ earlier) = map-append (λ (e : Entry). e.reply) (run_of earlier) (entry_of m ∷ []) ∙ ap (λ rs. rs ++ m.reply ∷ []) (run_replies earlier)

-- a run is its events with their replies
same_run : (xs ys : List Entry) → events_of xs ≡ events_of ys → replies_of xs ≡ replies_of ys → xs ≡ ys
same_run [] [] e r = refl
same_run [] (y ∷ ys) e r = cc
same_run (x ∷ xs) [] e r = cc
same_run (x ∷ xs) (y ∷ ys) e r =
    let event : x.event ≡ y.event = cc in
    let reply : x.reply ≡ y.reply = cc in
    let events : events_of xs ≡ events_of ys = cc in
    let replies : replies_of xs ≡ replies_of ys = cc in
    let first : x ≡ y = ap (λ (v : Event). record { event = v; reply = x.reply }) event ∙ ap (λ (w : Reply). record { event = y.event; reply = w }) reply in
    ap (λ z. z ∷ xs) first ∙ ap (λ zs. y ∷ zs) (same_run xs ys events replies)

refused_append : (s : ℕ) (bs : List (Option ℕ)) (es fs : List Entry) → refused_from s bs (es ++ fs) ≡ refused_from s (refused_from s bs es) fs
refused_append s bs [] fs = refl
refused_append s bs (e ∷ es) fs = refused_append s (next_refused s bs e) es fs

raise_part : (b : Option ℕ) (w : Waiting) (here : Bool) → length (if here then b ∷ [] else []) ≡ length (if here then w ∷ [] else [])
raise_part b w true = refl
raise_part b w false = refl

-- a raise is refused or accepted
part : (s : ℕ) (e : Event) (o : Option ℕ) → length (raised_at s e) ≡ length (if is_some o then [] else raised_at s e) + length (raised_as o e s)
part s e None = omega arith
part s (Raise t b) (Some n) = omega (arith, raise_part b (record { number = n; byte = b }) (t == s))
part s (Attach t setup) (Some n) = refl
part s (DropOff t) (Some n) = refl
part s (AskJoin t) (Some n) = refl
part s (AskRole t) (Some n) = refl
part s (Serve p c) (Some n) = refl
part s (Enec t k p c) (Some n) = refl
part s (Disec t k p c) (Some n) = refl
part s (Reset p c) (Some n) = refl
part s (SendList p c) (Some n) = refl
part s (ReadFrom t p c) (Some n) = refl
part s (WriteTo t bs p c) (Some n) = refl
part s (SetStatic f t p c) (Some n) = refl
part s (SetNew f t p c) (Some n) = refl
part s (Get w t p c) (Some n) = refl
part s (SetLength w m t p c) (Some n) = refl
part s (HandOver t c) (Some n) = refl
part s (OpenDaa c) (Some n) = refl
part s (Round c) (Some n) = refl
part s EndDaa (Some n) = refl

-- one entry more
parts : (s : ℕ) (m : Moment) (bs rs : List (Option ℕ)) (ws : List Waiting) (gone : Bool) → length bs ≡ length rs + length ws
    → length (if gone then [] else bs ++ raised_at s m.event) ≡ length (if gone then [] else rs ++ refused_at s (entry_of m)) + length (if gone then [] else ws ++ accepted_at m s)
parts s m bs rs ws true h = refl
parts s m bs rs ws false h =
    omega (arith, length-append bs (raised_at s m.event), length-append rs (refused_at s (entry_of m)), length-append ws (accepted_at m s), part s m.event (number_raised m.reply), h)

counts : (s : ℕ) (h : History) → length (raises_of s (run_of h)) ≡ length (refused_of s (run_of h)) + length (accepted_since_attachment h s)
counts s [] = refl
counts s (m ∷ earlier) =
    rw (raises_append s [] (run_of earlier) (entry_of m ∷ []), refused_append s [] (run_of earlier) (entry_of m ∷ []))
    (parts s m (raises_of s (run_of earlier)) (refused_of s (run_of earlier)) (accepted_since_attachment earlier s) (is_attached m.reply && is_into s m.event) (counts s earlier))

pub accounted : (s : ℕ) (start : State) (h : History) (run : List Entry) (waiting : List Waiting) → history.events_of h ≡ events_of run → history.replies_of h ≡ replies_of run
    → accepted_in_stay start h s ≡ recorded_in_stay start h s ++ waiting → accepted_in_stay start h s ≡ accepted_since_attachment h s
    → length (raises_of s run) ≡ length (refused_of s run) + length (recorded_in_stay start h s) + length waiting
accounted s start h run waiting events replies order begins =
    let is : run_of h ≡ run = same_run (run_of h) run (run_events h ∙ events) (run_replies h ∙ replies) in
    subst (λ (q : List Entry). length (raises_of s q) ≡ length (refused_of s q) + length (recorded_in_stay start h s) + length waiting) is
    (omega (arith, counts s h, ap length (sym begins ∙ order), length-append (recorded_in_stay start h s) waiting))
