-- Adding events to a run, one list after another.
use Rattle.std.proofs.Common.{◌≡◌, ℕ, ◌+◌, List, [], ◌∷◌, ◌++◌, refl, sym, ap, ◌∙◌, subst, append_assoc, add-one}
use Rattle.std.specs.Prelude.{Option}
use Rattle.i3c_step.specs.declared.events.Event.{Event}
use Rattle.i3c_step.specs.declared.events.Event.TheVariants.{Raise}
use Rattle.i3c_step.specs.declared.replies.Reply.{Reply}
use Rattle.i3c_step.specs.Step.{Step}
use Rattle.i3c_recorder.specs.KeptRuns.{events_of}
use Rattle.i3c_recorder.specs.Values.{Recorded}
use Rattle.i3c_recorder.proofs.Leading.{events_append, leads_append}
use Rattle.i3c_shared.specs.Rings.{known_of, raises_at, raises_below, ring_at}
use Rattle.i3c_shared.specs.Taking.{Adds}
use Rattle.i3c_shared.specs.Values.{Reading, Rings}

pub adds_more : (old mid new : Recorded) (es fs : List Event) → Adds old es mid → Adds mid fs new → Adds old (es ++ fs) new
adds_more old mid new es fs a b = record {
  added = a.added ++ b.added;
  same = events_append a.added b.added ∙ ap (λ xs. xs ++ events_of b.added) a.same ∙ ap (λ xs. es ++ xs) b.same;
  leads = leads_append old.state a.added mid.state b.added new.state a.leads b.leads;
  run = b.run ∙ ap (λ xs. xs ++ b.added) a.run ∙ append_assoc old.run a.added b.added;
  start = b.start ∙ a.start;
}

-- one event is added
pub adds_one : (old new : Recorded) (event : Event) (reply : Reply) → new.start ≡ old.start → new.run ≡ old.run ++ record { event = event; reply = reply } ∷ [] → Step old.state event reply new.state
    → Adds old (event ∷ []) new
adds_one old new event reply start run step = record {
  added = record { event = event; reply = reply } ∷ [];
  same = refl;
  leads = (new.state, step, refl);
  run = run;
  start = start;
}

-- the raises of one slot more
pub adds_at : (n m : ℕ) (rings : Rings) (o : Option Reading) (old mid new : Recorded) → m ≡ n → ring_at rings n ≡ o → Adds old (raises_below n rings) mid → Adds mid (raises_at m (known_of o)) new
    → Adds old (raises_below (n + 1) rings) new
adds_at n m rings o old mid new same here a b =
    rw add-one (adds_more old mid new _ _ a (subst (λ p. Adds mid (raises_at n (known_of p)) new) (sym here) (subst (λ q. Adds mid (raises_at q (known_of o)) new) same b)))

-- the raise of one post more of a slot
pub adds_post : (s : ℕ) (done : List (Option ℕ)) (byte : Option ℕ) (old mid new : Recorded) → Adds old (raises_at s done) mid → Adds mid (Raise s byte ∷ []) new → Adds old (raises_at s (done ++ byte ∷ [])) new
adds_post s done byte old mid new a b = subst (λ es. Adds old es new) (sym (one_more done)) (adds_more old mid new _ _ a b)
  where
    one_more : (done : List (Option ℕ)) → raises_at s (done ++ byte ∷ []) ≡ raises_at s done ++ Raise s byte ∷ []
    one_more [] = refl
    one_more (x ∷ done) = ap (λ es. Raise s x ∷ es) (one_more done)
