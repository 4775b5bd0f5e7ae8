-- Each slot's number is its device's.
use Rattle.std.proofs.Common.{◌≡◌, ◌∙◌, ℕ, zero, suc, ◌+◌, ◌<◌, ◌≤◌, List, inl, inr, refl, ap, arith, get_or, rules, sym}
use Rattle.std.proofs.lemmas.Bool.{cases_eq}
use Rattle.std.specs.Array.{IsFromFnResultFrom}
use Rattle.std.specs.Fn.{Called, Mut}
use Rattle.i3c_base.specs.declared.range.TheConstants.{SLOTS}
use Rattle.i3c_base.specs.State.{device_at}
use Rattle.i3c_bus.specs.Readings.{waiting_of}
use Rattle.i3c_shared.proofs.intake.Intake.waiting.Goals as goal

-- calls that leave what they read as it is
made_each : {F : Type 0} (g : Mut F (ℕ × Unit {0}) ℕ) (P : F → Type 0) (of : ℕ → ℕ) (ys : List ℕ) → ((f q : F) (k : ℕ) (count : ℕ) → P f → Called g f (k, tt) count q → P q × (count ≡ of k))
    → (n i : ℕ) (f : F) → P f → IsFromFnResultFrom g f ys i n → (k : ℕ) → i ≤ k → k < i + n → get_or ys k 0 ≡ of k
made_each g P of ys step zero i f p h k low high = absurd (omega (arith, low, high))
made_each g P of ys step (suc n) i f p h k low high =
    let next = step f h.0 i h.1 p h.3 in
    elim (cases_eq k i) [
      | inl e ↦ ap (λ j. get_or ys j 0) e ∙ (h.2.1 0 ∙ (next.1 ∙ ap of (sym e)))
      | inr ne ↦ made_each g P of ys step n (i + 1) h.0 next.0 h.4 k (omega (arith, low, ne)) (omega (arith, high))
    ]

pub returns : goal.returns
returns c =
    record {
      slots = c.from_fn.ensures.items.long;
      each = λ s l. made_each _ (λ f. f.0.now ≡ c.self.inside.recorder) (λ k. waiting_of (device_at c.args.self.now.log.state k)) c.from_fn.result (λ f q j count p call. (search (rules, p, call), search (rules, p, call, c.self.view_is))) SLOTS 0 _ refl c.from_fn.ensures.items.each s (omega arith) (omega (arith, l));
    }
