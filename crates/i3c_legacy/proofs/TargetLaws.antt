-- Legacy targets as they are at the start, at their addresses.
use Rattle.std.proofs.Common.{◌≡◌, ℕ, Bool, true, false, ◌==◌, List, [], ◌∷◌, Option, Some, None, option_map, refl, sym, ap, ◌∙◌}
use Rattle.std.specs.Prelude.{cond, map}
use Rattle.std.specs.List.{range_with_len}
use Rattle.i3c_base.specs.declared.range.TheConstants.{ADDRESSES}
use Rattle.i3c_base.specs.State.{cleared_registers, legacy_target_of, legacy_targets_of}
use Rattle.i3c_legacy.specs.declared.legacies.Declared.{Declared}
use Rattle.i3c_legacy.specs.declared.legacy_targets.Placed.{Placed}
use Rattle.i3c_legacy.specs.Rows.{places, row_at}

-- a declared target with its registers
abbrev pub placed_of : Declared → Placed
placed_of d = record { address = d.address; target = record { lvr = d.lvr; registers = cleared_registers } }

row_placed : (ds : List Declared) (a : ℕ) → row_at (λ (p : Placed). p.address) (map placed_of ds) a ≡ option_map placed_of (row_at (λ (d : Declared). d.address) ds a)
row_placed [] a = refl
row_placed (d ∷ ds) a = go (d.address == a) _ _ (row_placed ds a)
  where
    go : (b : Bool) (p : Option Placed) (q : Option Declared) → p ≡ option_map placed_of q → cond b (Some (placed_of d)) p ≡ option_map placed_of (cond b (Some d) q)
    go true p q e = refl
    go false p q e = e

map_map : {A B C : Type 0} (g : B → C) (f : A → B) (xs : List A) → map g (map f xs) ≡ map (λ x. g (f x)) xs
map_map g f [] = refl
map_map g f (x ∷ xs) = ap (λ ys. g (f x) ∷ ys) (map_map g f xs)

map_same : {A B : Type 0} (f g : A → B) (xs : List A) → ((x : A) → f x ≡ g x) → map f xs ≡ map g xs
map_same f g [] h = refl
map_same f g (x ∷ xs) h = λ t. h x t ∷ map_same f g xs h t

pub targets_placed : (ds : List Declared) → places (λ (p : Placed). p.address) (λ (p : Placed). p.target) (map placed_of ds) ≡ legacy_targets_of (places (λ (d : Declared). d.address) (λ (d : Declared). d.lvr) ds)
unfolding places
targets_placed ds =
    map_same _ _ (range_with_len 0 ADDRESSES) (λ a. ap (option_map (λ (p : Placed). p.target)) (row_placed ds a) ∙ both (row_at (λ (d : Declared). d.address) ds a))
    ∙ sym (map_map (option_map legacy_target_of) (λ a. option_map (λ (d : Declared). d.lvr) (row_at (λ (d : Declared). d.address) ds a)) (range_with_len 0 ADDRESSES))
  where
    both : (o : Option Declared) → option_map (λ (p : Placed). p.target) (option_map placed_of o) ≡ option_map legacy_target_of (option_map (λ (d : Declared). d.lvr) o)
    both None = refl
    both (Some d) = refl
