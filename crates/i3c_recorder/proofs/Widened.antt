-- A run that goes on by one entry.
use Rattle.std.proofs.Common.{◌≡◌, ℕ, List, [], ◌∷◌, ◌++◌, length, refl, sym, ap, ◌∙◌, get_or}
use Rattle.std.specs.Prelude.{All}
use Rattle.std.proofs.lemmas.List.{get_or_append_left}
use Rattle.std.proofs.Math.Seq.{get_or-append_seam}
use Rattle.std.proofs.lemmas.List.Elements.{All-head, All-tail}
use Rattle.i3c_recorder.specs.declared.entry.Entry.{Entry}
use Rattle.i3c_recorder.specs.declared.packed.ShortEntry.{ShortEntry}
use Rattle.i3c_recorder.specs.declared.packed.ShortReply.{ShortReply}
use Rattle.i3c_recorder.specs.declared.packed.Packed.{Packed}
use Rattle.i3c_recorder.specs.declared.packed.Packed.TheVariants.{Short, Wide}
use Rattle.i3c_recorder.specs.Packing.{IsShort, IsWithin, entries_in, entry_in, no_entry}

still_in : (wide more : List Entry) (p : Packed) → IsWithin (length wide) p → entry_in (wide ++ more) p ≡ entry_in wide p
still_in wide more (Short short said) h = refl
still_in wide more (Wide at) h = get_or_append_left wide more no_entry at h

still_all : (wide more : List Entry) (packed : List Packed) → All (IsWithin (length wide)) packed → entries_in (wide ++ more) packed ≡ entries_in wide packed
still_all wide more [] h = refl
still_all wide more (p ∷ packed) h =
    let here : entry_in (wide ++ more) p ≡ entry_in wide p = still_in wide more p (All-head (IsWithin (length wide)) p packed h) in
    rw (here, still_all wide more packed (All-tail (IsWithin (length wide)) p packed h)) refl

one_more : (wide : List Entry) (packed : List Packed) (p : Packed) → entries_in wide (packed ++ p ∷ []) ≡ entries_in wide packed ++ entry_in wide p ∷ []
one_more wide [] p = refl
one_more wide (q ∷ packed) p = ap (λ es. entry_in wide q ∷ es) (one_more wide packed p)

-- a run that goes on by a wide entry
pub widened : (wide : List Entry) (packed : List Packed) (e : Entry) (at : ℕ) → at ≡ length wide → All (IsWithin (length wide)) packed
    → entries_in (wide ++ e ∷ []) (packed ++ Wide at ∷ []) ≡ entries_in wide packed ++ e ∷ []
widened wide packed e at same h =
    one_more (wide ++ e ∷ []) packed (Wide at)
    ∙ ap (λ es. es ++ get_or (wide ++ e ∷ []) at no_entry ∷ []) (still_all wide (e ∷ []) packed h)
    ∙ ap (λ i. entries_in wide packed ++ get_or (wide ++ e ∷ []) i no_entry ∷ []) same
    ∙ ap (λ x. entries_in wide packed ++ x ∷ []) (get_or-append_seam wide e [] no_entry)
