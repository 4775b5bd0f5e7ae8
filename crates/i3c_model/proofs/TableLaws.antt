-- Tables of addresses after SETDASA and SETNEWDA.
use Rattle.std.proofs.Common.{◌≡◌, ℕ, ◌<◌, List, set, Option, Some, None, option_map, sym, refl, ap, ◌∙◌, subst, nat_cmp}
use Rattle.std.specs.BTreeMap.{BTreeMap, Updates, get, is_at}
use Rattle.std.specs.List.{AllZip}
use Rattle.std.specs.Map.{lookup}
use Rattle.std.specs.Option.{IsSome}
use Rattle.std.proofs.lemmas.List.{set-get_or}
use Rattle.std.proofs.lemmas.Map.Entries.{entries_from_clone}
use Rattle.i3c_base.specs.declared.range.TheConstants.{ADDRESSES}
use Rattle.i3c_base.specs.Frames.{moved, released_at}
use Rattle.i3c_base.specs.State.{Entry, State, entry_at, entry_in, released}
use Rattle.i3c_model.specs.declared.plain.Plain.TheInside.{Inside}
use Rattle.i3c_model.specs.Views.{IsTableOf, IsWithinPlaces, state_of}
use Rattle.i3c_model.proofs.PlaceLaws.{below_gone, below_put, places_put, places_same}
use Rattle.i3c_model.proofs.States.{entry_there}

-- one address more, or another entry there
pub table_put : (given : List (Option Entry)) (m new : BTreeMap ℕ Entry) (a : ℕ) (e : Entry) → IsTableOf given m → a < ADDRESSES → Updates nat_cmp m new a (Some e) → IsTableOf (set given a (Some e)) new
table_put given m new a e h l put = (below_put ADDRESSES m new a e h.0 l put, places_put ADDRESSES m new a (Some e) l put.1 put.2 ∙ ap (λ places. set places a (Some e)) h.1)

-- one address less
pub table_gone : (given : List (Option Entry)) (m new : BTreeMap ℕ Entry) (a : ℕ) → IsTableOf given m → a < ADDRESSES → Updates nat_cmp m new a None → IsTableOf (set given a None) new
table_gone given m new a h l put = (below_gone ADDRESSES m new a h.0 put, places_put ADDRESSES m new a None l put.1 put.2 ∙ ap (λ places. set places a None) h.1)

-- p is a machine's inside, which is seen as the abstract bus st; a copy of its table
module _ (p : Inside) (st : State) (seen : state_of p ≡ st) (within : IsWithinPlaces p) (copy : BTreeMap ℕ Entry) (zip : AllZip (λ (x y : ℕ × Entry). (y.0 ≡ x.0) × (y.1 ≡ x.1)) p.given.entries copy.entries) where
  same_entries : copy.entries ≡ p.given.entries
  same_entries = entries_from_clone (λ x y. y ≡ x) (λ x y. y ≡ x) (λ x y h. h) (λ v w h. h) p.given.entries copy.entries zip

  same_get : (a : ℕ) → get nat_cmp copy a ≡ get nat_cmp p.given a
  same_get a = ap (lookup (is_at (nat_cmp a))) same_entries

  pub copied_get : (a : ℕ) → get nat_cmp copy a ≡ entry_at st a
  copied_get a = same_get a ∙ sym (entry_there p st seen within a)

  pub table_copied : IsTableOf st.given copy
  table_copied = (λ k h. within.addresses k (subst IsSome (same_get k) h), places_same ADDRESSES p.given copy same_entries ∙ ap (λ (x : State). x.given) seen)

  -- an address without an entry is released
  pub table_released_none : (a : ℕ) → entry_at st a ≡ None → IsTableOf (released_at (Some a) st.given) copy
  table_released_none a none =
      let same : st.given ≡ set st.given a (option_map released (entry_in st.given a)) = sym (set-get_or st.given a None) ∙ (ap (set st.given a) none ∙ ap (λ o. set st.given a (option_map released o)) (sym none)) in
      subst (λ given. IsTableOf given copy) same table_copied

  -- and one with an entry
  pub low_entry : (a : ℕ) (e : Entry) → entry_at st a ≡ Some e → a < ADDRESSES
  low_entry a e h = within.addresses a (subst IsSome (sym (sym (entry_there p st seen within a) ∙ h)) refl)

  pub table_released : (new : BTreeMap ℕ Entry) (a : ℕ) (e : Entry) → entry_at st a ≡ Some e → Updates nat_cmp copy new a (Some (released e)) → IsTableOf (released_at (Some a) st.given) new
  table_released new a e some put =
      let same : set st.given a (Some (released e)) ≡ set st.given a (option_map released (entry_in st.given a)) = ap (λ o. set st.given a (option_map released o)) (sym some) in
      subst (λ given. IsTableOf given new) same (table_put st.given copy new a (released e) table_copied (low_entry a e some) put)

  -- an entry has moved to a new address
  pub table_moved : (left new : BTreeMap ℕ Entry) (old at : ℕ) (e : Entry) → Some e ≡ get nat_cmp copy old → at < ADDRESSES → Updates nat_cmp copy left old None → Updates nat_cmp left new at (Some e) → IsTableOf (moved old at st.given) new
  table_moved left new old at e some l gone put =
      let there : entry_at st old ≡ Some e = sym (copied_get old) ∙ sym some in
      let without = table_gone st.given copy left old table_copied (low_entry old e there) gone in
      subst (λ o. IsTableOf (set (set st.given old None) at o) new) (sym there) (table_put (set st.given old None) left new at e without l put)
