-- The entries of places, upwards.
use Rattle.std.proofs.Common.{◌≡◌, zero-add, cond, ℕ, suc, ◌+◌, ◌≤◌, ◌<◌, List, [], ◌∷◌, ◌++◌, length, drop, get_or, Option, Some, None, is_some, count_by, sym, refl, ap, ◌∙◌, arith, add-one, append_assoc, append-nil, length-append}
use Rattle.std.proofs.lemmas.List.{at_drop_more, at_drop_all}
use Rattle.std.proofs.lemmas.List.Sums.{sum_by-cons}
use Rattle.i3c_deftgts.specs.declared.entries.Entry.{Entry}
use Rattle.i3c_deftgts.specs.Entries.{upwards}

module _ {A : Type 0} (entry : ℕ → A → Entry) where
  -- the place i, which holds x
  pub upwards_some : (xs : List (Option A)) (i : ℕ) (o : Option A) (x : A) → i < length xs → o ≡ get_or xs i o → o ≡ Some x → upwards entry i (drop i xs) ≡ entry i x ∷ upwards entry (i + 1) (drop (i + 1) xs)
  upwards_some xs i o x l is here =
      at_drop_more (upwards entry i) xs i o l ∙ (ap (λ p. upwards entry i (p ∷ drop (i + 1) xs)) (sym is ∙ here) ∙ ap (λ n. entry i x ∷ upwards entry n (drop (i + 1) xs)) (sym (add-one i)))

  pub upwards_none : (xs : List (Option A)) (i : ℕ) (o : Option A) → i < length xs → o ≡ get_or xs i o → o ≡ None → upwards entry i (drop i xs) ≡ upwards entry (i + 1) (drop (i + 1) xs)
  upwards_none xs i o l is here =
      at_drop_more (upwards entry i) xs i o l ∙ (ap (λ p. upwards entry i (p ∷ drop (i + 1) xs)) (sym is ∙ here) ∙ ap (λ n. upwards entry n (drop (i + 1) xs)) (sym (add-one i)))

  -- an entry is appended, or the place is empty
  pub pushed : (xs : List (Option A)) (i : ℕ) (o : Option A) (x : A) (items new whole : List Entry) → i < length xs → o ≡ get_or xs i o → o ≡ Some x → new ≡ items ++ entry i x ∷ []
      → items ++ upwards entry i (drop i xs) ≡ whole → new ++ upwards entry (i + 1) (drop (i + 1) xs) ≡ whole
  pushed xs i o x items new whole l is here more so_far =
      ap (λ e. e ++ upwards entry (i + 1) (drop (i + 1) xs)) more ∙ (append_assoc items (entry i x ∷ []) (upwards entry (i + 1) (drop (i + 1) xs)) ∙ (ap (λ e. items ++ e) (sym (upwards_some xs i o x l is here)) ∙ so_far))

  pub passed : (xs : List (Option A)) (i : ℕ) (o : Option A) (items new whole : List Entry) → i < length xs → o ≡ get_or xs i o → o ≡ None → new ≡ items
      → items ++ upwards entry i (drop i xs) ≡ whole → new ++ upwards entry (i + 1) (drop (i + 1) xs) ≡ whole
  passed xs i o items new whole l is here same so_far =
      ap (λ e. e ++ upwards entry (i + 1) (drop (i + 1) xs)) same ∙ (ap (λ e. items ++ e) (sym (upwards_none xs i o l is here)) ∙ so_far)

  -- nothing is left
  pub all_pushed : (xs : List (Option A)) (i : ℕ) (items whole : List Entry) → length xs ≤ i → items ++ upwards entry i (drop i xs) ≡ whole → items ≡ whole
  all_pushed xs i items whole past so_far = sym (append-nil items) ∙ (ap (λ e. items ++ e) (sym (at_drop_all (upwards entry i) xs i past)) ∙ so_far)

  pub length-upwards : (xs : List (Option A)) (a : ℕ) → length (upwards entry a xs) ≡ count_by is_some xs
  length-upwards [] a = refl
  length-upwards (None ∷ rest) a =
      length-upwards rest (suc a) ∙ sym (sum_by-cons (λ o. cond (is_some o) 1 0) None rest ∙ zero-add (count_by (is_some {T = A}) rest))
  length-upwards (Some x ∷ rest) a =
      let more : count_by (is_some {T = A}) (Some x ∷ rest) ≡ 1 + count_by (is_some {T = A}) rest = sum_by-cons (λ o. cond (is_some o) 1 0) (Some x) rest in
      omega (arith, length-upwards rest (suc a), more)

  -- all places are empty
  pub upwards_nothing : (xs : List (Option A)) (a : ℕ) → count_by is_some xs ≡ 0 → upwards entry a xs ≡ []
  upwards_nothing xs a none = empty (upwards entry a xs) (length-upwards xs a ∙ none)
    where
      empty : (entries : List Entry) → length entries ≡ 0 → entries ≡ []
      empty [] h = refl
      empty (e ∷ rest) h = absurd (omega (arith, h))

  -- while entries are appended there is room for those that are left
  pub room_here : (xs : List (Option A)) (i : ℕ) (o : Option A) (x : A) (items before : List Entry) (most : ℕ) → i < length xs → o ≡ get_or xs i o → o ≡ Some x
      → items ++ upwards entry i (drop i xs) ≡ before ++ upwards entry 0 xs → length before + length (upwards entry 0 xs) ≤ most → length items < most
  room_here xs i o x items before most l is here so_far fits =
      let whole = ap length so_far in
      let long = ap length (upwards_some xs i o x l is here) in
      omega (arith, whole, long, length-append items (upwards entry i (drop i xs)), length-append before (upwards entry 0 xs))
