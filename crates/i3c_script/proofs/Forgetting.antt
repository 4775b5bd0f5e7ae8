-- Records that leave the log.
use Rattle.std.proofs.Common.{◌≡◌, ◌⊎◌, ◌∙◌, ℕ, ◌+◌, ◌-◌, ◌<◌, ◌≤◌, List, [], ◌++◌, drop, length, min, take, ap, arith, inl, inr, subst, sym}
use Rattle.std.proofs.lemmas.Bool.{cases_lt}
use Rattle.std.proofs.lemmas.List.{drop_all, length-take-le, take-append-drop}
use Rattle.i3c_base.specs.declared.requests.Record.{Record}
use Rattle.i3c_base.specs.State.{State}
use Rattle.i3c_script.specs.declared.settings.Settings.{Settings}
use Rattle.i3c_script.specs.Accepting.{Forgets}

-- no record, or those up to the number alone
none_or : (last forgotten count size : ℕ) (records : List Record) → count ≡ min (last - forgotten) size → (take count records ≡ []) ⊎ (forgotten + count ≤ last)
none_or last forgotten count size records is = go (cases_lt forgotten last)
  where
    go : (forgotten < last) ⊎ (last ≤ forgotten) → (take count records ≡ []) ⊎ (forgotten + count ≤ last)
    go (inl below) = inr (omega (arith, is, below))
    go (inr past) = let none : count ≡ 0 = omega (arith, is, past) in inl (ap (λ n. take n records) none)

-- and all of these
all_or : (last forgotten count : ℕ) (records : List Record) → count ≡ min (last - forgotten) (length records) → (drop count records ≡ []) ⊎ (last ≤ forgotten + count)
all_or last forgotten count records is = go (cases_lt (last - forgotten) (length records))
  where
    go : (last - forgotten < length records) ⊎ (length records ≤ last - forgotten) → (drop count records ≡ []) ⊎ (last ≤ forgotten + count)
    go (inl fewer) = inr (omega (arith, is, fewer))
    go (inr more) = inl (drop_all count records (omega (arith, is, more)))

-- `count` records are dropped from the log, and counted
pub dropped : (last : ℕ) (old new : Settings) (before after : State) (count : ℕ) → count ≡ min (last - old.forgotten) (length before.records)
    → after ≡ record before { records = drop count before.records } → new ≡ record old { forgotten = old.forgotten + count } → Forgets last old before new after
dropped last old new before after count is left counted =
    let records = before.records in
    let behind : after.records ≡ drop count records = ap (λ (st : State). st.records) left in
    let number : new.forgotten ≡ old.forgotten + count = ap (λ (s : Settings). s.forgotten) counted in
    let taken : length (take count records) ≡ count = length-take-le count records (omega (arith, is)) in
    record {
      gone = take count records;
      split = sym (ap (λ l. take count records ++ l) behind ∙ take-append-drop count records);
      counted = number ∙ ap (λ n. old.forgotten + n) (sym taken);
      no_more = subst (λ n. (take count records ≡ []) ⊎ (n ≤ last)) (sym number) (none_or last old.forgotten count (length records) records is);
      all = subst (λ l. (l ≡ []) ⊎ (last ≤ new.forgotten)) (sym behind) (subst (λ n. (drop count records ≡ []) ⊎ (last ≤ n)) (sym number) (all_or last old.forgotten count records is));
      log = left ∙ ap (λ l. record before { records = l }) (sym behind);
      count = counted ∙ ap (λ n. record old { forgotten = n }) (sym number);
    }
