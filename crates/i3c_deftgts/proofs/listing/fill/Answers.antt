use Rattle.std.proofs.Common.{◌≡◌, ◌≤◌, ◌++◌, ◌∷◌, [], length, set, None, is_some, option_map, ap, sym, ◌∙◌, arith, append_assoc, count_by, length-append}
use Rattle.std.specs.Option.{option_to_list}
use Rattle.i3c_base.specs.State.{Board}
use Rattle.i3c_table.specs.Rows.{entry_of_row}
use Rattle.i3c_deftgts.specs.Copies.{table_of}
use Rattle.i3c_deftgts.specs.Entries.{device_at, entries_of, given_in, has_twice, legacy_at, own_entry, upwards}
use Rattle.i3c_deftgts.proofs.CopyOfLaws.{copied_back}
use Rattle.i3c_deftgts.proofs.DistinctLaws.{owned_once}
use Rattle.i3c_deftgts.proofs.WrittenLaws.{entries_read}
use Rattle.i3c_deftgts.proofs.TableLaws.{but_own, length-entries_of, length-own_and_others}
use Rattle.i3c_deftgts.proofs.listing.fill.Goals as goal
use Rattle.i3c_deftgts.proofs.listing.fill.Goals.{in-Some, in_default}

pub push-requires : goal.push-requires
push-requires c = let none = ap length c.requires.empty in (omega arith, omega (arith, none))

-- the own entry
own : (c : goal.After-without) → c.match-row_of.entries.items ≡ own_entry c.args.table.now c.args.own
own c = elim c.match-row_of.branch [
  | in-Some w ↦ ap (λ e. e.items) w.entries-is ∙ (w.push.ensures.items ∙ (ap (λ e. e ++ w.device_entry.result ∷ []) c.requires.empty
      ∙ (ap (λ e. e ∷ []) w.device_entry.ensures ∙ (ap (λ a. device_at a (entry_of_row w.in-Some.row) ∷ []) w.in-Some.ensures.found.0 ∙ sym (ap (λ o. option_to_list (option_map (device_at c.args.own) o)) w.in-Some.ensures.found.1)))))
  | in_default w ↦ ap (λ e. e.items) w.entries-is ∙ (c.requires.empty ∙ sym (ap (λ o. option_to_list (option_map (device_at c.args.own) o)) w.in_default.ensures.found))
]

others : (c : goal.After-without) → given_in c.without.result.0 c.args.table.now.given ≡ set c.args.table.now.given c.args.own None
others c = but_own c.args.table.now.given c.given_addresses.result.0 c.without.result.0 c.args.own c.given_addresses.ensures.given c.without.ensures.not_in_it c.without.ensures.others

pub push_devices-requires : goal.push_devices-requires
push_devices-requires c =
    let first = ap length (own c) in
    let second = ap (λ g. length (upwards device_at 0 g)) (others c) in
    omega (arith, first, second, length-own_and_others c.args.table.now c.args.own, c.given_addresses.ensures.few)

-- the own entry, and the others
two : (c : goal.After-legacies) → c.push_devices.new.entries.items ≡ own_entry c.args.table.now c.args.own ++ upwards device_at 0 (set c.args.table.now.given c.args.own None)
two c = c.push_devices.ensures ∙ (ap (λ e. e ++ upwards device_at 0 (given_in c.without.result.0 c.args.table.now.given)) (own c.before.before.before) ∙ ap (λ g. own_entry c.args.table.now c.args.own ++ upwards device_at 0 g) (others c.before.before.before))

pub push_legacies-requires : goal.push_legacies-requires
push_legacies-requires c =
    let long = ap length (two c) in
    let both = length-append (own_entry c.args.table.now c.args.own) (upwards device_at 0 (set c.args.table.now.given c.args.own None)) in
    omega (arith, long, both, length-own_and_others c.args.table.now c.args.own, c.given_addresses.ensures.few)

-- the legacy targets that the table has
told : (c : goal.After-push_legacies) → c.legacies.result.now.legacy ≡ c.args.table.now.legacy
told c = ap (λ (b : Board). b.legacy) c.legacies.ensures

-- all the entries
whole : (c : goal.After-push_legacies) → c.push_legacies.new.entries.items ≡ entries_of c.args.table.now c.args.own
whole c =
    c.push_legacies.ensures.items ∙ (ap (λ e. e ++ upwards legacy_at 0 c.legacies.result.now.legacy) (two c.before)
    ∙ (append_assoc (own_entry c.args.table.now c.args.own) (upwards device_at 0 (set c.args.table.now.given c.args.own None)) (upwards legacy_at 0 c.legacies.result.now.legacy)
    ∙ ap (λ l. own_entry c.args.table.now c.args.own ++ (upwards device_at 0 (set c.args.table.now.given c.args.own None) ++ upwards legacy_at 0 l)) (told c)))

pub returns-clause-items : goal.returns-clause-items
returns-clause-items c = whole c

pub returns-clause-own_addresses : goal.returns-clause-own_addresses
returns-clause-own_addresses c = ap has_twice (whole c) ∙ owned_once c.args.table.now c.args.own c.requires.stands c.given_addresses.ensures.apart

pub returns-clause-long : goal.returns-clause-long
returns-clause-long c = ap length (whole c) ∙ length-entries_of c.args.table.now c.args.own

pub returns-clause-few : goal.returns-clause-few
returns-clause-few c =
    let long = ap length (whole c) ∙ length-entries_of c.args.table.now c.args.own in
    let few : count_by is_some c.args.table.now.legacy ≤ 16 = rw (sym (told c)) c.push_legacies.ensures.few in
    omega (arith, long, few, c.given_addresses.ensures.few)

pub returns-clause-read : goal.returns-clause-read
returns-clause-read c tellable words carried =
    rw (whole c) (entries_read c.args.table.now c.args.own words c.requires.stands c.given_addresses.ensures.usable c.given_addresses.ensures.apart (rw (sym (told c)) c.push_legacies.ensures.static_alone) tellable (rw (whole c) at carried))

pub returns-clause-copied : goal.returns-clause-copied
returns-clause-copied c =
    ap table_of (whole c) ∙ copied_back c.args.table.now c.args.own c.requires.stands c.given_addresses.ensures.usable c.given_addresses.ensures.apart (rw (sym (told c)) c.push_legacies.ensures.static_alone) c.given_addresses.ensures.all_places
    (ap length (sym (told c)) ∙ c.push_legacies.ensures.all_places) (rw (sym (told c)) c.push_legacies.ensures.few)
