-- What is seen of a table, by its slots.
use Rattle.std.proofs.Common.{◌≡◌, ℕ, ◌+◌, ◌<◌, ◌≤◌, Bool, cond, List, Option, None, Some, length, get_or, set, slice_get, filter, ap, sym, ◌∙◌, subst}
use Rattle.std.specs.List.{count_by}
use Rattle.std.specs.Prelude.{IfNone, IfSome}
use Rattle.std.proofs.lemmas.Bool.{le-ltb}
use Rattle.options_machine.specs.declared.reply.Charge.{Charge}
use Rattle.options_machine.specs.declared.rows.Lingerer.{Lingerer}
use Rattle.linger_table.specs.Slots.{LetsSlotGo, SlotList, entries_in, slot_of}
use Rattle.linger_table.specs.Table.{LingeringList, TakesOneOut, stays_at}
use Rattle.linger_table.proofs.Entries.{count-without_one, filter-without_one, taken_out}
use Rattle.linger_table.proofs.Places.{entries-changed, entry_there, slot_of-entry}

abbrev pub seen : SlotList → LingeringList
seen s = record { room = s.room; entries = entries_in s.slots }

-- an entry that goes

pub one_out : (o : Option Lingerer) (old new : SlotList) → IfSome o (LetsSlotGo old new) → IfSome o (λ l. TakesOneOut l (entries_in old.slots) (entries_in new.slots))
one_out None old new h = tt
one_out (Some l) old new (at, here, e) = subst (λ (s : SlotList). TakesOneOut l (entries_in old.slots) (entries_in s.slots)) (sym e) (taken_out old.slots at l here)

pub one_fewer : (o : Option Lingerer) (old new : List Lingerer) → IfSome o (λ l. TakesOneOut l old new) → IfSome o (λ l. (f : Lingerer → Bool) → count_by f new + cond (f l) 1 0 ≡ count_by f old)
one_fewer None old new h = tt
one_fewer (Some l) old new h = λ f. count-without_one f l old new h

pub others_same : (o : Option Lingerer) (now : ℕ) (old new : SlotList) → IfSome o (λ l. l.until ≤ now) → IfSome o (LetsSlotGo old new) → IfNone o (new ≡ old) → filter (stays_at now) (entries_in new.slots) ≡ filter (stays_at now) (entries_in old.slots)
others_same None now old new over gone none = ap (λ (s : SlotList). filter (stays_at now) (entries_in s.slots)) none
others_same (Some l) now old new over gone none = filter-without_one (stays_at now) l (entries_in old.slots) (entries_in new.slots) (one_out (Some l) old new gone) (le-ltb now l.until over)

-- the entry at a place

pub entry_at : (slots : List (Option Lingerer)) (place slot : ℕ) → slot ≡ slot_of slots place → get_or slots slot None ≡ slice_get (entries_in slots) place
entry_at slots place slot e = ap (λ (n : ℕ). get_or slots n None) e ∙ slot_of-entry slots place

pub slot_at : (slots : List (Option Lingerer)) (place slot : ℕ) → slot ≡ slot_of slots place → place < length (entries_in slots) → (l : Lingerer) × (get_or slots slot None ≡ Some l)
slot_at slots place slot e less =
    let (l, there) = entry_there (entries_in slots) place less in
    (l, entry_at slots place slot e ∙ there)

-- another charge

pub charge_changed : (s new : SlotList) (place slot : ℕ) (charge : Charge) → slot ≡ slot_of s.slots place → place < length (entries_in s.slots)
    → IfSome (get_or s.slots slot None) (λ l. new ≡ record s { slots = set s.slots slot (Some (record l { charge = charge })) })
    → IfSome (slice_get (entries_in s.slots) place) (λ l. seen new ≡ record (seen s) { entries = set (entries_in s.slots) place (record l { charge = charge }) })
charge_changed s new place slot charge e less h =
    let (l, there) = entry_there (entries_in s.slots) place less in
    let here : get_or s.slots slot None ≡ Some l = entry_at s.slots place slot e ∙ there in
    let change : new ≡ record s { slots = set s.slots slot (Some (record l { charge = charge })) } =
    subst (λ (o : Option Lingerer). IfSome o (λ m. new ≡ record s { slots = set s.slots slot (Some (record m { charge = charge })) })) here h in
    let entries : entries_in (set s.slots slot (Some (record l { charge = charge }))) ≡ set (entries_in s.slots) place (record l { charge = charge }) =
    ap (λ (n : ℕ). entries_in (set s.slots n (Some (record l { charge = charge })))) e ∙ entries-changed s.slots place (record l { charge = charge }) less in
    subst (λ (o : Option Lingerer). IfSome o (λ m. seen new ≡ record (seen s) { entries = set (entries_in s.slots) place (record m { charge = charge }) })) (sym there)
    (ap seen change ∙ ap (with_entries (seen s)) entries)
  where
    with_entries : LingeringList → List Lingerer → LingeringList
    with_entries t xs = record t { entries = xs }
