use Rattle.std.proofs.Common.{◌≡◌, ℕ, ◌+◌, ◌-◌, ◌<◌, ◌≤◌, ◌^◌, Bool, true, false, cond, List, [], ◌∷◌, map, refl, ap, ◌∙◌, arith, get_or}
use Rattle.std.specs.Prelude.{All, find}
use Rattle.std.specs.Option.{option_map}
use Rattle.std.proofs.lemmas.List.Elements.{All-map}
use Rattle.lic_types.specs.declared.client.Client.{Client}
use Rattle.lic_types.specs.declared.client.RuleLine.{RuleLine}
use Rattle.options_machine.specs.declared.limits.Limit.{Limit}
use Rattle.options_machine.specs.declared.reply.Charge.{Charge}
use Rattle.options_machine.specs.declared.reply.Charge.TheVariants.{Reserve, Open}
use Rattle.options_machine.specs.declared.rows.Holder.{Holder}
use Rattle.options_machine.specs.declared.rows.Lingerer.{Lingerer}
use Rattle.options_machine.specs.Rules.{Rules, applies}
use Rattle.options_machine.specs.State.{State, charges, in_use, same_charge}
use Rattle.options_machine.specs.Decide.{has_room, match_count, number_of_limit, reached_max_line}
use Rattle.std.proofs.lemmas.List.Sums.{count_by-le-length}
use Rattle.seat_counters.specs.Counts.{AreSmall, Counts, counts_of, counts_with, counts_without, first_line, has_seat, is_charged, is_used_up, speaks_of, with_less, with_more}

-- counts of lines

with_more-map : (p : Limit → Bool) (f g : Limit → ℕ) → ((m : Limit) → g m ≡ f m + cond (p m) 1 0) → (ms : List Limit) → map g ms ≡ with_more p ms (map f ms)
with_more-map p f g h [] = refl
with_more-map p f g h (m ∷ ms) = rw (h m, with_more-map p f g h ms) refl

with_less-map : (p : Limit → Bool) (f g : Limit → ℕ) → ((m : Limit) → g m ≡ f m - cond (p m) 1 0) → (ms : List Limit) → map g ms ≡ with_less p ms (map f ms)
with_less-map p f g h [] = refl
with_less-map p f g h (m ∷ ms) = rw (h m, with_less-map p f g h ms) refl

same_map : (f g : Limit → ℕ) → ((m : Limit) → g m ≡ f m) → (ms : List Limit) → map g ms ≡ map f ms
same_map f g h [] = refl
same_map f g h (m ∷ ms) = rw (h m, same_map f g h ms) refl

counts_same : (a b : Counts) → a.taken ≡ b.taken → a.reserves ≡ b.reserves → a.maxes ≡ b.maxes → a ≡ b
counts_same a b t r m =
    ap (λ (n : ℕ). record a { taken = n }) t
    ∙ ap (λ (ns : List ℕ). record a { taken = b.taken; reserves = ns }) r
    ∙ ap (λ (ns : List ℕ). record b { maxes = ns }) m

-- a state with one seat more of a client and with a charge has the counts with it
pub counts_more : (r : Rules) (s new : State) (client : Client) (charge : Charge) → ((c : Charge) → charges new c ≡ charges s c + cond (same_charge charge c) 1 0)
    → ((line : RuleLine) → match_count r new line ≡ match_count r s line + cond (applies r.groups client line) 1 0) → counts_of r new ≡ counts_with r client charge (counts_of r s)
counts_more r s new client charge e f =
    counts_same (counts_of r new) (counts_with r client charge (counts_of r s)) (e Open)
    (with_more-map (is_charged charge) (λ (m : Limit). charges s (Reserve m.line.line)) (λ (m : Limit). charges new (Reserve m.line.line)) (λ m. e (Reserve m.line.line)) r.reserves)
    (with_more-map (speaks_of r client) (λ (m : Limit). match_count r s m.line) (λ (m : Limit). match_count r new m.line) (λ m. f m.line) r.maxes)

-- a state with one seat less has the counts without it
pub counts_less : (r : Rules) (s new : State) (client : Client) (charge : Charge) → ((c : Charge) → charges new c + cond (same_charge charge c) 1 0 ≡ charges s c)
    → ((line : RuleLine) → match_count r new line + cond (applies r.groups client line) 1 0 ≡ match_count r s line) → counts_of r new ≡ counts_without r client charge (counts_of r s)
counts_less r s new client charge e f =
    counts_same (counts_of r new) (counts_without r client charge (counts_of r s)) (omega (arith, e Open))
    (with_less-map (is_charged charge) (λ (m : Limit). charges s (Reserve m.line.line)) (λ (m : Limit). charges new (Reserve m.line.line)) (λ m. omega (arith, e (Reserve m.line.line))) r.reserves)
    (with_less-map (speaks_of r client) (λ (m : Limit). match_count r s m.line) (λ (m : Limit). match_count r new m.line) (λ m. omega (arith, f m.line)) r.maxes)

-- a state with as many has the same counts
pub counts_equal : (r : Rules) (s new : State) → ((c : Charge) → charges new c ≡ charges s c) → ((line : RuleLine) → match_count r new line ≡ match_count r s line) → counts_of r new ≡ counts_of r s
counts_equal r s new e f =
    counts_same (counts_of r new) (counts_of r s) (e Open)
    (same_map (λ (m : Limit). charges s (Reserve m.line.line)) (λ (m : Limit). charges new (Reserve m.line.line)) (λ m. e (Reserve m.line.line)) r.reserves)
    (same_map (λ (m : Limit). match_count r s m.line) (λ (m : Limit). match_count r new m.line) (λ m. f m.line) r.maxes)

all_small : (f : Limit → ℕ) → ((m : Limit) → f m + 1 < 2 ^ 32) → (ms : List Limit) → All (λ n. n + 1 < 2 ^ 32) (map f ms)
all_small f h ms = All-map (λ n. n + 1 < 2 ^ 32) f ms (λ k d below. h (get_or ms k d))

charges_few : (s : State) (c : Charge) → charges s c ≤ in_use s
charges_few s c = omega (arith, count_by-le-length (λ (h : Holder). same_charge h.charge c) s.holders, count_by-le-length (λ (l : Lingerer). same_charge l.charge c) s.lingering)

matched_few : (r : Rules) (s : State) (line : RuleLine) → match_count r s line ≤ in_use s
matched_few r s line = omega (arith, count_by-le-length (λ (h : Holder). applies r.groups h.client line) s.holders, count_by-le-length (λ (l : Lingerer). applies r.groups l.client line) s.lingering)

-- no count is above the number of seats in use
pub counts_are_small : (r : Rules) (s : State) → in_use s + 1 < 2 ^ 32 → AreSmall (counts_of r s)
counts_are_small r s few = record {
  taken = omega (arith, few, charges_few s Open);
  reserves = all_small (λ (m : Limit). charges s (Reserve m.line.line)) (λ m. omega (arith, few, charges_few s (Reserve m.line.line))) r.reserves;
  maxes = all_small (λ (m : Limit). match_count r s m.line) (λ m. omega (arith, few, matched_few r s m.line)) r.maxes;
}

-- what the rules say by the counts

first_step : (p : Limit → ℕ → Bool) (f : Limit → ℕ) (m : Limit) (ms : List Limit) (b : Bool) → p m (f m) ≡ b
    → first_line p ms (map f ms) ≡ option_map number_of_limit (find (λ (x : Limit). p x (f x)) ms)
    → first_line p (m ∷ ms) (map f (m ∷ ms)) ≡ option_map number_of_limit (find (λ (x : Limit). p x (f x)) (m ∷ ms))
first_step p f m ms true e h = rw e refl
first_step p f m ms false e h = rw e h

first_found : (p : Limit → ℕ → Bool) (f : Limit → ℕ) (ms : List Limit) → first_line p ms (map f ms) ≡ option_map number_of_limit (find (λ (x : Limit). p x (f x)) ms)
first_found p f [] = refl
first_found p f (m ∷ ms) = first_step p f m ms (p m (f m)) refl (first_found p f ms)

-- the first MAX line that is used up is the first that is reached
pub used_up_is_reached : (r : Rules) (s : State) (client : Client) → first_line (is_used_up r client) r.maxes (counts_of r s).maxes ≡ reached_max_line r s client
used_up_is_reached r s client = first_found (is_used_up r client) (λ (m : Limit). match_count r s m.line) r.maxes

-- the first RESERVE line that has a seat is the first that has room
pub seat_is_room : (r : Rules) (s : State) (client : Client) → first_line (has_seat r client) r.reserves (counts_of r s).reserves ≡ option_map number_of_limit (find (has_room r s client) r.reserves)
seat_is_room r s client = first_found (has_seat r client) (λ (m : Limit). charges s (Reserve m.line.line)) r.reserves
