-- Lines by their places: what a list has at the places that are kept, and how one place more changes it.
use Rattle.std.proofs.Common.{◌≡◌, ℕ, zero, ◌+◌, ◌-◌, ◌<◌, min, Bool, true, false, List, [], ◌∷◌, ◌++◌, length, get_or, drop, filter, slice_get, Option, None, Some, IsSome, All, refl, sym, ap, subst, ◌∙◌, suc, arith, append_assoc}
use Rattle.std.specs.List.{filter_map, cons_option}
use Rattle.std.specs.Option.{option_and_then}
use Rattle.std.proofs.lemmas.List.{drop_more}
use Rattle.std.proofs.lemmas.List.Elements.{All-head, All-tail, All-get_or, All-weaker, filter_map-append}
use Rattle.std.proofs.lemmas.Option.{slice_get_read}
use Rattle.lic_types.specs.declared.client.RuleLine.{RuleLine}
use Rattle.options_machine.specs.declared.limits.Limit.{Limit}
use Rattle.options_machine.specs.Rules.{cut_limits, left_of, with_number}
use Rattle.policy.specs.Limits.{HaveLines, limit_at, limits_at, numbered}
use Rattle.policy.specs.Places.{AreThere, lines_at}
use Rattle.policy.specs.declared.limits.PlacedLimit.{PlacedLimit}

-- something is found at a place of a list
something_at : {X : Type 0} (xs : List X) (i : ℕ) → i < length xs → IsSome (slice_get xs i)
something_at [] i h = absurd (omega arith)
something_at (x ∷ xs) zero h = refl
something_at (x ∷ xs) (suc i) h = something_at xs i (omega arith)

-- where something is found for each, there are as many found as sought
length_found : {X Y : Type 0} (f : X → Option Y) (xs : List X) → All (λ x. IsSome (f x)) xs → length (filter_map f xs) ≡ length xs
length_found f [] h = refl
length_found {X} {Y} f (x ∷ xs) h = by (f x) (All-head (λ y. IsSome (f y)) x xs h) (length_found f xs (All-tail (λ y. IsSome (f y)) x xs h))
  where
    by : (o : Option Y) → IsSome o → length (filter_map f xs) ≡ length xs → length (cons_option o (filter_map f xs)) ≡ suc (length xs)
    by None s e = cc
    by (Some y) s e = ap suc e

-- where something is found for each, what is found stands where it was sought
found_at : {X Y : Type 0} (f : X → Option Y) (xs : List X) (i : ℕ) → All (λ x. IsSome (f x)) xs → slice_get (filter_map f xs) i ≡ option_and_then f (slice_get xs i)
found_at f [] i h = refl
found_at {X} {Y} f (x ∷ xs) zero h = by (f x) (All-head (λ y. IsSome (f y)) x xs h)
  where
    by : (o : Option Y) → IsSome o → slice_get (cons_option o (filter_map f xs)) 0 ≡ o
    by None s = cc
    by (Some y) s = refl
found_at {X} {Y} f (x ∷ xs) (suc i) h = by (f x) (All-head (λ y. IsSome (f y)) x xs h) (found_at f xs i (All-tail (λ y. IsSome (f y)) x xs h))
  where
    by : (o : Option Y) → IsSome o → slice_get (filter_map f xs) i ≡ option_and_then f (slice_get xs i) → slice_get (cons_option o (filter_map f xs)) (suc i) ≡ option_and_then f (slice_get xs i)
    by None s e = cc
    by (Some y) s e = e

all_there : (lines : List RuleLine) (places : List ℕ) → AreThere lines places → All (λ p. IsSome (slice_get lines p)) places
all_there lines places h = All-weaker (λ p. p < length lines) (λ p. IsSome (slice_get lines p)) (something_at lines) places h

-- there are as many lines as places
pub length-lines_at : (lines : List RuleLine) (places : List ℕ) → AreThere lines places → length (lines_at lines places) ≡ length places
length-lines_at lines places h = length_found (slice_get lines) places (all_there lines places h)

-- the line for a place among them
pub lines_at-get : (lines : List RuleLine) (places : List ℕ) (i place : ℕ) → AreThere lines places → slice_get places i ≡ Some place → slice_get (lines_at lines places) i ≡ slice_get lines place
lines_at-get lines places i place h e = found_at (slice_get lines) places i (all_there lines places h) ∙ ap (option_and_then (slice_get lines)) e

-- the next line of a list
next_line : (lines : List RuleLine) (i : ℕ) (line : RuleLine) → i < length lines → line ≡ get_or lines i line → drop i lines ≡ line ∷ drop (i + 1) lines
next_line lines i line lt is = drop_more lines i line lt ∙ ap (λ (x : RuleLine). x ∷ drop (i + 1) lines) (sym is)

-- a line that passes is chosen
pub chosen_more : (p : RuleLine → Bool) (lines : List RuleLine) (places : List ℕ) (i : ℕ) (line : RuleLine)
    → i < length lines → line ≡ get_or lines i line → p line ≡ true
    → lines_at lines (places ++ i ∷ []) ++ filter p (drop (i + 1) lines) ≡ lines_at lines places ++ filter p (drop i lines)
chosen_more p lines places i line lt is passes =
    let here : slice_get lines i ≡ Some line = slice_get_read lines (length lines) i line refl lt is in
    rw (next_line lines i line lt is, passes, filter_map-append (slice_get lines) places (i ∷ []), here)
    (append_assoc (lines_at lines places) (line ∷ []) (filter p (drop (i + 1) lines)))

-- a line that doesn't pass is passed over
pub passed_over : (p : RuleLine → Bool) (lines : List RuleLine) (i : ℕ) (line : RuleLine)
    → i < length lines → line ≡ get_or lines i line → p line ≡ false
    → filter p (drop (i + 1) lines) ≡ filter p (drop i lines)
passed_over p lines i line lt is fails = rw (next_line lines i line lt is, fails) refl

-- a place that is kept is that of a line
pub place_within : (lines : List RuleLine) (places : List ℕ) (i place : ℕ) → AreThere lines places → i < length places → place ≡ get_or places i place → place < length lines
place_within lines places i place h lt is = omega (arith, is, All-get_or (λ p. p < length lines) places i place lt h)

numbered_there : (o : Option RuleLine) (number : ℕ) → IsSome o → IsSome (numbered o number)
numbered_there None number h = cc
numbered_there (Some line) number h = refl

limits_there : (lines : List RuleLine) (limits : List PlacedLimit) → HaveLines lines limits → All (λ (m : PlacedLimit). IsSome (limit_at lines m)) limits
limits_there lines limits h =
    All-weaker
    (λ (m : PlacedLimit). m.place < length lines)
    (λ (m : PlacedLimit). IsSome (limit_at lines m))
    (λ m below. numbered_there (slice_get lines m.place) m.number (something_at lines m.place below))
    limits
    h

-- there are as many limits as places
pub length-limits_at : (lines : List RuleLine) (limits : List PlacedLimit) → HaveLines lines limits → length (limits_at lines limits) ≡ length limits
length-limits_at lines limits h = length_found (limit_at lines) limits (limits_there lines limits h)

-- the limit for a place among them
pub limits_at-get : (lines : List RuleLine) (limits : List PlacedLimit) (i : ℕ) (m : PlacedLimit) (line : RuleLine)
    → HaveLines lines limits → slice_get limits i ≡ Some m → slice_get lines m.place ≡ Some line
    → slice_get (limits_at lines limits) i ≡ Some (record { line = line; number = m.number })
limits_at-get lines limits i m line h e f =
    found_at (limit_at lines) limits i (limits_there lines limits h) ∙ ap (option_and_then (limit_at lines)) e ∙ ap (λ (o : Option RuleLine). numbered o m.number) f

-- the place of a limit is that of a line
pub limit_within : (lines : List RuleLine) (limits : List PlacedLimit) (i : ℕ) (m : PlacedLimit) → HaveLines lines limits → i < length limits → m ≡ get_or limits i m → m.place < length lines
limit_within lines limits i m h lt is = subst (λ (x : PlacedLimit). x.place < length lines) (sym is) (All-get_or (λ (x : PlacedLimit). x.place < length lines) limits i m lt h)

-- one limit more
limits_at-push : (lines : List RuleLine) (limits : List PlacedLimit) (i number : ℕ) (line : RuleLine)
    → i < length lines → line ≡ get_or lines i line
    → limits_at lines (limits ++ record { place = i; number = number } ∷ []) ≡ limits_at lines limits ++ record { line = line; number = number } ∷ []
limits_at-push lines limits i number line lt is =
    let here : slice_get lines i ≡ Some line = slice_get_read lines (length lines) i line refl lt is in
    rw (filter_map-append (limit_at lines) limits (record { place = i; number = number } ∷ []), here) refl

-- a line that has a number is taken
pub limits_more : (g : RuleLine → Option Limit) (lines : List RuleLine) (limits : List PlacedLimit) (i number : ℕ) (line : RuleLine)
    → i < length lines → line ≡ get_or lines i line → g line ≡ with_number line (Some number)
    → limits_at lines (limits ++ record { place = i; number = number } ∷ []) ++ filter_map g (drop (i + 1) lines) ≡ limits_at lines limits ++ filter_map g (drop i lines)
limits_more g lines limits i number line lt is has =
    rw (next_line lines i line lt is, has, limits_at-push lines limits i number line lt is)
    (append_assoc (limits_at lines limits) (record { line = line; number = number } ∷ []) (filter_map g (drop (i + 1) lines)))

-- a line that has none is passed over
pub limits_passed : (g : RuleLine → Option Limit) (lines : List RuleLine) (i : ℕ) (line : RuleLine)
    → i < length lines → line ≡ get_or lines i line → g line ≡ with_number line None
    → filter_map g (drop (i + 1) lines) ≡ filter_map g (drop i lines)
limits_passed g lines i line lt is has = rw (next_line lines i line lt is, has) refl

-- a line that asks for a number is taken, with that number cut to what is left
pub cut_more : (g : RuleLine → Option Limit) (lines : List RuleLine) (limits : List PlacedLimit) (i asked left : ℕ) (line : RuleLine)
    → i < length lines → line ≡ get_or lines i line → g line ≡ with_number line (Some asked)
    → limits_at lines (limits ++ record { place = i; number = min asked left } ∷ []) ++ cut_limits (left - asked) (filter_map g (drop (i + 1) lines)) ≡ limits_at lines limits ++ cut_limits left (filter_map g (drop i lines))
cut_more g lines limits i asked left line lt is has =
    rw (next_line lines i line lt is, has, limits_at-push lines limits i (min asked left) line lt is)
    (append_assoc (limits_at lines limits) (record { line = line; number = min asked left } ∷ []) (cut_limits (left - asked) (filter_map g (drop (i + 1) lines))))

-- and so much less is left
pub left_more : (g : RuleLine → Option Limit) (lines : List RuleLine) (i asked left : ℕ) (line : RuleLine)
    → i < length lines → line ≡ get_or lines i line → g line ≡ with_number line (Some asked)
    → left_of (left - asked) (filter_map g (drop (i + 1) lines)) ≡ left_of left (filter_map g (drop i lines))
left_more g lines i asked left line lt is has = rw (next_line lines i line lt is, has) refl

-- the lines from a place on are that one's and those after it
pub next_at : (lines : List RuleLine) (places : List ℕ) (i : ℕ) (line : RuleLine) → AreThere lines places → i < length places → line ≡ get_or lines (get_or places i 0) line
    → lines_at lines (drop i places) ≡ line ∷ lines_at lines (drop (i + 1) places)
next_at lines places i line there lt is =
    let within : get_or places i 0 < length lines = All-get_or (λ p. p < length lines) places i 0 lt there in
    let here : slice_get lines (get_or places i 0) ≡ Some line = slice_get_read lines (length lines) (get_or places i 0) line refl within is in
    rw (drop_more places i 0 lt, here) refl
