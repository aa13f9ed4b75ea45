use Rattle.std.proofs.Common.{◌≡◌, ℕ, zero, suc, ◌+◌, ◌-◌, ◌%◌, ◌<◌, ◌^◌, if◌then◌else◌, Bool, true, ◌&&◌, List, [], ◌∷◌, ◌++◌, length, map, take, drop, get_or, refl, sym, ap, ◌∙◌, arith, add-one, eqb, ltb, subst}
use Rattle.std.proofs.Math.ListN.{set}
use Rattle.std.proofs.lemmas.Bool.{eqb-true, ltb-true}
use Rattle.std.specs.List.{list_all}
use Rattle.options_machine.proofs.Counts.{and_left, and_right}
use Rattle.options_machine.specs.Own.{brings_seat}
use Rattle.options_machine.specs.Rules.{Rules}
use Rattle.options_machine.specs.Run.{AsksForSet, IsBelow}
use Rattle.options_machine.specs.State.{State}
use Rattle.options_machine.specs.Step.{set_asked}
use Rattle.options_machine.specs.declared.reply.Reply.{Reply}
use Rattle.seat_book.specs.Books.{BookWithGrants}
use Rattle.script_text.specs.Line.{AskedLine}
use Rattle.scripts.specs.PoolRuns.{entered_at, is_ready, places_with, served_at}
use Rattle.scripts.specs.Script.{request_of}
use Rattle.scripts.specs.Walk.{changed_at}
use Rattle.scripts.specs.declared.pool_run.PoolRun.{PoolRun}

same_book : (book old : BookWithGrants) (state : State) (grants : ℕ) → book.sets ≡ old.sets → book.parties ≡ old.parties → book.state ≡ state → book.grants ≡ grants
    → book ≡ record { sets = old.sets; parties = old.parties; state = state; grants = grants }
same_book book old state grants a b c d =
    let f : List Rules → BookWithGrants = λ sets. record { sets = sets; parties = book.parties; state = book.state; grants = book.grants } in
    let g : ℕ → BookWithGrants = λ parties. record { sets = old.sets; parties = parties; state = book.state; grants = book.grants } in
    let h : State → BookWithGrants = λ s. record { sets = old.sets; parties = old.parties; state = s; grants = book.grants } in
    let i : ℕ → BookWithGrants = λ n. record { sets = old.sets; parties = old.parties; state = state; grants = n } in
    ap f a ∙ (ap g b ∙ (ap h c ∙ ap i d))

-- how many replies brought a seat, with one more reply
abbrev pub grants_with : ℕ → Reply → ℕ
grants_with grants reply = (grants + (if brings_seat reply then 1 else 0)) % 2 ^ 64

-- a run after a step of its book
pub entered_by : (line : AskedLine) (d : PoolRun) (book : BookWithGrants) (places : List Bool) (reply : Reply) → (reply, book.state) ≡ served_at line d → book.sets ≡ d.book.sets → book.parties ≡ d.book.parties
    → book.grants ≡ grants_with d.book.grants reply → places ≡ places_with d.places line reply → record { pool = d.pool; book = book; entries = d.entries + 1; places = places } ≡ entered_at line d
entered_by line d book places reply served sets parties counted moved =
    let state : book.state ≡ (served_at line d).1 = ap (λ (r : Reply × State). r.1) served in
    let said : reply ≡ (served_at line d).0 = ap (λ (r : Reply × State). r.0) served in
    let f : BookWithGrants → PoolRun = λ b. record { pool = d.pool; book = b; entries = d.entries + 1; places = places } in
    let g : List Bool → PoolRun = λ ps. record { pool = d.pool; book = record { sets = d.book.sets; parties = d.book.parties; state = (served_at line d).1; grants = grants_with d.book.grants (served_at line d).0 }; entries = d.entries + 1; places = ps } in
    ap f (same_book book d.book (served_at line d).1 (grants_with d.book.grants (served_at line d).0) sets parties state (counted ∙ ap (grants_with d.book.grants) said)) ∙ ap g (moved ∙ ap (places_with d.places line) said)

-- what holds of each holds of one
pub one_of_all : {X : Type 0} (p : X → Bool) (xs : List X) (i : ℕ) (d : X) → list_all p xs ≡ true → i < length xs → p (get_or xs i d) ≡ true
one_of_all p [] i d h within = absurd (omega arith)
one_of_all p (x ∷ xs) zero d h within = and_left (p x) (list_all p xs) h
one_of_all p (x ∷ xs) (suc i) d h within = one_of_all p xs i d (and_right (p x) (list_all p xs) h) (omega arith)

-- the first elements changed, and the others as they were
abbrev pub changed_to : {X : Type 0} → (X → X) → ℕ → List X → List X
changed_to f i xs = map f (take i xs) ++ drop i xs

-- the next is as it was
pub next_unchanged : {X : Type 0} (f : X → X) (i : ℕ) (xs : List X) (d : X) → get_or (changed_to f i xs) i d ≡ get_or xs i d
next_unchanged f zero xs d = refl
next_unchanged f (suc i) [] d = refl
next_unchanged f (suc i) (x ∷ xs) d = next_unchanged f i xs d

pub next_changed : {X : Type 0} (f : X → X) (i : ℕ) (xs : List X) (d : X) → i < length xs → set (changed_to f i xs) i (f (get_or xs i d)) ≡ changed_to f (suc i) xs
next_changed f i [] d h = absurd (omega arith)
next_changed f zero (x ∷ xs) d h = refl
next_changed f (suc i) (x ∷ xs) d h = ap (λ (ys : List _). f x ∷ ys) (next_changed f i xs d (omega arith))

-- a list, changed at a place that there is
pub changed_set : {X : Type 0} (f : X → X) (i : ℕ) (xs : List X) (d : X) → i < length xs → set xs i (f (get_or xs i d)) ≡ changed_at i f xs
changed_set f i [] d h = absurd (omega arith)
changed_set f zero (x ∷ xs) d h = refl
changed_set f (suc i) (x ∷ xs) d h = ap (λ (ys : List _). x ∷ ys) (changed_set f i xs d (omega arith))

-- one element more was changed
pub changed_more : {X : Type 0} (f : X → X) (i : ℕ) (old now : List X) (d new : X) → i < length old → now ≡ changed_to f i old → new ≡ f (get_or now i d) → set now i new ≡ changed_to f (i + 1) old
changed_more f i old now d new h is e =
    ap (λ (x : _). set now i x) e
    ∙ (ap (λ (xs : List _). set xs i (f (get_or xs i d))) is
    ∙ (ap (λ (x : _). set (changed_to f i old) i (f x)) (next_unchanged f i old d)
    ∙ rw add-one (next_changed f i old d h)))

-- what a run that is ready has
pub record CanTake (sets : ℕ) (line : AskedLine) (d : PoolRun) : Type 0 where
  pub parties : d.book.parties ≡ 256
  pub fits : AsksForSet d.book.sets (request_of line)
  pub few : d.entries < 2 ^ 64 - 1

pub can_take : (sets : ℕ) (line : AskedLine) (d : PoolRun) → IsBelow (set_asked line.kind) sets → is_ready sets d ≡ true → CanTake sets line d
can_take sets line d asks ready =
    let rest : (eqb (length d.book.sets) sets && ltb d.entries (2 ^ 64 - 1)) ≡ true = and_right (eqb d.book.parties 256) (eqb (length d.book.sets) sets && ltb d.entries (2 ^ 64 - 1)) ready in
    let many : length d.book.sets ≡ sets = eqb-true (length d.book.sets) sets (and_left (eqb (length d.book.sets) sets) (ltb d.entries (2 ^ 64 - 1)) rest) in
    record {
      parties = eqb-true d.book.parties 256 (and_left (eqb d.book.parties 256) (eqb (length d.book.sets) sets && ltb d.entries (2 ^ 64 - 1)) ready);
      fits = subst (λ (n : ℕ). IsBelow (set_asked line.kind) n) (sym many) asks;
      few = ltb-true d.entries (2 ^ 64 - 1) (and_right (eqb (length d.book.sets) sets) (ltb d.entries (2 ^ 64 - 1)) rest);
    }

-- the next run is ready, where those before it were entered
pub next_can_take : (sets : ℕ) (line : AskedLine) (i : ℕ) (old now : List PoolRun) (d : PoolRun) → IsBelow (set_asked line.kind) sets → list_all (is_ready sets) old ≡ true → i < length old
    → now ≡ changed_to (entered_at line) i old → CanTake sets line (get_or now i d)
next_can_take sets line i old now d asks ready h is =
    can_take sets line (get_or now i d) asks
    (ap (λ (rs : List PoolRun). is_ready sets (get_or rs i d)) is ∙ (ap (is_ready sets) (next_unchanged (entered_at line) i old d) ∙ one_of_all (is_ready sets) old i d ready h))
