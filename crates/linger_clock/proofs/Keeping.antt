-- The same deadlines twice, by their moments and by their owners, through a new one and through one that goes.
use Rattle.std.proofs.Common.{◌≡◌, ℕ, ◌+◌, ◌<◌, ◌≤◌, Bool, true, false, true≢false, cond, not, ◌&&◌, eqb, List, [], ◌∷◌, Option, Some, None, length, slice_get, filter, find, IsNone, IsSome, IsTrue, refl, sym, ap, ◌∙◌, arith}
use Rattle.std.specs.Option.{option_map}
use Rattle.std.specs.List.{All}
use Rattle.std.proofs.lemmas.Bool.Decides.{nat_tests}
use Rattle.std.proofs.lemmas.List.Elements.{filter_agree, All-cons, All-head, All-tail, All-weaker, All-filter}
use Rattle.linger_clock.specs.declared.Deadline.{Deadline}
use Rattle.linger_clock.specs.declared.tree.Order.{Order}
use Rattle.linger_clock.specs.declared.tree.Order.TheVariants.{ByMoment, ByOwner}
use Rattle.linger_clock.specs.Deadlines.{is_before, is_of, is_due, until_of, without, with_deadline, AllAfter, IsInOrder, HasDistinctOwners}
use Rattle.linger_clock.specs.Ranks.{comes_before, ties, AllFollow, IsRanked, ranked_in}
use Rattle.linger_clock.specs.Kept.{IsKept}
use Rattle.linger_clock.proofs.Pairs.{put, placed-put, IsClock-placed, IsClock-without}
use Rattle.linger_clock.proofs.Ranks.{follow_before}

-- deadlines in order are ranked by their moments
follow_moment : (d : Deadline) (ds : List Deadline) → AllAfter d ds → AllFollow ByMoment d ds
follow_moment d [] a = tt
follow_moment d (e ∷ es) a = (a.0, follow_moment d es a.1)

pub ranked_moment : (ds : List Deadline) → IsInOrder ds → IsRanked ByMoment ds
ranked_moment [] s = tt
ranked_moment (d ∷ ds) s = (follow_moment d ds s.0, ranked_moment ds s.1)

pub ranked_in-put : (d : Deadline) (ds : List Deadline) → ranked_in ByMoment d ds ≡ put d ds
ranked_in-put d [] = refl
ranked_in-put d (e ∷ es) = ap (λ xs. cond (is_before d e) (d ∷ e ∷ es) (e ∷ xs)) (ranked_in-put d es)

-- by owner, two tie where they are of one owner
owner_ties : (d e : Deadline) → ties ByOwner d e ≡ is_of d.owner e
owner_ties d e = grind (arith, nat_tests)

find_same : (p q : Deadline → Bool) → ((d : Deadline) → p d ≡ q d) → (ds : List Deadline) → find p ds ≡ find q ds
find_same p q same [] = refl
find_same p q same (d ∷ ds) = rw (same d) (ap (λ r. cond (q d) (Some d) r) (find_same p q same ds))

pub find_owner : (d : Deadline) (ds : List Deadline) → find (ties ByOwner d) ds ≡ find (is_of d.owner) ds
find_owner d ds = find_same (ties ByOwner d) (is_of d.owner) (owner_ties d) ds

other_first : (a b : Bool) → not a && not b ≡ false → a ≡ false → b ≡ true
other_first true b h e = absurd (true≢false e)
other_first false true h e = refl
other_first false false h e = absurd (true≢false h)

AllFollow-ranked_in : (o : Order) (x d : Deadline) (ds : List Deadline) → IsTrue (comes_before o x d) → AllFollow o x ds → AllFollow o x (ranked_in o d ds)
AllFollow-ranked_in o x d [] h a = (h, tt)
AllFollow-ranked_in o x d (e ∷ es) h a = elim (comes_before o d e) as (λ b. AllFollow o x (cond b (d ∷ e ∷ es) (e ∷ ranked_in o d es))) [ true ↦ (h, a) | false ↦ (a.0, AllFollow-ranked_in o x d es h a.1) ]

-- one that ties with none goes in at its rank
ranked-ranked_in : (o : Order) (d : Deadline) (ds : List Deadline) → IsRanked o ds → find (ties o d) ds ≡ None → IsRanked o (ranked_in o d ds)
ranked-ranked_in o d [] s h = (tt, tt)
ranked-ranked_in o d (e ∷ es) s h = by (comes_before o d e) refl (ranked-ranked_in o d es s.1)
  where
    apart : (b : Bool) → ties o d e ≡ b → (b ≡ false) × (find (ties o d) es ≡ None)
    apart true t = absurd (cc)
    apart false t = (refl, rw t at h)

    by : (b : Bool) → comes_before o d e ≡ b → (find (ties o d) es ≡ None → IsRanked o (ranked_in o d es)) → IsRanked o (ranked_in o d (e ∷ es))
    by true first rest = rw first ((first, follow_before o d e es first s.0), s)
    by false last rest =
        let no_tie = apart (ties o d e) refl in
        rw last (AllFollow-ranked_in o e d es (other_first (comes_before o d e) (comes_before o e d) no_tie.0 last) s.0, rest no_tie.1)

AllFollow-filter : (o : Order) (p : Deadline → Bool) (d : Deadline) (ds : List Deadline) → AllFollow o d ds → AllFollow o d (filter p ds)
AllFollow-filter o p d [] a = tt
AllFollow-filter o p d (e ∷ es) a = elim (p e) as (λ b. AllFollow o d (cond b (e ∷ filter p es) (filter p es))) [ true ↦ (a.0, AllFollow-filter o p d es a.1) | false ↦ AllFollow-filter o p d es a.1 ]

ranked-filter : (o : Order) (p : Deadline → Bool) (ds : List Deadline) → IsRanked o ds → IsRanked o (filter p ds)
ranked-filter o p [] s = tt
ranked-filter o p (d ∷ ds) s = elim (p d) as (λ b. IsRanked o (cond b (d ∷ filter p ds) (filter p ds))) [ true ↦ (AllFollow-filter o p d ds s.0, ranked-filter o p ds s.1) | false ↦ ranked-filter o p ds s.1 ]

-- what a new deadline adds
pub until_of-ranked_in : (o : Order) (d : Deadline) (q : ℕ) (ds : List Deadline) → IsNone (until_of d.owner ds) → until_of q (ranked_in o d ds) ≡ cond (is_of q d) (Some d.until) (until_of q ds)
until_of-ranked_in o d q [] h = grind arith
until_of-ranked_in o d q (e ∷ es) h = grind (arith, nat_tests, until_of-ranked_in o d q es)

length-ranked_in : (o : Order) (d : Deadline) (ds : List Deadline) → length (ranked_in o d ds) ≡ length ds + 1
length-ranked_in o d [] = refl
length-ranked_in o d (e ∷ es) = grind (arith, length-ranked_in o d es)

-- by owner, no owner comes twice
owner_below : (d : Deadline) (ds : List Deadline) → AllFollow ByOwner d ds → IsNone (until_of d.owner ds)
owner_below d [] a = refl
owner_below d (e ∷ es) a = grind (arith, nat_tests, a.0, owner_below d es a.1)

distinct_ranked : (ds : List Deadline) → IsRanked ByOwner ds → HasDistinctOwners ds
distinct_ranked [] s = tt
distinct_ranked (d ∷ ds) s = (owner_below d ds s.0, distinct_ranked ds s.1)

-- where one goes, it is the owner's one
taken_absent : (d : Deadline) (ds : List Deadline) → IsNone (until_of d.owner ds) → filter (λ e. not (ties ByMoment d e)) ds ≡ without d.owner ds
taken_absent d [] h = refl
taken_absent d (e ∷ es) h =
    let other : is_of d.owner e ≡ false = grind arith in
    let no_tie : ties ByMoment d e ≡ false = grind (arith, nat_tests) in
    rw (other, no_tie) (ap (λ xs. e ∷ xs) (taken_absent d es (grind arith)))

taken_moment : (d : Deadline) (ds : List Deadline) → HasDistinctOwners ds → until_of d.owner ds ≡ Some d.until → filter (λ e. not (ties ByMoment d e)) ds ≡ without d.owner ds
taken_moment d [] s h = refl
taken_moment d (e ∷ es) s h = by (is_of d.owner e) refl (taken_moment d es s.1)
  where
    by : (b : Bool) → is_of d.owner e ≡ b → (until_of d.owner es ≡ Some d.until → filter (λ x. not (ties ByMoment d x)) es ≡ without d.owner es) → filter (λ x. not (ties ByMoment d x)) (e ∷ es) ≡ without d.owner (e ∷ es)
    by true own rest =
        let moment : e.until ≡ d.until = cc in
        let tied : ties ByMoment d e ≡ true = grind (arith, nat_tests) in
        rw (own, tied) (taken_absent d es (grind (arith, nat_tests, s.0)))
    by false other rest =
        let no_tie : ties ByMoment d e ≡ false = grind (arith, nat_tests) in
        rw (other, no_tie) (ap (λ xs. e ∷ xs) (rest (rw other at h)))

taken_owner : (d : Deadline) (ds : List Deadline) → filter (λ e. not (ties ByOwner d e)) ds ≡ without d.owner ds
taken_owner d ds = filter_agree (λ e. not (ties ByOwner d e)) (λ e. not (is_of d.owner e)) (λ e. ap (λ b. not b) (owner_ties d e)) ds

pub there_by_moment : (d : Deadline) (ds : List Deadline) → until_of d.owner ds ≡ Some d.until → IsSome (find (ties ByMoment d) ds)
there_by_moment d [] h = absurd (cc)
there_by_moment d (e ∷ es) h = by (is_of d.owner e) refl (there_by_moment d es)
  where
    by : (b : Bool) → is_of d.owner e ≡ b → (until_of d.owner es ≡ Some d.until → IsSome (find (ties ByMoment d) es)) → IsSome (find (ties ByMoment d) (e ∷ es))
    by true own rest =
        let moment : e.until ≡ d.until = cc in
        let tied : ties ByMoment d e ≡ true = grind (arith, nat_tests) in
        rw tied refl
    by false other rest =
        let no_tie : ties ByMoment d e ≡ false = grind (arith, nat_tests) in
        rw no_tie (rest (rw other at h))

some_found : (r : Option Deadline) (u : ℕ) → option_map (λ d. d.until) r ≡ Some u → IsSome r
some_found None u h = absurd (cc)
some_found (Some x) u h = refl

pub until_of-without : (owner q : ℕ) (ds : List Deadline) → until_of q (without owner ds) ≡ cond (eqb q owner) None (until_of q ds)
until_of-without owner q [] = elim (eqb q owner) as (λ b. ◌≡◌ {A = Option ℕ} None (cond b None None)) [ true ↦ refl | false ↦ refl ]
until_of-without owner q (d ∷ ds) = grind (arith, nat_tests, until_of-without owner q ds)

length_absent : (owner : ℕ) (ds : List Deadline) → IsNone (until_of owner ds) → length (without owner ds) ≡ length ds
length_absent owner [] h = refl
length_absent owner (d ∷ ds) h = grind (arith, length_absent owner ds)

pub length-without : (owner : ℕ) (ds : List Deadline) → HasDistinctOwners ds → IsSome (until_of owner ds) → length (without owner ds) + 1 ≡ length ds
length-without owner [] s h = absurd (true≢false (sym h))
length-without owner (d ∷ ds) s h = grind (arith, nat_tests, s.0, length_absent owner ds, length-without owner ds s.1)

-- what holds of a new deadline and of all others holds of all
All-ranked_in : (o : Order) (P : Deadline → Type 0) (d : Deadline) (ds : List Deadline) → P d → All P ds → All P (ranked_in o d ds)
All-ranked_in o P d [] h a = All-cons P d [] h a
All-ranked_in o P d (e ∷ es) h a = elim (comes_before o d e) as (λ b. All P (cond b (d ∷ e ∷ es) (e ∷ ranked_in o d es))) [
  | true ↦ All-cons P d (e ∷ es) h a
  | false ↦ All-cons P e (ranked_in o d es) (All-head P e es a) (All-ranked_in o P d es h (All-tail P e es a))
]

-- an owner that neither has gets a deadline in both
pub added_moment : (room : ℕ) (d : Deadline) (ds os : List Deadline) {earliest spare capacity : ℕ} → IsKept room earliest ds os spare capacity → IsNone (until_of d.owner ds) → ranked_in ByMoment d ds ≡ with_deadline d ds
added_moment room d ds os k h = ranked_in-put d ds ∙ sym (placed-put d ds k.sound.in_order h)

none_found : (r : Option Deadline) → IsNone (option_map (λ d. d.until) r) → r ≡ None
none_found None h = refl
none_found (Some x) h = absurd (true≢false h)

pub kept_added : (room earliest sooner : ℕ) (d : Deadline) (ds os : List Deadline) (spare left capacity larger : ℕ) → IsKept room earliest ds os spare capacity → IsNone (until_of d.owner ds) → left + 2 ≡ spare → capacity ≤ larger → sooner ≤ earliest → sooner ≤ d.until → IsKept room sooner (ranked_in ByMoment d ds) (ranked_in ByOwner d os) left larger
kept_added room earliest sooner d ds os spare left capacity larger k h two grows below_all below_new =
    let absent : IsNone (until_of d.owner os) = rw (k.same d.owner) h in
    let alone = find_owner d os ∙ none_found (find (is_of d.owner) os) absent in
    record {
      sound = rw (added_moment room d ds os k h) (IsClock-placed room ds d k.sound h (omega (arith, k.spare_left)));
      ranked = ranked-ranked_in ByOwner d os k.ranked alone;
      same = λ q. until_of-ranked_in ByOwner d q os absent ∙ ap (λ r. cond (is_of q d) (Some d.until) r) (k.same q) ∙ sym (until_of-ranked_in ByMoment d q ds h);
      as_many = length-ranked_in ByOwner d os ∙ ap (λ n. n + 1) k.as_many ∙ sym (length-ranked_in ByMoment d ds);
      spare_left = omega (arith, k.spare_left, length-ranked_in ByMoment d ds);
      roomy = omega (arith, k.roomy);
      not_earlier = All-ranked_in ByMoment (λ e. sooner ≤ e.until) d ds below_new (All-weaker (λ e. earliest ≤ e.until) (λ e. sooner ≤ e.until) (λ e h. omega (arith, h, below_all)) ds k.not_earlier);
    }

-- one that waits goes from both
pub removed_moment : (room : ℕ) (d : Deadline) (ds os : List Deadline) {earliest spare capacity : ℕ} → IsKept room earliest ds os spare capacity → until_of d.owner ds ≡ Some d.until → filter (λ e. not (ties ByMoment d e)) ds ≡ without d.owner ds
removed_moment room d ds os k h = taken_moment d ds k.sound.distinct h

pub kept_removed : (room earliest : ℕ) (d : Deadline) (ds os : List Deadline) (spare left capacity larger : ℕ) → IsKept room earliest ds os spare capacity → until_of d.owner ds ≡ Some d.until → left ≡ spare + 2 → capacity ≤ larger → IsKept room earliest (filter (λ e. not (ties ByMoment d e)) ds) (filter (λ e. not (ties ByOwner d e)) os) left larger
kept_removed room earliest d ds os spare left capacity larger k h two grows =
    let in_owners = k.same d.owner ∙ h in
    let shorter = length-without d.owner ds k.sound.distinct (rw h refl) in
    let shorter_owners = length-without d.owner os (distinct_ranked os k.ranked) (rw in_owners refl) in
    rw (removed_moment room d ds os k h, taken_owner d os) (record {
      sound = IsClock-without room ds d.owner k.sound;
      ranked = ranked-filter ByOwner (λ e. not (is_of d.owner e)) os k.ranked;
      same = λ q. until_of-without d.owner q os ∙ ap (λ r. cond (eqb q d.owner) None r) (k.same q) ∙ sym (until_of-without d.owner q ds);
      as_many = omega (arith, k.as_many);
      spare_left = omega (arith, k.spare_left);
      roomy = omega (arith, k.roomy);
      not_earlier = All-filter (λ e. not (is_of d.owner e)) (λ e. earliest ≤ e.until) ds k.not_earlier;
    })

-- a clock may know another moment before which none falls due
pub kept_later : {room earliest spare capacity : ℕ} {ds os : List Deadline} (later : ℕ) → IsKept room earliest ds os spare capacity → All (λ d. later ≤ d.until) ds → IsKept room later ds os spare capacity
kept_later later k none_before = record {
  sound = k.sound;
  ranked = k.ranked;
  same = k.same;
  as_many = k.as_many;
  spare_left = k.spare_left;
  roomy = k.roomy;
  not_earlier = none_before;
}

-- of no deadlines none is found
pub none_first : (p : Deadline → Bool) (ds : List Deadline) → slice_get ds 0 ≡ None → find p ds ≡ None
none_first p [] h = refl
none_first p (e ∷ es) h = absurd (cc)

-- before a moment before which none falls due, none has come
pub none_before : (now earliest : ℕ) (ds : List Deadline) → All (λ d. earliest ≤ d.until) ds → now < earliest → find (is_due now) ds ≡ None
none_before now earliest [] a h = refl
none_before now earliest (d ∷ ds) a h =
    let later = All-head (λ e. earliest ≤ e.until) d ds a in
    let not_due : is_due now d ≡ false = grind (arith, nat_tests) in
    rw not_due (none_before now earliest ds (All-tail (λ e. earliest ≤ e.until) d ds a) h)
