-- The days of a pool, entry by entry.
use Rattle.std.proofs.Common.{◌≡◌, ◌≢◌, ℕ, suc, ◌+◌, ◌*◌, ◌-◌, ◌/◌, ◌<◌, ◌≤◌, ◌^◌, ◌==◌, max, Bool, true, false, not, ◌||◌, cond, List, [], ◌∷◌, ◌++◌, count_by, filter, length, map, Option, None, Some, IfSome, option_to_list, refl, sym, ap, ◌∙◌, subst, arith, append-nil}
use Rattle.std.proofs.Math.Nat.{div-mul-le_self, mul-le-mul_right}
use Rattle.std.proofs.lemmas.Bool.{eq-eqb, eqb-true, ne_eqb}
use Rattle.std.proofs.lemmas.List.{map-append}
use Rattle.std.proofs.lemmas.List.Elements.{filter-append}
use Rattle.std.proofs.lemmas.List.Sums.{count_by-le-length, fold_push, sum_by_push}
use Rattle.std.proofs.lemmas.Nat.{le-div}
use Rattle.std.specs.List.{AllByRecursion}
use Rattle.std.proofs.Math.Bool.{or-true}
use Rattle.options_machine.specs.Rules.{Rules}
use Rattle.options_machine.specs.Run.{after, after_entry, after_from}
use Rattle.options_machine.specs.State.{State, opening}
use Rattle.options_machine.specs.declared.reply.Entry.{Entry}
use Rattle.options_machine.specs.declared.reply.Reply.{Reply}
use Rattle.options_machine.proofs.Counts.{length-filter_le}
use Rattle.options_machine.proofs.Moments.{step_now}
use Rattle.options_machine.proofs.Runs.{after-snoc}
use Rattle.log_audit.specs.Desks.{IsSmallSum}
use Rattle.log_audit.specs.Kept.{AreSummed, AreSummedAt, IsDay, IsIdle, has_entry}
use Rattle.log_audit.specs.Replies.{is_denied, is_grant, is_noseat}
use Rattle.log_audit.specs.Running.{HasRoom, Running, days_with_entry, no_entries, over_at, sum_at, with_entry, with_stretch}
use Rattle.log_audit.specs.Times.{day_of, seat_seconds}
use Rattle.log_audit.specs.Usage.{HeldAfter, begins_on, day_sum, days_of, held_from, is_on, pool_usage, stretches_from, sum_of}
use Rattle.log_audit.specs.declared.day_sum.DaySum.{DaySum}
use Rattle.log_audit.specs.declared.day_sum.Stretch.{Stretch}

-- One element more.

-- an element, where it is kept
abbrev pub one : {X : Type 0} → Bool → X → List X
one true x = x ∷ []
one false x = []

one_kept : {X : Type 0} (p : X → Bool) (x : X) (b : Bool) → p x ≡ b → filter p (x ∷ []) ≡ one b x
one_kept p x true h = rw h refl
one_kept p x false h = rw h refl

pub filter_one : {X : Type 0} (p : X → Bool) (xs : List X) (x : X) (b : Bool) → p x ≡ b → filter p (xs ++ x ∷ []) ≡ filter p xs ++ one b x
filter_one {X = X} p xs x b h = filter-append p xs (x ∷ []) ∙ ap (λ (l : List X). filter p xs ++ l) (one_kept p x b h)

held_more : (sets : List Rules) (s : State) (es : List Entry) (e : Entry)
    → held_from sets s (es ++ e ∷ []) ≡ held_from sets s es ++ record { entry = e; held = length (after_entry sets (after_from sets s es) e).holders } ∷ []
held_more sets s [] e = refl
held_more sets s (x ∷ xs) e =
    let first : HeldAfter = record { entry = x; held = length (after_entry sets s x).holders } in
    ap (λ (l : List HeldAfter). first ∷ l) (held_more sets (after_entry sets s x) xs e)

stretches_more : (sets : List Rules) (s : State) (es : List Entry) (e : Entry)
    → stretches_from sets s (es ++ e ∷ []) ≡ stretches_from sets s es ++ record { from = (after_from sets s es).now; until = e.moment; held = length (after_from sets s es).holders } ∷ []
stretches_more sets s [] e = refl
stretches_more sets s (x ∷ xs) e =
    let first : Stretch = record { from = s.now; until = x.moment; held = length s.holders } in
    ap (λ (l : List Stretch). first ∷ l) (stretches_more sets (after_entry sets s x) xs e)

-- The sums of a day.

with_held : (pool day : ℕ) (hs : List HeldAfter) (xs : List Stretch) (h : HeldAfter) → sum_of pool day (hs ++ h ∷ []) xs ≡ with_entry (sum_of pool day hs xs) h.held h.entry.reply
with_held pool day hs xs h =
    let peak = fold_push (λ (most : ℕ) (x : HeldAfter). max most x.held) 0 hs h in
    let denied = sum_by_push (λ (x : HeldAfter). cond (is_denied x.entry.reply) 1 0) hs h in
    let noseat = sum_by_push (λ (x : HeldAfter). cond (is_noseat x.entry.reply) 1 0) hs h in
    let grants = sum_by_push (λ (x : HeldAfter). cond (is_grant x.entry.reply) 1 0) hs h in
    rw (peak, denied, noseat, grants) refl

with_time : (pool day : ℕ) (hs : List HeldAfter) (xs : List Stretch) (x : Stretch) → sum_of pool day hs (xs ++ x ∷ []) ≡ with_stretch (sum_of pool day hs xs) x
with_time pool day hs xs x =
    let seconds = sum_by_push seat_seconds xs x in
    rw seconds refl

-- the sums with a stretch, where it begins on the day, and an entry, where it is of the day
abbrev grown : Bool → Bool → DaySum → Stretch → ℕ → Reply → DaySum
grown on begins sum x held said = cond on (with_entry (cond begins (with_stretch sum x) sum) held said) (cond begins (with_stretch sum x) sum)

sum_grown : (pool day : ℕ) (hs : List HeldAfter) (xs : List Stretch) (h : HeldAfter) (x : Stretch) (on begins : Bool)
    → sum_of pool day (hs ++ one on h) (xs ++ one begins x) ≡ grown on begins (sum_of pool day hs xs) x h.held h.entry.reply
sum_grown pool day hs xs h x true true = with_held pool day hs (xs ++ x ∷ []) h ∙ ap (λ (sum : DaySum). with_entry sum h.held h.entry.reply) (with_time pool day hs xs x)
sum_grown pool day hs xs h x true false = with_held pool day hs (xs ++ []) h ∙ ap (λ (l : List Stretch). with_entry (sum_of pool day hs l) h.held h.entry.reply) (append-nil xs)
sum_grown pool day hs xs h x false true = ap (λ (l : List HeldAfter). sum_of pool day l (xs ++ x ∷ [])) (append-nil hs) ∙ with_time pool day hs xs x
sum_grown pool day hs xs h x false false = ap (λ (l : List HeldAfter). sum_of pool day l (xs ++ [])) (append-nil hs) ∙ ap (λ (l : List Stretch). sum_of pool day hs l) (append-nil xs)

-- the stretch that an entry behind these ends
abbrev pub stretch_to : List Rules → List Entry → Entry → Stretch
stretch_to sets es e = record { from = (after sets es).now; until = e.moment; held = length (after sets es).holders }

-- how many seats are held after it
abbrev pub held_to : List Rules → List Entry → Entry → ℕ
held_to sets es e = length (after_entry sets (after sets es) e).holders

day_grown : (sets : List Rules) (pool : ℕ) (es : List Entry) (e : Entry) (day : ℕ) (on begins : Bool) → (day_of e.moment == day) ≡ on → (day_of (after sets es).now == day) ≡ begins
    → day_sum sets pool (es ++ e ∷ []) day ≡ grown on begins (day_sum sets pool es day) (stretch_to sets es e) (held_to sets es e) e.reply
day_grown sets pool es e day on begins p q =
    let hs = held_from sets opening es in
    let xs = stretches_from sets opening es in
    let h : HeldAfter = record { entry = e; held = held_to sets es e } in
    let x = stretch_to sets es e in
    ap (λ (l : List HeldAfter). sum_of pool day (filter (is_on day) l) (filter (begins_on day) (stretches_from sets opening (es ++ e ∷ [])))) (held_more sets opening es e)
    ∙ (ap (λ (l : List Stretch). sum_of pool day (filter (is_on day) (hs ++ h ∷ [])) (filter (begins_on day) l)) (stretches_more sets opening es e)
    ∙ (ap (λ (l : List HeldAfter). sum_of pool day l (filter (begins_on day) (xs ++ x ∷ []))) (filter_one (is_on day) hs h on p)
    ∙ (ap (λ (l : List Stretch). sum_of pool day (filter (is_on day) hs ++ one on h) l) (filter_one (begins_on day) xs x begins q)
    ∙ sum_grown pool day (filter (is_on day) hs) (filter (begins_on day) xs) h x on begins)))

-- a day of which neither is has the sums that it had
untouched : (sets : List Rules) (pool : ℕ) (es : List Entry) (e : Entry) (day : ℕ) → day_of e.moment ≢ day → day_of (after sets es).now ≢ day → day_sum sets pool (es ++ e ∷ []) day ≡ day_sum sets pool es day
untouched sets pool es e day p q = day_grown sets pool es e day false false (ne_eqb (day_of e.moment) day p) (ne_eqb (day_of (after sets es).now) day q)

-- The days.

has_last : (day : ℕ) (es : List Entry) (e : Entry) → (day_of e.moment == day) ≡ true → has_entry day (es ++ e ∷ []) ≡ true
has_last day [] e h = rw h refl
has_last day (x ∷ xs) e h = ap (λ (b : Bool). (day_of x.moment == day) || b) (has_last day xs e h) ∙ or-true (day_of x.moment == day)

has_other : (day : ℕ) (es : List Entry) (e : Entry) → (day_of e.moment == day) ≡ false → has_entry day (es ++ e ∷ []) ≡ has_entry day es
has_other day [] e h = rw h refl
has_other day (x ∷ xs) e h = ap (λ (b : Bool). (day_of x.moment == day) || b) (has_other day xs e h)

same_turned : (a b : ℕ) (test : Bool) → (a == b) ≡ test → (b == a) ≡ test
same_turned a b true h = eq-eqb b a (sym (eqb-true a b h))
same_turned a b false h = ne_eqb b a (λ e. let t = eq-eqb a b (sym e) in cc)

-- whether the day of an entry is new behind these and one before them
new_behind : (day first : ℕ) (same has : Bool) → (first == day) ≡ same → filter (λ (d : ℕ). not (d == first)) (one (not has) day) ≡ one (not (same || has)) day
new_behind day first true true h = refl
new_behind day first false true h = refl
new_behind day first true false h = let turned = same_turned first day true h in rw turned refl
new_behind day first false false h = let turned = same_turned first day false h in rw turned refl

days_more : (es : List Entry) (e : Entry) → days_of (es ++ e ∷ []) ≡ days_of es ++ one (not (has_entry (day_of e.moment) es)) (day_of e.moment)
days_more [] e = refl
days_more (x ∷ xs) e =
    let day = day_of e.moment in
    let first = day_of x.moment in
    let others : ℕ → Bool = λ d. not (d == first) in
    ap (λ (l : List ℕ). first ∷ filter others l) (days_more xs e)
    ∙ (ap (λ (l : List ℕ). first ∷ l) (filter-append others (days_of xs) (one (not (has_entry day xs)) day))
    ∙ ap (λ (l : List ℕ). first ∷ (filter others (days_of xs) ++ l)) (new_behind day first (first == day) (has_entry day xs) refl))

-- Moments.

-- days come in the order of their moments
pub day_rises : (a b : ℕ) → a ≤ b → day_of a ≤ day_of b
day_rises a b h =
    let whole : a / 86400 * 86400 ≤ b = omega (arith, div-mul-le_self a 86400) in
    let low : a / 86400 ≤ b / 86400 = le-div (a / 86400) b 86400 (omega arith) whole in
    omega arith

-- the moment that an entry leaves is its own
pub now_more : (sets : List Rules) (es : List Entry) (e : Entry) → (after sets es).now ≤ e.moment → e.moment < 2 ^ 40 → (after sets (es ++ e ∷ [])).now ≡ e.moment
now_more sets es e later small =
    let is : (after sets (es ++ e ∷ [])).now ≡ (after_entry sets (after sets es) e).now = ap (λ (s : State). s.now) (after-snoc sets opening es e) in
    let moved = step_now sets (after sets es) e.request e.moment in
    is ∙ (moved ∙ omega arith)

-- The first entry.

idle_stretch : (pool day : ℕ) (x : Stretch) (b : Bool) → x.held ≡ 0 → cond b (with_stretch (no_entries pool day) x) (no_entries pool day) ≡ no_entries pool day
idle_stretch pool day x true none =
    let nothing : 0 + x.held * (x.until - x.from) ≡ 0 = rw none (omega arith) in
    ap (λ (n : ℕ). with_seconds n) nothing
  where
    with_seconds : ℕ → DaySum
    with_seconds n = record { pool = pool; day = day; peak = 0; seconds = n; denied = 0; noseat = 0; grants = 0 }
idle_stretch pool day x false none = refl

-- the sums of the first day
first_day : (sets : List Rules) (pool : ℕ) (e : Entry) → e.moment < 2 ^ 40 → IsDay sets pool (e ∷ []) [] (with_entry (no_entries pool (day_of e.moment)) (held_to sets [] e) e.reply)
first_day sets pool e small =
    let day = day_of e.moment in
    let x = stretch_to sets [] e in
    let own : (day == day) ≡ true = eq-eqb day day refl in
    let sum : day_sum sets pool (e ∷ []) day ≡ with_entry (no_entries pool day) (held_to sets [] e) e.reply =
    day_grown sets pool [] e day true (day_of 0 == day) own refl
    ∙ ap (λ (s : DaySum). with_entry s (held_to sets [] e) e.reply) (idle_stretch pool day x (day_of 0 == day) refl) in
    record {
      before = [];
      days = refl;
      earlier = tt;
      sums = refl;
      last = sym sum;
      some = has_last day [] e own;
      now = ap day_of (sym (now_more sets [] e (omega arith) small));
      later = λ d h. (let other : (day_of e.moment == d) ≡ false = ne_eqb (day_of e.moment) d (λ same. absurd (omega arith)) in record {
        without = has_other d [] e other;
        empty = day_grown sets pool [] e d false (day_of 0 == d) other refl ∙ idle_stretch pool d x (day_of 0 == d) refl;
      });
      seconds = omega arith;
    }

-- Further entries.

-- a day behind them that has none still has none
idle_more : (sets : List Rules) (pool : ℕ) (es : List Entry) (e : Entry) (day : ℕ) → day_of e.moment < day → day_of (after sets es).now < day → IsIdle sets pool es day → IsIdle sets pool (es ++ e ∷ []) day
idle_more sets pool es e day h k idle = record {
  without = has_other day es e (ne_eqb (day_of e.moment) day (λ same. absurd (omega arith))) ∙ idle.without;
  empty = untouched sets pool es e day (λ same. absurd (omega arith)) (λ same. absurd (omega arith)) ∙ idle.empty;
}

-- days before both have the sums that they had
sums_stay : (sets : List Rules) (pool : ℕ) (es : List Entry) (e : Entry) (days : List ℕ) (last : ℕ) → last ≤ day_of e.moment → last ≤ day_of (after sets es).now → AllByRecursion (λ (day : ℕ). day < last) days
    → map (day_sum sets pool es) days ≡ map (day_sum sets pool (es ++ e ∷ [])) days
sums_stay sets pool es e [] last h k earlier = refl
sums_stay sets pool es e (day ∷ days) last h k earlier =
    let low = earlier.0 in
    let first : day_sum sets pool es day ≡ day_sum sets pool (es ++ e ∷ []) day = sym (untouched sets pool es e day (λ same. absurd (omega arith)) (λ same. absurd (omega arith))) in
    let others = sums_stay sets pool es e days last h k earlier.1 in
    ap (λ (s : DaySum). s ∷ map (day_sum sets pool es) days) first ∙ ap (λ (l : List DaySum). day_sum sets pool (es ++ e ∷ []) day ∷ l) others

earlier_more : (days : List ℕ) (last day : ℕ) → last < day → AllByRecursion (λ (d : ℕ). d < last) days → AllByRecursion (λ (d : ℕ). d < day) (days ++ last ∷ [])
earlier_more [] last day h earlier = (h, tt)
earlier_more (d ∷ days) last day h earlier = (let low = earlier.0 in omega arith, earlier_more days last day h earlier.1)

-- one entry more of the day of the last one
same_day : (sets : List Rules) (pool : ℕ) (es : List Entry) (over : List DaySum) (sum : DaySum) (e : Entry) → (after sets es).now ≤ e.moment → e.moment < 2 ^ 40 → length (after sets es).holders ≤ 65535
    → IsDay sets pool es over sum → sum.day ≡ day_of e.moment → IsDay sets pool (es ++ e ∷ []) over (with_entry (with_stretch sum (stretch_to sets es e)) (held_to sets es e) e.reply)
same_day sets pool es over sum e later small few k same =
    let day = day_of e.moment in
    let now = (after sets es).now in
    let held = length (after sets es).holders in
    let x = stretch_to sets es e in
    let k_now = k.now in
    let k_seconds = k.seconds in
    let then = now_more sets es e later small in
    let room : held * (e.moment - now) ≤ 65535 * (e.moment - now) = mul-le-mul_right (e.moment - now) few in
    record {
      before = k.before;
      days = days_more es e ∙ (ap (λ (b : Bool). days_of es ++ one (not b) day) (subst (λ (d : ℕ). has_entry d es ≡ true) same k.some) ∙ (append-nil (days_of es) ∙ k.days));
      earlier = k.earlier;
      sums = k.sums ∙ sums_stay sets pool es e k.before sum.day (omega arith) (omega arith) k.earlier;
      last = ap (λ (s : DaySum). with_entry (with_stretch s x) (held_to sets es e) e.reply) k.last
          ∙ sym (day_grown sets pool es e sum.day true true (eq-eqb day sum.day (sym same)) (eq-eqb (day_of now) sum.day (sym k.now)));
      some = has_last sum.day es e (eq-eqb day sum.day (sym same));
      now = same ∙ ap day_of (sym then);
      later = λ d h. idle_more sets pool es e d (omega arith) (omega arith) (k.later d h);
      seconds = omega arith;
    }

-- the first entry of a later day
next_day : (sets : List Rules) (pool : ℕ) (es : List Entry) (over : List DaySum) (sum : DaySum) (e : Entry) → (after sets es).now ≤ e.moment → e.moment < 2 ^ 40 → IsDay sets pool es over sum → sum.day ≢ day_of e.moment
    → IsDay sets pool (es ++ e ∷ []) (over ++ with_stretch sum (stretch_to sets es e) ∷ []) (with_entry (no_entries pool (day_of e.moment)) (held_to sets es e) e.reply)
next_day sets pool es over sum e later small k other =
    let day = day_of e.moment in
    let now = (after sets es).now in
    let x = stretch_to sets es e in
    let k_now = k.now in
    let then = now_more sets es e later small in
    let rise : day_of now ≤ day = day_rises now e.moment later in
    let past : sum.day < day = omega arith in
    let idle = k.later day past in
    let all = es ++ e ∷ [] in
    let closed : with_stretch sum x ≡ day_sum sets pool all sum.day =
    ap (λ (s : DaySum). with_stretch s x) k.last
    ∙ sym (day_grown sets pool es e sum.day false true (ne_eqb day sum.day (λ same. other (sym same))) (eq-eqb (day_of now) sum.day (sym k.now))) in
    record {
      before = k.before ++ sum.day ∷ [];
      days = days_more es e ∙ (ap (λ (b : Bool). days_of es ++ one (not b) day) idle.without ∙ ap (λ (l : List ℕ). l ++ day ∷ []) k.days);
      earlier = earlier_more k.before sum.day day past k.earlier;
      sums = ap (λ (l : List DaySum). l ++ with_stretch sum x ∷ []) (k.sums ∙ sums_stay sets pool es e k.before sum.day (omega arith) (omega arith) k.earlier)
          ∙ (ap (λ (s : DaySum). map (day_sum sets pool all) k.before ++ s ∷ []) closed
          ∙ sym (map-append (day_sum sets pool all) k.before (sum.day ∷ [])));
      last = ap (λ (s : DaySum). with_entry s (held_to sets es e) e.reply) (sym idle.empty)
          ∙ sym (day_grown sets pool es e day true false (eq-eqb day day refl) (ne_eqb (day_of now) day (λ same. absurd (omega arith))));
      some = has_last day es e (eq-eqb day day refl);
      now = ap day_of (sym then);
      later = λ d h. idle_more sets pool es e d h (omega arith) (k.later d (omega arith));
      seconds = omega arith;
    }

by_day : (sets : List Rules) (pool : ℕ) (es : List Entry) (over : List DaySum) (sum : DaySum) (e : Entry) (b : Bool) → (sum.day == day_of e.moment) ≡ b
    → (after sets es).now ≤ e.moment → e.moment < 2 ^ 40 → length (after sets es).holders ≤ 65535 → IsDay sets pool es over sum
    → IsDay sets pool (es ++ e ∷ []) (cond b over (over ++ with_stretch sum (stretch_to sets es e) ∷ []))
    (with_entry (cond b (with_stretch sum (stretch_to sets es e)) (no_entries pool (day_of e.moment))) (held_to sets es e) e.reply)
by_day sets pool es over sum e true h later small few k = same_day sets pool es over sum e later small few k (eqb-true sum.day (day_of e.moment) h)
by_day sets pool es over sum e false h later small few k = next_day sets pool es over sum e later small k (λ same. let t = eq-eqb sum.day (day_of e.moment) same in cc)

more_at : (sets : List Rules) (pool : ℕ) (es : List Entry) (over : List DaySum) (last : Option DaySum) (e : Entry)
    → (after sets es).now ≤ e.moment → e.moment < 2 ^ 40 → length (after sets es).holders ≤ 65535 → AreSummedAt sets pool es over last
    → IsDay sets pool (es ++ e ∷ []) (over_at over last (stretch_to sets es e)) (with_entry (sum_at last pool (stretch_to sets es e)) (held_to sets es e) e.reply)
more_at sets pool es over None e later small few k =
    subst (λ (l : List Entry). IsDay sets pool (l ++ e ∷ []) over (with_entry (no_entries pool (day_of e.moment)) (held_to sets l e) e.reply)) (sym k.0)
    (subst (λ (l : List DaySum). IsDay sets pool (e ∷ []) l (with_entry (no_entries pool (day_of e.moment)) (held_to sets [] e) e.reply)) (sym k.1) (first_day sets pool e small))
more_at sets pool es over (Some sum) e later small few k = by_day sets pool es over sum e (sum.day == day_of e.moment) refl later small few k

-- the days stay summed with each entry
pub summed_more : (sets : List Rules) (pool : ℕ) (es : List Entry) (r : Running) (e : Entry)
    → (after sets es).now ≤ e.moment → e.moment < 2 ^ 40 → length (after sets es).holders ≤ 65535 → AreSummed sets pool es r
    → AreSummed sets pool (es ++ e ∷ []) (days_with_entry r pool (stretch_to sets es e) (held_to sets es e) e.reply)
summed_more sets pool es r e later small few k = more_at sets pool es r.over r.last e later small few k

told_at : (sets : List Rules) (pool : ℕ) (es : List Entry) (over : List DaySum) (last : Option DaySum) → AreSummedAt sets pool es over last → over ++ option_to_list last ≡ pool_usage sets pool es
told_at sets pool es over None k = append-nil over ∙ (k.1 ∙ ap (pool_usage sets pool) (sym k.0))
told_at sets pool es over (Some sum) k =
    ap (λ (l : List DaySum). l ++ sum ∷ []) k.sums
    ∙ (ap (λ (s : DaySum). map (day_sum sets pool es) k.before ++ s ∷ []) k.last
    ∙ (sym (map-append (day_sum sets pool es) k.before (sum.day ∷ [])) ∙ ap (map (day_sum sets pool es)) (sym k.days)))

-- they tell the usage of the pool
pub told : (sets : List Rules) (pool : ℕ) (es : List Entry) (r : Running) → AreSummed sets pool es r → r.over ++ option_to_list r.last ≡ pool_usage sets pool es
told sets pool es r k = told_at sets pool es r.over r.last k

-- How large the sums are.

held_each : (sets : List Rules) (s : State) (es : List Entry) → length (held_from sets s es) ≡ length es
held_each sets s [] = refl
held_each sets s (e ∷ es) = ap suc (held_each sets (after_entry sets s e) es)

few_counted : (p : HeldAfter → Bool) (sets : List Rules) (es : List Entry) (day : ℕ) → count_by p (filter (is_on day) (held_from sets opening es)) ≤ length es
few_counted p sets es day =
    omega (arith, count_by-le-length p (filter (is_on day) (held_from sets opening es)), length-filter_le (is_on day) (held_from sets opening es), held_each sets opening es)

pub small_sum : (sets : List Rules) (pool : ℕ) (es : List Entry) (over : List DaySum) (last : Option DaySum) (entries now : ℕ) → entries ≡ length es → now ≡ (after sets es).now → AreSummedAt sets pool es over last
    → IfSome last (IsSmallSum entries now)
small_sum sets pool es over None entries now h n k = tt
small_sum sets pool es over (Some sum) entries now h n k =
    let k_seconds = k.seconds in
    record {
      denied = omega (arith, ap (λ (s : DaySum). s.denied) k.last, few_counted (λ (x : HeldAfter). is_denied x.entry.reply) sets es sum.day);
      noseat = omega (arith, ap (λ (s : DaySum). s.noseat) k.last, few_counted (λ (x : HeldAfter). is_noseat x.entry.reply) sets es sum.day);
      grants = omega (arith, ap (λ (s : DaySum). s.grants) k.last, few_counted (λ (x : HeldAfter). is_grant x.entry.reply) sets es sum.day);
      seconds = omega arith;
    }

-- so there is room for one entry more
pub has_room : (last : Option DaySum) (entries now : ℕ) → entries < 2 ^ 64 - 1 → IfSome last (IsSmallSum entries now) → IfSome last HasRoom
has_room None entries now h small = tt
has_room (Some sum) entries now h small =
    let denied = small.denied in
    let noseat = small.noseat in
    let grants = small.grants in
    record { denied = omega arith; noseat = omega arith; grants = omega arith }

pub has_time : (last : Option DaySum) (entries now until held : ℕ) → now ≤ until → until < 2 ^ 40 → held ≤ 65535 → IfSome last (IsSmallSum entries now) → IfSome last (λ (sum : DaySum). sum.seconds + held * (until - now) < 2 ^ 64)
has_time None entries now until held order within few small = tt
has_time (Some sum) entries now until held order within few small =
    let seconds = small.seconds in
    let room : held * (until - now) ≤ 65535 * (until - now) = mul-le-mul_right (until - now) few in
    omega arith
