-- The grants of users, counted one after another.
use Rattle.std.proofs.Common.{◌≡◌, ℕ, ◌+◌, ◌<◌, ◌^◌, nat_eq, Bool, true, false, ◌&&◌, cond, List, [], ◌∷◌, ◌++◌, count_by, map, take, Option, Some, refl, sym, ap, ◌∙◌, subst, arith}
use Rattle.std.proofs.lemmas.List.Sums.{count_by-le-length, sum_by_push}
use Rattle.std.proofs.lemmas.Map.Text.{is_eq-slice_cmp}
use Rattle.std.specs.BTreeMap.{insert_entry, is_at}
use Rattle.std.specs.Cmp.Lexicographic.{bytes_decides, nat_list_eq_equiv, pointwise, slice_cmp}
use Rattle.std.specs.List.{AllByRecursion}
use Rattle.std.specs.List.Sorted.{IsStrictlySortedBy}
use Rattle.std.specs.Map.{keys_of, lookup}
use Rattle.std.specs.Option.{unwrap_or}
use Rattle.std.specs.Ordering.{is_eq, match_ordering, nat_cmp}
use Rattle.std.specs.declared.cmp.Ordering.{Ordering}
use Rattle.std.specs.declared.cmp.Ordering.TheVariants.{Less, Equal, Greater}
use Rattle.options_machine.specs.declared.reply.Entry.{Entry}
use Rattle.log_audit.specs.Audit.{entry_of}
use Rattle.log_audit.specs.Grants.{CountsOne, counted_of, name_order}
use Rattle.log_audit.specs.Replies.{is_grant}
use Rattle.log_audit.specs.Summed.{AreUsers, grants, is_grant_of, told_of}
use Rattle.log_audit.specs.declared.log.Numbered.{Numbered}
use Rattle.log_audit.specs.declared.users.UserSum.{UserSum}
use Rattle.log_audit.proofs.Pools.{take_short}

same_is : (a b : List ℕ) → pointwise nat_eq a b ≡ true → a ≡ b
same_is a b h = (bytes_decides a b).0 h

-- the number at a user's key
pub finds : (name : List ℕ) (es : List (List ℕ × ℕ)) → unwrap_or (lookup (is_at (name_order name)) es) 0 ≡ counted_of name es
finds name [] = refl
finds name (e ∷ es) = find_step e.1 (is_eq (slice_cmp nat_cmp name e.0)) (pointwise nat_eq e.0 name)
    (is_eq-slice_cmp name e.0 ∙ nat_list_eq_equiv.symm name e.0) (lookup (is_at (name_order name)) es) (counted_of name es) (finds name es)
  where
    find_step : (n : ℕ) (a b : Bool) → a ≡ b → (rest : Option ℕ) (m : ℕ) → unwrap_or rest 0 ≡ m → unwrap_or (cond a (Some n) rest) 0 ≡ cond b n m
    find_step n true b e rest m h = ap (λ (x : Bool). cond x n m) e
    find_step n false b e rest m h = h ∙ ap (λ (x : Bool). cond x n m) e

-- Counting one more.

twice_same : (b : Bool) (v n m : ℕ) → cond b v m ≡ cond b v (cond b n m)
twice_same true v n m = refl
twice_same false v n m = refl

apart : (name user other : List ℕ) (v n m : ℕ) (a b : Bool) → pointwise nat_eq other name ≡ a → pointwise nat_eq user name ≡ b → slice_cmp nat_cmp user other ≡ Greater
    → cond a n (cond b v m) ≡ cond b v (cond a n m)
apart name user other v n m true true x y o =
    let same : user ≡ other = same_is user name y ∙ sym (same_is other name x) in
    let equal : is_eq (slice_cmp nat_cmp user other) ≡ true = is_eq-slice_cmp user other ∙ (bytes_decides user other).1 same in
    absurd (let e : is_eq Greater ≡ true = ap is_eq (sym o) ∙ equal in cc)
apart name user other v n m true false x y o = refl
apart name user other v n m false b x y o = refl

put_in : (name user : List ℕ) (v : ℕ) (e : List ℕ × ℕ) (es : List (List ℕ × ℕ)) (o : Ordering) → slice_cmp nat_cmp user e.0 ≡ o
    → counted_of name (insert_entry name_order es user v) ≡ cond (pointwise nat_eq user name) v (counted_of name es)
    → counted_of name (match_ordering o ((user, v) ∷ e ∷ es) ((e.0, v) ∷ es) (e ∷ insert_entry name_order es user v)) ≡ cond (pointwise nat_eq user name) v (counted_of name (e ∷ es))
put_in name user v e es Less h ih = refl
put_in name user v e es Equal h ih =
    let same : user ≡ e.0 = same_is user e.0 (sym (is_eq-slice_cmp user e.0) ∙ ap is_eq h) in
    twice_same (pointwise nat_eq e.0 name) v e.1 (counted_of name es)
    ∙ ap (λ (n : List ℕ). cond (pointwise nat_eq n name) v (counted_of name (e ∷ es))) (sym same)
put_in name user v e es Greater h ih =
    ap (cond (pointwise nat_eq e.0 name) e.1) ih
    ∙ apart name user e.0 v e.1 (counted_of name es) (pointwise nat_eq e.0 name) (pointwise nat_eq user name) refl refl h

counted_insert : (name user : List ℕ) (v : ℕ) (es : List (List ℕ × ℕ)) → counted_of name (insert_entry name_order es user v) ≡ cond (pointwise nat_eq user name) v (counted_of name es)
counted_insert name user v [] = refl
counted_insert name user v (e ∷ es) = put_in name user v e es (slice_cmp nat_cmp user e.0) refl (counted_insert name user v es)

abbrev AreSome : List (List ℕ × ℕ) → Type 0
AreSome es = AllByRecursion (λ (listed : List ℕ × ℕ). 0 < listed.1) es

some_in : (user : List ℕ) (v : ℕ) (e : List ℕ × ℕ) (es : List (List ℕ × ℕ)) (o : Ordering) → 0 < v → AreSome (e ∷ es) → AreSome (insert_entry name_order es user v)
    → AreSome (match_ordering o ((user, v) ∷ e ∷ es) ((e.0, v) ∷ es) (e ∷ insert_entry name_order es user v))
some_in user v e es Less low h ih = (low, h)
some_in user v e es Equal low h ih = (low, h.1)
some_in user v e es Greater low h ih = (h.0, ih)

some_insert : (user : List ℕ) (v : ℕ) (es : List (List ℕ × ℕ)) → 0 < v → AreSome es → AreSome (insert_entry name_order es user v)
some_insert user v [] low h = (low, tt)
some_insert user v (e ∷ es) low h = some_in user v e es (slice_cmp nat_cmp user e.0) low h (some_insert user v es low h.1)

one_up : (user name : List ℕ) (old : List (List ℕ × ℕ)) (b : Bool) → pointwise nat_eq user name ≡ b → cond b (counted_of user old + 1) (counted_of name old) ≡ counted_of name old + cond b 1 0
one_up user name old true h = ap (λ (n : List ℕ). counted_of n old + 1) (same_is user name h)
one_up user name old false h = omega arith

-- an entry that is a grant
pub granted : (e : Entry) (old new : List (List ℕ × ℕ)) → is_grant e.reply ≡ true → AreSome old
    → new ≡ insert_entry name_order old (e.request.client.user) (counted_of e.request.client.user old + 1) → CountsOne old new e
granted e old new is some put = record {
  told = λ name. ap (counted_of name) put
      ∙ (counted_insert name e.request.client.user (counted_of e.request.client.user old + 1) old
      ∙ (one_up e.request.client.user name old (pointwise nat_eq e.request.client.user name) refl
      ∙ ap (λ (b : Bool). counted_of name old + cond (b && pointwise nat_eq e.request.client.user name) 1 0) (sym is)));
  some = subst AreSome (sym put) (some_insert e.request.client.user (counted_of e.request.client.user old + 1) old (omega arith) some);
}

-- and one that is none
pub passed : (e : Entry) (old : List (List ℕ × ℕ)) → is_grant e.reply ≡ false → AreSome old → CountsOne old old e
passed e old is some = record {
  told = λ name.
      let none : cond (grants name e) 1 0 ≡ 0 = ap (λ (b : Bool). cond (b && pointwise nat_eq e.request.client.user name) 1 0) is in
      let same : counted_of name old ≡ counted_of name old + 0 = omega arith in
      same ∙ ap (λ (n : ℕ). counted_of name old + n) (sym none);
  some = some;
}

-- the grants of all entries so far were counted
pub record Counted (xs : List Numbered) (es : List (List ℕ × ℕ)) : Type 0 where
  pub told : (name : List ℕ) → counted_of name es ≡ count_by (is_grant_of name) xs
  pub some : AreSome es

pub room_left : (log : List Numbered) (i : ℕ) (es : List (List ℕ × ℕ)) (name : List ℕ) → Counted (take i log) es → i + 1 < 2 ^ 64 → counted_of name es + 1 < 2 ^ 64
room_left log i es name c h =
    let told = c.told name in
    let few = count_by-le-length (is_grant_of name) (take i log) in
    let short = take_short i log in
    omega arith

pub counted_more : (xs : List Numbered) (x : Numbered) (old new : List (List ℕ × ℕ)) → Counted xs old → CountsOne old new (entry_of x) → Counted (xs ++ x ∷ []) new
counted_more xs x old new c one = record {
  told = λ name. one.told name ∙ (ap (λ (n : ℕ). n + cond (is_grant_of name x) 1 0) (c.told name) ∙ sym (sum_by_push _ xs x));
  some = one.some;
}

-- The list of the users.

abbrev pub sum_of : List ℕ × ℕ → UserSum
sum_of e = record { user = e.0; grants = e.1 }

told_all : (name : List ℕ) (es : List (List ℕ × ℕ)) → told_of name (map sum_of es) ≡ counted_of name es
told_all name [] = refl
told_all name (e ∷ es) = ap (cond (pointwise nat_eq e.0 name) e.1) (told_all name es)

some_all : (es : List (List ℕ × ℕ)) → AreSome es → AllByRecursion (λ (u : UserSum). 0 < u.grants) (map sum_of es)
some_all [] h = tt
some_all (e ∷ es) h = (h.0, some_all es h.1)

less_all : (k : List ℕ) (es : List (List ℕ × ℕ)) → AllByRecursion (λ (y : List ℕ). name_order k y ≡ Less) (keys_of es)
    → AllByRecursion (λ (n : List ℕ). slice_cmp nat_cmp k n ≡ Less) (map (λ (u : UserSum). u.user) (map sum_of es))
less_all k [] h = tt
less_all k (e ∷ es) h = (h.0, less_all k es h.1)

sorted_all : (es : List (List ℕ × ℕ)) → IsStrictlySortedBy name_order (keys_of es) → IsStrictlySortedBy (slice_cmp nat_cmp) (map (λ (u : UserSum). u.user) (map sum_of es))
unfolding IsStrictlySortedBy
sorted_all [] h = tt
sorted_all (e ∷ es) h = (less_all e.0 es h.0, sorted_all es h.1)

pub are_users : (xs : List Numbered) (es : List (List ℕ × ℕ)) (users : List UserSum) → Counted xs es → IsStrictlySortedBy name_order (keys_of es) → users ≡ map sum_of es → AreUsers xs users
are_users xs es users c sorted is = subst (AreUsers xs) (sym is) (record {
  sorted = sorted_all es sorted;
  some = some_all es c.some;
  each = λ name. told_all name es ∙ c.told name;
})
