-- What a site keeps of posts given back one after another, and members of lists.
use Rattle.std.proofs.Common.{◌≡◌, ◌∙◌, ℕ, suc, zero, ◌+◌, ◌<◌, ◌++◌, ◌∷◌, [], List, Bool, All, Option, Some, length, get_or, option_to_list, reverse, append_assoc, ap, refl, sym, subst, arith}
use Rattle.std.proofs.lemmas.List.{append-nil, length-append, map-append, reverse-append}
use Rattle.std.specs.List.{list_any}
use Rattle.std.proofs.Math.Bool.{or-false}
use Rattle.session_outside.specs.Talk.{Counted, Event, Follows}
use Rattle.session.proofs.Counts.{counted_more}
use Rattle.session.specs.Acts.{moments_of}
use Rattle.door_worker.specs.Visits.{Visit, acts_in, talks_in}
use Rattle.daemon_outside.specs.Sites.{Kept}
use Rattle.daemon_run.specs.Gives.{AreKept, IsKept, kept_as, kept_from, passes_of}
use Rattle.daemon_run.specs.declared.worker.Worker.{Worker}

module _ {P D K B G : Type 0} (talks : D → List (List Event) → Type 0) (gave : K → List ℕ → Type 0) where
  pub kept_split : (ws : List (Worker P D K B G)) (w : Worker P D K B G) (ks : List Kept) → AreKept talks gave (ws ++ w ∷ []) ks
      → (front : List Kept) × (k : Kept) × (ks ≡ front ++ k ∷ []) × AreKept talks gave ws front × IsKept talks gave w k
  kept_split [] w [] h = absurd h
  kept_split [] w (k ∷ []) h = ([], k, refl, tt, h.0)
  kept_split [] w (k ∷ k' ∷ ks) h = absurd h.1
  kept_split (x ∷ ws) w [] h = absurd h
  kept_split (x ∷ ws) w (k ∷ ks) h =
      let r = kept_split ws w ks h.1 in
      (k ∷ r.0, r.1, ap (λ l. k ∷ l) r.2, (h.0, r.3), r.4)

pub keeps_none : (P D K B G : Type 0) (talks : D → List (List Event) → Type 0) (gave : K → List ℕ → Type 0) (keeps : List Kept → Type 0) (ks new : List Kept) → keeps ks → AreKept {P = P} {D = D} {K = K} {B = B} {G = G} talks gave [] new → keeps (ks ++ new)
keeps_none P D K B G talks gave keeps ks [] k h = subst keeps (sym (append-nil ks)) k
keeps_none P D K B G talks gave keeps ks (x ∷ new) k h = absurd h

pub done_when : {X : Type 0} (xs rest all : List X) → xs ++ rest ≡ all → length rest ≡ 0 → all ≡ xs
done_when xs [] all e l = sym (subst (λ ys. ys ≡ all) (append-nil xs) e)
done_when xs (r ∷ rest) all e l = absurd (omega arith)

pub get_or_at : {X : Type 0} (xs : List X) (w d : X) (ys : List X) → get_or (xs ++ w ∷ ys) (length xs) d ≡ w
get_or_at [] w d ys = refl
get_or_at (x ∷ xs) w d ys = get_or_at xs w d ys

pub all_at : {X : Type 0} (P : X → Type 0) (xs : List X) (w : X) (ys all : List X) → xs ++ w ∷ ys ≡ all → All P all → P w
all_at P xs w ys all e h = subst P (get_or_at xs w w ys) (subst (λ l. P (get_or l (length xs) w)) (sym e) (h (length xs) w (subst (λ l. length xs < length l) e (let n = length-append xs (w ∷ ys) in omega arith))))

-- what holds of each at its place holds of one more too
pub index_push : {X : Type 0} (Q : ℕ → X → Type 0) (xs : List X) (x : X) → ((i : ℕ) (d : X) → i < length xs → Q i (get_or xs i d)) → Q (length xs) x → (i : ℕ) (d : X) → i < length (xs ++ x ∷ []) → Q i (get_or (xs ++ x ∷ []) i d)
index_push Q [] x h q = elim [ zero ↦ λ d l. q | suc i ↦ λ d l. absurd (omega arith) ]
index_push Q (y ∷ ys) x h q = elim [ zero ↦ λ d l. h 0 d (omega arith) | suc i ↦ λ d l. index_push (λ k. Q (suc k)) ys x (λ k e m. h (suc k) e (omega arith)) q i d (omega arith) ]

pub follows_nil : {X E : Type 0} (stands : X → List E → Type 0) (x y z : X) → Follows stands x y [] → Follows stands y z [] → Follows stands x z []
follows_nil stands x y z h k = λ told s. k told (subst (λ l. stands y l) (append-nil told) (h told s))

-- the numbers of posts that were made one after another
pub kept_same : {P D K B G : Type 0} (base : ℕ) (ws : List (Worker P D K B G)) (vss : List (List Visit)) → length vss ≡ length ws → ((i : ℕ) (d : Worker P D K B G) → i < length ws → (get_or ws i d).post.number ≡ base + i) → kept_as ws vss ≡ kept_from base vss
kept_same base [] [] l h = refl
kept_same base [] (v ∷ vss) l h = absurd (omega arith)
kept_same base (w ∷ ws) [] l h = absurd (omega arith)
kept_same base (w ∷ ws) (v ∷ vss) l h =
    let n : w.post.number ≡ base = let x = h 0 w (omega arith) in omega (arith, x) in
    ap (λ (k : ℕ). record { number = k; talks = talks_in v; moments = moments_of (acts_in v) } ∷ kept_as ws vss) n
    ∙ ap (λ ks. record { number = base; talks = talks_in v; moments = moments_of (acts_in v) } ∷ ks) (kept_same (suc base) ws vss (omega arith) (λ i d m. let x = h (suc i) d (omega arith) in omega (arith, x)))

-- the last of a list leaves it
pub popped : {X : Type 0} (all rest : List X) (out : Option X) (x : X) → all ≡ rest ++ option_to_list out → out ≡ Some x → all ≡ rest ++ x ∷ []
popped all rest out x e is = e ∙ ap (λ o. rest ++ option_to_list o) is

-- and goes behind another list
pub moved : {X : Type 0} (front all rest : List X) (x : X) → all ≡ rest ++ x ∷ [] → (front ++ x ∷ []) ++ reverse rest ≡ front ++ reverse all
moved front all rest x e = append_assoc front (x ∷ []) (reverse rest) ∙ ap (λ l. front ++ l) (sym (ap reverse e ∙ reverse-append rest (x ∷ [])))

pub none_left : {X : Type 0} (xs : List X) → length xs ≡ 0 → xs ≡ []
none_left [] e = refl
none_left (x ∷ xs) e = absurd (omega arith)

-- one more of a list is counted
pub counted_last : {X : Type 0} (p : X → Bool) (xs : List X) (x : X) (a b c : ℕ) → Counted (list_any p xs) a b → Counted (p x) b c → Counted (list_any p (xs ++ x ∷ [])) a c
counted_last p xs x a b c h k = counted_more p xs (x ∷ []) a b c h (subst (λ t. Counted t b c) (sym (or-false (p x))) k)

-- where none is left, all are there
pub whole_in : {X : Type 0} (gone left all : List X) → gone ++ reverse left ≡ all → left ≡ [] → gone ≡ all
whole_in gone left all e none = sym (append-nil gone) ∙ ap (λ l. gone ++ reverse l) (sym none) ∙ e

-- one more worker's pass comes behind those before it
pub pass_behind : {P D K B G : Type 0} (start old new : List P) (ws : List (Worker P D K B G)) (w : Worker P D K B G) → new ≡ old ++ w.pass ∷ [] → old ≡ start ++ passes_of ws → new ≡ start ++ passes_of (ws ++ w ∷ [])
pass_behind {P} {D} {K} {B} {G} start old new ws w e h =
    e ∙ ap (λ ps. ps ++ w.pass ∷ []) h ∙ append_assoc start (passes_of ws) (w.pass ∷ []) ∙ ap (λ ps. start ++ ps) (sym (map-append (λ (x : Worker P D K B G). x.pass) ws (w ∷ [])))

-- one more of a list was yielded
pub yielded_more : {X : Type 0} (ys rest left all : List X) (w : X) → rest ≡ w ∷ left → ys ++ rest ≡ all → (ys ++ w ∷ []) ++ left ≡ all
yielded_more ys rest left all w e h = append_assoc ys (w ∷ []) left ∙ ap (λ l. ys ++ l) (sym e) ∙ h
