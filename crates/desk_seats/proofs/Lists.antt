-- Lists of visits, of sessions and of their numbers.
use Rattle.std.proofs.Common.{◌≡◌, ℕ, ◌+◌, List, [], ◌∷◌, ◌++◌, length, reverse, refl, ap, sym, ◌∙◌, arith, append_assoc, append-nil, length-append}
use Rattle.std.proofs.lemmas.List.{reverse-append}
use Rattle.std.proofs.lemmas.List.Sums.{sum_by-cons}
use Rattle.std.specs.List.{sum_by}
use Rattle.kex_words.specs.Passes.{times}
use Rattle.kex_gate.specs.declared.view.Visit.{Visit}
use Rattle.kex_gate.specs.Passes.{Guest, seats_of, session_numbers, taken_by}
use Rattle.desk_seats.specs.Taken.{got_by}

pub seats_of-append : (a b : List Visit) → seats_of (a ++ b) ≡ seats_of a ++ seats_of b
seats_of-append [] b = refl
seats_of-append (v ∷ vs) b = ap (λ (l : List ℕ). v.seat ∷ l) (seats_of-append vs b)

pub length-seats_of : (a : List Visit) → length (seats_of a) ≡ length a
length-seats_of [] = refl
length-seats_of (v ∷ vs) = let n = length-seats_of vs in omega (arith, n)

pub got_by-append : (a b : List Guest) → got_by (a ++ b) ≡ got_by a ++ got_by b
got_by-append [] b = refl
got_by-append (g ∷ gs) b = ap (λ (l : List ℕ). seats_of g.visits ++ l) (got_by-append gs b) ∙ sym (append_assoc (seats_of g.visits) (got_by gs) (got_by b))

pub got_by-push : (a : List Guest) (g : Guest) → got_by (a ++ g ∷ []) ≡ got_by a ++ seats_of g.visits
got_by-push a g = got_by-append a (g ∷ []) ∙ ap (λ (l : List ℕ). got_by a ++ l) (append-nil (seats_of g.visits))

session_numbers-append : (a b : List Guest) → session_numbers (a ++ b) ≡ session_numbers a ++ session_numbers b
session_numbers-append [] b = refl
session_numbers-append (g ∷ gs) b = ap (λ (l : List ℕ). g.number ∷ l) (session_numbers-append gs b)

pub numbers-push : (a : List Guest) (g : Guest) → reverse (session_numbers (a ++ g ∷ [])) ≡ g.number ∷ reverse (session_numbers a)
numbers-push a g = ap reverse (session_numbers-append a (g ∷ [])) ∙ reverse-append (session_numbers a) (g.number ∷ [])

length-session_numbers : (a : List Guest) → length (session_numbers a) ≡ length a
length-session_numbers [] = refl
length-session_numbers (g ∷ gs) = let n = length-session_numbers gs in omega (arith, n)

length-reverse : (l : List ℕ) → length (reverse l) ≡ length l
length-reverse [] = refl
length-reverse (x ∷ xs) =
    let e = ap length (reverse-append (x ∷ []) xs) in let n = length-append (reverse xs) (x ∷ []) in let m = length-reverse xs in
    omega (arith, e, n, m)

pub length-numbers : (a : List Guest) → length (reverse (session_numbers a)) ≡ length a
length-numbers a = length-reverse (session_numbers a) ∙ length-session_numbers a

times-append : (q : ℕ) (a b : List ℕ) → times q (a ++ b) ≡ times q a + times q b
times-append q [] b = omega arith
times-append q (x ∷ xs) b = let n = times-append q xs b in omega (arith, n)

pub times-reverse : (q : ℕ) (l : List ℕ) → times q (reverse l) ≡ times q l
times-reverse q [] = refl
times-reverse q (x ∷ xs) =
    let e = ap (times q) (reverse-append (x ∷ []) xs) in let n = times-append q (reverse xs) (x ∷ []) in let m = times-reverse q xs in
    omega (arith, e, n, m)

-- how often sessions had a seat
pub times-got_by : (a : List Guest) (s : ℕ) → taken_by a s ≡ times s (got_by a)
times-got_by [] s = refl
times-got_by (g ∷ gs) s = let n = times-append s (seats_of g.visits) (got_by gs) in let m = times-got_by gs s in omega (arith, n, m)

pub length-got_by : (a : List Guest) → sum_by (λ (g : Guest). length g.visits) a ≡ length (got_by a)
length-got_by [] = refl
length-got_by (g ∷ gs) =
    let e = sum_by-cons (λ (x : Guest). length x.visits) g gs in let n = length-append (seats_of g.visits) (got_by gs) in
    let m = length-got_by gs in let k = length-seats_of g.visits in
    omega (arith, e, n, m, k)
