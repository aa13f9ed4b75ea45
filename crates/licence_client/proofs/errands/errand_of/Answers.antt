use Rattle.std.proofs.Common.{◌≡◌, ℕ, ◌<◌, ◌≤◌, List, [], ◌∷◌, Bor, map, length, get_or, true, codes, refl, sym, ap₂, arith, rules}
use Rattle.std.specs.Prelude.{nat_eq}
use Rattle.std.specs.Cmp.Lexicographic.{bytes_decides, pointwise}
use Rattle.licence_client.specs.Asked.{Written}
use Rattle.licence_client.proofs.errands.errand_of.Goals as goal

same_text : (a b : List ℕ) → true ≡ pointwise nat_eq a b → a ≡ b
same_text a b h = (bytes_decides a b).0 (sym h)

none : (xs : List (Bor (List ℕ))) → length xs ≡ 0 → [] ≡ map (λ w. w.now) xs
none [] h = refl
none (x ∷ xs) h = absurd (omega arith)

one : (xs : List (Bor (List ℕ))) (d : Bor (List ℕ)) → 1 ≤ length xs → length xs < 2 → (get_or xs 0 d).now ∷ [] ≡ map (λ w. w.now) xs
one [] d a b = absurd (omega arith)
one (x ∷ []) d a b = refl
one (x ∷ y ∷ ys) d a b = absurd (omega arith)

two : (xs : List (Bor (List ℕ))) (d : Bor (List ℕ)) → 2 ≤ length xs → length xs < 3 → (get_or xs 0 d).now ∷ (get_or xs 1 d).now ∷ [] ≡ map (λ w. w.now) xs
two [] d a b = absurd (omega arith)
two (x ∷ []) d a b = absurd (omega arith)
two (x ∷ y ∷ []) d a b = refl
two (x ∷ y ∷ z ∷ zs) d a b = absurd (omega arith)

abbrev make : List ℕ → List (List ℕ) → Written
make c ws = record { command = c; words = ws }

abbrev nothing : Bor (List ℕ)
nothing = record { ref_ptr = (0, 0); now = [] }

same_written : (c name : List ℕ) (ws words : List (List ℕ)) → c ≡ name → ws ≡ words → make name ws ≡ make c words
same_written c name ws words e f = ap₂ make (sym e) f

pub returns-in-len1-clause-asked : goal.returns-in-len1-clause-asked
returns-in-len1-clause-asked c = record {
  is = same_written c.args.command.now (codes "ask") _ _ (same_text _ _ c.if-eq.ensures) (one c.args.words.now nothing (omega (arith, c.in-len1.len_at_least)) (omega (arith, c.in-len1.len_below)));
  keeps = tt;
}

pub returns-in-len2-clause-asked : goal.returns-in-len2-clause-asked
returns-in-len2-clause-asked c = record {
  is = same_written c.args.command.now (codes "hold") _ _ (same_text _ _ c.if-eq-3.ensures) (two c.args.words.now nothing (omega (arith, c.in-len2.len_at_least)) (omega (arith, c.in-len2.len_below)));
  keeps = refl;
}

pub returns-in-len1-words-clause-asked : goal.returns-in-len1-words-clause-asked
returns-in-len1-words-clause-asked c = record {
  is = same_written c.args.command.now (codes "reread") _ _ (same_text _ _ c.if-eq-4.ensures) (one c.args.words.now nothing (omega (arith, c.in-len1-words.len_at_least)) (omega (arith, c.in-len1-words.len_below)));
  keeps = tt;
}

pub returns-then-is_empty-2-clause-asked : goal.returns-then-is_empty-2-clause-asked
returns-then-is_empty-2-clause-asked c = record {
  is = same_written c.args.command.now (codes "shutdown") _ _ (same_text _ _ c.if-eq-5.ensures) (none c.args.words.now (search rules));
  keeps = tt;
}
