use Rattle.std.specs.Prelude.{◌&&◌, codes, nat_eq, nat_le, not}
use Rattle.std.proofs.Common.{◌≡◌, ℕ, Bool, true, false, List, length, map, refl, sym, ap, ◌∙◌}
use Rattle.std.specs.Cmp.Lexicographic.{pointwise}
use Rattle.std.specs.List.{list_all}
use Rattle.std.proofs.lemmas.List.Folds.{list_all-map}
use Rattle.std.proofs.lemmas.List.{length-map}
use Rattle.licence_tool.specs.Command.{is_plain_word}
use Rattle.licence_daemon.specs.Serve.{are_serve}

-- the test of the words, where the further ones are the images of others
pub serve_test : {X : Type 0} (f : X → List ℕ) (verb licence options socket : List ℕ) (more : List X)
    → are_serve verb licence options socket (map f more)
    ≡ (pointwise nat_eq verb (codes "serve") && ((is_plain_word licence && is_plain_word options && is_plain_word socket) && (list_all (λ (x : X). is_plain_word (f x)) more && nat_le (length more) 3)))
serve_test {X} f verb licence options socket more =
    ap (λ (b : Bool). pointwise nat_eq verb (codes "serve") && ((is_plain_word licence && is_plain_word options && is_plain_word socket) && (b && nat_le (length (map f more)) 3))) (list_all-map is_plain_word f more)
    ∙ ap (λ (n : ℕ). pointwise nat_eq verb (codes "serve") && ((is_plain_word licence && is_plain_word options && is_plain_word socket) && (list_all (λ (x : X). is_plain_word (f x)) more && nat_le n 3))) (length-map more f)

and_false : (a b c : Bool) → false ≡ (a && (b && (false && c)))
and_false true true c = refl
and_false true false c = refl
and_false false b c = refl

-- further words of which one may name no file
pub not_plain : {X : Type 0} (f : X → List ℕ) (verb licence options socket : List ℕ) (more : List X)
    → list_all (λ (x : X). is_plain_word (f x)) more ≡ false → false ≡ are_serve verb licence options socket (map f more)
not_plain {X} f verb licence options socket more e =
    and_false (pointwise nat_eq verb (codes "serve")) (is_plain_word licence && is_plain_word options && is_plain_word socket) (nat_le (length more) 3)
    ∙ (ap (λ (b : Bool). pointwise nat_eq verb (codes "serve") && ((is_plain_word licence && is_plain_word options && is_plain_word socket) && (b && nat_le (length more) 3))) (sym e)
    ∙ sym (serve_test f verb licence options socket more))

-- all words are plain
pub all_plain : {X : Type 0} (f : X → List ℕ) (verb licence options socket : List ℕ) (more : List X)
    → pointwise nat_eq verb (codes "serve") ≡ true → (is_plain_word licence && is_plain_word options && is_plain_word socket) ≡ true → list_all (λ (x : X). is_plain_word (f x)) more ≡ true
    → nat_le (length more) 3 ≡ are_serve verb licence options socket (map f more)
all_plain {X} f verb licence options socket more v n m =
    sym (serve_test f verb licence options socket more
    ∙ (ap (λ (b : Bool). b && ((is_plain_word licence && is_plain_word options && is_plain_word socket) && (list_all (λ (x : X). is_plain_word (f x)) more && nat_le (length more) 3))) v
    ∙ (ap (λ (b : Bool). b && (list_all (λ (x : X). is_plain_word (f x)) more && nat_le (length more) 3)) n
    ∙ ap (λ (b : Bool). b && nat_le (length more) 3) m)))

pub is_true : (b : Bool) → false ≡ not b → b ≡ true
is_true true e = refl
is_true false e = cc
