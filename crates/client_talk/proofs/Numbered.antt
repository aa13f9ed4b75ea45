-- The reply to a GLANCE is read as its numbers.
use Rattle.std.proofs.Common.{◌≡◌, ◌∙◌, ℕ, ◌^◌, ◌<◌, cond, List, [], ◌∷◌, ◌++◌, codes, decimal, Option, None, Some, refl, ap, arith, append_assoc}
use Rattle.std.proofs.lemmas.Bool.{lt-ltb}
use Rattle.std.specs.Prelude.{option_and_then}
use Rattle.counter.specs.declared.glance.Glance.{Glance}
use Rattle.lic_text.specs.Lines.{words_of}
use Rattle.line_protocol.specs.Replies.{glance_text}
use Rattle.script_words.proofs.Tokens.{IsToken, last, next, number_back, token_number}
use Rattle.client_talk.specs.Numbers.{IsGlance, count_behind, glance_behind, glance_in, if_count, number_behind, with_rest}

-- a word and a number behind it
word_number : (word : List ℕ) (n : ℕ) (rest : List ℕ) (words : List (List ℕ)) → IsToken word → n < 2 ^ 64 → words_of rest ≡ words → words_of (word ++ 32 ∷ (decimal n ++ 32 ∷ rest)) ≡ word ∷ decimal n ∷ words
word_number word n rest words t small h = next word (decimal n ++ 32 ∷ rest) _ t (next (decimal n) rest _ (token_number n small) h)

-- the same, with no word behind them
word_last : (word : List ℕ) (n : ℕ) → IsToken word → n < 2 ^ 64 → words_of (word ++ 32 ∷ decimal n) ≡ word ∷ decimal n ∷ []
word_last word n t small = next word (decimal n) _ t (last (decimal n) (token_number n small))

abbrev queued_words : Glance → List (List ℕ)
queued_words g = codes "QUEUED" ∷ decimal g.queued ∷ []

abbrev free_words : Glance → List (List ℕ)
free_words g = codes "OF" ∷ decimal g.free ∷ queued_words g

abbrev taken_words : Glance → List (List ℕ)
taken_words g = codes "OPEN" ∷ decimal g.taken ∷ free_words g

abbrev lingering_words : Glance → List (List ℕ)
lingering_words g = codes "LINGERING" ∷ decimal g.lingering ∷ taken_words g

abbrev held_words : Glance → List (List ℕ)
held_words g = codes "HELD" ∷ decimal g.held ∷ lingering_words g

abbrev front_words : Glance → List (List ℕ)
front_words g = codes "FRONT" ∷ decimal g.front ∷ held_words g

glance_said : (g : Glance) → IsGlance g → words_of (glance_text g) ≡ codes "GLANCE" ∷ front_words g
glance_said g n =
    let a = n.front in
    let b = n.held in
    let c = n.lingering in
    let d = n.taken in
    let e = n.free in
    let f = n.queued in
    let queues : List ℕ = codes "QUEUED" ++ 32 ∷ decimal g.queued in
    let frees : List ℕ = codes "OF" ++ 32 ∷ (decimal g.free ++ 32 ∷ queues) in
    let takens : List ℕ = codes "OPEN" ++ 32 ∷ (decimal g.taken ++ 32 ∷ frees) in
    let lingers : List ℕ = codes "LINGERING" ++ 32 ∷ (decimal g.lingering ++ 32 ∷ takens) in
    let helds : List ℕ = codes "HELD" ++ 32 ∷ (decimal g.held ++ 32 ∷ lingers) in
    let fronts : List ℕ = codes "FRONT" ++ 32 ∷ (decimal g.front ++ 32 ∷ helds) in
    let text : glance_text g ≡ codes "GLANCE" ++ 32 ∷ fronts = simp append_assoc in
    ap words_of text ∙ next (codes "GLANCE") fronts _ (record { some = refl; each = refl })
    (word_number (codes "FRONT") g.front helds _ (record { some = refl; each = refl }) a
    (word_number (codes "HELD") g.held lingers _ (record { some = refl; each = refl }) (omega arith)
    (word_number (codes "LINGERING") g.lingering takens _ (record { some = refl; each = refl }) (omega arith)
    (word_number (codes "OPEN") g.taken frees _ (record { some = refl; each = refl }) (omega arith)
    (word_number (codes "OF") g.free queues _ (record { some = refl; each = refl }) (omega arith)
    (word_last (codes "QUEUED") g.queued (record { some = refl; each = refl }) (omega arith)))))))

number_read : (name : List ℕ) (n : ℕ) (rest : List (List ℕ)) → n < 2 ^ 64 → number_behind (name ∷ decimal n ∷ rest) ≡ Some (record { value = n; rest = rest })
number_read name n rest small = ap (option_and_then (with_rest rest)) (number_back n small)

count_read : (name : List ℕ) (n : ℕ) (rest : List (List ℕ)) → n < 2 ^ 32 → count_behind (name ∷ decimal n ∷ rest) ≡ Some (record { value = n; rest = rest })
count_read name n rest small =
    ap (option_and_then if_count) (number_read name n rest (omega arith))
    ∙ ap (λ b. cond b (Some (record { value = n; rest = rest })) None) (lt-ltb n (2 ^ 32) small)

-- a chain goes on with what was read
then_some : {X Y : Type 0} (o : Option X) (f : X → Option Y) (x : X) (y : Option Y) → o ≡ Some x → f x ≡ y → option_and_then f o ≡ y
then_some o f x y h g = ap (option_and_then f) h ∙ g

numbers_read : (g : Glance) → IsGlance g → glance_behind (front_words g) ≡ Some g
numbers_read g n =
    then_some (number_behind (front_words g)) _ (record { value = g.front; rest = held_words g }) _ (number_read (codes "FRONT") g.front (held_words g) n.front)
    (then_some (count_behind (held_words g)) _ (record { value = g.held; rest = lingering_words g }) _ (count_read (codes "HELD") g.held (lingering_words g) n.held)
    (then_some (count_behind (lingering_words g)) _ (record { value = g.lingering; rest = taken_words g }) _ (count_read (codes "LINGERING") g.lingering (taken_words g) n.lingering)
    (then_some (count_behind (taken_words g)) _ (record { value = g.taken; rest = free_words g }) _ (count_read (codes "OPEN") g.taken (free_words g) n.taken)
    (then_some (count_behind (free_words g)) _ (record { value = g.free; rest = queued_words g }) _ (count_read (codes "OF") g.free (queued_words g) n.free)
    (then_some (count_behind (queued_words g)) _ (record { value = g.queued; rest = [] }) _ (count_read (codes "QUEUED") g.queued [] n.queued) refl)))))

-- the numbers of a reply line are those that it tells
pub glance_read : (g : Glance) → IsGlance g → glance_in (words_of (glance_text g)) ≡ Some g
glance_read g n = ap glance_in (glance_said g n) ∙ numbers_read g n
