use Rattle.std.proofs.Common.{◌≡◌, ℕ, Bool, true, false, not, List, [], ◌∷◌, ◌++◌, filter, Option, None, Some, MatchOption, Bor, refl, sym, ap, ◌∙◌}
use Rattle.std.proofs.lemmas.List.Elements.{filter-append}
use Rattle.std.proofs.lemmas.List.{append-nil}
use Rattle.std.specs.List.{slice_split, onto_first}
use Rattle.lic_text.specs.Physical.{is_blank, is_empty, is_continued, without_last}
use Rattle.lic_text.specs.Lines.{words_of}
use Rattle.lic_text.specs.Prefix.{joined_text}
use Rattle.lic_text.proofs.Cuts.{cut}

onto_front : (p : ℕ → Bool) (x : ℕ) (xs : List ℕ) (others : List (List ℕ)) → onto_first x (slice_split p xs ++ others) ≡ onto_first x (slice_split p xs) ++ others
onto_front p x xs others = let k = cut p xs in rw k.front refl

split_step : (p : ℕ → Bool) (x : ℕ) (xs : List ℕ) (y : ℕ) (ys : List ℕ) (b : Bool) → p x ≡ b → slice_split p (xs ++ y ∷ ys) ≡ slice_split p xs ++ slice_split p ys →
    slice_split p (x ∷ (xs ++ y ∷ ys)) ≡ slice_split p (x ∷ xs) ++ slice_split p ys
split_step p x xs y ys true h e = rw h (ap (λ (parts : List (List ℕ)). [] ∷ parts) e)
split_step p x xs y ys false h e = rw h (ap (onto_first x) e ∙ onto_front p x xs (slice_split p ys))

-- a text is cut at each byte that passes
split-append : (p : ℕ → Bool) (xs : List ℕ) (y : ℕ) (ys : List ℕ) → p y ≡ true → slice_split p (xs ++ y ∷ ys) ≡ slice_split p xs ++ slice_split p ys
split-append p [] y ys h = rw h refl
split-append p (x ∷ xs) y ys h = split_step p x xs y ys (p x) refl (split-append p xs y ys h)

-- no word crosses a joining space
words-append : (a b : List ℕ) → words_of (a ++ 32 ∷ b) ≡ words_of a ++ words_of b
words-append a b =
    ap (λ (parts : List (List ℕ)). filter (λ word. not (is_empty word)) parts) (split-append is_blank a 32 b refl)
    ∙ filter-append (λ word. not (is_empty word)) (slice_split is_blank a) (slice_split is_blank b)

-- the words of a line that is continued
pub words_going_on : (text : List ℕ) (texts : List (List ℕ)) → is_continued text ≡ true → words_of (joined_text (text ∷ texts)) ≡ words_of (without_last text) ++ words_of (joined_text texts)
words_going_on text texts h = rw h (words-append (without_last text) (joined_text texts))

-- the words of a line that isn't
pub words_at_end : (text : List ℕ) (texts : List (List ℕ)) → is_continued text ≡ false → words_of (joined_text (text ∷ texts)) ≡ words_of text
words_at_end text texts h = rw h refl

-- what going on to the next physical line leaves
pub goes_on : (all texts : List (List ℕ)) (text front : List ℕ) → all ≡ text ∷ texts → is_continued text ≡ true → front ≡ without_last text →
    words_of front ++ words_of (joined_text texts) ≡ words_of (joined_text all)
goes_on all texts text front e h is = rw (is, e) (sym (words_going_on text texts h))

pub goes_to_end : (all texts : List (List ℕ)) (text : List ℕ) → all ≡ text ∷ texts → is_continued text ≡ false →
    words_of text ++ words_of (joined_text []) ≡ words_of (joined_text all)
goes_to_end all texts text e h = rw e (append-nil (words_of text) ∙ sym (words_at_end text texts h))

-- the next word of the last physical line is the next of all
pub last_word : (r : Option (Bor (List ℕ))) (all here new rest : List (List ℕ)) → rest ≡ [] → here ≡ all →
    MatchOption r ((here ≡ []) × (new ≡ [])) (λ word. here ≡ word.now ∷ new) → MatchOption r ((all ≡ []) × (new ++ rest ≡ [])) (λ word. all ≡ word.now ∷ (new ++ rest))
last_word None all here new rest e f h = (sym f ∙ h.0, ap (λ (front : List (List ℕ)). front ++ rest) h.1 ∙ e)
last_word (Some word) all here new rest e f h =
    sym f ∙ (h ∙ ap (λ (behind : List (List ℕ)). word.now ∷ behind) (sym (append-nil new) ∙ ap (λ (behind : List (List ℕ)). new ++ behind) (sym e)))
