use Rattle.std.proofs.Common.{◌≡◌, ℕ, ◌+◌, Bool, true, false, not, List, [], ◌∷◌, length, Option, None, Some, Result, Ok, Err, sym, ap, ◌∙◌, arith}
use Rattle.lic_text.specs.Physical.{is_empty, is_comment, physical_lines}
use Rattle.lic_text.specs.Lines.{fault_of, words_of, lines_from, Worded}
use Rattle.lic_text.specs.Prefix.{joined_text, has_no_end, line_count, lines_behind}
use Rattle.lic_text.specs.declared.fault.TextFault.{TextFault}
use Rattle.lic_text.proofs.Prefixes.{past_comment, at_fault, at_words, past_blanks, none_left}
use Rattle.lic_text.proofs.Parts.{no_lines}

-- what one step of the lines leaves
pub step_comment : (all : List (List ℕ)) (text : List ℕ) (texts : List (List ℕ)) (n : ℕ) → all ≡ text ∷ texts → true ≡ is_comment text → lines_from (n + 1) all ≡ lines_from (n + 1 + 1) texts
step_comment all text texts n e h = ap (lines_from (n + 1)) e ∙ past_comment text texts (n + 1) (sym h)

same_fault : (n : ℕ) (a b : ℕ) (c d : Bool) (found : Option TextFault) → a ≡ b → c ≡ d → found ≡ fault_of n a c → fault_of n b d ≡ found
same_fault n a b c d found e f h = ap (λ (size : ℕ). fault_of n size d) (sym e) ∙ (ap (fault_of n a) (sym f) ∙ sym h)

fault_here : (text : List ℕ) (texts : List (List ℕ)) (n m size : ℕ) (is_open : Bool) (fault : TextFault) → false ≡ is_comment text →
    size ≡ length (joined_text (text ∷ texts)) → is_open ≡ has_no_end (text ∷ texts) → Some fault ≡ fault_of n size is_open →
    lines_from n (text ∷ texts) ≡ Err fault ∷ lines_from m (physical_lines [])
fault_here text texts n m size is_open fault h s o f =
    at_fault text texts n fault (sym h) (same_fault n size (length (joined_text (text ∷ texts))) is_open (has_no_end (text ∷ texts)) (Some fault) s o f)
    ∙ ap (λ (others : List (Result Worded TextFault)). Err fault ∷ others) (sym (ap (lines_from m) no_lines ∙ none_left m))

pub step_fault : (all : List (List ℕ)) (text : List ℕ) (texts : List (List ℕ)) (n m size : ℕ) (is_open : Bool) (fault : TextFault) → all ≡ text ∷ texts → false ≡ is_comment text →
    size ≡ length (joined_text (text ∷ texts)) → is_open ≡ has_no_end (text ∷ texts) → Some fault ≡ fault_of n size is_open →
    lines_from n all ≡ Err fault ∷ lines_from m (physical_lines [])
step_fault all text texts n m size is_open fault e h s o f = ap (lines_from n) e ∙ fault_here text texts n m size is_open fault h s o f

same_rest : (n count : ℕ) (c : ℕ) (behind b : List (List ℕ)) → count ≡ c → behind ≡ b → lines_from (n + 1 + c) b ≡ lines_from (n + count + 1) behind
same_rest n count c behind b e f =
    let same : n + 1 + c ≡ n + count + 1 = omega arith in
    ap (λ (number : ℕ). lines_from number b) same ∙ ap (lines_from (n + count + 1)) (sym f)

told_here : (text : List ℕ) (texts : List (List ℕ)) (behind : List (List ℕ)) (n size count : ℕ) (is_open : Bool) → false ≡ is_comment text →
    size ≡ length (joined_text (text ∷ texts)) → is_open ≡ has_no_end (text ∷ texts) → count ≡ line_count (text ∷ texts) → behind ≡ lines_behind (text ∷ texts) →
    None ≡ fault_of (n + 1) size is_open → true ≡ not (is_empty (words_of (joined_text (text ∷ texts)))) →
    lines_from (n + 1) (text ∷ texts) ≡ Ok (n + 1, words_of (joined_text (text ∷ texts))) ∷ lines_from (n + count + 1) behind
told_here text texts behind n size count is_open h s o k b f w =
    at_words text texts (n + 1) (sym h) (same_fault (n + 1) size (length (joined_text (text ∷ texts))) is_open (has_no_end (text ∷ texts)) None s o f) (sym w)
    ∙ ap (λ (others : List (Result Worded TextFault)). Ok (n + 1, words_of (joined_text (text ∷ texts))) ∷ others) (same_rest n count (line_count (text ∷ texts)) behind (lines_behind (text ∷ texts)) k b)

pub step_told : (all : List (List ℕ)) (text : List ℕ) (texts : List (List ℕ)) (behind words : List (List ℕ)) (n size count : ℕ) (is_open : Bool) → all ≡ text ∷ texts → false ≡ is_comment text →
    size ≡ length (joined_text (text ∷ texts)) → is_open ≡ has_no_end (text ∷ texts) → count ≡ line_count (text ∷ texts) → behind ≡ lines_behind (text ∷ texts) →
    None ≡ fault_of (n + 1) size is_open → words ≡ words_of (joined_text (text ∷ texts)) → true ≡ not (is_empty words) →
    lines_from (n + 1) all ≡ Ok (n + 1, words) ∷ lines_from (n + count + 1) behind
step_told all text texts behind words n size count is_open e h s o k b f is w =
    let some : true ≡ not (is_empty (words_of (joined_text (text ∷ texts)))) = w ∙ ap (λ (ws : List (List ℕ)). not (is_empty ws)) is in
    ap (lines_from (n + 1)) e ∙ (told_here text texts behind n size count is_open h s o k b f some
    ∙ ap (λ (ws : List (List ℕ)). Ok (n + 1, ws) ∷ lines_from (n + count + 1) behind) (sym is))

silent_here : (text : List ℕ) (texts : List (List ℕ)) (behind : List (List ℕ)) (n size count : ℕ) (is_open : Bool) → false ≡ is_comment text →
    size ≡ length (joined_text (text ∷ texts)) → is_open ≡ has_no_end (text ∷ texts) → count ≡ line_count (text ∷ texts) → behind ≡ lines_behind (text ∷ texts) →
    None ≡ fault_of (n + 1) size is_open → false ≡ not (is_empty (words_of (joined_text (text ∷ texts)))) →
    lines_from (n + 1) (text ∷ texts) ≡ lines_from (n + count + 1) behind
silent_here text texts behind n size count is_open h s o k b f w =
    past_blanks text texts (n + 1) (sym h) (same_fault (n + 1) size (length (joined_text (text ∷ texts))) is_open (has_no_end (text ∷ texts)) None s o f) (sym w)
    ∙ same_rest n count (line_count (text ∷ texts)) behind (lines_behind (text ∷ texts)) k b

pub step_silent : (all : List (List ℕ)) (text : List ℕ) (texts : List (List ℕ)) (behind words : List (List ℕ)) (n size count : ℕ) (is_open : Bool) → all ≡ text ∷ texts → false ≡ is_comment text →
    size ≡ length (joined_text (text ∷ texts)) → is_open ≡ has_no_end (text ∷ texts) → count ≡ line_count (text ∷ texts) → behind ≡ lines_behind (text ∷ texts) →
    None ≡ fault_of (n + 1) size is_open → words ≡ words_of (joined_text (text ∷ texts)) → false ≡ not (is_empty words) → lines_from (n + 1) all ≡ lines_from (n + count + 1) behind
step_silent all text texts behind words n size count is_open e h s o k b f is w =
    let none : false ≡ not (is_empty (words_of (joined_text (text ∷ texts)))) = w ∙ ap (λ (ws : List (List ℕ)). not (is_empty ws)) is in
    ap (lines_from (n + 1)) e ∙ silent_here text texts behind n size count is_open h s o k b f none
