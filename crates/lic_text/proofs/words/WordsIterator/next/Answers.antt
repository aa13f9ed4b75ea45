use Rattle.std.proofs.Common.{◌≡◌, ◌++◌, [], List, ℕ, sym, ap, ◌∙◌, arith}
use Rattle.std.proofs.lemmas.List.{append-nil}
use Rattle.lic_text.specs.Physical.{physical_lines}
use Rattle.lic_text.specs.Lines.{words_of}
use Rattle.lic_text.specs.Prefix.{joined_text}
use Rattle.lic_text.specs.Left.{words_left}
use Rattle.lic_text.proofs.Joins.{last_word}
use Rattle.lic_text.proofs.Parts.{no_bytes}
use Rattle.lic_text.proofs.words.WordsIterator.next.Goals as goal

pub returns-clause-steps : goal.returns-clause-steps
returns-clause-steps c =
    let s = c.loop-self.self in
    let t = c.next_here-2.new.self in
    let none : physical_lines s.further.now ≡ [] = no_bytes s.further.now (grind arith) in
    let no_more : words_of (joined_text (physical_lines t.further.now)) ≡ [] =
    ap (λ (bytes : List ℕ). words_of (joined_text (physical_lines bytes))) c.next_here-2.ensures.further ∙ ap (λ (lines : List (List ℕ)). words_of (joined_text lines)) none in
    let all : words_of s.text.now ≡ words_left c.args.self.now =
    sym (append-nil (words_of s.text.now)) ∙ (ap (λ (lines : List (List ℕ)). words_of s.text.now ++ words_of (joined_text lines)) (sym none) ∙ c.loop-self.invariant) in
    last_word c.next_here-2.result (words_left c.args.self.now) (words_of s.text.now) (words_of t.text.now) (words_of (joined_text (physical_lines t.further.now))) no_more all c.next_here-2.ensures.word
