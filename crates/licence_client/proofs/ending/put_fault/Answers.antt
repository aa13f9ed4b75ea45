use Rattle.std.proofs.Common.{◌∙◌, ◌++◌, List, ℕ, ap, codes}
use Rattle.licence_client.specs.Ends.{name_fault_text, word_text}
use Rattle.licence_client.proofs.Texts.{one_more}
use Rattle.licence_client.proofs.ending.put_fault.Goals as goal

pub returns : goal.returns
returns c =
    let line = c.args.line.now.items in
    let word = word_text c.args.bad.now.word in
    let begin = c.in_ok-extend_from_slice.ensures.items in
    let named = c.in_ok-extend_from_slice-2.ensures.items ∙ ap (λ (l : List ℕ). c.extend_from_slice.new.self.items ++ l) c.word_text.ensures in
    let faulted = c.in_ok-extend_from_slice-3.ensures.items ∙ ap (λ (l : List ℕ). c.extend_from_slice-2.new.self.items ++ l) c.name_fault_text.ensures in
    one_more line (codes "no request: the " ++ word) (name_fault_text c.args.bad.now.fault) (one_more line (codes "no request: the ") word begin named) faulted
