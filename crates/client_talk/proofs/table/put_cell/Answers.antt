use Rattle.std.proofs.Common.{◌∙◌, ◌++◌, ◌∷◌, [], List, ℕ, ap}
use Rattle.client_talk.proofs.Showings.{cell_made}
use Rattle.client_talk.proofs.table.put_cell.Goals as goal

pub returns : goal.returns
returns c =
    let a = c.in_ok-extend_from_slice.ensures.items in
    let b = c.in_ok-extend_from_slice-2.ensures.items in
    let d = c.in_ok-extend_from_slice-3.ensures.items in
    d ∙ (ap (λ (l : List ℕ). l ++ 32 ∷ []) b ∙ cell_made c.args.text.now.items c.args.piece.now c.extend_from_slice.new.self.items c.args.width c.saturating_sub.result c.requires a c.saturating_sub.ensures)
