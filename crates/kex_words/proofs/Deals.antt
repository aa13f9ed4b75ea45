-- A pass is dealt at a table.
use Rattle.std.proofs.Common.{◌≡◌, ℕ, ◌<◌, [], sym, ap, ◌∙◌, subst, arith}
use Rattle.atomic_table.specs.Seated.{TableId}
use Rattle.atomic_table.specs.Table.{Splits}
use Rattle.kex_core.specs.Shapes.{Sheet}
use Rattle.kex_words.specs.Passes.{TableNet, IsSetUp}
use Rattle.kex_words.specs.Rule.{IsReadOff}
use Rattle.kex_words.specs.Steps.{Self, maker, dealt_view, newcomer}
use Rattle.kex_words.proofs.Split.{deals}

pub splits_at : (id : TableId) (told net : Sheet) (self : TableNet) (seat_id : TableId) (m : Self) (seat k : ℕ) → IsSetUp id told net → record { id = id; net = net } ≡ self → seat_id ≡ self.id → m ≡ (maker self.net k, []) → k < net.parties
    → (seat_id ≡ id) × (0 < id.words) × Splits (IsReadOff told) seat m.0 (dealt_view m.0) (newcomer m.0)
splits_at id told net self seat_id m seat k up self_is same m_is inside =
    let net_is : m.0.net ≡ net = ap (λ (z : Self). z.0.net) m_is ∙ sym (ap (λ (x : TableNet). x.net) self_is) in (
      same ∙ sym (ap (λ (x : TableNet). x.id) self_is),
      (let w = up.words in let o = up.is_net.sized.wide in omega arith),
      subst (λ (x : Sheet). Splits (IsReadOff x) seat m.0 (dealt_view m.0) (newcomer m.0)) (net_is ∙ sym up.told_is)
          (deals seat m.0 k (ap (λ (z : Self). z.0.role) m_is) (subst (λ (x : Sheet). k < x.parties) (sym net_is) inside)),
    )
