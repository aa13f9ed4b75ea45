-- The passes of a table are joined into one seat.
use Rattle.std.proofs.Common.{◌≡◌, ℕ, suc, ◌+◌, ◌<◌, List, [], ◌∷◌, ◌++◌, length, refl, sym, ap, ◌∙◌, subst, arith}
use Rattle.atomic_table.specs.Seated.{TableId}
use Rattle.atomic_table.specs.Table.{Joins}
use Rattle.kex_core.specs.Shapes.{Sheet}
use Rattle.pass_roles.specs.declared.role.Role.TheVariants.{Party}
use Rattle.kex_words.specs.Passes.{TableNet, Pass, TakenIn, IsSetUp, times}
use Rattle.pass_roles.specs.Roles.{number_of}
use Rattle.kex_words.specs.Rule.{IsReadOff}
use Rattle.kex_words.specs.Steps.{Self, both, spent_view, taken_in, IsTakenIn, IsAtRest, numbers_of}
use Rattle.kex_words.proofs.Times.{times_append}
use Rattle.kex_words.proofs.Join.{joins}

pub joins_at : (id : TableId) (told net : Sheet) (self : TableNet) (seat_id other_id : TableId) (m w : Self) (seat other : ℕ) (g : TakenIn) (p : Pass)
    → IsSetUp id told net → record { id = id; net = net } ≡ self → taken_in seat_id m.0 ≡ g → IsTakenIn m → g.table ≡ self → other_id ≡ p.table.id → p.table ≡ self → IsAtRest p w
    → (seat_id ≡ id) × (other_id ≡ id) × (w.1 ≡ []) × (0 < id.words) × Joins (IsReadOff told) seat m.0 other w.0 (both m.0 w.0) spent_view
joins_at id told net self seat_id other_id m w seat other g p up self_is g_is t own same' own' rest =
    let table_is : record { id = seat_id; net = m.0.net } ≡ record { id = id; net = net } = ap (λ (x : TakenIn). x.table) g_is ∙ (own ∙ sym self_is) in
    let net_is : m.0.net ≡ told = ap (λ (x : TableNet). x.net) table_is ∙ sym up.told_is in
    let w_role : w.0.role ≡ Party p.number = ap (λ (z : Self). z.0.role) rest.sits in (
      ap (λ (x : TableNet). x.id) table_is,
      same' ∙ (ap (λ (x : TableNet). x.id) (own' ∙ sym self_is)),
      ap (λ (z : Self). z.1) rest.sits,
      (let a = up.words in let b = up.is_net.sized.wide in omega arith),
      subst (λ (x : Sheet). Joins (IsReadOff x) seat m.0 other w.0 (both m.0 w.0) spent_view) net_is
          (joins seat other m.0 w.0 t.role_is (w_role ∙ ap Party (sym (ap number_of w_role))) (ap (λ (z : Self). z.0.place) rest.sits ∙ rest.rests)),
    )

pub count_numbers : (l : List Pass) → length (numbers_of l) ≡ length l
count_numbers [] = refl
count_numbers (p ∷ ps) = ap suc (count_numbers ps)

-- the seat of one pass
pub begun : (id : TableId) (p : Pass) (m : Self) → IsAtRest p m → IsTakenIn m
begun id p m rest = record {
  alone = ap (λ (z : Self). z.1) rest.sits;
  role_is = let r : m.0.role ≡ Party p.number = ap (λ (z : Self). z.0.role) rest.sits in r ∙ ap Party (sym (ap number_of r));
  rests = ap (λ (z : Self). z.0.place) rest.sits ∙ rest.rests;
}

-- and of one with one more
pub joined_on : (m m' w : Self) (p : Pass) → IsTakenIn m → IsAtRest p w → m' ≡ (both m.0 w.0, m.1) → IsTakenIn m'
joined_on m m' w p t rest e = subst IsTakenIn (sym e) (record { alone = t.alone; role_is = t.role_is; rests = t.rests })

pub times_after : (s : ℕ) (l m : List ℕ) → times s (l ++ m) ≡ times s m + times s l
times_after s l m = let a = times_append s l m in omega arith
