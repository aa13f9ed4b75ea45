-- The seats that parties hold, and what becomes of them.
use Rattle.std.specs.Prelude.{◌≡◌, ℕ, ◌≤◌, Bool, true, false, nat_lt, List}
use Rattle.std.specs.List.{list_all}
use Rattle.options_machine.specs.declared.reply.Charge.{Charge}
use Rattle.options_machine.specs.declared.rows.Holder.{Holder}
use Rattle.options_machine.specs.Law.{are_in_order}

-- what a contract sees of the rows: the number of parties, and the holders in order of party
pub record SeatList : Type 0 where
  pub parties : ℕ
  pub holders : List Holder

-- what holds of all rows: the parties are few, the holders stand strictly in their order, and each is one of them
pub record IsSeatList (s : SeatList) : Type 0 where
  pub few : s.parties ≤ 256
  pub in_order : are_in_order s.holders ≡ true
  pub inside : list_all (λ (h : Holder). nat_lt h.party s.parties) s.holders ≡ true

-- whether a holder was heard after this moment
abbrev pub is_heard : ℕ → Holder → Bool
is_heard over h = nat_lt over h.beat

-- the holder, with this charge if that is said
abbrev pub charged_if : Bool → Charge → Holder → Holder
charged_if true charge h = record h { charge = charge }
charged_if false charge h = h
