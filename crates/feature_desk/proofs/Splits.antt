-- The loop that takes the passes apart.
use Rattle.std.proofs.Common.{◌≡◌, ℕ, zero, suc, ◌+◌, List, [], ◌∷◌, ◌++◌, map, length, All, ap, sym, ◌∙◌, arith, length-append}
use Rattle.std.specs.List.{sum_by}
use Rattle.std.proofs.lemmas.List.{map_push}
use Rattle.std.proofs.lemmas.List.Sums.{sum_by-append, sum_by-cons}
use Rattle.desk_seats.specs.Taken.{SeatsTaken}
use Rattle.desk_seats.specs.Views.{SeatsView}
use Rattle.desk_book.specs.Askers.{Asker}
use Rattle.feature_desk.specs.Closings.{IsSettled}
use Rattle.feature_desk.specs.Sitters.{Sitter}

abbrev pub ticket_of : Sitter → Asker
ticket_of s = s.ticket

-- how many numbers a party took
abbrev pub taken_by : Sitter → ℕ
taken_by s = length s.seat.got

abbrev pub IsSeatOf : SeatsView → Sitter → Type 0
IsSeatOf t s = s.seat.table ≡ t

-- the passes of these parties were taken apart
pub record Splits (t : SeatsView) (done : List Sitter) (tickets : List Asker) (g : SeatsTaken) : Type 0 where
  pub tickets_are : tickets ≡ map ticket_of done
  pub table : g.table ≡ t
  pub count : length g.numbers ≡ length done
  pub got : length g.got ≡ sum_by taken_by done
  pub settled : All IsSettled done

-- what holds of all holds of the one behind the first of them
seam : (P : Sitter → Type 0) (done rest : List Sitter) (x : Sitter) → All P (done ++ x ∷ rest) → P x
seam P [] rest x all = all 0 x (omega arith)
seam P (y ∷ ys) rest x all = seam P ys rest x (λ k d lt. all (suc k) d (omega (arith, lt)))

all_push : (P : Sitter → Type 0) (xs : List Sitter) (x : Sitter) → All P xs → P x → All P (xs ++ x ∷ [])
all_push P [] x all one zero d lt = one
all_push P [] x all one (suc k) d lt = absurd (omega (arith, lt))
all_push P (y ∷ ys) x all one zero d lt = all 0 y (omega arith)
all_push P (y ∷ ys) x all one (suc k) d lt = all_push P ys x (λ j e less. all (suc j) e (omega (arith, less))) one k d (omega (arith, lt))

pub split_on : (t : SeatsView) (done : List Sitter) (x : Sitter) (tickets : List Asker) (old new : SeatsTaken) → Splits t done tickets old
    → new.table ≡ t → length new.numbers ≡ length old.numbers + 1 → length new.got ≡ length old.got + length x.seat.got → IsSettled x → Splits t (done ++ x ∷ []) (tickets ++ x.ticket ∷ []) new
split_on t done x tickets old new s table count got settled = record {
  tickets_are = ap (λ (z : List Asker). z ++ x.ticket ∷ []) s.tickets_are ∙ sym (map_push ticket_of done x);
  table = table;
  count = let n = length-append done (x ∷ []) in let m = s.count in omega (arith, n, m, count);
  got = let n = sum_by-append taken_by done (x ∷ []) in let m = sum_by-cons taken_by x [] in let k = s.got in omega (arith, n, m, k, got);
  settled = all_push IsSettled done x s.settled settled;
}

pub begins : (t : SeatsView) (tickets : List Asker) (g : SeatsTaken) → tickets ≡ [] → (g.table ≡ t) × (g.numbers ≡ []) × (g.got ≡ []) → Splits t [] tickets g
begins t tickets g empty none = record { tickets_are = empty; table = none.0; count = ap length none.1; got = ap length none.2; settled = λ k d lt. absurd (omega (arith, lt)) }
