-- What the end of a desk tells.
use Rattle.std.proofs.Common.{◌≡◌, ◌≢◌, ℕ, suc, ◌%◌, ◌^◌, cond, List, [], ◌∷◌, map, length, refl, ap, sym, ◌∙◌, subst, arith, All}
use Rattle.std.specs.List.{sum_by}
use Rattle.std.proofs.lemmas.List.{get_or-map, length-map}
use Rattle.std.proofs.lemmas.List.Elements.{All-map}
use Rattle.std.proofs.lemmas.List.Sums.{sum_by-cons}
use Rattle.kex_words.specs.declared.card.Card.{Card}
use Rattle.desk_seats.specs.Views.{SeatsView}
use Rattle.options_machine.specs.declared.reply.Entry.{Entry}
use Rattle.options_machine.specs.Own.{own}
use Rattle.options_machine.proofs.Counts.{count-cons}
use Rattle.counter.specs.Account.{Account, Extends, brings_seat, grants}
use Rattle.desk_book.specs.declared.end.Closed.{Closed}
use Rattle.desk_book.specs.Askers.{Asker}
use Rattle.desk_book.specs.Ends as book
use Rattle.feature_desk.specs.Closings.{AreClosable, HasLog, IsSettled, Tells}
use Rattle.feature_desk.specs.Sitters.{DeskView, IsOf, Sitter, account_of}
use Rattle.feature_desk.specs.Sittings.{AreLow}
use Rattle.feature_desk.proofs.Splits.{IsSeatOf, taken_by, ticket_of}

-- what holds of all images, of their sources
all_unmap : {X Y : Type 0} (P : Y → Type 0) (f : X → Y) (xs : List X) → All P (map f xs) → All (λ (x : X). P (f x)) xs
all_unmap P f xs all k d lt = subst P (get_or-map f xs k d (f d) lt) (all k (f d) (let n = length-map xs f in omega (arith, n, lt)))

all_through : {X : Type 0} (P Q : X → Type 0) (xs : List X) → ((x : X) → P x → Q x) → All P xs → All Q xs
all_through P Q xs f all k d lt = f _ (all k d lt)

all_both : {X : Type 0} (P Q R : X → Type 0) (xs : List X) → ((x : X) → P x → Q x → R x) → All P xs → All Q xs → All R xs
all_both P Q R xs f p q k d lt = f _ (p k d lt) (q k d lt)

-- whether an entry brought a seat, as a number
abbrev brought : Entry → ℕ
brought e = cond (brings_seat e.reply) 1 0

grants_are : (h : List Entry) → grants h ≡ sum_by brought h
grants_are [] = refl
grants_are (e ∷ es) =
    let one = count-cons (λ (x : Entry). brings_seat x.reply) e es in
    let two = sum_by-cons brought e es in
    omega (arith, one, two, grants_are es)

abbrev own_brought : Asker → ℕ
own_brought a = sum_by brought a.mine

-- as many numbers were taken as the parties' own entries brought
taken_so : (ps : List Sitter) → All IsSettled ps → sum_by taken_by ps ≡ sum_by own_brought (map ticket_of ps)
taken_so [] settled = refl
taken_so (p ∷ ps) settled =
    let one = settled 0 p (omega arith) in
    let count = one.count in
    let its = grants_are p.ticket.mine in
    let more = taken_so ps (λ k d lt. settled (suc k) d (omega (arith, lt))) in
    let a = sum_by-cons taken_by p ps in
    let b = sum_by-cons own_brought p.ticket (map ticket_of ps) in
    omega (arith, its, count, more, a, b)

module _ (d : DeskView) (passes : List Sitter) (closable : AreClosable d passes) where
  pub seats_are : All (IsSeatOf d.seats) passes
  seats_are = all_through (λ (s : Sitter). IsOf s d) (IsSeatOf d.seats) passes (λ s o. o.seats) closable.own

  module _ (tickets : List Asker) (tickets_are : tickets ≡ map ticket_of passes) where
    pub locks_are : All (λ (a : Asker). a.lock ≡ d.lock.id) tickets
    locks_are = subst (All (λ (a : Asker). a.lock ≡ d.lock.id)) (sym tickets_are) (All-map (λ (a : Asker). a.lock ≡ d.lock.id) ticket_of passes (all_through (λ (s : Sitter). IsOf s d) (λ (s : Sitter). s.ticket.lock ≡ d.lock.id) passes (λ s o. o.lock) closable.own))

    module _ (settled : All IsSettled passes) (closed : Closed) (history : List Entry) (told : book.Tells d.lock.law tickets closed history) (uses : ℕ) (cards : List Card) (got : List ℕ)
        (uses_is : uses ≡ sum_by (λ (c : Card). c.uses) cards % 2 ^ 64) (cards_are : sum_by (λ (c : Card). c.uses) cards % 2 ^ 64 ≡ length got % 2 ^ 64) (got_is : length got ≡ sum_by taken_by passes) where
      -- of the parties' passes, what holds of their accounts
      of_accounts : (P : Asker → Type 0) (Q : Account → Type 0) → ((s : Sitter) → P s.ticket → Q (account_of s)) → All P tickets → All Q (map account_of passes)
      of_accounts P Q f all = All-map Q account_of passes (all_through (λ (s : Sitter). P s.ticket) (λ (s : Sitter). Q (account_of s)) passes f (all_unmap P ticket_of passes (subst (All P) tickets_are all)))

      all_of : length got ≡ grants history
      all_of = got_is ∙ (taken_so passes settled ∙ (ap (sum_by own_brought) (sym tickets_are) ∙ (told.sums brought ∙ sym (grants_are history))))

      used : uses ≡ grants history % 2 ^ 64
      used = uses_is ∙ (cards_are ∙ ap (λ (n : ℕ). n % 2 ^ 64) all_of)

      pub tells : (h : List Entry) × Tells d (map account_of passes) (record { calls = closed.calls; grants = closed.grants; uses = uses }) h × HasLog closed.log h
      tells = (
        history,
        record {
          run = told.run;
          calls_is = told.calls_is;
          grants_is = told.grants_is;
          uses_are = used ∙ sym told.grants_is;
          seen = of_accounts (λ (a : Asker). Extends a.seen history) (λ (a : Account). Extends a.seen history) (λ s e. e) told.seen;
          mine = of_accounts (λ (a : Asker). own history a.number ≡ a.mine) (λ (a : Account). own history a.party ≡ a.mine) (λ s e. e) told.mine;
          low = All-map (λ (a : Account). AreLow d.seats.net.width a.got) account_of passes
              (all_both IsSettled (λ (s : Sitter). IsOf s d) (λ (s : Sitter). AreLow d.seats.net.width s.seat.got) passes (λ s i o. subst (λ (t : SeatsView). AreLow t.net.width s.seat.got) o.seats i.low) settled closable.own);
          others = λ q nobody. told.others q (subst (All (λ (a : Asker). a.number ≢ q)) (sym tickets_are)
              (All-map (λ (a : Asker). a.number ≢ q) ticket_of passes (all_unmap (λ (a : Account). a.party ≢ q) account_of passes nobody)));
        },
        record { entries = told.logged; cut_is = told.cut_is },
      )
