-- The parties' passes, and the lock's passes in them.
use Rattle.std.proofs.Common.{◌≡◌, ◌≢◌, ℕ, zero, suc, ◌%◌, ◌^◌, ◌<◌, List, [], ◌∷◌, ◌++◌, length, All, refl, sym, ap, subst, ◌∙◌, arith}
use Rattle.std.specs.List.{sum_by}
use Rattle.std.proofs.lemmas.List.{map-append}
use Rattle.std.proofs.lemmas.List.Sums.{sum_by-cons}
use Rattle.counter.specs.Account.{Extends}
use Rattle.options_machine.specs.declared.reply.Entry.{Entry}
use Rattle.options_machine.specs.Own as machine
use Rattle.turn_lock.specs.Entries as turns
use Rattle.turn_lock.specs.Passes.{Closes, LockId}
use Rattle.desk_book.specs.declared.book.DeskBook.{DeskBook}
use Rattle.desk_book.specs.declared.book.DeskLaw.{DeskLaw}
use Rattle.desk_book.specs.declared.end.Closed.{Closed}
use Rattle.desk_book.specs.Askers.{Asker, Ticket, asker_of, party_of}
use Rattle.desk_book.specs.Ends.{AreTickets, Tells}
use Rattle.desk_book.specs.Standing.{Call, Runs, Stands, entries_of, entry_of}
use Rattle.desk_book.proofs.Askers.{own_entries}
use Rattle.desk_book.proofs.Notes.{entries_length}

pub tickets_on : (ps : List Asker) (ts : List Ticket) (a : Asker) (t : Ticket) → AreTickets ps ts → asker_of t a.board a.known ≡ a → AreTickets (ps ++ a ∷ []) (ts ++ t ∷ [])
tickets_on [] [] a t are is = (is, tt)
tickets_on [] (u ∷ ts) a t are is = absurd are
tickets_on (b ∷ ps) [] a t are is = absurd are
tickets_on (b ∷ ps) (u ∷ ts) a t are is = (are.0, tickets_on ps ts a t are.1 is)

pub as_many : (ps : List Asker) (ts : List Ticket) → AreTickets ps ts → length ts ≡ length ps
as_many [] [] are = refl
as_many [] (u ∷ ts) are = absurd are
as_many (b ∷ ps) [] are = absurd are
as_many (b ∷ ps) (u ∷ ts) are = let n = as_many ps ts are.1 in omega (arith, n)

-- what holds of all passes of the lock holds of all parties
through : (P : Ticket → Type 0) (Q : Asker → Type 0) → ((t : Ticket) (a : Asker) → asker_of t a.board a.known ≡ a → P t → Q a) → (ps : List Asker) (ts : List Ticket) → AreTickets ps ts → All P ts → All Q ps
through P Q f [] [] are all k d lt = absurd (omega (arith, lt))
through P Q f [] (u ∷ ts) are all k d lt = absurd are
through P Q f (b ∷ ps) [] are all k d lt = absurd are
through P Q f (b ∷ ps) (u ∷ ts) are all zero d lt = f u b are.0 (all 0 u (omega arith))
through P Q f (b ∷ ps) (u ∷ ts) are all (suc k) d lt = through P Q f ps ts are.1 (λ j e less. all (suc j) e (omega (arith, less))) k d (omega (arith, lt))

-- and the other way round
back : (P : Ticket → Type 0) (Q : Asker → Type 0) → ((t : Ticket) (a : Asker) → asker_of t a.board a.known ≡ a → Q a → P t) → (ps : List Asker) (ts : List Ticket) → AreTickets ps ts → All Q ps → All P ts
back P Q f [] [] are all k d lt = absurd (omega (arith, lt))
back P Q f [] (u ∷ ts) are all k d lt = absurd are
back P Q f (b ∷ ps) [] are all k d lt = absurd are
back P Q f (b ∷ ps) (u ∷ ts) are all zero d lt = f u b are.0 (all 0 b (omega arith))
back P Q f (b ∷ ps) (u ∷ ts) are all (suc k) d lt = back P Q f ps ts are.1 (λ j e less. all (suc j) e (omega (arith, less))) k d (omega (arith, lt))

pub locks_are : (id : LockId) (ps : List Asker) (ts : List Ticket) → AreTickets ps ts → All (λ (a : Asker). a.lock ≡ id) ps → All (λ (t : Ticket). t.lock ≡ id) ts
locks_are id ps ts are locks = back (λ (t : Ticket). t.lock ≡ id) (λ (a : Asker). a.lock ≡ id) (λ t a is same. ap (λ (x : Asker). x.lock) is ∙ same) ps ts are locks

sum_entries : (f : Entry → ℕ) (h : List Call) → sum_by f (entries_of h) ≡ sum_by (λ (c : Call). f (entry_of c)) h
sum_entries f [] = refl
sum_entries f (c ∷ cs) =
    let a = sum_by-cons f (entry_of c) (entries_of cs) in
    let b = sum_by-cons (λ (x : Call). f (entry_of x)) c cs in
    let r = sum_entries f cs in
    omega (arith, a, b, r)

sum_parties : (f : Entry → ℕ) (ps : List Asker) (ts : List Ticket) → AreTickets ps ts → sum_by (λ (a : Asker). sum_by f a.mine) ps ≡ sum_by (λ (t : Ticket). sum_by (λ (c : Call). f (entry_of c)) t.mine) ts
sum_parties f [] [] are = refl
sum_parties f [] (u ∷ ts) are = absurd are
sum_parties f (b ∷ ps) [] are = absurd are
sum_parties f (b ∷ ps) (u ∷ ts) are =
    let a = sum_by-cons (λ (x : Asker). sum_by f x.mine) b ps in
    let c = sum_by-cons (λ (t : Ticket). sum_by (λ (x : Call). f (entry_of x)) t.mine) u ts in
    let own : sum_by f b.mine ≡ sum_by (λ (x : Call). f (entry_of x)) u.mine = ap (λ (x : Asker). sum_by f x.mine) (sym are.0) ∙ sum_entries f u.mine in
    let r = sum_parties f ps ts are.1 in
    omega (arith, a, c, own, r)

-- what the close of the lock tells, in the machine's entries
pub tells : (law : DeskLaw) (ps : List Asker) (ts : List Ticket) (book : DeskBook) (calls : ℕ) (closed : Closed) → AreTickets ps ts → Closes party_of Runs Stands law ts book calls
    → closed.calls ≡ calls → closed.grants ≡ book.book.grants → closed.log.entries.items ≡ book.log.pushed → closed.log.cut ≡ book.cut → (h : List Entry) × Tells law ps closed h
tells law ps ts book calls closed are closes calls_is grants_is logged cut =
    let h : List Call = closes.history in (
      entries_of h,
      record {
        run = closes.runs.run;
        calls_is = calls_is ∙ (closes.count_is ∙ ap (λ (n : ℕ). n % 2 ^ 64) (sym (entries_length h)));
        grants_is = grants_is ∙ closes.stood.grants_is;
        logged = logged ∙ closes.stood.logged;
        cut_is = cut ∙ closes.stood.cut_is;
        seen = through (λ (t : Ticket). turns.IsPrefix t.seen h) (λ (a : Asker). Extends a.seen (entries_of h))
            (λ t a is pre. subst (λ (x : Asker). Extends x.seen (entries_of h)) is (entries_of pre.0, ap entries_of pre.1 ∙ map-append entry_of t.seen pre.0)) ps ts are closes.seen;
        mine = through (λ (t : Ticket). turns.own party_of t.number h ≡ t.mine) (λ (a : Asker). machine.own (entries_of h) a.number ≡ a.mine)
            (λ t a is own. subst (λ (x : Asker). machine.own (entries_of h) x.number ≡ x.mine) is (own_entries t.number h ∙ ap entries_of own)) ps ts are closes.mine;
        low = through (λ (t : Ticket). t.number < length ts) (λ (a : Asker). a.number < length ps)
            (λ t a is low. subst (λ (x : Asker). x.number < length ps) is (let n = as_many ps ts are in omega (arith, low, n))) ps ts are closes.low;
        others = λ q nobody. own_entries q h ∙ ap entries_of (closes.others q
            (back (λ (t : Ticket). t.number ≢ q) (λ (a : Asker). a.number ≢ q) (λ t a is other same. other (sym (ap (λ (x : Asker). x.number) is) ∙ same)) ps ts are nobody));
        sums = λ f. sum_parties f ps ts are ∙ (closes.sums (λ (c : Call). f (entry_of c)) ∙ sym (sum_entries f h));
      },
    )
