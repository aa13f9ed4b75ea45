-- One step of the value behind the lock.
use Rattle.std.proofs.Math.Nat.{mod-add-mod}
use Rattle.std.proofs.Common.{◌≡◌, ⊎_elim, ℕ, ◌+◌, ◌%◌, ◌<◌, ◌^◌, true, false, cond, nat_lt, List, [], ◌∷◌, ◌++◌, length, take, ap, sym, ◌∙◌, subst, arith}
use Rattle.counter.specs.Account.{grants}
use Rattle.counter.specs.declared.glance.Glance.{Glance}
use Rattle.counter.specs.Glances.{numbers_of}
use Rattle.options_machine.specs.declared.reply.Entry.{Entry}
use Rattle.options_machine.specs.declared.reply.Reply.{Reply}
use Rattle.options_machine.specs.Own.{brings_seat}
use Rattle.options_machine.specs.Rules.{Rules}
use Rattle.options_machine.specs.Run.{AsksForSet, IsRun, after}
use Rattle.options_machine.specs.Settle.{later_moment}
use Rattle.options_machine.specs.State.{State, opening}
use Rattle.options_machine.specs.Step.{step}
use Rattle.options_machine.proofs.Counts.{count-cons}
use Rattle.options_machine.proofs.Moments.{moved_later, moved_within, step_again, step_now}
use Rattle.options_machine.proofs.Runs.{after-snoc, run_more}
use Rattle.stat_board.specs.Fronts.{longer}
use Rattle.stat_board.specs.Rule.{Posted}
use Rattle.stat_board.specs.Shows.{HasNumbers}
use Rattle.desk_book.specs.declared.book.DeskBook.{DeskBook}
use Rattle.desk_book.specs.Standing.{Call, Runs, Shows, Stands, at, entries_of, entry_of, law_of}
use Rattle.desk_book.proofs.Logs.{Cuts, Logged}
use Rattle.desk_book.proofs.Notes.{Posts, entries_longer, noted_at, opening_kept, shows_more}
use Rattle.audit_log.specs.declared.queue.TheConstants.{ENTRY_LIMIT}

pub grants_longer : (h : List Entry) (e : Entry) → grants (h ++ e ∷ []) ≡ grants h + cond (brings_seat e.reply) 1 0
grants_longer [] e = let one : grants (e ∷ []) ≡ cond (brings_seat e.reply) 1 0 + 0 = count-cons (λ (x : Entry). brings_seat x.reply) e [] in omega (arith, one)
grants_longer (x ∷ xs) e =
    let one = count-cons (λ (y : Entry). brings_seat y.reply) x (xs ++ e ∷ []) in
    let two = count-cons (λ (y : Entry). brings_seat y.reply) x xs in
    omega (arith, one, two, grants_longer xs e)

-- a step at some state
module _ (sets : List Rules) (s : State) (e : Entry) (moment : ℕ) (new : State) (small : s.now < 2 ^ 40) (stepped : (e.reply, new) ≡ step sets s e.request moment) (used_is : e.moment ≡ new.now) where
  -- uses the moment to which settling brings that state
  pub used_moved : e.moment ≡ later_moment s.now moment
  used_moved = used_is ∙ (ap (λ (z : Reply × State). z.1.now) stepped ∙ step_now sets s e.request moment)

  again : step sets s e.request e.moment ≡ (e.reply, new)
  again = ap (step sets s e.request) used_moved ∙ (step_again sets s e.request moment small ∙ sym stepped)

  -- leaves the state that the longer list reaches, where that state is reached by a list
  pub state_next : (h : List Entry) → s ≡ after sets h → new ≡ after sets (h ++ e ∷ [])
  state_next h reached =
      sym (after-snoc sets opening h e ∙ (ap (λ (t : State). (step sets t e.request e.moment).1) (sym reached) ∙ ap (λ (z : Reply × State). z.1) again))

  -- and is the next entry of the run, where the list is a run
  pub run_next : (h : List Entry) → s ≡ after sets h → IsRun sets h → AsksForSet sets e.request → IsRun sets (h ++ e ∷ [])
  run_next h reached run fits =
      let now : s.now ≡ (after sets h).now = ap (λ (t : State). t.now) reached in
      run_more sets opening h e run (record {
        later = let l = moved_later s.now moment in omega (arith, l, used_moved, now);
        within = let l = moved_within s.now moment small in omega (arith, l, used_moved);
        fits = fits;
        reply = sym (ap (λ (t : State). (step sets t e.request e.moment).0) (sym reached) ∙ ap (λ (z : Reply × State). z.0) again);
      })

-- the moment that is used after these calls
pub used_moment : (sets : List Rules) (s : State) (e : Entry) (moment : ℕ) (new : State) → s.now < 2 ^ 40 → (e.reply, new) ≡ step sets s e.request moment → e.moment ≡ new.now → (h : List Call) → s ≡ after sets (entries_of h)
    → e.moment ≡ later_moment (after sets (entries_of h)).now moment
used_moment sets s e moment new small stepped used_is h reached = used_moved sets s e moment new small stepped used_is ∙ ap (λ (t : State). later_moment t.now moment) reached

-- the numbers that are published are those of the longer list
pub numbers_next : (sets of_board of_new : List Rules) (list : List Entry) (e : Entry) (new : State) (g : Glance) → of_board ≡ sets → of_new ≡ sets → new ≡ after sets (list ++ e ∷ []) → g ≡ numbers_of of_new 0 new
    → HasNumbers of_board (list ++ e ∷ []) g
numbers_next sets of_board of_new list e new g board same state is =
    let front : 0 ≡ g.front = sym (ap (λ (x : Glance). x.front) is) in
    is ∙ (ap (λ (r : List Rules). numbers_of r 0 new) (same ∙ sym board)
    ∙ (ap (λ (n : ℕ). numbers_of of_board n new) front ∙ ap (numbers_of of_board g.front) (state ∙ ap (λ (r : List Rules). after r (list ++ e ∷ [])) (sym board))))

-- the board stays that of the book
pub board_next : (b b' : Posted) (e : Entry) (sets of_new : List Rules) (new : State) → Posts b e b' → b.front.sets ≡ sets → of_new ≡ sets → (b.live ≡ true → new ≡ after sets (b.front.list ++ e ∷ []))
    → (b'.front.sets ≡ of_new) × (b'.live ≡ true → new ≡ after of_new b'.front.list)
board_next b b' e sets of_new new posts board same state = ⊎_elim
    (λ (t : (b.live ≡ true) × (b' ≡ record b { front = longer b.front e })). (
      ap (λ (z : Posted). z.front.sets) t.1 ∙ (board ∙ sym same),
      λ _. state t.0 ∙ (λ k. after (sym same k) (sym (ap (λ (z : Posted). z.front.list) t.1) k)),
    ))
    (λ (t : b' ≡ record b { live = false }). (
      ap (λ (z : Posted). z.front.sets) t ∙ (board ∙ sym same),
      λ live. absurd (cc (live, ap (λ (z : Posted). z.live) t)),
    ))
    posts

-- the run is longer by the entry, and the notes by its note
pub runs_more : (old : DeskBook) (board : Posted) (state : State) (c : Call) (moment : ℕ) (h : List Call)
    → AsksForSet old.book.sets c.request → (c.answer.reply, state) ≡ step old.book.sets old.book.state c.request moment → c.used ≡ state.now → Posts old.board (entry_of c) board → c.answer.note ≡ board.front
    → Stands old h → Runs (law_of old) h → Runs (law_of old) (h ++ c ∷ [])
runs_more old board state c moment h fits stepped used_is posts note stood ran =
    let shown : Shows board (h ++ c ∷ []) = shows_more old.board board h c posts stood.board_shows note in
    record {
      sets = ran.sets;
      board_sets = ran.board_sets;
      run = subst (IsRun old.book.sets) (sym (entries_longer h c))
          (run_next old.book.sets old.book.state (entry_of c) moment state old.small stepped used_is (entries_of h) stood.state ran.run fits);
      published = shown.published;
      noted = noted_at board.front (at old.board.front []) shown.published (h ++ c ∷ []) (opening_kept old.board board (entry_of c) posts) shown.noted;
    }

-- what is known of one step of a desk's book
pub record IsStep (old new : DeskBook) (c : Call) (moment : ℕ) : Type 0 where
  pub stepped : (c.answer.reply, new.book.state) ≡ step old.book.sets old.book.state c.request moment
  pub used_is : c.used ≡ new.book.state.now
  pub same : new.book.sets ≡ old.book.sets
  pub counted : new.book.grants ≡ (old.book.grants + cond (brings_seat c.answer.reply) 1 0) % 2 ^ 64
  pub logged : Logged old.log.pushed old.cut new.log.pushed (entry_of c)
  pub cut_is : Cuts old.log.pushed old.cut new.cut (entry_of c)
  pub posts : Posts old.board (entry_of c) new.board
  pub note : c.answer.note ≡ new.board.front

-- the book stands for the longer history
pub stands_more : (old new : DeskBook) (c : Call) (moment : ℕ) (h : List Call) → IsStep old new c moment → Stands old h → Stands new (h ++ c ∷ [])
stands_more old new c moment h i stood = record {
  state = state_next old.book.sets old.book.state (entry_of c) moment new.book.state old.small i.stepped i.used_is (entries_of h) stood.state
      ∙ (λ k. after (sym i.same k) (sym (entries_longer h c) k));
  grants_is = i.counted ∙ (ap (λ (n : ℕ). (n + cond (brings_seat c.answer.reply) 1 0) % 2 ^ 64) stood.grants_is ∙ (mod-add-mod (grants (entries_of h)) (2 ^ 64) (cond (brings_seat c.answer.reply) 1 0)
      ∙ ap (λ (n : ℕ). n % 2 ^ 64) (sym (ap grants (entries_longer h c) ∙ grants_longer (entries_of h) (entry_of c)))));
  logged = i.logged (entries_of h) stood.logged stood.cut_is ∙ ap (take ENTRY_LIMIT) (sym (entries_longer h c));
  cut_is = i.cut_is (entries_of h) stood.logged stood.cut_is ∙ ap (λ (l : List Entry). nat_lt ENTRY_LIMIT (length l)) (sym (entries_longer h c));
  board_shows = shows_more old.board new.board h c i.posts stood.board_shows i.note;
}
