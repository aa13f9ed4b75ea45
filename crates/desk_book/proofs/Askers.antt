-- What a party knows after a call.
use Rattle.std.proofs.Common.{◌≡◌, ℕ, zero, suc, ◌+◌, ◌%◌, ◌^◌, ◌≤◌, Bool, true, false, List, [], ◌∷◌, ◌++◌, length, take, min, slice_get, Some, refl, sym, ap, subst, ◌∙◌, arith, eqb, length-append, append_assoc}
use Rattle.std.proofs.lemmas.List.{take-append-le, length-take, map-append}
use Rattle.std.proofs.lemmas.Option.{slice_get_within}
use Rattle.counter.specs.Account.{Extends}
use Rattle.options_machine.specs.declared.reply.Entry.{Entry}
use Rattle.options_machine.specs.Own as machine
use Rattle.stat_board.specs.Fronts.{Front, IsSameBoard, IsLater}
use Rattle.turn_lock.specs.Entries as turns
use Rattle.desk_book.specs.declared.book.DeskLaw.{DeskLaw}
use Rattle.desk_book.specs.Askers.{IsCount, IsInformed, Makes, Ticket, asker_of, party_of}
use Rattle.desk_book.specs.Standing.{AreNoted, Call, Runs, at, entries_of, entry_of, used_at}
use Rattle.desk_book.proofs.Notes.{entries_length, entries_longer}

own_step : (p : ℕ) (c : Call) (cs : List Call) (b : Bool) → eqb c.request.party p ≡ b → machine.own (entries_of cs) p ≡ entries_of (turns.own party_of p cs) → machine.own (entries_of (c ∷ cs)) p ≡ entries_of (turns.own party_of p (c ∷ cs))
own_step p c cs true e f = rw e (ap (λ (z : List Entry). entry_of c ∷ z) f)
own_step p c cs false e f = rw e f

-- a party's own entries are those of its own calls
pub own_entries : (p : ℕ) (h : List Call) → machine.own (entries_of h) p ≡ entries_of (turns.own party_of p h)
own_entries p [] = refl
own_entries p (c ∷ cs) = own_step p c cs (eqb c.request.party p) refl (own_entries p cs)

get_seam : {X : Type 0} (h : List X) (e : X) → slice_get (h ++ e ∷ []) (length h) ≡ Some e
get_seam [] e = refl
get_seam (x ∷ h) e = get_seam h e

get_front : {X : Type 0} (h more : List X) (k : ℕ) (x : X) → slice_get h k ≡ Some x → slice_get (h ++ more) k ≡ Some x
get_front [] more k x is = absurd (cc is)
get_front (y ∷ h) more zero x is = is
get_front (y ∷ h) more (suc k) x is = get_front h more k x is

-- the notes of a beginning
noted_front : (f : Front) (n : ℕ) (h more : List Call) → AreNoted f n (h ++ more) → AreNoted f n h
noted_front f n h more all k x is =
    let within = slice_get_within h k x is in
    let long : length (entries_of h) ≡ length h = entries_length h in
    let same : take (min (k + 1) n) (entries_of (h ++ more)) ≡ take (min (k + 1) n) (entries_of h) =
    ap (λ (l : List Entry). take (min (k + 1) n) l) (map-append entry_of h more) ∙ take-append-le (min (k + 1) n) (entries_of h) (entries_of more) (omega arith) in
    all k x (get_front h more k x is) ∙ ap (at f) same

-- the note of the last call
note_last : (f : Front) (n : ℕ) (h : List Call) (c : Call) → AreNoted f n (h ++ c ∷ []) → c.answer.note ≡ at f (take (min (length h + 1) n) (entries_of (h ++ c ∷ [])))
note_last f n h c all = all (length h) c (get_seam h c)

count_last : (f : Front) (h : List Call) (c : Call) → IsCount f (h ++ c ∷ []) (length c.answer.note.list)
count_last f h c n all =
    let long : length (entries_of (h ++ c ∷ [])) ≡ length h + 1 = entries_length (h ++ c ∷ []) ∙ length-append h (c ∷ []) in
    let more : length (h ++ c ∷ []) ≡ length h + 1 = length-append h (c ∷ []) in
    ap (λ (g : Front). length g.list) (note_last f n h c all) ∙ (length-take (min (length h + 1) n) (entries_of (h ++ c ∷ [])) ∙ omega arith)

-- the note of the last call stands for as many of the entries as it counts
list_last : (f : Front) (n : ℕ) (h : List Call) (c : Call) → AreNoted f n (h ++ c ∷ []) → c.answer.note.list ≡ take (length c.answer.note.list) (entries_of (h ++ c ∷ []))
list_last f n h c all =
    let more : length (h ++ c ∷ []) ≡ length h + 1 = length-append h (c ∷ []) in
    let count : length c.answer.note.list ≡ min (length h + 1) n = count_last f h c n all ∙ ap (λ (k : ℕ). min k n) more in
    ap (λ (g : Front). g.list) (note_last f n h c all) ∙ ap (λ (k : ℕ). take k (entries_of (h ++ c ∷ []))) (sym count)

-- what the last call's note tells of the board that its law names
pub note_at : (f : Front) (h : List Call) (c : Call) (n : ℕ) → AreNoted f n (h ++ c ∷ []) → at f c.answer.note.list ≡ c.answer.note
note_at f h c n all = let e = note_last f n h c all in ap (λ (g : Front). at f g.list) e ∙ sym e

-- the ticket t becomes u by the call c
module _ (t u : Ticket) (board : ℕ) (old now : Front) (informed : IsInformed t board old) (c : Call) (between : List Call)
    (lock_is : u.lock ≡ t.lock) (number_is : u.number ≡ t.number) (law_is : u.law ≡ t.law) (seen_is : u.seen ≡ (t.seen ++ between) ++ c ∷ []) (runs : Runs u.law u.seen) (mine_is : u.mine ≡ t.mine ++ c ∷ [])
    (own_is : turns.own party_of u.number u.seen ≡ u.mine) where
  abbrev before : List Call
  before = t.seen ++ between

  noted : AreNoted u.law.board runs.published (before ++ c ∷ [])
  noted = subst (AreNoted u.law.board runs.published) seen_is runs.noted

  board_is : u.law.board ≡ t.law.board
  board_is = ap (λ (l : DeskLaw). l.board) law_is

  pub note_of : c.answer.note ≡ at u.law.board c.answer.note.list
  note_of = sym (note_at u.law.board before c runs.published noted)

  pub same_board : IsSameBoard old c.answer.note
  same_board = record {
    board = ap (λ (g : Front). g.board) (note_of ∙ ap (λ (g : Front). at g c.answer.note.list) board_is) ∙ sym informed.same.board;
    sets = ap (λ (g : Front). g.sets) (note_of ∙ ap (λ (g : Front). at g c.answer.note.list) board_is) ∙ sym informed.same.sets;
  }

  count_now : IsCount u.law.board u.seen (length c.answer.note.list)
  count_now = subst (λ (h : List Call). IsCount u.law.board h (length c.answer.note.list)) (sym seen_is) (count_last u.law.board before c)

  counted : length c.answer.note.list ≡ min (length u.seen) runs.published
  counted = count_now runs.published runs.noted

  pub informed_now : IsLater old now → IsLater c.answer.note now → IsInformed u (length c.answer.note.list) now
  informed_now later heard = record {
    whole = ap (λ (l : DeskLaw). l.parties) law_is ∙ (informed.whole ∙ sym (ap (λ l. l.parties) lock_is));
    runs = runs;
    own_is = own_is;
    count = count_now;
    same = record { board = later.board ∙ (informed.same.board ∙ sym (ap (λ (g : Front). g.board) board_is)); sets = later.sets ∙ (informed.same.sets ∙ sym (ap (λ (g : Front). g.sets) board_is)) };
    told = subst (λ (l : List Entry). Extends l now.list) (list_last u.law.board runs.published before c noted ∙ ap (λ (h : List Call). take (length c.answer.note.list) (entries_of h)) (sym seen_is)) heard.list;
  }

  -- what the board showed before was of the same number of published entries
  old_count : board ≡ min (length t.seen) runs.published
  old_count = informed.count runs.published
      (noted_front t.law.board runs.published t.seen (between ++ c ∷ []) (subst (λ (g : Front). AreNoted g runs.published (t.seen ++ (between ++ c ∷ []))) board_is
      (subst (AreNoted u.law.board runs.published) (append_assoc t.seen between (c ∷ [])) noted)))

  longer : length u.seen ≡ length t.seen + length between + 1
  longer = ap length seen_is ∙ (let a = length-append before (c ∷ []) in let b = length-append t.seen between in omega (arith, a, b))

  pub board_grows : (board ≤ length c.answer.note.list) × (length c.answer.note.list ≤ length (entries_of u.seen))
  board_grows =
      let a = counted in let b = old_count in let l = longer in let e = entries_length u.seen in
      (omega (arith, a, b, l), omega (arith, a, e))

  -- of one number of published entries the board shows as many as there are, now as before
  pub board_counts : (n : ℕ) × (length c.answer.note.list ≡ min (length (entries_of u.seen)) n) × (board ≡ min (length (entries_of t.seen)) n)
  board_counts = (
    runs.published,
    counted ∙ ap (λ (k : ℕ). min k runs.published) (sym (entries_length u.seen)),
    old_count ∙ ap (λ (k : ℕ). min k runs.published) (sym (entries_length t.seen)),
  )

  pub makes : (used moment place : ℕ) → used ≡ c.used → c.used ≡ used_at u.law before moment → place ≡ length before % 2 ^ 64
      → Makes (asker_of t board old) (asker_of u (length c.answer.note.list) now) moment place (entries_of before) (entry_of c)
  makes used moment place same used_is place_is = record {
    since = (entries_of between, map-append entry_of t.seen between);
    seen = ap entries_of seen_is ∙ entries_longer before c;
    sets = runs.sets;
    run = runs.run;
    mine = ap entries_of mine_is ∙ entries_longer t.mine c;
    only = ap entries_of (sym own_is) ∙ sym (own_entries u.number u.seen);
    moment_is = used_is;
    place_is = place_is ∙ ap (λ (n : ℕ). n % 2 ^ 64) (sym (entries_length before));
  }

-- what a party knows of the board has at least as many entries as the board showed at its last call
pub known_longer : (t : Ticket) (board : ℕ) (known : Front) → IsInformed t board known → board ≤ length known.list
known_longer t board known informed =
    let short : board ≡ min (length t.seen) informed.runs.published = informed.count informed.runs.published informed.runs.noted in
    let long : length (entries_of t.seen) ≡ length t.seen = entries_length t.seen in
    let shown : length (take board (entries_of t.seen)) ≡ min board (length (entries_of t.seen)) = length-take board (entries_of t.seen) in
    let more : length known.list ≡ length (take board (entries_of t.seen)) + length informed.told.0 = ap length informed.told.1 ∙ length-append (take board (entries_of t.seen)) informed.told.0 in
    omega (arith, short, long, shown, more)
