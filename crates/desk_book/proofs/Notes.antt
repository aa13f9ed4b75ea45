-- The board after one call more.
use Rattle.std.proofs.Common.{◌≡◌, ◌⊎◌, ℕ, ◌+◌, ◌≤◌, ◌<◌, false, true, List, [], ◌∷◌, ◌++◌, length, take, min, slice_get, Some, refl, sym, ap, subst, ◌∙◌, ⊎_elim, arith, length-append}
use Rattle.std.proofs.lemmas.List.{take-append-le, take_min, map-append, length-map}
use Rattle.std.proofs.Math.Seq.{take-length}
use Rattle.std.proofs.lemmas.Option.{slice_get_within}
use Rattle.options_machine.specs.declared.reply.Entry.{Entry}
use Rattle.pass_roles.proofs.Members.{got_snoc}
use Rattle.stat_board.specs.Fronts.{Front, longer}
use Rattle.stat_board.specs.Rule.{Posted}
use Rattle.desk_book.specs.Standing.{AreNoted, Call, Shows, at, entries_of, entry_of}

pub entries_longer : (h : List Call) (c : Call) → entries_of (h ++ c ∷ []) ≡ entries_of h ++ entry_of c ∷ []
entries_longer h c = map-append entry_of h (c ∷ [])

pub entries_length : (h : List Call) → length (entries_of h) ≡ length h
entries_length h = length-map h entry_of

-- all entries of a list that is no longer than n
take_all : (n : ℕ) (xs : List Entry) → length xs ≤ n → take n xs ≡ xs
take_all n xs le = sym (take_min n xs) ∙ (ap (λ (k : ℕ). take k xs) (omega arith) ∙ take-length xs)

-- the notes stay those of the number of published entries, and the new one is the next
noted_longer : (f g : Front) (n m : ℕ) (h : List Call) (c : Call) → at f [] ≡ at g [] → min (length h) n ≡ min (length h) m → AreNoted f n h
    → c.answer.note ≡ at g (take (min (length h + 1) m) (entries_of (h ++ c ∷ []))) → AreNoted g m (h ++ c ∷ [])
noted_longer f g n m h c same cuts old new k x is = ⊎_elim
    (λ (t : slice_get h k ≡ Some x).
    let within : k < length h = slice_get_within h k x t in
    let cut : min (k + 1) n ≡ min (k + 1) m = omega arith in
    let long : length (entries_of h) ≡ length h = entries_length h in
    let taken : take (min (k + 1) m) (entries_of (h ++ c ∷ [])) ≡ take (min (k + 1) m) (entries_of h) =
    ap (λ (l : List Entry). take (min (k + 1) m) l) (entries_longer h c) ∙ take-append-le (min (k + 1) m) (entries_of h) (entry_of c ∷ []) (omega arith) in
    old k x t ∙ (ap (λ (o : Front). at o (take (min (k + 1) n) (entries_of h))) same ∙ ap (at g) (ap (λ (i : ℕ). take i (entries_of h)) cut ∙ sym taken)))
    (λ (t : (k ≡ length h) × (c ≡ x)).
    subst (λ (z : Call). z.answer.note ≡ at g (take (min (k + 1) m) (entries_of (h ++ c ∷ [])))) t.1
    (subst (λ (j : ℕ). c.answer.note ≡ at g (take (min (j + 1) m) (entries_of (h ++ c ∷ [])))) (sym t.0) new))
    (got_snoc h c x k is)

-- the entry was published
shows_posted : (b : Posted) (h : List Call) (c : Call) → b.live ≡ true → Shows b h → c.answer.note ≡ longer b.front (entry_of c) → Shows (record b { front = longer b.front (entry_of c) }) (h ++ c ∷ [])
shows_posted b h c live s note =
    let long : length (entries_of h) ≡ length h = entries_length h in
    let all : b.front.list ≡ entries_of h = s.shown ∙ take_all s.published (entries_of h) (let a = s.all live in omega arith) in
    let list : b.front.list ++ entry_of c ∷ [] ≡ entries_of (h ++ c ∷ []) = ap (λ (l : List Entry). l ++ entry_of c ∷ []) all ∙ sym (entries_longer h c) in
    let more : length (entries_of (h ++ c ∷ [])) ≡ length h + 1 = entries_length (h ++ c ∷ []) ∙ length-append h (c ∷ []) in
    let whole : entries_of (h ++ c ∷ []) ≡ take (length h + 1) (entries_of (h ++ c ∷ [])) = sym (take_all (length h + 1) (entries_of (h ++ c ∷ [])) (omega arith)) in
    let cut : length h + 1 ≡ min (length h + 1) (length h + 1) = omega arith in
    record {
      published = length h + 1;
      noted = noted_longer b.front (longer b.front (entry_of c)) s.published (length h + 1) h c refl (let a = s.all live in omega arith) s.noted
          (note ∙ ap (at b.front) (list ∙ (whole ∙ ap (λ (i : ℕ). take i (entries_of (h ++ c ∷ []))) cut)));
      shown = list ∙ whole;
      all = λ _. omega (arith, length-append h (c ∷ []));
    }

-- nothing more is published
shows_over : (b : Posted) (h : List Call) (c : Call) → Shows b h → c.answer.note ≡ b.front → Shows (record b { live = false }) (h ++ c ∷ [])
shows_over b h c s note =
    let long : length (entries_of h) ≡ length h = entries_length h in
    let n = min s.published (length h) in
    let kept : take s.published (entries_of h) ≡ take n (entries_of (h ++ c ∷ [])) =
    sym (take_min s.published (entries_of h)) ∙ (ap (λ (i : ℕ). take (min s.published i) (entries_of h)) long
    ∙ sym (ap (λ (l : List Entry). take n l) (entries_longer h c) ∙ take-append-le n (entries_of h) (entry_of c ∷ []) (omega arith))) in
    let cut : n ≡ min (length h + 1) n = omega arith in
    record {
      published = n;
      noted = noted_longer b.front b.front s.published n h c refl (omega arith) s.noted
          (note ∙ ap (at b.front) (s.shown ∙ (kept ∙ ap (λ (i : ℕ). take i (entries_of (h ++ c ∷ []))) cut)));
      shown = s.shown ∙ kept;
      all = λ live. absurd (cc live);
    }

-- what one step of the board does
abbrev pub Posts : Posted → Entry → Posted → Type 0
Posts b x b' = ((b.live ≡ true) × (b' ≡ record b { front = longer b.front x })) ⊎ (b' ≡ record b { live = false })

pub shows_more : (b b' : Posted) (h : List Call) (c : Call) → Posts b (entry_of c) b' → Shows b h → c.answer.note ≡ b'.front → Shows b' (h ++ c ∷ [])
shows_more b b' h c posts s note = ⊎_elim
    (λ (t : (b.live ≡ true) × (b' ≡ record b { front = longer b.front (entry_of c) })).
    subst (λ (z : Posted). Shows z (h ++ c ∷ [])) (sym t.1) (shows_posted b h c t.0 s (note ∙ ap (λ (z : Posted). z.front) t.1)))
    (λ (t : b' ≡ record b { live = false }).
    subst (λ (z : Posted). Shows z (h ++ c ∷ [])) (sym t) (shows_over b h c s (note ∙ ap (λ (z : Posted). z.front) t)))
    posts

-- a step of the board leaves of which board it is
pub opening_kept : (b b' : Posted) (x : Entry) → Posts b x b' → at b'.front [] ≡ at b.front []
opening_kept b b' x posts = ⊎_elim
    (λ (t : (b.live ≡ true) × (b' ≡ record b { front = longer b.front x })). ap (λ (z : Posted). at z.front []) t.1)
    (λ (t : b' ≡ record b { live = false }). ap (λ (z : Posted). at z.front []) t)
    posts

-- the notes are those of any front of the same board
pub noted_at : (f g : Front) (n : ℕ) (h : List Call) → at f [] ≡ at g [] → AreNoted f n h → AreNoted g n h
noted_at f g n h same noted k c is = noted k c is ∙ ap (λ (o : Front). at o (take (min (k + 1) n) (entries_of h))) same
