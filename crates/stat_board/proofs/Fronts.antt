-- Beginnings of one list, and fronts of one board.
use Rattle.std.proofs.Common.{◌≡◌, ◌≤◌, List, [], ◌∷◌, ◌++◌, length, refl, sym, ◌∙◌, ap, arith, append_assoc}
use Rattle.std.proofs.lemmas.List.{append-nil}
use mathlib.Core.List.{IsPrefix}
use Rattle.options_machine.specs.declared.reply.Entry.{Entry}
use Rattle.stat_board.specs.Fronts.{Front, IsSameBoard, IsLater}

-- of two beginnings of one list the shorter begins the longer
shorter_begins : {X : Type 0} (xs ys zs : List X) → IsPrefix xs zs → IsPrefix ys zs → length xs ≤ length ys → IsPrefix xs ys
shorter_begins [] ys zs p q le = (ys, refl)
shorter_begins (x ∷ xs) [] zs p q le = absurd (omega arith)
shorter_begins (x ∷ xs) (y ∷ ys) [] p q le = absurd (cc (p.1))
shorter_begins (x ∷ xs) (y ∷ ys) (z ∷ zs) p q le =
    let heads : x ≡ y = cc (p.1, q.1) in
    let rest = shorter_begins xs ys zs (p.0, cc (p.1)) (q.0, cc (q.1)) (omega arith) in
    (rest.0, cc (heads, rest.1))

-- a beginning as long as the whole is the whole
pub prefix_whole : {X : Type 0} (xs ys : List X) → IsPrefix xs ys → length ys ≤ length xs → xs ≡ ys
prefix_whole [] [] p le = refl
prefix_whole [] (y ∷ ys) p le = absurd (omega arith)
prefix_whole (x ∷ xs) [] p le = absurd (cc (p.1))
prefix_whole (x ∷ xs) (y ∷ ys) p le = let rest = prefix_whole xs ys (p.0, cc (p.1)) (omega arith) in cc (p.1, rest)

-- of two fronts of one board, the one with the shorter list is the earlier
pub later : (f g : Front) (both : List Entry) → IsSameBoard f g → IsPrefix f.list both → IsPrefix g.list both → length f.list ≤ length g.list → IsLater f g
later f g both same p q less = let begins = shorter_begins f.list g.list both p q less in record { board = same.board; sets = same.sets; list = (begins.0, sym begins.1) }

pub later_self : (f : Front) → IsLater f f
later_self f = record { board = refl; sets = refl; list = ([], sym (append-nil f.list)) }

pub later_trans : (f g h : Front) → IsLater f g → IsLater g h → IsLater f h
later_trans f g h p q =
    record {
      board = q.board ∙ p.board;
      sets = q.sets ∙ p.sets;
      list = (p.list.0 ++ q.list.0, q.list.1 ∙ (ap (λ w. w ++ q.list.0) p.list.1 ∙ append_assoc f.list p.list.0 q.list.0));
    }
