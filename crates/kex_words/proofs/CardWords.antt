-- A card goes out and comes home.
use Rattle.std.proofs.Common.{◌≡◌, ◌≢◌, ℕ, ◌+◌, ◌*◌, ◌%◌, ◌^◌, ◌<◌, List, [], ◌∷◌, ◌++◌, length, get_or, set, sym, refl, ap, ◌∙◌, subst, ⊎_elim, inl, inr, arith, length-set, get_or-set_other, Option, Some}
use mathlib.Core.Logic.{dite}
use mathlib.Core.Option.{none, some}
use native.Mathlib.Decide.{ℕ_discrete}
use lib.ListN.{get_elem?}
use Rattle.atomic_table.specs.Table.{State, Act, step, stepped, takes, gives, Valid, carried_after, Allows}
use Rattle.atomic_table.proofs.Lists.{set_here, set_else}
use Rattle.kex_core.specs.declared.place.Place.{Place}
use Rattle.kex_core.specs.declared.place.Place.TheVariants.{Named, Holding}
use Rattle.kex_core.specs.Nets.{Plan}
use Rattle.kex_core.specs.Worlds.{due, after, machine_after_access}
use Rattle.kex_core.specs.Shapes.{Sheet, plan}
use Rattle.kex_core.proofs.Sums.{put_at, put_else}
use Rattle.kex_core.proofs.Exports.{card_home, card_away}
use Rattle.kex_words.specs.declared.card.Card.{Card}
use Rattle.pass_roles.specs.declared.role.Role.TheVariants.{Party}
use Rattle.kex_words.specs.declared.view.View.{View}
use Rattle.kex_words.specs.Passes.{times, got_after}
use Rattle.pass_roles.specs.Roles.{total, number_of}
use Rattle.kex_words.specs.Rule.{took_of, Standing, Homes, IsHome, IsAway, IsReadOff}
use Rattle.kex_words.specs.Steps.{Self, name_at, next_view, took, gave}
use Rattle.pass_roles.proofs.Members.{total_set, at_inside}
use Rattle.kex_words.proofs.Times.{once_more, as_often}
use Rattle.kex_words.proofs.Places.{word_put, held_from}
use Rattle.kex_words.proofs.Keeps.{own_owner, known, mine, there, told, reads}
use Rattle.kex_words.proofs.StageWords.{low}

abbrev St : Type 0
St = State (Option Card) View

-- a party that holds a card has its word at 1
pub holder_has : (net' : Sheet) (s : St) (r : IsReadOff net' s) (j q k : ℕ) (e : View) → Standing net' r.world r.made r.maker_seat r.owner s.views j q e → e.place ≡ Holding k → r.world.card k ≡ 1
holder_has net' s r j q k e f at = let o = own_owner net' r.world r.made r.maker_seat r.owner s.views j q e f in let few = r.few in let l = o.0 in
    card_away (plan net') r.is_net.valid r.world r.kept q (omega arith) (Holding k) (ap (due (plan net') q) (f.place_is ∙ at)) k refl

module _ (me : Self) (is : me.0.role ≡ Party (number_of me.0.role)) where
  abbrev v : View
  v = me.0

  abbrev p : ℕ
  p = number_of me.0.role

  abbrev net : Plan
  net = plan me.0.net

  abbrev word_of : ℕ → ℕ
  word_of k = 2 * length v.net.caps + v.net.width + k

  -- the card of a party that is named is at home
  home_is : (k : ℕ) → v.place ≡ Named k → (s : St) (id : ℕ) (r : IsReadOff v.net s) → get_elem? s.views id ≡ some v → r.world.card k ≡ 0
  home_is k named s id r at = let due_is : due net p v.place ≡ Named k = ap (due net p) named in
      card_home net r.is_net.valid r.world r.kept p (mine s id v r at is (Named k) due_is) (Named k) (there s id v r at is (Named k) due_is) k refl

  pub home_card : (k : ℕ) → v.place ≡ Named k → (s : St) (id : ℕ) (r : IsReadOff v.net s) → get_elem? s.views id ≡ some v → IsHome r.world.card s.homes s.views k
  home_card k named s id r at = let at_home = home_is k named s id r at in
      ⊎_elim (λ h. h) (λ (a : IsAway r.world.card s.homes s.views k). absurd (let z = a.0 in omega arith)) (r.cards k (low me is s id r at (Named k) (ap (due net p) named)).0)

  -- card k, which is c, goes out from its slot
  card_out_read : (k : ℕ) (named : v.place ≡ Named k) (s : St) (id : ℕ) (r : IsReadOff v.net s) (at : get_elem? s.views id ≡ some v) (c : Card) → get_elem? s.homes k ≡ some (some (Some c)) → c.uses ≡ total (took_of k) s.views % 2 ^ 64
      → (r' : IsReadOff v.net record { words = set s.words (word_of k) 1; homes = set s.homes k none; views = set s.views id (record (next_view v (get_or s.words (word_of k) 0)) { uses = (c.uses + 1) % 2 ^ 64 }) }) × (r'.world ≡ machine_after_access net r.world p (Named k))
  card_out_read k named s id r at c c_at c_uses =
      let due_is : due net p v.place ≡ Named k = ap (due net p) named in let inside : k < v.net.width = (low me is s id r at (Named k) due_is).0 in let at_home = home_is k named s id r at in let wide = r.wide in
      let n : ℕ = get_or s.words (word_of k) 0 in let n_is : n ≡ r.world.card k = r.card_is k inside in
      let u : ℕ = (c.uses + 1) % 2 ^ 64 in
      let z : View = record (next_view v n) { uses = u } in let views' : List View = set s.views id z in
      let got_is : z.got ≡ v.got ++ k ∷ [] = ap (λ (q : Place). got_after q v.got) due_is in
      let as_much : (x : ℕ) → x ≢ k → total (took_of x) views' ≡ total (took_of x) s.views = λ x o.
      let t = total_set (took_of x) s.views id v z at in let g : times x z.got ≡ times x v.got = ap (times x) got_is ∙ as_often x k v.got (λ e. o (sym e)) in omega arith in
      let more : total (took_of k) views' ≡ total (took_of k) s.views + 1 =
      let t = total_set (took_of k) s.views id v z at in let g : times k z.got ≡ times k v.got + 1 = ap (times k) got_is ∙ once_more k v.got in omega arith in
      let here : (x : ℕ) → after net p (due net p v.place) n ≡ Holding x → k ≡ x = λ x e. same_number k x (sym due_is ∙ held_from net p (due net p v.place) n x e) in
      let homes' : Homes = set s.homes k none in
      reads s id v r at is (Named k) due_is n n_is u (set s.words (word_of k) 1) homes' (length-set s.words (word_of k) 1)
      (λ j l. get_or-set_other s.words (word_of k) (2 * j + 1) 1 0 (λ e. omega arith) ∙ r.x_is j l)
      (λ j l. get_or-set_other s.words (word_of k) (2 * j + 2) 1 0 (λ e. omega arith) ∙ r.q_is j l)
      (λ j l. get_or-set_other s.words (word_of k) (2 * length v.net.caps + 1 + j) 1 0 (λ e. omega arith) ∙ r.bit_is j l)
      (λ j l. word_put s.words r.world.card word_of v.net.width r.card_is k 1 inside (omega arith) (λ i o e. o (omega arith)) j l)
      (λ x l. dite (ℕ_discrete x k)
      (λ e. inr (put_at r.world.card k 1 x e, ap (get_elem? homes') e ∙ set_here s.homes k none (at_inside s.homes k (some (Some c)) c_at)))
      (λ o. ⊎_elim (λ (h : IsHome r.world.card s.homes s.views x). inl (put_else r.world.card k 1 x o ∙ h.0, (h.1.0, set_else s.homes k x none o ∙ h.1.1, h.1.2, h.1.3 ∙ ap (λ (y : ℕ). y % 2 ^ 64) (sym (as_much x o)))))
      (λ (a : IsAway r.world.card s.homes s.views x). inr (put_else r.world.card k 1 x o ∙ a.0, set_else s.homes k x none o ∙ a.1)) (r.cards x l)))
      (λ x far. ap (times x) got_is ∙ (as_often x k v.got (λ e. omega arith) ∙ (known s id v r at is (Named k) due_is).got x far))
      (λ x e. subst (λ (y : ℕ). u ≡ total (took_of y) views' % 2 ^ 64) (here x e) (omega arith))
      (λ j e other at_e q f x h. as_much x (λ y. let a = holder_has v.net s r j q x e f h in let b : r.world.card x ≡ r.world.card k = ap r.world.card y in omega arith))
    where
      same_number : (k x : ℕ) → Named k ≡ Named x → k ≡ x
      same_number k x e = cc

  takes_from : (slots id k : ℕ) (named : v.place ≡ Named k) (s : St) (r : IsReadOff v.net s) (at : get_elem? s.views id ≡ some v) (due_is : due net p v.place ≡ Named k)
      (c : Card) → get_elem? s.homes k ≡ some (some (Some c)) → c.number ≡ k → c.uses ≡ total (took_of k) s.views % 2 ^ 64
      → (w : View) × (a : Act (Option Card)) × Valid s.homes me.1 a × IsReadOff v.net (stepped s (word_of k) 1 id me.1 w a) × took (step slots (word_of k) 1 0 none) me (get_or s.words (word_of k) 0) (w, carried_after me.1 a)
  takes_from slots id k named s r at due_is c c_at c_number c_uses =
      let n : ℕ = get_or s.words (word_of k) 0 in let z : View = record (next_view v n) { uses = (c.uses + 1) % 2 ^ 64 } in (
        z,
        takes k (Some c),
        c_at,
        (card_out_read k named s id r at c c_at c_uses).0,
        (
          told s id v r at is (Named k) due_is n (r.card_is k (low me is s id r at (Named k) due_is).0),
          (c, c_number ∙ sym (ap name_at named), ap (λ (y : ℕ). let h : List (ℕ × Option Card) = (y, Some c) ∷ me.1 in (z, h)) (sym (ap name_at named)), c_uses ∙ ap (λ (y : ℕ). total (took_of y) s.views % 2 ^ 64) (sym (ap name_at named))),
        ),
      )

  pub takes_card : (slots id k : ℕ) → v.place ≡ Named k → Allows (IsReadOff v.net) slots id me (word_of k) (λ _. 1) (took (step slots (word_of k) 1 0 none) me)
  takes_card slots id k named s r _ at _ = let due_is : due net p v.place ≡ Named k = ap (due net p) named in
      let home = home_card k named s id r at in takes_from slots id k named s r at due_is home.1.0 home.1.1 home.1.2 home.1.3

  -- the same with the uses by the views
  pub card_out_law : (k : ℕ) (named : v.place ≡ Named k) (s : St) (id : ℕ) (r : IsReadOff v.net s) → get_elem? s.views id ≡ some v
      → (r' : IsReadOff v.net record { words = set s.words (word_of k) 1; homes = set s.homes k none; views = set s.views id (record (next_view v (get_or s.words (word_of k) 0)) { uses = (total (took_of k) s.views % 2 ^ 64 + 1) % 2 ^ 64 }) }) × (r'.world ≡ machine_after_access net r.world p (Named k))
  card_out_law k named s id r at = let home = home_card k named s id r at in
      subst (λ (u : ℕ). (r' : IsReadOff v.net record { words = set s.words (word_of k) 1; homes = set s.homes k none; views = set s.views id (record (next_view v (get_or s.words (word_of k) 0)) { uses = (u + 1) % 2 ^ 64 }) }) × (r'.world ≡ machine_after_access net r.world p (Named k)))
      home.1.3 (card_out_read k named s id r at home.1.0 home.1.1 home.1.3)

-- the card c, which has the uses that its party knows, goes home
pub card_in_read : (v : View) (is : v.role ≡ Party (number_of v.role)) (k : ℕ) (holds : v.place ≡ Holding k) (s : St) (id : ℕ) (r : IsReadOff v.net s) (at : get_elem? s.views id ≡ some v) (c : Card) → c.number ≡ k → c.uses ≡ v.uses
    → (r' : IsReadOff v.net record { words = set s.words (2 * length v.net.caps + v.net.width + k) 0; homes = set s.homes k (some (Some c)); views = set s.views id (next_view v (get_or s.words (2 * length v.net.caps + v.net.width + k) 0)) })
    × (r'.world ≡ machine_after_access (plan v.net) r.world (number_of v.role) (Holding k))
card_in_read v is k holds s id r at c c_number c_uses =
    let p : ℕ = number_of v.role in let net : Plan = plan v.net in let w : ℕ = 2 * length v.net.caps + v.net.width + k in
    let due_is : due net p v.place ≡ Holding k = ap (due net p) holds in
    let inside : k < v.net.width = (low (v, (k, Some c) ∷ []) is s id r at (Holding k) due_is).0 in let wide = r.wide in
    let n : ℕ = get_or s.words w 0 in let n_is : n ≡ r.world.card k = r.card_is k inside in
    let out : r.world.card k ≡ 1 = card_away net r.is_net.valid r.world r.kept p (mine s id v r at is (Holding k) due_is) (Holding k) (there s id v r at is (Holding k) due_is) k refl in
    let away : get_elem? s.homes k ≡ some none = ⊎_elim (λ (h : IsHome r.world.card s.homes s.views k). absurd (let z = h.0 in omega arith)) (λ (a : IsAway r.world.card s.homes s.views k). a.1) (r.cards k inside) in
    let z : View = next_view v n in let views' : List View = set s.views id z in let homes' : Homes = set s.homes k (some (Some c)) in
    let got_is : z.got ≡ v.got = ap (λ (q : Place). got_after q v.got) due_is in
    let as_much : (x : ℕ) → total (took_of x) views' ≡ total (took_of x) s.views = λ x. let t = total_set (took_of x) s.views id v z at in let g : times x z.got ≡ times x v.got = ap (times x) got_is in omega arith in
    let standing_is = known s id v r at is (Holding k) due_is in
    reads s id v r at is (Holding k) due_is n n_is 0 (set s.words w 0) homes' (length-set s.words w 0)
    (λ j l. get_or-set_other s.words w (2 * j + 1) 0 0 (λ e. omega arith) ∙ r.x_is j l)
    (λ j l. get_or-set_other s.words w (2 * j + 2) 0 0 (λ e. omega arith) ∙ r.q_is j l)
    (λ j l. get_or-set_other s.words w (2 * length v.net.caps + 1 + j) 0 0 (λ e. omega arith) ∙ r.bit_is j l)
    (λ j l. word_put s.words r.world.card (λ x. 2 * length v.net.caps + v.net.width + x) v.net.width r.card_is k 0 inside (omega arith) (λ i o e. o (omega arith)) j l)
    (λ x l. dite (ℕ_discrete x k)
    (λ e. inl (
      put_at r.world.card k 0 x e,
      (
        c,
        ap (get_elem? homes') e ∙ set_here s.homes k (some (Some c)) (at_inside s.homes k none away),
        c_number ∙ sym e,
        c_uses ∙ (standing_is.uses x (holds ∙ ap Holding (sym e)) ∙ ap (λ (y : ℕ). y % 2 ^ 64) (sym (as_much x))),
      ),
    ))
    (λ o. ⊎_elim (λ (h : IsHome r.world.card s.homes s.views x). inl (put_else r.world.card k 0 x o ∙ h.0, (h.1.0, set_else s.homes k x (some (Some c)) o ∙ h.1.1, h.1.2, h.1.3 ∙ ap (λ (y : ℕ). y % 2 ^ 64) (sym (as_much x)))))
    (λ (a : IsAway r.world.card s.homes s.views x). inr (put_else r.world.card k 0 x o ∙ a.0, set_else s.homes k x (some (Some c)) o ∙ a.1)) (r.cards x l)))
    (λ x far. ap (times x) got_is ∙ standing_is.got x far)
    (λ x e. absurd (no_name k x (sym due_is ∙ held_from net p (due net p v.place) n x e)))
    (λ j e other at_e q f x h. as_much x)
  where
    no_name : (k x : ℕ) → Holding k ≢ Named x
    no_name k x e = cc

pub gives_card : (v : View) (is : v.role ≡ Party (number_of v.role)) (c : Card) (slots id k : ℕ) → v.place ≡ Holding k → c.number ≡ k → c.uses ≡ v.uses
    → Allows (IsReadOff v.net) slots id (v, (k, Some c) ∷ []) (2 * length v.net.caps + v.net.width + k) (λ _. 0) (gave (step slots (2 * length v.net.caps + v.net.width + k) 0 0 none) (v, (k, Some c) ∷ []))
gives_card v is c slots id k holds c_number c_uses s r _ at _ =
    let due_is : due (plan v.net) (number_of v.role) v.place ≡ Holding k = ap (due (plan v.net) (number_of v.role)) holds in
    let n : ℕ = get_or s.words (2 * length v.net.caps + v.net.width + k) 0 in
    (next_view v n, gives, tt, (card_in_read v is k holds s id r at c c_number c_uses).0, (told s id v r at is (Holding k) due_is n (r.card_is k (low (v, []) is s id r at (Holding k) due_is).0), refl))
