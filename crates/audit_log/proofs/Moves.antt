-- Each step of an end keeps the rule of the queue.
use Rattle.std.proofs.Common.{◌≡◌, ◌≢◌, ℕ, zero, suc, ◌<◌, ◌≤◌, true, true≢false, List, [], ◌∷◌, ◌++◌, length, set, sym, refl, ap, ◌∙◌, subst, ⊎_elim, append_assoc, append-nil, arith}
use Rattle.std.proofs.lemmas.List.{length-append}
use mathlib.Core.Option.{some, some-ne-none}
use lib.ListN.{get_elem?}
use Rattle.crossbeam_queue.specs.Fifo.{Pushes, Pops, Forks, Merges, Learns}
use Rattle.crossbeam_queue.proofs.Lists.{at_set, at_snoc}
use Rattle.options_machine.specs.declared.reply.Entry.{Entry}
use Rattle.audit_log.specs.declared.ends.Knows.{Knows}
use Rattle.audit_log.specs.Rule.{Fits, HoldsNoMore, HoldsRest, IsInOrder, Pushed, Taken, TakenNext, knows, pusher_of, knows_nothing, taker_of, together}
use Rattle.audit_log.specs.declared.queue.TheConstants.{ENTRY_LIMIT}

at_end : (views : List Knows) (a b : Knows) (j : ℕ) → get_elem? views j ≢ some b → get_elem? (views ++ a ∷ []) j ≡ some b → j ≡ length views
at_end [] a b zero n e = refl
at_end [] a b (suc j) n e = absurd (some-ne-none b (sym e))
at_end (x ∷ xs) a b zero n e = absurd (n e)
at_end (x ∷ xs) a b (suc j) n e = ap suc (at_end xs a b j n e)

abbrev AllFit : (ℕ → Knows → Type 0) → List Knows → Type 0
AllFit F views = (end : ℕ) (v : Knows) → get_elem? views end ≡ some v → F end v

-- the views after one of them changed
all_set : (F : ℕ → Knows → Type 0) (views : List Knows) (end : ℕ) (w : Knows) → F end w → ((j : ℕ) (u : Knows) → j ≢ end → get_elem? views j ≡ some u → F j u) → AllFit F (set views end w)
all_set F views end w mine others j u e = ⊎_elim (λ (x : (j ≡ end) × (w ≡ u)). subst (λ (y : ℕ × Knows). F y.0 y.1) (λ i. (sym x.0 i, x.1 i)) mine)
    (λ (x : (j ≢ end) × (get_elem? views j ≡ some u)). others j u x.0 x.1) (at_set views end j w u e)

pub begins : IsInOrder [] (knows true true [] [] ∷ [])
begins = record {
  pusher = 0;
  taker = 0;
  pushed = [];
  taken = [];
  order = refl;
  few = omega arith;
  ends = all_set (Fits 0 0 [] []) (knows true true [] [] ∷ []) 0 (knows true true [] []) (record { pushes = λ _. (refl, refl); takes = λ _. (refl, refl) })
      (λ j u other e. absurd (other (at_end [] _ u j (λ x. some-ne-none u (sym x)) e)));
}

pub pushes : (n end : ℕ) (v : Knows) (x : Entry) → v.pushes ≡ true → length v.pushed < ENTRY_LIMIT → Pushes IsInOrder n end v x (Pushed v x)
pushes n end v x may few items views room h at = let w : Knows = knows v.pushes v.takes (v.pushed ++ x ∷ []) v.taken in let mine = h.ends end v at in let own = mine.pushes may in (
  w,
  record {
    pusher = h.pusher;
    taker = h.taker;
    pushed = h.pushed ++ x ∷ [];
    taken = h.taken;
    order = ap (λ l. l ++ x ∷ []) h.order ∙ append_assoc h.taken items (x ∷ []);
    few = rw (← own.1) (omega (arith, length-append v.pushed (x ∷ [])));
    ends = all_set (Fits h.pusher h.taker (h.pushed ++ x ∷ []) h.taken) views end w
        (record { pushes = λ _. (own.0, ap (λ l. l ++ x ∷ []) own.1); takes = mine.takes })
        (λ j u other e. record { pushes = λ p. absurd (other (((h.ends j u e).pushes p).0 ∙ sym own.0)); takes = (h.ends j u e).takes });
  },
  refl,
)

-- what was taken, with the next one, is no more than was pushed
taken_few : (pushed taken items : List Entry) (x : Entry) → pushed ≡ taken ++ x ∷ items → length pushed ≤ ENTRY_LIMIT → length (taken ++ x ∷ []) ≤ ENTRY_LIMIT
taken_few pushed taken items x order few = let n = ap length order in omega (arith, length-append taken (x ∷ items), length-append taken (x ∷ []))

pub takes : (end : ℕ) (v : Knows) → v.takes ≡ true → Pops IsInOrder end v (λ x. Taken v x)
takes end v may x items views h at = let w : Knows = knows v.pushes v.takes v.pushed (v.taken ++ x ∷ []) in let mine = h.ends end v at in let own = mine.takes may in (
  w,
  record {
    pusher = h.pusher;
    taker = h.taker;
    pushed = h.pushed;
    taken = h.taken ++ x ∷ [];
    order = h.order ∙ sym (append_assoc h.taken (x ∷ []) items);
    few = h.few;
    ends = all_set (Fits h.pusher h.taker h.pushed (h.taken ++ x ∷ [])) views end w
        (record { pushes = mine.pushes; takes = λ _. (own.0, ap (λ l. l ++ x ∷ []) own.1) })
        (λ j u other e. record { pushes = (h.ends j u e).pushes; takes = λ p. absurd (other (((h.ends j u e).takes p).0 ∙ sym own.0)) });
  },
  (refl, rw own.1 (taken_few h.pushed h.taken items x h.order h.few)),
)

pub takes_next : (end : ℕ) (v : Knows) → v.pushes ≡ true → v.takes ≡ true → Pops IsInOrder end v (λ x. TakenNext v x)
takes_next end v a b x items views h at = let t = takes end v b x items views h at in let mine = h.ends end v at in
    (t.0, t.1, (t.2, (items, (mine.pushes a).1 ∙ h.order ∙ ap (λ l. l ++ x ∷ items) (sym (mine.takes b).1) ∙ sym (append_assoc v.taken (x ∷ []) items))))

pub forks : (end : ℕ) (v : Knows) → v.pushes ≡ true → v.takes ≡ true → Forks IsInOrder end v (taker_of v) (pusher_of v)
forks end v a b items views h at = let l : Knows = taker_of v in let r : Knows = pusher_of v in let mine = h.ends end v at in let vs : List Knows = set views end l in
    let Old : ℕ → Knows → Type 0 = λ j u. (u.takes ≡ true → (j ≡ h.taker) × (u.taken ≡ h.taken)) × (u.pushes ≢ true) in
    let old : AllFit Old vs = all_set Old views end l ((λ _. mine.takes b), λ p. true≢false (sym p)) (λ j u other e. ((h.ends j u e).takes, λ p. other (((h.ends j u e).pushes p).0 ∙ sym (mine.pushes a).0))) in
    record {
      pusher = length vs;
      taker = h.taker;
      pushed = h.pushed;
      taken = h.taken;
      order = h.order;
      few = h.few;
      ends = λ j u e. ⊎_elim (λ x. record { pushes = λ p. absurd ((old j u x).1 p); takes = (old j u x).0 })
          (λ (is : r ≡ u). record {
            pushes = λ p. (at_end vs r u j (λ x. (old j u x).1 p) e, ap (λ (y : Knows). y.pushed) (sym is) ∙ (mine.pushes a).1);
            takes = λ p. absurd (true≢false (sym (ap (λ (y : Knows). y.takes) is ∙ p)));
          })
          (at_snoc vs r u j e);
    }

pub merges : (end : ℕ) (v : Knows) (other : ℕ) (u : Knows) → v.takes ≡ true → u.pushes ≡ true → Merges IsInOrder end v other u (together v u) knows_nothing
merges end v other u a b items views h at two at' = let both : Knows = together v u in let mine = h.ends end v at in let vs : List Knows = set views end both in
    let was : get_elem? views other ≡ some u = ⊎_elim (λ x. absurd (two x.0)) (λ x. x.1) (at_set views end other both u at') in let theirs = (h.ends other u was).pushes b in
    let Now : ℕ → Knows → Type 0 = λ j y. j ≢ other → Fits end h.taker h.pushed h.taken j y in
    let now : AllFit Now vs = all_set Now views end both (λ _. record { pushes = λ _. (refl, theirs.1); takes = λ _. mine.takes a })
    (λ j y _ e apart. record { pushes = λ p. absurd (apart (((h.ends j y e).pushes p).0 ∙ sym theirs.0)); takes = (h.ends j y e).takes }) in
    record {
      pusher = end;
      taker = h.taker;
      pushed = h.pushed;
      taken = h.taken;
      order = h.order;
      few = h.few;
      ends = all_set (Fits end h.taker h.pushed h.taken) vs other knows_nothing
          (record { pushes = λ p. absurd (true≢false (sym p)); takes = λ p. absurd (true≢false (sym p)) }) (λ j y apart e. now j y e apart);
    }

pub holds_no_more : (end : ℕ) (v : Knows) → v.pushes ≡ true → Learns IsInOrder end v (HoldsNoMore v)
holds_no_more end v may items views h at = (h.taken, ((h.ends end v at).pushes may).1 ∙ h.order)

pub holds_rest : (end : ℕ) (v : Knows) → v.pushes ≡ true → v.takes ≡ true → Learns IsInOrder end v (HoldsRest v)
holds_rest end v a b items views h at = let mine = h.ends end v at in (mine.pushes a).1 ∙ h.order ∙ ap (λ l. l ++ items) (sym (mine.takes b).1)

-- all was taken where no fewer entries were taken than were pushed
pub all_taken : (pushed taken rest : List Entry) → pushed ≡ taken ++ rest → length pushed ≤ length taken → taken ≡ pushed
all_taken pushed taken [] order few = sym (order ∙ append-nil taken)
all_taken pushed taken (x ∷ rest) order few = let n = ap length order in absurd (omega (arith, length-append taken (x ∷ rest)))
