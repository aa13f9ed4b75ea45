use Rattle.std.proofs.Common.{◌≡◌, ◌<◌, ℕ, List, get_or, set, sym, ap, subst, refl, ◌∙◌, arith}
use Rattle.kex_core.specs.declared.place.Place.{Place}
use Rattle.kex_core.specs.declared.world.Words.{Words}
use Rattle.kex_core.specs.Worlds.{due, after, move}
use Rattle.kex_core.specs.Shapes.{Sheet, State, plan, machine, IsWorld}
use Rattle.kex_core.proofs.Runs.{safe_of}
use Rattle.kex_core.proofs.Worlds.{step_placed, step_word, step_above, step_room, step_moved, step_world, same_place, Written}
use Rattle.kex_core.proofs.world.World.step.Goals as goal

abbrev state : Sheet → Words → State
state n m = record { net = n; places = m.places.items; counters = m.counters.items; spin_words = m.spin_words.items; bits = m.bits.items; cards = m.cards.items }

-- the place that is due, as the lists have it
is_due : (s : State) → IsWorld s → (p : ℕ) → p < s.net.parties → (x d : Place) → x ≡ get_or s.places p x → d ≡ due (plan s.net) p x → d ≡ due (plan s.net) p ((machine s).place p)
is_due s world p l x d e f = f ∙ ap (due (plan s.net) p) (same_place s.places p x (let a = world.places in omega arith) e)

mine : (s t : State) (p : ℕ) → s ≡ t → p < t.net.parties → p < s.net.parties
mine s t p e l = subst (λ (r : State). p < r.net.parties) (sym e) l

pub found-found-requires-clause-word : goal.found-found-requires-clause-word
found-found-requires-clause-word c =
    let s : State = state c.self.inside.net c.self.inside.words in let l = mine s c.args.self.now c.args.party c.self.view_is c.requires in
    step_word s c.self.invariant c.args.party l c.due-place.result (is_due s c.self.invariant c.args.party l c.index.result.now c.due-place.result c.index.ensures c.due-place.ensures)

pub after-after-requires-clause-placed : goal.after-after-requires-clause-placed
after-after-requires-clause-placed c =
    let s : State = state c.self.inside.net c.self.inside.words in let l = mine s c.args.self.now c.args.party c.self.view_is c.requires in
    step_placed s c.self.invariant c.args.party l c.due-place.result (is_due s c.self.invariant c.args.party l c.index.result.now c.due-place.result c.index.ensures c.due-place.ensures)

pub write-requires-clause-word : goal.write-requires-clause-word
write-requires-clause-word c =
    let s : State = state c.self.inside.net c.self.inside.words in let l = mine s c.args.self.now c.args.party c.self.view_is c.requires in
    step_word s c.self.invariant c.args.party l c.due-place.result (is_due s c.self.invariant c.args.party l c.index.result.now c.due-place.result c.index.ensures c.due-place.ensures)

pub write-requires-clause-above : goal.write-requires-clause-above
write-requires-clause-above c =
    let s : State = state c.self.inside.net c.self.inside.words in let l = mine s c.args.self.now c.args.party c.self.view_is c.requires in
    step_above s c.self.invariant c.args.party l c.due-place.result (is_due s c.self.invariant c.args.party l c.index.result.now c.due-place.result c.index.ensures c.due-place.ensures)

pub write-requires-clause-room : goal.write-requires-clause-room
write-requires-clause-room c = λ j. step_room (state c.self.inside.net c.self.inside.words) c.self.invariant j

written : (c : goal.After-access_at) → Written (state c.self.inside.net c.self.inside.words) c.self.invariant c.args.party (mine (state c.self.inside.net c.self.inside.words) c.args.self.now c.args.party c.self.view_is c.requires) c.due-place.result
    (is_due (state c.self.inside.net c.self.inside.words) c.self.invariant c.args.party (mine (state c.self.inside.net c.self.inside.words) c.args.self.now c.args.party c.self.view_is c.requires) c.index.result.now c.due-place.result c.index.ensures c.due-place.ensures)
    (record { net = c.self.inside.net; places = set c.write.new.self.places.items c.args.party c.after-after.result; counters = c.write.new.self.counters.items; spin_words = c.write.new.self.spin_words.items; bits = c.write.new.self.bits.items; cards = c.write.new.self.cards.items })
    c.after-after.result
written c = record {
  net = refl;
  x = c.write.ensures.x;
  q = c.write.ensures.q;
  bit = c.write.ensures.bit;
  card = c.write.ensures.card;
  places = ap (λ (l : List Place). set l c.args.party c.after-after.result) c.write.ensures.places;
  after = c.after-after.ensures ∙ ap (after (plan c.self.inside.net) c.args.party c.due-place.result) c.found-found.ensures;
  counters = c.write.ensures.counters;
  spin_words = c.write.ensures.spin_words;
  bits = c.write.ensures.bits;
  cards = c.write.ensures.cards;
}

after_it : (c : goal.After-access_at) → IsWorld (record { net = c.self.inside.net; places = set c.write.new.self.places.items c.args.party c.after-after.result; counters = c.write.new.self.counters.items; spin_words = c.write.new.self.spin_words.items; bits = c.write.new.self.bits.items; cards = c.write.new.self.cards.items })
after_it c =
    let s : State = state c.self.inside.net c.self.inside.words in let l = mine s c.args.self.now c.args.party c.self.view_is c.requires in
    step_world s c.self.invariant c.args.party l c.due-place.result (is_due s c.self.invariant c.args.party l c.index.result.now c.due-place.result c.index.ensures c.due-place.ensures)
    (record { net = c.self.inside.net; places = set c.write.new.self.places.items c.args.party c.after-after.result; counters = c.write.new.self.counters.items; spin_words = c.write.new.self.spin_words.items; bits = c.write.new.self.bits.items; cards = c.write.new.self.cards.items })
    c.after-after.result (written c)

pub invariant_of-self : goal.invariant_of-self
invariant_of-self c = after_it c

pub returns-clause-moved : goal.returns-clause-moved
returns-clause-moved c =
    let s : State = state c.self.inside.net c.self.inside.words in let l = mine s c.args.self.now c.args.party c.self.view_is c.requires in
    let t : State = record { net = c.self.inside.net; places = set c.write.new.self.places.items c.args.party c.after-after.result; counters = c.write.new.self.counters.items; spin_words = c.write.new.self.spin_words.items; bits = c.write.new.self.bits.items; cards = c.write.new.self.cards.items } in
    subst (λ (r : State). machine t ≡ move (plan r.net) (machine r) c.args.party) c.self.view_is
    (step_moved s c.self.invariant c.args.party l c.due-place.result (is_due s c.self.invariant c.args.party l c.index.result.now c.due-place.result c.index.ensures c.due-place.ensures) t c.after-after.result (written c))

pub returns-clause-kept : goal.returns-clause-kept
returns-clause-kept c = (after_it c).kept

pub returns-clause-safe : goal.returns-clause-safe
returns-clause-safe c =
    let t : State = record { net = c.self.inside.net; places = set c.write.new.self.places.items c.args.party c.after-after.result; counters = c.write.new.self.counters.items; spin_words = c.write.new.self.spin_words.items; bits = c.write.new.self.bits.items; cards = c.write.new.self.cards.items } in
    safe_of (plan t.net) (after_it c).net.valid (machine t) (after_it c).kept
