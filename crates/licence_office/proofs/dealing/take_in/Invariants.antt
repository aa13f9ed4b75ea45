use Rattle.std.proofs.Common.{◌≡◌, ℕ, ◌<◌, ◌≤◌, ◌∷◌, ◌++◌, [], Vec, Global, length, get_or, vec_len, vec_capacity}
use Rattle.feature_desk.specs.Sitters.{Sitter}
use Rattle.licence_office.proofs.dealing.take_in.Given as goal

abbrev pub invariant-loop-party : goal.invariant-loop-party
invariant-loop-party l = record {
  count : vec_len l.passes ≡ l.party-index;
  room : length l.initial.parties ≤ vec_capacity l.passes;
  taken : (k : ℕ) (v : Vec Sitter Global) (s : Sitter) → k < l.party-index → (get_or l.initial.parties k v).items ≡ (get_or l.parties k v).items ++ get_or l.passes.items k s ∷ [];
  others : (k : ℕ) (v : Vec Sitter Global) → l.party-index ≤ k → get_or l.parties k v ≡ get_or l.initial.parties k v;
}
