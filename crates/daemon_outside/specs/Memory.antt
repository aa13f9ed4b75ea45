-- What a door and a site in memory tell.
use Rattle.std.specs.Prelude.{◌≡◌, ◌⊎◌, ℕ, Bool, true, List, [], ◌∷◌}
use Rattle.session_outside.specs.Memory.{KeepsTalk, Repeats}
use Rattle.session_outside.specs.Talk.{Event}
use Rattle.session_outside.specs.declared.memory.MemClock.{MemClock}
use Rattle.session_outside.specs.declared.memory.MemLink.{MemLink}
use Rattle.daemon_outside.specs.Sites.{Kept}
use Rattle.daemon_outside.specs.declared.memory.MemDoor.{MemDoor}
use Rattle.daemon_outside.specs.declared.memory.Retired.{Retired}

-- each of a list stands for the one at its place of another, and they are of one length
abbrev pub Each : {X E : Type 0} → (X → E → Type 0) → List X → List E → Type 0
Each stands [] [] = Unit {0}
Each stands [] (e ∷ es) = ⊥
Each stands (x ∷ xs) [] = ⊥
Each stands (x ∷ xs) (e ∷ es) = stands x e × Each stands xs es

-- It stands for what it keeps, or, where its room was used up, for any list.
abbrev pub KeepsEach : {X E : Type 0} → Bool → (X → E → Type 0) → List X → List E → Type 0
KeepsEach lost stands xs es = (lost ≡ true) ⊎ Each stands xs es

-- the talk of a link
abbrev pub TellsTalk : MemLink → List Event → Type 0
TellsTalk link told = KeepsTalk link.talk.lost link.talk.marks.items link.talk.bytes.items told

-- the moments that a clock gave
abbrev pub GaveMoments : MemClock → List ℕ → Type 0
GaveMoments clock given = Repeats clock.moments.items clock.at given

-- the talks of the links that a door took back
abbrev pub TellsTalks : MemDoor → List (List Event) → Type 0
TellsTalks door told = KeepsEach door.lost TellsTalk door.kept.items told

-- what is kept of a post that was given back
abbrev pub TellsPost : Retired → Kept → Type 0
TellsPost post k = (post.number ≡ k.number) × TellsTalks post.door k.talks × GaveMoments post.clock k.moments
