-- Which replies a request wants.
use Rattle.std.specs.Prelude.{ℕ, ◌&&◌, ◌||◌, Bool, false, not, nat_eq, List, [], ◌∷◌, codes}
use Rattle.std.specs.Cmp.Lexicographic.{pointwise}
use Rattle.lic_text.specs.Lines.{words_of}
use Rattle.client_talk.specs.declared.want.Want.{Want}
use Rattle.client_talk.specs.declared.want.Want.TheVariants.{Welcome, Answer, Numbers, Seat, Place, Beaten, Returned, Left, Reread, Stopping}

abbrev pub first_is : List ℕ → List (List ℕ) → Bool
first_is word [] = false
first_is word (first ∷ others) = pointwise nat_eq first word

-- the first word of a reply is this one
abbrev pub opens : List ℕ → List ℕ → Bool
opens reply word = first_is word (words_of reply)

-- whether a reply is what is wanted
abbrev pub accepts : Want → List ℕ → Bool
accepts Welcome reply = opens reply (codes "WELCOME")
accepts Answer reply = not (opens reply (codes "BAD")) && not (opens reply (codes "NOHELLO"))
accepts Numbers reply = opens reply (codes "GLANCE")
accepts Seat reply = opens reply (codes "GRANTED") || opens reply (codes "RETAKEN")
accepts Place reply = opens reply (codes "GRANTED") || opens reply (codes "RETAKEN") || opens reply (codes "QUEUED")
accepts Beaten reply = opens reply (codes "BEATEN")
accepts Returned reply = opens reply (codes "RETURNED") || opens reply (codes "LINGERING")
accepts Left reply = opens reply (codes "RETURNED") || opens reply (codes "LINGERING") || opens reply (codes "UNQUEUED")
accepts Reread reply = opens reply (codes "REREAD")
accepts Stopping reply = opens reply (codes "STOPPING")
