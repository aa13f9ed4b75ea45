-- The counts of replies, with one more.
use Rattle.std.proofs.Common.{◌≡◌, ℕ, ◌+◌, ◌≤◌, Bool, true, false, cond, List, [], ◌∷◌, ◌++◌, count_by, refl, ◌∙◌, arith}
use Rattle.options_machine.proofs.Counts.{count-push}
use Rattle.options_machine.specs.declared.reply.Reply.{Reply}
use Rattle.options_machine.specs.declared.reply.Reply.TheVariants as reply
use Rattle.trial_replay.specs.Counted.{with_reply}
use Rattle.trial_replay.specs.Counts.{counts_of, is_already_held, is_beaten, is_denied, is_granted, is_held, is_lingering, is_no_seat, is_not_held, is_retaken, is_returned, total_of}
use Rattle.trial_replay.specs.declared.counts.Counts.{Counts}

one_more : (b : Bool) (n : ℕ) → n + cond b 1 0 ≡ cond b (n + 1) n
one_more true n = refl
one_more false n = omega arith

count_snoc : (p : Reply → Bool) (rs : List Reply) (r : Reply) → count_by p (rs ++ r ∷ []) ≡ cond (p r) (count_by p rs + 1) (count_by p rs)
count_snoc p rs r = count-push p rs r ∙ one_more (p r) (count_by p rs)

abbrev counted : Counts → Reply → Counts
counted c r = record {
  granted = cond (is_granted r) (c.granted + 1) c.granted;
  retaken = cond (is_retaken r) (c.retaken + 1) c.retaken;
  denied = cond (is_denied r) (c.denied + 1) c.denied;
  no_seat = cond (is_no_seat r) (c.no_seat + 1) c.no_seat;
  already_held = cond (is_already_held r) (c.already_held + 1) c.already_held;
  returned = cond (is_returned r) (c.returned + 1) c.returned;
  lingering = cond (is_lingering r) (c.lingering + 1) c.lingering;
  not_held = cond (is_not_held r) (c.not_held + 1) c.not_held;
  beaten = cond (is_beaten r) (c.beaten + 1) c.beaten;
  held = cond (is_held r) (c.held + 1) c.held;
}

counts_snoc : (rs : List Reply) (r : Reply) → counts_of (rs ++ r ∷ []) ≡ counted (counts_of rs) r
counts_snoc rs r =
    rw (
      count_snoc is_granted rs r,
      count_snoc is_retaken rs r,
      count_snoc is_denied rs r,
      count_snoc is_no_seat rs r,
      count_snoc is_already_held rs r,
      count_snoc is_returned rs r,
      count_snoc is_lingering rs r,
      count_snoc is_not_held rs r,
      count_snoc is_beaten rs r,
      count_snoc is_held rs r,
    ) refl

counted_is : (c : Counts) (r : Reply) → counted c r ≡ with_reply c r
counted_is c (reply.Granted charge) = refl
counted_is c (reply.Retaken charge) = refl
counted_is c (reply.Denied line) = refl
counted_is c (reply.NoSeat taken free) = refl
counted_is c reply.AlreadyHeld = refl
counted_is c reply.Returned = refl
counted_is c (reply.Lingering until) = refl
counted_is c reply.NotHeld = refl
counted_is c reply.Beaten = refl
counted_is c reply.Held = refl
counted_is c (reply.Counts held lingering taken free own queued) = refl
counted_is c (reply.Queued position) = refl
counted_is c reply.Unqueued = refl
counted_is c (reply.Reread set) = refl

-- one reply more is counted
pub counts_with : (rs : List Reply) (r : Reply) → counts_of (rs ++ r ∷ []) ≡ with_reply (counts_of rs) r
counts_with rs r = counts_snoc rs r ∙ counted_is (counts_of rs) r

-- and once
pub total_with : (c : Counts) (r : Reply) → total_of (with_reply c r) ≤ total_of c + 1
total_with c (reply.Granted charge) = omega arith
total_with c (reply.Retaken charge) = omega arith
total_with c (reply.Denied line) = omega arith
total_with c (reply.NoSeat taken free) = omega arith
total_with c reply.AlreadyHeld = omega arith
total_with c reply.Returned = omega arith
total_with c (reply.Lingering until) = omega arith
total_with c reply.NotHeld = omega arith
total_with c reply.Beaten = omega arith
total_with c reply.Held = omega arith
total_with c (reply.Counts held lingering taken free own queued) = omega arith
total_with c (reply.Queued position) = omega arith
total_with c reply.Unqueued = omega arith
total_with c (reply.Reread set) = omega arith
