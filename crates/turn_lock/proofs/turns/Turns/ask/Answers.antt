-- p is the pass before the call, h the list that the value stood for when it was taken, and es this call's entry
use Rattle.std.proofs.Common.{List, [], ◌∷◌, ◌++◌, ap, ◌∙◌, sym, subst, length, ◌%◌, ◌^◌}
use Rattle.std.proofs.lemmas.List.{append_cancel_right}
use Rattle.turn_lock.specs.declared.kept.Entry.{Entry}
use Rattle.turn_lock.specs.Entries.{entry, own}
use Rattle.turn_lock.specs.declared.view.Stage.TheVariants.{Out}
use Rattle.turn_lock.specs.Steps.{knows, seated_view, pass_with_seen, longer}
use Rattle.turn_lock.proofs.Owned.{own_mine}
use Rattle.turn_lock.proofs.Seats.{stepped_on, sits_as, badge_of, rests, first_is, lawful_at}
use Rattle.turn_lock.proofs.turns.Turns.ask.Goals as goal

pub wait_turn-ticket-requires-clause-idle : goal.wait_turn-ticket-requires-clause-idle
wait_turn-ticket-requires-clause-idle g c = let p = c.args.pass.now in
    (p, sits_as _ _ _ _ p c.pass.invariant c.pass.view_is (ap (λ b. b.views) c.replace-badge.ensures.value) c.into_seat-seat.ensures.2 c.into_seat-seat.ensures.3)

pub into_badge-requires : goal.into_badge-requires
into_badge-requires g c = let p = c.args.pass.now in let w = c.wait_turn-ticket.ensures.turn p (sits_as _ _ _ _ p c.pass.invariant c.pass.view_is (ap (λ b. b.views) c.replace-badge.ensures.value) c.into_seat-seat.ensures.2 c.into_seat-seat.ensures.3) in
    let k = c.take.ensures.took p w.0 w.1 in let h = k.1 in let u = c.step-stepped.ensures.stepped k.0 (ap (λ m. m.1) k.2) in
    let out = stepped_on _ _ (seated_view (pass_with_seen p h) (Out w.0)) _ _ k.2 c.step-stepped.ensures.view u.1 in
    let es = entry c.args.request.now c.step-stepped.result.used c.step-stepped.result.answer ∷ [] in
    let n = c.count-place.ensures.counted (pass_with_seen p h) w.0 u.0 out in
    ap (λ m. m.1) (c.give.ensures.idle (longer (pass_with_seen p h) es) w.0 u.0 n.0)

pub take-requires-clause-turn : goal.take-requires-clause-turn
take-requires-clause-turn g c = let p = c.args.pass.now in let w = c.wait_turn-ticket.ensures.turn p (sits_as _ _ _ _ p c.pass.invariant c.pass.view_is (ap (λ b. b.views) c.replace-badge.ensures.value) c.into_seat-seat.ensures.2 c.into_seat-seat.ensures.3) in
    (p, w.0, w.1)

pub step-stepped-requires-clause-out : goal.step-stepped-requires-clause-out
step-stepped-requires-clause-out g c = let p = c.args.pass.now in let w = c.wait_turn-ticket.ensures.turn p (sits_as _ _ _ _ p c.pass.invariant c.pass.view_is (ap (λ b. b.views) c.replace-badge.ensures.value) c.into_seat-seat.ensures.2 c.into_seat-seat.ensures.3) in
    let k = c.take.ensures.took p w.0 w.1 in let h = k.1 in
    (k.0, ap (λ m. m.1) k.2, subst (λ (l : g.row.V-Law.Denot). g.V.Kept.fits l c.args.request.now) (sym k.3.2) c.requires.fits)

pub count-place-requires-clause-out : goal.count-place-requires-clause-out
count-place-requires-clause-out g c = let p = c.args.pass.now in let w = c.wait_turn-ticket.ensures.turn p (sits_as _ _ _ _ p c.pass.invariant c.pass.view_is (ap (λ b. b.views) c.replace-badge.ensures.value) c.into_seat-seat.ensures.2 c.into_seat-seat.ensures.3) in
    let k = c.take.ensures.took p w.0 w.1 in let h = k.1 in let u = c.step-stepped.ensures.stepped k.0 (ap (λ m. m.1) k.2) in
    let out = stepped_on _ _ (seated_view (pass_with_seen p h) (Out w.0)) _ _ k.2 c.step-stepped.ensures.view u.1 in
    let s = u.2 in let before = subst (λ (l : g.row.V-Law.Denot). g.V.Kept.run l h) (sym k.3.2) k.3.1 in
    let es = entry c.args.request.now c.step-stepped.result.used c.step-stepped.result.answer ∷ [] in
    let ran = subst (λ (l : g.row.V-Law.Denot). g.V.Kept.run l (h ++ es)) k.3.2 (s.runs h k.3.0 before) in
    (pass_with_seen p h, w.0, u.0, out, ran, c.requires.party)

pub give-requires-clause-counted : goal.give-requires-clause-counted
give-requires-clause-counted g c = let p = c.args.pass.now in let w = c.wait_turn-ticket.ensures.turn p (sits_as _ _ _ _ p c.pass.invariant c.pass.view_is (ap (λ b. b.views) c.replace-badge.ensures.value) c.into_seat-seat.ensures.2 c.into_seat-seat.ensures.3) in
    let k = c.take.ensures.took p w.0 w.1 in let h = k.1 in let u = c.step-stepped.ensures.stepped k.0 (ap (λ m. m.1) k.2) in
    let out = stepped_on _ _ (seated_view (pass_with_seen p h) (Out w.0)) _ _ k.2 c.step-stepped.ensures.view u.1 in
    let s = u.2 in let before = subst (λ (l : g.row.V-Law.Denot). g.V.Kept.run l h) (sym k.3.2) k.3.1 in
    let es = entry c.args.request.now c.step-stepped.result.used c.step-stepped.result.answer ∷ [] in
    let n = c.count-place.ensures.counted (pass_with_seen p h) w.0 u.0 out in
    (longer (pass_with_seen p h) es, w.0, u.0, n.0, s.stood h k.3.0 before, s.law ∙ k.3.2)

pub invariant_of-pass : goal.invariant_of-pass
invariant_of-pass g c = let p = c.args.pass.now in let w = c.wait_turn-ticket.ensures.turn p (sits_as _ _ _ _ p c.pass.invariant c.pass.view_is (ap (λ b. b.views) c.replace-badge.ensures.value) c.into_seat-seat.ensures.2 c.into_seat-seat.ensures.3) in
    let k = c.take.ensures.took p w.0 w.1 in let h = k.1 in let u = c.step-stepped.ensures.stepped k.0 (ap (λ m. m.1) k.2) in
    let out = stepped_on _ _ (seated_view (pass_with_seen p h) (Out w.0)) _ _ k.2 c.step-stepped.ensures.view u.1 in
    let es = entry c.args.request.now c.step-stepped.result.used c.step-stepped.result.answer ∷ [] in
    let n = c.count-place.ensures.counted (pass_with_seen p h) w.0 u.0 out in
    let number_is = ap (λ z. z.number) c.pass.view_is in
    rests p.lock _ _ _ (longer (pass_with_seen p h) es) (badge_of _ _ (longer (pass_with_seen p h) es) (c.give.ensures.idle (longer (pass_with_seen p h) es) w.0 u.0 n.0) c.into_badge.ensures.2) number_is

pub returns-clause-seen : goal.returns-clause-seen
returns-clause-seen g c = let p = c.args.pass.now in let w = c.wait_turn-ticket.ensures.turn p (sits_as _ _ _ _ p c.pass.invariant c.pass.view_is (ap (λ b. b.views) c.replace-badge.ensures.value) c.into_seat-seat.ensures.2 c.into_seat-seat.ensures.3) in
    let k = c.take.ensures.took p w.0 w.1 in let h = k.1 in let u = c.step-stepped.ensures.stepped k.0 (ap (λ m. m.1) k.2) in
    let out = stepped_on _ _ (seated_view (pass_with_seen p h) (Out w.0)) _ _ k.2 c.step-stepped.ensures.view u.1 in
    let es = entry c.args.request.now c.step-stepped.result.used c.step-stepped.result.answer ∷ [] in
    let n = c.count-place.ensures.counted (pass_with_seen p h) w.0 u.0 out in
    let idle = badge_of _ _ (longer (pass_with_seen p h) es) (c.give.ensures.idle (longer (pass_with_seen p h) es) w.0 u.0 n.0) c.into_badge.ensures.2 in let seen_is = ap (λ z. (knows z).seen) idle in let mine_is = ap (λ z. (knows z).mine) idle in
    (k.3.3.0, seen_is ∙ ap (λ (z : List (Entry g.row.V-Request.Denot g.row.V-Answer.Denot)). z ++ es) k.3.3.1)

pub returns-clause-runs : goal.returns-clause-runs
returns-clause-runs g c = let p = c.args.pass.now in let w = c.wait_turn-ticket.ensures.turn p (sits_as _ _ _ _ p c.pass.invariant c.pass.view_is (ap (λ b. b.views) c.replace-badge.ensures.value) c.into_seat-seat.ensures.2 c.into_seat-seat.ensures.3) in
    let k = c.take.ensures.took p w.0 w.1 in let h = k.1 in let u = c.step-stepped.ensures.stepped k.0 (ap (λ m. m.1) k.2) in
    let out = stepped_on _ _ (seated_view (pass_with_seen p h) (Out w.0)) _ _ k.2 c.step-stepped.ensures.view u.1 in
    let s = u.2 in let before = subst (λ (l : g.row.V-Law.Denot). g.V.Kept.run l h) (sym k.3.2) k.3.1 in
    let es = entry c.args.request.now c.step-stepped.result.used c.step-stepped.result.answer ∷ [] in
    let ran = subst (λ (l : g.row.V-Law.Denot). g.V.Kept.run l (h ++ es)) k.3.2 (s.runs h k.3.0 before) in
    let n = c.count-place.ensures.counted (pass_with_seen p h) w.0 u.0 out in
    let idle = badge_of _ _ (longer (pass_with_seen p h) es) (c.give.ensures.idle (longer (pass_with_seen p h) es) w.0 u.0 n.0) c.into_badge.ensures.2 in let seen_is = ap (λ z. (knows z).seen) idle in let mine_is = ap (λ z. (knows z).mine) idle in let law_is = first_is _ _ _ (ap (λ z. (knows z).law) idle) in
    let number_is = ap (λ z. z.number) c.pass.view_is in
    subst (λ (z : g.row.V-Law.Denot × List (Entry g.row.V-Request.Denot g.row.V-Answer.Denot)). g.V.Kept.run z.0 z.1) (λ i. (sym law_is i, sym seen_is i)) ran

pub returns-clause-mine : goal.returns-clause-mine
returns-clause-mine g c = let p = c.args.pass.now in let w = c.wait_turn-ticket.ensures.turn p (sits_as _ _ _ _ p c.pass.invariant c.pass.view_is (ap (λ b. b.views) c.replace-badge.ensures.value) c.into_seat-seat.ensures.2 c.into_seat-seat.ensures.3) in
    let k = c.take.ensures.took p w.0 w.1 in let h = k.1 in let u = c.step-stepped.ensures.stepped k.0 (ap (λ m. m.1) k.2) in
    let out = stepped_on _ _ (seated_view (pass_with_seen p h) (Out w.0)) _ _ k.2 c.step-stepped.ensures.view u.1 in
    let es = entry c.args.request.now c.step-stepped.result.used c.step-stepped.result.answer ∷ [] in
    let n = c.count-place.ensures.counted (pass_with_seen p h) w.0 u.0 out in
    let idle = badge_of _ _ (longer (pass_with_seen p h) es) (c.give.ensures.idle (longer (pass_with_seen p h) es) w.0 u.0 n.0) c.into_badge.ensures.2 in let seen_is = ap (λ z. (knows z).seen) idle in let mine_is = ap (λ z. (knows z).mine) idle in
    mine_is

pub returns-clause-own : goal.returns-clause-own
returns-clause-own g c = let p = c.args.pass.now in let w = c.wait_turn-ticket.ensures.turn p (sits_as _ _ _ _ p c.pass.invariant c.pass.view_is (ap (λ b. b.views) c.replace-badge.ensures.value) c.into_seat-seat.ensures.2 c.into_seat-seat.ensures.3) in
    let k = c.take.ensures.took p w.0 w.1 in let h = k.1 in let u = c.step-stepped.ensures.stepped k.0 (ap (λ m. m.1) k.2) in
    let out = stepped_on _ _ (seated_view (pass_with_seen p h) (Out w.0)) _ _ k.2 c.step-stepped.ensures.view u.1 in
    let es = entry c.args.request.now c.step-stepped.result.used c.step-stepped.result.answer ∷ [] in
    let n = c.count-place.ensures.counted (pass_with_seen p h) w.0 u.0 out in
    let idle = badge_of _ _ (longer (pass_with_seen p h) es) (c.give.ensures.idle (longer (pass_with_seen p h) es) w.0 u.0 n.0) c.into_badge.ensures.2 in let seen_is = ap (λ z. (knows z).seen) idle in let mine_is = ap (λ z. (knows z).mine) idle in
    let number_is = ap (λ z. z.number) c.pass.view_is in
    (λ i. own g.V.Kept.party (number_is i) (seen_is i)) ∙ (own_mine g.V.Kept.party p.number h _ c.requires.party ∙ (ap (λ (z : List (Entry g.row.V-Request.Denot g.row.V-Answer.Denot)). z ++ es) k.3.4 ∙ sym mine_is))

pub returns-clause-moment : goal.returns-clause-moment
returns-clause-moment g c front at = let p = c.args.pass.now in let w = c.wait_turn-ticket.ensures.turn p (sits_as _ _ _ _ p c.pass.invariant c.pass.view_is (ap (λ b. b.views) c.replace-badge.ensures.value) c.into_seat-seat.ensures.2 c.into_seat-seat.ensures.3) in
    let k = c.take.ensures.took p w.0 w.1 in let h = k.1 in let u = c.step-stepped.ensures.stepped k.0 (ap (λ m. m.1) k.2) in
    let out = stepped_on _ _ (seated_view (pass_with_seen p h) (Out w.0)) _ _ k.2 c.step-stepped.ensures.view u.1 in
    let s = u.2 in let before = subst (λ (l : g.row.V-Law.Denot). g.V.Kept.run l h) (sym k.3.2) k.3.1 in
    let es = entry c.args.request.now c.step-stepped.result.used c.step-stepped.result.answer ∷ [] in
    let n = c.count-place.ensures.counted (pass_with_seen p h) w.0 u.0 out in
    let idle = badge_of _ _ (longer (pass_with_seen p h) es) (c.give.ensures.idle (longer (pass_with_seen p h) es) w.0 u.0 n.0) c.into_badge.ensures.2 in let seen_is = ap (λ z. (knows z).seen) idle in let mine_is = ap (λ z. (knows z).mine) idle in let law_is = first_is _ _ _ (ap (λ z. (knows z).law) idle) in
    let number_is = ap (λ z. z.number) c.pass.view_is in
    let same = append_cancel_right h front es (sym seen_is ∙ at) in
    s.moment h k.3.0 before ∙ (λ i. g.V.Kept.used ((k.3.2 ∙ sym law_is) i) (same i) c.args.moment)

pub returns-clause-place : goal.returns-clause-place
returns-clause-place g c front at = let p = c.args.pass.now in let w = c.wait_turn-ticket.ensures.turn p (sits_as _ _ _ _ p c.pass.invariant c.pass.view_is (ap (λ b. b.views) c.replace-badge.ensures.value) c.into_seat-seat.ensures.2 c.into_seat-seat.ensures.3) in
    let k = c.take.ensures.took p w.0 w.1 in let h = k.1 in let u = c.step-stepped.ensures.stepped k.0 (ap (λ m. m.1) k.2) in
    let out = stepped_on _ _ (seated_view (pass_with_seen p h) (Out w.0)) _ _ k.2 c.step-stepped.ensures.view u.1 in
    let es = entry c.args.request.now c.step-stepped.result.used c.step-stepped.result.answer ∷ [] in
    let n = c.count-place.ensures.counted (pass_with_seen p h) w.0 u.0 out in
    let idle = badge_of _ _ (longer (pass_with_seen p h) es) (c.give.ensures.idle (longer (pass_with_seen p h) es) w.0 u.0 n.0) c.into_badge.ensures.2 in let seen_is = ap (λ z. (knows z).seen) idle in let mine_is = ap (λ z. (knows z).mine) idle in
    let same = append_cancel_right h front es (sym seen_is ∙ at) in
    n.1 ∙ ap (λ (z : List (Entry g.row.V-Request.Denot g.row.V-Answer.Denot)). length z % 2 ^ 64) same

pub invariant_of-pass-inside : goal.invariant_of-pass-inside
invariant_of-pass-inside g c = let p = c.args.pass.now in let w = c.wait_turn-ticket.ensures.turn p (sits_as _ _ _ _ p c.pass.invariant c.pass.view_is (ap (λ b. b.views) c.replace-badge.ensures.value) c.into_seat-seat.ensures.2 c.into_seat-seat.ensures.3) in
    let k = c.take.ensures.took p w.0 w.1 in let h = k.1 in let u = c.step-stepped.ensures.stepped k.0 (ap (λ m. m.1) k.2) in
    let out = stepped_on _ _ (seated_view (pass_with_seen p h) (Out w.0)) _ _ k.2 c.step-stepped.ensures.view u.1 in
    let es = entry c.args.request.now c.step-stepped.result.used c.step-stepped.result.answer ∷ [] in
    let n = c.count-place.ensures.counted (pass_with_seen p h) w.0 u.0 out in
    (c.pass.inside.inside, (lawful_at _ (longer (pass_with_seen p h) es) (badge_of _ _ (longer (pass_with_seen p h) es) (c.give.ensures.idle (longer (pass_with_seen p h) es) w.0 u.0 n.0) c.into_badge.ensures.2), tt))

pub returns-clause-same : goal.returns-clause-same
returns-clause-same g c = let p = c.args.pass.now in let w = c.wait_turn-ticket.ensures.turn p (sits_as _ _ _ _ p c.pass.invariant c.pass.view_is (ap (λ b. b.views) c.replace-badge.ensures.value) c.into_seat-seat.ensures.2 c.into_seat-seat.ensures.3) in
    let k = c.take.ensures.took p w.0 w.1 in let h = k.1 in let u = c.step-stepped.ensures.stepped k.0 (ap (λ m. m.1) k.2) in
    let out = stepped_on _ _ (seated_view (pass_with_seen p h) (Out w.0)) _ _ k.2 c.step-stepped.ensures.view u.1 in
    let es = entry c.args.request.now c.step-stepped.result.used c.step-stepped.result.answer ∷ [] in
    let n = c.count-place.ensures.counted (pass_with_seen p h) w.0 u.0 out in
    let idle = badge_of _ _ (longer (pass_with_seen p h) es) (c.give.ensures.idle (longer (pass_with_seen p h) es) w.0 u.0 n.0) c.into_badge.ensures.2 in (
      (λ i. record {
        table = (c.into_badge.ensures.0 ∙ (c.give.ensures.lock ∙ (c.count-place.ensures.lock ∙ (c.step-stepped.ensures.lock ∙ (c.take.ensures.lock ∙ (c.wait_turn-ticket.ensures.lock ∙ (c.into_seat-seat.ensures.0 ∙ (ap (λ b. b.table_id) c.replace-badge.ensures.value ∙ ap (λ z. z.lock.table) c.pass.view_is)))))))) i;
        parties = ap (λ z. z.lock.parties) c.pass.view_is i;
      }),
      ap (λ z. z.number) c.pass.view_is,
      first_is _ _ _ (ap (λ z. (knows z).law) idle),
    )
