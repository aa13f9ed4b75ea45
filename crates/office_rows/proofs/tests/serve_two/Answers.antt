use Rattle.std.proofs.Common.{◌≡◌, ℕ, zero, suc, ◌++◌, [], ◌∷◌, List, All, Vec, Global, get_or, length, map, subst, sym, arith}
use Rattle.std.proofs.lemmas.List.Elements.{All-append}
use Rattle.pass_roles.proofs.Members.{all_cut, front_of}
use Rattle.feature_desk.specs.Sitters.{DeskView, Sitter, newcomer}
use Rattle.licence_office.specs.Offices.{AreAt}
use Rattle.office_view.specs.View.{View}
use Rattle.office_rows.specs.Ready.{IsReady}
use Rattle.office_rows.proofs.Readying.{at_end, dealt_ready}
use Rattle.office_rows.proofs.tests.serve_two.Goals as goal

-- passes that were dealt to one of the parties
abbrev IsDealt : List DeskView → Vec Sitter Global → Type 0
IsDealt desks v = (p : ℕ) × (v.items ≡ map (λ (d : DeskView). newcomer d p) desks)

all_of_one : {X : Type 0} (P : X → Type 0) (x : X) → P x → All P (x ∷ [])
all_of_one P x p zero d lt = p
all_of_one P x p (suc k) d lt = absurd (omega (arith, lt))

all_push : {X : Type 0} (P : X → Type 0) (xs ys : List X) (x : X) → ys ≡ xs ++ x ∷ [] → All P xs → P x → All P ys
all_push P xs ys x is all one = subst (All P) (sym is) (All-append P xs (x ∷ []) all (all_of_one P x one))

pub serve-end-requires : goal.serve-end-requires
serve-end-requires g c =
    let o = c.args.office.now.view in
    let P = IsDealt o.desks in
    let paired : length o.desks ≡ length o.pools = subst (λ (v : View DeskView). length v.desks ≡ length v.pools) c.view-view.ensures c.pools-pools.ensures.desks in
    let rest = all_cut P _ _ _ (front_of _ _ _ _ c.pop.ensures.items c.in-Some.is) (λ k v l. (k, c.requires.dealt k v l)) in
    let first = (all_cut P _ _ _ (front_of _ _ _ _ c.pop-2.ensures.items c.in-Some-pop.is) rest.0).1 in
    subst (λ (v : View DeskView). IsReady v c.in-Some-pop.first.items) (sym c.view-view.ensures) (dealt_ready o paired c.requires.sets first.0 c.in-Some-pop.first.items first.1)

pub returns-clause-ready : goal.returns-clause-ready
returns-clause-ready g c =
    let o = c.args.office.now.view in
    let P = IsDealt o.desks in
    let Q : Vec Sitter Global → Type 0 = λ v. AreAt o.desks v.items in
    let paired : length o.desks ≡ length o.pools = subst (λ (v : View DeskView). length v.desks ≡ length v.pools) c.view-view.ensures c.pools-pools.ensures.desks in
    let at : (v : Vec Sitter Global) → P v → Q v = λ v d. at_end o paired v.items (dealt_ready o paired c.requires.sets d.0 v.items d.1) in
    let a = all_cut P _ _ _ (front_of _ _ _ _ c.pop.ensures.items c.in-Some.is) (λ k v l. (k, c.requires.dealt k v l)) in
    let b = all_cut P _ _ _ (front_of _ _ _ _ c.pop-2.ensures.items c.in-Some-pop.is) a.0 in
    let served : Q c.serve-next_end.new.pass = at_end o paired c.serve-next_end.new.pass.items (subst (λ (v : View DeskView). IsReady v c.serve-next_end.new.pass.items) c.view-view.ensures c.serve-next_end.ensures) in
    all_push Q _ _ _ c.push_reserved-2.ensures.items (all_push Q _ _ _ c.push_reserved.ensures.items (λ k v l. at (get_or c.pop-2.new.self.items k v) (b.0 k v l)) served) (at c.in-Some.other a.1)
