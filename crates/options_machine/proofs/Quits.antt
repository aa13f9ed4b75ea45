use Rattle.std.proofs.Common.{◌≡◌, ℕ, Bool, true, false, List, [], ◌∷◌, ◌++◌, refl, ap, sym, ◌∙◌, arith, subst, not, ◌||◌, Option, None, Some}
use Rattle.std.specs.List.{count_by, list_all}
use Rattle.options_machine.specs.declared.reply.Entry.{Entry}
use Rattle.options_machine.specs.declared.reply.Kind.TheVariants as kind
use Rattle.options_machine.specs.declared.reply.Reply.{Reply}
use Rattle.options_machine.specs.declared.reply.Request.{Request}
use Rattle.options_machine.specs.declared.rows.Queuer.{Queuer}
use Rattle.options_machine.specs.Rules.{Rules}
use Rattle.options_machine.specs.State.{State, entries, is_holder, is_queuer, opening}
use Rattle.options_machine.specs.Step.{step}
use Rattle.options_machine.specs.Run.{Follows, IsRun, after, after_from}
use Rattle.options_machine.specs.Law.{AreSets}
use Rattle.options_machine.specs.Own.{Agrees, fits_holder, holds, is_of_holding, is_of_queueing, is_some_of, queues, says_queueing, standing, standing_from, standing_then}
use Rattle.options_machine.proofs.Counts.{count-cons}
use Rattle.options_machine.proofs.Runs.{run_last}
use Rattle.options_machine.proofs.OwnSteps.{runs_agree}
use Rattle.std.proofs.lemmas.Bool.Decides.{nat_tests}

-- the standing reply after one more entry
pub standing-snoc : (p : ℕ) (o : Option Reply) (h : List Entry) (e : Entry) → standing_from p o (h ++ e ∷ []) ≡ standing_then p (standing_from p o h) e
standing-snoc p o [] e = refl
standing-snoc p o (x ∷ xs) e = standing-snoc p (standing_then p o x) xs e

-- a reply of neither
abbrev pub SaysNeither : Reply → Type 0
SaysNeither r = (is_of_holding r ≡ false) × (is_of_queueing r ≡ false)

quit_reply : (sets : List Rules) (s : State) (request : Request) (moment : ℕ) → request.kind ≡ kind.Quit → SaysNeither (step sets s request moment).0
quit_reply sets s request moment e = grind arith

none_pass : {X : Type 0} (t ok : X → Bool) (xs : List X) → ((x : X) → ok x ≡ false) → list_all (λ (x : X). not (t x) || ok x) xs ≡ true → count_by t xs ≡ 0
none_pass t ok [] bad h = refl
none_pass t ok (x ∷ xs) bad h = grind (arith, count-cons t x xs, bad x, none_pass t ok xs bad)

-- where the standing reply is of neither, the party has nothing
pub neither_has_none : (r : Reply) (s : State) (p : ℕ) → SaysNeither r → Agrees (Some r) s p → entries s p ≡ 0
neither_has_none r s p (e, f) a =
    let holders : count_by (is_holder p) s.holders ≡ 0 = none_pass (is_holder p) (fits_holder (Some r)) s.holders (λ h. grind arith) a.holders in
    omega (arith, holders, none_pass (is_queuer p) (λ (q : Queuer). says_queueing (Some r)) s.queue (λ q. grind arith) a.queue)

quit_stands : (p : ℕ) (o : Option Reply) (e : Entry) → e.request.party ≡ p → e.request.kind ≡ kind.Quit → standing_then p o e ≡ Some e.reply
quit_stands p o e same asked = grind (arith, nat_tests)

pub quit_leaves : (sets : List Rules) (count : ℕ) (h : List Entry) (e : Entry) → AreSets sets count → IsRun sets (h ++ e ∷ []) → e.request.kind ≡ kind.Quit
    → (holds (h ++ e ∷ []) e.request.party ≡ false) × (queues (h ++ e ∷ []) e.request.party ≡ false) × (entries (after sets (h ++ e ∷ [])) e.request.party ≡ 0)
quit_leaves sets count h e g run asked =
    let p : ℕ = e.request.party in
    let stands : standing (h ++ e ∷ []) p ≡ Some e.reply = standing-snoc p None h e ∙ quit_stands p (standing_from p None h) e refl asked in
    let follows : Follows sets (after_from sets opening h) e = run_last sets opening h e run in
    let says : SaysNeither e.reply = subst SaysNeither (sym follows.reply) (quit_reply sets (after_from sets opening h) e.request e.moment asked) in
    let agrees : Agrees (Some e.reply) (after sets (h ++ e ∷ [])) p = subst (λ (o : Option Reply). Agrees o (after sets (h ++ e ∷ [])) p) stands (runs_agree sets count (h ++ e ∷ []) p g run) in
    (ap (is_some_of is_of_holding) stands ∙ says.0, ap (is_some_of is_of_queueing) stands ∙ says.1, neither_has_none e.reply (after sets (h ++ e ∷ [])) p says agrees)
