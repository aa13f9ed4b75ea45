use Rattle.std.proofs.Common.{zero, suc, ◌≡◌, ◌++◌, ◌∷◌, [], List, All, ap, sym, ◌∙◌, subst, arith}
use Rattle.feature_desk.specs.Closings.{Rests}
use Rattle.feature_desk.specs.Sitters.{DeskView, IsOf, Sitter}
use Rattle.desk_rows.proofs.tests.desks.both.Goals as goal

two_all : (P : Sitter → Type 0) (a b : Sitter) → P a → P b → All P (a ∷ b ∷ [])
two_all P a b p q zero d lt = p
two_all P a b p q (suc zero) d lt = q
two_all P a b p q (suc (suc k)) d lt = absurd (omega (arith, lt))

pub returns-clause-all : goal.returns-clause-all
returns-clause-all c =
    let a = c.args.one in let b = c.args.two in let d : DeskView = c.args._desk.now in
    let are : c.push_reserved-2.new.self.items ≡ a ∷ b ∷ [] = c.push_reserved-2.ensures.items ∙ ap (λ (l : List Sitter). l ++ b ∷ []) (c.push_reserved.ensures.items ∙ ap (λ (l : List Sitter). l ++ a ∷ []) c.requires.room.0) in
    record {
      own = subst (All (λ (s : Sitter). IsOf s d)) (sym are) (two_all (λ (s : Sitter). IsOf s d) a b c.requires.one.0 c.requires.two.0);
      rest = subst (All Rests) (sym are) (two_all Rests a b c.requires.one.1 c.requires.two.1);
    }
