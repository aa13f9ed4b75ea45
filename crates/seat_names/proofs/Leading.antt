-- Ways of one more access, and of two parts.
use Rattle.std.proofs.Common.{List, [], ◌∷◌, ◌++◌, refl, sym, subst}
use Rattle.kex_words.specs.Passes.{Pass}
use Rattle.kex_words.specs.Moves.{Moved}
use Rattle.seat_names.specs.Ways.{Leads}

pub leads_more : (p : Pass) (way : List Pass) (q r : Pass) → Leads p way q → Moved q r → Leads p (way ++ r ∷ []) r
leads_more p [] q r e m = (subst (λ (z : Pass). Moved z r) (sym e) m, refl)
leads_more p (s ∷ way) q r w m = (w.0, leads_more s way q r w.1 m)

pub leads_on : (p : Pass) (way : List Pass) (q : Pass) (more : List Pass) (r : Pass) → Leads p way q → Leads q more r → Leads p (way ++ more) r
leads_on p [] q more r e w = subst (λ (z : Pass). Leads z more r) (sym e) w
leads_on p (s ∷ way) q more r v w = (v.0, leads_on s way q more r v.1 w)
