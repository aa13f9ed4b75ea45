use Rattle.std.proofs.Common.{◌≡◌, ◌<◌, true, false, List, [], ◌∷◌, ◌++◌, length, map, refl, sym, ap, subst, ◌∙◌, arith, append_assoc}
use Rattle.std.specs.List.{flat_map}
use Rattle.std.proofs.lemmas.Bool.{leb-true, leb-false}
use Rattle.lic_types.specs.Groups.{GroupLine}
use Rattle.lic_types.specs.declared.client.RuleLine.{RuleLine}
use Rattle.options_text.specs.Rises.{AreRising}
use Rattle.options_text.specs.declared.entry.Entry.{Entry}
use Rattle.options_text.specs.declared.entry.Entry.TheVariants.{Lists, Rules}
use Rattle.options_text.proofs.Merges.{AtLeast, Beyond, beyond_groups, first_of, least_both, least_groups, least_rules}
use Rattle.options_text.proofs.Rising.{rising_rest}
use Rattle.lint_advice.specs.Order.{Advises, in_order, is_group_next}
use Rattle.lint_advice.specs.declared.advice.Advice.{Advice}

rules_behind : (g : GroupLine) (gs : List GroupLine) (rs : List RuleLine) → is_group_next (g ∷ gs) rs ≡ true → AreRising (map (λ (l : RuleLine). l.line) rs) → AtLeast g.line (map Rules rs)
rules_behind g gs [] next r = tt
rules_behind g gs (l ∷ ls) next r = (leb-true g.line l.line next, least_rules g.line l.line ls (leb-true g.line l.line next) r)

-- where the next line is of a group, that is the first in the order of the lines
group_first : (g : GroupLine) (gs : List GroupLine) (rs : List RuleLine) → is_group_next (g ∷ gs) rs ≡ true
    → AreRising (map (λ (x : GroupLine). x.line) (g ∷ gs)) → AreRising (map (λ (l : RuleLine). l.line) rs) → in_order (g ∷ gs) rs ≡ Lists g ∷ in_order gs rs
unfolding in_order
group_first g gs rs next rising rises =
    first_of [] (Lists g) (map Lists gs ++ map Rules rs) tt
    (least_both g.line (map Lists gs) (map Rules rs) (least_groups g.line g.line gs (omega arith) rising) (rules_behind g gs rs next rises))

groups_behind : (gs : List GroupLine) (l : RuleLine) (rs : List RuleLine) → is_group_next gs (l ∷ rs) ≡ false → AreRising (map (λ (g : GroupLine). g.line) gs) → Beyond l.line (map Lists gs)
groups_behind [] l rs next r = tt
groups_behind (g ∷ gs) l rs next r =
    let late : l.line < g.line = leb-false g.line l.line next in
    (late, beyond_groups l.line g.line gs (omega arith) r)

-- where it is a rule, that is
rule_first : (gs : List GroupLine) (l : RuleLine) (rs : List RuleLine) → is_group_next gs (l ∷ rs) ≡ false
    → AreRising (map (λ (g : GroupLine). g.line) gs) → AreRising (map (λ (x : RuleLine). x.line) (l ∷ rs)) → in_order gs (l ∷ rs) ≡ Rules l ∷ in_order gs rs
unfolding in_order
rule_first gs l rs next rising rises =
    first_of (map Lists gs) (Rules l) (map Rules rs) (groups_behind gs l rs next rising) (least_rules l.line l.line rs (omega arith) rises)

-- where there is no next line, none is left
pub none_left : (gs : List GroupLine) (rules : List RuleLine) → length rules ≡ 0 → is_group_next gs rules ≡ false → in_order gs rules ≡ []
unfolding in_order
none_left [] [] e next = refl
none_left [] (l ∷ rs) e next = absurd (omega arith)
none_left (g ∷ gs) [] e next = absurd cc
none_left (g ∷ gs) (l ∷ rs) e next = absurd (omega arith)

-- with the advice of the first line in their order, that of the others is that of all
more : (f : Entry → List Advice) (old new : List Advice) (e : Entry) (es order : List Entry) → order ≡ e ∷ es → new ≡ old ++ f e → new ++ flat_map f es ≡ old ++ flat_map f order
more f old new e es order is put =
    ap (λ (a : List Advice). a ++ flat_map f es) put
    ∙ (append_assoc old (f e) (flat_map f es)
    ∙ ap (λ (o : List Entry). old ++ flat_map f o) (sym is))

-- what is advised of a group was put behind the other advice
group_advised : (f : Entry → List Advice) (old new : List Advice) (g : GroupLine) (gs : List GroupLine) (rs : List RuleLine)
    → is_group_next (g ∷ gs) rs ≡ true → AreRising (map (λ (x : GroupLine). x.line) (g ∷ gs)) → AreRising (map (λ (l : RuleLine). l.line) rs) → new ≡ old ++ f (Lists g)
    → Advises f old new (g ∷ gs) gs rs rs
group_advised f old new g gs rs next rising rises put = record {
  whole = more f old new (Lists g) (in_order gs rs) (in_order (g ∷ gs) rs) (group_first g gs rs next rising rises) put;
  groups = rising_rest g.line (map (λ (x : GroupLine). x.line) gs) rising;
  rules = rises;
  fewer = omega arith;
}

-- what is advised of a rule was put behind the other advice
rule_advised : (f : Entry → List Advice) (old new : List Advice) (gs : List GroupLine) (l : RuleLine) (rs : List RuleLine)
    → is_group_next gs (l ∷ rs) ≡ false → AreRising (map (λ (g : GroupLine). g.line) gs) → AreRising (map (λ (x : RuleLine). x.line) (l ∷ rs)) → new ≡ old ++ f (Rules l)
    → Advises f old new gs gs (l ∷ rs) rs
rule_advised f old new gs l rs next rising rises put = record {
  whole = more f old new (Rules l) (in_order gs rs) (in_order gs (l ∷ rs)) (rule_first gs l rs next rising rises) put;
  groups = rising;
  rules = rising_rest l.line (map (λ (x : RuleLine). x.line) rs) rises;
  fewer = omega arith;
}

-- The same, where the lists are only equal to such as begin so.

pub group_is_advised : (f : Entry → List Advice) (old new : List Advice) (groups : List GroupLine) (g : GroupLine) (gs : List GroupLine) (rs : List RuleLine)
    → groups ≡ g ∷ gs → is_group_next groups rs ≡ true → AreRising (map (λ (x : GroupLine). x.line) groups) → AreRising (map (λ (l : RuleLine). l.line) rs) → new ≡ old ++ f (Lists g)
    → Advises f old new groups gs rs rs
group_is_advised f old new groups g gs rs begins next rising rises put =
    let P : List GroupLine → Type 0 = λ G. is_group_next G rs ≡ true → AreRising (map (λ (x : GroupLine). x.line) G) → Advises f old new G gs rs rs in
    subst P (sym begins) (λ n r. group_advised f old new g gs rs n r rises put) next rising

pub rule_is_advised : (f : Entry → List Advice) (old new : List Advice) (gs : List GroupLine) (rules : List RuleLine) (l : RuleLine) (rs : List RuleLine)
    → rules ≡ l ∷ rs → is_group_next gs rules ≡ false → AreRising (map (λ (g : GroupLine). g.line) gs) → AreRising (map (λ (x : RuleLine). x.line) rules) → new ≡ old ++ f (Rules l)
    → Advises f old new gs gs rules rs
rule_is_advised f old new gs rules l rs begins next rising rises put =
    let P : List RuleLine → Type 0 = λ R. is_group_next gs R ≡ false → AreRising (map (λ (x : RuleLine). x.line) R) → Advises f old new gs gs R rs in
    subst P (sym begins) (λ n r. rule_advised f old new gs l rs n rising r put) next rises
