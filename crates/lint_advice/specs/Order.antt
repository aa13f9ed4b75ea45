use Rattle.std.specs.Prelude.{◌≡◌, ◌+◌, ◌<◌, Bool, true, false, nat_le, List, [], ◌∷◌, ◌++◌, length, map}
use Rattle.std.specs.List.{flat_map}
use Rattle.lic_types.specs.Groups.{GroupLine}
use Rattle.lic_types.specs.declared.client.RuleLine.{RuleLine}
use Rattle.options_text.specs.Canonical.{in_line_order}
use Rattle.options_text.specs.Rises.{AreRising}
use Rattle.options_text.specs.declared.entry.Entry.{Entry}
use Rattle.options_text.specs.declared.entry.Entry.TheVariants.{Lists, Rules}
use Rattle.lint_advice.specs.declared.advice.Advice.{Advice}

-- the group lines and the rules of an options file, in the order of its lines
unfoldable pub in_order : List GroupLine → List RuleLine → List Entry
in_order groups rules = in_line_order (map Lists groups ++ map Rules rules)

-- whether the next of these lines is of a group
abbrev pub is_group_next : List GroupLine → List RuleLine → Bool
is_group_next [] rules = false
is_group_next (group ∷ groups) [] = true
is_group_next (group ∷ groups) (rule ∷ rules) = nat_le group.line rule.line

-- What is advised of the next line was put behind the other advice: with what is advised of the lines that are left it is the same as before, and less is left.
pub record Advises (advises : Entry → List Advice) (old new : List Advice) (groups_old groups_new : List GroupLine) (rules_old rules_new : List RuleLine) : Type 0 where
  pub whole : new ++ flat_map advises (in_order groups_new rules_new) ≡ old ++ flat_map advises (in_order groups_old rules_old)
  pub groups : AreRising (map (λ (g : GroupLine). g.line) groups_new)
  pub rules : AreRising (map (λ (l : RuleLine). l.line) rules_new)
  pub fewer : length groups_new + length rules_new < length groups_old + length rules_old
