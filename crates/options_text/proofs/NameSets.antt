use Rattle.std.proofs.Common.{◌≡◌, ℕ, Bool, ◌||◌, not, cond, List, [], ◌∷◌, find, Option, None, Some, refl, sym, ap, ◌∙◌}
use Rattle.std.proofs.lemmas.Bool.Decides.{Decides-like, same_from_decides}
use Rattle.std.specs.Cmp.Lexicographic.{bytes_decides}
use Rattle.std.proofs.Math.Bool.{or-false}
use Rattle.lic_types.specs.Groups.{GroupLine, same_name}
use Rattle.lic_types.specs.declared.client.RuleLine.{RuleLine}
use Rattle.lic_types.specs.declared.client.Who.{Who}
use Rattle.lic_types.specs.declared.client.WhoKind.{WhoKind}
use Rattle.lic_types.specs.declared.client.WhoKind.TheVariants.{User, Host, Display, Project, Group, HostGroup}
use Rattle.lic_types.specs.NameSets.{has_name, with_name}
use Rattle.lic_types.proofs.NameSets.{has_with}
use Rattle.options_text.specs.Names.{is_known, is_listed}
use Rattle.options_text.specs.Options.{has_hosts, has_users, is_defined, is_nobody_or_defined}

same_either_way : (a b : List ℕ) → same_name a b ≡ same_name b a
same_either_way a b = same_from_decides (same_name a b) (same_name b a) (bytes_decides a b) (Decides-like (same_name b a) (λ e. sym e) (λ e. sym e) (bytes_decides b a))

pub has_more : (old new : List (List ℕ)) (name : List ℕ) → new ≡ with_name old name → (other : List ℕ) → has_name other new ≡ (has_name other old || same_name name other)
has_more old new name is other =
    ap (has_name other) is ∙ has_with other name old
    ∙ ap (λ (b : Bool). has_name other old || b) (or-false (same_name other name) ∙ same_either_way other name)

-- Where the names are those of groups, what is listed is what some line defines.

listed_is : (users hosts : List (List ℕ)) (groups : List GroupLine) → ((name : List ℕ) → has_name name users ≡ has_users groups name) → ((name : List ℕ) → has_name name hosts ≡ has_hosts groups name)
    → (kind : WhoKind) (name : List ℕ) → is_listed users hosts kind name ≡ is_defined groups kind name
listed_is users hosts groups u h User name = refl
listed_is users hosts groups u h Host name = refl
listed_is users hosts groups u h Display name = refl
listed_is users hosts groups u h Project name = refl
listed_is users hosts groups u h Group name = u name
listed_is users hosts groups u h HostGroup name = h name

known_is : (users hosts : List (List ℕ)) (groups : List GroupLine) → ((name : List ℕ) → has_name name users ≡ has_users groups name) → ((name : List ℕ) → has_name name hosts ≡ has_hosts groups name)
    → (who : Option Who) → is_known users hosts who ≡ is_nobody_or_defined groups who
known_is users hosts groups u h None = refl
known_is users hosts groups u h (Some who) = listed_is users hosts groups u h who.kind who.name

pub first_is : (users hosts : List (List ℕ)) (groups : List GroupLine) → ((name : List ℕ) → has_name name users ≡ has_users groups name) → ((name : List ℕ) → has_name name hosts ≡ has_hosts groups name)
    → (rules : List RuleLine) → find (λ (rule : RuleLine). not (is_known users hosts rule.who)) rules ≡ find (λ (rule : RuleLine). not (is_nobody_or_defined groups rule.who)) rules
first_is users hosts groups u h [] = refl
first_is users hosts groups u h (rule ∷ rules) =
    ap (λ (b : Bool). cond (not b) (Some rule) (find (λ (r : RuleLine). not (is_known users hosts r.who)) rules)) (known_is users hosts groups u h rule.who)
    ∙ ap (λ (o : Option RuleLine). cond (not (is_nobody_or_defined groups rule.who)) (Some rule) o) (first_is users hosts groups u h rules)
