use Rattle.std.proofs.Common.{rules, ◌∙◌}
use Rattle.std.proofs.lemmas.Fn.{always_returns_same}
use Rattle.group_roster.specs.Listings.{listing_cmp}
use Rattle.group_roster.specs.Rosters.{listing_at}
use Rattle.group_roster.specs.declared.roster.Membership.{Membership}
use Rattle.group_roster.proofs.Rosters.{found_in_order}
use Rattle.group_roster.proofs.roster.has.Goals as goal

pub returns : goal.returns
returns c =
    let by_order = c.binary_search_by.ensures.position (λ (m : Membership). listing_cmp (listing_at c.args.groups.now m) c.args.sought.now) (always_returns_same _ _ _ (λ a r f k. search rules)) in
    c.is_ok.ensures.value ∙ found_in_order c.args.groups.now c.args.all.now c.args.sought.now _ c.requires c.binary_search_by.ensures.bound by_order
