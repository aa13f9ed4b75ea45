-- What holds of the walk of script lines, whatever stands at the pools.
use Rattle.std.proofs.Common.{◌≡◌, ℕ, zero, suc, ◌+◌, ◌<◌, Bool, true, false, ◌&&◌, List, [], ◌∷◌, length, map, Option, None, Some, cond, refl, ap, ◌∙◌, arith, ltb, slice_get, subst}
use Rattle.std.proofs.lemmas.Bool.{ltb-true}
use Rattle.std.proofs.lemmas.List.{length-map}
use Rattle.std.specs.List.{AllZip, position_from}
use Rattle.feature_lines.specs.Route.{found_at, route, serves}
use Rattle.feature_lines.specs.declared.pool.Pool.{Pool}
use Rattle.feature_lines.specs.declared.route.Found.{Found}
use Rattle.feature_lines.specs.declared.route.Found.TheVariants.{Pool as At, Unknown, Expired}
use Rattle.lic_types.specs.Groups.{same_name}
use Rattle.lic_types.specs.declared.day.Expiry.{Expiry}
use Rattle.lic_types.specs.declared.day.Expiry.TheVariants.{Never, On}
use Rattle.lic_types.specs.declared.version.Version.{Version}
use Rattle.options_machine.specs.Run.{IsBelow}
use Rattle.options_machine.specs.Step.{set_asked}
use Rattle.script_text.specs.Line.{AskedLine}
use Rattle.scripts.specs.Walk.{IsThere, Walk, after_asked, after_line, after_lines, after_sent, asked_answer, changed_at, entry_answer, found_or, is_kept, is_named, line_answer, found_by_route, destination, sent_answer}

within_or : (i n at : ℕ) (b : Bool) (rest : Option ℕ) → (rest ≡ Some at → at < i + 1 + n) → cond b (Some i) rest ≡ Some at → at < i + suc n
within_or i n at true rest h e = let same : i ≡ at = cc in omega arith
within_or i n at false rest h e = omega (arith, h e)

-- the place that is found is one in the list
position_within : {X : Type 0} (p : X → Bool) (i : ℕ) (xs : List X) (at : ℕ) → position_from p i xs ≡ Some at → at < i + length xs
position_within p i [] at e = absurd cc
position_within p i (x ∷ xs) at e = within_or i (length xs) at (p x) (position_from p (i + 1) xs) (position_within p (i + 1) xs at) e

routed_there : (n : ℕ) (found : Option ℕ) (expiry : Option Expiry) → ((at : ℕ) → found ≡ Some at → at < n) → IsThere n (found_at found expiry)
routed_there n (Some at) expiry h = h at refl
routed_there n None None h = tt
routed_there n None (Some Never) h = tt
routed_there n None (Some (On day)) h = tt

-- where a checkout is routed, there is a pool
route_there : (pools : List Pool) (name : List ℕ) (version moment : ℕ) → IsThere (length pools) (route pools name version moment)
route_there pools name version moment =
    routed_there (length pools) (position_from (serves name version moment) 0 pools) _
    (λ at e. omega (arith, position_within (serves name version moment) 0 pools at e))

found_there : {X : Type 0} (p : X → Bool) (xs : List X) (other : Found) → IsThere (length xs) other → (found : Option ℕ) → position_from p 0 xs ≡ found → IsThere (length xs) (found_or found other)
found_there p xs other k None is = k
found_there p xs other k (Some at) is = omega (arith, position_within p 0 xs at is)

module _ {X : Type 0} (walk : Walk X) where
  there_by : (xs : List X) (name : List ℕ) (moment : ℕ) (version : Option Version) → IsThere (length xs) (found_by_route walk xs name moment version)
  there_by xs name moment None = found_there (is_named walk name) xs Unknown tt _ refl
  there_by xs name moment (Some version) =
      subst (λ (n : ℕ). IsThere n (route (map walk.pool xs) name version.key moment)) (length-map xs walk.pool) (route_there (map walk.pool xs) name version.key moment)

  -- where a line goes, there is a pool
  pub sent_there : (xs : List X) (line : AskedLine) (feature : Option (List ℕ)) → IsThere (length xs) (destination walk xs line feature)
  sent_there xs line None = tt
  sent_there xs line (Some name) = found_there (is_kept walk name line.party) xs _ (there_by xs name line.moment line.version) _ refl

-- what is the same of each two is the same of all
pub same_map : {X Y Z : Type 0} (R : X → Y → Type 0) (f : X → Z) (g : Y → Z) → ((x : X) (y : Y) → R x y → f x ≡ g y) → (xs : List X) (ys : List Y) → AllZip R xs ys → map f xs ≡ map g ys
same_map R f g same [] [] k = refl
same_map R f g same [] (y ∷ ys) k = absurd k
same_map R f g same (x ∷ xs) [] k = absurd k
same_map R f g same (x ∷ xs) (y ∷ ys) k = ap (λ (z : _). z ∷ map f xs) (same x y k.0) ∙ ap (λ (zs : List _). g y ∷ zs) (same_map R f g same xs ys k.1)

-- a relation that stands where nothing is done, is made by each entry and leads on stands between what is at each pool before lines and behind them
module _ {X : Type 0} (walk : Walk X) (sets : ℕ) (R : X → X → Type 0) (stays : (x : X) → R x x) (further : (x y z : X) → R x y → R y z → R x z)
    (enters : (line : AskedLine) (x : X) → IsBelow (set_asked line.kind) sets → R x (walk.entered line x)) where
  all_stay : (xs : List X) → AllZip R xs xs
  all_stay [] = tt
  all_stay (x ∷ xs) = (stays x, all_stay xs)

  all_further : (xs ys zs : List X) → AllZip R xs ys → AllZip R ys zs → AllZip R xs zs
  all_further [] [] [] g h = tt
  all_further [] [] (z ∷ zs) g h = absurd h
  all_further [] (y ∷ ys) zs g h = absurd g
  all_further (x ∷ xs) [] zs g h = absurd g
  all_further (x ∷ xs) (y ∷ ys) [] g h = absurd h
  all_further (x ∷ xs) (y ∷ ys) (z ∷ zs) g h = (further x y z g.0 h.0, all_further xs ys zs g.1 h.1)

  one_entered : (line : AskedLine) → IsBelow (set_asked line.kind) sets → (at : ℕ) (xs : List X) → AllZip R xs (changed_at at (walk.entered line) xs)
  one_entered line fits at [] = tt
  one_entered line fits zero (x ∷ xs) = (enters line x fits, all_stay xs)
  one_entered line fits (suc at) (x ∷ xs) = (stays x, one_entered line fits at xs)

  all_entered : (line : AskedLine) → IsBelow (set_asked line.kind) sets → (xs : List X) → AllZip R xs (map (walk.entered line) xs)
  all_entered line fits [] = tt
  all_entered line fits (x ∷ xs) = (enters line x fits, all_entered line fits xs)

  sent_goes : (line : AskedLine) → IsBelow (set_asked line.kind) sets → (xs : List X) (found : Found) → AllZip R xs (after_sent walk xs line found)
  sent_goes line fits xs (At at) = one_entered line fits at xs
  sent_goes line fits xs Unknown = all_stay xs
  sent_goes line fits xs (Expired day) = all_stay xs

  reread_goes : (line : AskedLine) (n : ℕ) (xs : List X) → Some n ≡ set_asked line.kind → (b : Bool) → ltb n sets ≡ b → AllZip R xs (cond b (map (walk.entered line) xs) xs)
  reread_goes line n xs is true below = all_entered line (subst (λ (o : Option ℕ). IsBelow o sets) is (ltb-true n sets below)) xs
  reread_goes line n xs is false below = all_stay xs

  asked_goes : (line : AskedLine) (xs : List X) (asked : Option ℕ) → asked ≡ set_asked line.kind → AllZip R xs (after_asked walk sets xs line asked)
  asked_goes line xs None is = sent_goes line (subst (λ (o : Option ℕ). IsBelow o sets) is tt) xs (destination walk xs line line.feature)
  asked_goes line xs (Some n) is = reread_goes line n xs is (ltb n sets) refl

  pub line_goes : (xs : List X) (line : AskedLine) → AllZip R xs (after_line walk sets xs line)
  line_goes xs line = asked_goes line xs (set_asked line.kind) refl

  pub lines_go : (xs : List X) (lines : List AskedLine) → AllZip R xs (after_lines walk sets xs lines)
  lines_go xs [] = all_stay xs
  lines_go xs (line ∷ lines) = all_further xs (after_line walk sets xs line) (after_lines walk sets (after_line walk sets xs line) lines) (line_goes xs line) (lines_go (after_line walk sets xs line) lines)

-- two walks go the same way with a line, where by a relation between what stands at the pools in both each knows the same of a pool, and that leads to a second relation where an entry is made in both, and where none is
module _ {X Y : Type 0} (v : Walk X) (w : Walk Y) (line : AskedLine) (R S : X → Y → Type 0)
    (pools : (x : X) (y : Y) → R x y → v.pool x ≡ w.pool y) (keeps : (x : X) (y : Y) → R x y → v.keeps line.party x ≡ w.keeps line.party y) (answer : (x : X) (y : Y) → R x y → v.answer line x ≡ w.answer line y)
    (stays : (x : X) (y : Y) → R x y → S x y) (enters : (x : X) (y : Y) → R x y → S (v.entered line x) (w.entered line y)) where
  same_position : (p : X → Bool) (q : Y → Bool) → ((x : X) (y : Y) → R x y → p x ≡ q y) → (i : ℕ) (xs : List X) (ys : List Y) → AllZip R xs ys → position_from p i xs ≡ position_from q i ys
  same_position p q same i [] [] k = refl
  same_position p q same i [] (y ∷ ys) k = absurd k
  same_position p q same i (x ∷ xs) [] k = absurd k
  same_position p q same i (x ∷ xs) (y ∷ ys) k =
      ap (λ (b : Bool). cond b (Some i) (position_from p (i + 1) xs)) (same x y k.0)
      ∙ ap (λ (found : Option ℕ). cond (q y) (Some i) found) (same_position p q same (i + 1) xs ys k.1)

  same_named : (name : List ℕ) (x : X) (y : Y) → R x y → is_named v name x ≡ is_named w name y
  same_named name x y k = ap (λ (p : Pool). same_name p.name name) (pools x y k)

  same_kept : (name : List ℕ) (x : X) (y : Y) → R x y → is_kept v name line.party x ≡ is_kept w name line.party y
  same_kept name x y k = ap (λ (b : Bool). b && v.keeps line.party x) (same_named name x y k) ∙ ap (λ (b : Bool). is_named w name y && b) (keeps x y k)

  same_routed : (xs : List X) (ys : List Y) (name : List ℕ) (moment : ℕ) (version : Option Version) → AllZip R xs ys → found_by_route v xs name moment version ≡ found_by_route w ys name moment version
  same_routed xs ys name moment None k = ap (λ (found : Option ℕ). found_or found Unknown) (same_position (is_named v name) (is_named w name) (same_named name) 0 xs ys k)
  same_routed xs ys name moment (Some version) k = ap (λ (ps : List Pool). route ps name version.key moment) (same_map R v.pool w.pool pools xs ys k)

  same_sent : (xs : List X) (ys : List Y) (feature : Option (List ℕ)) → AllZip R xs ys → destination v xs line feature ≡ destination w ys line feature
  same_sent xs ys None k = refl
  same_sent xs ys (Some name) k =
      ap (λ (found : Option ℕ). found_or found (found_by_route v xs name line.moment line.version)) (same_position (is_kept v name line.party) (is_kept w name line.party) (same_kept name) 0 xs ys k)
      ∙ ap (found_or (position_from (is_kept w name line.party) 0 ys)) (same_routed xs ys name line.moment line.version k)

  same_entry : (at : ℕ) (xs : List X) (ys : List Y) → AllZip R xs ys → entry_answer v line (slice_get xs at) ≡ entry_answer w line (slice_get ys at)
  same_entry at [] [] k = refl
  same_entry at [] (y ∷ ys) k = absurd k
  same_entry at (x ∷ xs) [] k = absurd k
  same_entry zero (x ∷ xs) (y ∷ ys) k = answer x y k.0
  same_entry (suc at) (x ∷ xs) (y ∷ ys) k = same_entry at xs ys k.1

  same_there : (xs : List X) (ys : List Y) (found : Found) → AllZip R xs ys → sent_answer v xs line found ≡ sent_answer w ys line found
  same_there xs ys (At at) k = same_entry at xs ys k
  same_there xs ys Unknown k = refl
  same_there xs ys (Expired day) k = refl

  same_asked : (sets : ℕ) (xs : List X) (ys : List Y) (asked : Option ℕ) → AllZip R xs ys → asked_answer v sets xs line asked ≡ asked_answer w sets ys line asked
  same_asked sets xs ys None k = ap (sent_answer v xs line) (same_sent xs ys line.feature k) ∙ same_there xs ys (destination w ys line line.feature) k
  same_asked sets xs ys (Some n) k = refl

  -- the line is answered the same
  pub same_answer : (sets : ℕ) (xs : List X) (ys : List Y) → AllZip R xs ys → line_answer v sets xs line ≡ line_answer w sets ys line
  same_answer sets xs ys k = same_asked sets xs ys (set_asked line.kind) k

  all_wait : (xs : List X) (ys : List Y) → AllZip R xs ys → AllZip S xs ys
  all_wait [] [] k = tt
  all_wait [] (y ∷ ys) k = absurd k
  all_wait (x ∷ xs) [] k = absurd k
  all_wait (x ∷ xs) (y ∷ ys) k = (stays x y k.0, all_wait xs ys k.1)

  all_enter : (xs : List X) (ys : List Y) → AllZip R xs ys → AllZip S (map (v.entered line) xs) (map (w.entered line) ys)
  all_enter [] [] k = tt
  all_enter [] (y ∷ ys) k = absurd k
  all_enter (x ∷ xs) [] k = absurd k
  all_enter (x ∷ xs) (y ∷ ys) k = (enters x y k.0, all_enter xs ys k.1)

  one_enters : (at : ℕ) (xs : List X) (ys : List Y) → AllZip R xs ys → AllZip S (changed_at at (v.entered line) xs) (changed_at at (w.entered line) ys)
  one_enters at [] [] k = tt
  one_enters at [] (y ∷ ys) k = absurd k
  one_enters at (x ∷ xs) [] k = absurd k
  one_enters zero (x ∷ xs) (y ∷ ys) k = (enters x y k.0, all_wait xs ys k.1)
  one_enters (suc at) (x ∷ xs) (y ∷ ys) k = (stays x y k.0, one_enters at xs ys k.1)

  both_sent : (xs : List X) (ys : List Y) (found : Found) → AllZip R xs ys → AllZip S (after_sent v xs line found) (after_sent w ys line found)
  both_sent xs ys (At at) k = one_enters at xs ys k
  both_sent xs ys Unknown k = all_wait xs ys k
  both_sent xs ys (Expired day) k = all_wait xs ys k

  both_read : (xs : List X) (ys : List Y) (b : Bool) → AllZip R xs ys → AllZip S (cond b (map (v.entered line) xs) xs) (cond b (map (w.entered line) ys) ys)
  both_read xs ys true k = all_enter xs ys k
  both_read xs ys false k = all_wait xs ys k

  both_asked : (sets : ℕ) (xs : List X) (ys : List Y) (asked : Option ℕ) → AllZip R xs ys → AllZip S (after_asked v sets xs line asked) (after_asked w sets ys line asked)
  both_asked sets xs ys None k = rw (same_sent xs ys line.feature k) (both_sent xs ys (destination w ys line line.feature) k)
  both_asked sets xs ys (Some n) k = both_read xs ys (ltb n sets) k

  -- and both go on by the second relation
  pub both_go : (sets : ℕ) (xs : List X) (ys : List Y) → AllZip R xs ys → AllZip S (after_line v sets xs line) (after_line w sets ys line)
  both_go sets xs ys k = both_asked sets xs ys (set_asked line.kind) k
