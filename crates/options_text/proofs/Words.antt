use Rattle.std.proofs.Common.{◌≡◌, ◌==◌, ℕ, ◌^◌, ◌<◌, ◌≤◌, nat_le, not, ◌&&◌, Bool, true, false, cond, ltb, List, [], ◌∷◌, length, decimal, Option, None, Some, Result, Ok, Err, refl, sym, ap, subst, ◌∙◌, arith, rules}
use Rattle.std.proofs.lemmas.Bool.{and_parts, and_from, leb-true, le-leb, lt-ltb, ltb-true}
use Rattle.std.proofs.lemmas.Fmt.{decimal_nonempty, digits_decimal, digits_value-decimal, length-decimal-le}
use Rattle.std.proofs.lemmas.Str.Parse.{IsNumeralModel, digits_value_short, numerals_by_fold}
use Rattle.std.specs.Char.{is_ascii_digit}
use Rattle.std.specs.List.{list_all, list_any, position_from, AllByRecursion}
use Rattle.std.specs.Str.{all_ascii_digits}
use Rattle.lic_text.specs.Number.{number_of, value_after}
use Rattle.lic_text.specs.Physical.{is_continued, is_empty}
use Rattle.lic_types.proofs.Stored.{each_good}
use Rattle.lic_types.specs.Name.{is_name_byte, name_of, unless_bad}
use Rattle.lic_types.specs.declared.client.Who.{Who}
use Rattle.lic_types.specs.declared.client.WhoKind.{WhoKind}
use Rattle.lic_types.specs.declared.name.NameFault.{NameFault}
use Rattle.lic_types.specs.declared.name.NameFault.TheVariants.{Empty, TooLong}
use Rattle.options_text.specs.Answers.{◌>>=◌}
use Rattle.options_text.specs.Forms.{feature_of, name_at, names_of, number_below, unless_none, where_below, where_name, who_of}
use Rattle.options_text.specs.Keywords.{kind_of}
use Rattle.options_text.specs.Texts.{kind_name}
use Rattle.options_text.specs.declared.fault.OptionsFault.{OptionsFault}
use Rattle.options_text.specs.declared.fault.OptionsFault.TheVariants.{BadNumber, Selector, UnknownKind}
use Rattle.options_text.proofs.Closings.{ends_step, ends_other}
use Rattle.options_text.proofs.Spellings.{kind_back, kind_length}
use Rattle.options_text.proofs.Tokens.{IsToken}

-- no fault
abbrev pub all_right : {X : Type 0} → X → Result X OptionsFault
all_right x = Ok x

-- an Ok of two comes from an Ok of each
pub bind_ok : {A B C : Type 0} (r : Result A OptionsFault) (f : A → Result B OptionsFault) (b : B) → (r >>= f) ≡ Ok b → ((a : A) → r ≡ Ok a → f a ≡ Ok b → C) → C
bind_ok (Ok a) f b h k = k a refl h
bind_ok (Err fault) f b h k = absurd cc

pub some_ok : {X : Type 0} (fault : OptionsFault) (o : Option X) (x : X) → unless_none fault o ≡ Ok x → o ≡ Some x
some_ok fault None x h = cc
some_ok fault (Some y) x h = let same : y ≡ x = cc in ap Some same

ok_below : {X : Type 0} (b : Bool) (fault : OptionsFault) (r : Result X OptionsFault) (x : X) → cond b (Err fault) r ≡ Ok x → r ≡ Ok x
ok_below true fault r x h = absurd cc
ok_below false fault r x h = h

-- a word that is read as a name is the name
pub record IsNamed (word name : List ℕ) : Type 0 where
  pub same : name ≡ word
  pub token : IsToken name

some_byte : (word : List ℕ) → (length word == 0) ≡ false → is_empty word ≡ false
some_byte [] h = cc
some_byte (b ∷ bs) h = refl

named_by : (word name : List ℕ) (none long : Bool) (bad : Option ℕ) → (length word == 0) ≡ none → position_from (λ b. not (is_name_byte b)) 0 word ≡ bad
    → cond none (Err Empty) (cond long (Err TooLong) (unless_bad word bad)) ≡ Ok name → IsNamed word name
named_by word name true long bad n p h = absurd cc
named_by word name false true bad n p h = absurd cc
named_by word name false false None n p h =
    let same : name ≡ word = cc in
    let P : List ℕ → Type 0 = IsToken in
    record { same = same; token = subst P (sym same) (record { some = some_byte word n; each = each_good 0 word p }) }
named_by word name false false (Some at) n p h = absurd cc

name_ok : (word name : List ℕ) → name_of word ≡ Ok name → IsNamed word name
name_ok word name h = named_by word name (length word == 0) (ltb 64 (length word)) (position_from (λ b. not (is_name_byte b)) 0 word) refl refl h

where_name_ok : (line : ℕ) (word : List ℕ) (r : Result (List ℕ) NameFault) (name : List ℕ) → name_of word ≡ r → where_name line r ≡ Ok name → IsNamed word name
where_name_ok line word (Ok n) name e h = let same : n ≡ name = cc in name_ok word name (e ∙ ap Ok same)
where_name_ok line word (Err fault) name e h = absurd cc

pub name_at_ok : (line : ℕ) (word name : List ℕ) → name_at line word ≡ Ok name → IsNamed word name
name_at_ok line word name h = where_name_ok line word (name_of word) name refl h

pub feature_ok : (line : ℕ) (word name : List ℕ) → feature_of line word ≡ Ok name → IsNamed word name
feature_ok line word name h = name_at_ok line word name (ok_below (list_any (λ b. b == 58) word) (Selector line) (name_at line word) name h)

pub record AreNamed (words names : List (List ℕ)) : Type 0 where
  pub same : names ≡ words
  pub tokens : AllByRecursion IsToken names

all_named : (word name : List ℕ) (words names all : List (List ℕ)) → IsNamed word name → AreNamed words names → all_right (name ∷ names) ≡ Ok all → AreNamed (word ∷ words) all
all_named word name words names all n ns h =
    let whole : name ∷ names ≡ all = cc in
    let P : List (List ℕ) → Type 0 = AreNamed (word ∷ words) in
    subst P whole (record {
      same = ap (λ (first : List ℕ). first ∷ names) n.same ∙ ap (λ (others : List (List ℕ)). word ∷ others) ns.same;
      tokens = (n.token, ns.tokens);
    })

pub names_ok : (line : ℕ) (words names : List (List ℕ)) → names_of line words ≡ Ok names → AreNamed words names
names_ok line [] names h = let none : names ≡ [] = cc in let P : List (List ℕ) → Type 0 = AreNamed [] in subst P (sym none) (record { same = refl; tokens = tt })
names_ok line (word ∷ words) names h =
    bind_ok (name_at line word) _ names h (λ name first rest.
    bind_ok (names_of line words) _ names rest (λ others second whole.
    all_named word name words others names (name_at_ok line word name first) (names_ok line words others second) whole))

-- whom two words speak of, and what is written of that
pub record IsSpokenOf (line : ℕ) (kind name : List ℕ) (who : Who) : Type 0 where
  pub shorter : length (kind_name who.kind) ≤ length kind
  pub named : IsNamed name who.name
  pub back : who_of line (kind_name who.kind) who.name ≡ Ok who

who_is : (line : ℕ) (kind name : List ℕ) (k : WhoKind) (n : List ℕ) (who : Who) → kind_of kind ≡ Some k → name_at line name ≡ Ok n → all_right (record { kind = k; name = n }) ≡ Ok who → IsSpokenOf line kind name who
who_is line kind name k n who ke ne h =
    let the : Who = record { kind = k; name = n } in
    let whole : the ≡ who = cc in
    let named : IsNamed name n = name_at_ok line name n ne in
    let again : name_at line n ≡ Ok n = ap (name_at line) named.same ∙ ne in
    let known : kind_of (kind_name k) ≡ Some k = kind_back k in
    let P : Who → Type 0 = IsSpokenOf line kind name in
    subst P whole (record {
      shorter = kind_length kind k ke;
      named = named;
      back = rw (known, again) refl;
    })

pub who_ok : (line : ℕ) (kind name : List ℕ) (who : Who) → who_of line kind name ≡ Ok who → IsSpokenOf line kind name who
who_ok line kind name who h =
    bind_ok (unless_none (UnknownKind line) (kind_of kind)) _ who h (λ k first rest.
    bind_ok (name_at line name) _ who rest (λ n second whole.
    who_is line kind name k n who (some_ok (UnknownKind line) (kind_of kind) k first) second whole))

-- Numbers.

own : IsNumeralModel (λ ds. all_ascii_digits ds ≡ true) (value_after 0)
own = numerals_by_fold _ (search rules) value_after (search rules)

digit_byte : (c : ℕ) → is_ascii_digit c ≡ true → is_name_byte c ≡ true
digit_byte c h =
    let parts : (nat_le 48 c ≡ true) × (nat_le c 57 ≡ true) = and_parts (nat_le 48 c) (nat_le c 57) h in
    and_from _ _ (le-leb 33 c (omega (arith, leb-true 48 c parts.0))) (le-leb c 126 (omega (arith, leb-true c 57 parts.1)))

digit_bytes : (ds : List ℕ) → all_ascii_digits ds ≡ true → list_all is_name_byte ds ≡ true
digit_bytes [] h = refl
digit_bytes (c ∷ cs) h =
    let parts : (is_ascii_digit c ≡ true) × (all_ascii_digits cs ≡ true) = and_parts _ _ h in
    and_from _ _ (digit_byte c parts.0) (digit_bytes cs parts.1)

digits_end : (ds : List ℕ) → all_ascii_digits ds ≡ true → is_continued ds ≡ false
digits_end [] h = refl
digits_end (c ∷ []) h =
    let digit : is_ascii_digit c ≡ true = (and_parts (is_ascii_digit c) true h).0 in
    let parts : (nat_le 48 c ≡ true) × (nat_le c 57 ≡ true) = and_parts (nat_le 48 c) (nat_le c 57) digit in
    ends_other 92 c (λ e. omega (arith, leb-true c 57 parts.1))
digits_end (c ∷ d ∷ ds) h = ends_step 92 c d ds ∙ digits_end (d ∷ ds) (and_parts (is_ascii_digit c) _ h).1

some_digit : (ds : List ℕ) → 0 < length ds → is_empty ds ≡ false
some_digit [] h = absurd (omega arith)
some_digit (d ∷ ds) h = refl

-- a number is read back from its decimals
decimal_back : (n : ℕ) → n < 2 ^ 64 → number_of (decimal n) ≡ Some n
decimal_back n small =
    let some : ltb 0 (length (decimal n)) ≡ true = lt-ltb _ _ (decimal_nonempty n small) in
    let digits : all_ascii_digits (decimal n) ≡ true = digits_decimal own n small in
    let value : value_after 0 (decimal n) ≡ n = digits_value-decimal own n small in
    let fits : ltb n (2 ^ 64) ≡ true = lt-ltb _ _ small in
    rw (some, digits, value, fits) refl

-- the decimals of a number are no longer than any digits that write it
shorter_by : (word : List ℕ) (n : ℕ) (digits small : Bool) → (ltb 0 (length word) && all_ascii_digits word) ≡ digits → cond digits (cond small (Some (value_after 0 word)) None) None ≡ Some n → n < 2 ^ 64 → length (decimal n) ≤ length word
shorter_by word n true true d h small =
    let is : value_after 0 word ≡ n = cc in
    let parts : (ltb 0 (length word) ≡ true) × (all_ascii_digits word ≡ true) = and_parts _ _ d in
    let below : value_after 0 word < 10 ^ length word = digits_value_short own word (length word) parts.1 (omega arith) in
    let value : n < 10 ^ length word = subst (λ v. v < 10 ^ length word) is below in
    length-decimal-le (length word) n (ltb-true 0 (length word) parts.0) value small
shorter_by word n true false d h small = absurd cc
shorter_by word n false fits d h small = absurd cc

-- a word that is read as a number, and what is written of that
pub record IsNumbered (line limit : ℕ) (word : List ℕ) (n : ℕ) : Type 0 where
  pub shorter : length (decimal n) ≤ length word
  pub token : IsToken (decimal n)
  pub ends : is_continued (decimal n) ≡ false
  pub back : number_below line limit (decimal n) ≡ Ok n

numbered : (line limit : ℕ) (word : List ℕ) (n : ℕ) → limit ≤ 2 ^ 64 → number_of word ≡ Some n → n < limit → IsNumbered line limit word n
numbered line limit word n most is low =
    let small : n < 2 ^ 64 = omega arith in
    let digits : all_ascii_digits (decimal n) ≡ true = digits_decimal own n small in
    let again : number_of (decimal n) ≡ Some n = decimal_back n small in
    let fits : ltb n limit ≡ true = lt-ltb _ _ low in
    record {
      shorter = shorter_by word n (ltb 0 (length word) && all_ascii_digits word) (ltb (value_after 0 word) (2 ^ 64)) refl is small;
      token = record { some = some_digit (decimal n) (decimal_nonempty n small); each = digit_bytes (decimal n) digits };
      ends = digits_end (decimal n) digits;
      back = ap (where_below line limit) again ∙ ap (λ b. cond b (Ok n) (Err (BadNumber line))) fits;
    }

below_ok : (line limit : ℕ) (v n : ℕ) (b : Bool) → ltb v limit ≡ b → cond b (Ok v) (Err (BadNumber line)) ≡ Ok n → (v ≡ n) × (n < limit)
below_ok line limit v n true e h = let same : v ≡ n = cc in (same, omega (arith, ltb-true v limit e))
below_ok line limit v n false e h = absurd cc

where_ok : (line limit : ℕ) (word : List ℕ) (o : Option ℕ) (n : ℕ) → limit ≤ 2 ^ 64 → number_of word ≡ o → where_below line limit o ≡ Ok n → IsNumbered line limit word n
where_ok line limit word None n most e h = absurd cc
where_ok line limit word (Some v) n most e h =
    let fine : (v ≡ n) × (n < limit) = below_ok line limit v n (ltb v limit) refl h in
    numbered line limit word n most (e ∙ ap Some fine.0) fine.1

pub number_ok : (line limit : ℕ) (word : List ℕ) (n : ℕ) → limit ≤ 2 ^ 64 → number_below line limit word ≡ Ok n → IsNumbered line limit word n
number_ok line limit word n most h = where_ok line limit word (number_of word) n most refl h
