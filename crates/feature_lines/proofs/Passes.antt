use Rattle.std.proofs.Common.{◌≡◌, ℕ, ◌+◌, ◌≤◌, Bool, true, false, ◌&&◌, ◌||◌, not, ltb, leb, eqb, cond, List, [], ◌∷◌, ◌++◌, length, map, Option, None, Some, Result, Ok, Err, refl, sym, ap, subst, ◌∙◌, append_assoc, append-nil, le-ltb, arith}
use Rattle.std.proofs.lemmas.Bool.Decides.{nat_tests}
use Rattle.std.proofs.lemmas.Bool.{ltb-false}
use Rattle.std.specs.List.{list_any}
use Rattle.std.specs.Option.{option_to_list}
use Rattle.std.proofs.lemmas.List.Folds.{list_any-append}
use Rattle.std.proofs.Math.Bool.{or-false}
use Rattle.lic_text.specs.Lines.{Worded}
use Rattle.lic_text.specs.Number.{number_of}
use Rattle.lic_text.specs.Reads.{IsFaultOf}
use Rattle.lic_text.specs.declared.fault.TextFault.{TextFault}
use Rattle.lic_text.proofs.Readings.{fault_too}
use Rattle.lic_types.specs.Groups.{same_name}
use Rattle.lic_types.specs.declared.note.Note.{Note}
use Rattle.lic_types.specs.declared.note.NoteKind.TheVariants.{SecondFeature, NodeLocked, NotServed}
use Rattle.feature_lines.specs.Licence.{Contents, Judged, count_fault, counted_lines, counted_in, fault_in, fault_told, first_some, has_line, is_feature_of, is_second, licence_in, line_key, note_in, notes_of, pools_of, some_or, total, unless_fault, with_before}
use Rattle.feature_lines.specs.Line.{within_limit, feature_of, line_with_terms, said_or_fault, keyword_of, or_fault, said_by, said_of, terms_of, with_word}
use Rattle.lic_types.specs.NameSets.{has_name, with_name}
use Rattle.feature_lines.specs.Steps.{Sofar, pools_with_line, added_to, blank, counted_or_locked, sofar_with_note, sofar_after_lines, pools_with_more, sofar_after_line, after_feature, with_pools}
use Rattle.feature_lines.specs.declared.fault.LicenceFault.{LicenceFault}
use Rattle.feature_lines.specs.declared.fault.LicenceFault.TheVariants.{BadCount, TooManyPools}
use Rattle.feature_lines.specs.declared.line.FeatureLine.{FeatureLine}
use Rattle.feature_lines.specs.declared.line.Keyword.{Keyword}
use Rattle.feature_lines.specs.declared.line.Keyword.TheVariants.{Feature as IsFeature, Increment, PassedOver, NotServed as IsNotServed}
use Rattle.feature_lines.specs.declared.line.Said.TheVariants.{Nothing, NotServed as Unserved, Feature}
use Rattle.feature_lines.specs.declared.line.Terms.{Terms}
use Rattle.feature_lines.specs.declared.pool.Pool.{Pool}
use Rattle.feature_lines.proofs.Keys.{same_name_is}
use Rattle.lic_types.proofs.NameSets.{has_with}
use Rattle.feature_lines.proofs.Sums.{no_total, none_of_key, one_of_key, pools_more, pools_new, told_push}

-- The one pass comes to what the definition of a licence says.

-- the count of a line is at most 65,535
abbrev pub IsSmall : Judged → Type 0
IsSmall (Ok (Feature f)) = f.count ≤ 65535
IsSmall (Ok Nothing) = Unit {0}
IsSmall (Ok (Unserved line)) = Unit {0}
IsSmall (Err fault) = Unit {0}

abbrev pub AreSmall : List Judged → Type 0
AreSmall [] = Unit {0}
AreSmall (line ∷ lines) = IsSmall line × AreSmall lines

-- what is read so far is what the lines before say
pub record IsKept (before : List Judged) (s : Sofar) : Type 0 where
  pub pools : s.pools ≡ pools_of (counted_lines before)
  pub notes : s.notes ≡ notes_of before
  pub features : (name : List ℕ) → has_name name s.features ≡ list_any (is_feature_of name) before

-- a step says what the definition says of its line
abbrev Says : List Judged → Judged → Result Sofar LicenceFault → Type 0
Says before line (Ok s) = (fault_in before line ≡ None) × IsKept (before ++ line ∷ []) s
Says before line (Err fault) = fault_in before line ≡ Some fault

counted_push : (before : List Judged) (line : Judged) → counted_lines (before ++ line ∷ []) ≡ counted_lines before ++ option_to_list (counted_in before line)
counted_push before line = told_push counted_in before line

notes_push : (before : List Judged) (line : Judged) → notes_of (before ++ line ∷ []) ≡ notes_of before ++ option_to_list (note_in before line)
notes_push before line = told_push note_in before line

-- no count more
same_counted : (before : List Judged) (line : Judged) → counted_in before line ≡ None → counted_lines (before ++ line ∷ []) ≡ counted_lines before
same_counted before line none = counted_push before line ∙ (ap (λ (o : Option FeatureLine). counted_lines before ++ option_to_list o) none ∙ append-nil (counted_lines before))

one_counted : (before : List Judged) (line : Judged) (f : FeatureLine) → counted_in before line ≡ Some f → counted_lines (before ++ line ∷ []) ≡ counted_lines before ++ f ∷ []
one_counted before line f some = counted_push before line ∙ ap (λ (o : Option FeatureLine). counted_lines before ++ option_to_list o) some

same_notes : (before : List Judged) (line : Judged) → note_in before line ≡ None → notes_of (before ++ line ∷ []) ≡ notes_of before
same_notes before line none = notes_push before line ∙ (ap (λ (o : Option Note). notes_of before ++ option_to_list o) none ∙ append-nil (notes_of before))

one_note : (before : List Judged) (line : Judged) (n : Note) → note_in before line ≡ Some n → notes_of (before ++ line ∷ []) ≡ notes_of before ++ n ∷ []
one_note before line n some = notes_push before line ∙ ap (λ (o : Option Note). notes_of before ++ option_to_list o) some

-- ---- a count

full_or_not : (n : ℕ) (ps qs : List Pool) (fault : LicenceFault) (b : Bool) → ltb n 64 ≡ b → ps ≡ qs → cond b (Ok ps) (Err fault) ≡ unless_fault (cond (leb 64 n) (Some fault) None) qs
full_or_not n ps qs fault true is same = let few : leb 64 n ≡ false = grind (arith, nat_tests) in rw few (ap Ok same)
full_or_not n ps qs fault false is same = let full : leb 64 n ≡ true = grind (arith, nat_tests) in rw full refl

over_or_not : (b : Bool) (ps qs : List Pool) (fault : LicenceFault) → ps ≡ qs → cond b (Err fault) (Ok ps) ≡ unless_fault (cond b (Some fault) None) qs
over_or_not true ps qs fault same = refl
over_or_not false ps qs fault same = ap Ok same

abbrev fault_when : Bool → Bool → ℕ → FeatureLine → Option LicenceFault
fault_when over has n f = cond over (Some (BadCount f.line)) (cond (not has && leb 64 n) (Some (TooManyPools f.line)) None)

added_when : (lines : List FeatureLine) (f : FeatureLine) (has : Bool) → has_line lines (line_key f) ≡ has → f.count ≤ 65535 → pools_with_line f (pools_of lines) ≡ unless_fault (count_fault lines f) (pools_of (lines ++ f ∷ []))
added_when lines f false none small =
    let pools = pools_of lines in
    let sum : total lines (line_key f) ≡ 0 = no_total lines (line_key f) none in
    let under : ltb 65535 (total lines (line_key f) + f.count) ≡ false = le-ltb 65535 (total lines (line_key f) + f.count) (omega arith) in
    ap (added_to f pools) (none_of_key lines (line_key f) none)
    ∙ (full_or_not (length pools) _ _ (TooManyPools f.line) _ refl (sym (pools_new lines f none))
    ∙ (ap (λ (h : Bool). unless_fault (fault_when false h (length pools) f) (pools_of (lines ++ f ∷ []))) (sym none)
    ∙ ap (λ (o : Bool). unless_fault (fault_when o (has_line lines (line_key f)) (length pools) f) (pools_of (lines ++ f ∷ []))) (sym under)))
added_when lines f true some small =
    let pools = pools_of lines in
    let one = one_of_key lines (line_key f) some in
    ap (added_to f pools) one.1
    ∙ (ap (λ (n : ℕ). cond (ltb 65535 (n + f.count)) (Err (BadCount f.line)) (Ok (pools_with_more (line_key f) f.count pools))) one.2
    ∙ (over_or_not (ltb 65535 (total lines (line_key f) + f.count)) _ _ (BadCount f.line) (sym (pools_more lines f some))
    ∙ ap (λ (h : Bool). unless_fault (fault_when (ltb 65535 (total lines (line_key f) + f.count)) h (length pools) f) (pools_of (lines ++ f ∷ []))) (sym some)))

-- ---- a FEATURE or INCREMENT line

fault_by : (before : List Judged) (f : FeatureLine) (second zero_count : Bool) → is_second before f ≡ second → (eqb f.count 0) ≡ zero_count → fault_in before (Ok (Feature f)) ≡ cond (not second && not zero_count) (count_fault (counted_lines before) f) None
fault_by before f second zero_count p q =
    ap (λ (b : Bool). cond (not b && not (eqb f.count 0)) (count_fault (counted_lines before) f) None) p
    ∙ ap (λ (b : Bool). cond (not second && not b) (count_fault (counted_lines before) f) None) q

counted_by : (before : List Judged) (f : FeatureLine) (second zero_count : Bool) → is_second before f ≡ second → (eqb f.count 0) ≡ zero_count → counted_in before (Ok (Feature f)) ≡ cond (not second && not zero_count) (Some f) None
counted_by before f second zero_count p q =
    ap (λ (b : Bool). cond (not b && not (eqb f.count 0)) (Some f) None) p ∙ ap (λ (b : Bool). cond (not second && not b) (Some f) None) q

abbrev note_when : Bool → Bool → FeatureLine → Option Note
note_when second zero_count f = cond second (Some (record { line = f.line; kind = SecondFeature })) (cond zero_count (Some (record { line = f.line; kind = NodeLocked })) None)

note_by : (before : List Judged) (f : FeatureLine) (second zero_count : Bool) → is_second before f ≡ second → (eqb f.count 0) ≡ zero_count → note_in before (Ok (Feature f)) ≡ note_when second zero_count f
note_by before f second zero_count p q = ap (λ (b : Bool). note_when b (eqb f.count 0) f) p ∙ ap (λ (b : Bool). note_when second b f) q

-- what is read of the names, once the line is taken
abbrev KnowsNames : List Judged → Sofar → Type 0
KnowsNames lines s = (name : List ℕ) → has_name name s.features ≡ list_any (is_feature_of name) lines

summed : (before : List Judged) (s : Sofar) (f : FeatureLine) (o : Option LicenceFault) → count_fault (counted_lines before) f ≡ o → is_second before f ≡ false → (eqb f.count 0) ≡ false
    → s.notes ≡ notes_of before → KnowsNames (before ++ Ok (Feature f) ∷ []) s → Says before (Ok (Feature f)) (with_pools s (unless_fault o (pools_of (counted_lines before ++ f ∷ []))))
summed before s f None is first some notes names = (
  fault_by before f false false first some ∙ is,
  record {
    pools = ap pools_of (sym (one_counted before (Ok (Feature f)) f (counted_by before f false false first some)));
    notes = notes ∙ sym (same_notes before (Ok (Feature f)) (note_by before f false false first some));
    features = names;
  },
)
summed before s f (Some fault) is first some notes names = fault_by before f false false first some ∙ is

first_when : (before : List Judged) (s : Sofar) (f : FeatureLine) (zero_count : Bool) → (eqb f.count 0) ≡ zero_count → is_second before f ≡ false → f.count ≤ 65535
    → s.pools ≡ pools_of (counted_lines before) → s.notes ≡ notes_of before → KnowsNames (before ++ Ok (Feature f) ∷ []) s
    → Says before (Ok (Feature f)) (cond zero_count (Ok (sofar_with_note f.line NodeLocked s)) (with_pools s (pools_with_line f s.pools)))
first_when before s f true is first small pools notes names = (
  fault_by before f false true first is,
  record {
    pools = pools ∙ ap pools_of (sym (same_counted before (Ok (Feature f)) (counted_by before f false true first is)));
    notes = ap (λ (ns : List Note). ns ++ (record { line = f.line; kind = NodeLocked }) ∷ []) notes ∙ sym (one_note before (Ok (Feature f)) _ (note_by before f false true first is));
    features = names;
  },
)
first_when before s f false is first small pools notes names =
    let sum : pools_with_line f s.pools ≡ unless_fault (count_fault (counted_lines before) f) (pools_of (counted_lines before ++ f ∷ [])) = ap (pools_with_line f) pools ∙ added_when (counted_lines before) f _ refl small in
    subst (λ (r : Result (List Pool) LicenceFault). Says before (Ok (Feature f)) (with_pools s r)) (sym sum) (summed before s f _ refl first is notes names)

names_push : (before : List Judged) (f : FeatureLine) (name : List ℕ) (b : Bool) → f.is_feature ≡ b → list_any (is_feature_of name) (before ++ Ok (Feature f) ∷ []) ≡ (list_any (is_feature_of name) before || ((b && same_name name f.name) || false))
names_push before f name b is =
    list_any-append (is_feature_of name) before (Ok (Feature f) ∷ [])
    ∙ ap (λ (c : Bool). list_any (is_feature_of name) before || ((c && same_name name f.name) || false)) is

known_already : (before : List Judged) (f : FeatureLine) (name : List ℕ) (b : Bool) → same_name name f.name ≡ b → list_any (is_feature_of f.name) before ≡ true → list_any (is_feature_of name) before ≡ (list_any (is_feature_of name) before || (b || false))
known_already before f name true is known =
    let same : name ≡ f.name = same_name_is name f.name is in
    let has : list_any (is_feature_of name) before ≡ true = ap (λ (n : List ℕ). list_any (is_feature_of n) before) same ∙ known in
    has ∙ sym (ap (λ (c : Bool). c || true) has)
known_already before f name false is known = sym (or-false _)

feature_when : (before : List Judged) (s : Sofar) (f : FeatureLine) (is_feature has : Bool) → f.is_feature ≡ is_feature → list_any (is_feature_of f.name) before ≡ has → IsKept before s → f.count ≤ 65535
    → Says before (Ok (Feature f)) (cond is_feature (cond has (Ok (sofar_with_note f.line SecondFeature s)) (counted_or_locked (record s { features = with_name s.features f.name }) f)) (counted_or_locked s f))
feature_when before s f true true p q kept small =
    let second : is_second before f ≡ true = ap (λ (b : Bool). b && list_any (is_feature_of f.name) before) p ∙ q in (
      fault_by before f true _ second refl,
      record {
        pools = kept.pools ∙ ap pools_of (sym (same_counted before (Ok (Feature f)) (counted_by before f true _ second refl)));
        notes = ap (λ (ns : List Note). ns ++ (record { line = f.line; kind = SecondFeature }) ∷ []) kept.notes ∙ sym (one_note before (Ok (Feature f)) _ (note_by before f true _ second refl));
        features = λ name. kept.features name ∙ (known_already before f name _ refl q ∙ sym (names_push before f name true p));
      },
    )
feature_when before s f true false p q kept small =
    let first : is_second before f ≡ false = ap (λ (b : Bool). b && list_any (is_feature_of f.name) before) p ∙ q in
    first_when before (record s { features = with_name s.features f.name }) f _ refl first small kept.pools kept.notes
    (λ name. has_with name f.name s.features ∙ (ap (λ (b : Bool). b || (same_name name f.name || false)) (kept.features name) ∙ sym (names_push before f name true p)))
feature_when before s f false has p q kept small =
    let first : is_second before f ≡ false = ap (λ (b : Bool). b && list_any (is_feature_of f.name) before) p in
    first_when before s f _ refl first small kept.pools kept.notes
    (λ name. kept.features name ∙ (sym (or-false _) ∙ sym (names_push before f name false p)))

feature_says : (before : List Judged) (s : Sofar) (f : FeatureLine) → IsKept before s → f.count ≤ 65535 → Says before (Ok (Feature f)) (after_feature s f)
feature_says before s f kept small =
    subst (λ (b : Bool). Says before (Ok (Feature f)) (cond f.is_feature (cond b (Ok (sofar_with_note f.line SecondFeature s)) (counted_or_locked (record s { features = with_name s.features f.name }) f)) (counted_or_locked s f))) (sym (kept.features f.name))
    (feature_when before s f f.is_feature (list_any (is_feature_of f.name) before) refl refl kept small)

-- ---- any line

step_says : (before : List Judged) (s : Sofar) (line : Judged) → IsKept before s → IsSmall line → Says before line (sofar_after_line s line)
step_says before s (Ok (Feature f)) kept small = feature_says before s f kept small
step_says before s (Ok Nothing) kept small = (
  refl,
  record {
    pools = kept.pools ∙ ap pools_of (sym (same_counted before (Ok Nothing) refl));
    notes = kept.notes ∙ sym (same_notes before (Ok Nothing) refl);
    features = λ name. kept.features name ∙ (sym (or-false _) ∙ sym (list_any-append (is_feature_of name) before (Ok Nothing ∷ [])));
  },
)
step_says before s (Ok (Unserved line)) kept small = (
  refl,
  record {
    pools = kept.pools ∙ ap pools_of (sym (same_counted before (Ok (Unserved line)) refl));
    notes = ap (λ (ns : List Note). ns ++ (record { line = line; kind = NotServed }) ∷ []) kept.notes ∙ sym (one_note before (Ok (Unserved line)) _ refl);
    features = λ name. kept.features name ∙ (sym (or-false _) ∙ sym (list_any-append (is_feature_of name) before (Ok (Unserved line) ∷ [])));
  },
)
step_says before s (Err fault) kept small = refl

-- ---- all lines

abbrev pub ended : Result Sofar LicenceFault → Result Contents LicenceFault
ended (Ok s) = Ok (record { pools = s.pools; notes = s.notes })
ended (Err fault) = Err fault

abbrev contents_of : List Judged → Contents
contents_of lines = record { pools = pools_of (counted_lines lines); notes = notes_of lines }

abbrev first_behind : List Judged → List Judged → Option LicenceFault
first_behind before lines = first_some (λ (at : List Judged × Judged). fault_in at.0 at.1) (with_before before lines)

pub passed_fault : (lines : List Judged) (fault : LicenceFault) → sofar_after_lines (Err fault) lines ≡ Err fault
passed_fault [] fault = refl
passed_fault (line ∷ lines) fault = passed_fault lines fault

pass_on : (before : List Judged) (line : Judged) (lines : List Judged) (r : Result Sofar LicenceFault) → Says before line r
    → ((s : Sofar) → IsKept (before ++ line ∷ []) s → ended (sofar_after_lines (Ok s) lines) ≡ unless_fault (first_behind (before ++ line ∷ []) lines) (contents_of ((before ++ line ∷ []) ++ lines)))
    → ended (sofar_after_lines r lines) ≡ unless_fault (some_or (fault_in before line) (first_behind (before ++ line ∷ []) lines)) (contents_of (before ++ line ∷ lines))
pass_on before line lines (Ok s) says rest =
    rest s says.1
    ∙ (ap (λ (ls : List Judged). unless_fault (first_behind (before ++ line ∷ []) lines) (contents_of ls)) (append_assoc before (line ∷ []) lines)
    ∙ ap (λ (o : Option LicenceFault). unless_fault (some_or o (first_behind (before ++ line ∷ []) lines)) (contents_of (before ++ line ∷ lines))) (sym says.0))
pass_on before line lines (Err fault) says rest =
    ap ended (passed_fault lines fault)
    ∙ ap (λ (o : Option LicenceFault). unless_fault (some_or o (first_behind (before ++ line ∷ []) lines)) (contents_of (before ++ line ∷ lines))) (sym says)

passes : (lines before : List Judged) (s : Sofar) → IsKept before s → AreSmall lines → ended (sofar_after_lines (Ok s) lines) ≡ unless_fault (first_behind before lines) (contents_of (before ++ lines))
passes [] before s kept small =
    let same : before ≡ before ++ [] = sym (append-nil before) in
    ap Ok (λ i. record { pools = kept.pools i; notes = kept.notes i }) ∙ ap (λ (ls : List Judged). Ok (contents_of ls)) same
passes (line ∷ lines) before s kept small = pass_on before line lines (sofar_after_line s line) (step_says before s line kept small.0) (λ t known. passes lines (before ++ line ∷ []) t known small.1)

-- the pass over all lines comes to the licence that they say
pub pass_reads : (lines : List Judged) → AreSmall lines → ended (sofar_after_lines (Ok blank) lines) ≡ licence_in lines
pass_reads lines small = passes lines [] blank (record { pools = refl; notes = refl; features = λ name. refl }) small

-- a fault of the next line is the licence's
pub pass_refuses : (s : Sofar) (line : Judged) (lines all : List Judged) (fault : LicenceFault) → AreSmall all → sofar_after_lines (Ok s) (line ∷ lines) ≡ sofar_after_lines (Ok blank) all → IsFaultOf fault_told (sofar_after_line s line) fault → IsFaultOf fault_told (licence_in all) fault
pass_refuses s line lines all fault small same is =
    fault_too fault_told (sofar_after_line s line) (licence_in all) fault (λ f e. sym (pass_reads all small) ∙ ap ended (sym same ∙ (ap (λ (r : Result Sofar LicenceFault). sofar_after_lines r lines) e ∙ passed_fault lines f))) is

-- ---- counts are small

or_holds : {X Y : Type 0} (P : Result Y LicenceFault → Type 0) (bad : LicenceFault) (o : Option X) (reads : X → Result Y LicenceFault) → P (Err bad) → ((x : X) → o ≡ Some x → P (reads x)) → P (or_fault bad o reads)
or_holds P bad None reads q r = q
or_holds P bad (Some x) reads q r = r x refl

word_holds : {X Y : Type 0} (P : Result Y LicenceFault → Type 0) (missing bad : LicenceFault) (read : List ℕ → Option X) (words : List (List ℕ)) (reads : X → List (List ℕ) → Result Y LicenceFault)
    → P (Err missing) → P (Err bad) → ((x : X) (word : List ℕ) (others : List (List ℕ)) → read word ≡ Some x → P (reads x others)) → P (with_word missing bad read words reads)
word_holds P missing bad read [] reads p q r = p
word_holds P missing bad read (word ∷ words) reads p q r = or_holds P bad (read word) (λ x. reads x words) q (λ x is. r x word words is)

small_number : (b : Bool) (o : Option ℕ) (n : ℕ) → cond b (Some 0) (within_limit o) ≡ Some n → n ≤ 65535
small_number true o n is = let same : 0 ≡ n = cc in omega arith
small_number false None n is = absurd cc
small_number false (Some m) n is = elim (ltb 65535 m) as (λ (t : Bool). ltb 65535 m ≡ t → cond t None (Some m) ≡ Some n → n ≤ 65535) [ true ↦ λ e h. absurd cc | false ↦ λ e h. (let same : m ≡ n = cc in let low : m ≤ 65535 = ltb-false 65535 m e in omega arith) ] refl is

abbrev AreTermsSmall : Result Terms LicenceFault → Type 0
AreTermsSmall (Ok terms) = terms.count ≤ 65535
AreTermsSmall (Err fault) = Unit {0}

terms_small : (line : ℕ) (words : List (List ℕ)) → AreTermsSmall (terms_of line words)
terms_small line words =
    word_holds AreTermsSmall _ _ _ words _ tt tt (λ version word others is.
    word_holds AreTermsSmall _ _ _ others _ tt tt (λ expiry word2 others2 is2.
    word_holds AreTermsSmall _ _ _ others2 _ tt tt (λ count word3 others3 is3. small_number _ (number_of word3) count is3)))

granted_small : (line : ℕ) (is_feature : Bool) (name vendor : List ℕ) (r : Result Terms LicenceFault) → AreTermsSmall r → IsSmall (line_with_terms line is_feature name vendor r)
granted_small line is_feature name vendor (Ok terms) small = small
granted_small line is_feature name vendor (Err fault) small = tt

feature_small : (line : ℕ) (is_feature : Bool) (words : List (List ℕ)) → IsSmall (feature_of line is_feature words)
feature_small line is_feature words =
    word_holds IsSmall _ _ _ words _ tt tt (λ name word others is.
    word_holds IsSmall _ _ _ others _ tt tt (λ vendor word2 others2 is2. granted_small line is_feature name vendor (terms_of line others2) (terms_small line others2)))

said_small : (line : ℕ) (keyword : Option Keyword) (words : List (List ℕ)) → IsSmall (said_by line keyword words)
said_small line (Some IsFeature) words = feature_small line true words
said_small line (Some Increment) words = feature_small line false words
said_small line (Some PassedOver) words = tt
said_small line (Some IsNotServed) words = tt
said_small line None words = tt

words_small : (line : ℕ) (words : List (List ℕ)) → IsSmall (said_of line words)
words_small line [] = tt
words_small line (word ∷ words) = said_small line (keyword_of word) words

line_small : (line : Result Worded TextFault) → IsSmall (said_or_fault line)
line_small (Ok line) = words_small line.0 line.1
line_small (Err fault) = tt

-- the lines of a file have small counts
pub lines_small : (lines : List (Result Worded TextFault)) → AreSmall (map said_or_fault lines)
lines_small [] = tt
lines_small (line ∷ lines) = (line_small line, lines_small lines)
