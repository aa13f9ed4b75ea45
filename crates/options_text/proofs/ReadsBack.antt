use Rattle.std.proofs.Common.{◌≡◌, ℕ, ◌+◌, Bool, true, false, cond, leb, ltb, List, [], ◌∷◌, ◌++◌, length, map, sum_by, Option, None, Some, Result, Ok, Err, IfOk, refl, sym, ap, subst, ◌∙◌, append_assoc, arith}
use Rattle.std.specs.List.{filter_map, AllByRecursion}
use Rattle.lic_text.proofs.Rising.{numbers_rise}
use Rattle.lic_text.specs.Lines.{Worded, lines_of}
use Rattle.lic_text.specs.Physical.{is_comment, is_continued}
use Rattle.lic_text.specs.declared.fault.TextFault.{TextFault}
use Rattle.lic_types.specs.Groups.{GroupLine}
use Rattle.lic_types.specs.declared.client.RuleLine.{RuleLine}
use Rattle.lic_types.specs.declared.note.Note.{Note}
use Rattle.options_text.specs.Answers.{◌>>=◌}
use Rattle.options_text.specs.Canonical.{canonical, entries_of, entry_text, in_line_order, passes, text_from}
use Rattle.options_text.specs.Entries.{entries_after, entry_after, entry_behind, line_of, members_in, unless_crowded}
use Rattle.options_text.specs.Forms.{entry_of}
use Rattle.options_text.specs.Laws.{CanonicalReadsBack, CanonicalStays}
use Rattle.options_text.specs.Options.{IsSaid, OptionsFile, first_undefined, group_in, log_in, note_in, options_among, options_of, rule_in, unless_undefined, with_groups_defined}
use Rattle.options_text.specs.Rises.{Rises}
use Rattle.options_text.specs.Texts.{further, spaced_text}
use Rattle.options_text.specs.declared.entry.Entry.{Entry}
use Rattle.options_text.specs.declared.entry.Entry.TheVariants.{Lists, Rules, Passes}
use Rattle.options_text.specs.declared.fault.OptionsFault.{OptionsFault}
use Rattle.options_text.specs.declared.fault.OptionsFault.TheVariants.{TooMany}
use Rattle.options_text.specs.declared.keyword.LogKeyword.{LogKeyword}
use Rattle.options_text.proofs.Closings.{closed_ends}
use Rattle.options_text.proofs.Forms.{SaysAgain, name_in, says_again, text_is, words_in}
use Rattle.options_text.proofs.Merges.{AtLeast, beyond_both, beyond_groups, beyond_rules, first_of, least_both, least_groups, least_notes, least_rules}
use Rattle.options_text.proofs.Numbers.{IsOf, entries_rise, entry_line}
use Rattle.options_text.proofs.Orders.{groups_rise, notes_rise, rules_rise}
use Rattle.options_text.proofs.Spellings.{IsOpening}
use Rattle.options_text.proofs.Tokens.{closed_free, words_closed}
use Rattle.options_text.proofs.Widths.{AreRead, IsRead, lines_read, short}
use Rattle.options_text.proofs.Words.{all_right, bind_ok}
use Rattle.options_text.proofs.Written.{AreTexts, IsLineText, lines_written}

-- Sorted entries stand in the order of their lines again.

abbrev groups_in : List Entry → List GroupLine
groups_in entries = filter_map group_in entries

abbrev rules_in : List Entry → List RuleLine
rules_in entries = filter_map rule_in entries

abbrev notes_in : List Entry → List Note
notes_in entries = filter_map note_in entries

abbrev logs_in : List Entry → List LogKeyword
logs_in entries = filter_map log_in entries

least_entries : (n : ℕ) (entries : List Entry) → Rises n (map line_of entries) → AtLeast n (map Lists (groups_in entries) ++ (map Rules (rules_in entries) ++ passes (notes_in entries) (logs_in entries)))
least_entries n entries r =
    least_both n (map Lists (groups_in entries)) (map Rules (rules_in entries) ++ passes (notes_in entries) (logs_in entries)) (least_groups n n (groups_in entries) (omega arith) (groups_rise n entries r))
    (least_both n (map Rules (rules_in entries)) (passes (notes_in entries) (logs_in entries)) (least_rules n n (rules_in entries) (omega arith) (rules_rise n entries r))
    (least_notes n n (notes_in entries) (logs_in entries) (omega arith) (notes_rise n entries r)))

rule_first : (l : RuleLine) (entries : List Entry) → Rises l.line (map line_of entries)
    → in_line_order (map Lists (groups_in entries) ++ Rules l ∷ (map Rules (rules_in entries) ++ passes (notes_in entries) (logs_in entries))) ≡ Rules l ∷ in_line_order (entries_of (options_among entries))
rule_first l entries r =
    first_of (map Lists (groups_in entries)) (Rules l) (map Rules (rules_in entries) ++ passes (notes_in entries) (logs_in entries))
    (beyond_groups l.line l.line (groups_in entries) (omega arith) (groups_rise l.line entries r))
    (least_both l.line (map Rules (rules_in entries)) (passes (notes_in entries) (logs_in entries)) (least_rules l.line l.line (rules_in entries) (omega arith) (rules_rise l.line entries r))
    (least_notes l.line l.line (notes_in entries) (logs_in entries) (omega arith) (notes_rise l.line entries r)))

note_first : (x : Note) (log : LogKeyword) (entries : List Entry) → Rises x.line (map line_of entries)
    → in_line_order (map Lists (groups_in entries) ++ (map Rules (rules_in entries) ++ Passes x log ∷ passes (notes_in entries) (logs_in entries))) ≡ Passes x log ∷ in_line_order (entries_of (options_among entries))
note_first x log entries r =
    let front : List Entry = map Lists (groups_in entries) in
    let middle : List Entry = map Rules (rules_in entries) in
    let end : List Entry = passes (notes_in entries) (logs_in entries) in
    ap in_line_order (sym (append_assoc front middle (Passes x log ∷ end)))
    ∙ (first_of (front ++ middle) (Passes x log) end
    (beyond_both x.line front middle (beyond_groups x.line x.line (groups_in entries) (omega arith) (groups_rise x.line entries r)) (beyond_rules x.line x.line (rules_in entries) (omega arith) (rules_rise x.line entries r)))
    (least_notes x.line x.line (notes_in entries) (logs_in entries) (omega arith) (notes_rise x.line entries r))
    ∙ ap (λ (all : List Entry). Passes x log ∷ in_line_order all) (append_assoc front middle end))

in_order : (n : ℕ) (entries : List Entry) → Rises n (map line_of entries) → in_line_order (entries_of (options_among entries)) ≡ entries
in_order n [] r = refl
in_order n (Lists g ∷ entries) r =
    first_of [] (Lists g) (map Lists (groups_in entries) ++ (map Rules (rules_in entries) ++ passes (notes_in entries) (logs_in entries))) tt (least_entries g.line entries r.1)
    ∙ ap (λ (others : List Entry). Lists g ∷ others) (in_order g.line entries r.1)
in_order n (Rules l ∷ entries) r = rule_first l entries r.1 ∙ ap (λ (others : List Entry). Rules l ∷ others) (in_order l.line entries r.1)
in_order n (Passes x log ∷ entries) r = note_first x log entries r.1 ∙ ap (λ (others : List Entry). Passes x log ∷ others) (in_order x.line entries r.1)

-- What one line says is said by the line that is written of it.

-- the words that are written of an entry
abbrev written : Entry → List (List ℕ)
written entry = name_in entry ∷ words_in entry

-- the line that is written of an entry
abbrev told : Entry → Result Worded TextFault
told entry = Ok (line_of entry, written entry)

silent_if : (name others : List ℕ) (b : Bool) → IsOpening name → is_comment (cond b ((name ++ others) ++ 32 ∷ []) (name ++ others)) ≡ false
silent_if name others true o = ap is_comment (append_assoc name others (32 ∷ [])) ∙ o.silent (others ++ 32 ∷ [])
silent_if name others false o = o.silent others

line_text_of : (line : Worded) (entry : Entry) → IsRead line → SaysAgain line.0 line.1 entry → IsLineText (entry_text entry) (written entry)
line_text_of line entry read s =
    let P : List ℕ → Type 0 = λ text. IsLineText text (written entry) in
    subst P (sym (text_is entry)) (record {
      free = closed_free (name_in entry) (words_in entry) s.opens.token s.tokens;
      silent = silent_if (name_in entry) (further (words_in entry)) (is_continued (spaced_text (name_in entry) (words_in entry))) s.opens;
      ends = closed_ends (spaced_text (name_in entry) (words_in entry));
      short = short line (name_in entry) (words_in entry) read s.within;
      says = words_closed (name_in entry) (words_in entry) s.opens.token s.tokens;
      some = refl;
    })

-- an entry behind others, and its line written again
record IsToldAgain (before : List Entry) (entry : Entry) : Type 0 where
  again : entry_after before (told entry) ≡ Ok entry
  text : IsLineText (entry_text entry) (written entry)

uncrowded : (b : Bool) (fault : OptionsFault) (a e : Entry) → cond b (Err fault) (Ok a) ≡ Ok e → a ≡ e
uncrowded true fault a e h = absurd cc
uncrowded false fault a e h = cc

few : (b : Bool) (fault : OptionsFault) (r : Result Entry OptionsFault) (a : Entry) → cond b (Err fault) r ≡ Ok a → r ≡ Ok a
few true fault r a h = absurd cc
few false fault r a h = h

line_is : (line : ℕ) (words : List (List ℕ)) (entry : Entry) → entry_of line words ≡ Ok entry → line_of entry ≡ line
line_is line words entry e = let P : Result Entry OptionsFault → Type 0 = λ r. IfOk r (IsOf line) in subst P e (entry_line line words)

told_by : (before : List Entry) (line : Worded) (e : Entry) → IsRead line → entry_after before (Ok line) ≡ Ok e → entry_of line.0 line.1 ≡ Ok e → IsToldAgain before e
told_by before line e read h is =
    let s : SaysAgain line.0 line.1 e = says_again line.0 line.1 e is in
    let same : entry_of line.0 (written e) ≡ entry_of line.0 line.1 = s.back ∙ sym is in
    record {
      again =
          ap (λ (n : ℕ). entry_after before (Ok (n, written e))) (line_is line.0 line.1 e is)
          ∙ (ap (λ r. cond (leb 4096 (length before)) (Err (TooMany line.0)) r >>= unless_crowded (sum_by members_in before)) same ∙ h);
      text = line_text_of line e read s;
    }

told_again : (before : List Entry) (line : Result Worded TextFault) (e : Entry) → AreRead line → entry_after before line ≡ Ok e → IsToldAgain before e
told_again before (Err fault) e read h = absurd cc
told_again before (Ok line) e read h =
    bind_ok (entry_behind (length before) (Ok line)) _ e h (λ a first rest.
    let same : a ≡ e = uncrowded (ltb 65536 (sum_by members_in before + members_in a)) (TooMany (line_of a)) a e rest in
    told_by before line e read h (few (leb 4096 (length before)) (TooMany line.0) (entry_of line.0 line.1) a first ∙ ap Ok same))

-- The same of all lines.

record AreToldAgain (before entries : List Entry) : Type 0 where
  again : entries_after before (map told entries) ≡ Ok entries
  texts : AreTexts written entries

one_more : (before : List Entry) (e : Entry) (others all : List Entry) → IsToldAgain before e → AreToldAgain (before ++ e ∷ []) others → all_right (e ∷ others) ≡ Ok all → AreToldAgain before all
one_more before e others all first rest is =
    let whole : e ∷ others ≡ all = cc in
    let P : List Entry → Type 0 = AreToldAgain before in
    subst P whole (record {
      again = rw (first.again, rest.again) refl;
      texts = (first.text, rest.texts);
    })

lines_again : (before : List Entry) (lines : List (Result Worded TextFault)) (entries : List Entry) → AllByRecursion AreRead lines → entries_after before lines ≡ Ok entries → AreToldAgain before entries
lines_again before [] entries read h =
    let none : [] ≡ entries = cc in
    let P : List Entry → Type 0 = AreToldAgain before in subst P none (record { again = refl; texts = tt })
lines_again before (line ∷ others) entries read h =
    bind_ok (entry_after before line) _ entries h (λ e first rest.
    bind_ok (entries_after (before ++ e ∷ []) others) _ entries rest (λ more second whole.
    one_more before e more entries (told_again before line e read.0 first) (lines_again (before ++ e ∷ []) others more read.1 second) whole))

-- The whole file.

sorted_by : (options : OptionsFile) (found : Option RuleLine) (said : OptionsFile) → unless_undefined options found ≡ Ok said → options ≡ said
sorted_by options None said h = cc
sorted_by options (Some rule) said h = absurd cc

rises_of : (file : List ℕ) (entries : List Entry) → entries_after [] (lines_of file) ≡ Ok entries → Rises 0 (map line_of entries)
rises_of file entries is =
    let P : Result (List Entry) OptionsFault → Type 0 = λ r. IfOk r (λ (es : List Entry). Rises 0 (map line_of es)) in
    subst P is (entries_rise 0 [] (lines_of file) (numbers_rise file))

canonical_is : (entries : List Entry) → Rises 0 (map line_of entries) → canonical (options_among entries) ≡ text_from 1 entries
unfolding canonical
canonical_is entries r = ap (text_from 1) (in_order 0 entries r)

entries_back : (file : List ℕ) (entries : List Entry) → entries_after [] (lines_of file) ≡ Ok entries → entries_after [] (lines_of (canonical (options_among entries))) ≡ Ok entries
entries_back file entries is =
    let rises : Rises 0 (map line_of entries) = rises_of file entries is in
    let all : AreToldAgain [] entries = lines_again [] (lines_of file) entries (lines_read file) is in
    ap (λ (text : List ℕ). entries_after [] (lines_of text)) (canonical_is entries rises)
    ∙ (ap (entries_after []) (lines_written written 0 entries rises all.texts) ∙ all.again)

-- the canonical text of what a file says says the same
pub reads_back : CanonicalReadsBack
reads_back file options h =
    bind_ok (entries_after [] (lines_of file)) _ options h (λ entries first rest.
    let same : options_among entries ≡ options = sorted_by (options_among entries) (first_undefined (options_among entries)) options rest in
    ap (λ (said : OptionsFile). options_of (canonical said)) (sym same)
    ∙ (ap (λ r. r >>= λ es. with_groups_defined (options_among es)) (entries_back file entries first) ∙ rest))

-- the canonical text of what a canonical text says is that text
pub stays : CanonicalStays
stays file options again h g =
    let both : Ok again ≡ all_right options = sym g ∙ reads_back file options h in
    let same : again ≡ options = cc in
    ap canonical same

-- a text that is canonical for the options of a file says the same options
pub reads_from : {X E : Type 0} (r : Result X E) (items : X → List ℕ) (options : OptionsFile) → IsSaid options → IfOk r (λ x. items x ≡ canonical options) → IfOk r (λ x. options_of (items x) ≡ Ok options)
reads_from (Ok x) items options s is = ap options_of is ∙ reads_back s.file options s.says
reads_from (Err e) items options s is = tt
