use Rattle.std.proofs.Common.{◌≡◌, ℕ, ◌+◌, ◌<◌, ◌≤◌, Bool, true, false, ◌&&◌, cond, leb, List, [], ◌∷◌, ◌++◌, map, Option, None, Some, arith, refl, sym, ap, subst, ◌∙◌, append_assoc}
use Rattle.std.proofs.lemmas.Bool.{leb-true, leb-false, le-leb, lt-leb, false≢true, and_parts}
use Rattle.lic_types.specs.Groups.{GroupLine}
use Rattle.lic_types.specs.declared.client.RuleLine.{RuleLine}
use Rattle.lic_types.specs.declared.note.Note.{Note}
use Rattle.options_text.specs.Canonical.{entry_text, in_line_order, insert_entry, line_text, passes, text_from}
use Rattle.options_text.specs.Entries.{line_of}
use Rattle.options_text.specs.Merging.{IsRising, Writes, comes_before, entries_in_order, first_line, next_in}
use Rattle.options_text.specs.Options.{OptionsFile}
use Rattle.options_text.specs.Rises.{AreRising, Rises}
use Rattle.options_text.specs.Texts.{group_text, log_name, rule_text}
use Rattle.options_text.proofs.Rising.{rising_rest}
use Rattle.options_text.specs.declared.entry.Entry.{Entry}
use Rattle.options_text.specs.declared.entry.Entry.TheVariants.{Lists, Rules, Passes}
use Rattle.options_text.specs.declared.keyword.LogKeyword.{LogKeyword}
use Rattle.options_text.specs.declared.writing.Next.{Next}
use Rattle.options_text.specs.declared.writing.Next.TheVariants.{OfGroup, OfRule, OfNote, OfNone}

-- no entry is of an earlier line than this
abbrev pub AtLeast : ℕ → List Entry → Type 0
AtLeast n [] = Unit {0}
AtLeast n (e ∷ es) = (n ≤ line_of e) × AtLeast n es

-- each entry is of a later line than this
abbrev pub Beyond : ℕ → List Entry → Type 0
Beyond n [] = Unit {0}
Beyond n (e ∷ es) = (n < line_of e) × Beyond n es

insert_first : (e : Entry) (es : List Entry) → AtLeast (line_of e) es → insert_entry e es ≡ e ∷ es
insert_first e [] h = refl
insert_first e (x ∷ xs) h = ap (λ b. cond b (e ∷ x ∷ xs) (x ∷ insert_entry e xs)) (le-leb (line_of e) (line_of x) h.0)

insert_keeps : (n : ℕ) (e : Entry) (es : List Entry) → n ≤ line_of e → AtLeast n es → AtLeast n (insert_entry e es)
insert_keeps n e [] low h = (low, tt)
insert_keeps n e (x ∷ xs) low h =
    elim (leb (line_of e) (line_of x)) as (λ b. AtLeast n (cond b (e ∷ x ∷ xs) (x ∷ insert_entry e xs))) [
      | true ↦ (low, (h.0, h.1))
      | false ↦ (h.0, insert_keeps n e xs low h.1)
    ]

order_keeps : (n : ℕ) (es : List Entry) → AtLeast n es → AtLeast n (in_line_order es)
order_keeps n [] h = tt
order_keeps n (e ∷ es) h = insert_keeps n e (in_line_order es) h.0 (order_keeps n es h.1)

insert_behind : (x e : Entry) (es : List Entry) → line_of e < line_of x → insert_entry x (e ∷ es) ≡ e ∷ insert_entry x es
insert_behind x e es h = ap (λ b. cond b (x ∷ e ∷ es) (e ∷ insert_entry x es)) (lt-leb (line_of x) (line_of e) h)

-- an entry with later ones in front of it and no earlier ones behind it is the first in line order
pub first_of : (xs : List Entry) (e : Entry) (ys : List Entry) → Beyond (line_of e) xs → AtLeast (line_of e) ys → in_line_order (xs ++ e ∷ ys) ≡ e ∷ in_line_order (xs ++ ys)
first_of [] e ys b h = insert_first e (in_line_order ys) (order_keeps (line_of e) ys h)
first_of (x ∷ xs) e ys b h = ap (insert_entry x) (first_of xs e ys b.1 h) ∙ insert_behind x e (in_line_order (xs ++ ys)) b.0

pub least_both : (n : ℕ) (xs ys : List Entry) → AtLeast n xs → AtLeast n ys → AtLeast n (xs ++ ys)
least_both n [] ys hx hy = hy
least_both n (x ∷ xs) ys hx hy = (hx.0, least_both n xs ys hx.1 hy)

pub beyond_both : (n : ℕ) (xs ys : List Entry) → Beyond n xs → Beyond n ys → Beyond n (xs ++ ys)
beyond_both n [] ys hx hy = hy
beyond_both n (x ∷ xs) ys hx hy = (hx.0, beyond_both n xs ys hx.1 hy)

pub least_groups : (n m : ℕ) (gs : List GroupLine) → n ≤ m → Rises m (map (λ (g : GroupLine). g.line) gs) → AtLeast n (map Lists gs)
least_groups n m [] low r = tt
least_groups n m (g ∷ gs) low r = (omega (arith, r.0), least_groups n g.line gs (omega (arith, r.0)) r.1)

pub least_rules : (n m : ℕ) (rs : List RuleLine) → n ≤ m → Rises m (map (λ (l : RuleLine). l.line) rs) → AtLeast n (map Rules rs)
least_rules n m [] low r = tt
least_rules n m (l ∷ ls) low r = (omega (arith, r.0), least_rules n l.line ls (omega (arith, r.0)) r.1)

pub least_notes : (n m : ℕ) (ns : List Note) (logs : List LogKeyword) → n ≤ m → Rises m (map (λ (x : Note). x.line) ns) → AtLeast n (passes ns logs)
least_notes n m [] logs low r = tt
least_notes n m (x ∷ xs) [] low r = tt
least_notes n m (x ∷ xs) (log ∷ logs) low r = (omega (arith, r.0), least_notes n x.line xs logs (omega (arith, r.0)) r.1)

pub beyond_groups : (n m : ℕ) (gs : List GroupLine) → n ≤ m → Rises m (map (λ (g : GroupLine). g.line) gs) → Beyond n (map Lists gs)
beyond_groups n m [] low r = tt
beyond_groups n m (g ∷ gs) low r = (omega (arith, r.0), beyond_groups n g.line gs (omega (arith, r.0)) r.1)

pub beyond_rules : (n m : ℕ) (rs : List RuleLine) → n ≤ m → Rises m (map (λ (l : RuleLine). l.line) rs) → Beyond n (map Rules rs)
beyond_rules n m [] low r = tt
beyond_rules n m (l ∷ ls) low r = (omega (arith, r.0), beyond_rules n l.line ls (omega (arith, r.0)) r.1)

-- What the choice of the next line says.

abbrev picked : Bool → Bool → Bool → Next
picked g r n = cond g OfGroup (cond r OfRule (cond n OfNote OfNone))

pub picked_group : (g r n : Bool) → picked g r n ≡ OfGroup → g ≡ true
picked_group true r n h = refl
picked_group false true n h = cc
picked_group false false true h = cc
picked_group false false false h = cc

pub picked_rule : (g r n : Bool) → picked g r n ≡ OfRule → (g ≡ false) × (r ≡ true)
picked_rule true r n h = cc
picked_rule false true n h = (refl, refl)
picked_rule false false true h = cc
picked_rule false false false h = cc

pub picked_note : (g r n : Bool) → picked g r n ≡ OfNote → (g ≡ false) × ((r ≡ false) × (n ≡ true))
picked_note true r n h = cc
picked_note false true n h = cc
picked_note false false true h = (refl, (refl, refl))
picked_note false false false h = cc

pub picked_none : (g r n : Bool) → picked g r n ≡ OfNone → (g ≡ false) × ((r ≡ false) × (n ≡ false))
picked_none true r n h = cc
picked_none false true n h = cc
picked_none false false true h = cc
picked_none false false false h = (refl, (refl, refl))

abbrev of_groups : List GroupLine → Option ℕ
of_groups gs = first_line (λ (g : GroupLine). g.line) gs

abbrev of_rules : List RuleLine → Option ℕ
of_rules rs = first_line (λ (l : RuleLine). l.line) rs

abbrev of_notes : List Note → Option ℕ
of_notes ns = first_line (λ (n : Note). n.line) ns

before_rules : (n : ℕ) (rs : List RuleLine) → comes_before (Some n) (of_rules rs) ≡ true → AreRising (map (λ (l : RuleLine). l.line) rs) → AtLeast n (map Rules rs)
before_rules n [] c r = tt
before_rules n (l ∷ ls) c r = (leb-true n l.line c, least_rules n l.line ls (leb-true n l.line c) r)

before_notes : (n : ℕ) (ns : List Note) (logs : List LogKeyword) → comes_before (Some n) (of_notes ns) ≡ true → AreRising (map (λ (x : Note). x.line) ns) → AtLeast n (passes ns logs)
before_notes n [] logs c r = tt
before_notes n (x ∷ xs) [] c r = tt
before_notes n (x ∷ xs) (log ∷ logs) c r = (leb-true n x.line c, least_notes n x.line xs logs (leb-true n x.line c) r)

abbrev the : List GroupLine → List RuleLine → List Note → List LogKeyword → OptionsFile
the gs rs ns logs = record { groups = gs; lines = rs; notes = ns; logs = logs }

-- where a group is the next, it is the first in line order
pub group_first : (g : GroupLine) (gs : List GroupLine) (rs : List RuleLine) (ns : List Note) (logs : List LogKeyword)
    → IsRising (the (g ∷ gs) rs ns logs) → next_in (the (g ∷ gs) rs ns logs) ≡ OfGroup → entries_in_order (the (g ∷ gs) rs ns logs) ≡ Lists g ∷ entries_in_order (the gs rs ns logs)
group_first g gs rs ns logs rising next =
    let tests : (comes_before (Some g.line) (of_rules rs) ≡ true) × (comes_before (Some g.line) (of_notes ns) ≡ true) = and_parts _ _ (picked_group _ _ _ next) in
    first_of [] (Lists g) (map Lists gs ++ (map Rules rs ++ passes ns logs)) tt
    (least_both g.line (map Lists gs) (map Rules rs ++ passes ns logs) (least_groups g.line g.line gs (omega arith) rising.groups)
    (least_both g.line (map Rules rs) (passes ns logs) (before_rules g.line rs tests.0 rising.lines) (before_notes g.line ns logs tests.1 rising.notes)))

late_group : (g n : ℕ) (other : Option ℕ) → (comes_before (Some g) (Some n) && comes_before (Some g) other) ≡ false → comes_before (Some n) other ≡ true → n < g
late_group g n None c b = elim (leb g n) as (λ t. leb g n ≡ t → (t && true) ≡ false → n < g) [
  | true ↦ λ e h. absurd cc
  | false ↦ λ e h. leb-false g n e
] refl c
late_group g n (Some m) c b = elim (leb g n) as (λ t. leb g n ≡ t → (t && leb g m) ≡ false → n < g) [
  | true ↦ λ e h. absurd (omega (arith, leb-true g n e, leb-true n m b, leb-false g m h))
  | false ↦ λ e h. leb-false g n e
] refl c

later_groups : (gs : List GroupLine) (n : ℕ) (other : Option ℕ) → (comes_before (of_groups gs) (Some n) && comes_before (of_groups gs) other) ≡ false → comes_before (Some n) other ≡ true
    → AreRising (map (λ (g : GroupLine). g.line) gs) → Beyond n (map Lists gs)
later_groups [] n other c b r = tt
later_groups (g ∷ gs) n other c b r =
    let late : n < g.line = late_group g.line n other c b in
    (late, beyond_groups n g.line gs (omega arith) r)

-- where a rule is the next, it is the first in line order
pub rule_first : (gs : List GroupLine) (l : RuleLine) (rs : List RuleLine) (ns : List Note) (logs : List LogKeyword)
    → IsRising (the gs (l ∷ rs) ns logs) → next_in (the gs (l ∷ rs) ns logs) ≡ OfRule → entries_in_order (the gs (l ∷ rs) ns logs) ≡ Rules l ∷ entries_in_order (the gs rs ns logs)
rule_first gs l rs ns logs rising next =
    let tests : ((comes_before (of_groups gs) (Some l.line) && comes_before (of_groups gs) (of_notes ns)) ≡ false) × (comes_before (Some l.line) (of_notes ns) ≡ true) = picked_rule _ _ _ next in
    first_of (map Lists gs) (Rules l) (map Rules rs ++ passes ns logs)
    (later_groups gs l.line (of_notes ns) tests.0 tests.1 rising.groups)
    (least_both l.line (map Rules rs) (passes ns logs) (least_rules l.line l.line rs (omega arith) rising.lines) (before_notes l.line ns logs tests.1 rising.notes))

later_rules : (rs : List RuleLine) (n : ℕ) → comes_before (of_rules rs) (Some n) ≡ false → AreRising (map (λ (l : RuleLine). l.line) rs) → Beyond n (map Rules rs)
later_rules [] n c r = tt
later_rules (l ∷ ls) n c r =
    let late : n < l.line = leb-false l.line n c in
    (late, beyond_rules n l.line ls (omega arith) r)

latest_clash : (a b : Bool) → a ≡ true → b ≡ true → (a && b) ≡ false → ⊥
latest_clash a b ha hb h = false≢true (sym h ∙ (ap (λ t. t && b) ha ∙ hb))

latest_group : (g n : ℕ) (rs : List RuleLine) → (comes_before (Some g) (of_rules rs) && comes_before (Some g) (Some n)) ≡ false → comes_before (of_rules rs) (Some n) ≡ false → n < g
latest_group g n [] c b = leb-false g n c
latest_group g n (l ∷ ls) c b = elim (leb g n) as (λ t. leb g n ≡ t → n < g) [
  | true ↦ λ e. absurd (latest_clash (leb g l.line) (leb g n) (le-leb g l.line (omega (arith, leb-true g n e, leb-false l.line n b))) e c)
  | false ↦ λ e. leb-false g n e
] refl

later_groups_still : (gs : List GroupLine) (n : ℕ) (rs : List RuleLine) → (comes_before (of_groups gs) (of_rules rs) && comes_before (of_groups gs) (Some n)) ≡ false → comes_before (of_rules rs) (Some n) ≡ false
    → AreRising (map (λ (g : GroupLine). g.line) gs) → Beyond n (map Lists gs)
later_groups_still [] n rs c b r = tt
later_groups_still (g ∷ gs) n rs c b r =
    let late : n < g.line = latest_group g.line n rs c b in
    (late, beyond_groups n g.line gs (omega arith) r)

-- where a note is the next, it is the first in line order
pub note_first : (gs : List GroupLine) (rs : List RuleLine) (x : Note) (ns : List Note) (log : LogKeyword) (logs : List LogKeyword)
    → IsRising (the gs rs (x ∷ ns) (log ∷ logs)) → next_in (the gs rs (x ∷ ns) (log ∷ logs)) ≡ OfNote → entries_in_order (the gs rs (x ∷ ns) (log ∷ logs)) ≡ Passes x log ∷ entries_in_order (the gs rs ns logs)
note_first gs rs x ns log logs rising next =
    let tests : ((comes_before (of_groups gs) (of_rules rs) && comes_before (of_groups gs) (Some x.line)) ≡ false) × ((comes_before (of_rules rs) (Some x.line) ≡ false) × (true ≡ true)) = picked_note _ _ _ next in
    let first : in_line_order ((map Lists gs ++ map Rules rs) ++ Passes x log ∷ passes ns logs) ≡ Passes x log ∷ in_line_order ((map Lists gs ++ map Rules rs) ++ passes ns logs) =
    first_of (map Lists gs ++ map Rules rs) (Passes x log) (passes ns logs)
    (beyond_both x.line (map Lists gs) (map Rules rs) (later_groups_still gs x.line rs tests.0 tests.1.0 rising.groups) (later_rules rs x.line tests.1.0 rising.lines))
    (least_notes x.line x.line ns logs (omega arith) rising.notes)
    in ap in_line_order (sym (append_assoc (map Lists gs) (map Rules rs) (Passes x log ∷ passes ns logs)))
    ∙ (first ∙ ap (λ es. Passes x log ∷ in_line_order es) (append_assoc (map Lists gs) (map Rules rs) (passes ns logs)))

-- where nothing is the next, nothing is left
pub none_left : (gs : List GroupLine) (rs : List RuleLine) (ns : List Note) (logs : List LogKeyword) → next_in (the gs rs ns logs) ≡ OfNone → entries_in_order (the gs rs ns logs) ≡ []
none_left gs rs (x ∷ ns) logs next =
    absurd (false≢true (sym (picked_none (comes_before (of_groups gs) (of_rules rs) && comes_before (of_groups gs) (Some x.line)) (comes_before (of_rules rs) (Some x.line)) true next).1.1))
none_left gs (l ∷ rs) [] logs next =
    absurd (false≢true (sym (picked_none (comes_before (of_groups gs) (Some l.line) && comes_before (of_groups gs) None) true false next).1.0))
none_left (g ∷ gs) [] [] logs next = absurd (false≢true (sym (picked_none true false false next).0))
none_left [] [] [] logs next = refl

-- a text with one line more, and the text of what is left
text_more : (text : List ℕ) (at : ℕ) (e : Entry) (es order : List Entry) → order ≡ e ∷ es → (text ++ line_text at (line_of e) (entry_text e)) ++ text_from (line_of e + 1) es ≡ text ++ text_from at order
text_more text at e es order is =
    append_assoc text (line_text at (line_of e) (entry_text e)) (text_from (line_of e + 1) es) ∙ ap (λ (o : List Entry). text ++ text_from at o) (sym is)

-- a group was written
pub group_writes : (g : GroupLine) (gs : List GroupLine) (rs : List RuleLine) (ns : List Note) (logs : List LogKeyword) (at : ℕ) (text new : List ℕ)
    → IsRising (the (g ∷ gs) rs ns logs) → next_in (the (g ∷ gs) rs ns logs) ≡ OfGroup → new ≡ text ++ line_text at g.line (group_text g)
    → Writes text new at (g.line + 1) (the (g ∷ gs) rs ns logs) (the gs rs ns logs)
group_writes g gs rs ns logs at text new rising next is = record {
  whole = ap (λ t. t ++ text_from (g.line + 1) (entries_in_order (the gs rs ns logs))) is ∙ text_more text at (Lists g) (entries_in_order (the gs rs ns logs)) _ (group_first g gs rs ns logs rising next);
  rising = record { groups = rising_rest g.line (map (λ (x : GroupLine). x.line) gs) rising.groups; lines = rising.lines; notes = rising.notes; paired = rising.paired };
  fewer = omega arith;
}

-- a rule was written
pub rule_writes : (gs : List GroupLine) (l : RuleLine) (rs : List RuleLine) (ns : List Note) (logs : List LogKeyword) (at : ℕ) (text new : List ℕ)
    → IsRising (the gs (l ∷ rs) ns logs) → next_in (the gs (l ∷ rs) ns logs) ≡ OfRule → new ≡ text ++ line_text at l.line (rule_text l)
    → Writes text new at (l.line + 1) (the gs (l ∷ rs) ns logs) (the gs rs ns logs)
rule_writes gs l rs ns logs at text new rising next is = record {
  whole = ap (λ t. t ++ text_from (l.line + 1) (entries_in_order (the gs rs ns logs))) is ∙ text_more text at (Rules l) (entries_in_order (the gs rs ns logs)) _ (rule_first gs l rs ns logs rising next);
  rising = record { groups = rising.groups; lines = rising_rest l.line (map (λ (x : RuleLine). x.line) rs) rising.lines; notes = rising.notes; paired = rising.paired };
  fewer = omega arith;
}

-- a note was written
pub note_writes : (gs : List GroupLine) (rs : List RuleLine) (x : Note) (ns : List Note) (log : LogKeyword) (logs : List LogKeyword) (at : ℕ) (text new : List ℕ)
    → IsRising (the gs rs (x ∷ ns) (log ∷ logs)) → next_in (the gs rs (x ∷ ns) (log ∷ logs)) ≡ OfNote → new ≡ text ++ line_text at x.line (log_name log)
    → Writes text new at (x.line + 1) (the gs rs (x ∷ ns) (log ∷ logs)) (the gs rs ns logs)
note_writes gs rs x ns log logs at text new rising next is = record {
  whole = ap (λ t. t ++ text_from (x.line + 1) (entries_in_order (the gs rs ns logs))) is ∙ text_more text at (Passes x log) (entries_in_order (the gs rs ns logs)) _ (note_first gs rs x ns log logs rising next);
  rising = record { groups = rising.groups; lines = rising.lines; notes = rising_rest x.line (map (λ (y : Note). y.line) ns) rising.notes; paired = omega (arith, rising.paired) };
  fewer = omega arith;
}

-- The same, where lists are only equal to such as begin so, and numbers and texts to those.

pub group_written : (groups : List GroupLine) (g : GroupLine) (gs : List GroupLine) (rs : List RuleLine) (ns : List Note) (logs : List LogKeyword) (at line next : ℕ) (text words new : List ℕ)
    → groups ≡ g ∷ gs → IsRising (the groups rs ns logs) → next_in (the groups rs ns logs) ≡ OfGroup → line ≡ g.line → next ≡ line → words ≡ group_text g → new ≡ text ++ line_text at line words
    → Writes text new at (next + 1) (the groups rs ns logs) (the gs rs ns logs)
group_written groups g gs rs ns logs at line next text words new begins rising choice line_is next_is words_is new_is =
    let P : List GroupLine → Type 0 = λ G. IsRising (the G rs ns logs) → next_in (the G rs ns logs) ≡ OfGroup → Writes text new at (next + 1) (the G rs ns logs) (the gs rs ns logs) in
    let Q : ℕ → Type 0 = λ n. Writes text new at (n + 1) (the (g ∷ gs) rs ns logs) (the gs rs ns logs) in
    subst P (sym begins)
    (λ r c. subst Q (sym (next_is ∙ line_is)) (group_writes g gs rs ns logs at text new r c (new_is ∙ (ap (λ l. text ++ line_text at l words) line_is ∙ ap (λ w. text ++ line_text at g.line w) words_is))))
    rising choice

pub rule_written : (gs : List GroupLine) (rules : List RuleLine) (l : RuleLine) (rs : List RuleLine) (ns : List Note) (logs : List LogKeyword) (at line next : ℕ) (text words new : List ℕ)
    → rules ≡ l ∷ rs → IsRising (the gs rules ns logs) → next_in (the gs rules ns logs) ≡ OfRule → line ≡ l.line → next ≡ line → words ≡ rule_text l → new ≡ text ++ line_text at line words
    → Writes text new at (next + 1) (the gs rules ns logs) (the gs rs ns logs)
rule_written gs rules l rs ns logs at line next text words new begins rising choice line_is next_is words_is new_is =
    let P : List RuleLine → Type 0 = λ R. IsRising (the gs R ns logs) → next_in (the gs R ns logs) ≡ OfRule → Writes text new at (next + 1) (the gs R ns logs) (the gs rs ns logs) in
    let Q : ℕ → Type 0 = λ n. Writes text new at (n + 1) (the gs (l ∷ rs) ns logs) (the gs rs ns logs) in
    subst P (sym begins)
    (λ r c. subst Q (sym (next_is ∙ line_is)) (rule_writes gs l rs ns logs at text new r c (new_is ∙ (ap (λ n. text ++ line_text at n words) line_is ∙ ap (λ w. text ++ line_text at l.line w) words_is))))
    rising choice

pub note_written : (gs : List GroupLine) (rs : List RuleLine) (notes : List Note) (x : Note) (ns : List Note) (names : List LogKeyword) (log : LogKeyword) (logs : List LogKeyword) (at line next : ℕ) (text words new : List ℕ)
    → notes ≡ x ∷ ns → names ≡ log ∷ logs → IsRising (the gs rs notes names) → next_in (the gs rs notes names) ≡ OfNote → line ≡ x.line → next ≡ line → words ≡ log_name log → new ≡ text ++ line_text at line words
    → Writes text new at (next + 1) (the gs rs notes names) (the gs rs ns logs)
note_written gs rs notes x ns names log logs at line next text words new begins begins_too rising choice line_is next_is words_is new_is =
    let P : List Note → Type 0 = λ N. IsRising (the gs rs N names) → next_in (the gs rs N names) ≡ OfNote → Writes text new at (next + 1) (the gs rs N names) (the gs rs ns logs) in
    let P' : List LogKeyword → Type 0 = λ L. IsRising (the gs rs (x ∷ ns) L) → next_in (the gs rs (x ∷ ns) L) ≡ OfNote → Writes text new at (next + 1) (the gs rs (x ∷ ns) L) (the gs rs ns logs) in
    let Q : ℕ → Type 0 = λ n. Writes text new at (n + 1) (the gs rs (x ∷ ns) (log ∷ logs)) (the gs rs ns logs) in
    subst P (sym begins)
    (subst P' (sym begins_too)
    (λ r c. subst Q (sym (next_is ∙ line_is)) (note_writes gs rs x ns log logs at text new r c (new_is ∙ (ap (λ n. text ++ line_text at n words) line_is ∙ ap (λ w. text ++ line_text at x.line w) words_is)))))
    rising choice
