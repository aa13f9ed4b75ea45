-- The lines of a log, written one behind another, are read as its entries.
use Rattle.std.proofs.Common.{◌≡◌, ℕ, ◌+◌, ◌^◌, ◌<◌, ◌≤◌, nat_le, nat_lt, Bool, true, false, ◌&&◌, List, [], ◌∷◌, ◌++◌, length, map, codes, decimal, Result, Ok, refl, ap, ◌∙◌, arith, append_assoc}
use Rattle.std.proofs.lemmas.Bool.{and_parts, and_from, leb-true, le-leb, lt-ltb}
use Rattle.std.proofs.lemmas.Fmt.{length-decimal-le}
use Rattle.std.proofs.lemmas.List.{length-append}
use Rattle.std.proofs.lemmas.List.Folds.{list_all-append}
use Rattle.std.specs.Char.{is_ascii_digit}
use Rattle.std.specs.List.{list_all, AllByRecursion}
use Rattle.std.specs.Str.{all_ascii_digits}
use Rattle.lic_text.specs.Lines.{lines_from, words_of}
use Rattle.lic_text.specs.Physical.{is_empty, physical_lines}
use Rattle.lic_text.proofs.Prefixes.{none_left}
use Rattle.lic_text.proofs.Parts.{no_lines}
use Rattle.lic_types.specs.Name.{IsName, is_name_byte}
use Rattle.options_machine.specs.declared.reply.Charge.{Charge}
use Rattle.options_machine.specs.declared.reply.Charge.TheVariants.{Reserve, Open}
use Rattle.options_machine.specs.declared.reply.Entry.{Entry}
use Rattle.options_machine.specs.declared.reply.Kind.{Kind}
use Rattle.options_machine.specs.declared.reply.Kind.TheVariants as kind
use Rattle.options_machine.specs.declared.reply.Reply.{Reply}
use Rattle.options_machine.specs.declared.reply.Reply.TheVariants as reply
use Rattle.reply_words.specs.Words.{charge_text, own_text, reply_text}
use Rattle.script_words.specs.Fields.{at_line}
use Rattle.script_words.specs.declared.fault.ScriptFault.{ScriptFault}
use Rattle.script_words.specs.declared.fault.ScriptWord.{ScriptWord}
use Rattle.script_words.proofs.LineTexts.{IsLineText, continued_behind, first_line, no_backslash}
use Rattle.script_words.proofs.Tokens.{decimal_digits}
use Rattle.audit_log.specs.Entries.{entry_at, entry_line, kind_text, logged_of, log_entries}
use Rattle.audit_log.specs.Laws.{IsCharge, IsEntry, IsLogged, IsReply, LogsReadBack}
use Rattle.audit_log.specs.declared.reading.Logged.{Logged}
use Rattle.audit_log.proofs.Entries.{entries_back, entry_said}

-- Bytes and lengths of what is written.

-- a byte of a reply: from the space up to the capitals
abbrev is_plain : ℕ → Bool
is_plain b = nat_le 32 b && nat_lt b 92

-- no byte of the text is below 32, and it has so many at most
record Fits (text : List ℕ) (n : ℕ) : Type 0 where
  free : list_all (λ b. nat_le 32 b) text ≡ true
  long : length text ≤ n

-- all bytes are those of replies, and there are so many at most
record Plain (text : List ℕ) (n : ℕ) : Type 0 where
  each : list_all is_plain text ≡ true
  long : length text ≤ n

plain_both : (a b : List ℕ) (n m : ℕ) → Plain a n → Plain b m → Plain (a ++ b) (n + m)
plain_both a b n m p q = record {
  each = list_all-append is_plain a b ∙ and_from _ _ p.each q.each;
  long = let x = p.long in let y = q.long in omega (arith, length-append a b);
}

plain_within : (a : List ℕ) (n m : ℕ) → Plain a n → n ≤ m → Plain a m
plain_within a n m p h = record { each = p.each; long = let x = p.long in omega arith }

plain_digit : (c : ℕ) → is_ascii_digit c ≡ true → is_plain c ≡ true
plain_digit c h =
    let parts : (nat_le 48 c ≡ true) × (nat_le c 57 ≡ true) = and_parts (nat_le 48 c) (nat_le c 57) h in
    let low : 48 ≤ c = leb-true 48 c parts.0 in
    let high : c ≤ 57 = leb-true c 57 parts.1 in
    and_from _ _ (le-leb 32 c (omega arith)) (lt-ltb c 92 (omega arith))

plain_digits : (ds : List ℕ) → all_ascii_digits ds ≡ true → list_all is_plain ds ≡ true
plain_digits [] h = refl
plain_digits (c ∷ cs) h =
    let parts : (is_ascii_digit c ≡ true) × (all_ascii_digits cs ≡ true) = and_parts _ _ h in
    and_from _ _ (plain_digit c parts.0) (plain_digits cs parts.1)

plain_number : (n : ℕ) → n < 2 ^ 64 → Plain (decimal n) 20
plain_number n small = record { each = plain_digits (decimal n) (decimal_digits n small); long = length-decimal-le 20 n (omega arith) (omega arith) small }

-- a text of letters, and a number behind it
plain_told : (text : List ℕ) (size n : ℕ) → Plain text size → n < 2 ^ 64 → Plain (text ++ decimal n) (size + 20)
plain_told text size n p small = plain_both text (decimal n) size 20 p (plain_number n small)

plain_next : (text word : List ℕ) (size more n : ℕ) → Plain text size → Plain word more → n < 2 ^ 64 → Plain (text ++ word ++ decimal n) (size + more + 20)
plain_next text word size more n p q small = plain_told (text ++ word) (size + more) n (plain_both text word size more p q) small

plain_charge : (charge : Charge) → IsCharge charge → Plain (charge_text charge) 28
plain_charge Open h = record { each = refl; long = omega arith }
plain_charge (Reserve line) h = plain_told (codes "RESERVE ") 8 line (record { each = refl; long = omega arith }) (omega arith)

plain_own : (own queued : Bool) → Plain (own_text own queued) 1
plain_own true queued = record { each = refl; long = omega arith }
plain_own false true = record { each = refl; long = omega arith }
plain_own false false = record { each = refl; long = omega arith }

plain_no_seat : (taken free : ℕ) → taken < 2 ^ 32 → free < 2 ^ 32 → Plain (reply_text (reply.NoSeat taken free)) 60
plain_no_seat taken free a b =
    let first : Plain (codes "NOSEAT TAKEN " ++ decimal taken) 33 = plain_told (codes "NOSEAT TAKEN ") 13 taken (record { each = refl; long = omega arith }) (omega arith) in
    plain_within _ 57 60 (plain_next (codes "NOSEAT TAKEN " ++ decimal taken) (codes " OF ") 33 4 free first (record { each = refl; long = omega arith }) (omega arith)) (omega arith)

plain_counts : (held lingering taken free : ℕ) (own queued : Bool) → held < 2 ^ 32 → lingering < 2 ^ 32 → taken < 2 ^ 32 → free < 2 ^ 32
    → Plain (reply_text (reply.Counts held lingering taken free own queued)) 130
plain_counts held lingering taken free own queued a b c d =
    let helds : List ℕ = codes "COUNTS HELD " ++ decimal held in
    let lingers : List ℕ = helds ++ codes " LINGERING " ++ decimal lingering in
    let takens : List ℕ = lingers ++ codes " OPEN " ++ decimal taken in
    let frees : List ℕ = takens ++ codes " OF " ++ decimal free in
    let p₀ : Plain helds 32 = plain_told (codes "COUNTS HELD ") 12 held (record { each = refl; long = omega arith }) (omega arith) in
    let p₁ : Plain lingers 63 = plain_next helds (codes " LINGERING ") 32 11 lingering p₀ (record { each = refl; long = omega arith }) (omega arith) in
    let p₂ : Plain takens 89 = plain_next lingers (codes " OPEN ") 63 6 taken p₁ (record { each = refl; long = omega arith }) (omega arith) in
    let p₃ : Plain frees 113 = plain_next takens (codes " OF ") 89 4 free p₂ (record { each = refl; long = omega arith }) (omega arith) in
    let p₄ : Plain (frees ++ codes " OWN ") 118 = plain_both frees (codes " OWN ") 113 5 p₃ (record { each = refl; long = omega arith }) in
    plain_within _ 119 130 (plain_both (frees ++ codes " OWN ") (own_text own queued) 118 1 p₄ (plain_own own queued)) (omega arith)

plain_reply : (r : Reply) → IsReply r → Plain (reply_text r) 130
plain_reply (reply.Granted charge) h = plain_within _ 36 130 (plain_both (codes "GRANTED ") (charge_text charge) 8 28 (record { each = refl; long = omega arith }) (plain_charge charge h)) (omega arith)
plain_reply (reply.Retaken charge) h = plain_within _ 36 130 (plain_both (codes "RETAKEN ") (charge_text charge) 8 28 (record { each = refl; long = omega arith }) (plain_charge charge h)) (omega arith)
plain_reply (reply.Denied line) h = plain_within _ 32 130 (plain_told (codes "DENIED LINE ") 12 line (record { each = refl; long = omega arith }) (omega arith)) (omega arith)
plain_reply (reply.NoSeat taken free) h = plain_within _ 60 130 (plain_no_seat taken free h.0 h.1) (omega arith)
plain_reply reply.AlreadyHeld h = record { each = refl; long = omega arith }
plain_reply reply.Returned h = record { each = refl; long = omega arith }
plain_reply (reply.Lingering until) h = plain_within _ 36 130 (plain_told (codes "LINGERING UNTIL ") 16 until (record { each = refl; long = omega arith }) h) (omega arith)
plain_reply reply.NotHeld h = record { each = refl; long = omega arith }
plain_reply reply.Beaten h = record { each = refl; long = omega arith }
plain_reply reply.Held h = record { each = refl; long = omega arith }
plain_reply (reply.Counts held lingering taken free own queued) h = plain_counts held lingering taken free own queued h.0 h.1 h.2 h.3
plain_reply (reply.Queued position) h = plain_within _ 27 130 (plain_told (codes "QUEUED ") 7 position (record { each = refl; long = omega arith }) (omega arith)) (omega arith)
plain_reply reply.Unqueued h = record { each = refl; long = omega arith }
plain_reply (reply.Reread set) h = plain_within _ 27 130 (plain_told (codes "REREAD ") 7 set (record { each = refl; long = omega arith }) (omega arith)) (omega arith)

plain_kind : (k : Kind) → Plain (kind_text k) 8
plain_kind kind.Checkout = record { each = refl; long = omega arith }
plain_kind kind.Checkin = record { each = refl; long = omega arith }
plain_kind kind.Beat = record { each = refl; long = omega arith }
plain_kind kind.Look = record { each = refl; long = omega arith }
plain_kind kind.Quit = record { each = refl; long = omega arith }
plain_kind kind.Count = record { each = refl; long = omega arith }
plain_kind kind.Queue = record { each = refl; long = omega arith }
plain_kind (kind.Reread set) = record { each = refl; long = omega arith }

plain_free : (text : List ℕ) → list_all is_plain text ≡ true → list_all (λ b. nat_le 32 b) text ≡ true
plain_free [] h = refl
plain_free (b ∷ bs) h = let parts = and_parts (is_plain b) _ h in and_from _ _ (and_parts (nat_le 32 b) _ parts.0).0 (plain_free bs parts.1)

plain_low : (text : List ℕ) → list_all is_plain text ≡ true → list_all (λ b. nat_lt b 92) text ≡ true
plain_low [] h = refl
plain_low (b ∷ bs) h = let parts = and_parts (is_plain b) _ h in and_from _ _ (and_parts (nat_le 32 b) _ parts.0).1 (plain_low bs parts.1)

name_free : (name : List ℕ) → list_all is_name_byte name ≡ true → list_all (λ b. nat_le 32 b) name ≡ true
name_free [] h = refl
name_free (b ∷ bs) h =
    let parts = and_parts (is_name_byte b) _ h in
    let low : 33 ≤ b = leb-true 33 b (and_parts (nat_le 33 b) _ parts.0).0 in
    and_from _ _ (le-leb 32 b (omega arith)) (name_free bs parts.1)

fits_plain : (text : List ℕ) (n : ℕ) → Plain text n → Fits text n
fits_plain text n p = record { free = plain_free text p.each; long = p.long }

fits_name : (name : List ℕ) → IsName name → Fits name 64
fits_name name n = record { free = name_free name n.each; long = n.short }

-- a space and a word behind a text
fits_more : (text word : List ℕ) (n m : ℕ) → Fits text n → Fits word m → Fits (text ++ 32 ∷ word) (n + 1 + m)
fits_more text word n m f g = record {
  free = list_all-append (λ b. nat_le 32 b) text (32 ∷ word) ∙ and_from _ _ f.free g.free;
  long = let x = f.long in let y = g.long in omega (arith, length-append text (32 ∷ word));
}

fits_place : (place : ℕ) → place < 2 ^ 64 → Fits (35 ∷ decimal place) 21
fits_place place small = let p = plain_number place small in record { free = plain_free (decimal place) p.each; long = let x = p.long in omega arith }

-- the line of an entry has at most so many bytes, and none below 32
fits_entry : (pool place : ℕ) (e : Entry) → pool < 2 ^ 32 → place < 2 ^ 64 → IsEntry e → Fits (entry_line pool place e) 640
fits_entry pool place e p a n =
    let f₀ : Fits (codes "ENTRY") 5 = record { free = refl; long = omega arith } in
    let f₁ = fits_more _ (decimal pool) 5 20 f₀ (fits_plain _ 20 (plain_number pool (omega arith))) in
    let f₂ = fits_more _ (35 ∷ decimal place) 26 21 f₁ (fits_place place a) in
    let f₃ = fits_more _ (decimal e.moment) 48 20 f₂ (fits_plain _ 20 (plain_number e.moment (let low = n.moment in omega arith))) in
    let f₄ = fits_more _ (decimal e.request.party) 69 20 f₃ (fits_plain _ 20 (plain_number e.request.party (let low = n.party in omega arith))) in
    let f₅ = fits_more _ e.request.client.user 90 64 f₄ (fits_name _ n.client.user) in
    let f₆ = fits_more _ e.request.client.host 155 64 f₅ (fits_name _ n.client.host) in
    let f₇ = fits_more _ e.request.client.display 220 64 f₆ (fits_name _ n.client.display) in
    let f₈ = fits_more _ e.request.client.project 285 64 f₇ (fits_name _ n.client.project) in
    let f₉ = fits_more _ (kind_text e.request.kind) 350 8 f₈ (fits_plain _ 8 (plain_kind e.request.kind)) in
    let f : Fits (entry_line pool place e) 490 = fits_more _ (reply_text e.reply) 359 130 f₉ (fits_plain _ 130 (plain_reply e.reply n.answered)) in
    record { free = f.free; long = let x = f.long in omega arith }

-- the line of an entry as far as its kind
abbrev front_of : ℕ → ℕ → Entry → List ℕ
front_of pool place e =
    codes "ENTRY" ++ 32 ∷ decimal pool ++ 32 ∷ 35 ∷ decimal place ++ 32 ∷ decimal e.moment ++ 32 ∷ decimal e.request.party
    ++ 32 ∷ e.request.client.user ++ 32 ∷ e.request.client.host ++ 32 ∷ e.request.client.display ++ 32 ∷ e.request.client.project
    ++ 32 ∷ kind_text e.request.kind

-- the line of an entry is read as one line
line_entry : (pool place : ℕ) (e : Entry) → pool < 2 ^ 32 → place < 2 ^ 64 → IsEntry e → IsLineText (entry_line pool place e)
line_entry pool place e p a n = let f = fits_entry pool place e p a n in record {
  free = f.free;
  silent = refl;
  ends = continued_behind (front_of pool place e) (reply_text e.reply) ∙ no_backslash (reply_text e.reply) (plain_low (reply_text e.reply) (plain_reply e.reply n.answered).each);
  short = let x = f.long in omega arith;
  some = ap is_empty (entry_said pool place e p a n);
}

-- Whole logs.

lines_back : (n : ℕ) (xs : List Logged) → AllByRecursion IsLogged xs → map entry_at (lines_from n (physical_lines (log_entries xs))) ≡ map (λ (x : Logged). Ok x) xs
lines_back n [] h = ap (map entry_at) (ap (lines_from n) no_lines ∙ none_left n)
lines_back n (x ∷ xs) h =
    let rest : List ℕ = log_entries xs in
    let text : List ℕ = entry_line x.pool x.place x.entry in
    let read : logged_of (words_of text) ≡ Ok x = entries_back x.pool x.place x.entry h.0.pool h.0.place h.0.entry in
    ap (λ (file : List ℕ). map entry_at (lines_from n (physical_lines file))) (append_assoc text (10 ∷ []) rest)
    ∙ (ap (map entry_at) (first_line n text rest (line_entry x.pool x.place x.entry h.0.pool h.0.place h.0.entry))
    ∙ (ap (λ (r : Result Logged ScriptWord). at_line n r ∷ map entry_at (lines_from (n + 1) (physical_lines rest))) read
    ∙ ap (λ (others : List (Result Logged ScriptFault)). Ok x ∷ others) (lines_back (n + 1) xs h.1)))

pub logs_back : LogsReadBack
logs_back xs h = lines_back 1 xs h
