-- The words of each reply are read as it, and no others are.
use Rattle.std.proofs.Common.{◌≡◌, ℕ, ◌^◌, ◌<◌, ◌≤◌, nat_eq, leb, Bool, true, false, ◌&&◌, cond, List, [], ◌∷◌, ◌++◌, codes, decimal, Option, None, Some, Result, Ok, Err, refl, sym, ap, ◌∙◌, subst, arith, append_assoc}
use Rattle.std.proofs.lemmas.Bool.{and_parts, leb-true, le-leb}
use Rattle.std.proofs.lemmas.Slice.Eq.{bytes_eq-Decides}
use Rattle.std.specs.Cmp.Lexicographic.{pointwise}
use Rattle.lic_text.specs.Lines.{words_of}
use Rattle.lic_text.specs.Number.{number_of}
use Rattle.options_machine.specs.declared.reply.Charge.{Charge}
use Rattle.options_machine.specs.declared.reply.Charge.TheVariants.{Reserve, Open}
use Rattle.options_machine.specs.declared.reply.Reply.{Reply}
use Rattle.options_machine.specs.declared.reply.Reply.TheVariants as reply
use Rattle.reply_words.specs.Words.{charge_text, own_text, reply_text}
use Rattle.script_words.specs.Fields.{and_then}
use Rattle.script_words.specs.declared.fault.ScriptWord.{ScriptWord}
use Rattle.script_words.specs.declared.fault.ScriptWord.TheVariants.{UnknownWord}
use Rattle.audit_log.specs.Laws.{IsCharge, IsReply, RepliesReadBack}
use Rattle.audit_log.specs.Replies.{alone, bare_of, behind, charge_of, counts_of, exact, last_32, last_64, no_seat_of, number_behind_word, own_and_words, own_of, printed_number, reply_by, reply_of}
use Rattle.script_words.proofs.Tokens.{IsToken, last, next, number_back, token_number}

-- Numbers and words behind one another, read.

same : (word : List ℕ) → pointwise nat_eq word word ≡ true
same word = (bytes_eq-Decides word word).1 refl

exact_back : (most n : ℕ) (words : List (List ℕ)) → n ≤ most → n < 2 ^ 64 → exact most (decimal n ∷ words) ≡ Ok (n, words)
exact_back most n words h small =
    let fits : leb n most ≡ true = le-leb n most h in
    let is : printed_number most (decimal n) (number_of (decimal n)) ≡ Ok n =
    ap (printed_number most (decimal n)) (number_back n small) ∙ (λ i. cond (fits i && same (decimal n) i) (Ok n) (Err UnknownWord)) in
    ap (λ (r : Result ℕ ScriptWord). and_then r (λ n. Ok (n, words))) is

tagged_back : (most n : ℕ) (tag : List ℕ) (words : List (List ℕ)) → n ≤ most → n < 2 ^ 64 → number_behind_word most tag (tag ∷ decimal n ∷ words) ≡ Ok (n, words)
tagged_back most n tag words h small = ap (λ b. and_then (cond b (Ok (decimal n ∷ words)) (Err UnknownWord)) (exact most)) (same tag) ∙ exact_back most n words h small

-- The words of each reply.

abbrev charge_words : Charge → List (List ℕ)
charge_words Open = codes "OPEN" ∷ []
charge_words (Reserve line) = codes "RESERVE" ∷ decimal line ∷ []

abbrev pub reply_list : Reply → List (List ℕ)
reply_list (reply.Granted charge) = codes "GRANTED" ∷ charge_words charge
reply_list (reply.Retaken charge) = codes "RETAKEN" ∷ charge_words charge
reply_list (reply.Denied line) = codes "DENIED" ∷ codes "LINE" ∷ decimal line ∷ []
reply_list (reply.NoSeat taken free) = codes "NOSEAT" ∷ codes "TAKEN" ∷ decimal taken ∷ codes "OF" ∷ decimal free ∷ []
reply_list reply.AlreadyHeld = codes "ALREADYHELD" ∷ []
reply_list reply.Returned = codes "RETURNED" ∷ []
reply_list (reply.Lingering until) = codes "LINGERING" ∷ codes "UNTIL" ∷ decimal until ∷ []
reply_list reply.NotHeld = codes "NOTHELD" ∷ []
reply_list reply.Beaten = codes "BEATEN" ∷ []
reply_list reply.Held = codes "HELD" ∷ []
reply_list (reply.Counts held lingering taken free own queued) =
    codes "COUNTS" ∷ codes "HELD" ∷ decimal held ∷ codes "LINGERING" ∷ decimal lingering ∷ codes "OPEN" ∷ decimal taken ∷ codes "OF" ∷ decimal free ∷ codes "OWN" ∷ own_text own queued ∷ []
reply_list (reply.Queued position) = codes "QUEUED" ∷ decimal position ∷ []
reply_list reply.Unqueued = codes "UNQUEUED" ∷ []
reply_list (reply.Reread set) = codes "REREAD" ∷ decimal set ∷ []

charge_said : (charge : Charge) → IsCharge charge → words_of (charge_text charge) ≡ charge_words charge
charge_said Open h = last (codes "OPEN") (record { some = refl; each = refl })
charge_said (Reserve line) h = next (codes "RESERVE") (decimal line) _ (record { some = refl; each = refl }) (last (decimal line) (token_number line (omega arith)))

own_token : (own queued : Bool) → IsToken (own_text own queued)
own_token true queued = record { some = refl; each = refl }
own_token false true = record { some = refl; each = refl }
own_token false false = record { some = refl; each = refl }

-- a word and a number behind it
word_number : (word : List ℕ) (n : ℕ) (rest : List ℕ) (words : List (List ℕ)) → IsToken word → n < 2 ^ 64 → words_of rest ≡ words → words_of (word ++ 32 ∷ (decimal n ++ 32 ∷ rest)) ≡ word ∷ decimal n ∷ words
word_number word n rest words t small h = next word (decimal n ++ 32 ∷ rest) _ t (next (decimal n) rest _ (token_number n small) h)

-- the same, with no word behind them
word_last : (word : List ℕ) (n : ℕ) → IsToken word → n < 2 ^ 64 → words_of (word ++ 32 ∷ decimal n) ≡ word ∷ decimal n ∷ []
word_last word n t small = next word (decimal n) _ t (last (decimal n) (token_number n small))

no_seat_said : (taken free : ℕ) → taken < 2 ^ 32 → free < 2 ^ 32 → words_of (reply_text (reply.NoSeat taken free)) ≡ reply_list (reply.NoSeat taken free)
no_seat_said taken free a b =
    let text : reply_text (reply.NoSeat taken free) ≡ codes "NOSEAT" ++ 32 ∷ (codes "TAKEN" ++ 32 ∷ (decimal taken ++ 32 ∷ (codes "OF" ++ 32 ∷ decimal free))) = simp append_assoc in
    ap words_of text ∙ next (codes "NOSEAT") (codes "TAKEN" ++ 32 ∷ (decimal taken ++ 32 ∷ (codes "OF" ++ 32 ∷ decimal free))) _ (record { some = refl; each = refl })
    (word_number (codes "TAKEN") taken (codes "OF" ++ 32 ∷ decimal free) _ (record { some = refl; each = refl }) (omega arith) (word_last (codes "OF") free (record { some = refl; each = refl }) (omega arith)))

counts_said : (held lingering taken free : ℕ) (own queued : Bool) → held < 2 ^ 32 → lingering < 2 ^ 32 → taken < 2 ^ 32 → free < 2 ^ 32
    → words_of (reply_text (reply.Counts held lingering taken free own queued)) ≡ reply_list (reply.Counts held lingering taken free own queued)
counts_said held lingering taken free own queued a b c d =
    let owns : List ℕ = codes "OWN" ++ 32 ∷ own_text own queued in
    let frees : List ℕ = codes "OF" ++ 32 ∷ (decimal free ++ 32 ∷ owns) in
    let takens : List ℕ = codes "OPEN" ++ 32 ∷ (decimal taken ++ 32 ∷ frees) in
    let lingers : List ℕ = codes "LINGERING" ++ 32 ∷ (decimal lingering ++ 32 ∷ takens) in
    let helds : List ℕ = codes "HELD" ++ 32 ∷ (decimal held ++ 32 ∷ lingers) in
    let text : reply_text (reply.Counts held lingering taken free own queued) ≡ codes "COUNTS" ++ 32 ∷ helds = simp append_assoc in
    ap words_of text ∙ next (codes "COUNTS") helds _ (record { some = refl; each = refl })
    (word_number (codes "HELD") held lingers _ (record { some = refl; each = refl }) (omega arith)
    (word_number (codes "LINGERING") lingering takens _ (record { some = refl; each = refl }) (omega arith)
    (word_number (codes "OPEN") taken frees _ (record { some = refl; each = refl }) (omega arith)
    (word_number (codes "OF") free owns _ (record { some = refl; each = refl }) (omega arith)
    (next (codes "OWN") (own_text own queued) _ (record { some = refl; each = refl }) (last (own_text own queued) (own_token own queued)))))))

pub said : (r : Reply) → IsReply r → words_of (reply_text r) ≡ reply_list r
said (reply.Granted charge) h = next (codes "GRANTED") (charge_text charge) _ (record { some = refl; each = refl }) (charge_said charge h)
said (reply.Retaken charge) h = next (codes "RETAKEN") (charge_text charge) _ (record { some = refl; each = refl }) (charge_said charge h)
said (reply.Denied line) h = next (codes "DENIED") (codes "LINE" ++ 32 ∷ decimal line) _ (record { some = refl; each = refl }) (word_last (codes "LINE") line (record { some = refl; each = refl }) (omega arith))
said (reply.NoSeat taken free) h = no_seat_said taken free h.0 h.1
said reply.AlreadyHeld h = last (codes "ALREADYHELD") (record { some = refl; each = refl })
said reply.Returned h = last (codes "RETURNED") (record { some = refl; each = refl })
said (reply.Lingering until) h = next (codes "LINGERING") (codes "UNTIL" ++ 32 ∷ decimal until) _ (record { some = refl; each = refl }) (word_last (codes "UNTIL") until (record { some = refl; each = refl }) h)
said reply.NotHeld h = last (codes "NOTHELD") (record { some = refl; each = refl })
said reply.Beaten h = last (codes "BEATEN") (record { some = refl; each = refl })
said reply.Held h = last (codes "HELD") (record { some = refl; each = refl })
said (reply.Counts held lingering taken free own queued) h = counts_said held lingering taken free own queued h.0 h.1 h.2 h.3
said (reply.Queued position) h = word_last (codes "QUEUED") position (record { some = refl; each = refl }) (omega arith)
said reply.Unqueued h = last (codes "UNQUEUED") (record { some = refl; each = refl })
said (reply.Reread set) h = word_last (codes "REREAD") set (record { some = refl; each = refl }) (omega arith)

-- Each reply is read from its words.

charge_back : (charge : Charge) → IsCharge charge → charge_of (charge_words charge) ≡ Ok charge
charge_back Open h = refl
charge_back (Reserve line) h = ap (λ (r : Result (ℕ × List (List ℕ)) ScriptWord). and_then r (λ n. alone (Reserve n.0) n.1)) (exact_back last_32 line [] (omega arith) (omega arith))

own_back : (own queued : Bool) → (own && queued) ≡ false → own_of (own_text own queued) ≡ Ok (own, queued)
own_back true true h = absurd cc
own_back true false h = refl
own_back false true h = refl
own_back false false h = refl

-- a chain goes on with what was read
pub then_ok : {X Y : Type 0} (r : Result X ScriptWord) (f : X → Result Y ScriptWord) (x : X) (y : Result Y ScriptWord) → r ≡ Ok x → f x ≡ y → and_then r f ≡ y
then_ok r f x y h g = ap (λ r. and_then r f) h ∙ g

owned_back : (own queued : Bool) → (own && queued) ≡ false → own_and_words (own_text own queued ∷ []) ≡ Ok ((own, queued), [])
owned_back own queued h = then_ok (own_of (own_text own queued)) _ (own, queued) _ (own_back own queued h) refl

counts_back : (held lingering taken free : ℕ) (own queued : Bool) → held < 2 ^ 32 → lingering < 2 ^ 32 → taken < 2 ^ 32 → free < 2 ^ 32 → (own && queued) ≡ false
    → counts_of (codes "HELD" ∷ decimal held ∷ codes "LINGERING" ∷ decimal lingering ∷ codes "OPEN" ∷ decimal taken ∷ codes "OF" ∷ decimal free ∷ codes "OWN" ∷ own_text own queued ∷ []) ≡ Ok (reply.Counts held lingering taken free own queued)
counts_back held lingering taken free own queued a b c d o =
    let owns : List (List ℕ) = codes "OWN" ∷ own_text own queued ∷ [] in
    let frees : List (List ℕ) = codes "OF" ∷ decimal free ∷ owns in
    let takens : List (List ℕ) = codes "OPEN" ∷ decimal taken ∷ frees in
    let lingers : List (List ℕ) = codes "LINGERING" ∷ decimal lingering ∷ takens in
    then_ok (number_behind_word last_32 (codes "HELD") (codes "HELD" ∷ decimal held ∷ lingers)) _ (held, lingers) _ (tagged_back last_32 held (codes "HELD") lingers (omega arith) (omega arith))
    (then_ok (number_behind_word last_32 (codes "LINGERING") lingers) _ (lingering, takens) _ (tagged_back last_32 lingering (codes "LINGERING") takens (omega arith) (omega arith))
    (then_ok (number_behind_word last_32 (codes "OPEN") takens) _ (taken, frees) _ (tagged_back last_32 taken (codes "OPEN") frees (omega arith) (omega arith))
    (then_ok (number_behind_word last_32 (codes "OF") frees) _ (free, owns) _ (tagged_back last_32 free (codes "OF") owns (omega arith) (omega arith))
    (then_ok (own_and_words (own_text own queued ∷ [])) _ ((own, queued), []) _ (owned_back own queued o) refl))))

pub list_back : (r : Reply) → IsReply r → reply_of (reply_list r) ≡ Ok r
list_back (reply.Granted charge) h = then_ok (charge_of (charge_words charge)) _ charge _ (charge_back charge h) refl
list_back (reply.Retaken charge) h = then_ok (charge_of (charge_words charge)) _ charge _ (charge_back charge h) refl
list_back (reply.Denied line) h = then_ok (number_behind_word last_32 (codes "LINE") (codes "LINE" ∷ decimal line ∷ [])) _ (line, []) _ (tagged_back last_32 line (codes "LINE") [] (omega arith) (omega arith)) refl
list_back (reply.NoSeat taken free) h =
    then_ok (number_behind_word last_32 (codes "TAKEN") (codes "TAKEN" ∷ decimal taken ∷ codes "OF" ∷ decimal free ∷ [])) _ (taken, codes "OF" ∷ decimal free ∷ []) _ (tagged_back last_32 taken (codes "TAKEN") (codes "OF" ∷ decimal free ∷ []) (omega (arith, h.0)) (omega (arith, h.0)))
    (then_ok (number_behind_word last_32 (codes "OF") (codes "OF" ∷ decimal free ∷ [])) _ (free, []) _ (tagged_back last_32 free (codes "OF") [] (omega (arith, h.1)) (omega (arith, h.1))) refl)
list_back reply.AlreadyHeld h = refl
list_back reply.Returned h = refl
list_back (reply.Lingering until) h = then_ok (number_behind_word last_64 (codes "UNTIL") (codes "UNTIL" ∷ decimal until ∷ [])) _ (until, []) _ (tagged_back last_64 until (codes "UNTIL") [] (omega arith) h) refl
list_back reply.NotHeld h = refl
list_back reply.Beaten h = refl
list_back reply.Held h = refl
list_back (reply.Counts held lingering taken free own queued) h = counts_back held lingering taken free own queued h.0 h.1 h.2 h.3 h.4
list_back (reply.Queued position) h = then_ok (exact last_32 (decimal position ∷ [])) _ (position, []) _ (exact_back last_32 position [] (omega arith) (omega arith)) refl
list_back reply.Unqueued h = refl
list_back (reply.Reread set) h = then_ok (exact last_32 (decimal set ∷ [])) _ (set, []) _ (exact_back last_32 set [] (omega arith) (omega arith)) refl

-- What is read is the words of the reply.

bind_ok : {X Y : Type 0} (r : Result X ScriptWord) (f : X → Result Y ScriptWord) (y : Y) → and_then r f ≡ Ok y → (x : X) × (r ≡ Ok x) × (f x ≡ Ok y)
bind_ok (Ok x) f y h = (x, refl, h)
bind_ok (Err fault) f y h = absurd cc

if_ok : {X : Type 0} (P : Type 0) (b : Bool) (x y : Result X ScriptWord) (r : X) → cond b x y ≡ Ok r → (b ≡ true → x ≡ Ok r → P) → (b ≡ false → y ≡ Ok r → P) → P
if_ok P true x y r h f g = f refl h
if_ok P false x y r h f g = g refl h

tag_is : (word tag : List ℕ) → pointwise nat_eq word tag ≡ true → word ≡ tag
tag_is word tag h = (bytes_eq-Decides word tag).0 h

printed_if : (most : ℕ) (word : List ℕ) (v n : ℕ) (b : Bool) → (leb v most && pointwise nat_eq word (decimal v)) ≡ b → cond b (Ok v) (Err UnknownWord) ≡ Ok n → (word ≡ decimal n) × (n ≤ most)
printed_if most word v n true e h =
    let is : v ≡ n = cc in
    let parts : (leb v most ≡ true) × (pointwise nat_eq word (decimal v) ≡ true) = and_parts _ _ e in
    subst (λ x. (word ≡ decimal x) × (x ≤ most)) is (tag_is word (decimal v) parts.1, leb-true v most parts.0)
printed_if most word v n false e h = absurd cc

printed_ok : (most : ℕ) (word : List ℕ) (o : Option ℕ) (n : ℕ) → printed_number most word o ≡ Ok n → (word ≡ decimal n) × (n ≤ most)
printed_ok most word None n h = absurd cc
printed_ok most word (Some v) n h = printed_if most word v n (leb v most && pointwise nat_eq word (decimal v)) refl h

-- these words are a number, and those behind it
record AreNumber (most : ℕ) (words : List (List ℕ)) (n : ℕ) (rest : List (List ℕ)) : Type 0 where
  is : words ≡ decimal n ∷ rest
  low : n ≤ most

exact_ok : (most : ℕ) (words : List (List ℕ)) (p : ℕ × List (List ℕ)) → exact most words ≡ Ok p → AreNumber most words p.0 p.1
exact_ok most [] p h = absurd cc
exact_ok most (word ∷ words) p h =
    let b = bind_ok (printed_number most word (number_of word)) (λ n. Ok (n, words)) p h in
    let q = printed_ok most word (number_of word) b.0 b.1 in
    let is : (b.0, words) ≡ p = cc in
    subst (λ (p : ℕ × List (List ℕ)). AreNumber most (word ∷ words) p.0 p.1) is (record { is = ap (λ w. w ∷ words) q.0; low = q.1 })

behind_if : (tag word : List ℕ) (words rest : List (List ℕ)) (b : Bool) → pointwise nat_eq word tag ≡ b → cond b (Ok words) (Err UnknownWord) ≡ Ok rest → word ∷ words ≡ tag ∷ rest
behind_if tag word words rest true e h = let is : words ≡ rest = cc in let t = tag_is word tag e in λ i. t i ∷ is i
behind_if tag word words rest false e h = absurd cc

behind_ok : (tag : List ℕ) (words rest : List (List ℕ)) → behind tag words ≡ Ok rest → words ≡ tag ∷ rest
behind_ok tag [] rest h = absurd cc
behind_ok tag (word ∷ words) rest h = behind_if tag word words rest (pointwise nat_eq word tag) refl h

-- these words are this one, a number, and those behind it
record AreTagged (most : ℕ) (tag : List ℕ) (words : List (List ℕ)) (n : ℕ) (rest : List (List ℕ)) : Type 0 where
  is : words ≡ tag ∷ decimal n ∷ rest
  low : n ≤ most

tagged_ok : (most : ℕ) (tag : List ℕ) (words : List (List ℕ)) (p : ℕ × List (List ℕ)) → number_behind_word most tag words ≡ Ok p → AreTagged most tag words p.0 p.1
tagged_ok most tag words p h =
    let b = bind_ok (behind tag words) (exact most) p h in
    let q = exact_ok most b.0 p b.2 in
    record { is = behind_ok tag words b.0 b.1 ∙ ap (λ (ws : List (List ℕ)). tag ∷ ws) q.is; low = q.low }

alone_ok : {X : Type 0} (x y : X) (words : List (List ℕ)) → alone x words ≡ Ok y → (x ≡ y) × (words ≡ [])
alone_ok x y [] h = (cc, refl)
alone_ok x y (word ∷ words) h = absurd cc

-- a number and nothing behind it
exact_alone : {X : Type 0} (most : ℕ) (f : ℕ → X) (words : List (List ℕ)) (x : X) → and_then (exact most words) (λ n. alone (f n.0) n.1) ≡ Ok x → (n : ℕ) × (f n ≡ x) × (words ≡ decimal n ∷ []) × (n ≤ most)
exact_alone most f words x h =
    let b = bind_ok (exact most words) (λ n. alone (f n.0) n.1) x h in
    let q = exact_ok most words b.0 b.1 in
    let a = alone_ok (f b.0.0) x b.0.1 b.2 in
    (b.0.0, a.0, q.is ∙ ap (λ (ws : List (List ℕ)). decimal b.0.0 ∷ ws) a.1, q.low)

-- a word, a number and nothing behind it
tagged_alone : {X : Type 0} (most : ℕ) (tag : List ℕ) (f : ℕ → X) (words : List (List ℕ)) (x : X) → and_then (number_behind_word most tag words) (λ n. alone (f n.0) n.1) ≡ Ok x → (n : ℕ) × (f n ≡ x) × (words ≡ tag ∷ decimal n ∷ []) × (n ≤ most)
tagged_alone most tag f words x h =
    let b = bind_ok (number_behind_word most tag words) (λ n. alone (f n.0) n.1) x h in
    let q = tagged_ok most tag words b.0 b.1 in
    let a = alone_ok (f b.0.0) x b.0.1 b.2 in
    (b.0.0, a.0, q.is ∙ ap (λ (ws : List (List ℕ)). tag ∷ decimal b.0.0 ∷ ws) a.1, q.low)

charge_ok : (words : List (List ℕ)) (charge : Charge) → charge_of words ≡ Ok charge → (words ≡ charge_words charge) × IsCharge charge
charge_ok [] charge h = absurd cc
charge_ok (word ∷ words) charge h =
    if_ok _ (pointwise nat_eq word (codes "OPEN")) _ _ charge h
    (λ t e. let a = alone_ok Open charge words e in let w = tag_is word (codes "OPEN") t in
    subst (λ c. (word ∷ words ≡ charge_words c) × IsCharge c) a.0 ((λ i. w i ∷ a.1 i), tt))
    (λ _ g. if_ok _ (pointwise nat_eq word (codes "RESERVE")) _ _ charge g
    (λ t e. let a = exact_alone last_32 Reserve words charge e in let w = tag_is word (codes "RESERVE") t in
    subst (λ c. (word ∷ words ≡ charge_words c) × IsCharge c) a.1 ((λ i. w i ∷ a.2 i), (let low = a.3 in omega arith)))
    (λ _ e. absurd cc))

-- the words are those of the reply
abbrev Spells : List (List ℕ) → Reply → Type 0
Spells words r = (words ≡ reply_list r) × IsReply r

no_seat_ok : (words : List (List ℕ)) (r : Reply) → no_seat_of words ≡ Ok r → Spells (codes "NOSEAT" ∷ words) r
no_seat_ok words r h =
    let b = bind_ok (number_behind_word last_32 (codes "TAKEN") words) _ r h in
    let q = tagged_ok last_32 (codes "TAKEN") words b.0 b.1 in
    let a = tagged_alone last_32 (codes "OF") (reply.NoSeat b.0.0) b.0.1 r b.2 in
    subst (Spells (codes "NOSEAT" ∷ words)) a.1 (ap (λ (ws : List (List ℕ)). codes "NOSEAT" ∷ ws) q.is ∙ ap (λ (ws : List (List ℕ)). codes "NOSEAT" ∷ codes "TAKEN" ∷ decimal b.0.0 ∷ ws) a.2, ((let low = q.low in omega arith), let low = a.3 in omega arith))

own_ok : (word : List ℕ) (own : Bool × Bool) → own_of word ≡ Ok own → (word ≡ own_text own.0 own.1) × ((own.0 && own.1) ≡ false)
own_ok word own h =
    if_ok _ (pointwise nat_eq word (codes "1")) _ _ own h
    (λ t e. let is : (true, false) ≡ own = cc in subst (λ (o : Bool × Bool). (word ≡ own_text o.0 o.1) × ((o.0 && o.1) ≡ false)) is (tag_is word (codes "1") t, refl))
    (λ _ g. if_ok _ (pointwise nat_eq word (codes "2")) _ _ own g
    (λ t e. let is : (false, true) ≡ own = cc in subst (λ (o : Bool × Bool). (word ≡ own_text o.0 o.1) × ((o.0 && o.1) ≡ false)) is (tag_is word (codes "2") t, refl))
    (λ _ k. if_ok _ (pointwise nat_eq word (codes "0")) _ _ own k
    (λ t e. let is : (false, false) ≡ own = cc in subst (λ (o : Bool × Bool). (word ≡ own_text o.0 o.1) × ((o.0 && o.1) ≡ false)) is (tag_is word (codes "0") t, refl))
    (λ _ e. absurd cc)))

owned_ok : (words : List (List ℕ)) (own : (Bool × Bool) × List (List ℕ)) → own_and_words words ≡ Ok own → (words ≡ own_text own.0.0 own.0.1 ∷ own.1) × ((own.0.0 && own.0.1) ≡ false)
owned_ok [] own h = absurd cc
owned_ok (word ∷ words) own h =
    let b = bind_ok (own_of word) (λ o. Ok (o, words)) own h in
    let q = own_ok word b.0 b.1 in
    let is : (b.0, words) ≡ own = cc in
    subst (λ (o : (Bool × Bool) × List (List ℕ)). (word ∷ words ≡ own_text o.0.0 o.0.1 ∷ o.1) × ((o.0.0 && o.0.1) ≡ false)) is (ap (λ w. w ∷ words) q.0, q.1)

counts_ok : (words : List (List ℕ)) (r : Reply) → counts_of words ≡ Ok r → Spells (codes "COUNTS" ∷ words) r
counts_ok words r h =
    let b₁ = bind_ok (number_behind_word last_32 (codes "HELD") words) _ r h in
    let q₁ = tagged_ok last_32 (codes "HELD") words b₁.0 b₁.1 in
    let b₂ = bind_ok (number_behind_word last_32 (codes "LINGERING") b₁.0.1) _ r b₁.2 in
    let q₂ = tagged_ok last_32 (codes "LINGERING") b₁.0.1 b₂.0 b₂.1 in
    let b₃ = bind_ok (number_behind_word last_32 (codes "OPEN") b₂.0.1) _ r b₂.2 in
    let q₃ = tagged_ok last_32 (codes "OPEN") b₂.0.1 b₃.0 b₃.1 in
    let b₄ = bind_ok (number_behind_word last_32 (codes "OF") b₃.0.1) _ r b₃.2 in
    let q₄ = tagged_ok last_32 (codes "OF") b₃.0.1 b₄.0 b₄.1 in
    let b₅ = bind_ok (behind (codes "OWN") b₄.0.1) _ r b₄.2 in
    let q₅ = behind_ok (codes "OWN") b₄.0.1 b₅.0 b₅.1 in
    let b₆ = bind_ok (own_and_words b₅.0) _ r b₅.2 in
    let q₆ = owned_ok b₅.0 b₆.0 b₆.1 in
    let a = alone_ok (reply.Counts b₁.0.0 b₂.0.0 b₃.0.0 b₄.0.0 b₆.0.0.0 b₆.0.0.1) r b₆.0.1 b₆.2 in
    let l₆ : b₅.0 ≡ own_text b₆.0.0.0 b₆.0.0.1 ∷ [] = q₆.0 ∙ ap (λ (ws : List (List ℕ)). own_text b₆.0.0.0 b₆.0.0.1 ∷ ws) a.1 in
    let l₅ : b₄.0.1 ≡ codes "OWN" ∷ own_text b₆.0.0.0 b₆.0.0.1 ∷ [] = q₅ ∙ ap (λ (ws : List (List ℕ)). codes "OWN" ∷ ws) l₆ in
    let l₄ : b₃.0.1 ≡ codes "OF" ∷ decimal b₄.0.0 ∷ codes "OWN" ∷ own_text b₆.0.0.0 b₆.0.0.1 ∷ [] = q₄.is ∙ ap (λ (ws : List (List ℕ)). codes "OF" ∷ decimal b₄.0.0 ∷ ws) l₅ in
    let l₃ : b₂.0.1 ≡ codes "OPEN" ∷ decimal b₃.0.0 ∷ codes "OF" ∷ decimal b₄.0.0 ∷ codes "OWN" ∷ own_text b₆.0.0.0 b₆.0.0.1 ∷ [] = q₃.is ∙ ap (λ (ws : List (List ℕ)). codes "OPEN" ∷ decimal b₃.0.0 ∷ ws) l₄ in
    let l₂ : b₁.0.1 ≡ codes "LINGERING" ∷ decimal b₂.0.0 ∷ codes "OPEN" ∷ decimal b₃.0.0 ∷ codes "OF" ∷ decimal b₄.0.0 ∷ codes "OWN" ∷ own_text b₆.0.0.0 b₆.0.0.1 ∷ [] = q₂.is ∙ ap (λ (ws : List (List ℕ)). codes "LINGERING" ∷ decimal b₂.0.0 ∷ ws) l₃ in
    subst (Spells (codes "COUNTS" ∷ words)) a.0 (
      ap (λ (ws : List (List ℕ)). codes "COUNTS" ∷ ws) (q₁.is ∙ ap (λ (ws : List (List ℕ)). codes "HELD" ∷ decimal b₁.0.0 ∷ ws) l₂),
      ((let low = q₁.low in omega arith), (let low = q₂.low in omega arith), (let low = q₃.low in omega arith), (let low = q₄.low in omega arith), q₆.1),
    )

bare_is : (word tag : List ℕ) (x r : Reply) → pointwise nat_eq word tag ≡ true → ◌≡◌ {A = Result Reply ScriptWord} (Ok x) (Ok r) → tag ∷ [] ≡ reply_list x → IsReply x → Spells (word ∷ []) r
bare_is word tag x r t e is fine = let same : x ≡ r = cc in subst (Spells (word ∷ [])) same (ap (λ w. w ∷ []) (tag_is word tag t) ∙ is, fine)

bare_ok : (word : List ℕ) (r : Reply) → bare_of word ≡ Ok r → Spells (word ∷ []) r
bare_ok word r h =
    if_ok _ (pointwise nat_eq word (codes "ALREADYHELD")) _ _ r h (λ t e. bare_is word (codes "ALREADYHELD") reply.AlreadyHeld r t e refl tt)
    (λ _ h. if_ok _ (pointwise nat_eq word (codes "RETURNED")) _ _ r h (λ t e. bare_is word (codes "RETURNED") reply.Returned r t e refl tt)
    (λ _ h. if_ok _ (pointwise nat_eq word (codes "NOTHELD")) _ _ r h (λ t e. bare_is word (codes "NOTHELD") reply.NotHeld r t e refl tt)
    (λ _ h. if_ok _ (pointwise nat_eq word (codes "BEATEN")) _ _ r h (λ t e. bare_is word (codes "BEATEN") reply.Beaten r t e refl tt)
    (λ _ h. if_ok _ (pointwise nat_eq word (codes "HELD")) _ _ r h (λ t e. bare_is word (codes "HELD") reply.Held r t e refl tt)
    (λ _ h. if_ok _ (pointwise nat_eq word (codes "UNQUEUED")) _ _ r h (λ t e. bare_is word (codes "UNQUEUED") reply.Unqueued r t e refl tt)
    (λ _ e. absurd cc))))))

-- what is read of the words behind the first holds of all, where the first is the tag
tagged_reply : (word tag : List ℕ) (words : List (List ℕ)) (r : Reply) → pointwise nat_eq word tag ≡ true → Spells (tag ∷ words) r → Spells (word ∷ words) r
tagged_reply word tag words r t s = subst (λ w. Spells (w ∷ words) r) (sym (tag_is word tag t)) s

granted_ok : (words : List (List ℕ)) (r : Reply) → and_then (charge_of words) (λ charge. Ok (reply.Granted charge)) ≡ Ok r → Spells (codes "GRANTED" ∷ words) r
granted_ok words r h =
    let b = bind_ok (charge_of words) (λ charge. Ok (reply.Granted charge)) r h in
    let q = charge_ok words b.0 b.1 in
    let is : reply.Granted b.0 ≡ r = cc in
    subst (Spells (codes "GRANTED" ∷ words)) is (ap (λ (ws : List (List ℕ)). codes "GRANTED" ∷ ws) q.0, q.1)

retaken_ok : (words : List (List ℕ)) (r : Reply) → and_then (charge_of words) (λ charge. Ok (reply.Retaken charge)) ≡ Ok r → Spells (codes "RETAKEN" ∷ words) r
retaken_ok words r h =
    let b = bind_ok (charge_of words) (λ charge. Ok (reply.Retaken charge)) r h in
    let q = charge_ok words b.0 b.1 in
    let is : reply.Retaken b.0 ≡ r = cc in
    subst (Spells (codes "RETAKEN" ∷ words)) is (ap (λ (ws : List (List ℕ)). codes "RETAKEN" ∷ ws) q.0, q.1)

denied_ok : (words : List (List ℕ)) (r : Reply) → and_then (number_behind_word last_32 (codes "LINE") words) (λ line. alone (reply.Denied line.0) line.1) ≡ Ok r → Spells (codes "DENIED" ∷ words) r
denied_ok words r h =
    let a = tagged_alone last_32 (codes "LINE") reply.Denied words r h in
    subst (Spells (codes "DENIED" ∷ words)) a.1 (ap (λ (ws : List (List ℕ)). codes "DENIED" ∷ ws) a.2, let low = a.3 in omega arith)

lingering_ok : (words : List (List ℕ)) (r : Reply) → and_then (number_behind_word last_64 (codes "UNTIL") words) (λ until. alone (reply.Lingering until.0) until.1) ≡ Ok r → Spells (codes "LINGERING" ∷ words) r
lingering_ok words r h =
    let a = tagged_alone last_64 (codes "UNTIL") reply.Lingering words r h in
    subst (Spells (codes "LINGERING" ∷ words)) a.1 (ap (λ (ws : List (List ℕ)). codes "LINGERING" ∷ ws) a.2, let low = a.3 in omega arith)

queued_ok : (words : List (List ℕ)) (r : Reply) → and_then (exact last_32 words) (λ position. alone (reply.Queued position.0) position.1) ≡ Ok r → Spells (codes "QUEUED" ∷ words) r
queued_ok words r h =
    let a = exact_alone last_32 reply.Queued words r h in
    subst (Spells (codes "QUEUED" ∷ words)) a.1 (ap (λ (ws : List (List ℕ)). codes "QUEUED" ∷ ws) a.2, let low = a.3 in omega arith)

reread_ok : (words : List (List ℕ)) (r : Reply) → and_then (exact last_32 words) (λ set. alone (reply.Reread set.0) set.1) ≡ Ok r → Spells (codes "REREAD" ∷ words) r
reread_ok words r h =
    let a = exact_alone last_32 reply.Reread words r h in
    subst (Spells (codes "REREAD" ∷ words)) a.1 (ap (λ (ws : List (List ℕ)). codes "REREAD" ∷ ws) a.2, let low = a.3 in omega arith)

one_word_ok : (word : List ℕ) (words : List (List ℕ)) (r : Reply) → and_then (bare_of word) (λ reply. alone reply words) ≡ Ok r → Spells (word ∷ words) r
one_word_ok word words r h =
    let b = bind_ok (bare_of word) (λ reply. alone reply words) r h in
    let a = alone_ok b.0 r words b.2 in
    let q = bare_ok word b.0 b.1 in
    subst (Spells (word ∷ words)) a.0 (ap (λ (ws : List (List ℕ)). word ∷ ws) a.1 ∙ q.0, q.1)

by_ok : (word : List ℕ) (words : List (List ℕ)) (r : Reply) → reply_by word words ≡ Ok r → Spells (word ∷ words) r
by_ok word words r h =
    if_ok _ (pointwise nat_eq word (codes "GRANTED")) _ _ r h (λ t e. tagged_reply word (codes "GRANTED") words r t (granted_ok words r e))
    (λ _ h. if_ok _ (pointwise nat_eq word (codes "RETAKEN")) _ _ r h (λ t e. tagged_reply word (codes "RETAKEN") words r t (retaken_ok words r e))
    (λ _ h. if_ok _ (pointwise nat_eq word (codes "DENIED")) _ _ r h (λ t e. tagged_reply word (codes "DENIED") words r t (denied_ok words r e))
    (λ _ h. if_ok _ (pointwise nat_eq word (codes "NOSEAT")) _ _ r h (λ t e. tagged_reply word (codes "NOSEAT") words r t (no_seat_ok words r e))
    (λ _ h. if_ok _ (pointwise nat_eq word (codes "LINGERING")) _ _ r h (λ t e. tagged_reply word (codes "LINGERING") words r t (lingering_ok words r e))
    (λ _ h. if_ok _ (pointwise nat_eq word (codes "COUNTS")) _ _ r h (λ t e. tagged_reply word (codes "COUNTS") words r t (counts_ok words r e))
    (λ _ h. if_ok _ (pointwise nat_eq word (codes "QUEUED")) _ _ r h (λ t e. tagged_reply word (codes "QUEUED") words r t (queued_ok words r e))
    (λ _ h. if_ok _ (pointwise nat_eq word (codes "REREAD")) _ _ r h (λ t e. tagged_reply word (codes "REREAD") words r t (reread_ok words r e))
    (λ _ e. one_word_ok word words r e))))))))

spells : (words : List (List ℕ)) (r : Reply) → reply_of words ≡ Ok r → Spells words r
spells [] r h = absurd cc
spells (word ∷ words) r h = by_ok word words r h

pub read_back : RepliesReadBack
read_back = record {
  back = λ r h. ap reply_of (said r h) ∙ list_back r h;
  exact = λ words r h. let s = spells words r h in s.0 ∙ sym (said r s.1);
}
