-- The log of one entry more.
use Rattle.std.proofs.Common.{◌≡◌, ◌<◌, ◌≤◌, Bool, true, false, ◌||◌, not, nat_lt, List, [], ◌∷◌, ◌++◌, length, take, MatchBool, sym, ap, ◌∙◌, arith}
use Rattle.std.proofs.lemmas.Bool.{le-ltb, lt-ltb, ltb-true}
use Rattle.std.proofs.lemmas.List.{length-append, length-take, take-append-le, take_all}
use Rattle.std.proofs.Math.Bool.{or-false, or-true}
use Rattle.options_machine.specs.declared.reply.Entry.{Entry}
use Rattle.audit_log.specs.declared.queue.TheConstants.{ENTRY_LIMIT}

-- what a push says and does
abbrev pub Pushes : Bool → List Entry → List Entry → Entry → Type 0
Pushes told old new e = MatchBool told ((length old < ENTRY_LIMIT) × (new ≡ old ++ e ∷ [])) ((length old ≡ ENTRY_LIMIT) × (new ≡ old))

-- where the log had the first entries of a list, it has those of the list with one entry more
abbrev pub Logged : List Entry → Bool → List Entry → Entry → Type 0
Logged old cut new e = (h : List Entry) → old ≡ take ENTRY_LIMIT h → cut ≡ nat_lt ENTRY_LIMIT (length h) → new ≡ take ENTRY_LIMIT (h ++ e ∷ [])

-- where it was known whether that list was longer than the log, it is known of the list with one entry more
abbrev pub Cuts : List Entry → Bool → Bool → Entry → Type 0
Cuts old cut now e = (h : List Entry) → old ≡ take ENTRY_LIMIT h → cut ≡ nat_lt ENTRY_LIMIT (length h) → now ≡ nat_lt ENTRY_LIMIT (length (h ++ e ∷ []))

short_of : (h old : List Entry) → old ≡ take ENTRY_LIMIT h → length old < ENTRY_LIMIT → length h < ENTRY_LIMIT
short_of h old is few = let n = ap length is in omega (arith, length-take ENTRY_LIMIT h)

full_of : (h old : List Entry) → old ≡ take ENTRY_LIMIT h → length old ≡ ENTRY_LIMIT → ENTRY_LIMIT ≤ length h
full_of h old is full = let n = ap length is in omega (arith, length-take ENTRY_LIMIT h)

take_short : (h : List Entry) (e : Entry) → length h < ENTRY_LIMIT → take ENTRY_LIMIT h ++ e ∷ [] ≡ take ENTRY_LIMIT (h ++ e ∷ [])
take_short h e few = ap (λ l. l ++ e ∷ []) (take_all ENTRY_LIMIT h (omega arith)) ∙ sym (take_all ENTRY_LIMIT (h ++ e ∷ []) (omega (arith, length-append h (e ∷ []))))

-- the first entries of the longer list are in the log
pub logged_more : (h old new : List Entry) (e : Entry) (told : Bool) → old ≡ take ENTRY_LIMIT h → Pushes told old new e → new ≡ take ENTRY_LIMIT (h ++ e ∷ [])
logged_more h old new e true is m = m.1 ∙ (ap (λ l. l ++ e ∷ []) is ∙ take_short h e (short_of h old is m.0))
logged_more h old new e false is m = m.1 ∙ (is ∙ sym (take-append-le ENTRY_LIMIT h (e ∷ []) (full_of h old is m.0)))

long_of : (h : List Entry) → true ≡ nat_lt ENTRY_LIMIT (length h) → ENTRY_LIMIT < length h
long_of h c = ltb-true ENTRY_LIMIT (length h) (sym c)

-- where the list was longer before, the log stays
pub logged_cut : (h old : List Entry) (e : Entry) → old ≡ take ENTRY_LIMIT h → true ≡ nat_lt ENTRY_LIMIT (length h) → old ≡ take ENTRY_LIMIT (h ++ e ∷ [])
logged_cut h old e is c = let n = long_of h c in is ∙ sym (take-append-le ENTRY_LIMIT h (e ∷ []) (omega arith))

-- and the list is longer still
pub still_cut : (h : List Entry) (e : Entry) → true ≡ nat_lt ENTRY_LIMIT (length h) → true ≡ nat_lt ENTRY_LIMIT (length (h ++ e ∷ []))
still_cut h e c = let n = long_of h c in sym (lt-ltb ENTRY_LIMIT (length (h ++ e ∷ [])) (omega (arith, length-append h (e ∷ []))))

-- whether the longer list is longer than the log
pub cut_more : (h old new : List Entry) (e : Entry) (cut told : Bool) → old ≡ take ENTRY_LIMIT h → cut ≡ nat_lt ENTRY_LIMIT (length h) → Pushes told old new e → (cut || not told) ≡ nat_lt ENTRY_LIMIT (length (h ++ e ∷ []))
cut_more h old new e cut true is c m =
    let n = short_of h old is m.0 in
    or-false cut ∙ (c ∙ (le-ltb ENTRY_LIMIT (length h) (omega arith) ∙ sym (le-ltb ENTRY_LIMIT (length (h ++ e ∷ [])) (omega (arith, length-append h (e ∷ []))))))
cut_more h old new e cut false is c m =
    let n = full_of h old is m.0 in
    or-true cut ∙ sym (lt-ltb ENTRY_LIMIT (length (h ++ e ∷ [])) (omega (arith, length-append h (e ∷ []))))
