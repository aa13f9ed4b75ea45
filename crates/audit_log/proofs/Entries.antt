-- The words of each entry are read as it.
use Rattle.std.proofs.Common.{◌≡◌, ◌==◌, ℕ, ◌+◌, ◌^◌, ◌<◌, ltb, true, false, not, cond, List, [], ◌∷◌, length, codes, decimal, None, Ok, Err, refl, sym, ap, ◌∙◌, arith}
use Rattle.std.proofs.lemmas.Bool.{and_parts, le-ltb, lt-ltb, ne_eqb}
use Rattle.std.specs.List.{list_all, position_from}
use Rattle.lic_text.specs.Lines.{words_of}
use Rattle.lic_text.specs.Number.{number_of}
use Rattle.lic_types.specs.Name.{IsName, is_name_byte, name_of}
use Rattle.lic_types.specs.declared.client.Client.{Client}
use Rattle.options_machine.specs.declared.reply.Entry.{Entry}
use Rattle.options_machine.specs.declared.reply.Kind.{Kind}
use Rattle.options_machine.specs.declared.reply.Kind.TheVariants as kind
use Rattle.options_machine.specs.declared.reply.Reply.{Reply}
use Rattle.options_machine.specs.declared.reply.Reply.TheVariants as reply
use Rattle.reply_words.specs.Words.{reply_text}
use Rattle.script_words.specs.Fields.{below, client_of, name_or_fault}
use Rattle.script_words.specs.declared.fault.ScriptWord.{ScriptWord}
use Rattle.audit_log.specs.Entries.{number_or_fault, entry_line, fields_of, kind_of, kind_text, kind_with, logged_of, place_of}
use Rattle.audit_log.specs.Laws.{IsClient, IsEntry}
use Rattle.audit_log.specs.Replies.{reply_of}
use Rattle.audit_log.specs.declared.reading.KindWord.{KindWord}
use Rattle.audit_log.specs.declared.reading.KindWord.TheVariants.{Named, Anew}
use Rattle.audit_log.proofs.Replies.{list_back, reply_list, said, then_ok}
use Rattle.script_words.proofs.Tokens.{IsToken, number_back, says_more, says_one, token_number}

-- Names.

none_bad : (i : ℕ) (word : List ℕ) → list_all is_name_byte word ≡ true → position_from (λ b. not (is_name_byte b)) i word ≡ None
none_bad i [] h = refl
none_bad i (b ∷ bs) h = let parts : (is_name_byte b ≡ true) × (list_all is_name_byte bs ≡ true) = and_parts _ _ h in rw parts.0 (none_bad (i + 1) bs parts.1)

name_back : (name : List ℕ) → IsName name → name_of name ≡ Ok name
name_back name n =
    let some : (length name == 0) ≡ false = ne_eqb (length name) 0 (λ e. let low = n.some in omega arith) in
    let short : ltb 64 (length name) ≡ false = le-ltb 64 (length name) n.short in
    rw (some, short, none_bad 0 name n.each) refl

some_byte : (name : List ℕ) → IsName name → IsToken name
some_byte [] n = absurd (let low = n.some in omega arith)
some_byte (b ∷ bs) n = record { some = refl; each = n.each }

named_back : (name : List ℕ) → IsName name → name_or_fault (name_of name) ≡ Ok name
named_back name n = ap name_or_fault (name_back name n)

-- One field after another.

below_back : (limit n : ℕ) → n < limit → n < 2 ^ 64 → below limit (number_of (decimal n)) ≡ Ok n
below_back limit n low small = ap (below limit) (number_back n small) ∙ ap (λ b. cond b (Ok n) (Err ScriptWord.BadNumber)) (lt-ltb n limit low)

place_back : (place : ℕ) → place < 2 ^ 64 → place_of (35 ∷ decimal place) ≡ Ok place
place_back place small = ap number_or_fault (number_back place small)

client_back : (c : Client) → IsClient c → client_of c.user c.host c.display c.project ≡ Ok c
client_back c n =
    then_ok (name_or_fault (name_of c.user)) _ c.user _ (named_back c.user n.user)
    (then_ok (name_or_fault (name_of c.host)) _ c.host _ (named_back c.host n.host)
    (then_ok (name_or_fault (name_of c.display)) _ c.display _ (named_back c.display n.display)
    (then_ok (name_or_fault (name_of c.project)) _ c.project _ (named_back c.project n.project) refl)))

-- what the word of a kind says
abbrev kind_said : Kind → KindWord
kind_said kind.Checkout = Named kind.Checkout
kind_said kind.Checkin = Named kind.Checkin
kind_said kind.Beat = Named kind.Beat
kind_said kind.Look = Named kind.Look
kind_said kind.Quit = Named kind.Quit
kind_said kind.Count = Named kind.Count
kind_said kind.Queue = Named kind.Queue
kind_said (kind.Reread set) = Anew

kind_back : (k : Kind) → kind_of (kind_text k) ≡ Ok (kind_said k)
kind_back kind.Checkout = refl
kind_back kind.Checkin = refl
kind_back kind.Beat = refl
kind_back kind.Look = refl
kind_back kind.Quit = refl
kind_back kind.Count = refl
kind_back kind.Queue = refl
kind_back (kind.Reread set) = refl

kind_whole : (k : Kind) (r : Reply) → ((set : ℕ) → k ≡ kind.Reread set → r ≡ reply.Reread set) → kind_with (kind_said k) r ≡ Ok k
kind_whole kind.Checkout r h = refl
kind_whole kind.Checkin r h = refl
kind_whole kind.Beat r h = refl
kind_whole kind.Look r h = refl
kind_whole kind.Quit r h = refl
kind_whole kind.Count r h = refl
kind_whole kind.Queue r h = refl
kind_whole (kind.Reread set) r h = ap (kind_with Anew) (h set refl)

kind_token : (k : Kind) → IsToken (kind_text k)
kind_token kind.Checkout = record { some = refl; each = refl }
kind_token kind.Checkin = record { some = refl; each = refl }
kind_token kind.Beat = record { some = refl; each = refl }
kind_token kind.Look = record { some = refl; each = refl }
kind_token kind.Quit = record { some = refl; each = refl }
kind_token kind.Count = record { some = refl; each = refl }
kind_token kind.Queue = record { some = refl; each = refl }
kind_token (kind.Reread set) = record { some = refl; each = refl }

-- The words of an entry.

abbrev pub entry_list : ℕ → ℕ → Entry → List (List ℕ)
entry_list pool place e =
    codes "ENTRY" ∷ decimal pool ∷ (35 ∷ decimal place) ∷ decimal e.moment ∷ decimal e.request.party
    ∷ e.request.client.user ∷ e.request.client.host ∷ e.request.client.display ∷ e.request.client.project
    ∷ kind_text e.request.kind ∷ reply_list e.reply

place_token : (place : ℕ) → place < 2 ^ 64 → IsToken (35 ∷ decimal place)
place_token place small = record { some = refl; each = (token_number place small).each }

pub entry_said : (pool place : ℕ) (e : Entry) → pool < 2 ^ 32 → place < 2 ^ 64 → IsEntry e → words_of (entry_line pool place e) ≡ entry_list pool place e
entry_said pool place e p a n =
    let c : Client = e.request.client in
    let s₀ = says_one (codes "ENTRY") (record { some = refl; each = refl }) in
    let s₁ = says_more _ (decimal pool) _ s₀ (token_number pool (omega arith)) in
    let s₂ = says_more _ (35 ∷ decimal place) _ s₁ (place_token place a) in
    let s₃ = says_more _ (decimal e.moment) _ s₂ (token_number e.moment (let low = n.moment in omega arith)) in
    let s₄ = says_more _ (decimal e.request.party) _ s₃ (token_number e.request.party (let low = n.party in omega arith)) in
    let s₅ = says_more _ c.user _ s₄ (some_byte c.user n.client.user) in
    let s₆ = says_more _ c.host _ s₅ (some_byte c.host n.client.host) in
    let s₇ = says_more _ c.display _ s₆ (some_byte c.display n.client.display) in
    let s₈ = says_more _ c.project _ s₇ (some_byte c.project n.client.project) in
    let s₉ = says_more _ (kind_text e.request.kind) _ s₈ (kind_token e.request.kind) in
    s₉.before (reply_text e.reply) ∙ ap (λ (ws : List (List ℕ)).
    codes "ENTRY" ∷ decimal pool ∷ (35 ∷ decimal place) ∷ decimal e.moment ∷ decimal e.request.party ∷ c.user ∷ c.host ∷ c.display ∷ c.project ∷ kind_text e.request.kind ∷ ws) (said e.reply n.answered)

-- an entry is read from its words
fields_back : (pool place : ℕ) (e : Entry) (head : List ℕ) (others : List (List ℕ)) → pool < 2 ^ 32 → place < 2 ^ 64 → IsEntry e → reply_list e.reply ≡ head ∷ others
    → fields_of (decimal pool ∷ (35 ∷ decimal place) ∷ decimal e.moment ∷ decimal e.request.party
    ∷ e.request.client.user ∷ e.request.client.host ∷ e.request.client.display ∷ e.request.client.project
    ∷ kind_text e.request.kind ∷ head ∷ others) ≡ Ok (record { pool = pool; place = place; entry = e })
fields_back pool place e head others p a n is =
    then_ok (below (2 ^ 32) (number_of (decimal pool))) _ pool _ (below_back (2 ^ 32) pool p (omega arith))
    (then_ok (place_of (35 ∷ decimal place)) _ place _ (place_back place a)
    (then_ok (below (2 ^ 40) (number_of (decimal e.moment))) _ e.moment _ (below_back (2 ^ 40) e.moment n.moment (let low = n.moment in omega arith))
    (then_ok (below 256 (number_of (decimal e.request.party))) _ e.request.party _ (below_back 256 e.request.party n.party (let low = n.party in omega arith))
    (then_ok (client_of e.request.client.user e.request.client.host e.request.client.display e.request.client.project) _ e.request.client _ (client_back e.request.client n.client)
    (then_ok (kind_of (kind_text e.request.kind)) _ (kind_said e.request.kind) _ (kind_back e.request.kind)
    (then_ok (reply_of (head ∷ others)) _ e.reply _ (ap reply_of (sym is) ∙ list_back e.reply n.answered)
    (then_ok (kind_with (kind_said e.request.kind) e.reply) _ e.request.kind _ (kind_whole e.request.kind e.reply n.rereads) refl)))))))

-- a reply has a first word
some_word : (r : Reply) → (head : List ℕ) × (others : List (List ℕ)) × (reply_list r ≡ head ∷ others)
some_word (reply.Granted charge) = (_, _, refl)
some_word (reply.Retaken charge) = (_, _, refl)
some_word (reply.Denied line) = (_, _, refl)
some_word (reply.NoSeat taken free) = (_, _, refl)
some_word reply.AlreadyHeld = (_, _, refl)
some_word reply.Returned = (_, _, refl)
some_word (reply.Lingering until) = (_, _, refl)
some_word reply.NotHeld = (_, _, refl)
some_word reply.Beaten = (_, _, refl)
some_word reply.Held = (_, _, refl)
some_word (reply.Counts held lingering taken free own queued) = (_, _, refl)
some_word (reply.Queued position) = (_, _, refl)
some_word reply.Unqueued = (_, _, refl)
some_word (reply.Reread set) = (_, _, refl)

-- the words of each entry are read as it, at its place of its pool
pub entries_back : (pool place : ℕ) (e : Entry) → pool < 2 ^ 32 → place < 2 ^ 64 → IsEntry e → logged_of (words_of (entry_line pool place e)) ≡ Ok (record { pool = pool; place = place; entry = e })
entries_back pool place e p a n =
    let w = some_word e.reply in
    ap logged_of (entry_said pool place e p a n)
    ∙ (ap (λ (ws : List (List ℕ)). fields_of (decimal pool ∷ (35 ∷ decimal place) ∷ decimal e.moment ∷ decimal e.request.party ∷ e.request.client.user ∷ e.request.client.host ∷ e.request.client.display ∷ e.request.client.project ∷ kind_text e.request.kind ∷ ws)) w.2
    ∙ fields_back pool place e w.0 w.1 p a n w.2)
