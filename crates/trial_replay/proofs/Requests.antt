-- The requests of a trial.
use Rattle.std.proofs.Common.{◌≡◌, ℕ, zero, suc, ◌+◌, ◌*◌, ◌/◌, ◌%◌, ◌<◌, ◌≤◌, Bool, true, false, ltb, [], ◌∷◌, ◌++◌, length, get_or, refl, ap, ◌∙◌, arith, add-one}
use Rattle.std.proofs.lemmas.Bool.{ltb-false, ltb-true}
use Rattle.std.proofs.lemmas.List.{length-append, get_or-append-add, get_or_append_left}
use Rattle.options_machine.specs.declared.reply.Request.{Request}
use Rattle.trial_replay.specs.Events.{client_of, kind_numbered}
use Rattle.trial_replay.specs.Requests.{request_numbered, requests_below}

-- there are as many
pub requests_many : (n : ℕ) → length (requests_below n) ≡ n
unfolding requests_below
requests_many zero = refl
requests_many (suc n) = length-append (requests_below n) (request_numbered n ∷ []) ∙ omega (arith, requests_many n)

pub requests_none : requests_below 0 ≡ []
unfolding requests_below
requests_none = refl

-- one more
pub requests_more : (n : ℕ) → requests_below (n + 1) ≡ requests_below n ++ request_numbered n ∷ []
unfolding requests_below
requests_more n = rw add-one refl

before_or_last : (n number : ℕ) (d : Request) (b : Bool) → ltb number n ≡ b → number < suc n → (number < n → get_or (requests_below n) number d ≡ request_numbered number)
    → get_or (requests_below n ++ request_numbered n ∷ []) number d ≡ request_numbered number
before_or_last n number d true is low before =
    let below : number < n = ltb-true number n is in
    get_or_append_left (requests_below n) (request_numbered n ∷ []) d number (omega (arith, requests_many n)) ∙ before below
before_or_last n number d false is low before =
    let high : n ≤ number = ltb-false number n is in
    let last : number ≡ length (requests_below n) + 0 = omega (arith, requests_many n) in
    let same : n ≡ number = omega arith in
    ap (λ at. get_or (requests_below n ++ request_numbered n ∷ []) at d) last ∙ (get_or-append-add (requests_below n) (request_numbered n ∷ []) 0 d ∙ ap request_numbered same)

-- each stands at its place
pub requests_at : (n number : ℕ) (d : Request) → number < n → get_or (requests_below n) number d ≡ request_numbered number
unfolding requests_below
requests_at zero number d low = absurd (omega arith)
requests_at (suc n) number d low = before_or_last n number d (ltb number n) refl low (requests_at n number d)

-- a request's number tells its party and its kind
pub request_of_parts : (party kind : ℕ) → kind < 4 → request_numbered (party * 4 + kind) ≡ record { party = party; client = client_of party; kind = kind_numbered kind }
request_of_parts party kind low =
    let first : (party * 4 + kind) / 4 ≡ party = omega (arith, low) in
    let second : (party * 4 + kind) % 4 ≡ kind = omega (arith, low) in
    rw (first, second) refl
