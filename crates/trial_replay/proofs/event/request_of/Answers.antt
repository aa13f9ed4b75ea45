use Rattle.std.proofs.Common.{◌≡◌, ℕ, ◌+◌, ◌*◌, ◌/◌, ◌%◌, ◌^◌, ap, ◌∙◌, arith, get_or, length}
use Rattle.trial_replay.specs.Events.{client_of, kind_numbered, request_of}
use Rattle.trial_replay.specs.Requests.{request_numbered}
use Rattle.trial_replay.proofs.Requests.{request_of_parts, requests_at, requests_many}
use Rattle.trial_replay.proofs.event.request_of.Goals as goal

pub bounds-requests-number : goal.bounds-requests-number
bounds-requests-number c = omega (arith, ap length c.requires, requests_many 64)

pub returns : goal.returns
unfolding request_of
returns c =
    let m : ℕ = c.mixed-mixed.result in
    let number : ℕ = m / 2 ^ 28 * 4 + m / 2 ^ 24 % 4 in
    let read : c.index-requests-number.result ≡ request_numbered number
    = c.index-requests-number.is ∙ (ap (λ rs. get_or rs number c.index-requests-number.result) c.requires ∙ requests_at 64 number c.index-requests-number.result (omega arith)) in
    read ∙ request_of_parts (m / 2 ^ 28) (m / 2 ^ 24 % 4) (omega arith) ∙ ap (λ (x : ℕ). record { party = x / 2 ^ 28; client = client_of (x / 2 ^ 28); kind = kind_numbered (x / 2 ^ 24 % 4) }) c.mixed-mixed.ensures
