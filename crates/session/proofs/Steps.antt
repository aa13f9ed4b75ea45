-- Steps of a session.
use Rattle.std.proofs.Common.{◌≡◌, ◌<◌, ◌≤◌, ◌++◌, ◌∷◌, [], get_or, ap, sym, refl, List, ℕ, nat_lt, true, false, Option, Some, None, arith}
use Rattle.std.proofs.lemmas.Bool.Decides.{nat_tests}
use Rattle.std.specs.Option.{is_some}
use Rattle.lic_types.specs.declared.client.Client.{Client}
use Rattle.line_protocol.specs.Requests.{request_of}
use Rattle.counter.specs.Account.{Account}
use Rattle.office_view.specs.View.{View}
use Rattle.std.proofs.lemmas.List.{nil_from_length}
use Rattle.line_protocol.specs.declared.wire.Wire.{Wire}
use Rattle.line_protocol.specs.declared.wire.Wire.TheVariants as wire
use Rattle.line_protocol.specs.Streams.{Begins, IsOpen}
use Rattle.session.specs.Acts.{Act}
use Rattle.session.specs.Session.{Goes, Leads, answers, finishes}
use Rattle.session.specs.Did.{Agrees}
use Rattle.session.specs.Table.{Answers, AsksNoSet, Setup, input_of, party_at}
use Rattle.session.specs.Talks.{first_party}
use Rattle.session.specs.declared.end.SessionEnd.{SessionEnd}

pub goes_on : (o : Setup) (acts : List Act) (client : Option Client) (pending line rest : List ℕ) (new : List Act) (after : Option Client) (out : Option SessionEnd) → is_some out ≡ false → Goes o acts client pending → Begins pending line rest → Answers o acts client (request_of line) new after out → Goes o (acts ++ new) after rest
goes_on o acts client pending line rest new after None e g b a = answers line rest new after g b a
goes_on o acts client pending line rest new after (Some x) e g b a = absurd (cc)

pub ends_so : (o : Setup) (acts : List Act) (client : Option Client) (pending line rest more : List ℕ) (new : List Act) (after : Option Client) (out : Option SessionEnd) → is_some out ≡ true → Goes o acts client pending → Begins pending line rest → Answers o acts client (request_of line) new after out → Leads o (acts ++ new) after more out
ends_so o acts client pending line rest more new after None e g b a = absurd (cc)
ends_so o acts client pending line rest more new after (Some x) e g b a = finishes line rest new after x g b a

pub open_none : IsOpen []
open_none = record { flat = λ k d h. absurd (omega arith); short = omega arith }

pub no_set : (n s : ℕ) → s ≤ n → nat_lt n s ≡ false
no_set n s h = grind (arith, nat_tests)

pub a_set : (n s : ℕ) → n < s → nat_lt n s ≡ true
a_set n s h = grind (arith, nat_tests)

pub no_set_asked : (request : Wire) → AsksNoSet (input_of request)
no_set_asked (wire.Hello client) = tt
no_set_asked (wire.Checkout name version) = refl
no_set_asked (wire.Queue name version) = refl
no_set_asked (wire.Checkin name) = refl
no_set_asked (wire.Beat name) = refl
no_set_asked (wire.Look name) = refl
no_set_asked (wire.Status name) = refl
no_set_asked (wire.Glance name) = tt
no_set_asked (wire.Reread n) = tt
no_set_asked wire.Quit = tt
no_set_asked wire.Shutdown = tt

-- the first counter's party is the setup's first
pub first_is : {C D : Type 0} (account : C → Account) (v : View D) (o : Setup) (acts : List Act) (cs : List C) → Agrees account v o acts cs → first_party account cs ≡ party_at o 0
first_is account v o acts [] h = sym (ap (λ (ps : List ℕ). get_or ps 0 0) (nil_from_length o.parties h.long))
first_is account v o acts (c ∷ cs) h = (h.each 0 c (omega arith)).party
